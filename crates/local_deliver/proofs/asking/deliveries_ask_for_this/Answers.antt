use Rattle.local_deliver.proofs.Asked.{asked}
use Rattle.local_deliver.proofs.asking.deliveries_ask_for_this.Goals as goal

pub returns : goal.returns
returns c = λ args past now ready run. asked args past now ready run
