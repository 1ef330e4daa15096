use Rattle.local_deliver.proofs.Forwards.{single}
use Rattle.local_deliver.proofs.laws.forwards_are_single.Goals as goal

pub returns : goal.returns
returns c = λ args past now ready child run due. single args past now ready child run due
