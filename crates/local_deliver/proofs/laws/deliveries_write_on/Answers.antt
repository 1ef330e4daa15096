use Rattle.local_deliver.proofs.Whole.{linked, writes_on, writes_still}
use Rattle.local_deliver.proofs.laws.deliveries_write_on.Goals as goal

pub returns : goal.returns
returns c = record { begins = λ args d. tt; goes_on = writes_on; stays = writes_still; links = linked }
