use Rattle.local_deliver.proofs.Causing.{causes}
use Rattle.local_deliver.proofs.laws.statuses_have_causes.Goals as goal

pub returns : goal.returns
returns c = λ args past now ready status run due. causes args past now ready status run due
