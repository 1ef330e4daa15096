use Rattle.queue_law.proofs.Foreigners.{foreigners_keep}
use Rattle.queue_law.proofs.laws.foreigners_keep.Goals as goal

pub returns : goal.returns
returns c = foreigners_keep
