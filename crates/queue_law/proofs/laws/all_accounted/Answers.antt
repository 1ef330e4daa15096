use Rattle.queue_law.proofs.Accounted.{all_accounted}
use Rattle.queue_law.proofs.laws.all_accounted.Goals as goal

pub returns : goal.returns
returns c = all_accounted
