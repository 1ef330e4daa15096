use Rattle.queue_law.proofs.Changes.{unlinks_one}
use Rattle.queue_law.proofs.laws.unlinks_change_one.Goals as goal

pub returns : goal.returns
returns c = unlinks_one
