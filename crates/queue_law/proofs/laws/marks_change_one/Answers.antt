use Rattle.queue_law.proofs.Changes.{marks_change_one}
use Rattle.queue_law.proofs.laws.marks_change_one.Goals as goal

pub returns : goal.returns
returns c = marks_change_one
