use Rattle.queue_law.proofs.Sends.{marks_keep}
use Rattle.queue_law.proofs.laws.marks_keep.Goals as goal

pub returns : goal.returns
returns c = marks_keep
