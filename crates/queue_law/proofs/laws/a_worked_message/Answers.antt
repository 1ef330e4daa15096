use Rattle.queue_law.proofs.Worked.{worked}
use Rattle.queue_law.proofs.laws.a_worked_message.Goals as goal

pub returns : goal.returns
returns c = worked
