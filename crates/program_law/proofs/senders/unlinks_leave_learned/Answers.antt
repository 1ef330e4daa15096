use Rattle.program_law.proofs.Sender.Known.{unlinks_leave_learned}
use Rattle.program_law.proofs.senders.unlinks_leave_learned.Goals as goal

pub returns : goal.returns
returns c = unlinks_leave_learned
