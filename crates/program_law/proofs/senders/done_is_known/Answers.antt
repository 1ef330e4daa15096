use Rattle.program_law.proofs.Sender.Known.{done_is_known}
use Rattle.program_law.proofs.senders.done_is_known.Goals as goal

pub returns : goal.returns
returns c = done_is_known
