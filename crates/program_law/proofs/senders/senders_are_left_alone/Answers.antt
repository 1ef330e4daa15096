use Rattle.program_law.proofs.Sender.LeftAlone.{senders_are_left_alone}
use Rattle.program_law.proofs.senders.senders_are_left_alone.Goals as goal

pub returns : goal.returns
returns c = senders_are_left_alone
