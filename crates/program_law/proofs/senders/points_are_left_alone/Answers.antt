use Rattle.program_law.proofs.Sender.Alone.{points_are_left_alone}
use Rattle.program_law.proofs.senders.points_are_left_alone.Goals as goal

pub returns : goal.returns
returns c = points_are_left_alone
