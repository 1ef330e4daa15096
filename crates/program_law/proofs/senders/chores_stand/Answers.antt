use Rattle.program_law.proofs.Sender.Points.{chores_stand}
use Rattle.program_law.proofs.senders.chores_stand.Goals as goal

pub returns : goal.returns
returns c = chores_stand
