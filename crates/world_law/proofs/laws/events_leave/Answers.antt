use Rattle.world_law.proofs.Leaves.{events_leave}
use Rattle.world_law.proofs.laws.events_leave.Goals as goal

pub returns : goal.returns
returns c = events_leave
