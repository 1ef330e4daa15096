use Rattle.world_law.proofs.Standing.{hands_always_stand}
use Rattle.world_law.proofs.laws.hands_always_stand.Goals as goal

pub returns : goal.returns
returns c = hands_always_stand
