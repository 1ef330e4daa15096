use Rattle.std.proofs.Common.{false}
use Rattle.world_law.proofs.Reported.{taken_are_entered}
use Rattle.world_law.proofs.laws.taken_have_failed.Goals as goal

pub returns : goal.returns
returns c = taken_are_entered false
