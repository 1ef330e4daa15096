use Rattle.std.proofs.Common.{true}
use Rattle.world_law.proofs.Reported.{taken_are_entered}
use Rattle.world_law.proofs.laws.taken_are_delivered.Goals as goal

pub returns : goal.returns
returns c = taken_are_entered true
