use Rattle.world_law.proofs.Standing.{injections_are_in_time}
use Rattle.world_law.proofs.laws.injections_are_in_time.Goals as goal

pub returns : goal.returns
returns c = injections_are_in_time
