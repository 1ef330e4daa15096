use Rattle.world_law.proofs.Standing.{records_are_routed}
use Rattle.world_law.proofs.laws.records_are_routed.Goals as goal

pub returns : goal.returns
returns c = records_are_routed
