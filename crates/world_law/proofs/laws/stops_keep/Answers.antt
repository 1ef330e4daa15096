use Rattle.world_law.proofs.Gone.{ends_keep, stops_keep}
use Rattle.world_law.proofs.laws.stops_keep.Goals as goal

pub returns-clause-stops : goal.returns-clause-stops
returns-clause-stops c = stops_keep

pub returns-clause-ends : goal.returns-clause-ends
returns-clause-ends c = ends_keep
