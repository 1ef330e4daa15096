use Rattle.world_law.proofs.Begins.{inv_begins}
use Rattle.world_law.proofs.laws.inv_begins.Goals as goal

pub returns : goal.returns
returns c = inv_begins
