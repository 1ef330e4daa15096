use Rattle.world_law.proofs.Locals.{locals_keep}
use Rattle.world_law.proofs.laws.locals_keep.Goals as goal

pub returns : goal.returns
returns c = locals_keep
