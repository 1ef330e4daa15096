use Rattle.world_law.proofs.Injects.{injectors_keep}
use Rattle.world_law.proofs.laws.injectors_keep.Goals as goal

pub returns : goal.returns
returns c = injectors_keep
