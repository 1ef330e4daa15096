use Rattle.world_law.proofs.Later.{moments_keep}
use Rattle.world_law.proofs.laws.moments_keep.Goals as goal

pub returns : goal.returns
returns c = moments_keep
