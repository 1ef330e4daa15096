use Rattle.world_law.proofs.Halted.{halts_keep}
use Rattle.world_law.proofs.laws.halts_keep.Goals as goal

pub returns : goal.returns
returns c = halts_keep
