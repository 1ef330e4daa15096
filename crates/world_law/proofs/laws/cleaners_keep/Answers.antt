use Rattle.world_law.proofs.Cleaning.{cleaners_keep}
use Rattle.world_law.proofs.laws.cleaners_keep.Goals as goal

pub returns : goal.returns
returns c = cleaners_keep
