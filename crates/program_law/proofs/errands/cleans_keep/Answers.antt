use Rattle.program_law.proofs.Errand.Cleans.{cleans_keep}
use Rattle.program_law.proofs.errands.cleans_keep.Goals as goal

pub returns : goal.returns
returns c = cleans_keep
