use Rattle.program_law.proofs.Errand.Links.{losses_keep}
use Rattle.program_law.proofs.errands.losses_keep.Goals as goal

pub returns : goal.returns
returns c = losses_keep
