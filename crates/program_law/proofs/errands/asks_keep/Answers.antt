use Rattle.program_law.proofs.Errand.Links.{asks_keep}
use Rattle.program_law.proofs.errands.asks_keep.Goals as goal

pub returns : goal.returns
returns c = asks_keep
