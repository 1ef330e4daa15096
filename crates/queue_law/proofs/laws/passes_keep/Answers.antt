use Rattle.queue_law.proofs.Passes.{passes_keep}
use Rattle.queue_law.proofs.laws.passes_keep.Goals as goal

pub returns : goal.returns
returns c = passes_keep
