use Rattle.settle_law.proofs.Lefts.{lefts_keep}
use Rattle.settle_law.proofs.steps.lefts_keep.Goals as goal

pub returns : goal.returns
returns c = lefts_keep
