use Rattle.settle_law.proofs.Passed.{passes_go_on}
use Rattle.settle_law.proofs.steps.passes_go_on.Goals as goal

pub returns : goal.returns
returns c = passes_go_on
