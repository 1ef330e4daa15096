use Rattle.settle_law.proofs.Alone.{passes_begin_alone}
use Rattle.settle_law.proofs.steps.passes_begin_alone.Goals as goal

pub returns : goal.returns
returns c = passes_begin_alone
