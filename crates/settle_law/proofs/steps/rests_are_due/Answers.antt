use Rattle.settle_law.proofs.DuesAtRest.{rests_are_due}
use Rattle.settle_law.proofs.steps.rests_are_due.Goals as goal

pub returns : goal.returns
returns c = rests_are_due
