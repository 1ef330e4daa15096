use Rattle.settle_law.proofs.BouncesTaken.{bounces_end}
use Rattle.settle_law.proofs.steps.bounces_end.Goals as goal

pub returns : goal.returns
returns c = bounces_end
