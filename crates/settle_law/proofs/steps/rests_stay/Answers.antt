use Rattle.settle_law.proofs.Staying.{rests_stay}
use Rattle.settle_law.proofs.steps.rests_stay.Goals as goal

pub returns : goal.returns
returns c = rests_stay
