use Rattle.settle_law.proofs.TriedStay.{tried_stay}
use Rattle.settle_law.proofs.steps.tried_stay.Goals as goal

pub returns : goal.returns
returns c = tried_stay
