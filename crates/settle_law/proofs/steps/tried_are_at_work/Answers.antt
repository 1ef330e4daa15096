use Rattle.settle_law.proofs.TriedWork.{tried_are_at_work}
use Rattle.settle_law.proofs.steps.tried_are_at_work.Goals as goal

pub returns : goal.returns
returns c = tried_are_at_work
