use Rattle.settle_law.proofs.Queued.{none}
use Rattle.settle_law.proofs.steps.none_is_queued.Goals as goal

pub returns : goal.returns
returns c = none
