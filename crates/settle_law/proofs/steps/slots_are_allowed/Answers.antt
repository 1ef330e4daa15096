use Rattle.settle_law.proofs.Allowed.{slots_are_allowed}
use Rattle.settle_law.proofs.steps.slots_are_allowed.Goals as goal

pub returns : goal.returns
returns c = slots_are_allowed
