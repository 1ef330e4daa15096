use Rattle.settle_law.proofs.KnownDue.{known_are_due}
use Rattle.settle_law.proofs.steps.known_are_due.Goals as goal

pub returns : goal.returns
returns c = known_are_due
