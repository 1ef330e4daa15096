use Rattle.settle_law.proofs.KnownGone.{known_are_gone}
use Rattle.settle_law.proofs.steps.known_are_gone.Goals as goal

pub returns : goal.returns
returns c = known_are_gone
