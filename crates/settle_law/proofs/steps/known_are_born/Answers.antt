use Rattle.settle_law.proofs.KnownBorn.{known_are_born}
use Rattle.settle_law.proofs.steps.known_are_born.Goals as goal

pub returns : goal.returns
returns c = known_are_born
