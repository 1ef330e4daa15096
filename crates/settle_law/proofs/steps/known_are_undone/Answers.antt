use Rattle.settle_law.proofs.KnownUndone.{known_are_undone}
use Rattle.settle_law.proofs.steps.known_are_undone.Goals as goal

pub returns : goal.returns
returns c = known_are_undone
