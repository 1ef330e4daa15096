use Rattle.settle_law.proofs.Unfailing.{known_finish_at_once}
use Rattle.settle_law.proofs.steps.known_finish_at_once.Goals as goal

pub returns : goal.returns
returns c = known_finish_at_once
