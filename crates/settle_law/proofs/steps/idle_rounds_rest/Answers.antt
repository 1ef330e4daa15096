use Rattle.settle_law.proofs.IdleRounds.{idle_rounds_rest}
use Rattle.settle_law.proofs.steps.idle_rounds_rest.Goals as goal

pub returns : goal.returns
returns c = idle_rounds_rest
