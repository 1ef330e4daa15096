use Rattle.settle_law.proofs.IdleTurns.{idle}
use Rattle.settle_law.proofs.steps.idle_turns_rest.Goals as goal

pub returns : goal.returns
returns c = idle
