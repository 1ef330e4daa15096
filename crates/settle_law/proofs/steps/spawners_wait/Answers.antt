use Rattle.settle_law.proofs.Waiting.{waits}
use Rattle.settle_law.proofs.steps.spawners_wait.Goals as goal

pub returns : goal.returns
returns c = waits
