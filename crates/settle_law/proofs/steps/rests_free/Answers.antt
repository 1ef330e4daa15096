use Rattle.settle_law.proofs.FreeRests.{rests_free}
use Rattle.settle_law.proofs.steps.rests_free.Goals as goal

pub returns : goal.returns
returns c = rests_free
