use Rattle.settle_law.proofs.NoneQueued.{unqueued}
use Rattle.settle_law.proofs.steps.rests_unqueued.Goals as goal

pub returns : goal.returns
returns c = unqueued
