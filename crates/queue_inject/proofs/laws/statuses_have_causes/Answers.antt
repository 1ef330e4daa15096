use Rattle.queue_inject.proofs.Causes.{caused}
use Rattle.queue_inject.proofs.laws.statuses_have_causes.Goals as goal

pub returns : goal.returns
returns c = caused
