use Rattle.queue_law.proofs.Injectors.{injector_calls}
use Rattle.queue_law.proofs.laws.calls_keep.Goals as goal

pub returns : goal.returns
returns c = injector_calls
