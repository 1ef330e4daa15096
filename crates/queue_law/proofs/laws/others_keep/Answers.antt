use Rattle.queue_law.proofs.Frame.{injector_frame}
use Rattle.queue_law.proofs.laws.others_keep.Goals as goal

pub returns : goal.returns
returns c = injector_frame
