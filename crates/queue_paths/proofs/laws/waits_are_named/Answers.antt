use Rattle.queue_paths.proofs.Parts.{waits}
use Rattle.queue_paths.proofs.laws.waits_are_named.Goals as goal

pub returns : goal.returns
returns c = waits
