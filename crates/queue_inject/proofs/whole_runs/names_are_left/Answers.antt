use Rattle.queue_inject.proofs.Left.{leaves_just}
use Rattle.queue_inject.proofs.whole_runs.names_are_left.Goals as goal

pub returns : goal.returns
returns c = leaves_just
