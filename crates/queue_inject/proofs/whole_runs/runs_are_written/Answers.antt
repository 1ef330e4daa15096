use Rattle.queue_inject.proofs.Ends.{are_written}
use Rattle.queue_inject.proofs.whole_runs.runs_are_written.Goals as goal

pub returns : goal.returns
returns c = are_written
