use Rattle.send_runs.proofs.Dues.{due_exactly}
use Rattle.send_runs.proofs.laws.due_exactly.Goals as goal

pub returns : goal.returns
returns c = due_exactly
