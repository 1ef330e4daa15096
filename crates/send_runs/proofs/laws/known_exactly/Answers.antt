use Rattle.send_runs.proofs.Knowing.{known_exactly}
use Rattle.send_runs.proofs.laws.known_exactly.Goals as goal

pub returns : goal.returns
returns c = known_exactly
