use Rattle.send_runs.proofs.Known.{known_are_of_past}
use Rattle.send_runs.proofs.laws.known_are_of_past.Goals as goal

pub returns : goal.returns
returns c = known_are_of_past
