use Rattle.send_runs.proofs.Rising.{known_numbers_rise}
use Rattle.send_runs.proofs.laws.known_numbers_rise.Goals as goal

pub returns : goal.returns
returns c = known_numbers_rise
