use Rattle.call_fs.proofs.Stops.{halts_once}
use Rattle.call_fs.proofs.laws.stops_are_exact.Goals as goal

pub returns : goal.returns
returns c = halts_once
