use Rattle.settle_law.proofs.Stopping.{settle_stops}
use Rattle.settle_law.proofs.steps.settle_stops.Goals as goal

pub returns : goal.returns
returns c = settle_stops
