use Rattle.send_runs.proofs.Deliveries.{deliveries_are_numbered}
use Rattle.send_runs.proofs.laws.deliveries_are_numbered.Goals as goal

pub returns : goal.returns
returns c = deliveries_are_numbered
