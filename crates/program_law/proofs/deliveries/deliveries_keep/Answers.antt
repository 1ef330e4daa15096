use Rattle.program_law.proofs.Delivery.Events.{deliveries_keep}
use Rattle.program_law.proofs.deliveries.deliveries_keep.Goals as goal

pub returns : goal.returns
returns c = deliveries_keep
