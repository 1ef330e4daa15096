use Rattle.program_law.proofs.Delivery.Alone.{deliveries_are_left_alone}
use Rattle.program_law.proofs.deliveries.deliveries_are_left_alone.Goals as goal

pub returns : goal.returns
returns c = deliveries_are_left_alone
