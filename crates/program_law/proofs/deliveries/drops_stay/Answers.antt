use Rattle.program_law.proofs.Delivery.Stay.{drops_stay}
use Rattle.program_law.proofs.deliveries.drops_stay.Goals as goal

pub returns : goal.returns
returns c = drops_stay
