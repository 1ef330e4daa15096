use Rattle.world_law.proofs.Deliveries.{deliveries_keep}
use Rattle.world_law.proofs.laws.deliveries_keep.Goals as goal

pub returns : goal.returns
returns c = deliveries_keep
