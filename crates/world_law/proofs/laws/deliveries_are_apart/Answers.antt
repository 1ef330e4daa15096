use Rattle.world_law.proofs.Apart.{deliveries_are_apart}
use Rattle.world_law.proofs.laws.deliveries_are_apart.Goals as goal

pub returns : goal.returns
returns c = deliveries_are_apart
