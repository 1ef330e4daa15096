use Rattle.world_law.proofs.Routed.{ledgers_are_routed}
use Rattle.world_law.proofs.laws.ledgers_are_routed.Goals as goal

pub returns : goal.returns
returns c = ledgers_are_routed
