use Rattle.queue_clean.proofs.Demands.{asks}
use Rattle.queue_clean.proofs.laws.asks_for_little.Goals as goal

pub returns : goal.returns
returns c = asks
