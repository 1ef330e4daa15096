use Rattle.queue_law.proofs.Bouncing.{bounces_grow as law}
use Rattle.queue_law.proofs.laws.bounces_grow.Goals as goal

pub returns : goal.returns
returns c = law
