use Rattle.queue_law.proofs.Bouncing.{bounces_drop as law}
use Rattle.queue_law.proofs.laws.bounces_drop.Goals as goal

pub returns : goal.returns
returns c = law
