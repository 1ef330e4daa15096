use Rattle.queue_law.proofs.Bouncing.{bounces_begin as law}
use Rattle.queue_law.proofs.laws.bounces_begin.Goals as goal

pub returns : goal.returns
returns c = law
