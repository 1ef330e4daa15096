use Rattle.queue_law.proofs.Bouncing.{bounces_go as law}
use Rattle.queue_law.proofs.laws.bounces_go.Goals as goal

pub returns : goal.returns
returns c = law
