use Rattle.queue_law.proofs.Bouncing.{bounces_cover as law}
use Rattle.queue_law.proofs.laws.bounces_cover.Goals as goal

pub returns : goal.returns
returns c = law
