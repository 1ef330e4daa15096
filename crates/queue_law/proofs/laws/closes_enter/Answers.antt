use Rattle.queue_law.proofs.Bouncing.{closes_enter as law}
use Rattle.queue_law.proofs.laws.closes_enter.Goals as goal

pub returns : goal.returns
returns c = law
