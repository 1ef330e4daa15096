use Rattle.settle_law.proofs.Holding.{rests_hold}
use Rattle.settle_law.proofs.laws.rests_hold.Goals as goal

pub returns : goal.returns
returns c = rests_hold
