use Rattle.settle_law.proofs.Settling.{settles_end}
use Rattle.settle_law.proofs.laws.settles_end.Goals as goal

pub returns : goal.returns
returns c = settles_end
