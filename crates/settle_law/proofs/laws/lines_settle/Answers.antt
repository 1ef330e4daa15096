use Rattle.settle_law.proofs.Settling.{lines_settle}
use Rattle.settle_law.proofs.laws.lines_settle.Goals as goal

pub returns : goal.returns
returns c = lines_settle
