use Rattle.settle_law.proofs.Settling.{successes_end}
use Rattle.settle_law.proofs.laws.successes_end.Goals as goal

pub returns : goal.returns
returns c = successes_end
