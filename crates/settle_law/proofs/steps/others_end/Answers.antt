use Rattle.settle_law.proofs.QuietSpawners.{others_end}
use Rattle.settle_law.proofs.steps.others_end.Goals as goal

pub returns : goal.returns
returns c = others_end
