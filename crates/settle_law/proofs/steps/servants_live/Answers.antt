use Rattle.settle_law.proofs.Living.{servants_live}
use Rattle.settle_law.proofs.steps.servants_live.Goals as goal

pub returns : goal.returns
returns c = servants_live
