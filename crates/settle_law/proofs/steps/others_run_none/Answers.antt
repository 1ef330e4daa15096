use Rattle.settle_law.proofs.QuietSpawners.{others_run_none}
use Rattle.settle_law.proofs.steps.others_run_none.Goals as goal

pub returns : goal.returns
returns c = others_run_none
