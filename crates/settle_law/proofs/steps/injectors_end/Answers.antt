use Rattle.settle_law.proofs.InjectorsEnd.{injectors_end}
use Rattle.settle_law.proofs.steps.injectors_end.Goals as goal

pub returns : goal.returns
returns c = injectors_end
