use Rattle.settle_law.proofs.Cleaned.{cleaners_answer_well}
use Rattle.settle_law.proofs.steps.cleaners_answer_well.Goals as goal

pub returns : goal.returns
returns c = cleaners_answer_well
