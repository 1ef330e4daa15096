use Rattle.scenario.proofs.WorkedSteps.{turns_worked}
use Rattle.qmail_top.proofs.laws.turns_are_steps.Goals as goal

pub returns : goal.returns
returns c = λ d plan h old new turns playing replay none. turns_worked d plan h old new turns playing replay none
