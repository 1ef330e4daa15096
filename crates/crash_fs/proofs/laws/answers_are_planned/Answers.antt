use Rattle.crash_fs.proofs.PlannedAnswers.{by_plan}
use Rattle.crash_fs.proofs.laws.answers_are_planned.Goals as goal

pub returns : goal.returns
returns c = by_plan
