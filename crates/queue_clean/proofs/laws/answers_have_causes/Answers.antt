use Rattle.queue_clean.proofs.Reasons.{answers, ends}
use Rattle.queue_clean.proofs.laws.answers_have_causes.Goals as goal

pub returns-clause-answers : goal.returns-clause-answers
returns-clause-answers c = answers

pub returns-clause-ends : goal.returns-clause-ends
returns-clause-ends c = ends
