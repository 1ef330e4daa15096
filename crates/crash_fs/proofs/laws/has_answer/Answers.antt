use Rattle.crash_fs.proofs.FiniteDisks.{finite_crash, finite_applied, finite_halted}
use Rattle.crash_fs.proofs.GivenAnswers.{has_answer}
use Rattle.crash_fs.proofs.LeastFree.{least_free, next_descriptor}
use Rattle.crash_fs.proofs.laws.has_answer.Goals as goal

pub returns-clause-finite : goal.returns-clause-finite
returns-clause-finite c = finite_crash

pub returns-clause-number : goal.returns-clause-number
returns-clause-number c = least_free

pub returns-clause-descriptor : goal.returns-clause-descriptor
returns-clause-descriptor c = next_descriptor

pub returns-clause-answer : goal.returns-clause-answer
returns-clause-answer c = has_answer

pub returns-clause-stays : goal.returns-clause-stays
returns-clause-stays c = finite_applied

pub returns-clause-stopped : goal.returns-clause-stopped
returns-clause-stopped c = finite_halted
