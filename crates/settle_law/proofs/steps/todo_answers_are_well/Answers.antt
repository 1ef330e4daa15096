use Rattle.settle_law.proofs.TodoAnswers.{todo_answers_are_well}
use Rattle.settle_law.proofs.steps.todo_answers_are_well.Goals as goal

pub returns : goal.returns
returns c = todo_answers_are_well
