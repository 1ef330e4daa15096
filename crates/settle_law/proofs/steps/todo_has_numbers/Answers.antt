use Rattle.settle_law.proofs.Strays.{todo_has_numbers}
use Rattle.settle_law.proofs.steps.todo_has_numbers.Goals as goal

pub returns : goal.returns
returns c = todo_has_numbers
