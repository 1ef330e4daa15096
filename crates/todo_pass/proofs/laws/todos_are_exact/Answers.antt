use Rattle.todo_pass.proofs.Todos.{what_is_read, what_is_bad, read_if}
use Rattle.todo_pass.proofs.laws.todos_are_exact.Goals as goal

pub returns : goal.returns
returns c = record { read = λ bytes it. (what_is_read bytes it, read_if bytes it); bad = what_is_bad }
