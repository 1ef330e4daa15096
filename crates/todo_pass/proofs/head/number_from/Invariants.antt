use Rattle.std.proofs.Common.{◌≡◌, None, drop}
use Rattle.todo_pass.specs.Todo.{number_from}
use Rattle.todo_pass.proofs.head.number_from.Given as goal

abbrev pub invariant-loop-at : goal.invariant-loop-at
invariant-loop-at l = number_from l.number l.at (drop l.at l.bytes) ≡ number_from None l.from (drop l.from l.bytes)
