-- The rows of a todo pass before the answer of the cleaner.
use Rattle.todo_pass.specs.declared.row.Row.{Row as PassRow}
use Rattle.todo_pass.specs.declared.row.Row.TheVariants as todo

abbrev pub IsBefore : PassRow → Type 0
IsBefore todo.Answer = ⊥
IsBefore row = Unit {0}
