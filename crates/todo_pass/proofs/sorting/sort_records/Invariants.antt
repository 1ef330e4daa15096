use Rattle.std.proofs.Common.{take}
use Rattle.todo_pass.specs.Feeding.{Sorts}
use Rattle.todo_pass.proofs.sorting.sort_records.Given as goal

abbrev pub invariant-loop-at : goal.invariant-loop-at
invariant-loop-at l = Sorts l.controls l.head (take l.at l.rest) l.sorter
