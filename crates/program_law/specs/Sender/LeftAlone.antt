-- What others do, and time, leave a sender all that it relies on.
use Rattle.std.specs.Prelude.{◌≡◌, ◌≢◌, ℕ, ◌≤◌, List, Option, Some}
use Rattle.send_core.specs.declared.desk.Desk.{Desk}
use Rattle.send_parts.specs.declared.row.Row.{Row}
use Rattle.send_parts.specs.declared.row.Row.TheVariants as at
use Rattle.send_core.specs.Turn.{known_of}
use Rattle.send_parts.specs.declared.rows.FinishRow.TheVariants as finish
use Rattle.todo_pass.specs.declared.row.Row.{Row as PassRow}
use Rattle.todo_pass.specs.declared.row.Row.TheVariants as todo
use Rattle.todo_pass.specs.Table.{Pass}
use Rattle.queue_law.specs.Numbers.{Queue, about}
use Rattle.queue_law.specs.Rests.{Spares}
use Rattle.queue_law.specs.Steps.{Elsewhere}
use Rattle.program_law.specs.Sender.InTodo.{IsExpected}
use Rattle.program_law.specs.Sender.Stands.{SenderStands, SparesSorted}
use Rattle.program_law.specs.Sender.Points.{number_in}

-- A step that spares all closed numbers but the one in k leaves a todo pass what it rests on: until the cleaner has its command, all that
-- concerns its number; and then what is known of its message. A pass that is over rests on nothing.
abbrev pub LeavesPass : PassRow → Pass → Option ℕ → Queue → Queue → Type 0
LeavesPass todo.Answer p k q r = IsExpected (about q p.n) (known_of p) → IsExpected (about r p.n) (known_of p)
LeavesPass todo.Done p k q r = Unit {0}
LeavesPass (todo.Left why) p k q r = Unit {0}
LeavesPass todo.Lost p k q r = Unit {0}
LeavesPass row p k q r = (k ≢ Some p.n) × (about r p.n ≡ about q p.n)

-- and so the row of a sender: a message that it finishes or sweeps, and has yet to have removed, isn't the one in k
abbrev pub LeavesRow : Row → Pass → Option ℕ → Queue → Queue → Type 0
LeavesRow at.InTodo p k q r = LeavesPass p.row p k q r
LeavesRow (at.Finish finish.Give n) p k q r = k ≢ Some n
LeavesRow (at.Sweep row) p k q r = (n : ℕ) → number_in row ≡ Some n → k ≢ Some n
LeavesRow row p k q r = Unit {0}

pub record SendersAreLeftAlone : Type 0 where
  -- a step of another actor that leaves alone what is preprocessed, and the row
  pub others : (now : ℕ) (a o : List ℕ) (m k : Option ℕ) (q r : Queue) (d : Desk) → Elsewhere now o m q r → a ≢ o → SparesSorted q r → Spares now k q r
      → LeavesRow d.row d.pass k q r → SenderStands now q a d → SenderStands now r a d
  -- time
  pub later : (now m : ℕ) → now ≤ m → (q : Queue) (a : List ℕ) (d : Desk) → SenderStands now q a d → SenderStands m q a d
