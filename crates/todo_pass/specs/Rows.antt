-- What the code of the table reads of rows.
use Rattle.std.specs.Prelude.{ℕ, ◌+◌, ◌<◌, ◌^◌, List, [], Bool, true, false}
use Rattle.todo_pass.specs.declared.part.Part.TheVariants as part
use Rattle.todo_pass.specs.declared.row.Row.{Row}
use Rattle.todo_pass.specs.declared.row.Row.TheVariants as at
use Rattle.todo_pass.specs.Parts.{part_of, path_in}
use Rattle.todo_pass.specs.Table.{command_text, piece_size}

-- the text that its call lends: a name, or the command to the cleaner
abbrev pub lent_at : Row → ℕ → List ℕ
lent_at (at.Clear t) n = path_in (part_of t) n
lent_at at.StatMess n = path_in part.Mess n
lent_at at.OpenTodo n = path_in part.Todo n
lent_at (at.ReadTodo fd) n = []
lent_at (at.CloseTodo fd) n = []
lent_at (at.Create t) n = path_in (part_of t) n
lent_at (at.Append t fd done) n = []
lent_at (at.Sync t fd) n = []
lent_at (at.Close t fd) n = []
lent_at (at.Shut fd why) n = []
lent_at at.Give n = command_text n
lent_at at.Answer n = []
lent_at at.Done n = []
lent_at (at.Left why) n = []
lent_at at.Lost n = []

-- a piece more than was written can be counted
abbrev pub CountsOn : Row → Type 0
CountsOn (at.Append t fd done) = done + piece_size < 2 ^ 64
CountsOn row = Unit {0}

-- the pass is done
abbrev pub is_done : Row → Bool
is_done at.Done = true
is_done row = false

-- what comes of it may take memory: the bytes of todo are kept, and what they say
abbrev pub takes_memory : Row → Bool
takes_memory (at.ReadTodo fd) = true
takes_memory (at.CloseTodo fd) = true
takes_memory row = false
