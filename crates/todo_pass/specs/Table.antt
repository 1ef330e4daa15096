-- What a todo pass does next, as a function of its own past (INTERNALS, "How messages are preprocessed").
use Rattle.std.specs.Prelude.{ℕ, ◌+◌, List, [], ◌∷◌, ◌++◌, length, take, drop, Bool, true, false, Option, Some, None, if◌then◌else◌, nat_lt, bytes_eq, Result, Ok, Err, codes}
use Rattle.address_rules.specs.declared.controls.Controls.{Controls}
use Rattle.call_fs.specs.declared.file_system.TheConstants.{PIECE}
use Rattle.call_fs.specs.declared.calls.Answer.{Answer}
use Rattle.call_fs.specs.declared.calls.Answer.TheVariants as answer
use Rattle.call_fs.specs.declared.calls.CallData.TheVariants as call
use Rattle.call_fs.specs.declared.calls.Fd.{Fd}
use Rattle.call_fs.specs.declared.calls.FsError.TheVariants as why
use Rattle.call_fs.specs.declared.calls.How.TheVariants as how
use Rattle.call_fs.specs.declared.past.GotData.{GotData}
use Rattle.call_fs.specs.declared.past.GotData.TheVariants as came
use Rattle.call_fs.specs.declared.past.NeedData.{NeedData}
use Rattle.call_fs.specs.declared.past.NeedData.TheVariants as needs
use Rattle.call_fs.specs.declared.past.Own.{Own}
use Rattle.call_fs.specs.declared.program.Port.TheVariants.{Clean}
use Rattle.call_fs.specs.declared.program.Ready.{Ready}
use Rattle.queue_paths.specs.Names.{todo_command}
use Rattle.todo_pass.specs.declared.arguments.Arguments.{Arguments}
use Rattle.todo_pass.specs.declared.part.Part.{Part}
use Rattle.todo_pass.specs.declared.part.Part.TheVariants as part
use Rattle.todo_pass.specs.declared.part.Target.{Target}
use Rattle.todo_pass.specs.declared.part.Target.TheVariants as target
use Rattle.todo_pass.specs.declared.row.End.{End}
use Rattle.todo_pass.specs.declared.row.End.TheVariants as end
use Rattle.todo_pass.specs.declared.row.Row.{Row}
use Rattle.todo_pass.specs.declared.row.Row.TheVariants as at
use Rattle.todo_pass.specs.declared.row.Why.{Why}
use Rattle.todo_pass.specs.declared.row.Why.TheVariants as left
use Rattle.todo_pass.specs.declared.sorted.Sorted.{Sorted}
use Rattle.todo_pass.specs.Parts.{part_of, path_in}
use Rattle.todo_pass.specs.Sorting.{sort_todo, none_sorted, text_of, has}

-- A pass: its number; where it stands; how many bytes the message file has; what was read of todo; what that says; and the
-- moment of the last append to info, which is the message's birth.
pub record Pass : Type 0 where
  pub n : ℕ
  pub row : Row
  pub size : ℕ
  pub todo : List ℕ
  pub sorted : Sorted
  pub birth : ℕ

-- where a pass stands is all that it keeps
abbrev pub Place : Type 0
Place = Pass

abbrev pub begun : ℕ → Place
begun n = record { n = n; row = at.Clear target.Info; size = 0; todo = []; sorted = none_sorted 0 0; birth = 0 }

-- the bytes of one read or one append
abbrev pub piece_size : ℕ
piece_size = PIECE

-- Where an answer leads. If no row names an answer, it leads where a failure does.

abbrev pub goes : Pass → Row → Pass
goes p row = record p { row = row }

-- a call at this file failed so
abbrev pub why_of : Answer → Part → Why
why_of (answer.Refused why.Memory) part = left.Memory
why_of told part = left.Fault part

abbrev pub cleared : Target → Row
cleared target.Info = at.Clear target.Local
cleared target.Local = at.Clear target.Remote
cleared target.Remote = at.StatMess

-- what an earlier pass left may be missing
abbrev pub clear_row : Target → Answer → Row
clear_row t answer.Done = cleared t
clear_row t (answer.Refused why.NotThere) = cleared t
clear_row t told = at.Left (why_of told (part_of t))

abbrev pub stated : Pass → Answer → Pass
stated p (answer.Stat stat) = record p { row = at.OpenTodo; size = stat.length }
stated p (answer.Refused why.NotThere) = goes p (at.Left left.NoMess)
stated p told = goes p (at.Left (why_of told part.Mess))

abbrev pub open_row : Answer → Row
open_row (answer.Opened fd) = at.ReadTodo fd
open_row told = at.Left (why_of told part.Todo)

-- a piece that isn't full is the last one
abbrev pub read_row : Fd → List ℕ → Row
read_row fd bytes = if nat_lt (length bytes) piece_size then at.CloseTodo fd else at.ReadTodo fd

abbrev pub read : Pass → Fd → Answer → List ℕ → Pass
read p fd (answer.Count count) bytes = record p { row = read_row fd bytes; todo = p.todo ++ bytes }
read p fd told bytes = goes p (at.Shut fd (why_of told part.Todo))

-- todo was read to its end and closed
abbrev pub sorted_with : Pass → Result Sorted ℕ → Pass
sorted_with p (Ok s) = record p { row = at.Create target.Info; sorted = s }
sorted_with p (Err place) = goes p (at.Left (left.BadRecord place))

abbrev pub create_row : Target → Answer → Row
create_row t (answer.Created fd number) = at.Append t fd 0
create_row t told = at.Left (why_of told (part_of t))

-- after so many bytes of a text
abbrev pub next_piece : Target → Fd → ℕ → List ℕ → Row
next_piece t fd done text = if nat_lt done (length text) then at.Append t fd done else at.Sync t fd

-- info's birth is that of the message
abbrev pub born : Target → ℕ → Pass → ℕ
born target.Info now p = now
born target.Local now p = p.birth
born target.Remote now p = p.birth

abbrev pub appended : Pass → Target → Fd → ℕ → ℕ → Answer → Pass
appended p t fd done now answer.Done =
    record p { row = next_piece t fd (done + piece_size) (text_of p.sorted t); birth = born t now p }
appended p t fd done now told = goes p (at.Shut fd (why_of told (part_of t)))

abbrev pub sync_row : Target → Fd → Answer → Row
sync_row t fd answer.Done = at.Close t fd
sync_row t fd told = at.Shut fd (why_of told (part_of t))

-- after a file: the next channel that has recipients, then the command to the cleaner
abbrev pub remote_row : Bool → Row
remote_row true = at.Create target.Remote
remote_row false = at.Give

abbrev pub local_row : Bool → Bool → Row
local_row true remote = at.Create target.Local
local_row false remote = remote_row remote

abbrev pub made_row : Target → Sorted → Row
made_row target.Info s = local_row (has s.local) (has s.remote)
made_row target.Local s = remote_row (has s.remote)
made_row target.Remote s = at.Give

-- after the answer to the call of this row, at this moment; a close doesn't fail
abbrev pub answered : Controls → Row → Pass → ℕ → Answer → List ℕ → Pass
answered controls (at.Clear t) p now told bytes = goes p (clear_row t told)
answered controls at.StatMess p now told bytes = stated p told
answered controls at.OpenTodo p now told bytes = goes p (open_row told)
answered controls (at.ReadTodo fd) p now told bytes = read p fd told bytes
answered controls (at.CloseTodo fd) p now told bytes = sorted_with p (sort_todo controls p.todo)
answered controls (at.Create t) p now told bytes = goes p (create_row t told)
answered controls (at.Append t fd done) p now told bytes = appended p t fd done now told
answered controls (at.Sync t fd) p now told bytes = goes p (sync_row t fd told)
answered controls (at.Close t fd) p now told bytes = goes p (made_row t p.sorted)
answered controls (at.Shut fd why) p now told bytes = goes p (at.Left why)
answered controls at.Give p now told bytes = p
answered controls at.Answer p now told bytes = p
answered controls at.Done p now told bytes = p
answered controls (at.Left why) p now told bytes = p
answered controls at.Lost p now told bytes = p

-- the command was given, or the link failed
abbrev pub give_row : GotData → Row
give_row came.Gave = at.Answer
give_row other = at.Lost

-- the cleaner answered: `+` and nothing else is good
abbrev pub answer_row : GotData → Row
answer_row (came.Took bytes) = if bytes_eq bytes (43 ∷ []) then at.Done else at.Left left.Unclean
answer_row other = at.Lost

-- after what came of a row, at this moment
abbrev pub moved_at : Controls → Row → Pass → ℕ → GotData → Pass
moved_at controls at.Give p now got = goes p (give_row got)
moved_at controls at.Answer p now got = goes p (answer_row got)
moved_at controls row p now (came.Answered told) = answered controls row p now told.answer told.bytes
moved_at controls row p now got = p

abbrev pub moved : Controls → Place → ℕ → GotData → Place
moved controls p now got = moved_at controls p.row p now got

-- What is due

-- the command to the cleaner: `todo/N`, NUL
abbrev pub command_text : ℕ → List ℕ
command_text n = todo_command n ++ 0 ∷ []

-- the next piece of a text
abbrev pub piece : List ℕ → ℕ → List ℕ
piece text done = take piece_size (drop done text)

abbrev pub due_at : Row → Pass → NeedData
due_at (at.Clear t) p = needs.File (call.Unlink (path_in (part_of t) p.n))
due_at at.StatMess p = needs.File (call.Stat (path_in part.Mess p.n))
due_at at.OpenTodo p = needs.File (call.Open (path_in part.Todo p.n) how.Read)
due_at (at.ReadTodo fd) p = needs.File (call.ReadAt fd (length p.todo) piece_size)
due_at (at.CloseTodo fd) p = needs.File (call.Close fd)
due_at (at.Create t) p = needs.File (call.CreateExcl (path_in (part_of t) p.n))
due_at (at.Append t fd done) p = needs.File (call.Append fd (piece (text_of p.sorted t) done))
due_at (at.Sync t fd) p = needs.File (call.Sync fd)
due_at (at.Close t fd) p = needs.File (call.Close fd)
due_at (at.Shut fd why) p = needs.File (call.Close fd)
due_at at.Give p = needs.Give Clean (command_text p.n)
due_at at.Answer p = needs.Take Clean
due_at at.Done p = needs.Ended 0
due_at (at.Left why) p = needs.Ended 0
due_at at.Lost p = needs.Ended 0

abbrev pub due_by : Place → NeedData
due_by p = due_at p.row p

-- The past

-- where the pass of this number stands after a past, newest event first
abbrev pub place_after : Controls → ℕ → List Own → Place
place_after controls n [] = begun n
place_after controls n (event ∷ before) = moved controls (place_after controls n before) event.read event.came

-- what a pass does next: neither the moment nor what is ready makes a difference
abbrev pub Next : Arguments → List Own → ℕ → Ready → NeedData
Next args past now ready = due_by (place_after args.controls args.n past)

-- how it ended
abbrev pub end_at : Row → Pass → Option End
end_at at.Done p = Some (end.Done p.n (has p.sorted.local) (has p.sorted.remote))
end_at (at.Left why) p = Some (end.Left p.n why)
end_at at.Lost p = Some (end.Left p.n left.Unclean)
end_at _ p = None

abbrev pub end_of : Pass → Option End
end_of p = end_at p.row p
