-- A todo pass of a sender isn't about to be left, as long as none of its steps fails.
use Rattle.std.proofs.Common.{ℕ, Bool, true, false, if◌then◌else◌, List, Option, Some, None, ◌∷◌, [], ◌≡◌, refl}
use Rattle.call_fs.specs.Program.{MayCome}
use Rattle.call_fs.specs.declared.past.GotData.{GotData}
use Rattle.call_fs.specs.declared.program.Ready.{Ready}
use Rattle.mail_bytes.specs.Decimal.{digits}
use Rattle.send_core.specs.Desk.{past_todo}
use Rattle.send_core.specs.Finish.{looked_up, sweep_begun}
use Rattle.send_core.specs.Start.{start_at, started}
use Rattle.send_core.specs.Table.{act, arrive, due_at, from_point}
use Rattle.send_core.specs.Turn.{begun_at, is_done, known_of, todo_found, todo_named, todo_none, todo_on, todo_over, todo_went}
use Rattle.send_core.specs.declared.desk.Desk.{Desk}
use Rattle.send_parts.specs.declared.row.Row.{Row}
use Rattle.send_parts.specs.declared.row.Row.TheVariants as at
use Rattle.send_known.specs.Messages.{learned}
use Rattle.send_parts.specs.declared.reply.Way.{Way}
use Rattle.send_parts.specs.declared.reply.Way.TheVariants as way
use Rattle.send_parts.specs.declared.rows.Search.{Search}
use Rattle.send_parts.specs.declared.rows.StartRow.{StartRow}
use Rattle.send_parts.specs.declared.rows.StartRow.TheVariants as start
use Rattle.send_parts.specs.Files.{message_number}
use Rattle.send_parts.specs.Readings.{read_on}
use Rattle.send_parts.specs.Replies.{said}
use Rattle.send_parts.specs.Rows.{is_again}
use Rattle.send_parts.specs.Sweep.{sweep_to}
use Rattle.send_runs.proofs.Calm.{point_fresh}
use Rattle.send_runs.proofs.Clearing.{IsNear, IsOutside, fresh_near, near_finish, near_past_todo, near_requested, near_swept, near_took, near_unlinked, outside_mark, outside_read}
use Rattle.todo_pass.specs.declared.row.Row.{Row as PassRow}
use Rattle.todo_pass.specs.declared.row.Row.TheVariants as todo
use Rattle.todo_pass.specs.Table.{Pass, answer_row, moved}

abbrev pub IsUnshut : PassRow → Type 0
IsUnshut (todo.Shut fd why) = ⊥
IsUnshut row = Unit {0}

abbrev pub GoesAt : Row → Pass → Type 0
GoesAt at.InTodo pass = IsUnshut pass.row
GoesAt row pass = Unit {0}

abbrev Here : Desk → Type 0
Here d = GoesAt d.row d.pass

near_goes : (row : Row) (pass : Pass) → IsNear row → GoesAt row pass
near_goes at.InTodo pass is = absurd is
near_goes row pass is = tt

outside_goes : (row : Row) (pass : Pass) → IsOutside row → GoesAt row pass
outside_goes at.InTodo pass is = absurd is
outside_goes row pass is = tt

here_if : (b : Bool) (x y : Desk) → Here x → Here y → Here (if b then x else y)
here_if true x y p q = p
here_if false x y p q = q

past_here : (now : ℕ) (d : Desk) → Here (past_todo now d)
past_here now d = let e : Desk = past_todo now d in near_goes e.row e.pass (near_past_todo now d)

-- the search

none_here : (again : Bool) (last : List ℕ) (now : ℕ) (d : Desk) → Here (todo_none again last now d)
none_here false (x ∷ xs) now d = tt
none_here false [] now d = past_here now d
none_here true last now d = past_here now d

found_here : (o : Option ℕ) (text : List ℕ) (s : Search) (d : Desk) → Here (todo_found o text s d)
found_here None text s d = tt
found_here (Some n) text s d = tt

named_here : (w : Way) (text : List ℕ) (s : Search) (now : ℕ) (d : Desk) → Here (todo_named w text s now d)
named_here way.Fine text s now d = found_here (message_number text) text s d
named_here way.Over text s now d = none_here (is_again s) d.last_left now d
named_here way.Absent text s now d = none_here (is_again s) d.last_left now d
named_here way.NoMemory text s now d = none_here (is_again s) d.last_left now d
named_here way.Broken text s now d = none_here (is_again s) d.last_left now d

-- the pass

on_here : (row : PassRow) (p : Pass) (now : ℕ) (d : Desk) → IsUnshut p.row → Here (todo_on row p now d)
on_here (todo.Left why) p now d h = past_here now (record d { pass = p; last_left = digits p.n })
on_here todo.Lost p now d h = tt
on_here row p now d h = h

over_here : (row : PassRow) (p : Pass) (now : ℕ) (d : Desk) → IsUnshut p.row → Here (todo_over row p now d)
over_here row p now d h =
    let learnt : Desk = record d { pass = p; book = record d.book { messages = learned (known_of p) now d.book.messages } } in
    here_if (is_done row) (past_todo now learnt) (todo_on row p now d) (past_here now learnt) (on_here row p now d h)

went_here : (row : PassRow) (got : GotData) (p : Pass) (now : ℕ) (d : Desk) → IsUnshut p.row → Here (todo_went row got p now d)
went_here todo.Answer got p now d h = over_here (answer_row got) p now d h
went_here row got p now d h = on_here p.row p now d h

-- each row

start_goes : (row : StartRow) (pass : Pass) → GoesAt (start_at row) pass
start_goes start.Over pass = tt
start_goes (start.Ended status) pass = tt
start_goes row pass = tt

-- where an event leads, if the pass isn't to be left by it
pub goes_here : (row : Row) (now : ℕ) (got : GotData) (d : Desk) → MayCome (due_at row d) got → (row ≡ at.InTodo → IsUnshut (moved d.book.controls d.pass now got).row) → Here (act row now got d)
goes_here (at.Start row) now got d may fine = start_goes (started row (said got) d).book.row d.pass
goes_here (at.Turn p) now got d may fine = absurd may
goes_here (at.TakeLink c) now got d may fine = let e : Desk = act (at.TakeLink c) now got d in near_goes e.row e.pass (near_took (said got).way (said got).bytes c d)
goes_here (at.Mark row m) now got d may fine = let e : Desk = act (at.Mark row m) now got d in outside_goes e.row e.pass (outside_mark row m got d)
goes_here (at.UnlinkFile c n p) now got d may fine = let e : Desk = act (at.UnlinkFile c n p) now got d in near_goes e.row e.pass (near_unlinked (said got).way c n p now d)
goes_here (at.ReadFile c n begun reading) now got d may fine =
    let e : Desk = act (at.ReadFile c n begun reading) now got d in
    outside_goes e.row e.pass (outside_read (read_on reading (said got)) c n (begun_at reading begun now) reading now (said got) d)
goes_here (at.Request c) now got d may fine = let e : Desk = act (at.Request c) now got d in near_goes e.row e.pass (near_requested (said got).way c d)
goes_here (at.FindTodo s) now got d may fine = named_here (said got).way (said got).bytes s now d
goes_here at.InTodo now got d may fine = went_here d.pass.row got (moved d.book.controls d.pass now got) now d (fine refl)
goes_here (at.Finish row n) now got d may fine = let e : Desk = act (at.Finish row n) now got d in near_goes e.row e.pass (near_finish row n now got d)
goes_here (at.Sweep row) now got d may fine =
    let e : Desk = act (at.Sweep row) now got d in
    near_goes e.row e.pass (near_swept (sweep_to row now (said got) d.book) (looked_up row (said got) (sweep_begun row now d)))
goes_here (at.Ended status) now got d may fine = absurd may

-- where the next event begins
pub arrives_here : (row : Row) (d : Desk) (now : ℕ) (ready : Ready) → GoesAt row d.pass → GoesAt (arrive row d now ready) d.pass
arrives_here (at.Turn p) d now ready h = near_goes (from_point p d now ready) d.pass (fresh_near (from_point p d now ready) (point_fresh d now ready p))
arrives_here row d now ready h = h
