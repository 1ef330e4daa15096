-- A sender starts no program but the injector of a bounce, and runs no command.
use Rattle.std.proofs.Common.{◌≡◌, ℕ, List, length, refl, subst}
use Rattle.call_fs.specs.declared.past.ChildData.{ChildData}
use Rattle.call_fs.specs.declared.past.ChildData.TheVariants as child
use Rattle.call_fs.specs.declared.past.NeedData.{NeedData}
use Rattle.call_fs.specs.declared.past.NeedData.TheVariants as needs
use Rattle.send_core.specs.declared.desk.Desk.{Desk}
use Rattle.send_parts.specs.declared.row.MarkRow.TheVariants as mark
use Rattle.send_parts.specs.declared.row.Row.{Row}
use Rattle.send_parts.specs.declared.row.Row.TheVariants as at
use Rattle.send_core.specs.Table.{due_at, step_of, words_of}
use Rattle.send_parts.specs.declared.rows.FinishRow.TheVariants as finish
use Rattle.send_parts.specs.declared.step.Step.{Step}
use Rattle.send_parts.specs.declared.step.Step.TheVariants as step
use Rattle.send_parts.specs.Steps.{due_by}
use Rattle.todo_pass.specs.declared.row.Row.{Row as PassRow}
use Rattle.todo_pass.specs.declared.row.Row.TheVariants as todo
use Rattle.todo_pass.specs.Table.{Pass, due_at as due_in}
use Rattle.program_law.specs.Sender.Waits.{StartsAt}
use Rattle.program_law.proofs.Sender.NoteDue.{note_runs, note_starts, return_runs, return_starts}

abbrev pub StartsNone : NeedData → Type 0
StartsNone (needs.Start asked) = ⊥
StartsNone (needs.Command text) = ⊥
StartsNone due = Unit {0}

step_none : (s : Step) (bytes : List ℕ) → StartsNone (due_by s bytes)
step_none (step.OpenControl file) bytes = tt
step_none (step.Open name how) bytes = tt
step_none (step.Read fd place) bytes = tt
step_none (step.Mark fd place) bytes = tt
step_none (step.Close fd) bytes = tt
step_none (step.Unlink name) bytes = tt
step_none (step.Stat name) bytes = tt
step_none (step.Search dir) bytes = tt
step_none (step.Take port) bytes = tt
step_none (step.Give port) bytes = tt
step_none (step.Remove n) bytes = tt
step_none step.Wait bytes = tt
step_none (step.Ended status) bytes = tt

pass_none : (row : PassRow) (p : Pass) → StartsNone (due_in row p)
pass_none (todo.Clear t) p = tt
pass_none todo.StatMess p = tt
pass_none todo.OpenTodo p = tt
pass_none (todo.ReadTodo fd) p = tt
pass_none (todo.CloseTodo fd) p = tt
pass_none (todo.Create t) p = tt
pass_none (todo.Append t fd done) p = tt
pass_none (todo.Sync t fd) p = tt
pass_none (todo.Close t fd) p = tt
pass_none (todo.Shut fd why) p = tt
pass_none todo.Give p = tt
pass_none todo.Answer p = tt
pass_none todo.Done p = tt
pass_none (todo.Left why) p = tt
pass_none todo.Lost p = tt

-- whatever is due but of a note and of a return
abbrev IsOwn : Row → Type 0
IsOwn (at.Mark mark.Noting m) = ⊥
IsOwn (at.Finish finish.Return n) = ⊥
IsOwn row = Unit {0}

starts_none : (d : Desk) (row : Row) → IsOwn row → StartsNone (due_at row d)
starts_none d at.InTodo own = pass_none d.pass.row d.pass
starts_none d (at.Start row) own = step_none (step_of (at.Start row) (length d.book.read)) (words_of (at.Start row) d)
starts_none d (at.Turn p) own = step_none (step_of (at.Turn p) (length d.book.read)) (words_of (at.Turn p) d)
starts_none d (at.TakeLink c) own = step_none (step_of (at.TakeLink c) (length d.book.read)) (words_of (at.TakeLink c) d)
starts_none d (at.Mark mark.Note m) own = step_none (step_of (at.Mark mark.Note m) (length d.book.read)) (words_of (at.Mark mark.Note m) d)
starts_none d (at.Mark mark.Noting m) own = absurd own
starts_none d (at.Mark mark.Open m) own = step_none (step_of (at.Mark mark.Open m) (length d.book.read)) (words_of (at.Mark mark.Open m) d)
starts_none d (at.Mark (mark.Write fd) m) own = step_none (step_of (at.Mark (mark.Write fd) m) (length d.book.read)) (words_of (at.Mark (mark.Write fd) m) d)
starts_none d (at.Mark (mark.Close fd written) m) own = step_none (step_of (at.Mark (mark.Close fd written) m) (length d.book.read)) (words_of (at.Mark (mark.Close fd written) m) d)
starts_none d (at.UnlinkFile c n p) own = step_none (step_of (at.UnlinkFile c n p) (length d.book.read)) (words_of (at.UnlinkFile c n p) d)
starts_none d (at.ReadFile c n begun g) own = step_none (step_of (at.ReadFile c n begun g) (length d.book.read)) (words_of (at.ReadFile c n begun g) d)
starts_none d (at.Request c) own = step_none (step_of (at.Request c) (length d.book.read)) (words_of (at.Request c) d)
starts_none d (at.FindTodo search) own = step_none (step_of (at.FindTodo search) (length d.book.read)) (words_of (at.FindTodo search) d)
starts_none d (at.Finish finish.OpenBounce n) own = step_none (step_of (at.Finish finish.OpenBounce n) (length d.book.read)) (words_of (at.Finish finish.OpenBounce n) d)
starts_none d (at.Finish finish.Return n) own = absurd own
starts_none d (at.Finish finish.UnlinkInfo n) own = step_none (step_of (at.Finish finish.UnlinkInfo n) (length d.book.read)) (words_of (at.Finish finish.UnlinkInfo n) d)
starts_none d (at.Finish finish.Give n) own = step_none (step_of (at.Finish finish.Give n) (length d.book.read)) (words_of (at.Finish finish.Give n) d)
starts_none d (at.Finish finish.Take n) own = step_none (step_of (at.Finish finish.Take n) (length d.book.read)) (words_of (at.Finish finish.Take n) d)
starts_none d (at.Finish finish.Later n) own = step_none (step_of (at.Finish finish.Later n) (length d.book.read)) (words_of (at.Finish finish.Later n) d)
starts_none d (at.Finish finish.Over n) own = step_none (step_of (at.Finish finish.Over n) (length d.book.read)) (words_of (at.Finish finish.Over n) d)
starts_none d (at.Finish finish.Lost n) own = step_none (step_of (at.Finish finish.Lost n) (length d.book.read)) (words_of (at.Finish finish.Lost n) d)
starts_none d (at.Sweep row) own = step_none (step_of (at.Sweep row) (length d.book.read)) (words_of (at.Sweep row) d)
starts_none d (at.Ended status) own = step_none (step_of (at.Ended status) (length d.book.read)) (words_of (at.Ended status) d)

-- the injector of a bounce
bounce_starts : (d : Desk) (n : ℕ) (asked : ChildData) → due_at (at.Finish finish.Return n) d ≡ needs.Start asked → StartsAt (at.Finish finish.Return n) d asked
bounce_starts d n asked due =
    let w = return_starts d.bounce.row d.bounce asked due in
    record { n = n; at_return = refl; due = w.0; asked_is = same (child.Bounce d.bounce.room) asked w.1 }
  where
    same : (x y : ChildData) → ◌≡◌ {A = NeedData} (needs.Start x) (needs.Start y) → y ≡ x
    same x y e = cc

by_own : (d : Desk) (row : Row) (asked : ChildData) → IsOwn row → due_at row d ≡ needs.Start asked → StartsAt row d asked
by_own d row asked own due = absurd (subst StartsNone due (starts_none d row own))

pub starts_of : (d : Desk) (row : Row) (asked : ChildData) → due_at row d ≡ needs.Start asked → StartsAt row d asked
starts_of d (at.Finish finish.Return n) asked due = bounce_starts d n asked due
starts_of d (at.Mark mark.Noting m) asked due = absurd (note_starts d.note.row d.note asked due)
starts_of d (at.Finish finish.OpenBounce n) asked due = by_own d (at.Finish finish.OpenBounce n) asked tt due
starts_of d (at.Finish finish.UnlinkInfo n) asked due = by_own d (at.Finish finish.UnlinkInfo n) asked tt due
starts_of d (at.Finish finish.Give n) asked due = by_own d (at.Finish finish.Give n) asked tt due
starts_of d (at.Finish finish.Take n) asked due = by_own d (at.Finish finish.Take n) asked tt due
starts_of d (at.Finish finish.Later n) asked due = by_own d (at.Finish finish.Later n) asked tt due
starts_of d (at.Finish finish.Over n) asked due = by_own d (at.Finish finish.Over n) asked tt due
starts_of d (at.Finish finish.Lost n) asked due = by_own d (at.Finish finish.Lost n) asked tt due
starts_of d (at.Mark mark.Note m) asked due = by_own d (at.Mark mark.Note m) asked tt due
starts_of d (at.Mark mark.Open m) asked due = by_own d (at.Mark mark.Open m) asked tt due
starts_of d (at.Mark (mark.Write fd) m) asked due = by_own d (at.Mark (mark.Write fd) m) asked tt due
starts_of d (at.Mark (mark.Close fd written) m) asked due = by_own d (at.Mark (mark.Close fd written) m) asked tt due
starts_of d at.InTodo asked due = by_own d at.InTodo asked tt due
starts_of d (at.Start row) asked due = by_own d (at.Start row) asked tt due
starts_of d (at.Turn p) asked due = by_own d (at.Turn p) asked tt due
starts_of d (at.TakeLink c) asked due = by_own d (at.TakeLink c) asked tt due
starts_of d (at.UnlinkFile c n p) asked due = by_own d (at.UnlinkFile c n p) asked tt due
starts_of d (at.ReadFile c n begun g) asked due = by_own d (at.ReadFile c n begun g) asked tt due
starts_of d (at.Request c) asked due = by_own d (at.Request c) asked tt due
starts_of d (at.FindTodo search) asked due = by_own d (at.FindTodo search) asked tt due
starts_of d (at.Sweep row) asked due = by_own d (at.Sweep row) asked tt due
starts_of d (at.Ended status) asked due = by_own d (at.Ended status) asked tt due

none_run : (d : Desk) (row : Row) (text : List ℕ) → IsOwn row → due_at row d ≡ needs.Command text → ⊥
none_run d row text own due = subst StartsNone due (starts_none d row own)

pub runs_none : (d : Desk) (row : Row) (text : List ℕ) → due_at row d ≡ needs.Command text → ⊥
runs_none d (at.Finish finish.Return n) text due = return_runs d.bounce.row d.bounce text due
runs_none d (at.Mark mark.Noting m) text due = note_runs d.note.row d.note text due
runs_none d (at.Finish finish.OpenBounce n) text due = none_run d (at.Finish finish.OpenBounce n) text tt due
runs_none d (at.Finish finish.UnlinkInfo n) text due = none_run d (at.Finish finish.UnlinkInfo n) text tt due
runs_none d (at.Finish finish.Give n) text due = none_run d (at.Finish finish.Give n) text tt due
runs_none d (at.Finish finish.Take n) text due = none_run d (at.Finish finish.Take n) text tt due
runs_none d (at.Finish finish.Later n) text due = none_run d (at.Finish finish.Later n) text tt due
runs_none d (at.Finish finish.Over n) text due = none_run d (at.Finish finish.Over n) text tt due
runs_none d (at.Finish finish.Lost n) text due = none_run d (at.Finish finish.Lost n) text tt due
runs_none d (at.Mark mark.Note m) text due = none_run d (at.Mark mark.Note m) text tt due
runs_none d (at.Mark mark.Open m) text due = none_run d (at.Mark mark.Open m) text tt due
runs_none d (at.Mark (mark.Write fd) m) text due = none_run d (at.Mark (mark.Write fd) m) text tt due
runs_none d (at.Mark (mark.Close fd written) m) text due = none_run d (at.Mark (mark.Close fd written) m) text tt due
runs_none d at.InTodo text due = none_run d at.InTodo text tt due
runs_none d (at.Start row) text due = none_run d (at.Start row) text tt due
runs_none d (at.Turn p) text due = none_run d (at.Turn p) text tt due
runs_none d (at.TakeLink c) text due = none_run d (at.TakeLink c) text tt due
runs_none d (at.UnlinkFile c n p) text due = none_run d (at.UnlinkFile c n p) text tt due
runs_none d (at.ReadFile c n begun g) text due = none_run d (at.ReadFile c n begun g) text tt due
runs_none d (at.Request c) text due = none_run d (at.Request c) text tt due
runs_none d (at.FindTodo search) text due = none_run d (at.FindTodo search) text tt due
runs_none d (at.Sweep row) text due = none_run d (at.Sweep row) text tt due
runs_none d (at.Ended status) text due = none_run d (at.Ended status) text tt due
