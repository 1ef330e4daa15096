-- A sender takes a status only of the injector of a bounce, whose input it has given.
use Rattle.std.proofs.Common.{◌≡◌, ℕ, List, length, refl, subst}
use Rattle.bounce_record.specs.declared.note_row.NoteRow.{NoteRow}
use Rattle.bounce_record.specs.declared.note_row.NoteRow.TheVariants as note
use Rattle.bounce_record.specs.declared.return_row.ReturnRow.{ReturnRow}
use Rattle.bounce_record.specs.declared.return_row.ReturnRow.TheVariants as back
use Rattle.bounce_record.specs.Returning.{Returning, due_at as return_due_at}
use Rattle.bounce_record.specs.Writing.{Writing, due_at as note_due_at}
use Rattle.call_fs.specs.declared.past.NeedData.{NeedData}
use Rattle.call_fs.specs.declared.past.NeedData.TheVariants as needs
use Rattle.call_fs.specs.declared.program.Port.TheVariants as port
use Rattle.send_core.specs.declared.desk.Desk.{Desk}
use Rattle.send_parts.specs.declared.row.MarkRow.TheVariants as mark
use Rattle.send_parts.specs.declared.row.Row.{Row}
use Rattle.send_parts.specs.declared.row.Row.TheVariants as at
use Rattle.send_core.specs.Table.{due_at, step_of, words_of}
use Rattle.send_known.specs.declared.channel.Channel.TheVariants.{Local, Remote}
use Rattle.send_parts.specs.declared.reading.Reading.{Reading}
use Rattle.send_parts.specs.declared.reading.Reading.TheVariants.{Opening, Going, Closing, Shutting}
use Rattle.send_parts.specs.declared.rows.FinishRow.TheVariants as finish
use Rattle.send_parts.specs.declared.rows.StartRow.{StartRow}
use Rattle.send_parts.specs.declared.rows.StartRow.TheVariants as start
use Rattle.send_parts.specs.declared.rows.SweepRow.{SweepRow}
use Rattle.send_parts.specs.declared.rows.SweepRow.TheVariants as sweep
use Rattle.send_parts.specs.declared.step.Step.{Step}
use Rattle.send_parts.specs.declared.step.Step.TheVariants as step
use Rattle.send_parts.specs.Readings.{reading_step}
use Rattle.send_parts.specs.Rows.{start_step, sweep_step}
use Rattle.send_parts.specs.Steps.{due_by}
use Rattle.todo_pass.specs.declared.row.Row.{Row as PassRow}
use Rattle.todo_pass.specs.declared.row.Row.TheVariants as todo
use Rattle.todo_pass.specs.Table.{Pass, due_at as due_in}

-- no status is taken
abbrev TakesNone : NeedData → Type 0
TakesNone (needs.Take (port.Status slot)) = ⊥
TakesNone due = Unit {0}

-- the status of the child that injects a bounce is awaited
pub record StatusAt (row : Row) (d : Desk) : Type 0 where
  pub n : ℕ
  pub pid : ℕ
  pub row_is : row ≡ at.Finish finish.Return n
  pub awaits : d.bounce.row ≡ back.Await pid

reading_none : (reading : Reading) (opening : Step) (read : ℕ) (words : List ℕ) → TakesNone (due_by opening words) → TakesNone (due_by (reading_step reading opening read) words)
reading_none Opening opening read words h = h
reading_none (Going fd) opening read words h = tt
reading_none (Closing fd) opening read words h = tt
reading_none (Shutting fd) opening read words h = tt

start_none : (row : StartRow) (read : ℕ) (words : List ℕ) → TakesNone (due_by (start_step row read) words)
start_none (start.Control file reading) read words = reading_none reading (step.OpenControl file) read words tt
start_none (start.ReadInfo split n reading) read words = reading_none reading (start_step (start.ReadInfo split n Opening) read) read words tt
start_none row read words = tt

sweep_none : (row : SweepRow) (words : List ℕ) → TakesNone (due_by (sweep_step row) words)
sweep_none sweep.First words = tt
sweep_none row words = tt

pass_none : (row : PassRow) (p : Pass) → TakesNone (due_in row p)
pass_none todo.Answer p = tt
pass_none row p = tt

note_none : (row : NoteRow) (w : Writing) → TakesNone (note_due_at row w)
note_none note.Open w = tt
note_none row w = tt

absent : (due : NeedData) (slot : ℕ) {A : Type 0} → TakesNone due → due ≡ needs.Take (port.Status slot) → A
absent due slot none e = absurd (subst TakesNone e none)

return_status : (row : ReturnRow) (r : Returning) (slot : ℕ) → return_due_at row r ≡ needs.Take (port.Status slot) → (pid : ℕ) × (row ≡ back.Await pid)
return_status (back.Await pid) r slot e = (pid, refl)
return_status row r slot e = absurd (subst TakesNone e tt)

module _ (d : Desk) where
  abbrev read : ℕ
  read = length d.book.read

  pub status_at : (row : Row) (slot : ℕ) → due_at row d ≡ needs.Take (port.Status slot) → StatusAt row d
  status_at (at.Start row) slot e = absent (due_at (at.Start row) d) slot (start_none row read (words_of (at.Start row) d)) e
  status_at (at.TakeLink Local) slot e = absurd (cc)
  status_at (at.TakeLink Remote) slot e = absurd (cc)
  status_at (at.Mark mark.Noting m) slot e = absent (due_at (at.Mark mark.Noting m) d) slot (note_none d.note.row d.note) e
  status_at (at.ReadFile c n begun reading) slot e =
      absent (due_at (at.ReadFile c n begun reading) d) slot (reading_none reading (step_of (at.ReadFile c n begun Opening) read) read (words_of (at.ReadFile c n begun reading) d) tt) e
  status_at at.InTodo slot e = absent (due_at at.InTodo d) slot (pass_none d.pass.row d.pass) e
  status_at (at.Finish finish.Return n) slot e = let w = return_status d.bounce.row d.bounce slot e in record { n = n; pid = w.0; row_is = refl; awaits = w.1 }
  status_at (at.Finish row n) slot e = absurd (subst TakesNone e tt)
  status_at (at.Sweep row) slot e = absent (due_at (at.Sweep row) d) slot (sweep_none row (words_of (at.Sweep row) d)) e
  status_at (at.Mark row m) slot e = absurd (subst TakesNone e tt)
  status_at row slot e = absurd (subst TakesNone e tt)
