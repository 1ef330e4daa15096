-- The sender's log (qmail-log(5)), as a function of its past: which lines come at an event, by what it keeps before that.
use Rattle.std.specs.Prelude.{ℕ, List, [], ◌∷◌, ◌++◌, Option, Some, None, if◌then◌else◌, is_some}
use Rattle.bounce_record.specs.Lines.{return_lines}
use Rattle.call_fs.specs.declared.past.GotData.{GotData}
use Rattle.call_fs.specs.declared.past.Own.{Own}
use Rattle.send_jobs.specs.declared.attempts.Attempt.{Attempt}
use Rattle.send_known.specs.declared.channel.Channel.{Channel}
use Rattle.send_jobs.specs.declared.slots.Slots.{Slots}
use Rattle.send_jobs.specs.Lanes.{next, reported}
use Rattle.send_jobs.specs.Lines.{settled_lines, starting_if}
use Rattle.send_jobs.specs.Sending.{lane, at_lane, sent_on}
use Rattle.send_jobs.specs.Slots.{attempt_in}
use Rattle.send_log.specs.Lines.{stray_report}
use Rattle.send_parts.specs.declared.rows.FinishRow.{FinishRow}
use Rattle.send_parts.specs.declared.rows.FinishRow.TheVariants as finish
use Rattle.send_parts.specs.declared.rows.StartRow.{StartRow}
use Rattle.send_parts.specs.declared.rows.StartRow.TheVariants as start
use Rattle.send_parts.specs.Files.{is_info}
use Rattle.send_parts.specs.Lines.{finish_lines, if_fine, is_skipped, skipped_if}
use Rattle.send_parts.specs.Readings.{read_on}
use Rattle.send_parts.specs.Replies.{Said, said}
use Rattle.spawn_protocol.specs.declared.report.Report.{Report}
use Rattle.spawn_protocol.specs.Report.{read_on as reports_on}
use Rattle.todo_pass.specs.declared.row.Row.{Row as PassRow}
use Rattle.todo_pass.specs.declared.row.Row.TheVariants as todo
use Rattle.todo_pass.specs.Table.{Pass, answer_row, moved as pass_moved}
use Rattle.send_core.specs.declared.desk.Desk.{Desk}
use Rattle.send_parts.specs.declared.row.Row.{Row}
use Rattle.send_parts.specs.declared.row.Row.TheVariants as at
use Rattle.send_core.specs.Desk.{link, told, with_reader}
use Rattle.send_core.specs.Turn.{is_done}
use Rattle.send_core.specs.Table.{place_after, row_now}
pub use Rattle.send_jobs.specs.Lines.{status_if}
pub use Rattle.todo_pass.specs.Lines.{left_lines, queued_lines, queued_room}

-- a request was given: the line of its attempt, if there is one, and what is in flight then
abbrev pub request_lines : Option Attempt → Channel → Slots → List ℕ
request_lines o c s = starting_if o c s ++ status_if (is_some o) (sent_on c s)

-- a report was taken: of the attempt in its slot, or of a slot in which none is in flight
abbrev pub report_lines : Option Attempt → Channel → Report → Slots → List ℕ
report_lines None c r s = stray_report r.slot
report_lines (Some a) c r s = settled_lines a r.letter r.text (at_lane c (reported r.slot) s)

abbrev pub report_lines_on : Channel → Report → Desk → List ℕ
report_lines_on c r d = report_lines (attempt_in (lane c d.slots).slots r.slot) c r d.slots

abbrev pub told_lines : Channel → List Report → Desk → List ℕ
told_lines c [] d = []
told_lines c (r ∷ rs) d = report_lines_on c r d ++ told_lines c rs (told c r d)

abbrev pub taken_lines : Channel → List ℕ → Desk → List ℕ
taken_lines c bytes d = let it = reports_on (link c d).reader bytes in told_lines c it.0 (with_reader c it.1 d)

-- a todo pass was done, or was left
abbrev pub over_lines : PassRow → Pass → List ℕ
over_lines row p = if is_done row then queued_lines p else left_lines row p

abbrev pub pass_lines : PassRow → GotData → Pass → List ℕ
pass_lines todo.Answer came p = over_lines (answer_row came) p
pass_lines row came p = left_lines p.row p

-- an info file of the start scan was passed over
abbrev pub start_lines : StartRow → Said → Desk → List ℕ
start_lines (start.ReadInfo split n reading) s d = skipped_if (is_skipped (read_on reading s) (is_info d.book.read)) n
start_lines row s d = []

-- the finish of a message, the return of it included
abbrev pub finish_lines_on : FinishRow → ℕ → GotData → Desk → List ℕ
finish_lines_on finish.Return n came d = return_lines d.bounce.row n came
finish_lines_on row n came d = finish_lines row n (said came).way

-- the lines of what came at a row
abbrev pub lines_at : Row → ℕ → GotData → Desk → List ℕ
lines_at (at.Start row) now came d = start_lines row (said came) d
lines_at (at.TakeLink c) now came d = if_fine (said came).way (taken_lines c (said came).bytes d)
lines_at (at.Request c) now came d = if_fine (said came).way (request_lines (next (lane c d.slots)) c d.slots)
lines_at at.InTodo now came d = pass_lines d.pass.row came (pass_moved d.book.controls d.pass now came)
lines_at (at.Finish row n) now came d = finish_lines_on row n came d
lines_at row now came d = []

-- the lines of an event, by what the sender keeps before it
abbrev pub lines_of : Desk → Own → List ℕ
lines_of d event = lines_at (row_now d event.read event.ready) event.read event.came d

-- the log of a past, newest event first, since it was cleared: of the events since then, and those before
abbrev pub log_since : Option ℕ → List Own → List Own → List ℕ
log_since turns [] before = []
log_since turns (event ∷ recent) before = log_since turns recent before ++ lines_of (place_after turns (recent ++ before)) event
