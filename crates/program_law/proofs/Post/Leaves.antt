-- What each step of a sender leaves of its slots and of the reports that have begun: all but a request, a taking, and the first bytes leave both.
use Rattle.std.proofs.Common.{◌≡◌, ℕ, ◌-◌, List, [], ◌∷◌, Bool, true, false, if◌then◌else◌, Option, Some, None, refl, ◌∙◌}
use Rattle.std.specs.Prelude.{nat_lt, ◌||◌, is_some}
use Rattle.bounce_record.specs.declared.note_row.NoteRow.{NoteRow}
use Rattle.bounce_record.specs.declared.note_row.NoteRow.TheVariants as written
use Rattle.bounce_record.specs.Returning.{return_begun}
use Rattle.bounce_record.specs.Writing.{moved as note_moved}
use Rattle.call_fs.specs.declared.past.GotData.{GotData}
use Rattle.envelope_records.specs.declared.channel.Record.{Record}
use Rattle.mail_bytes.specs.Decimal.{digits}
use Rattle.send_core.specs.declared.desk.Desk.{Desk}
use Rattle.send_parts.specs.declared.row.MarkRow.{MarkRow}
use Rattle.send_parts.specs.declared.row.MarkRow.TheVariants as mark
use Rattle.send_parts.specs.declared.row.Marked.{Marked}
use Rattle.send_parts.specs.declared.row.Point.{Point}
use Rattle.send_parts.specs.declared.row.Point.TheVariants as point
use Rattle.send_parts.specs.declared.row.Row.{Row}
use Rattle.send_parts.specs.declared.row.Row.TheVariants as at
use Rattle.send_core.specs.Desk.{closed, closed_by, done_with, due_again, goes, has_begun, is_free_for, later, next_idle, past_finish, past_todo, ready, retried, retry_of, stands_at, sweep_due, turn_counted, turn_over}
use Rattle.send_core.specs.Finish.{act_finish, act_sweep, bounce_on, finish_at, forgot, looked_up, put_off_to, returned_to, sweep_at, sweep_begun}
use Rattle.send_core.specs.Table.{act, busy}
use Rattle.send_core.specs.Turn.{act_mark, begin_note, begun_at, file_read, is_done, known_of, mark_over, mark_opened, noted_at, pass_opened, put_later, todo_found, todo_named, todo_none, todo_on, todo_over, todo_went, unlinked}
use Rattle.send_jobs.specs.declared.attempts.Attempt.{Attempt}
use Rattle.send_known.specs.declared.channel.Channel.{Channel}
use Rattle.send_known.specs.declared.channel.Channel.TheVariants.{Local, Remote}
use Rattle.send_jobs.specs.declared.jobs.Job.{Job}
use Rattle.send_jobs.specs.Lanes.{job_over, left_unmarked, mark_settled}
use Rattle.send_jobs.specs.Sending.{at_lane, lane}
use Rattle.send_known.specs.Messages.{learned}
use Rattle.send_parts.specs.declared.reading.Progress.{Progress}
use Rattle.send_parts.specs.declared.reading.Progress.TheVariants.{Goes as GoesTo, Whole, Missing, Failed}
use Rattle.send_parts.specs.declared.reading.Reading.{Reading}
use Rattle.send_parts.specs.declared.reply.Way.{Way}
use Rattle.send_parts.specs.declared.reply.Way.TheVariants as way
use Rattle.send_parts.specs.declared.rows.FinishRow.{FinishRow}
use Rattle.send_parts.specs.declared.rows.FinishRow.TheVariants as finish
use Rattle.send_parts.specs.declared.rows.Search.{Search}
use Rattle.send_parts.specs.declared.rows.Search.TheVariants as search
use Rattle.send_parts.specs.declared.rows.SweepRow.{SweepRow}
use Rattle.send_parts.specs.declared.rows.SweepRow.TheVariants as sweep
use Rattle.send_links.specs.Records.{records_of}
use Rattle.send_parts.specs.Files.{message_number}
use Rattle.send_parts.specs.Finish.{finish_to}
use Rattle.send_parts.specs.Readings.{read_on}
use Rattle.send_parts.specs.Replies.{Said, is_fine, said}
use Rattle.send_parts.specs.Rows.{is_again}
use Rattle.send_parts.specs.Sweep.{sweep_to}
use Rattle.spawn_protocol.specs.Report.{Reader}
use Rattle.todo_pass.specs.declared.row.Row.{Row as PassRow}
use Rattle.todo_pass.specs.declared.row.Row.TheVariants as todo
use Rattle.todo_pass.specs.Table.{Pass, answer_row}
use Rattle.todo_pass.specs.Table as pass_table
use Rattle.program_law.specs.Post.Senders.{IsLate}

-- the slots, and what has come of a report, of both channels
pub record Halves : Type 0 where
  pub local_slots : List (Option Attempt)
  pub remote_slots : List (Option Attempt)
  pub local_reader : Reader
  pub remote_reader : Reader

abbrev pub halves : Desk → Halves
halves d = record { local_slots = d.slots.local.slots; remote_slots = d.slots.remote.slots; local_reader = d.local.reader; remote_reader = d.remote.reader }

abbrev pub Same : Desk → Desk → Type 0
Same d e = halves e ≡ halves d

-- and it doesn't begin anew
pub record Goes (d e : Desk) : Type 0 where
  pub same : Same d e
  pub late : IsLate e.row

goes_then : (d e f : Desk) → Same d e → Goes e f → Goes d f
goes_then d e f h k = record { same = k.same ∙ h; late = k.late }

pub goes_if : (b : Bool) (d e f : Desk) → Goes d e → Goes d f → Goes d (if b then e else f)
goes_if true d e f h k = h
goes_if false d e f h k = k

-- another row alone
to_row : (row : Row) (d : Desk) → IsLate row → Goes d (goes d row)
to_row row d late = record { same = refl; late = late }

-- Jobs and passes

due_again_same : (c : Channel) (n due : ℕ) (d : Desk) → Same d (due_again c n due d)
due_again_same Local n due d = refl
due_again_same Remote n due d = refl

due_again_goes : (c : Channel) (n due : ℕ) (p : Point) (d : Desk) → Goes d (due_again c n due (stands_at d p))
due_again_goes c n due p d = record { same = due_again_same c n due (stands_at d p); late = tt }

done_goes : (c : Channel) (n : ℕ) (p : Point) (d : Desk) → Goes d (done_with c n (stands_at d p))
done_goes Local n p d = record { same = refl; late = tt }
done_goes Remote n p d = record { same = refl; late = tt }

closed_if : (b : Bool) (c : Channel) (n begun : ℕ) (p : Point) (d : Desk) → Goes d (if b then retried c n begun (stands_at d p) else goes d (at.UnlinkFile c n p))
closed_if true c n begun p d = due_again_goes c n (retry_of c n begun (stands_at d p)) p d
closed_if false c n begun p d = to_row (at.UnlinkFile c n p) d tt

closed_by_goes : (o : Option Job) (c : Channel) (n : ℕ) (p : Point) (d : Desk) → Goes d (closed_by o c n p d)
closed_by_goes None c n p d = to_row (at.Turn p) d tt
closed_by_goes (Some job) c n p d = closed_if job.unmarked c n job.begun p d

closed_goes : (c : Channel) (n : ℕ) (p : Point) (d : Desk) → Goes d (closed c n p d)
closed_goes c n p d = closed_by_goes (job_over n (lane c d.slots)) c n p d

has_begun_same : (c : Channel) (n begun : ℕ) (records : List Record) (d : Desk) → Same d (has_begun c n begun records d)
has_begun_same Local n begun records d = refl
has_begun_same Remote n begun records d = refl

put_later_goes : (c : Channel) (n now : ℕ) (d : Desk) → Goes d (put_later c n now d)
put_later_goes c n now d = due_again_goes c n (later now) (point.Pass c false) d

opened_goes : (o : Option (List Record)) (c : Channel) (n begun now : ℕ) (d : Desk) → Goes d (pass_opened o c n begun now d)
opened_goes None c n begun now d = put_later_goes c n now d
opened_goes (Some records) c n begun now d =
    goes_if (is_free_for n (lane c d.slots)) d (closed c n (point.Pass c false) (has_begun c n begun records d)) (put_later c n now d)
    (goes_then d (has_begun c n begun records d) (closed c n (point.Pass c false) (has_begun c n begun records d)) (has_begun_same c n begun records d)
    (closed_goes c n (point.Pass c false) (has_begun c n begun records d)))
    (put_later_goes c n now d)

file_goes : (it : Progress) (c : Channel) (n begun : ℕ) (reading : Reading) (now : ℕ) (s : Said) (d : Desk) → Goes d (file_read it c n begun reading now s d)
file_goes (GoesTo next) c n begun reading now s d = record { same = refl; late = tt }
file_goes Whole c n begun reading now s d = opened_goes (records_of d.book.read) c n begun now d
file_goes Missing c n begun reading now s d = put_later_goes c n now d
file_goes Failed c n begun reading now s d = put_later_goes c n now d

busy_goes : (d e : Desk) → Goes d e → Goes d (busy e)
busy_goes d e h = record { same = h.same; late = h.late }

-- Marks

settled_same : (c : Channel) (d : Desk) → Same d (record d { slots = at_lane c mark_settled d.slots })
settled_same Local d = refl
settled_same Remote d = refl

given_up_same : (c : Channel) (n : ℕ) (d : Desk) → Same d (record d { slots = at_lane c (left_unmarked n) (at_lane c mark_settled d.slots) })
given_up_same Local n d = refl
given_up_same Remote n d = refl

mark_over_goes : (b : Bool) (m : Marked) (d : Desk) → Goes d (mark_over b m d)
mark_over_goes true m d =
    let e : Desk = record d { slots = at_lane m.channel mark_settled d.slots } in
    goes_then d e (closed m.channel m.n point.Reports e) (settled_same m.channel d) (closed_goes m.channel m.n point.Reports e)
mark_over_goes false m d =
    let e : Desk = record d { slots = at_lane m.channel (left_unmarked m.n) (at_lane m.channel mark_settled d.slots) } in
    goes_then d e (closed m.channel m.n point.Reports e) (given_up_same m.channel m.n d) (closed_goes m.channel m.n point.Reports e)

noted_goes : (row : NoteRow) (m : Marked) (d : Desk) → Goes d (noted_at row m d)
noted_goes written.Written m d = to_row (at.Mark mark.Open m) d tt
noted_goes written.Failed m d = mark_over_goes false m d
noted_goes row m d = to_row (at.Mark mark.Noting m) d tt

mark_opened_goes : (w : Way) (m : Marked) (d : Desk) (came : GotData) → Goes d (mark_opened w m (said came).fd d)
mark_opened_goes way.Fine m d came = to_row (at.Mark (mark.Write (said came).fd) m) d tt
mark_opened_goes w m d came = mark_over_goes false m d

mark_goes : (row : MarkRow) (m : Marked) (came : GotData) (d : Desk) → Goes d (act_mark row m came d)
mark_goes mark.Note m came d =
    let e : Desk = begin_note m d in
    let f : Desk = record e { note = note_moved e.note came } in
    goes_then d f (noted_at f.note.row m f) refl (noted_goes f.note.row m f)
mark_goes mark.Noting m came d =
    let f : Desk = record d { note = note_moved d.note came } in
    goes_then d f (noted_at f.note.row m f) refl (noted_goes f.note.row m f)
mark_goes mark.Open m came d = mark_opened_goes (said came).way m d came
mark_goes (mark.Write fd) m came d = to_row (at.Mark (mark.Close fd (is_fine (said came).way)) m) d tt
mark_goes (mark.Close fd written) m came d = mark_over_goes written m d

unlinked_goes : (w : Way) (c : Channel) (n : ℕ) (p : Point) (now : ℕ) (d : Desk) → Goes d (unlinked w c n p now d)
unlinked_goes way.Fine c n p now d = done_goes c n p d
unlinked_goes w c n p now d = due_again_goes c n (later now) p d

-- The turn

turn_if : (b : Bool) (k : ℕ) (d : Desk) → Goes d (if b then record d { turns = Some k; row = at.Turn point.TakeLocal } else record d { turns = Some 0; row = at.Ended 0 })
turn_if true k d = record { same = refl; late = tt }
turn_if false k d = record { same = refl; late = tt }

counted_goes : (o : Option ℕ) (d : Desk) → Goes d (turn_counted o d)
counted_goes None d = to_row (at.Turn point.TakeLocal) d tt
counted_goes (Some k) d = turn_if (nat_lt 1 k) (k - 1) d

turn_over_goes : (d : Desk) → Goes d (turn_over d)
turn_over_goes d =
    goes_then d (record d { busy = false }) (turn_counted d.turns (record d { busy = false })) refl
    (counted_goes d.turns (record d { busy = false }))

past_finish_goes : (now : ℕ) (d : Desk) → Goes d (past_finish now d)
past_finish_goes now d = goes_if (sweep_due now d.swept) d (stands_at d point.Sweep) (turn_over d) (to_row (at.Turn point.Sweep) d tt) (turn_over_goes d)

past_todo_goes : (now : ℕ) (d : Desk) → Goes d (past_todo now d)
past_todo_goes now d =
    goes_if (is_some (next_idle now d) || sweep_due now d.swept) d (stands_at d point.Finish) (turn_over d) (to_row (at.Turn point.Finish) d tt) (turn_over_goes d)

-- Preprocessing

found_goes : (o : Option ℕ) (text : List ℕ) (again : Search) (d : Desk) → Goes d (todo_found o text again d)
found_goes None text again d = record { same = refl; late = tt }
found_goes (Some n) text again d = record { same = refl; late = tt }

none_goes : (again : Bool) (left : List ℕ) (now : ℕ) (d : Desk) → Goes d (todo_none again left now d)
none_goes false (b ∷ bs) now d = to_row (at.FindTodo search.FromStart) d tt
none_goes false [] now d = past_todo_goes now d
none_goes true left now d = past_todo_goes now d

named_goes : (w : Way) (text : List ℕ) (again : Search) (now : ℕ) (d : Desk) → Goes d (todo_named w text again now d)
named_goes way.Fine text again now d = found_goes (message_number text) text again d
named_goes w text again now d = none_goes (is_again again) d.last_left now d

-- a pass that stands so, or is left
todo_on_goes : (row : PassRow) (p : Pass) (now : ℕ) (d : Desk) → Goes d (todo_on row p now d)
todo_on_goes (todo.Left why) p now d =
    let e : Desk = record d { pass = p; last_left = digits p.n } in
    goes_then d e (past_todo now e) refl (past_todo_goes now e)
todo_on_goes todo.Lost p now d = record { same = refl; late = tt }
todo_on_goes row p now d = record { same = refl; late = tt }

todo_over_goes : (row : PassRow) (p : Pass) (now : ℕ) (d : Desk) → Goes d (todo_over row p now d)
todo_over_goes row p now d =
    let e : Desk = record d { pass = p; book = record d.book { messages = learned (known_of p) now d.book.messages } } in
    goes_if (is_done row) d (past_todo now e) (todo_on row p now d)
    (goes_then d e (past_todo now e) refl (past_todo_goes now e))
    (todo_on_goes row p now d)

todo_went_goes : (row : PassRow) (came : GotData) (p : Pass) (now : ℕ) (d : Desk) → Goes d (todo_went row came p now d)
todo_went_goes todo.Answer came p now d = todo_over_goes (answer_row came) p now d
todo_went_goes row came p now d = todo_on_goes p.row p now d

-- Finish and sweep

finish_goes : (row : FinishRow) (n now : ℕ) (d : Desk) → Goes d (finish_at row n now d)
finish_goes finish.Later n now d =
    goes_then d (put_off_to n (later now) d) (finish_at finish.Later n now d) refl
    (past_finish_goes now (put_off_to n (later now) d))
finish_goes finish.Over n now d =
    goes_then d (forgot n d) (finish_at finish.Over n now d) refl (past_finish_goes now (forgot n d))
finish_goes finish.Lost n now d = to_row (at.Ended 81) d tt
finish_goes row n now d = to_row (at.Finish row n) d tt

act_finish_goes : (row : FinishRow) (n now : ℕ) (came : GotData) (d : Desk) → Goes d (act_finish row n now came d)
act_finish_goes finish.OpenBounce n now came d =
    let r = bounce_on n now came (return_begun n) d.book in
    let e : Desk = record d { bounce = r; busy = true } in
    goes_then d e (finish_at (returned_to r.row) n now e) refl (finish_goes (returned_to r.row) n now e)
act_finish_goes finish.Return n now came d =
    let r = bounce_on n now came d.bounce d.book in
    let e : Desk = record d { bounce = r } in
    goes_then d e (finish_at (returned_to r.row) n now e) refl (finish_goes (returned_to r.row) n now e)
act_finish_goes row n now came d = finish_goes (finish_to row (said came).way) n now d

sweep_at_goes : (row : SweepRow) (d : Desk) → Goes d (sweep_at row d)
sweep_at_goes sweep.Over d = turn_over_goes d
sweep_at_goes sweep.Lost d = to_row (at.Ended 81) d tt
sweep_at_goes row d = to_row (at.Sweep row) d tt

begun_same : (row : SweepRow) (now : ℕ) (d : Desk) → Same d (sweep_begun row now d)
begun_same sweep.First now d = refl
begun_same row now d = refl

sweep_goes : (row : SweepRow) (now : ℕ) (s : Said) (d : Desk) → Goes d (act_sweep row now s d)
sweep_goes row now s d =
    let e : Desk = sweep_begun row now d in
    let f : Desk = looked_up row s e in
    goes_then d f (sweep_at (sweep_to row now s d.book) f)
    (begun_same row now d)
    (sweep_at_goes (sweep_to row now s d.book) f)

-- All rows but those of a start, a request and a taking

abbrev pub IsStill : Row → Type 0
IsStill (at.Mark row m) = Unit {0}
IsStill (at.UnlinkFile c n p) = Unit {0}
IsStill (at.ReadFile c n begun reading) = Unit {0}
IsStill (at.FindTodo again) = Unit {0}
IsStill at.InTodo = Unit {0}
IsStill (at.Finish row n) = Unit {0}
IsStill (at.Sweep row) = Unit {0}
IsStill row = ⊥

pub act_goes : (row : Row) (now : ℕ) (came : GotData) (d : Desk) → IsStill row → Goes d (act row now came d)
act_goes (at.Mark row m) now came d is = mark_goes row m came d
act_goes (at.UnlinkFile c n p) now came d is = unlinked_goes (said came).way c n p now d
act_goes (at.ReadFile c n begun reading) now came d is =
    busy_goes d (file_read (read_on reading (said came)) c n (begun_at reading begun now) reading now (said came) d)
    (file_goes (read_on reading (said came)) c n (begun_at reading begun now) reading now (said came) d)
act_goes (at.FindTodo again) now came d is = named_goes (said came).way (said came).bytes again now d
act_goes at.InTodo now came d is = todo_went_goes d.pass.row came (pass_table.moved d.book.controls d.pass now came) now d
act_goes (at.Finish row n) now came d is = act_finish_goes row n now came d
act_goes (at.Sweep row) now came d is = sweep_goes row now (said came) d
act_goes (at.Start row) now came d is = absurd is
act_goes (at.Turn p) now came d is = absurd is
act_goes (at.TakeLink c) now came d is = absurd is
act_goes (at.Request c) now came d is = absurd is
act_goes (at.Ended status) now came d is = absurd is

-- the next requests of both channels are addressed then
pub readied : (d e : Desk) → Goes d e → Goes d (ready e)
readied d e h = record { same = h.same; late = h.late }
