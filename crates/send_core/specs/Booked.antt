-- What a sender does of which its books tell: by what came at a row.
use Rattle.std.specs.Prelude.{List, [], ◌∷◌, Bool, true, false, ◌==◌, if◌then◌else◌, Option, Some, None, ℕ}
use Rattle.bounce_record.specs.declared.note_row.NoteRow.{NoteRow}
use Rattle.bounce_record.specs.declared.note_row.NoteRow.TheVariants as written
use Rattle.bounce_record.specs.declared.return_row.ReturnRow.{ReturnRow}
use Rattle.bounce_record.specs.declared.return_row.ReturnRow.TheVariants as back
use Rattle.call_fs.specs.declared.calls.Answer.{Answer}
use Rattle.call_fs.specs.declared.calls.Answer.TheVariants.{Done}
use Rattle.call_fs.specs.declared.past.GotData.{GotData}
use Rattle.call_fs.specs.declared.past.GotData.TheVariants as came
use Rattle.send_core.specs.declared.desk.Desk.{Desk}
use Rattle.send_parts.specs.declared.row.MarkRow.{MarkRow}
use Rattle.send_parts.specs.declared.row.MarkRow.TheVariants as mark
use Rattle.send_parts.specs.declared.row.Marked.{Marked}
use Rattle.send_parts.specs.declared.row.Row.{Row}
use Rattle.send_parts.specs.declared.row.Row.TheVariants as at
use Rattle.send_core.specs.Desk.{link, told, with_reader}
use Rattle.send_jobs.specs.declared.attempts.Attempt.{Attempt}
use Rattle.send_known.specs.declared.channel.Channel.{Channel}
use Rattle.send_jobs.specs.Bookings.{Booking}
use Rattle.send_jobs.specs.Bookings.Booking.{Dropped, Noted, Overwritten, ReadNotes, Reported, Returned, Routed}
use Rattle.send_jobs.specs.Failures.{is_final}
use Rattle.send_jobs.specs.Sending.{lane}
use Rattle.send_jobs.specs.Slots.{attempt_in}
use Rattle.send_parts.specs.declared.reply.Way.{Way}
use Rattle.send_parts.specs.declared.reply.Way.TheVariants as way
use Rattle.send_parts.specs.declared.rows.FinishRow.{FinishRow}
use Rattle.send_parts.specs.declared.rows.FinishRow.TheVariants as finish
use Rattle.send_parts.specs.Replies.{said}
use Rattle.spawn_protocol.specs.declared.report.Report.{Report}
use Rattle.todo_pass.specs.declared.row.Row.{Row as PassRow}
use Rattle.todo_pass.specs.declared.row.Row.TheVariants as todo
use Rattle.spawn_protocol.specs.Report.{counted, read_on}

-- Reports

-- A final report of the attempt in flight in its slot says that this one was delivered to, which K does, or failed for good; any other report
-- says neither of any. After it come those of later reports.
abbrev pub reported_if : Bool → Bool → Channel → Attempt → List Booking → List Booking
reported_if true delivered c a later = Reported delivered c a.n a.place ∷ later
reported_if false delivered c a later = later

abbrev pub reported_by : Option Attempt → Channel → Report → List Booking → List Booking
reported_by None c r later = later
reported_by (Some a) c r later = reported_if (is_final (counted r.letter) a.dying) (counted r.letter == 75) c a later

-- of these reports, which are taken one after the other
abbrev pub reported_all : Channel → List Report → Desk → List Booking
reported_all c [] d = []
reported_all c (r ∷ rs) d = reported_by (attempt_in (lane c d.slots).slots r.slot) c r (reported_all c rs (told c r d))

-- of the reports that end in these bytes
abbrev pub reported_in : Channel → List ℕ → Desk → List Booking
reported_in c bytes d = let it = read_on (link c d).reader bytes in reported_all c it.0 (with_reader c it.1 d)

abbrev pub reported_when : Way → Channel → List ℕ → Desk → List Booking
reported_when way.Fine c bytes d = reported_in c bytes d
reported_when w c bytes d = []

-- Notes

-- if the answer is Ok
abbrev pub if_ok : Answer → Booking → List Booking
if_ok Done b = b ∷ []
if_ok answer b = []

abbrev pub if_done : GotData → Booking → List Booking
if_done (came.Answered told) b = if_ok told.answer b
if_done got b = []

-- a sync of the bounce file at a row of a note
abbrev pub noted_at : NoteRow → Marked → GotData → List Booking
noted_at (written.Sync fd) m got = if_done got (Noted m.channel m.n m.place)
noted_at row m got = []

-- and an overwriting of a record, whatever the answer: one that failed may have written its byte
abbrev pub marked_at : MarkRow → Marked → NoteRow → GotData → List Booking
marked_at mark.Noting m row got = noted_at row m got
marked_at (mark.Write fd) m row got = Overwritten m.channel m.n m.place ∷ []
marked_at other m row got = []

-- Routes

-- the command that ends a todo pass, whatever came of giving it: the cleaner may have all of one that failed
abbrev pub routed_at : PassRow → ℕ → List Booking
routed_at todo.Give n = Routed n ∷ []
routed_at row n = []

-- the message whose command that is
abbrev pub routing_by : PassRow → ℕ → Option ℕ
routing_by todo.Give n = Some n
routing_by row n = None

abbrev pub routing_at : Row → Desk → Option ℕ
routing_at at.InTodo d = routing_by d.pass.row d.pass.n
routing_at row d = None

-- Returns

-- the bounce's injector ended so
abbrev pub if_zero : GotData → Booking → List Booking
if_zero (came.Ended status) b = if status == 0 then b ∷ [] else []
if_zero got b = []

-- at a row of a return, with what was read of the bounce file
abbrev pub returned_at : ReturnRow → ℕ → List ℕ → GotData → List Booking
returned_at (back.CloseNotes fd) n notes got = ReadNotes n notes ∷ []
returned_at (back.Await pid) n notes got = if_zero got (Returned n)
returned_at back.Discard n notes got = if_done got (Dropped n)
returned_at row n notes got = []

abbrev pub finished_at : FinishRow → ℕ → ReturnRow → List ℕ → GotData → List Booking
finished_at finish.Return n row notes got = returned_at row n notes got
finished_at other n row notes got = []

-- by what came at a row: what its books then tell
abbrev pub booked_at : Row → GotData → Desk → List Booking
booked_at (at.TakeLink c) got d = reported_when (said got).way c (said got).bytes d
booked_at (at.Mark row m) got d = marked_at row m d.note.row got
booked_at at.InTodo got d = routed_at d.pass.row d.pass.n
booked_at (at.Finish row n) got d = finished_at row n d.bounce.row d.bounce.notes got
booked_at row got d = []
