-- Points 1 to 4 of the sender's turn: takings, the marks that reports lead to, passes, and preprocessing.
use Rattle.std.specs.Prelude.{ℕ, List, [], ◌∷◌, ◌++◌, take, Bool, true, false, Option, Some, None, if◌then◌else◌, slice_get}
use Rattle.address_rules.specs.declared.controls.Controls.{Controls}
use Rattle.bounce_record.specs.declared.note_row.NoteRow.{NoteRow}
use Rattle.bounce_record.specs.declared.note_row.NoteRow.TheVariants as written
use Rattle.bounce_record.specs.Notes.{late_report}
use Rattle.bounce_record.specs.Writing.{Writing, writing_begun, moved as note_moved}
use Rattle.call_fs.specs.declared.calls.Fd.{Fd}
use Rattle.call_fs.specs.declared.past.GotData.{GotData}
use Rattle.envelope_records.specs.declared.channel.Record.{Record}
use Rattle.mail_bytes.specs.Decimal.{digits}
use Rattle.send_jobs.specs.declared.attempts.Failure.{Failure}
use Rattle.send_jobs.specs.declared.attempts.Mark.{Mark}
use Rattle.send_known.specs.declared.channel.Channel.{Channel}
use Rattle.send_known.specs.declared.channel.Channel.TheVariants.{Local, Remote}
use Rattle.send_jobs.specs.Lanes.{mark_settled, left_unmarked}
use Rattle.send_jobs.specs.Sending.{lane, at_lane}
use Rattle.send_known.specs.Messages.{learned}
use Rattle.send_parts.specs.declared.reading.Progress.{Progress}
use Rattle.send_parts.specs.declared.reading.Progress.TheVariants.{Goes, Whole, Missing, Failed}
use Rattle.send_parts.specs.declared.reading.Reading.{Reading}
use Rattle.send_parts.specs.declared.reply.Way.{Way}
use Rattle.send_parts.specs.declared.reply.Way.TheVariants as way
use Rattle.send_links.specs.Records.{records_of}
use Rattle.send_parts.specs.Files.{message_number}
use Rattle.send_parts.specs.Replies.{Said, said}
use Rattle.todo_pass.specs.declared.row.Row.{Row as PassRow}
use Rattle.todo_pass.specs.declared.row.Row.TheVariants as todo
use Rattle.todo_pass.specs.Table.{Pass, answer_row, begun, moved}
use Rattle.send_core.specs.declared.desk.Desk.{Desk}
use Rattle.send_parts.specs.declared.row.MarkRow.{MarkRow}
use Rattle.send_parts.specs.declared.row.MarkRow.TheVariants as mark
use Rattle.send_parts.specs.declared.row.Marked.{Marked}
use Rattle.send_parts.specs.declared.row.Point.{Point}
use Rattle.send_parts.specs.declared.row.Point.TheVariants as point
use Rattle.send_parts.specs.declared.row.Row.{Row}
use Rattle.send_parts.specs.declared.row.Row.TheVariants as at
use Rattle.send_parts.specs.declared.rows.Search.{Search}
use Rattle.send_parts.specs.declared.rows.Search.TheVariants as searches
use Rattle.send_core.specs.Desk.{goes, stands_at, later, due_again, done_with, closed, heard, is_free_for, has_begun, request_sent, past_todo}
use Rattle.send_parts.specs.Rows.{is_again}
use Rattle.send_parts.specs.Start.{kept}
pub use Rattle.send_parts.specs.Readings.{begun_at}
pub use Rattle.send_parts.specs.Replies.{is_fine}
pub use Rattle.todo_pass.specs.Known.{known_of}
pub use Rattle.todo_pass.specs.Rows.{is_done}
use Rattle.queue_limits.specs.declared.statuses.TheConstants.{NO_CLEANER, NO_LOCAL, NO_REMOTE}

-- A link that ended, or from which a taking or to which a giving failed, ends the sender.
abbrev pub lost : Channel → Row
lost Local = at.Ended NO_LOCAL
lost Remote = at.Ended NO_REMOTE

-- 1. Takings: what a link holds, once a turn for each

abbrev pub after_take : Channel → Point
after_take Local = point.TakeRemote
after_take Remote = point.Reports

abbrev pub took : Way → List ℕ → Channel → Desk → Desk
took way.Fine bytes c d = stands_at (heard c bytes d) (after_take c)
took w bytes c d = goes d (lost c)

-- 2. Reports: a mark opens the channel file, overwrites the letter by `D`, and closes it. If the open or the
-- overwriting fails, the place stays `T`; a close after it changes nothing.

abbrev pub mark_over : Bool → Marked → Desk → Desk
mark_over true m d = closed m.channel m.n point.Reports (record d { slots = at_lane m.channel mark_settled d.slots })
mark_over false m d = closed m.channel m.n point.Reports (record d { slots = at_lane m.channel (left_unmarked m.n) (at_lane m.channel mark_settled d.slots) })

abbrev pub mark_opened : Way → Marked → Fd → Desk → Desk
mark_opened way.Fine m fd d = goes d (at.Mark (mark.Write fd) m)
mark_opened w m fd d = mark_over false m d

-- A note comes before the mark of a recipient that couldn't be delivered to; its steps are those of bounce_record. If one fails the
-- place stays `T`.

-- what a note says: the report, and if the message is too old that it isn't tried again
abbrev pub told_report : Option Failure → List ℕ
told_report None = []
told_report (Some f) = if f.is_late then late_report f.report else f.report

abbrev pub note_of : Option Mark → ℕ → Controls → Writing
note_of None n controls = writing_begun controls n [] []
note_of (Some m) n controls = writing_begun controls n m.attempt.address (told_report m.note)

-- the note of the first mark of the channel
abbrev pub begin_note : Marked → Desk → Desk
begin_note m d = record d { note = note_of (slice_get (lane m.channel d.slots).marks 0) m.n d.book.controls }

abbrev pub noted_at : NoteRow → Marked → Desk → Desk
noted_at written.Written m d = goes d (at.Mark mark.Open m)
noted_at written.Failed m d = mark_over false m d
noted_at row m d = goes d (at.Mark mark.Noting m)

abbrev pub noted : Marked → GotData → Desk → Desk
noted m came d = let w = note_moved d.note came in noted_at w.row m (record d { note = w })

-- what came of the open of the bounce file
abbrev pub note_opened : Marked → GotData → Desk → Desk
note_opened m came d = noted m came (begin_note m d)

abbrev pub act_mark : MarkRow → Marked → GotData → Desk → Desk
act_mark mark.Note m came d = note_opened m came d
act_mark mark.Noting m came d = noted m came d
act_mark mark.Open m came d = mark_opened (said came).way m (said came).fd d
act_mark (mark.Write fd) m came d = goes d (at.Mark (mark.Close fd (is_fine (said came).way)) m)
act_mark (mark.Close fd written) m came d = mark_over written m d

-- what comes of the open for a note takes memory, for the text of that
abbrev pub mark_takes_memory : MarkRow → Bool
mark_takes_memory mark.Note = true
mark_takes_memory row = false

-- the channel file of a job that left no place `T` is unlinked
abbrev pub unlinked : Way → Channel → ℕ → Point → ℕ → Desk → Desk
unlinked way.Fine c n p now d = done_with c n (stands_at d p)
unlinked w c n p now d = due_again c n (later now) (stands_at d p)

-- 3. Passes

-- one that can't begin is tried again later
abbrev pub put_later : Channel → ℕ → ℕ → Desk → Desk
put_later c n now d = due_again c n (later now) (stands_at d (point.Pass c false))

-- A pass without a record to do is a finished job.
abbrev pub pass_opened : Option (List Record) → Channel → ℕ → ℕ → ℕ → Desk → Desk
pass_opened None c n begun now d = put_later c n now d
pass_opened (Some records) c n begun now d =
    if is_free_for n (lane c d.slots) then closed c n (point.Pass c false) (has_begun c n begun records d) else put_later c n now d

abbrev pub file_read : Progress → Channel → ℕ → ℕ → Reading → ℕ → Said → Desk → Desk
file_read (Goes next) c n begun reading now s d = record d { row = at.ReadFile c n begun next; book = record d.book { read = kept reading d.book.read ++ s.bytes } }
file_read Whole c n begun reading now s d = pass_opened (records_of d.book.read) c n begun now d
file_read Missing c n begun reading now s d = put_later c n now d
file_read Failed c n begun reading now s d = put_later c n now d

abbrev pub requested : Way → Channel → Desk → Desk
requested way.Fine c d = request_sent c (stands_at d (point.Pass c false))
requested w c d = goes d (lost c)

-- 4. Preprocessing: the first number of `todo` after the one that was left last, and from the start if there is none. A failed
-- search counts as one without a name, and a name that is no number is passed over.

abbrev pub todo_found : Option ℕ → List ℕ → Search → Desk → Desk
todo_found None text search d = record d { row = at.FindTodo (searches.AfterStray (is_again search)); book = record d.book { after = take 255 text } }
todo_found (Some n) text search d = record d { row = at.InTodo; pass = begun n; busy = true }

abbrev pub todo_none : Bool → List ℕ → ℕ → Desk → Desk
todo_none false (b ∷ bs) now d = goes d (at.FindTodo searches.FromStart)
todo_none again last_left now d = past_todo now d

abbrev pub todo_named : Way → List ℕ → Search → ℕ → Desk → Desk
todo_named way.Fine text search now d = todo_found (message_number text) text search d
todo_named w text search now d = todo_none (is_again search) d.last_left now d

-- Without the link to the cleaner the sender ends. A pass that is left is remembered.
abbrev pub todo_on : PassRow → Pass → ℕ → Desk → Desk
todo_on (todo.Left why) p now d = past_todo now (record d { pass = p; last_left = digits p.n })
todo_on todo.Lost p now d = record d { row = at.Ended NO_CLEANER; pass = p }
todo_on row p now d = record d { row = at.InTodo; pass = p }

-- A pass is done when the cleaner answers `+`: its message is known, and due at once.
abbrev pub todo_over : PassRow → Pass → ℕ → Desk → Desk
todo_over row p now d =
    if is_done row then past_todo now (record d { pass = p; book = record d.book { messages = learned (known_of p) now d.book.messages } }) else todo_on row p now d

abbrev pub todo_went : PassRow → GotData → Pass → ℕ → Desk → Desk
todo_went todo.Answer came p now d = todo_over (answer_row came) p now d
todo_went row came p now d = todo_on p.row p now d

-- a step of the pass: by its row before
abbrev pub in_todo : ℕ → GotData → Desk → Desk
in_todo now came d = todo_went d.pass.row came (moved d.book.controls d.pass now came) now d
