-- What the sender does next, as a function of its own past (qmail-send(8); INTERNALS, sections 4 to 6). Of each row: where it
-- comes from (`arrive`), what is done there (`step_of`, with the bytes `words_of`), and where what came of it leads (`act`).
use Rattle.std.specs.Prelude.{ℕ, List, [], ◌∷◌, length, Bool, true, false, Option, Some, None, if◌then◌else◌, is_some, slice_get}
use Rattle.address_rules.specs.declared.control_file.ControlFile.TheVariants.{Me}
use Rattle.bounce_record.specs.declared.note_row.NoteRow.TheVariants as written
use Rattle.bounce_record.specs.declared.return_row.ReturnRow.TheVariants as back
use Rattle.bounce_record.specs.Returning.{bare, due_by as return_due}
use Rattle.bounce_record.specs.Writing.{Writing, due_by as note_due}
use Rattle.call_fs.specs.declared.past.GotData.{GotData}
use Rattle.call_fs.specs.declared.past.NeedData.{NeedData}
use Rattle.call_fs.specs.declared.past.Own.{Own}
use Rattle.call_fs.specs.declared.program.Ready.{Ready}
use Rattle.retry_schedule.specs.Due.{first_due}
use Rattle.send_jobs.specs.declared.attempts.Failure.{Failure}
use Rattle.send_jobs.specs.declared.attempts.Mark.{Mark}
use Rattle.send_known.specs.declared.channel.Channel.{Channel}
use Rattle.send_known.specs.declared.channel.Channel.TheVariants.{Local, Remote}
use Rattle.send_jobs.specs.Lanes.{next}
use Rattle.send_jobs.specs.Sending.{lane, none_out}
use Rattle.send_jobs.specs.Slots.{lowest}
use Rattle.send_parts.specs.declared.reading.Reading.TheVariants.{Opening}
use Rattle.send_parts.specs.Lines.{finish_takes_memory}
use Rattle.send_parts.specs.Readings.{read_on}
use Rattle.send_parts.specs.Replies.{said}
use Rattle.send_parts.specs.Steps.{due_by}
use Rattle.todo_pass.specs.Table.{begun as pass_begun, due_by as pass_due}
use Rattle.send_core.specs.declared.desk.Desk.{Desk}
use Rattle.send_parts.specs.declared.rows.FinishRow.TheVariants as finish
use Rattle.send_parts.specs.declared.row.MarkRow.{MarkRow}
use Rattle.send_parts.specs.declared.row.MarkRow.TheVariants as mark
use Rattle.send_parts.specs.declared.row.Point.{Point}
use Rattle.send_parts.specs.declared.row.Point.TheVariants as point
use Rattle.send_parts.specs.declared.row.Row.{Row}
use Rattle.send_parts.specs.declared.row.Row.TheVariants as at
use Rattle.send_parts.specs.declared.rows.Search.{Search}
use Rattle.send_parts.specs.declared.rows.Search.TheVariants as search
use Rattle.send_parts.specs.declared.rows.StartRow.{StartRow}
use Rattle.send_parts.specs.declared.rows.StartRow.TheVariants as start
use Rattle.send_parts.specs.declared.rows.SweepRow.{SweepRow}
use Rattle.send_parts.specs.declared.rows.SweepRow.TheVariants as sweep
use Rattle.send_links.specs.Requests.{first_text, quiet}
use Rattle.send_parts.specs.Start.{new_book, start_takes_memory}
use Rattle.send_core.specs.Desk.{link, due_on, sweep_due, next_idle, ready}
use Rattle.send_core.specs.Start.{started}
use Rattle.send_core.specs.Turn.{act_mark, mark_takes_memory, begun_at, file_read, in_todo, requested, took, todo_named, unlinked}
use Rattle.send_core.specs.Finish.{act_finish, act_sweep}
pub use Rattle.send_parts.specs.Channels.{file_of, port_of}
pub use Rattle.send_parts.specs.Points.{beginning, finishing_by, going_on, holds, link_of, or_else, taking}
pub use Rattle.send_parts.specs.Rows.{mark_step, step_of}

-- Where a step comes from: between two steps, from the first point of the turn that has something to do, by this moment and by
-- what is ready. Nothing is changed by it, so a later look may come out otherwise.

-- 1: the taking from a link that holds something or has ended is `taking`

-- 2: the mark of the first report that waits for one; of the local spawner they were taken first
-- it begins at its note, if it has one
abbrev pub begin_by : Option Failure → MarkRow
begin_by None = mark.Open
begin_by (Some failure) = mark.Note

abbrev pub mark_begin : Mark → MarkRow
mark_begin m = begin_by m.note

abbrev pub marking_by : Channel → Option Mark → Option Row
marking_by c None = None
marking_by c (Some m) = Some (at.Mark (mark_begin m) (record { channel = c; n = m.attempt.n; place = m.attempt.place }))

abbrev pub marking : Channel → Desk → Option Row
marking c d = marking_by c (slice_get (lane c d.slots).marks 0)

-- 3: the open pass goes on while a slot is free; if none is open, one is begun for the message that is due first
abbrev pub passing : Channel → Bool → Desk → ℕ → Option Row
passing c may d now =
    if is_some (next (lane c d.slots)) then going_on c (lowest (lane c d.slots).slots) else beginning c may (first_due now (due_on c d.book.messages))

-- 5: the least number that may be finished
abbrev pub finishing : Desk → ℕ → Option Row
finishing d now = finishing_by (next_idle now d)

-- 6: the sweep
abbrev pub sweeping : Desk → ℕ → Option Row
sweeping d now = if sweep_due now d.swept then Some (at.Sweep sweep.First) else None

-- 4: the search of `todo` is always made
abbrev pub from_remote : Bool → Desk → ℕ → Row
from_remote may d now = or_else (passing Remote may d now) (at.FindTodo search.AfterLeft)

abbrev pub from_local : Bool → Desk → ℕ → Row
from_local may d now = or_else (passing Local may d now) (from_remote true d now)

abbrev pub from_reports : Desk → ℕ → Row
from_reports d now = or_else (marking Local d) (or_else (marking Remote d) (from_local true d now))

abbrev pub from_take : Desk → ℕ → Ready → Row
from_take d now ready = or_else (taking Remote ready) (from_reports d now)

abbrev pub from_begin : Desk → ℕ → Ready → Row
from_begin d now ready = or_else (taking Local ready) (from_take d now ready)

abbrev pub from_sweep : Desk → ℕ → Ready → Row
from_sweep d now ready = or_else (sweeping d now) (from_begin d now ready)

abbrev pub from_point : Point → Desk → ℕ → Ready → Row
from_point point.TakeLocal d now ready = from_begin d now ready
from_point point.TakeRemote d now ready = from_take d now ready
from_point point.Reports d now ready = from_reports d now
from_point (point.Pass Local may) d now ready = from_local may d now
from_point (point.Pass Remote may) d now ready = from_remote may d now
from_point point.Finish d now ready = or_else (finishing d now) (from_sweep d now ready)
from_point point.Sweep d now ready = from_sweep d now ready

abbrev pub arrive : Row → Desk → ℕ → Ready → Row
arrive (at.Turn p) d now ready = from_point p d now ready
arrive row d now ready = row

-- What is done there

-- after which name a search goes on: a search of the start and of the sweep after the last one, that of `todo` as it says
abbrev pub start_words : StartRow → Desk → List ℕ
start_words (start.Scan split) d = d.book.after
start_words row d = []

abbrev pub search_words : Search → Desk → List ℕ
search_words search.AfterLeft d = d.last_left
search_words search.FromStart d = []
search_words (search.AfterStray again) d = d.book.after

abbrev pub sweep_words : SweepRow → Desk → List ℕ
sweep_words (sweep.Next split) d = d.book.after
sweep_words row d = []

-- the bytes that are told beside it: after which name a search goes on, and what is given
abbrev pub words_of : Row → Desk → List ℕ
words_of (at.Start row) d = start_words row d
words_of (at.Request c) d = first_text (link c d).requests
words_of (at.FindTodo search) d = search_words search d
words_of (at.Sweep row) d = sweep_words row d
words_of row d = []

abbrev pub due_at : Row → Desk → NeedData
due_at at.InTodo d = pass_due d.pass
due_at (at.Mark mark.Noting m) d = note_due d.note
due_at (at.Finish finish.Return n) d = return_due d.bounce
due_at row d = due_by (step_of row (length d.book.read)) (words_of row d)

-- Where what came leads, at this row and this moment

-- the turn had a step besides the search of `todo`
abbrev pub busy : Desk → Desk
busy d = record d { busy = true }

abbrev pub act : Row → ℕ → GotData → Desk → Desk
act (at.Start row) now came d = started row (said came) d
act (at.Turn p) now came d = d
act (at.TakeLink c) now came d = busy (took (said came).way (said came).bytes c d)
act (at.Mark row m) now came d = act_mark row m came d
act (at.UnlinkFile c n p) now came d = unlinked (said came).way c n p now d
act (at.ReadFile c n begun reading) now came d =
    busy (file_read (read_on reading (said came)) c n (begun_at reading begun now) reading now (said came) d)
act (at.Request c) now came d = busy (requested (said came).way c d)
act (at.FindTodo search) now came d = todo_named (said came).way (said came).bytes search now d
act at.InTodo now came d = in_todo now came d
act (at.Finish row n) now came d = act_finish row n now came d
act (at.Sweep row) now came d = act_sweep row now (said came) d
act (at.Ended status) now came d = d

-- What comes of it may take memory, for what is kept or for a line of the log. Of a search it takes none, and of no step of a
-- sweep, nor of a mark except for its note.
abbrev pub takes_memory : Row → Bool
takes_memory (at.Start row) = start_takes_memory row
takes_memory (at.TakeLink c) = true
takes_memory (at.Mark row m) = mark_takes_memory row
takes_memory (at.ReadFile c n begun reading) = true
takes_memory (at.Request c) = true
takes_memory at.InTodo = true
takes_memory (at.Finish row n) = finish_takes_memory row
takes_memory row = false

-- The past

-- where the sender stands is its desk
abbrev pub Place : Type 0
Place = Desk

-- the row at which a sender with this desk is, at this moment and with this ready
abbrev pub row_now : Desk → ℕ → Ready → Row
row_now d now ready = arrive d.row d now ready

-- what it keeps after what came at a row: then the next request of each channel is for its lowest free slot
abbrev pub moved_by : Row → ℕ → GotData → Desk → Desk
moved_by row now came d = ready (act row now came d)

-- what it keeps after one event more
abbrev pub moved : Place → Own → Place
moved d event = moved_by (row_now d event.read event.ready) event.read event.came d

-- no note is written, and none is to be
abbrev pub no_note : Writing
no_note = record { n = 0; row = written.Written; text = [] }

-- a sender of so many turns begins with the first control file
abbrev pub begun : Option ℕ → Desk
begun turns = record {
  row = at.Start (start.Control Me Opening);
  slots = none_out 0 0;
  local = quiet;
  remote = quiet;
  book = new_book;
  last_left = [];
  swept = None;
  busy = false;
  turns = turns;
  pass = pass_begun 0;
  note = no_note;
  bounce = bare 0 back.Over;
}

-- where it stands after a past, newest event first
abbrev pub place_after : Option ℕ → List Own → Place
place_after turns [] = begun turns
place_after turns (event ∷ before) = moved (place_after turns before) event

-- What a sender of so many turns does next: after this past, newest event first, at this moment, with this ready.
abbrev pub Next : Option ℕ → List Own → ℕ → Ready → NeedData
Next turns past now ready = let d = place_after turns past in due_at (row_now d now ready) d
