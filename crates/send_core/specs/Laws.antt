-- What a sender's requests, notes and marks are, by its past alone.
use Rattle.std.specs.Prelude.{◌≡◌, ◌≢◌, ℕ, ◌<◌, List, [], ◌∷◌, ◌++◌, Some, None, IsSome, codes}
use Rattle.bounce_record.specs.declared.note_row.NoteRow.{NoteRow}
use Rattle.bounce_record.specs.declared.note_row.NoteRow.TheVariants as written
use Rattle.bounce_record.specs.Runs.{IsWriting, NoteOf, begun, written_after}
use Rattle.bounce_record.specs.Writing.{Writing, bounce_path, due_by as note_due}
use Rattle.call_fs.specs.declared.calls.CallData.TheVariants.{Open, WriteAt}
use Rattle.call_fs.specs.declared.calls.Answer.TheVariants.{Opened}
use Rattle.call_fs.specs.declared.calls.Fd.{Fd}
use Rattle.call_fs.specs.declared.calls.How.TheVariants.{Append as Appending, Write}
use Rattle.call_fs.specs.declared.calls.Told.{Told}
use Rattle.call_fs.specs.declared.past.GotData.TheVariants.{Answered}
use Rattle.call_fs.specs.declared.past.NeedData.{NeedData}
use Rattle.call_fs.specs.declared.past.NeedData.TheVariants as needs
use Rattle.call_fs.specs.declared.past.Own.{Own}
use Rattle.queue_paths.specs.Names.{path, name_of}
use Rattle.send_core.specs.Table.{file_of, port_of}
use Rattle.send_core.specs.Turn.{told_report}
use Rattle.send_jobs.specs.declared.attempts.Failure.{Failure}
use Rattle.send_known.specs.declared.channel.Channel.{Channel}
use Rattle.send_known.specs.declared.channel.Channel.TheVariants.{Local, Remote}
use Rattle.send_links.specs.Requests.{request_of, to_slot}
use Rattle.send_core.specs.Papers.{controls_told}
use Rattle.send_core.specs.Past.{Account, Owed, Task, account}
use Rattle.send_core.specs.Senders.{IsSaid}

-- The bytes are the request for the first record of the pass that wasn't given yet, for the lowest slot in which nothing is in
-- flight, which is below the spawner's limit. Its sender was said of the message. No attempt at that record is in flight, and no
-- record of the channel waits for its mark.
pub record IsRequest (past : List Own) (a : Account) (text : List ℕ) : Type 0 where
  pub slot : ℕ
  pub task : Task
  pub rest : List Task
  pub sender : List ℕ
  pub next : a.to_give ≡ task ∷ rest
  pub free : a.in_flight slot ≡ None
  pub lowest : (k : ℕ) → k < slot → IsSome (a.in_flight k)
  pub limited : slot < a.limit
  pub once : (k : ℕ) (t : Task) → a.in_flight k ≡ Some t → t.n ≡ task.n → t.place ≢ task.place
  pub unmarked : a.to_mark ≡ []
  pub from : IsSaid past task.n sender
  pub is : text ≡ to_slot slot (request_of task.n sender task.address)

abbrev pub GivesRequests : List Own → NeedData → Type 0
GivesRequests past due = (c : Channel) (text : List ℕ) → due ≡ needs.Give (port_of c) text → IsRequest past (account c past) text

-- The record comes next to be marked: it is the first of its channel, and a record of the local channel comes before each of the remote
-- one.
pub record ComesNext (past : List Own) (c : Channel) (it : Owed) : Type 0 where
  pub rest : List Owed
  pub first : (account c past).to_mark ≡ it ∷ rest
  pub alone : c ≡ Remote → (account Local past).to_mark ≡ []

-- the note of a record of which this was reported, by what the control files said
abbrev pub note_by : List Own → Task → Failure → NoteOf
note_by past t f = record { controls = controls_told past; n = t.n; address = t.address; report = told_report (Some f) }

-- The newest events are those of the writing of its note, which stands so then. Before them it was the one that came next to be marked.
pub record WritesNote (past : List Own) (it : Owed) (f : Failure) (w : Writing) : Type 0 where
  pub recent : List Own
  pub before : List Own
  pub channel : Channel
  pub all : past ≡ recent ++ before
  pub next : ComesNext before channel it
  pub run : IsWriting (note_by before it.task f) recent
  pub stands : written_after (begun (note_by before it.task f)) recent ≡ w

-- its note was written, and nothing was done since
pub record IsNoted (past : List Own) (it : Owed) (f : Failure) : Type 0 where
  pub note : Writing
  pub writes : WritesNote past it f note
  pub whole : note.row ≡ written.Written

-- The file that is opened to be written is that of the record that comes next to be marked; and if something is noted of that, its note
-- was written directly before.
pub record IsOpened (past : List Own) (name : List ℕ) : Type 0 where
  pub channel : Channel
  pub owed : Owed
  pub next : ComesNext past channel owed
  pub file : name ≡ path (name_of (file_of channel owed.task.n))
  pub noted : (f : Failure) → owed.note ≡ Some f → IsNoted past owed f

-- A letter is overwritten by `D` directly after that open, at the place of that record.
pub record IsMark (past : List Own) (fd : Fd) (place : ℕ) (bytes : List ℕ) : Type 0 where
  pub event : Own
  pub before : List Own
  pub told : Told
  pub name : List ℕ
  pub newest : past ≡ event ∷ before
  pub due : event.due ≡ needs.File (Open name Write)
  pub came : event.came ≡ Answered told
  pub fd_is : told.answer ≡ Opened fd
  pub opens : IsOpened before name
  pub at : place ≡ opens.owed.task.place
  pub letter : bytes ≡ codes "D"

-- the newest event opened a file for writing, by this descriptor
pub record HasOpened (past : List Own) (fd : Fd) : Type 0 where
  pub event : Own
  pub before : List Own
  pub told : Told
  pub name : List ℕ
  pub newest : past ≡ event ∷ before
  pub due : event.due ≡ needs.File (Open name Write)
  pub came : event.came ≡ Answered told
  pub fd_is : told.answer ≡ Opened fd

-- the letter of some place is overwritten by `D`
pub record Overwrites (fd : Fd) (due : NeedData) : Type 0 where
  pub place : ℕ
  pub is : due ≡ needs.File (WriteAt fd place (codes "D"))

-- A file is opened for writing only for a mark, and written only after that; and after such an open nothing else is done.
pub record MarksReports (past : List Own) (due : NeedData) : Type 0 where
  pub opens : (name : List ℕ) → due ≡ needs.File (Open name Write) → IsOpened past name
  pub writes : (fd : Fd) (place : ℕ) (bytes : List ℕ) → due ≡ needs.File (WriteAt fd place bytes) → IsMark past fd place bytes
  pub follows : (fd : Fd) → HasOpened past fd → Overwrites fd due

-- Notes

-- The bounce file that is opened for a note is that of the message of the record that comes next to be marked, of which something is
-- noted.
pub record IsNoteOpened (past : List Own) (name : List ℕ) : Type 0 where
  pub channel : Channel
  pub owed : Owed
  pub failure : Failure
  pub next : ComesNext past channel owed
  pub note : owed.note ≡ Some failure
  pub file : name ≡ bounce_path owed.task.n

-- it has begun, and hasn't ended
abbrev pub IsUnderWay : NoteRow → Type 0
IsUnderWay written.Open = ⊥
IsUnderWay written.Written = ⊥
IsUnderWay written.Failed = ⊥
IsUnderWay row = Unit {0}

-- A bounce file is opened to append only for a note; and while that is being written, its next step is what is done.
pub record NotesReports (past : List Own) (due : NeedData) : Type 0 where
  pub opens : (name : List ℕ) → due ≡ needs.File (Open name Appending) → IsNoteOpened past name
  pub follows : (it : Owed) (f : Failure) (w : Writing) → it.note ≡ Some f → WritesNote past it f w → IsUnderWay w.row → due ≡ note_due w
