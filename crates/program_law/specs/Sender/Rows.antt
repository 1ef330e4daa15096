-- What a sender rests on at each row of its table, besides what it knows and keeps.
use Rattle.std.specs.Prelude.{◌≡◌, ◌≢◌, ℕ, ◌+◌, ◌-◌, ◌<◌, List, [], ◌++◌, length, drop, min, take, false, Some, None, IsSome, Contains, slice_get}
use Rattle.address_rules.specs.declared.controls.Controls.{Controls}
use Rattle.address_rules.specs.Names.{stripped}
use Rattle.bounce_record.specs.declared.bounces.Bounce.{Bounce as Bouncing}
use Rattle.bounce_record.specs.declared.note_row.NoteRow.{NoteRow}
use Rattle.bounce_record.specs.declared.note_row.NoteRow.TheVariants as written
use Rattle.bounce_record.specs.declared.return_row.ReturnRow.{ReturnRow}
use Rattle.bounce_record.specs.declared.return_row.ReturnRow.TheVariants as back
use Rattle.bounce_record.specs.Bounces.{bounce_of}
use Rattle.bounce_record.specs.Notes.{with_note}
use Rattle.bounce_record.specs.Returning.{Returning, input_of}
use Rattle.bounce_record.specs.Writing.{Writing, parted_note}
use Rattle.call_fs.specs.Disk.{Among}
use Rattle.call_fs.specs.declared.calls.How.{How}
use Rattle.call_fs.specs.declared.calls.How.TheVariants as how
use Rattle.call_fs.specs.declared.modes.Mode.{Mode}
use Rattle.queue_paths.specs.Names.{Part}
use Rattle.queue_paths.specs.Names.Name.{Of}
use Rattle.queue_paths.specs.Names.Part.{Bounce, Info, Local, Mess}
use Rattle.queue_paths.specs.Parts.{in_todo}
use Rattle.send_core.specs.declared.desk.Desk.{Desk}
use Rattle.send_parts.specs.declared.row.MarkRow.{MarkRow}
use Rattle.send_parts.specs.declared.row.MarkRow.TheVariants as mark
use Rattle.send_parts.specs.declared.row.Marked.{Marked}
use Rattle.send_parts.specs.declared.row.Point.{Point}
use Rattle.send_parts.specs.declared.row.Point.TheVariants as point
use Rattle.send_parts.specs.declared.row.Row.{Row}
use Rattle.send_parts.specs.declared.row.Row.TheVariants as at
use Rattle.send_core.specs.Turn.{told_report}
use Rattle.send_jobs.specs.declared.attempts.Failure.{Failure}
use Rattle.send_jobs.specs.declared.attempts.Mark.{Mark}
use Rattle.send_known.specs.declared.channel.Channel.{Channel}
use Rattle.send_jobs.specs.declared.jobs.Job.{Job}
use Rattle.send_jobs.specs.declared.slots.Slots.{Slots}
use Rattle.send_jobs.specs.Jobs.{job_of}
use Rattle.send_jobs.specs.Lanes.{job_over, next}
use Rattle.send_jobs.specs.Sending.{lane}
use Rattle.send_jobs.specs.Slots.{lowest}
use Rattle.send_known.specs.declared.known.Known.{Known}
use Rattle.send_known.specs.Known.{is_known, sender_of}
use Rattle.send_parts.specs.declared.book.Book.{Book}
use Rattle.send_parts.specs.declared.reading.Reading.{Reading}
use Rattle.send_parts.specs.declared.reading.Reading.TheVariants as reading
use Rattle.send_parts.specs.declared.rows.FinishRow.{FinishRow}
use Rattle.send_parts.specs.declared.rows.FinishRow.TheVariants as finish
use Rattle.send_parts.specs.declared.rows.StartRow.{StartRow}
use Rattle.send_parts.specs.declared.rows.StartRow.TheVariants as start
use Rattle.send_parts.specs.declared.rows.SweepRow.{SweepRow}
use Rattle.send_parts.specs.declared.rows.SweepRow.TheVariants as sweep
use Rattle.todo_pass.specs.Table.{Pass}
use Rattle.queue_law.specs.Books.{Injection}
use Rattle.queue_law.specs.Entered.{notes_read}
use Rattle.queue_law.specs.Bouncing.{HoldsBounce, MayDiscard, MayUnlink}
use Rattle.queue_law.specs.Injectors.{IsHeld}
use Rattle.queue_law.specs.Notes.{Covers}
use Rattle.queue_law.specs.Numbers.{Queue, Entry, look, About, about}
use Rattle.queue_law.specs.Passes.{HasOpen}
use Rattle.queue_law.specs.Ready.{IsSpent}
use Rattle.queue_law.specs.Rests.{IsAccepted, IsClosed, RestsAs}
use Rattle.queue_law.specs.Routes.{lane_part}
use Rattle.program_law.specs.Sender.InTodo.{TodoStands}
use Rattle.program_law.specs.Sender.Knows.{has_file, IsDoneIn, IsSettledIn, IsThereIf, Serves}
use Rattle.queue_limits.specs.declared.times.TheConstants.{PID_NAME_AGE}

-- no record of either channel waits for its mark
abbrev pub HasNoMarks : Slots → Type 0
HasNoMarks s = (ch : Channel) → (lane ch s).marks ≡ []

-- no job of the channel is on the message
abbrev pub HasNoJob : Channel → ℕ → Slots → Type 0
HasNoJob ch n s = job_of n (lane ch s).jobs ≡ None

-- there is no job
abbrev pub HasNoJobs : Slots → Type 0
HasNoJobs s = (ch : Channel) → (lane ch s).jobs ≡ []

-- Files

-- the file of a part of a number is there, and this descriptor of the actor's is open on it
pub record HasFile (q : Queue) (a : List ℕ) (part : Part) (n : ℕ) (how : How) (fd : ℕ) : Type 0 where
  pub file : Entry
  pub there : look q (Of part n) ≡ Some file
  pub opened : IsHeld q.disk.opens q.holder a fd (record { number = file.number; mode = Mode.Opened how })

-- so it is, and what was read of it is where it begins
pub record IsReadIn (q : Queue) (a : List ℕ) (part : Part) (n fd : ℕ) (read : List ℕ) : Type 0 where
  pub held : HasFile q a part n how.Read fd
  pub begins : read ≡ take (length read) held.file.file.bytes

-- it was read to its end
pub record HasText (q : Queue) (part : Part) (n : ℕ) (read : List ℕ) : Type 0 where
  pub file : Entry
  pub there : look q (Of part n) ≡ Some file
  pub text : read ≡ file.file.bytes

-- a reading of the file of a part
abbrev pub Reads : Queue → List ℕ → Part → ℕ → Reading → List ℕ → Type 0
Reads q a part n reading.Opening read = Unit {0}
Reads q a part n (reading.Going fd) read = IsReadIn q a part n fd.0 read
Reads q a part n (reading.Closing fd) read = HasOpen q a fd.0 × HasText q part n read
Reads q a part n (reading.Shutting fd) read = HasOpen q a fd.0

-- a reading of a file that isn't the queue's
abbrev pub ReadsOther : Queue → List ℕ → Reading → Type 0
ReadsOther q a reading.Opening = Unit {0}
ReadsOther q a (reading.Going fd) = HasOpen q a fd.0
ReadsOther q a (reading.Closing fd) = HasOpen q a fd.0
ReadsOther q a (reading.Shutting fd) = HasOpen q a fd.0

-- The start

-- A number that is seen in info has been taken up: its message was accepted, and it waits in todo or has an info file. So it stays while
-- it is unknown, whoever preprocesses it; so if todo is looked at first and it isn't there, it is preprocessed.
pub record IsTakenUp (w : About) : Type 0 where
  pub accepted : IsAccepted w
  pub mess : Entry
  pub mess_there : w.parts Mess ≡ Some mess
  pub filed : in_todo w.parts ≡ None → w.parts Info ≢ None

-- it is preprocessed, and its info file reads as was read
pub record IsLearned (q : Queue) (n : ℕ) (read : List ℕ) : Type 0 where
  pub sorted : IsSettledIn (about q n)
  pub text : HasText q Info n read

abbrev pub StartStands : Queue → List ℕ → StartRow → List ℕ → Type 0
StartStands q a (start.Control file reading) read = ReadsOther q a reading
StartStands q a (start.StatTodo split n) read = IsTakenUp (about q n)
StartStands q a (start.ReadInfo split n reading) read = IsSettledIn (about q n) × Reads q a Info n reading read
StartStands q a (start.StatInfo split n) read = IsLearned q n read
StartStands q a (start.StatLocal split n birth) read = IsLearned q n read
StartStands q a (start.StatRemote split n birth local) read = IsLearned q n read × IsThereIf local (look q (Of Local n))
StartStands q a row read = Unit {0}

-- The turn

-- Marks are made before passes begin.
abbrev pub PointStands : Point → Slots → Type 0
PointStands point.TakeLocal s = Unit {0}
PointStands point.TakeRemote s = Unit {0}
PointStands point.Reports s = Unit {0}
PointStands p s = HasNoMarks s

-- the mark at work is the first one of its channel
pub record IsFirstMark (m : Marked) (s : Slots) : Type 0 where
  pub first : Mark
  pub there : slice_get (lane m.channel s).marks 0 ≡ Some first
  pub number : first.attempt.n ≡ m.n
  pub place : first.attempt.place ≡ m.place

-- Notes

-- The note that is written is that of the first mark of its channel: of the recipient's address, with what was reported of it.
pub record NoteIsOf (controls : Controls) (m : Marked) (s : Slots) (w : Writing) : Type 0 where
  pub first : Mark
  pub there : slice_get (lane m.channel s).marks 0 ≡ Some first
  pub failure : Failure
  pub note_is : first.note ≡ Some failure
  pub number : w.n ≡ m.n
  pub text : w.text ≡ parted_note controls first.attempt.address (told_report (Some failure))

-- the name that a note of it has, and the note
abbrev pub noted_name : Controls → Mark → List ℕ
noted_name controls m = stripped controls.virtual_domains m.attempt.address

-- these bytes name each recipient of the message that is noted
pub record NamesNoted (w : About) (bytes : List ℕ) : Type 0 where
  pub sorted : IsSettledIn w
  pub covers : Covers sorted.injection bytes

-- The bounce file has what it had, which names each that is noted, and a part of the note; what is left of the text makes that whole.
pub record HasPart (q : Queue) (a : List ℕ) (n fd done : ℕ) (name report text : List ℕ) : Type 0 where
  pub held : HoldsBounce q a n fd
  pub base : List ℕ
  pub names : NamesNoted (about q n) base
  pub rest : held.file.file.bytes ++ drop done text ≡ with_note base name report

-- so it is, and the note is whole
pub record HasNote (q : Queue) (a : List ℕ) (n fd : ℕ) (name report : List ℕ) : Type 0 where
  pub held : HoldsBounce q a n fd
  pub base : List ℕ
  pub names : NamesNoted (about q n) base
  pub bytes : held.file.file.bytes ≡ with_note base name report

-- the last two bytes of it are read, or the one that it has
pub record HasTail (q : Queue) (a : List ℕ) (n fd place len : ℕ) : Type 0 where
  pub held : HoldsBounce q a n fd
  pub some : 0 < length held.file.file.bytes
  pub place_is : place ≡ length held.file.file.bytes - 2
  pub len_is : len ≡ min (length held.file.file.bytes) 2

abbrev pub NoteHolds : Controls → Queue → List ℕ → NoteRow → Marked → (name report text : List ℕ) → Type 0
NoteHolds controls q a written.Create m name report text = Unit {0}
NoteHolds controls q a (written.Stat fd) m name report text = HoldsBounce q a m.n fd.0
NoteHolds controls q a (written.Read fd place len) m name report text = HasTail q a m.n fd.0 place len
NoteHolds controls q a (written.Append fd done) m name report text = HasPart q a m.n fd.0 done name report text
NoteHolds controls q a (written.Sync fd) m name report text = HasNote q a m.n fd.0 name report
NoteHolds controls q a (written.Close fd) m name report text = HasOpen q a fd.0 × IsDoneIn controls (about q m.n) m.channel m.place
NoteHolds controls q a (written.Shut fd) m name report text = HasOpen q a fd.0
NoteHolds controls q a row m name report text = ⊥

-- a note that is written stands so
pub record NoteStands (controls : Controls) (q : Queue) (a : List ℕ) (m : Marked) (s : Slots) (w : Writing) : Type 0 where
  pub of : NoteIsOf controls m s w
  pub holds : NoteHolds controls q a w.row m (noted_name controls of.first) (told_report (Some of.failure)) w.text

-- something is noted of the first mark
pub record IsToNote (m : Marked) (s : Slots) : Type 0 where
  pub first : Mark
  pub there : slice_get (lane m.channel s).marks 0 ≡ Some first
  pub failure : Failure
  pub note_is : first.note ≡ Some failure

-- What a mark rests on: at its open and its write that its record may be marked, and what it holds open.
abbrev pub MarkHolds : Controls → Queue → List ℕ → MarkRow → Marked → Slots → Writing → Type 0
MarkHolds controls q a mark.Note m s w = IsToNote m s
MarkHolds controls q a mark.Noting m s w = NoteStands controls q a m s w
MarkHolds controls q a mark.Open m s w = IsDoneIn controls (about q m.n) m.channel m.place
MarkHolds controls q a (mark.Write fd) m s w = HasFile q a (lane_part m.channel) m.n how.Write fd.0 × IsDoneIn controls (about q m.n) m.channel m.place
MarkHolds controls q a (mark.Close fd written) m s w = HasOpen q a fd.0

-- the job of the message is over, and left no place `T`
pub record IsAllDone (ch : Channel) (n : ℕ) (s : Slots) : Type 0 where
  pub job : Job
  pub over : job_over n (lane ch s) ≡ Some job
  pub none_left : job.unmarked ≡ false

-- Finish and sweep

-- the message is known to have no file of a channel
pub record IsIdle (n : ℕ) (known : List Known) : Type 0 where
  pub it : Known
  pub there : Contains known it
  pub number : it.n ≡ n
  pub none : (ch : Channel) → has_file ch it ≡ false

-- Returns

-- what was read last of its bounce file, by a sender with these controls, is all of that as it is now
pub record HasNotesRead (by : Controls) (w : About) (notes : List ℕ) : Type 0 where
  pub file : Entry
  pub there : w.parts Bounce ≡ Some file
  pub reads : notes ≡ file.file.bytes
  pub injection : Injection
  pub lives : w.living ≡ Some injection
  pub last : notes_read (Some injection) ≡ record { notes = notes; by = by }
  pub read : Among (record { notes = notes; by = by }) injection.ledger.reads

-- the message file reads so
pub record HasMessage (w : About) (message : List ℕ) : Type 0 where
  pub file : Entry
  pub there : w.parts Mess ≡ Some file
  pub reads : message ≡ file.file.bytes

-- The input is that of the bounce that comes at some moment of the bounce file and the message file, as they are now.
pub record HasMade (controls : Controls) (w : About) (sender input : List ℕ) : Type 0 where
  pub notes : List ℕ
  pub read : HasNotesRead controls w notes
  pub message : List ℕ
  pub held : HasMessage w message
  pub moment : ℕ
  pub bounce : Bouncing
  pub made : bounce_of controls.bounce_from controls.bounce_host controls.double_bounce_to controls.double_bounce_host sender notes message moment ≡ Some bounce
  pub input_is : input ≡ input_of bounce

-- what the return of a message rests on, by what is kept of its two files
abbrev pub ReturnHolds : Controls → Queue → List ℕ → ReturnRow → Returning → ℕ → (sender : List ℕ) → Type 0
ReturnHolds controls q a (back.ReadNotes fd) r n sender = IsReadIn q a Bounce n fd.0 r.notes × (r.message ≡ [])
ReturnHolds controls q a (back.CloseNotes fd) r n sender = HasFile q a Bounce n how.Read fd.0 × (HasText q Bounce n r.notes × (r.message ≡ []))
ReturnHolds controls q a back.OpenMessage r n sender = HasNotesRead controls (about q n) r.notes × (r.message ≡ [])
ReturnHolds controls q a (back.ReadMessage fd) r n sender = HasNotesRead controls (about q n) r.notes × IsReadIn q a Mess n fd.0 r.message
ReturnHolds controls q a (back.CloseMessage fd) r n sender = HasNotesRead controls (about q n) r.notes × (HasOpen q a fd.0 × HasText q Mess n r.message)
ReturnHolds controls q a (back.Shut fd) r n sender = HasOpen q a fd.0
ReturnHolds controls q a back.Start r n sender = HasMade controls (about q n) sender r.input
ReturnHolds controls q a (back.Give pid) r n sender = HasMade controls (about q n) sender r.input
ReturnHolds controls q a (back.Await pid) r n sender = HasMade controls (about q n) sender r.input
ReturnHolds controls q a back.Unlink r n sender = MayUnlink (about q n)
ReturnHolds controls q a back.Discard r n sender = MayDiscard (about q n)
ReturnHolds controls q a row r n sender = ⊥

-- a return stands so
pub record ReturnStands (controls : Controls) (q : Queue) (a : List ℕ) (n : ℕ) (known : List Known) (r : Returning) : Type 0 where
  pub idle : IsIdle n known
  pub number : r.n ≡ n
  pub holds : ReturnHolds controls q a r.row r n (sender_of n known)

-- At the unlink of its info file a message has no bounce file.
abbrev pub FinishStands : Controls → ℕ → Queue → List ℕ → FinishRow → ℕ → List Known → Returning → Type 0
FinishStands controls now q a finish.OpenBounce n known r = IsIdle n known
FinishStands controls now q a finish.Return n known r = ReturnStands controls q a n known r
FinishStands controls now q a finish.UnlinkInfo n known r = IsIdle n known × (look q (Of Bounce n) ≡ None)
FinishStands controls now q a finish.Give n known r = IsIdle n known × RestsAs now q n IsSpent
FinishStands controls now q a finish.Take n known r = IsIdle n known
FinishStands controls now q a row n known r = Unit {0}

-- its message file was written last more than 36 hours ago
pub record IsAged (now : ℕ) (q : Queue) (n : ℕ) : Type 0 where
  pub mess : Entry
  pub there : look q (Of Mess n) ≡ Some mess
  pub old : mess.file.moment + PID_NAME_AGE < now

-- A message file that isn't known, and that at the moment of its stat was last written over 36 hours ago, is one that no injector
-- touches, so that it stays so old, and that todo/n, once it is missing, doesn't come.
abbrev pub SweepStands : ℕ → Queue → List ℕ → SweepRow → List Known → Type 0
SweepStands now q a (sweep.StatMess split n) known = is_known n known ≡ false
SweepStands now q a (sweep.StatTodo split n) known = (is_known n known ≡ false) × (IsClosed now q n × IsAged now q n)
SweepStands now q a (sweep.StatInfo split n todo) known =
    (is_known n known ≡ false) × ((IsClosed now q n × IsAged now q n) × (todo ≡ false → in_todo (about q n).parts ≡ None))
SweepStands now q a (sweep.Give split n) known = (is_known n known ≡ false) × (RestsAs now q n IsSpent × IsAged now q n)
SweepStands now q a row known = Unit {0}

-- Each row

-- what stands at work beside the book and the slots: a todo pass, a note that is written, and a return
pub record Works : Type 0 where
  pub pass : Pass
  pub note : Writing
  pub bounce : Returning

abbrev pub works : Desk → Works
works d = record { pass = d.pass; note = d.note; bounce = d.bounce }

abbrev pub RowStands : ℕ → Queue → List ℕ → Row → Book → Slots → Works → Type 0
RowStands now q a (at.Start row) b s p = HasNoMarks s × (HasNoJobs s × StartStands q a row b.read)
RowStands now q a (at.Turn point) b s p = PointStands point s
RowStands now q a (at.TakeLink ch) b s p = Unit {0}
RowStands now q a (at.Mark row m) b s p = IsFirstMark m s × MarkHolds b.controls q a row m s p.note
RowStands now q a (at.UnlinkFile ch n point) b s p = IsAllDone ch n s × PointStands point s
RowStands now q a (at.ReadFile ch n begun reading) b s p =
    HasNoMarks s × (HasNoJob ch n s × (Serves (about q n) ch × Reads q a (lane_part ch) n reading b.read))
RowStands now q a (at.Request ch) b s p = HasNoMarks s × (IsSome (next (lane ch s)) × IsSome (lowest (lane ch s).slots))
RowStands now q a (at.FindTodo search) b s p = HasNoMarks s
RowStands now q a at.InTodo b s p = HasNoMarks s × (((ch : Channel) → HasNoJob ch p.pass.n s) × TodoStands b.controls now q a p.pass.row p.pass)
RowStands now q a (at.Finish row n) b s p = HasNoMarks s × FinishStands b.controls now q a row n b.messages.known p.bounce
RowStands now q a (at.Sweep row) b s p = HasNoMarks s × SweepStands now q a row b.messages.known
RowStands now q a (at.Ended status) b s p = Unit {0}
