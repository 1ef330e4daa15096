-- Jobs that left a place `T`, by the files of a channel and what the sender keeps of it.
use Rattle.std.specs.Prelude.{◌≡◌, ℕ, List, Bool, true, false, Some, None, IsSome, slice_get}
use Rattle.envelope_records.specs.declared.channel.Record.{Record}
use Rattle.program_law.specs.Channel.Files.{Files, IsOpen, with_mark}
use Rattle.program_law.specs.Channel.Tied.{First, IsTied, in_hand}
use Rattle.program_law.specs.Channel.Tied.First.{Unwritten, Written}
use Rattle.call_fs.specs.declared.calls.Fd.{Fd}
use Rattle.call_fs.specs.declared.past.GotData.{GotData}
use Rattle.program_law.specs.Sender.Rows.{IsFirstMark}
use Rattle.program_law.specs.Sender.Views.{first_at}
use Rattle.send_core.specs.Table.{act}
use Rattle.send_core.specs.Turn.{is_fine, mark_over}
use Rattle.send_core.specs.declared.desk.Desk.{Desk}
use Rattle.send_parts.specs.declared.row.MarkRow.TheVariants as mark
use Rattle.send_parts.specs.declared.row.Marked.{Marked}
use Rattle.send_parts.specs.declared.row.Point.{Point}
use Rattle.send_parts.specs.declared.row.Row.TheVariants as at
use Rattle.send_parts.specs.declared.row.Row.{Row}
use Rattle.send_jobs.specs.Jobs.{job_of}
use Rattle.send_jobs.specs.Sending.{lane}
use Rattle.send_known.specs.declared.channel.Channel.{Channel}
use Rattle.send_jobs.specs.declared.slots.Slots.{Slots}
use Rattle.send_parts.specs.Replies.{said}
use Rattle.send_parts.specs.declared.reading.Reading.{Reading}
use Rattle.send_jobs.specs.Lanes.{begun_by, empty, ended, left_unmarked, mark_settled, next, owes, reported, sent}
use Rattle.send_jobs.specs.Slots.{attempt_in}
use Rattle.send_jobs.specs.declared.attempts.Attempt.{Attempt}
use Rattle.send_jobs.specs.declared.attempts.Mark.{Mark}
use Rattle.send_jobs.specs.declared.jobs.Job.{Job}
use Rattle.send_jobs.specs.declared.lane.Lane.{Lane}

-- A record of the message reads `T`, and no attempt at it is in hand.
pub record HasLeft (files : Files) (first : First) (lane : Lane) (n : ℕ) : Type 0 where
  pub spot : Attempt
  pub of : spot.n ≡ n
  pub reads : IsOpen files spot
  pub free : in_hand first n spot.place lane ≡ 0

-- so it is of each job that left a place `T`
abbrev pub AreLeft : Files → First → Lane → Type 0
AreLeft files first lane = (n : ℕ) (job : Job) → job_of n lane.jobs ≡ Some job → job.unmarked ≡ true → HasLeft files first lane n

-- Each event of a channel keeps that in which no mark is given up after a write.
pub record LeftsKeep : Type 0 where
  pub starts : (files : Files) (limit : ℕ) → AreLeft files Unwritten (empty limit)
  pub begun : (files : Files) (lane : Lane) (n begun : ℕ) (dying : Bool) (records : List Record) → next lane ≡ None → AreLeft files Unwritten lane → AreLeft files Unwritten (begun_by n records begun dying lane)
  pub sent : (files : Files) (first : First) (lane : Lane) (delivery : ℕ) → AreLeft files first lane → AreLeft files first (sent delivery lane)
  -- a report is taken of an attempt in flight: it is to be marked, or stays `T`
  pub owed : (files : Files) (lane : Lane) (slot : ℕ) (a : Attempt) (m : Mark) → attempt_in lane.slots slot ≡ Some a → m.attempt ≡ a → AreLeft files Unwritten lane
      → AreLeft files Unwritten (owes m (reported slot lane))
  pub deferred : (files : Files) (lane : Lane) (slot : ℕ) (a : Attempt) → IsTied files Unwritten lane → attempt_in lane.slots slot ≡ Some a → AreLeft files Unwritten lane
      → AreLeft files Unwritten (left_unmarked a.n (reported slot lane))
  pub written : (files : Files) (lane : Lane) (m : Mark) → slice_get lane.marks 0 ≡ Some m → AreLeft files Unwritten lane → AreLeft (with_mark m.attempt files) Written lane
  pub made : (files : Files) (lane : Lane) → AreLeft files Written lane → AreLeft files Unwritten (mark_settled lane)
  pub given_up : (files : Files) (lane : Lane) (m : Mark) → IsTied files Unwritten lane → slice_get lane.marks 0 ≡ Some m → AreLeft files Unwritten lane
      → AreLeft files Unwritten (left_unmarked m.attempt.n (mark_settled lane))
  pub over : (files : Files) (first : First) (lane : Lane) (n : ℕ) → AreLeft files first lane → AreLeft files first (ended n lane)
  pub others : (files after : Files) (first : First) (lane : Lane) → ((n : ℕ) → IsSome (job_of n lane.jobs) → after n ≡ files n) → AreLeft files first lane → AreLeft after first lane

-- Of messages that were tried, as long as they have no job: a record of theirs reads `T`.

pub record StillReads (files : Files) (n : ℕ) : Type 0 where
  pub spot : Attempt
  pub of : spot.n ≡ n
  pub reads : IsOpen files spot

-- so it is of these messages, and each job that left a place has a record that reads `T`
abbrev pub KeepsTried : (ℕ → Bool) → Files → First → Lane → Type 0
KeepsTried tried files first lane = AreLeft files first lane × ((n : ℕ) → tried n ≡ true → job_of n lane.jobs ≡ None → StillReads files n)

-- no write of a mark has failed
abbrev pub IsSure : Row → Type 0
IsSure (at.Mark (mark.Close fd false) m) = ⊥
IsSure row = Unit {0}

-- of both channels, at this row
abbrev pub HoldsTried : (Channel → ℕ → Bool) → (Channel → Files) → Row → Slots → Type 0
HoldsTried tried files row s = IsSure row × ((ch : Channel) → KeepsTried (tried ch) (files ch) (first_at row ch) (lane ch s))

-- Takings, requests and readings keep that, where no job is on what is read.
pub record RowsHoldTried : Type 0 where
  pub takes : (tried : Channel → ℕ → Bool) (files : Channel → Files) (c : Channel) (now : ℕ) (came : GotData) (d : Desk) → ((ch : Channel) → IsTied (files ch) Unwritten (lane ch d.slots))
      → HoldsTried tried files (at.TakeLink c) d.slots → let e : Desk = act (at.TakeLink c) now came d in HoldsTried tried files e.row e.slots
  pub reads : (tried : Channel → ℕ → Bool) (files : Channel → Files) (c : Channel) (n begun : ℕ) (reading : Reading) (now : ℕ) (came : GotData) (d : Desk) → job_of n (lane c d.slots).jobs ≡ None
      → HoldsTried tried files (at.ReadFile c n begun reading) d.slots → let e : Desk = act (at.ReadFile c n begun reading) now came d in HoldsTried tried files e.row e.slots
  pub gives : (tried : Channel → ℕ → Bool) (files : Channel → Files) (c : Channel) (now : ℕ) (came : GotData) (d : Desk)
      → HoldsTried tried files (at.Request c) d.slots → let e : Desk = act (at.Request c) now came d in HoldsTried tried files e.row e.slots
  -- a file is unlinked, and its message isn't told of then
  pub unlinks : (tried : Channel → ℕ → Bool) (files : Channel → Files) (c : Channel) (n : ℕ) (p : Point) (now : ℕ) (came : GotData) (d : Desk) → is_fine (said came).way ≡ true → tried c n ≡ false
      → HoldsTried tried files (at.UnlinkFile c n p) d.slots → let e : Desk = act (at.UnlinkFile c n p) now came d in HoldsTried tried files e.row e.slots
  -- a mark is given up before its write, or is written, or is over
  pub given_up : (tried : Channel → ℕ → Bool) (files : Channel → Files) (m : Marked) (d : Desk) → ((ch : Channel) → IsTied (files ch) Unwritten (lane ch d.slots)) → IsFirstMark m d.slots
      → ((ch : Channel) → KeepsTried (tried ch) (files ch) Unwritten (lane ch d.slots)) → let e : Desk = mark_over false m d in HoldsTried tried files e.row e.slots
  pub written : (tried : ℕ → Bool) (files : Files) (lane : Lane) (m : Mark) → IsTied files Unwritten lane → slice_get lane.marks 0 ≡ Some m → KeepsTried tried files Unwritten lane
      → KeepsTried tried (with_mark m.attempt files) Written lane
  pub made : (tried : Channel → ℕ → Bool) (files : Channel → Files) (fd : Fd) (m : Marked) (now : ℕ) (came : GotData) (d : Desk)
      → HoldsTried tried files (at.Mark (mark.Close fd true) m) d.slots → let e : Desk = act (at.Mark (mark.Close fd true) m) now came d in HoldsTried tried files e.row e.slots
