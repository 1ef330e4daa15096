-- What each event of a channel keeps, and what follows.
use Rattle.std.specs.Prelude.{◌≡◌, ◌≢◌, ℕ, ◌<◌, List, [], ◌∷◌, length, Bool, true, false, Some, None, All, Contains, IsSome, slice_get}
use Rattle.call_fs.specs.Apply.{overwritten, overwritten_part, put_over, synced}
use Rattle.call_fs.specs.Disk.{Among, File}
use Rattle.call_fs.specs.Survival.{Survives, settled}
use Rattle.envelope_records.specs.declared.channel.Record.{Record}
use Rattle.envelope_records.specs.Records.{AreRecords, letter_of}
use Rattle.send_jobs.specs.declared.attempts.Attempt.{Attempt}
use Rattle.send_jobs.specs.declared.attempts.Mark.{Mark}
use Rattle.send_jobs.specs.declared.jobs.Job.{Job}
use Rattle.send_jobs.specs.declared.lane.Lane.{Lane}
use Rattle.send_jobs.specs.Jobs.{job_of}
use Rattle.send_jobs.specs.Lanes.{begun_by, empty, ended, is_in_flight, job_over, left_unmarked, mark_settled, next, owes, reported, sent}
use Rattle.send_jobs.specs.Slots.{attempt_in, lowest}
use Rattle.program_law.specs.Channel.Files.{Files, IsOpen, marked, with_mark}
use Rattle.program_law.specs.Channel.Tied.{First, IsTied}
use Rattle.program_law.specs.Channel.Tied.First.{Unwritten, Unsure, Written}
use Rattle.program_law.specs.Channel.Versions.{HasVersions, IsMarkedFrom}

-- At first nothing is in hand.
abbrev pub StartsTied : Type 0
StartsTied = (files : Files) (limit : ℕ) → IsTied files Unwritten (empty limit)

-- A pass begins over the records that its file has. None is open, no attempt at its message is in flight, and no mark is to be made.
abbrev pub PassesKeep : Type 0
PassesKeep = (files : Files) (lane : Lane) (n begun : ℕ) (dying : Bool) (bytes : List ℕ) (records : List Record) → IsTied files Unwritten lane
    → AreRecords bytes records → files n ≡ Some records → next lane ≡ None → is_in_flight n lane ≡ false → lane.marks ≡ []
    → IsTied files Unwritten (begun_by n records begun dying lane)

-- no attempt at the record of this one is in flight
abbrev pub IsAlone : Attempt → Lane → Type 0
IsAlone a lane = (slot : ℕ) (b : Attempt) → attempt_in lane.slots slot ≡ Some b → b.n ≡ a.n → b.place ≢ a.place

-- A request is given: of a record that reads `T`, with no other attempt at it in flight.
abbrev pub RequestsKeep : Type 0
RequestsKeep = (files : Files) (first : First) (lane : Lane) (delivery slot : ℕ) (a : Attempt) → IsTied files first lane
    → next lane ≡ Some a → lowest lane.slots ≡ Some slot
    → IsOpen files a × IsAlone a lane × IsTied files first (sent delivery lane)

-- A report is taken of an attempt in flight: it is to be marked, or stays `T`.
abbrev pub ReportsKeep : Type 0
ReportsKeep = (files : Files) (lane : Lane) (slot : ℕ) (a : Attempt) (m : Mark) → IsTied files Unwritten lane → attempt_in lane.slots slot ≡ Some a → m.attempt ≡ a
    → IsTied files Unwritten (owes m (reported slot lane)) × IsTied files Unwritten (left_unmarked a.n (reported slot lane))

-- The first mark is written, by a write that is done or one that failed; and after that it is over, as made or as given up. It may be
-- given up before the write too.
pub record MarksKeep : Type 0 where
  pub written : (files : Files) (lane : Lane) (m : Mark) → IsTied files Unwritten lane → slice_get lane.marks 0 ≡ Some m → IsTied (with_mark m.attempt files) Written lane
  pub failed : (files : Files) (lane : Lane) → IsTied files Unwritten lane → IsTied files Unsure lane
  pub failed_late : (files : Files) (lane : Lane) (m : Mark) → IsTied files Unwritten lane → slice_get lane.marks 0 ≡ Some m → IsTied (with_mark m.attempt files) Unsure lane
  pub made : (files : Files) (lane : Lane) → IsTied files Written lane → IsTied files Unwritten (mark_settled lane)
  pub given_up : (files : Files) (first : First) (lane : Lane) (m : Mark) → IsTied files first lane → slice_get lane.marks 0 ≡ Some m
      → IsTied files Unwritten (left_unmarked m.attempt.n (mark_settled lane))

-- A job is over. If it left no place `T`, each record of its file reads `D`, so that the file may be unlinked. To end the job of a
-- message that has none changes nothing.
pub record JobsKeep : Type 0 where
  pub all_done : (files : Files) (lane : Lane) (n : ℕ) (job : Job) → IsTied files Unwritten lane → job_over n lane ≡ Some job → job.unmarked ≡ false
      → (records : List Record) → files n ≡ Some records → All (λ r. r.done ≡ true) records
  pub over : (files : Files) (first : First) (lane : Lane) (n : ℕ) (job : Job) → IsTied files first lane → job_over n lane ≡ Some job → IsTied files first (ended n lane)
  pub none : (files : Files) (first : First) (lane : Lane) (n : ℕ) → IsTied files first lane → job_of n lane.jobs ≡ None → IsTied files first (ended n lane)

-- Whatever else happens keeps it that leaves the files of messages with a job as they are.
abbrev pub OthersKeep : Type 0
OthersKeep = (files after : Files) (first : First) (lane : Lane) → IsTied files first lane → ((n : ℕ) → IsSome (job_of n lane.jobs) → after n ≡ files n) → IsTied after first lane

-- If `D` is written at the place of a record, the file has the same records, with that one marked.
abbrev pub MarksAreRecords : Type 0
MarksAreRecords = (bytes : List ℕ) (records : List Record) (r : Record) → AreRecords bytes records → Contains records r
    → AreRecords (put_over r.place (letter_of true ∷ []) bytes) (marked r.place records)

-- What a channel file may read: at first the text that was synced; after a write of `D` at one of some places, done or failed,
-- and after a machine stop, whatever that leaves, it is still that text except for marks. A mark may be lost by a stop, and none is made up.
pub record VersionsKeep : Type 0 where
  pub made : (marks : List ℕ) (f : File) → IsMarkedFrom f.bytes marks (synced f)
  pub more : (text : List ℕ) (marks later : List ℕ) (f : File) → ((place : ℕ) → Among place marks → Among place later) → IsMarkedFrom text marks f → IsMarkedFrom text later f
  pub written : (text : List ℕ) (marks : List ℕ) (f : File) (now place : ℕ) → Among place marks → place < length text → IsMarkedFrom text marks f
      → IsMarkedFrom text marks (overwritten now place (letter_of true ∷ []) f)
  pub failed : (text : List ℕ) (marks : List ℕ) (f : File) (now place wrote : ℕ) → Among place marks → place < length text → IsMarkedFrom text marks f
      → IsMarkedFrom text marks (overwritten_part now place (letter_of true ∷ []) wrote f)
  pub stopped : (text : List ℕ) (marks : List ℕ) (f : File) (contents : List ℕ) → IsMarkedFrom text marks f → Survives f contents → IsMarkedFrom text marks (settled contents f)

-- If marks are at places of records alone, a file that reads as a text of records does except for marks has those records, or versions of them.
abbrev pub VersionsAreRecords : Type 0
VersionsAreRecords = (text : List ℕ) (marks : List ℕ) (f : File) (records : List Record) → IsMarkedFrom text marks f → AreRecords text records
    → ((place : ℕ) → Among place marks → (r : Record) × Contains records r × (r.place ≡ place)) → HasVersions marks records f.bytes
