-- What ties what the sender keeps of a channel to the channel's files (qmail-send(8); INTERNALS, section 6), by those files alone.
use Rattle.std.specs.Prelude.{◌≡◌, ◌≤◌, ◌+◌, ℕ, List, drop, Bool, true, false, ◌&&◌, ◌==◌, Option, Some, None, All, IfSome, IsSome, count_by}
use Rattle.envelope_records.specs.declared.channel.Record.{Record}
use Rattle.send_jobs.specs.declared.attempts.Attempt.{Attempt}
use Rattle.send_jobs.specs.declared.attempts.Mark.{Mark}
use Rattle.send_jobs.specs.declared.jobs.Job.{Job}
use Rattle.send_jobs.specs.declared.lane.Lane.{Lane}
use Rattle.send_jobs.specs.Jobs.{job_of}
use Rattle.send_jobs.specs.Lanes.{next}
use Rattle.program_law.specs.Channel.Files.{Files, IsOpen}

-- How it stands with the record of the first mark: its letter is `T`; or it may be `D`, as a write of that failed; or it is `D`.
pub data First : Type 0 where
  Unwritten : First
  Unsure : First
  Written : First

-- the marks whose records read `T` for sure
abbrev pub unwritten : First → List Mark → List Mark
unwritten Unwritten marks = marks
unwritten first marks = drop 1 marks

-- the marks whose records may read `T`
abbrev pub waiting : First → List Mark → List Mark
waiting Written marks = drop 1 marks
waiting first marks = marks

-- it is an attempt at this place of this message
abbrev pub is_at : ℕ → ℕ → Attempt → Bool
is_at n place a = (a.n == n) && (a.place == place)

abbrev pub is_slot_at : ℕ → ℕ → Option Attempt → Bool
is_slot_at n place None = false
is_slot_at n place (Some a) = is_at n place a

abbrev pub is_mark_at : ℕ → ℕ → Mark → Bool
is_mark_at n place m = is_at n place m.attempt

-- how many attempts at this place the sender has in hand: still to come, in flight, or reported and to be marked
abbrev pub in_hand : First → ℕ → ℕ → Lane → ℕ
in_hand first n place lane = count_by (is_at n place) lane.left + (count_by (is_slot_at n place) lane.slots + count_by (is_mark_at n place) (waiting first lane.marks))

-- A record reads `D`, or may read `T`: as an attempt of the job left it so, or as one at it is in hand.
pub data IsSettled (job : Job) (hands : ℕ) (r : Record) : Type 0 where
  IsDone : r.done ≡ true → IsSettled job hands r
  IsSpoilt : job.unmarked ≡ true → IsSettled job hands r
  IsHeld : 1 ≤ hands → IsSettled job hands r

-- the file of the job's message is there, and each of its records is settled
pub record IsAccounted (files : Files) (first : First) (lane : Lane) (n : ℕ) (job : Job) : Type 0 where
  pub records : List Record
  pub there : files n ≡ Some records
  pub each : All (λ r. IsSettled job (in_hand first n r.place lane) r) records

-- Each attempt that is still to come, in flight, or reported and to be marked, is at a record that reads `T`, and no two of them are at
-- one record. What is still to come is of one message. Each is of a message with a job; and of each job the file is accounted for.
pub record IsTied (files : Files) (first : First) (lane : Lane) : Type 0 where
  pub to_come : All (IsOpen files) lane.left
  pub in_flight : All (λ s. IfSome s (IsOpen files)) lane.slots
  pub to_mark : All (λ m. IsOpen files m.attempt) (unwritten first lane.marks)
  pub of_one : (a : Attempt) → next lane ≡ Some a → All (λ b. b.n ≡ a.n) lane.left
  pub once : (n place : ℕ) → in_hand first n place lane ≤ 1
  pub owned : (n place : ℕ) → 1 ≤ in_hand first n place lane → IsSome (job_of n lane.jobs)
  pub accounted : (n : ℕ) (job : Job) → job_of n lane.jobs ≡ Some job → IsAccounted files first lane n job
