-- Which exit status of an injector comes when, and why (qmail-queue(8)).
use Rattle.std.specs.Prelude.{◌≡◌, ◌≢◌, ◌⊎◌, ◌↔◌, ℕ, ◌+◌, ◌≤◌, ◌<◌, List, Option, Some, None, Bool, IsTrue, ◌||◌, ◌==◌}
use Rattle.std.specs.Option.{option_or}
use Rattle.call_fs.specs.declared.calls.CallData.{CallData}
use Rattle.call_fs.specs.declared.calls.CallData.TheVariants.{CreateExcl, Append, Sync, Link, Unlink}
use Rattle.call_fs.specs.declared.calls.Answer.{Answer}
use Rattle.call_fs.specs.declared.calls.Answer.TheVariants.{Done, Refused}
use Rattle.call_fs.specs.declared.calls.Fd.{Fd}
use Rattle.call_fs.specs.declared.calls.FsError.{FsError}
use Rattle.call_fs.specs.declared.calls.FsError.TheVariants.{Exists, Fault, Memory}
use Rattle.call_fs.specs.declared.past.NeedData.TheVariants as needs
use Rattle.call_fs.specs.declared.past.Own.{Own}
use Rattle.queue_paths.specs.Names.{path}
use Rattle.queue_paths.specs.Names.Name.{Pid, Of}
use Rattle.queue_paths.specs.Names.Part.{Mess, Intd, Todo}
use Rattle.queue_inject.specs.declared.injection.Arguments.{Arguments}
use Rattle.queue_inject.specs.Texts.{message_text, intd_text}
use Rattle.queue_inject.specs.Table.{place_after, due_by}
use Rattle.call_fs.specs.Past.{HasCall}
use Rattle.queue_limits.specs.declared.statuses.TheConstants.{DONE, IN_INTD, IN_MESS, IN_PID, IN_TODO, INPUT, LATE, LONG_ADDRESS, MALFORMED, MEMORY, OUTPUT, TOO_LONG}
use Rattle.queue_limits.specs.declared.times.TheConstants.{DAY}

-- The input

-- the status of the first fault of the input, read from the left: the message comes before the envelope
abbrev pub first_fault : Arguments → Option ℕ
first_fault args = option_or (message_text args).fault (intd_text args).fault

-- The calls

-- the pid name of a try; there are nine tries
abbrev pub pid_name : Arguments → ℕ → List ℕ
pid_name args k = path (Pid args.pid args.start k)

abbrev pub IsTry : ℕ → Type 0
IsTry k = (1 ≤ k) × (k ≤ 9)

-- the pid name of a try was taken
abbrev pub IsTaken : Arguments → ℕ → CallData → Answer → Type 0
IsTaken args k call answer = (call ≡ CreateExcl (pid_name args k)) × (answer ≡ Refused Exists)

-- the link by which a message is queued
abbrev pub IsQueuing : CallData → Answer → Type 0
IsQueuing call answer = (n : ℕ) × (call ≡ Link (path (Of Intd n)) (path (Of Todo n))) × (answer ≡ Done)

-- it removes what the injector made
abbrev pub IsCleanUp : CallData → Type 0
IsCleanUp call = (n : ℕ) × ((call ≡ Unlink (path (Of Intd n))) ⊎ (call ≡ Unlink (path (Of Mess n))))

-- A call failed: it was refused, it is no clean up, and it found no pid name taken but the ninth.
pub record IsFailure (args : Arguments) (call : CallData) (answer : Answer) : Type 0 where
  pub why : FsError
  pub refused : answer ≡ Refused why
  pub needed : ¬ (IsCleanUp call)
  pub last : (k : ℕ) → k < 9 → ¬ (IsTaken args k call answer)

-- The exit status of each call that fails.
pub data FailsWith (args : Arguments) : ℕ → CallData → Answer → Type 0 where
  -- out of memory
  WantsMemory : (call : CallData) → ¬ (IsCleanUp call) → FailsWith args MEMORY call (Refused Memory)
  -- a write or a sync
  Appends : (fd : Fd) (bytes : List ℕ) → FailsWith args OUTPUT (Append fd bytes) (Refused Fault)
  Syncs : (fd : Fd) → FailsWith args OUTPUT (Sync fd) (Refused Fault)
  -- in pid: all nine names are taken, or another failure
  TakesAll : FailsWith args IN_PID (CreateExcl (pid_name args 9)) (Refused Exists)
  MakesPid : (k : ℕ) (why : FsError) → IsTry k → why ≢ Exists → why ≢ Memory → FailsWith args IN_PID (CreateExcl (pid_name args k)) (Refused why)
  LeavesPid : (k : ℕ) (why : FsError) → IsTry k → why ≢ Memory → FailsWith args IN_PID (Unlink (pid_name args k)) (Refused why)
  -- in mess
  LinksMess : (k n : ℕ) (why : FsError) → IsTry k → why ≢ Memory → FailsWith args IN_MESS (Link (pid_name args k) (path (Of Mess n))) (Refused why)
  -- in intd
  MakesIntd : (n : ℕ) (why : FsError) → why ≢ Memory → FailsWith args IN_INTD (CreateExcl (path (Of Intd n))) (Refused why)
  -- in todo
  LinksTodo : (n : ℕ) (why : FsError) → why ≢ Memory → FailsWith args IN_TODO (Link (path (Of Intd n)) (path (Of Todo n))) (Refused why)

-- The end

-- a call is due, be it a clean up, and it has run for more than a day
pub record IsCutShort (args : Arguments) (past : List Own) (now : ℕ) : Type 0 where
  pub next : CallData
  pub due : due_by args (place_after args past) ≡ needs.File next
  pub late : args.start + DAY < now

-- the statuses of a fault of the input: an address is too long, a message or an envelope is too long, it could not be
-- read to its end, its format is wrong
abbrev pub is_of_input : ℕ → Bool
is_of_input status = (status == LONG_ADDRESS) || ((status == TOO_LONG) || ((status == INPUT) || (status == MALFORMED)))

-- the statuses of a failed call: out of memory; a write or a sync; in pid, mess, intd and todo
abbrev pub is_of_call : ℕ → Bool
is_of_call status = (status == MEMORY) || ((status == OUTPUT) || ((status == IN_PID) || ((status == IN_MESS) || ((status == IN_INTD) || (status == IN_TODO)))))

-- The run that this past is, newest event first, ended at this moment with this status.
pub record IsCausedBy (args : Arguments) (past : List Own) (now status : ℕ) : Type 0 where
  pub known : IsTrue ((status == DONE) || ((status == LATE) || (is_of_input status || is_of_call status)))
  -- 0 exactly if the link to todo was made; and exactly if the input has no fault, no call failed and the day wasn't over at
  -- a call
  pub queued : (status ≡ DONE) ↔ HasCall past IsQueuing
  pub well : (status ≡ DONE) ↔ ((first_fault args ≡ None) × (¬ (HasCall past (IsFailure args))) × (¬ (IsCutShort args past now)))
  -- 52 exactly if the day was over at a call
  pub late : (status ≡ LATE) ↔ IsCutShort args past now
  -- 11, 31, 54 or 91 exactly if the first fault of the input has this status, no call failed before, and the day wasn't
  -- over at a call
  pub input : (s : ℕ) → IsTrue (is_of_input s)
      → (status ≡ s) ↔ ((first_fault args ≡ Some s) × (¬ (HasCall past (IsFailure args))) × (¬ (IsCutShort args past now)))
  -- 51, 53 or 63 to 66 exactly if a call failed that has this status, and the day wasn't over at a clean up
  pub failed : (s : ℕ) → IsTrue (is_of_call s) → (status ≡ s) ↔ (HasCall past (FailsWith args s) × (¬ (IsCutShort args past now)))
  -- if the ninth pid name was taken, each was
  pub tried : HasCall past (IsTaken args 9) → (k : ℕ) → IsTry k → HasCall past (IsTaken args k)
  -- 0 or 51 if the input has no fault, the day wasn't over at a call, and no call failed except that memory ran out
  pub complete : first_fault args ≡ None → ¬ (IsCutShort args past now)
      → ¬ (HasCall past (λ call answer. IsFailure args call answer × (answer ≢ Refused Memory))) → (status ≡ DONE) ⊎ (status ≡ MEMORY)
