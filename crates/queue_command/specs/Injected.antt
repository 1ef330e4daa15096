-- A whole injection: what came in, what was done with it, and why it ended so.
use Rattle.std.specs.Prelude.{◌≡◌, ◌≢◌, ◌⊎◌, ℕ, ◌≤◌, List, length, take, Contains, Option, Some, None}
use Rattle.call_fs.specs.declared.calls.FsError.TheVariants.{NotThere, Exists}
use Rattle.call_fs.specs.declared.calls.CallData.{CallData}
use Rattle.call_fs.specs.declared.calls.CallData.TheVariants.{CreateExcl}
use Rattle.call_fs.specs.declared.calls.Answer.{Answer}
use Rattle.call_fs.specs.declared.calls.Answer.TheVariants.{Refused}
use Rattle.call_fs.specs.Disk.{Disk, dir_of}
use Rattle.mail_bytes.specs.Told.{Records}
use Rattle.call_fs.specs.declared.past.Own.{Own}
use Rattle.envelope_records.specs.Envelope.{HasEnvelope}
use Rattle.queue_inject.specs.declared.injection.Arguments.{Arguments}
use Rattle.queue_inject.specs.declared.injection.InputEnd.TheVariants.{Whole}
use Rattle.queue_inject.specs.Texts.{limit}
use Rattle.call_fs.specs.Past.{HasCall}
use Rattle.queue_inject.specs.Causes.{pid_name, IsTry, IsTaken, IsCleanUp, IsCutShort, IsCausedBy}
use Rattle.queue_command.specs.declared.input.Form.{Form}
use Rattle.queue_command.specs.declared.netstring.Place.{Place}
use Rattle.queue_command.specs.Inputs.{Stream, Heard, AreRead}
use Rattle.call_fs.specs.Past.{IsFault}
use Rattle.queue_command.specs.Runs.{Outside, Who, IsPossible, HasRun}

-- Which messages are queued

-- the creation of this pid name was refused because a directory is missing
abbrev pub IsHomeless : Arguments → CallData → Answer → Type 0
IsHomeless args call answer = (k : ℕ) × IsTry k × (call ≡ CreateExcl (pid_name args k)) × (answer ≡ Refused NotThere)

-- Of the pid names one is free, and their directory is there; if the disk doesn't tell, its answers say so.
abbrev pub HasPidName : Arguments → Option Disk → List Own → Type 0
HasPidName args (Some d) past = Contains d.dirs (dir_of (pid_name args 1)) × (k : ℕ) × IsTry k × (d.names (pid_name args k) ≡ None)
HasPidName args None past = (¬ (HasCall past (IsHomeless args))) × (k : ℕ) × IsTry k × (¬ (HasCall past (IsTaken args k)))

-- another call than the creation of a pid name was refused, clean ups apart, since a name was there or missing
pub record IsOutOfPlace (args : Arguments) (call : CallData) (answer : Answer) : Type 0 where
  pub refused : (answer ≡ Refused Exists) ⊎ (answer ≡ Refused NotThere)
  pub other : (k : ℕ) → IsTry k → call ≢ CreateExcl (pid_name args k)
  pub needed : ¬ (IsCleanUp call)

-- A message that its envelope follows, both within the limit, that finds a pid name and all names in their places, within
-- a day and without a failure of the disk.
pub record MayBeQueued (args : Arguments) (disk : Option Disk) (past : List Own) (last : ℕ) : Type 0 where
  pub message_whole : args.message_end ≡ Whole
  pub message_short : length args.message ≤ limit
  pub sender : List ℕ
  pub recipients : List (List ℕ)
  pub envelope : HasEnvelope (take limit args.envelope) sender recipients
  pub in_time : ¬ (IsCutShort args past last)
  pub calm : ¬ (HasCall past IsFault)
  pub pid_name_free : HasPidName args disk past
  pub in_place : ¬ (HasCall past (IsOutOfPlace args))

-- The injection

-- An injector that was started so was fed of its sources what was read of its input, and was run to its end.
pub record HasInjectedFrom (who : Who) (start : ℕ) (form : Form) (message envelope : Stream) (old new : Outside) (status : ℕ) : Type 0 where
  pub place : Place
  pub heard : Heard
  pub input : AreRead form place message envelope heard
  pub ran : HasRun (IsPossible who start heard) start old new status

-- The clock's first reading started the injector. Its end has its cause, and a message that may be queued is, however the
-- input goes on after what was read.
pub record HasReadAndRun (who : Who) (form : Form) (message envelope : Stream) (old new : Outside) (status : ℕ) : Type 0 where
  pub start : ℕ
  pub first_read : Option (List ℕ)
  pub started : Records old.moments first_read start
  pub from_start : HasInjectedFrom who start form message envelope (record old { moments = first_read }) new status
  pub caused : (args : Arguments) → IsPossible who start from_start.heard args
      → IsCausedBy args from_start.ran.past from_start.ran.last status
  pub complete : (args : Arguments) → IsPossible who start from_start.heard args
      → MayBeQueued args old.disk from_start.ran.past from_start.ran.last → (status ≡ 0) ⊎ (status ≡ 51)

-- the clock was read once, or not at all
abbrev pub IsReadOnce : Option (List ℕ) → Option (List ℕ) → Type 0
IsReadOnce old new = (new ≡ old) ⊎ ((start : ℕ) × Records old new start)

-- There was no memory before the injector's first call, and nothing was read.
pub record IsCutOff (message envelope : Stream) (old new : Outside) (status : ℕ) : Type 0 where
  pub status_is : status ≡ 51
  pub read : IsReadOnce old.moments new.moments
  pub message_left : message.new ≡ message.old
  pub envelope_left : envelope.new ≡ envelope.old
  pub disk : new.disk ≡ old.disk
  pub calls : new.calls ≡ old.calls
  pub faults : new.faults ≡ old.faults

abbrev pub HasInjected : Who → Form → Stream → Stream → Outside → Outside → ℕ → Type 0
HasInjected who form message envelope old new status =
    HasReadAndRun who form message envelope old new status ⊎ IsCutOff message envelope old new status
