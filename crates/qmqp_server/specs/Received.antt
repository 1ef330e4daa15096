-- A package that was received: what was read, what was done with it, and what was answered.
use Rattle.std.specs.Prelude.{◌≡◌, ◌≢◌, ◌⊎◌, ℕ, ◌≤◌, List, ◌∷◌, ◌++◌, length, take, Option, Bool, false}
use Rattle.mail_bytes.specs.Told.{Meets, Records, Rose}
use Rattle.queue_inject.specs.declared.injection.Arguments.{Arguments}
use Rattle.queue_inject.specs.declared.injection.InputEnd.TheVariants as ends
use Rattle.queue_inject.specs.Causes.{IsCausedBy}
use Rattle.queue_command.specs.Inputs.{Heard, Stream}
use Rattle.queue_command.specs.Injected.{MayBeQueued, IsReadOnce}
use Rattle.queue_command.specs.Runs.{HasRun, IsPossible, Outside, Who}
use Rattle.queue_limits.specs.declared.statuses.TheConstants.{DONE, INPUT, MALFORMED, MEMORY, OUTPUT, TOO_LONG}
use Rattle.qmqp_server.specs.declared.reader.PackageFault.{PackageFault}
use Rattle.qmqp_server.specs.declared.reader.PackageFault.TheVariants.{Cut, Malformed}
use Rattle.qmqp_server.specs.Answers.{answer_of}
use Rattle.qmqp_server.specs.Package.{IsPackage, ArePlain, IsNulTold, content_of, envelope_of, longest}
use Rattle.qmqp_server.specs.Faults.{IsTooLong, IsBroken, IsDryIfCut}
use Rattle.qmqp_server.specs.Sources.{Takes}

-- the arguments of an injector that gets this message, from this sender to these recipients
abbrev pub arguments_of : Who → ℕ → List ℕ → List ℕ → List (List ℕ) → Arguments
arguments_of who start message sender recipients = record {
  uid = who.uid;
  pid = who.pid;
  invoked = who.invoked;
  start = start;
  message = message;
  message_end = ends.Whole;
  envelope = envelope_of sender recipients;
  envelope_end = ends.Whole;
}

-- The bytes are a package, and none of its addresses has a NUL.
pub record IsPlainPackage (read : List ℕ) : Type 0 where
  pub message : List ℕ
  pub sender : List ℕ
  pub recipients : List (List ℕ)
  pub is_package : IsPackage read message sender recipients
  pub plain : ArePlain sender recipients

-- An injector was started at this moment, after the message's head was read, and was run to its end. Its file calls are those of its table,
-- for whatever input begins with what it heard of the bytes that were read; its end has its cause, and a message that may be queued is.
-- Nothing is queued but the message of a package without a NUL in an address.
pub record HasInjected (who : Who) (start : ℕ) (read : List ℕ) (old new : Outside) (status : ℕ) : Type 0 where
  pub first_read : Option (List ℕ)
  pub started : Records old.moments first_read start
  pub heard : Heard
  pub ran : HasRun (IsPossible who start heard) start (record old { moments = first_read }) new status
  pub caused : (args : Arguments) → IsPossible who start heard args → IsCausedBy args ran.past ran.last status
  pub complete : (args : Arguments) → IsPossible who start heard args → MayBeQueued args old.disk ran.past ran.last → (status ≡ 0) ⊎ (status ≡ 51)
  pub queued : status ≡ 0 → IsPlainPackage read

-- A sink, before and after: what it took, if it tells, and how often it failed.
pub record Sunk : Type 0 where
  pub old : Option (List ℕ)
  pub new : Option (List ℕ)
  pub faults_old : ℕ
  pub faults_new : ℕ

-- the answer was given whole; or the sink failed, and took at most a prefix of it
abbrev pub IsGiven : List ℕ → Sunk → ℕ → Type 0
IsGiven answer sink status =
    ((status ≡ DONE) × Meets sink.old sink.new (λ before after. after ≡ before ++ answer))
    ⊎ ((status ≡ OUTPUT) × Rose sink.faults_old sink.faults_new
    × Meets sink.old sink.new (λ before after. (count : ℕ) × (count ≤ length answer) × (after ≡ before ++ take count answer)))

-- nothing was given
pub record IsUngiven (sink : Sunk) : Type 0 where
  pub taken : sink.new ≡ sink.old
  pub faults : sink.faults_new ≡ sink.faults_old

-- 31: the length of the content is over the limit. Nothing was done but to read that.
pub record IsRefused (message : Stream) (old new : Outside) (sink : Sunk) (status : ℕ) : Type 0 where
  pub status_is : status ≡ TOO_LONG
  pub read : List ℕ
  pub takes : Takes read message
  pub long : IsTooLong read
  pub outside : new ≡ old
  pub ungiven : IsUngiven sink

-- 54: the source ended or failed within a package. 91: a head or a comma is wrong, there are fewer than two netstrings, or one runs past the
-- content.
abbrev pub status_of : PackageFault → ℕ
status_of Cut = INPUT
status_of Malformed = MALFORMED

-- No package was read. No injector was started, if the message's head wasn't read, or it queued nothing. Nothing is given.
pub record IsNone (who : Who) (message : Stream) (old new : Outside) (sink : Sunk) (status : ℕ) : Type 0 where
  pub fault : PackageFault
  pub status_is : status ≡ status_of fault
  pub read : List ℕ
  pub takes : Takes read message
  pub broken : IsBroken fault read
  pub dry : IsDryIfCut fault message
  pub injected : (new ≡ old) ⊎ ((start : ℕ) × (ended : ℕ) × HasInjected who start read old new ended × (ended ≢ 0))
  pub ungiven : IsUngiven sink

-- 51: there was no memory for the injector. No file call was made, and nothing is given.
pub record IsWithoutMemory (message : Stream) (old new : Outside) (sink : Sunk) (status : ℕ) : Type 0 where
  pub status_is : status ≡ MEMORY
  pub read : List ℕ
  pub takes : Takes read message
  pub moments : IsReadOnce old.moments new.moments
  pub disk : new.disk ≡ old.disk
  pub calls : new.calls ≡ old.calls
  pub faults : new.faults ≡ old.faults
  pub ungiven : IsUngiven sink

-- 0 or 53: a package within the limit was read whole, and no byte after it; one answer was given, as the injector ended. Without a NUL in an address, the
-- injector ran as one that gets its message, sender and recipients.
pub record IsAnswered (who : Who) (message : Stream) (old new : Outside) (sink : Sunk) (status : ℕ) : Type 0 where
  pub read : List ℕ
  pub takes : Takes read message
  pub text : List ℕ
  pub sender : List ℕ
  pub recipients : List (List ℕ)
  pub is_package : IsPackage read text sender recipients
  pub short : length (content_of text sender recipients) ≤ longest
  pub start : ℕ
  pub ended : ℕ
  pub it : HasInjected who start read old new ended
  pub has_nul : Bool
  pub nul : IsNulTold has_nul (sender ∷ recipients)
  pub whole : has_nul ≡ false → IsPossible who start it.heard (arguments_of who start text sender recipients)
  pub given : IsGiven (answer_of has_nul ended start who.pid) sink status

pub data HasReceived (who : Who) (message : Stream) (old new : Outside) (sink : Sunk) (status : ℕ) : Type 0 where
  Refused : IsRefused message old new sink status → HasReceived who message old new sink status
  NoPackage : IsNone who message old new sink status → HasReceived who message old new sink status
  NoMemory : IsWithoutMemory message old new sink status → HasReceived who message old new sink status
  Answered : IsAnswered who message old new sink status → HasReceived who message old new sink status
