-- An injector that is fed a package.
use Rattle.std.specs.Prelude.{◌≡◌, ◌⊎◌, ℕ, ◌<◌, List, [], ◌++◌, Some, false, true}
use Rattle.envelope_records.specs.Envelope.{HasEnvelope}
use Rattle.queue_inject.specs.declared.injection.InputEnd.TheVariants as ends
use Rattle.queue_inject.specs.Machine.{Machine}
use Rattle.queue_command.specs.Feeding.{IsFed}
use Rattle.queue_command.specs.Inputs.{Portion, Heard, Stream}
use Rattle.queue_command.specs.Runs.{HasRun, IsPossible, Outside, Who}
use Rattle.qmqp_server.specs.declared.reader.Reader.{Reader}
use Rattle.qmqp_server.specs.Sources.{Takes}
use Rattle.qmqp_server.specs.inside.Places.{Got, heads_of, heard_of, left_of, Stands, GoesOn, FindsNul, Breaks}

-- the end of an input that can't be read on
abbrev pub unfed : Portion
unfed = record { bytes = []; end = Some ends.Unread }

-- An injector was fed this portion of what was read; or it was told that its input can't be read on.
pub record IsFedOf (m n : Machine) (old new : Reader) (got : Got) (read : List ℕ) (stream : Stream) : Type 0 where
  pub portion : Portion
  pub fed : IsFed m n portion.end portion.bytes
  pub outcome : GoesOn old new got read portion ⊎ ((portion ≡ unfed) × (FindsNul new got read ⊎ Breaks new read stream))

-- An injector was fed what came next of a package.
pub record FeedsNext (m n : Machine) (old new : Reader) (stream : Stream) : Type 0 where
  pub row : n.row ≡ m.row
  pub more : List ℕ
  pub takes : Takes more stream
  pub nearer : left_of new < left_of old
  pub on : (got : Got) (read : List ℕ) → Stands old got read → IsFedOf m n old new got (read ++ more) stream

-- no envelope begins these bytes
abbrev pub HasNoEnvelope : List ℕ → Type 0
HasNoEnvelope bytes = (sender : List ℕ) (recipients : List (List ℕ)) → ¬ (HasEnvelope bytes sender recipients)

-- the injector was told that its input can't be read on, before its envelope was whole
abbrev pub IsStopped : Heard → Type 0
IsStopped heard = (heard.message.end ≡ Some ends.Unread)
    ⊎ ((heard.message.end ≡ Some ends.Whole) × (heard.envelope.end ≡ Some ends.Unread) × HasNoEnvelope heard.envelope.bytes)

-- What an injector heard of a package: all that was read; or less, since an address has a NUL, or since it is none.
pub data Hears (reader : Reader) (read : List ℕ) (heard : Heard) (stream : Stream) : Type 0 where
  All_ : (got : Got) → Stands reader got read → reader.has_nul ≡ false → heard ≡ heard_of got → Hears reader read heard stream
  ToNul : (got : Got) → Stands reader got read → reader.has_nul ≡ true → IsStopped heard → Hears reader read heard stream
  ToFault : Breaks reader read stream → IsStopped heard → Hears reader read heard stream

-- An injector was started so, fed a new package as far as it asked for it, and run to its end.
pub record HasFed (who : Who) (start : ℕ) (old new : Reader) (stream : Stream) (before after : Outside) (status : ℕ) : Type 0 where
  pub more : List ℕ
  pub takes : Takes more stream
  pub heard : Heard
  pub hears : Hears new (heads_of old ++ more) heard stream
  pub ran : HasRun (IsPossible who start heard) start before after status
