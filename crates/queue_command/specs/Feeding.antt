-- How an injector is fed a portion of its input from a source.
use Rattle.std.specs.Prelude.{◌≡◌, ℕ, ◌+◌, ◌≤◌, List, ◌++◌, length, drop, Option, Some, None}
use Rattle.mail_bytes.specs.Told.{Meets, Rose}
use Rattle.call_fs.specs.declared.past.Own.{Own}
use Rattle.queue_inject.specs.declared.injection.Arguments.{Arguments}
use Rattle.queue_inject.specs.declared.injection.Part.{Part}
use Rattle.queue_inject.specs.declared.injection.Part.TheVariants.{Message, Envelope}
use Rattle.queue_inject.specs.declared.injection.InputEnd.{InputEnd}
use Rattle.queue_inject.specs.declared.injection.InputEnd.TheVariants as ends
use Rattle.queue_inject.specs.declared.intake.Verdict.TheVariants.{Whole}
use Rattle.queue_inject.specs.Machine.{Machine, asks}
use Rattle.queue_inject.specs.Stands.{Stands}
use Rattle.queue_command.specs.declared.input.Form.{Form}
use Rattle.queue_command.specs.declared.input.Form.TheVariants.{Beside, Netstrings}
use Rattle.queue_command.specs.declared.netstring.Place.{Place}
use Rattle.queue_command.specs.declared.netstring.Place.TheVariants.{Head}
use Rattle.queue_command.specs.Inputs.{Portion, BeginsBy, Stream, most, IsReadIn, EndsAlone, IsBoundedBy}

-- the part of the arguments' input that is asked for goes on with this portion after the first so many bytes
abbrev pub TellsBy : Option Part → ℕ → Arguments → Option InputEnd → List ℕ → Type 0
TellsBy None fed args end bytes = Unit {0}
TellsBy (Some Message) fed args end bytes = BeginsBy end (drop fed args.message) args.message_end bytes
TellsBy (Some Envelope) fed args end bytes = BeginsBy end (drop fed args.envelope) args.envelope_end bytes

-- What an injector became that was fed this portion of the part that it asks for.
pub record IsFed (old new : Machine) (end : Option InputEnd) (bytes : List ℕ) : Type 0 where
  pub stands : (args : Arguments) (past : List Own) → Stands old args past → TellsBy (asks old) old.heard.fed args end bytes → Stands new args past
  pub rest : new ≡ record old { heard = new.heard }
  pub fed : new.heard.fed ≡ old.heard.fed + length bytes
  -- it goes on to ask only if no end was told
  pub still : (part : Part) → asks new ≡ Some part → (asks old ≡ Some part) × (end ≡ None)
  -- a message is whole only once that was told
  pub whole : asks old ≡ Some Message → new.heard.verdict ≡ Whole → end ≡ Some ends.Whole
  pub short : old.heard.fed ≤ most → IsBoundedBy end new.heard.fed

-- Whether only a failure of the source makes an input unread.
abbrev pub EndsIn : Form → Option InputEnd → Stream → Type 0
EndsIn Beside end stream = EndsAlone end stream
EndsIn Netstrings end stream = Unit {0}

-- However the part began that it asks for, the source gave the portion that it was fed now.
pub record Feeds (form : Form) (place later : Place) (old new : Machine) (stream : Stream) : Type 0 where
  pub portion : Portion
  pub fed : IsFed old new portion.end portion.bytes
  pub told : Meets stream.old stream.new (λ mid after. (faults : ℕ) (before bytes : List ℕ) → faults ≤ stream.faults_old
      → IsReadIn form place None before mid bytes (Rose faults stream.faults_old)
      → IsReadIn form later portion.end before after (bytes ++ portion.bytes) (Rose faults stream.faults_new))
  pub ends : EndsIn form portion.end stream
  pub counts : stream.faults_old ≤ stream.faults_new

-- nothing was taken of a source
pub record IsLeft (stream : Stream) : Type 0 where
  pub left : stream.new ≡ stream.old
  pub faults : stream.faults_new ≡ stream.faults_old

-- It was fed what it asks for, of the source that has it.
abbrev pub FeedsBy : Option Part → Form → Place → Place → Machine → Machine → Stream → Stream → Type 0
FeedsBy None form place later old new from beside = (new ≡ old) × (later ≡ place) × IsLeft from × IsLeft beside
FeedsBy (Some Message) Beside place later old new from beside = Feeds Beside Head Head old new from × IsLeft beside
FeedsBy (Some Envelope) Beside place later old new from beside = IsLeft from × Feeds Beside Head Head old new beside
FeedsBy (Some part) Netstrings place later old new from beside = Feeds Netstrings place later old new from × IsLeft beside
