-- What holds of the messages that a sender knows, that are due on a channel, that have a job there, or wait for a mark.
use Rattle.std.specs.Prelude.{◌≡◌, ℕ, Bool, true, false, Option, Some, None}
use Rattle.address_rules.specs.declared.controls.Controls.{Controls}
use Rattle.send_parts.specs.declared.row.Row.{Row}
use Rattle.send_parts.specs.declared.row.Row.TheVariants as at
use Rattle.call_fs.specs.Disk.{Among}
use Rattle.send_jobs.specs.declared.attempts.Failure.{Failure}
use Rattle.send_jobs.specs.declared.attempts.Mark.{Mark}
use Rattle.send_known.specs.declared.channel.Channel.{Channel}
use Rattle.send_known.specs.declared.channel.Channel.TheVariants.{Local, Remote}
use Rattle.send_known.specs.declared.known.Known.{Known}
use Rattle.send_parts.specs.declared.rows.FinishRow.{FinishRow}
use Rattle.send_parts.specs.declared.rows.FinishRow.TheVariants as finish
use Rattle.queue_paths.specs.Names.Part.{Info}
use Rattle.queue_paths.specs.Parts.{in_todo}
use Rattle.queue_law.specs.Books.{Injection}
use Rattle.queue_law.specs.Entered.{named_by}
use Rattle.queue_law.specs.Ledgers.{Ledger}
use Rattle.queue_law.specs.Marks.{IsDelivered, MayBeMarked}
use Rattle.queue_law.specs.Numbers.{Entry, About}
use Rattle.queue_law.specs.Routes.{lane_part, sender_of}

-- the message is known to have a file of the channel
abbrev pub has_file : Channel → Known → Bool
has_file Local k = k.local
has_file Remote k = k.remote

-- the file is there, or it isn't
abbrev pub IsThereIf : Bool → Option Entry → Type 0
IsThereIf true o = (y : Entry) × (o ≡ Some y)
IsThereIf false o = o ≡ None

-- The number is preprocessed: todo is gone, and info is there, of the injection whose life lasts.
pub record IsSettledIn (w : About) : Type 0 where
  pub no_todo : in_todo w.parts ≡ None
  pub info : Entry
  pub info_there : w.parts Info ≡ Some info
  pub injection : Injection
  pub lives : w.living ≡ Some injection

-- A known message: its number is preprocessed, its sender is that of its injection, and a channel file that it isn't known to have is
-- not there.
pub record IsKnown (w : About) (k : Known) : Type 0 where
  pub sorted : IsSettledIn w
  pub sender_is : k.sender ≡ sender_of sorted.injection.args
  pub gone : (ch : Channel) → has_file ch k ≡ false → w.parts (lane_part ch) ≡ None

-- the cleaner is to remove the message, or was told to: its info file is gone
abbrev pub IsRemoved : FinishRow → Type 0
IsRemoved finish.Give = Unit {0}
IsRemoved finish.Take = Unit {0}
IsRemoved row = ⊥

-- of one that has ended nothing more is asked
abbrev pub IsLeaving : Row → ℕ → Type 0
IsLeaving (at.Finish row m) n = IsRemoved row × (m ≡ n)
IsLeaving (at.Ended status) n = Unit {0}
IsLeaving row n = ⊥

-- so it is of each, except the one whose finish has begun to remove it
pub data Knows (row : Row) (w : About) (k : Known) : Type 0 where
  Stays : IsKnown w k → Knows row w k
  Leaves : IsLeaving row k.n → Knows row w k

-- The number is preprocessed, and its file of the channel is there.
pub record Serves (w : About) (ch : Channel) : Type 0 where
  pub sorted : IsSettledIn w
  pub file : Entry
  pub there : w.parts (lane_part ch) ≡ Some file

-- what was reported of the recipient whose record stands at this place: that it was delivered to, or if something is noted of it, that it
-- failed for good
abbrev pub IsReported : Option Failure → Ledger → Channel → ℕ → Type 0
IsReported None l ch place = IsDelivered l ch place
IsReported (Some failure) l ch place = Among (record { channel = ch; place = place }) l.failed

-- so it is in the ledger, of the recipient of a mark
pub record IsEntered (w : About) (ch : Channel) (m : Mark) : Type 0 where
  pub injection : Injection
  pub lives : w.living ≡ Some injection
  pub reported : IsReported m.note injection.ledger ch m.attempt.place

-- it was delivered to, or its note is synced under the name that it has by these controls: its record may be marked
pub record IsDoneIn (by : Controls) (w : About) (ch : Channel) (place : ℕ) : Type 0 where
  pub sorted : IsSettledIn w
  pub done : MayBeMarked sorted.injection.ledger (named_by by ch place)
