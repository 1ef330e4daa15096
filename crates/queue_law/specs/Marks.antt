-- Channel files: what they may hold, as their records are marked and machine stops come.
use Rattle.std.specs.Prelude.{◌≡◌, ◌⊎◌, ℕ, ◌<◌, List, length, Some, slice_get}
use Rattle.address_rules.specs.declared.controls.Controls.{Controls}
use Rattle.call_fs.specs.Disk.{File, Among}
use Rattle.send_known.specs.declared.channel.Channel.{Channel}
use Rattle.queue_law.specs.Ledgers.{Bounced, Ledger, Named, Spot}
use Rattle.queue_law.specs.Books.{Injection, IsValid, lane_in, spot_in}
use Rattle.queue_law.specs.Entered.{named_by}
use Rattle.queue_law.specs.Notes.{NotesDone}
use Rattle.queue_law.specs.Routes.{Recipient, IsSpot}

-- the recipient whose record stands there was reported delivered
abbrev pub IsDelivered : Ledger → Channel → ℕ → Type 0
IsDelivered l ch place = Among (record { channel = ch; place = place }) l.delivered

-- A mark may be written over the record of a recipient that was reported delivered, or whose note is synced in the bounce file under the name
-- that these controls give it.
abbrev pub MayBeMarked : Ledger → Named → Type 0
MayBeMarked l it = Among it.spot l.delivered ⊎ Among it l.noted

-- one was, by some sender: it isn't tried again
abbrev pub IsDone : Ledger → Channel → ℕ → Type 0
IsDone l ch place = (by : Controls) × Among (named_by by ch place) l.marked

-- Bytes that a channel file may have: the text that preprocessing wrote, except that `D` may stand at the place of a recipient that is done. When
-- `a@x` is, `Ta@x`, NUL and `Da@x`, NUL are both such bytes.
pub record IsMarked (text : List ℕ) (l : Ledger) (ch : Channel) (bytes : List ℕ) : Type 0 where
  pub long : length bytes ≡ length text
  pub each : (k : ℕ) → k < length text → (slice_get bytes k ≡ slice_get text k) ⊎ (IsDone l ch k × (slice_get bytes k ≡ Some 68))

-- A channel file all whose versions since its last sync are such bytes. So are those that a machine stop leaves of it: each place
-- reads as it did at that sync, or `D` if that was written since.
pub record AllMarked (i : Injection) (ch : Channel) (f : File) : Type 0 where
  pub present : IsMarked (lane_in i ch) i.ledger ch f.bytes
  pub synced : IsMarked (lane_in i ch) i.ledger ch f.kept
  pub since : (place value : ℕ) → Among (place, value) f.given → (value ≡ 68) × IsDone i.ledger ch place
  pub no_shorter : f.least ≡ length (lane_in i ch)
  pub no_longer : f.greatest ≡ length (lane_in i ch)

-- Only recipients of the message are in its ledger; what is noted of had failed; each mark might be written; and what a bounce carries was read of
-- the bounce file.
pub record HasItsSpots (i : Injection) : Type 0 where
  pub delivered : (s : Spot) → Among s i.ledger.delivered → IsSpot i.ledger.routes i.args s
  pub failed : (s : Spot) → Among s i.ledger.failed → IsSpot i.ledger.routes i.args s
  pub noted : (it : Named) → Among it i.ledger.noted → Among it.spot i.ledger.failed
  pub marked : (it : Named) → Among it i.ledger.marked → MayBeMarked i.ledger it
  pub bounced : (b : Bounced) → Among b i.ledger.bounced → Among b.read i.ledger.reads

-- each recipient of a channel is done
abbrev pub IsLaneDone : Injection → Channel → Type 0
IsLaneDone i ch = (r : Recipient i.args) → (spot_in i r).channel ≡ ch → IsDone i.ledger ch (spot_in i r).place

-- An injection of which nothing is owed: each recipient is done, that is, was reported delivered, or its note was synced; and what was noted was
-- returned, or dropped.
pub record IsSettled (i : Injection) : Type 0 where
  pub valid : IsValid i.args
  pub spots : HasItsSpots i
  pub all : (ch : Channel) → IsLaneDone i ch
  pub notes : NotesDone i
