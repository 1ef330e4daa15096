-- How each recipient of an accepted message is accounted for.
use Rattle.std.specs.Prelude.{◌≡◌, ℕ, ◌<◌, ◌≤◌, List, length, Bool, true, false, not, ◌&&◌, ◌==◌, Option, Some, None, codes, slice_get}
use Rattle.std.specs.List.{list_any}
use Rattle.address_rules.specs.Nuls.{HaveNoNul}
use Rattle.envelope_records.specs.declared.channel.Record.{Record}
use Rattle.envelope_records.specs.Records.{AreRecords}
use Rattle.send_known.specs.declared.channel.Channel.{Channel}
use Rattle.call_fs.specs.Disk.{Disk, File, Among, IsSynced}
use Rattle.bounce_record.specs.Notes.{count}
use Rattle.queue_inject.specs.declared.injection.Arguments.{Arguments}
use Rattle.queue_inject.specs.Texts.{recipients_of, todo_of}
use Rattle.queue_paths.specs.Names.{path}
use Rattle.queue_paths.specs.Names.Name.{Of}
use Rattle.queue_paths.specs.Names.Part.{Bounce}
use Rattle.queue_paths.specs.Parts.{in_todo, parts_of}
use Rattle.todo_pass.specs.Places.{HasRecord}
use Rattle.queue_law.specs.Books.{Injection, Books, IsInjected, IsValid, lane_in, routed_in, spot_in}
use Rattle.queue_law.specs.Ledgers.{Bounced, Ledger, Spot}
use Rattle.queue_law.specs.Routes.{Recipient, sender_of, lane_part}
use Rattle.queue_law.specs.Marks.{IsDone, IsMarked, HasItsSpots}
use Rattle.queue_law.specs.Notes.{counted_as, is_spot, name_in}
use Rattle.queue_law.specs.Numbers.{Queue, Sound}

-- todo is there, with the injection's text, and all of it is on the disk
pub record IsInTodo (d : Disk) (i : Injection) : Type 0 where
  pub file : ℕ
  pub there : in_todo (parts_of d.names i.number) ≡ Some file
  pub text : IsSynced (d.files file) (todo_of i.args)

-- the file of its channel is there, and at its place it has `T`, its routed address and NUL
pub record IsUnmarked (d : Disk) (n : ℕ) (s : Spot) (address : List ℕ) : Type 0 where
  pub file : ℕ
  pub there : d.names (path (Of (lane_part s.channel) n)) ≡ Some file
  pub reads : HasRecord (d.files file).bytes s.place address

-- a report of it said that it was delivered to, or that it failed for good
abbrev pub is_delivered : Ledger → Spot → Bool
is_delivered l s = list_any (is_spot s) l.delivered

abbrev pub is_failed : Ledger → Spot → Bool
is_failed l s = list_any (is_spot s) l.failed

-- it failed for good, and wasn't delivered to
abbrev pub is_lost : Ledger → Spot → Bool
is_lost l s = is_failed l s && not (is_delivered l s)

-- its record reads `T`
abbrev pub is_open_letter : Option ℕ → Bool
is_open_letter None = false
is_open_letter (Some letter) = letter == 84

abbrev pub opens_at : (ℕ → File) → Option ℕ → ℕ → Bool
opens_at files None place = false
opens_at files (Some i) place = is_open_letter (slice_get (files i).bytes place)

abbrev pub is_open : Disk → ℕ → Spot → Bool
is_open d n s = opens_at d.files (d.names (path (Of (lane_part s.channel) n))) s.place

-- it is to be told to the sender: it failed for good, wasn't delivered to, and isn't tried again
abbrev pub is_to_tell : Disk → Injection → Spot → Bool
is_to_tell d i s = is_lost i.ledger s && not (is_open d i.number s)

-- The bounce file is there, and names as many of this name as there are to tell, as it is and as it was at its last sync.
pub record IsHeldIn (d : Disk) (i : Injection) (name : List ℕ) : Type 0 where
  pub file : ℕ
  pub there : d.names (path (Of Bounce i.number)) ≡ Some file
  pub present : counted_as (is_to_tell d i) i name ≤ count (d.files file).bytes name
  pub synced : counted_as (is_to_tell d i) i name ≤ count (d.files file).kept name

-- Of `mail a a@x b@y : hi` with `a@x` local, after `run a` both are Pending. After preprocessing both are Unmarked, by local/1 and
-- remote/1. Once `a@x` was reported delivered it is Delivered, whatever its record reads then, and stays so when all files are gone. When
-- `b@y` failed and its record reads `D`, it is Held by bounce/1, which names it once; and Returned when a bounce with those notes was
-- accepted, also once bounce/1 is gone. If the message came from `#@[]` it is Dropped instead.
pub data Accounted (d : Disk) (b : Books) (i : Injection) (r : Recipient i.args) : Type 0 where
  Pending : b.living i.number ≡ Some i → IsInTodo d i → Accounted d b i r
  Unmarked : b.living i.number ≡ Some i → IsUnmarked d i.number (spot_in i r) (routed_in i r) → Accounted d b i r
  Delivered : Among (spot_in i r) i.ledger.delivered → Accounted d b i r
  Held : b.living i.number ≡ Some i → Among (spot_in i r) i.ledger.failed → IsHeldIn d i (name_in i r) → Accounted d b i r
  Returned : Among (spot_in i r) i.ledger.failed → (x : Bounced) → Among x i.ledger.bounced → Among x.read i.ledger.reads
      → counted_as (is_lost i.ledger) i (name_in i r) ≤ count x.read.notes (name_in i r) → Accounted d b i r
  Dropped : Among (spot_in i r) i.ledger.failed → i.ledger.dropped ≡ true → sender_of i.args ≡ codes "#@[]" → Accounted d b i r

-- each recipient of each accepted injection is accounted for, whether its life lasts or is over
abbrev pub AllAccounted : Type 0
AllAccounted = (q : Queue) → Sound q → (i : Injection) → IsInjected q.books i → i.accepted ≡ true
    → (r : Recipient i.args) → Accounted q.disk q.books i r

-- there is a recipient for each number of one
abbrev pub RecipientsAreNumbered : Type 0
RecipientsAreNumbered = (args : Arguments) (k : ℕ) → k < length (recipients_of args) → (r : Recipient args) × (length r.earlier ≡ k)

-- A record of a channel file, as it is read, is that of this recipient. It reads `D` only if a sender wrote a mark over it.
pub record IsRecordOf (i : Injection) (ch : Channel) (r : Recipient i.args) (it : Record) : Type 0 where
  pub on : (spot_in i r).channel ≡ ch
  pub place_is : it.place ≡ (spot_in i r).place
  pub address_is : it.address ≡ routed_in i r
  pub done : it.done ≡ true → IsDone i.ledger ch it.place

-- Each record is that of a recipient, and each recipient of the channel has one.
pub record AreOfRecipients (i : Injection) (ch : Channel) (records : List Record) : Type 0 where
  pub each : (it : Record) → Among it records → (r : Recipient i.args) × IsRecordOf i ch r it
  pub all : (r : Recipient i.args) → (spot_in i r).channel ≡ ch → (it : Record) × Among it records × IsRecordOf i ch r it

-- So it is of whatever a channel file is read as, if the controls that route the message have no NUL, as all that are read.
abbrev pub RecordsAreOfRecipients : Type 0
RecordsAreOfRecipients = (i : Injection) (ch : Channel) (bytes : List ℕ) (records : List Record) → HaveNoNul i.ledger.routes → IsValid i.args
    → HasItsSpots i → IsMarked (lane_in i ch) i.ledger ch bytes → AreRecords bytes records → AreOfRecipients i ch records
