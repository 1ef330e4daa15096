-- What each event of a sender and of a spawner keeps of what lies between them.
use Rattle.std.specs.Prelude.{◌≡◌, ◌≢◌, ℕ, List, [], ◌∷◌, ◌++◌, true, false, Option, Some, None}
use Rattle.address_rules.specs.Names.{verp_of}
use Rattle.call_fs.specs.declared.past.NeedData.{NeedData}
use Rattle.call_fs.specs.declared.past.NeedData.TheVariants as needs
use Rattle.call_fs.specs.declared.past.Own.{Own}
use Rattle.call_fs.specs.declared.program.Port.TheVariants as port
use Rattle.call_fs.specs.Disk.{Among}
use Rattle.queue_paths.specs.Names.{split_text}
use Rattle.send_core.specs.declared.desk.Desk.{Desk}
use Rattle.send_core.specs.Desk.{heard, link, told}
use Rattle.send_jobs.specs.declared.attempts.Attempt.{Attempt}
use Rattle.send_known.specs.declared.channel.Channel.{Channel}
use Rattle.send_known.specs.declared.channel.Channel.TheVariants as channel
use Rattle.send_jobs.specs.Sending.{lane}
use Rattle.send_jobs.specs.Slots.{attempt_in, lowest}
use Rattle.send_links.specs.Requests.{request_of, to_slot}
use Rattle.spawn_protocol.specs.declared.report.Report.{Report}
use Rattle.spawn_protocol.specs.declared.request.Request.{Request}
use Rattle.spawn_protocol.specs.Report.{Reader, counted, read_on}
use Rattle.spawn_protocol.specs.Request.{request_text}
use Rattle.spawner_parts.specs.Table.{begun, greeting}
use Rattle.local_spawn.specs.Table.{begun as local_begun}
use Rattle.program_law.specs.Post.Posts.{Done, HasPlainFields, IsOffered, Post, Posted, Task, asks_for, asks_in_part, channel_of, due_of, fresh, freed, freed_all, greeted, hears, loses, stops, with_slots, works}
use Rattle.mail_bytes.specs.Texts.{HasNoNul}
use Rattle.program_law.specs.Post.Posts.Spawner.{Local, Remote}

-- A generation begins, whatever ran in the slots of others, was asked for and was done before.
abbrev pub StartsPosted : Type 0
StartsPosted = (tasks : ℕ → Option Task) (last : ℕ → Option Request) (done : List Done)
    → Posted (fresh (Local local_begun) tasks last done) × Posted (fresh (Remote begun) tasks last done)

-- What a sender takes first is the spawner's first byte, and all that lies there.
pub record Greets (bytes rest : List ℕ) (x : Post) : Type 0 where
  pub keeps : Posted (greeted rest x)
  pub byte : bytes ≡ greeting
  pub all : rest ≡ []

abbrev pub GreetsKeep : Type 0
GreetsKeep = (bytes rest : List ℕ) (x : Post) → Posted x → x.lives ≡ true → x.heard ≡ None → x.told ≡ bytes ++ rest → bytes ≢ [] → Greets bytes rest x

-- Of the sender's slots only what is in flight in them counts.
abbrev pub SlotsKeep : Type 0
SlotsKeep = (slots : List (Option Attempt)) (x : Post) → Posted x → ((slot : ℕ) → attempt_in slots slot ≡ attempt_in x.slots slot) → Posted (with_slots slots x)

-- A request is given, for the lowest free slot and for the attempt's recipient, whole or in part.
pub record AsksKeep : Type 0 where
  pub whole : (reader : Reader) (a : Attempt) (r : Request) (x : Post) → Posted x → x.lives ≡ true → x.heard ≡ Some reader → lowest x.slots ≡ Some r.slot
      → HasPlainFields r → r.recipient ≡ a.address → r.mess ≡ split_text a.n → Posted (asks_for a r x)
  pub part : (reader : Reader) (r : Request) (wrote : ℕ) (x : Post) → Posted x → x.lives ≡ true → x.heard ≡ Some reader → lowest x.slots ≡ Some r.slot
      → HasPlainFields r → Posted (asks_in_part r wrote x)

-- The request for a recipient of a message, as the sender's table has it. It has no NUL except those that end its fields, if the message's
-- sender and its recipient have none.
abbrev pub request_for : ℕ → ℕ → (sender recipient : List ℕ) → Request
request_for slot n sender recipient = record { slot = slot; mess = split_text n; sender = verp_of sender recipient; recipient = recipient }

pub record RequestsArePlain : Type 0 where
  pub text : (slot n : ℕ) (sender recipient : List ℕ) → to_slot slot (request_of n sender recipient) ≡ request_text (request_for slot n sender recipient)
  pub plain : (slot n : ℕ) (sender recipient : List ℕ) → HasNoNul sender → HasNoNul recipient → HasPlainFields (request_for slot n sender recipient)

-- An event of a spawner that is due

-- a taking of requests
abbrev pub TakesInKeep : Type 0
TakesInKeep = (event : Own) (wrote : ℕ) (name : List ℕ) (x : Post) → Posted x → x.serves ≡ true → event.due ≡ due_of x.spawner event.ready
    → event.due ≡ needs.Take port.Input → IsOffered x.asked event.came → Posted (works event wrote name x)

-- a giving of its first byte or of a report, also a failed one
abbrev pub ReportsKeep : Type 0
ReportsKeep = (event : Own) (wrote : ℕ) (name text : List ℕ) (x : Post) → Posted x → x.serves ≡ true → event.due ≡ due_of x.spawner event.ready
    → event.due ≡ needs.Give port.Output text → Posted (works event wrote name x)

-- any other, with whatever comes of it: a file call, a start, a giving to a program, or a taking of what one printed or of its status
abbrev pub IsWork : NeedData → Type 0
IsWork (needs.Take port.Input) = ⊥
IsWork (needs.Give port.Output text) = ⊥
IsWork due = Unit {0}

abbrev pub WorksKeep : Type 0
WorksKeep = (event : Own) (wrote : ℕ) (name : List ℕ) (x : Post) → Posted x → x.serves ≡ true → event.due ≡ due_of x.spawner event.ready
    → IsWork event.due → Posted (works event wrote name x)

-- So does any event of a spawner that is due.
abbrev pub SpawnersKeep : Type 0
SpawnersKeep = (event : Own) (wrote : ℕ) (name : List ℕ) (x : Post) → Posted x → x.serves ≡ true → event.due ≡ due_of x.spawner event.ready
    → (event.due ≡ needs.Take port.Input → IsOffered x.asked event.came) → Posted (works event wrote name x)

-- A delivery that ended with 0 was for this recipient, and ran in this slot.
pub record WasDelivered (done : List Done) (slot : ℕ) (recipient : List ℕ) : Type 0 where
  pub it : Done
  pub among : Among it done
  pub slot_is : it.slot ≡ slot
  pub recipient_is : it.task.recipient ≡ recipient

-- A report that is taken is of the attempt in flight in its slot, and a success of a local one is of such a delivery.
abbrev pub IsTrueOf : Channel → List Done → Report → Attempt → Type 0
IsTrueOf channel.Local done r a = counted r.letter ≡ 75 → WasDelivered done r.slot a.address
IsTrueOf channel.Remote done r a = Unit {0}

abbrev pub IsHeard : Channel → List Done → Report → Option Attempt → Type 0
IsHeard c done r None = ⊥
IsHeard c done r (Some a) = IsTrueOf c done r a

-- so is each of these, which are taken one after the other
abbrev pub AreHeard : Channel → List Done → List Report → List (Option Attempt) → Type 0
AreHeard c done [] slots = Unit {0}
AreHeard c done (r ∷ rs) slots = IsHeard c done r (attempt_in slots r.slot) × AreHeard c done rs (freed r slots)

-- The sender takes bytes, with the reports that end in them.
pub record Hears (reader : Reader) (bytes rest : List ℕ) (x : Post) : Type 0 where
  pub keeps : Posted (hears reader bytes rest x)
  pub each : AreHeard (channel_of x.spawner) x.done (read_on reader bytes).0 x.slots

abbrev pub HearsKeep : Type 0
HearsKeep = (reader : Reader) (bytes rest : List ℕ) (x : Post) → Posted x → x.lives ≡ true → x.heard ≡ Some reader → x.told ≡ bytes ++ rest
    → Hears reader bytes rest x

-- What the stop or end of the sender and of the spawner leave of it; and after both, as after a machine stop, nothing is in hand.
pub record LossesKeep : Type 0 where
  pub lost : (x : Post) → Posted x → Posted (loses x)
  pub stopped : (x : Post) → Posted x → Posted (stops x)
  pub gone : (x : Post) → x.lives ≡ false → x.serves ≡ false → Posted x

-- What a sender keeps of its slots, and of a report that has begun, after it took a report, and after it took bytes; of the other channel that is
-- what it was.
pub record DesksTell : Type 0 where
  pub one : (c : Channel) (r : Report) (d : Desk) → (lane c (told c r d).slots).slots ≡ freed r (lane c d.slots).slots
  pub all : (c : Channel) (bytes : List ℕ) (d : Desk) → (lane c (heard c bytes d).slots).slots ≡ freed_all (read_on (link c d).reader bytes).0 (lane c d.slots).slots
  pub reader : (c : Channel) (bytes : List ℕ) (d : Desk) → (link c (heard c bytes d)).reader ≡ (read_on (link c d).reader bytes).1
  pub others : (c e : Channel) (bytes : List ℕ) (d : Desk) → e ≢ c
      → ((lane e (heard c bytes d).slots).slots ≡ (lane e d.slots).slots) × ((link e (heard c bytes d)).reader ≡ (link e d).reader)
