-- Posts: what a sender asks of a spawner, from the request that it gives to the report that it takes (qmail-send(8), qmail-lspawn(8),
-- qmail-rspawn(8)).
use Rattle.std.specs.Prelude.{◌≡◌, ◌≢◌, ◌⊎◌, ℕ, ◌+◌, ◌≤◌, List, [], ◌∷◌, ◌++◌, length, take, drop, set, Bool, true, false, Option, Some, None, flat_map, is_some, if◌then◌else◌, ◌==◌}
use Rattle.call_fs.specs.declared.past.ChildData.TheVariants as child
use Rattle.call_fs.specs.declared.past.DeliveryWordsData.{DeliveryWordsData}
use Rattle.call_fs.specs.declared.past.GotData.{GotData}
use Rattle.call_fs.specs.declared.past.GotData.TheVariants as came
use Rattle.call_fs.specs.declared.past.NeedData.{NeedData}
use Rattle.call_fs.specs.declared.past.NeedData.TheVariants as needs
use Rattle.call_fs.specs.declared.past.Own.{Own}
use Rattle.call_fs.specs.declared.program.Port.TheVariants as port
use Rattle.call_fs.specs.declared.program.Ready.{Ready}
use Rattle.call_fs.specs.Disk.{Among}
use Rattle.call_fs.specs.Maps.{put}
use Rattle.queue_paths.specs.Names.{split_text}
use Rattle.send_jobs.specs.declared.attempts.Attempt.{Attempt}
use Rattle.send_known.specs.declared.channel.Channel.{Channel}
use Rattle.send_known.specs.declared.channel.Channel.TheVariants as channel
use Rattle.send_jobs.specs.Slots.{attempt_in}
use Rattle.spawn_protocol.specs.declared.inbox.Intake.{Intake}
use Rattle.spawn_protocol.specs.declared.inbox.Intake.TheVariants as intake
use Rattle.spawn_protocol.specs.declared.report.Report.{Report}
use Rattle.spawn_protocol.specs.declared.request.Request.{Request}
use Rattle.spawn_protocol.specs.Report.{IsReport, Reader, read_on, report_text}
use Rattle.spawn_protocol.specs.Report.Reader.{AtBegin}
use Rattle.spawn_protocol.specs.Request.{request_text}
use Rattle.spawner_parts.specs.declared.place.Place.{Place}
use Rattle.spawner_parts.specs.declared.row.Row.{Row}
use Rattle.spawner_parts.specs.declared.row.Row.TheVariants as at
use Rattle.spawner_parts.specs.Asked.{host_of, runs_in}
use Rattle.spawner_parts.specs.Counts.{asked, one, runs, times}
use Rattle.spawner_parts.specs.Table.{greeting}
use Rattle.local_spawn.specs.declared.place.Place.{Place as LocalPlace}
use Rattle.local_spawn.specs.Table.{due_by as local_due, moved as local_moved}
use Rattle.remote_spawn.specs.Table.{due_by as remote_due, moved as remote_moved}
use Rattle.mail_bytes.specs.Texts.{HasNoNul}

-- A delivery that the local spawner has started: the name of its actor, and for whom it is.
pub record Task : Type 0 where
  pub name : List ℕ
  pub sender : List ℕ
  pub recipient : List ℕ

-- A delivery that ended with 0, and the slot in which it ran.
pub record Done : Type 0 where
  pub slot : ℕ
  pub task : Task

-- where a spawner stands
pub data Spawner : Type 0 where
  Local : (place : LocalPlace) → Spawner
  Remote : (place : Place) → Spawner

-- Both sides and the two pipes between them. Of the sender: whether it may give and take still; what is in flight in its slots; what it
-- holds of a report, or nothing until it took the spawner's first byte; and what lies in the pipe to it. Of the spawner: whether it lives,
-- where it stands, and what lies in the pipe to it. Of the local one, the deliveries in its slots. And what is only remembered: the
-- request that was given last for each slot, and the deliveries that ended with 0.
pub record Post : Type 0 where
  pub lives : Bool
  pub slots : List (Option Attempt)
  pub heard : Option Reader
  pub told : List ℕ
  pub serves : Bool
  pub spawner : Spawner
  pub asked : List ℕ
  pub tasks : ℕ → Option Task
  pub last : ℕ → Option Request
  pub done : List Done

-- What is in hand

abbrev pub work_of : Spawner → Place
work_of (Local place) = place.work
work_of (Remote place) = place

abbrev pub channel_of : Spawner → Channel
channel_of (Local place) = channel.Local
channel_of (Remote place) = channel.Remote

-- it lives, and hasn't lost the sender or its requests
abbrev pub goes_at : Bool → Row → Bool
goes_at true (at.Ended status) = false
goes_at true row = true
goes_at false row = false

-- the slot of the request at work, or of the report that is due
abbrev pub owed_at : Row → Place → List ℕ
owed_at at.OpenMess p = p.request.slot ∷ []
owed_at (at.ReadMess fd) p = p.request.slot ∷ []
owed_at (at.CloseMess fd whole) p = p.request.slot ∷ []
owed_at at.Start p = p.request.slot ∷ []
owed_at at.Report p = take 1 p.report
owed_at row p = []

-- how many requests for a slot a spawner has at work, in its row and in its slots
abbrev pub busy : Bool → Row → Place → ℕ → ℕ
busy true row p slot = times slot (owed_at row p) + runs slot p.running
busy false row p slot = 0

-- the whole reports that a sender may still take
abbrev pub reports_by : Bool → Option Reader → List ℕ → List Report
reports_by true (Some reader) told = (read_on reader told).0
reports_by true None told = []
reports_by false heard told = []

abbrev pub reports : Post → List Report
reports x = reports_by x.lives x.heard x.told

-- how many of them are of a slot
abbrev pub told_of : ℕ → List Report → ℕ
told_of slot [] = 0
told_of slot (r ∷ rs) = one slot r.slot + told_of slot rs

-- how many requests and reports of a slot there are: given and not taken up, at work, and reported and not taken
abbrev pub in_hand : List Request → Place → Post → ℕ → ℕ
in_hand waits p x slot = asked slot waits + (busy (goes_at x.serves p.row) p.row p slot + told_of slot (reports x))

-- how many there may be: one while an attempt is in flight in the slot, and one that a sender has left
abbrev pub most : Bool → Option Reader → Option Attempt → ℕ
most false heard flies = 1
most true None flies = 0
most true (Some reader) None = 0
most true (Some reader) (Some attempt) = 1

-- Requests

pub record HasPlainFields (r : Request) : Type 0 where
  pub mess : HasNoNul r.mess
  pub sender : HasNoNul r.sender
  pub recipient : HasNoNul r.recipient

-- nothing, or a first part of a request, which a sender gave that gives no more
pub data IsPart (tail : List ℕ) : Type 0 where
  Nothing : tail ≡ [] → IsPart tail
  Part : (r : Request) (rest : List ℕ) → HasPlainFields r → rest ≢ [] → tail ++ rest ≡ request_text r → IsPart tail

-- the bytes are these requests, one after the other, and a part of one more
pub record AreRequests (lives : Bool) (bytes : List ℕ) (waits : List Request) : Type 0 where
  pub tail : List ℕ
  pub text : bytes ≡ flat_map request_text waits ++ tail
  pub part : IsPart tail
  pub whole : lives ≡ true → tail ≡ []

-- Of a spawner that takes requests: what it took and hasn't dealt with, and what lies in its pipe. For one that takes none nothing waits.
abbrev pub Waits : Bool → Intake → Bool → (ahead given : List ℕ) → List Request → Type 0
Waits true intake.Open lives ahead given waits = AreRequests lives (ahead ++ given) waits
Waits true other lives ahead given waits = (waits ≡ []) × (ahead ≡ [])
Waits false i lives ahead given waits = waits ≡ []

-- each of them is the one that was given last for its slot
abbrev pub AreLast : (ℕ → Option Request) → List Request → Type 0
AreLast last [] = Unit {0}
AreLast last (r ∷ rs) = (last r.slot ≡ Some r) × HasPlainFields r × AreLast last rs

-- Successes

-- a delivery in this slot ended with 0 that was for this request
pub record WasDone (done : List Done) (slot : ℕ) (r : Request) : Type 0 where
  pub it : Done
  pub among : Among it done
  pub slot_is : it.slot ≡ slot
  pub sender : it.task.sender ≡ r.sender
  pub recipient : it.task.recipient ≡ r.recipient

abbrev pub WasDoneFor : List Done → ℕ → Option Request → Type 0
WasDoneFor done slot None = ⊥
WasDoneFor done slot (Some r) = WasDone done slot r

-- a success that is reported of a local delivery is one
abbrev pub Tells : Channel → List Done → (ℕ → Option Request) → Report → Type 0
Tells channel.Local done last r = r.letter ≡ 75 → WasDoneFor done r.slot (last r.slot)
Tells channel.Remote done last r = Unit {0}

abbrev pub AllTell : Channel → List Done → (ℕ → Option Request) → List Report → Type 0
AllTell c done last [] = Unit {0}
AllTell c done last (r ∷ rs) = Tells c done last r × AllTell c done last rs

-- The spawner, by its row

-- the request at work is the one that was given last for its slot, and its recipient has a host
pub record IsAtWork (last : ℕ → Option Request) (r : Request) : Type 0 where
  pub last_is : last r.slot ≡ Some r
  pub has_host : is_some (host_of r.recipient) ≡ true

-- a delivery with these words is for this request
pub record IsFor (words : DeliveryWordsData) (r : Request) : Type 0 where
  pub sender : words.sender ≡ r.sender
  pub recipient : words.local ++ 64 ∷ words.domain ≡ r.recipient

-- so is the one that the local spawner is to start
abbrev pub StartsFor : Spawner → Type 0
StartsFor (Local p) = p.work.row ≡ at.Start → IsFor p.delivery.words p.work.request
StartsFor (Remote p) = Unit {0}

-- the report that is due, as bytes
pub record IsDue (c : Channel) (done : List Done) (last : ℕ → Option Request) (bytes : List ℕ) : Type 0 where
  pub it : Report
  pub text : bytes ≡ report_text it
  pub is : IsReport it
  pub tells : Tells c done last it

abbrev pub At : Channel → List Done → (ℕ → Option Request) → Row → Place → Type 0
At c done last at.TakeInput p = p.inbox.intake ≡ intake.Open
At c done last at.OpenMess p = IsAtWork last p.request
At c done last (at.ReadMess fd) p = IsAtWork last p.request
At c done last (at.CloseMess fd whole) p = IsAtWork last p.request
At c done last at.Start p = IsAtWork last p.request
At c done last (at.TakeOutput slot) p = runs_in p.running slot ≡ true
At c done last (at.TakeStatus slot) p = runs_in p.running slot ≡ true
At c done last at.Report p = IsDue c done last p.report
At c done last row p = Unit {0}

-- the delivery in a slot is for this request
abbrev pub IsTaskFor : Option Task → Option Request → Type 0
IsTaskFor (Some t) (Some r) = (t.sender ≡ r.sender) × (t.recipient ≡ r.recipient)
IsTaskFor task r = ⊥

-- each delivery that runs is for the request that was given last for its slot
abbrev pub RunFor : Channel → List Bool → (ℕ → Option Task) → (ℕ → Option Request) → Type 0
RunFor channel.Local running tasks last = (slot : ℕ) → runs_in running slot ≡ true → IsTaskFor (tasks slot) (last slot)
RunFor channel.Remote running tasks last = Unit {0}

-- The pipe to the sender: at most the spawner's first byte until it was taken, and then reports, of which the last is whole unless the
-- spawner has ended.
abbrev pub IsToldSo : Option Reader → Bool → Row → List ℕ → Type 0
IsToldSo None on at.Greet told = told ≡ []
IsToldSo None on row told = (told ≡ []) ⊎ (told ≡ greeting)
IsToldSo (Some reader) on row told = on ≡ true → (row ≢ at.Greet) × ((read_on reader told).1 ≡ AtBegin)

-- the request that was given last is that of an attempt: for its recipient, and of its message
abbrev pub IsAskedFor : Option Request → Attempt → Type 0
IsAskedFor None a = ⊥
IsAskedFor (Some r) a = (r.recipient ≡ a.address) × (r.mess ≡ split_text a.n)

-- What holds between a sender and the spawner of a channel that stands at this place.
pub record Fares (c : Channel) (p : Place) (x : Post) : Type 0 where
  -- the requests that were given whole and that the spawner hasn't taken up
  pub waits : List Request
  pub asks : Waits (goes_at x.serves p.row) p.inbox.intake x.lives p.inbox.ahead x.asked waits
  pub lasts : AreLast x.last waits
  -- where it stands, and what it runs
  pub stands : goes_at x.serves p.row ≡ true → At c x.done x.last p.row p
  pub run : goes_at x.serves p.row ≡ true → RunFor c p.running x.tasks x.last
  -- what is told to a living sender
  pub tells : x.lives ≡ true → IsToldSo x.heard (goes_at x.serves p.row) p.row x.told
  pub well : AllTell c x.done x.last (reports x)
  -- of a slot at most one request or report is in hand
  pub once : (slot : ℕ) → in_hand waits p x slot ≤ most x.lives x.heard (attempt_in x.slots slot)
  pub flies : x.lives ≡ true → (slot : ℕ) (a : Attempt) → attempt_in x.slots slot ≡ Some a → IsAskedFor (x.last slot) a

-- so it is where its spawner stands; and a delivery that is to be started is for the request at work
pub record Posted (x : Post) : Type 0 where
  pub fares : Fares (channel_of x.spawner) (work_of x.spawner) x
  pub starts : x.serves ≡ true → StartsFor x.spawner

-- What happens to it

-- a generation begins: nothing was given, and nothing is in flight
abbrev pub fresh : Spawner → (ℕ → Option Task) → (ℕ → Option Request) → List Done → Post
fresh spawner tasks last done = record {
  lives = true;
  slots = [];
  heard = None;
  told = [];
  serves = true;
  spawner = spawner;
  asked = [];
  tasks = tasks;
  last = last;
  done = done;
}

-- the sender takes the spawner's first byte, of which these bytes are left
abbrev pub greeted : List ℕ → Post → Post
greeted rest x = record x { heard = Some AtBegin; told = rest }

-- its slots are kept in another way
abbrev pub with_slots : List (Option Attempt) → Post → Post
with_slots slots x = record x { slots = slots }

-- the sender gives the request of this attempt
abbrev pub asks_for : Attempt → Request → Post → Post
asks_for a r x = record x { slots = set x.slots r.slot (Some a); asked = x.asked ++ request_text r; last = put x.last r.slot (Some r) }

-- or so many bytes of it, after which it gives no more
abbrev pub asks_in_part : Request → ℕ → Post → Post
asks_in_part r wrote x = record x { lives = false; asked = x.asked ++ take wrote (request_text r); last = put x.last r.slot (Some r) }

-- a report is taken: nothing is in flight in its slot any more
abbrev pub freed_by : Option Attempt → ℕ → List (Option Attempt) → List (Option Attempt)
freed_by None slot slots = slots
freed_by (Some a) slot slots = set slots slot None

abbrev pub freed : Report → List (Option Attempt) → List (Option Attempt)
freed r slots = freed_by (attempt_in slots r.slot) r.slot slots

-- one after the other
abbrev pub freed_all : List Report → List (Option Attempt) → List (Option Attempt)
freed_all [] slots = slots
freed_all (r ∷ rs) slots = freed_all rs (freed r slots)

-- the sender, which holds this of a report, takes these bytes, after which those are left
abbrev pub hears : Reader → List ℕ → List ℕ → Post → Post
hears reader bytes rest x =
    let it = read_on reader bytes in record x { heard = Some it.1; told = rest; slots = freed_all it.0 x.slots }

-- the sender is lost: it ended, or was stopped, or one of its links failed
abbrev pub loses : Post → Post
loses x = record x { lives = false }

-- the spawner has ended, or was stopped
abbrev pub stops : Post → Post
stops x = record x { serves = false }

-- what is due of a spawner, and where it stands after an event
abbrev pub due_of : Spawner → Ready → NeedData
due_of (Local p) ready = local_due p ready
due_of (Remote p) ready = remote_due p ready

abbrev pub moved : Spawner → Own → Spawner
moved (Local p) event = Local (local_moved p event)
moved (Remote p) event = Remote (remote_moved p event)

-- what an event of it takes out of its pipe, and what it gives; of a giving that failed so many bytes were given
abbrev pub asked_by : NeedData → GotData → List ℕ → List ℕ
asked_by (needs.Take port.Input) (came.Took bytes) asked = drop (length bytes) asked
asked_by due got asked = asked

abbrev pub told_by : NeedData → GotData → ℕ → List ℕ → List ℕ
told_by (needs.Give port.Output text) came.Gave wrote told = told ++ text
told_by (needs.Give port.Output text) came.Failed wrote told = told ++ take wrote text
told_by due got wrote told = told

-- the delivery with this name and these words
abbrev pub task_of : List ℕ → DeliveryWordsData → Task
task_of name words = record { name = name; sender = words.sender; recipient = words.local ++ 64 ∷ words.domain }

-- what runs in its slots, if what it starts has this name
abbrev pub tasks_by : NeedData → GotData → List ℕ → (ℕ → Option Task) → ℕ → Option Task
tasks_by (needs.Start (child.Local slot words uid)) (came.Started pid) name tasks = put tasks slot (Some (task_of name words))
tasks_by (needs.Take (port.Status slot)) (came.Ended status) name tasks = put tasks slot None
tasks_by (needs.Take (port.Status slot)) came.Crashed name tasks = put tasks slot None
tasks_by due got name tasks = tasks

-- and which deliveries ended with 0
abbrev pub entered : ℕ → Option Task → List Done → List Done
entered slot None done = done
entered slot (Some t) done = record { slot = slot; task = t } ∷ done

abbrev pub done_by : NeedData → GotData → (ℕ → Option Task) → List Done → List Done
done_by (needs.Take (port.Status slot)) (came.Ended status) tasks done = if status == 0 then entered slot (tasks slot) done else done
done_by due got tasks done = done

-- the spawner has one event more
abbrev pub works : Own → ℕ → List ℕ → Post → Post
works event wrote name x = record x {
  spawner = moved x.spawner event;
  asked = asked_by event.due event.came x.asked;
  told = told_by event.due event.came wrote x.told;
  tasks = tasks_by event.due event.came name x.tasks;
  done = done_by event.due event.came x.tasks x.done;
}

-- a taking of it brings first bytes of what lies in its pipe
abbrev pub IsOffered : List ℕ → GotData → Type 0
IsOffered asked (came.Took bytes) = (rest : List ℕ) × (asked ≡ bytes ++ rest)
IsOffered asked got = Unit {0}
