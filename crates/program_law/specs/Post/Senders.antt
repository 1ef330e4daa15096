-- The sender's half of a post by its desk, and what an event of the sender does to a post (qmail-send(8)).
use Rattle.std.specs.Prelude.{◌≡◌, ◌≢◌, ◌⊎◌, ℕ, List, [], ◌++◌, length, take, drop, Bool, true, false, Option, Some, None}
use Rattle.call_fs.specs.declared.past.GotData.{GotData}
use Rattle.call_fs.specs.declared.past.GotData.TheVariants as came
use Rattle.call_fs.specs.declared.past.NeedData.{NeedData}
use Rattle.call_fs.specs.declared.past.NeedData.TheVariants as needs
use Rattle.call_fs.specs.declared.past.Own.{Own}
use Rattle.call_fs.specs.declared.program.Port.{Port}
use Rattle.call_fs.specs.declared.program.Port.TheVariants as port
use Rattle.call_fs.specs.Program.{MayCome}
use Rattle.send_core.specs.declared.desk.Desk.{Desk}
use Rattle.send_parts.specs.declared.row.Row.{Row}
use Rattle.send_parts.specs.declared.row.Row.TheVariants as at
use Rattle.send_core.specs.Desk.{link}
use Rattle.send_core.specs.Table.{begun, due_at, moved, port_of, row_now}
use Rattle.send_jobs.specs.declared.attempts.Attempt.{Attempt}
use Rattle.send_known.specs.declared.channel.Channel.{Channel}
use Rattle.send_known.specs.declared.channel.Channel.TheVariants as channel
use Rattle.send_jobs.specs.Lanes.{next}
use Rattle.send_jobs.specs.Sending.{lane}
use Rattle.send_jobs.specs.Slots.{attempt_in, lowest}
use Rattle.send_parts.specs.declared.rows.StartRow.{StartRow}
use Rattle.send_parts.specs.declared.rows.StartRow.TheVariants as start
use Rattle.send_links.specs.Requests.{request_of, to_slot}
use Rattle.spawn_protocol.specs.declared.request.Request.{Request}
use Rattle.spawn_protocol.specs.Report.{Reader}
use Rattle.spawn_protocol.specs.Report.Reader.{AtBegin}
use Rattle.program_law.specs.Post.Posts.{Post, Posted}
use Rattle.mail_bytes.specs.Texts.{HasNoNul}

-- The half

-- it hasn't ended, nor lost a link
abbrev pub is_on : Row → Bool
is_on (at.Ended status) = false
is_on row = true

-- the rows of its start before it took the first byte of both spawners
abbrev pub is_early : StartRow → Bool
is_early (start.Control f reading) = true
is_early start.GreetLocal = true
is_early (start.GreetRemote limit) = true
is_early row = false

abbrev pub IsLate : Row → Type 0
IsLate (at.Start row) = is_early row ≡ false
IsLate row = Unit {0}

-- what it holds of a report of a channel, once it took that byte of the spawner
abbrev pub heard_in : StartRow → Channel → Reader → Option Reader
heard_in (start.Control f reading) c reader = None
heard_in start.GreetLocal c reader = None
heard_in (start.GreetRemote limit) channel.Local reader = Some reader
heard_in (start.GreetRemote limit) channel.Remote reader = None
heard_in row c reader = Some reader

abbrev pub heard_at : Row → Channel → Reader → Option Reader
heard_at (at.Start row) c reader = heard_in row c reader
heard_at row c reader = Some reader

-- a post whose sender has this desk
abbrev pub with_desk : Channel → Desk → Post → Post
with_desk c d x = record x { lives = is_on d.row; slots = (lane c d.slots).slots; heard = heard_at d.row c (link c d).reader }

-- until it took both bytes nothing is in flight, and nothing has come of a report
pub record IsQuiet (d : Desk) : Type 0 where
  pub free : (c : Channel) (slot : ℕ) → attempt_in (lane c d.slots).slots slot ≡ None
  pub unread : (c : Channel) → (link c d).reader ≡ AtBegin

abbrev pub IsFirst : Row → Desk → Type 0
IsFirst (at.Start row) d = is_early row ≡ true → IsQuiet d
IsFirst row d = Unit {0}

-- An event

-- what it gives to the spawner; of a giving that failed so many bytes were given
abbrev pub put_in : GotData → ℕ → (text asked : List ℕ) → List ℕ
put_in came.Gave wrote text asked = asked ++ text
put_in came.Failed wrote text asked = asked ++ take wrote text
put_in got wrote text asked = asked

abbrev pub given_to : Channel → Port → GotData → ℕ → (text asked : List ℕ) → List ℕ
given_to channel.Local port.Lspawn got wrote text asked = put_in got wrote text asked
given_to channel.Remote port.Rspawn got wrote text asked = put_in got wrote text asked
given_to c p got wrote text asked = asked

abbrev pub asked_on : Channel → NeedData → GotData → ℕ → List ℕ → List ℕ
asked_on c (needs.Give p text) got wrote asked = given_to c p got wrote text asked
asked_on c due got wrote asked = asked

-- and what it takes
abbrev pub taken_out : GotData → List ℕ → List ℕ
taken_out (came.Took bytes) told = drop (length bytes) told
taken_out got told = told

abbrev pub taken_from : Channel → Port → GotData → List ℕ → List ℕ
taken_from channel.Local port.Lspawn got told = taken_out got told
taken_from channel.Remote port.Rspawn got told = taken_out got told
taken_from c p got told = told

abbrev pub told_on : Channel → NeedData → GotData → List ℕ → List ℕ
told_on c (needs.Take p) got told = taken_from c p got told
told_on c due got told = told

-- the sender has one event more, after which these requests are those that were given last
abbrev pub sends : Channel → Desk → Own → ℕ → (ℕ → Option Request) → Post → Post
sends c d event wrote last x =
    with_desk c (moved d event) (record x { asked = asked_on c event.due event.came wrote x.asked; told = told_on c event.due event.came x.told; last = last })

-- What it rests on

-- a taking brings first bytes of what lies in the pipe, and some
abbrev pub IsSome : GotData → List ℕ → Type 0
IsSome (came.Took bytes) told = (bytes ≢ []) × ((rest : List ℕ) × (told ≡ bytes ++ rest))
IsSome got told = Unit {0}

-- a giving is of the request of the next attempt, for the lowest free slot
pub record AsksFor (c : Channel) (d : Desk) (text : List ℕ) : Type 0 where
  pub attempt : Attempt
  pub next_is : next (lane c d.slots) ≡ Some attempt
  pub slot : ℕ
  pub free : lowest (lane c d.slots).slots ≡ Some slot
  pub sender : List ℕ
  pub sender_plain : HasNoNul sender
  pub address_plain : HasNoNul attempt.address
  pub is : text ≡ to_slot slot (request_of attempt.n sender attempt.address)

-- the event that is due, and what its takings and givings rest on
pub record IsSent (c : Channel) (d : Desk) (event : Own) (x : Post) : Type 0 where
  pub due : event.due ≡ due_at (row_now d event.read event.ready) d
  pub may : MayCome event.due event.came
  -- between two steps it doesn't begin anew
  pub late : IsLate d.row → IsLate (row_now d event.read event.ready)
  pub takes : event.due ≡ needs.Take (port_of c) → IsSome event.came x.told
  pub gives : (text : List ℕ) → event.due ≡ needs.Give (port_of c) text → AsksFor c d text

-- What it leaves of the slots: none but the lowest that was free has another last request,
abbrev pub AsksInLowest : List (Option Attempt) → (before last : ℕ → Option Request) → Type 0
AsksInLowest slots before last = (slot : ℕ) → (last slot ≡ before slot) ⊎ (lowest slots ≡ Some slot)

-- and what is in flight in another one was so before.
abbrev pub FliesInLowest : (before slots : List (Option Attempt)) → Type 0
FliesInLowest before slots = (slot : ℕ) (a : Attempt) → attempt_in slots slot ≡ Some a → (attempt_in before slot ≡ Some a) ⊎ (lowest before ≡ Some slot)

pub record Sends (c : Channel) (d : Desk) (event : Own) (wrote : ℕ) (x : Post) : Type 0 where
  pub last : ℕ → Option Request
  pub keeps : Posted (sends c d event wrote last x)
  pub first : IsFirst (moved d event).row (moved d event)
  pub asks : AsksInLowest (lane c d.slots).slots x.last last
  -- unless the sender is lost by it
  pub flies : is_on (moved d event).row ≡ true → FliesInLowest (lane c d.slots).slots (lane c (moved d event).slots).slots

pub record SendersKeep : Type 0 where
  pub begins : (turns : Option ℕ) → IsFirst (begun turns).row (begun turns)
  pub goes_on : (c : Channel) (d : Desk) (event : Own) (wrote : ℕ) (x : Post) → Posted (with_desk c d x) → IsFirst d.row d → IsSent c d event x → Sends c d event wrote x
