-- What holds in each state of the messages that the local spawner holds and gives: what it has read of one, what it gives to the delivery, and what
-- that takes.
use Rattle.std.specs.Prelude.{◌≡◌, ℕ, List, [], ◌++◌, Bool, true, false, ◌&&◌, Option, Some, None, Contains, codes}
use Rattle.actor_names.specs.MailNames.{members}
use Rattle.call_fs.specs.Disk.{Among, Open}
use Rattle.call_fs.specs.declared.modes.Mode.TheVariants as mode
use Rattle.call_fs.specs.declared.calls.How.TheVariants as how
use Rattle.call_fs.specs.declared.program.Port.TheVariants as port
use Rattle.call_fs.specs.Past.{taken}
use Rattle.mail_bytes.specs.Netstring.{netstring}
use Rattle.program_law.specs.Post.Posts.{Done, Task, goes_at}
use Rattle.program_law.specs.Post.Senders.{is_on}
use Rattle.queue_law.specs.Injectors.{IsHeld}
use Rattle.queue_paths.specs.Names.{split_text}
use Rattle.send_jobs.specs.declared.attempts.Attempt.{Attempt}
use Rattle.send_known.specs.declared.channel.Channel.TheVariants.{Local}
use Rattle.send_jobs.specs.Sending.{lane}
use Rattle.send_jobs.specs.Slots.{attempt_in}
use Rattle.spawn_protocol.specs.declared.request.Request.{Request}
use Rattle.spawner_parts.specs.declared.place.Place.{Place}
use Rattle.spawner_parts.specs.declared.row.Row.{Row}
use Rattle.spawner_parts.specs.declared.row.Row.TheVariants as at
use Rattle.spawner_parts.specs.Asked.{name_of_mess, runs_in}
use Rattle.world_pipes.specs.Pipework.Tenant.{Runs}
use Rattle.mail_world.specs.History.{Actor, State}
use Rattle.world_law.specs.Entered.{IsEntered}
use Rattle.world_law.specs.inside.Posts.{PostsStand, desk_in, place_in, sends_in, serves_in}

-- these are first bytes of those
pub record Begins (part whole : List ℕ) : Type 0 where
  pub rest : List ℕ
  pub text : part ++ rest ≡ whole

-- The local spawner, by its row

-- a descriptor of it reads the file of the message with this number
abbrev pub reads : ℕ → Open
reads n = record { number = n; mode = mode.Opened how.Read }

-- an input in full or in part: what a delivery of this name has taken so far, and what lies in its pipe
abbrev pub received : State → List ℕ → Actor → List ℕ
received s name x = taken x.past ++ (s.pipework.pipes name port.Input).bytes

-- nothing was given yet to the delivery in this slot
abbrev pub IsUnfed : State → (ℕ → Option Task) → ℕ → Type 0
IsUnfed s tasks slot = (t : Task) → tasks slot ≡ Some t → (x : Actor) → s.actors t.name ≡ Some x → received s t.name x ≡ []

-- What it holds of a message with this number and this text: its name; first bytes of the text; all of it; and then its netstring, which
-- the delivery is given that runs in the slot of the request.
abbrev pub HoldsText : State → (ℕ → Option Task) → (n : ℕ) → (text : List ℕ) → Row → Place → Type 0
HoldsText s tasks n text at.OpenMess p = (p.name ≡ name_of_mess p.request.mess) × (p.message ≡ [])
HoldsText s tasks n text (at.ReadMess fd) p = IsHeld s.disk.opens s.holder (codes "lspawn") fd.0 (reads n) × Begins p.message text
HoldsText s tasks n text (at.CloseMess fd true) p = p.message ≡ text
HoldsText s tasks n text at.Start p = p.message ≡ netstring text
HoldsText s tasks n text at.Feed p = (p.message ≡ netstring text) × IsUnfed s tasks p.request.slot
HoldsText s tasks n text row p = Unit {0}

-- at these rows there is such a message
abbrev pub has_message : Row → Bool
has_message at.OpenMess = true
has_message (at.ReadMess fd) = true
has_message (at.CloseMess fd whole) = true
has_message at.Start = true
has_message at.Feed = true
has_message row = false

pub record HoldsMessage (s : State) (tasks : ℕ → Option Task) (p : Place) : Type 0 where
  pub n : ℕ
  pub mess : p.request.mess ≡ split_text n
  pub message : List ℕ
  pub is : IsEntered s n message
  pub holds : HoldsText s tasks n message p.row p

-- The deliveries

-- The delivery of this name was given nothing but first bytes of the netstring of the message that this request names.
pub record IsGiven (s : State) (name : List ℕ) (r : Request) : Type 0 where
  pub n : ℕ
  pub mess : r.mess ≡ split_text n
  pub message : List ℕ
  pub is : IsEntered s n message
  pub begins : (x : Actor) → s.actors name ≡ Some x → Begins (received s name x) (netstring message)

-- it is the last request for the slot, while an attempt is in flight there
abbrev pub IsGivenFor : State → List ℕ → Option Attempt → Option Request → Type 0
IsGivenFor s name (Some t) (Some r) = IsGiven s name r
IsGivenFor s name flies last = Unit {0}

-- the request at work is the last one for its slot also while the delivery that runs there is given its message
abbrev pub FeedsLast : (ℕ → Option Request) → Row → Place → Type 0
FeedsLast last at.Feed p = (runs_in p.running p.request.slot ≡ true) × (last p.request.slot ≡ Some p.request)
FeedsLast last row p = Unit {0}

-- While both the sender and the local spawner live, and neither has ended or lost a link: the request at work has its message, and each delivery
-- that runs was given that of its request, and was started since that was given: of which slots and names that is so is a parameter.
pub record MessagesHold (B : ℕ → List ℕ → Type 0) (s : State) (P : PostsStand s) : Type 0 where
  pub work : has_message (place_in (s.actors (codes "lspawn"))).work.row ≡ true → HoldsMessage s P.tasks (place_in (s.actors (codes "lspawn"))).work
  pub feeds : FeedsLast P.last (place_in (s.actors (codes "lspawn"))).work.row (place_in (s.actors (codes "lspawn"))).work
  pub runs : (slot : ℕ) (t : Task) → P.tasks slot ≡ Some t → runs_in (place_in (s.actors (codes "lspawn"))).work.running slot ≡ true
      → IsGivenFor s t.name (attempt_in (lane Local (desk_in (s.actors (codes "sender"))).slots).slots slot) (P.last slot)
  pub started : (slot : ℕ) (t : Task) → P.tasks slot ≡ Some t → runs_in (place_in (s.actors (codes "lspawn"))).work.running slot ≡ true → B slot t.name

-- The deliveries that ended with 0 are remembered only until their slot has its next request, so that each was for the last one; and none of
-- them runs in a slot any more. This holds also when the spawner has gone.
pub record DoneHold (B : ℕ → List ℕ → Type 0) (s : State) (P : PostsStand s) : Type 0 where
  pub was : (x : Done) → Among x P.done → IsGivenFor s x.task.name (attempt_in (lane Local (desk_in (s.actors (codes "sender"))).slots).slots x.slot) (P.last x.slot)
  pub started : (x : Done) → Among x P.done → B x.slot x.task.name
  pub gone : (x : Done) → Among x P.done → (slot : ℕ) → s.pipework.programs (codes "lspawn") slot ≡ Some (Runs x.task.name) → ⊥

-- whether the sender goes on, and the local spawner
abbrev pub sends_on : State → Bool
sends_on s = sends_in (s.actors (codes "sender")) && is_on (desk_in (s.actors (codes "sender"))).row

abbrev pub serves_on : State → Bool
serves_on s = goes_at (serves_in (s.actors (codes "lspawn"))) (place_in (s.actors (codes "lspawn"))).work.row

-- nothing lies in the input of one who was never there, so that a new delivery has received nothing
abbrev pub NothingComes : State → Type 0
NothingComes s = (b : List ℕ) → s.actors b ≡ None → (Contains members b → ⊥) → (s.pipework.pipes b port.Input).bytes ≡ []

-- What holds after each event beside what stands of posts.
pub record MessagesStand (B : ℕ → List ℕ → Type 0) (s : State) : Type 0 where
  pub posts : PostsStand s
  pub new : NothingComes s
  pub hold : sends_on s ≡ true → serves_on s ≡ true → MessagesHold B s posts
  pub done : sends_on s ≡ true → DoneHold B s posts
