-- How lives are read off the events of a world, event by event.
use Rattle.std.specs.Prelude.{◌≡◌, ℕ, List, [], ◌∷◌, ◌++◌, Bool, true, false, ◌&&◌, bytes_eq, if◌then◌else◌, Option, Some, None, Contains, codes}
use Rattle.queue_inject.specs.declared.injection.Arguments.{Arguments}
use Rattle.world_events.specs.declared.event.Event.{Event as Kept}
use Rattle.world_events.specs.declared.event.Event.TheVariants as kept
use Rattle.world_events.specs.declared.event.Program.{Program}
use Rattle.world_events.specs.declared.event.Program.TheVariants as kinds
use Rattle.world_events.specs.Programs.{injection_of}
use Rattle.actor_names.specs.MailNames.{members}
use Rattle.send_core.specs.Stands.{Machine as Sender, Stands}
use Rattle.send_core.specs.Table.{Next}
use Rattle.call_fs.specs.declared.past.Own.{Own}
use Rattle.call_fs.specs.Past.{IsRunBy}
use Rattle.call_fs.specs.Program.{MayCome}
use Rattle.mail_world.specs.History.{Event, Actor, State, IsSender, MayRead, MayRun, next_of}
use Rattle.mail_world.specs.World.{Tells}
use Rattle.scenario.specs.declared.fates.Following.{Following}
use Rattle.scenario.specs.declared.showing.Given.{Given}
use Rattle.script_fates.specs.Fates.{AreFates}
use Rattle.scenario.specs.Fates.{IsNamedSo}

-- the newest sender stands for its past, which is a run
abbrev pub IsHeard : Option Sender → Option Actor → Type 0
IsHeard None o = o ≡ None
IsHeard (Some m) None = ⊥
IsHeard (Some m) (Some x) = ((start : ℕ) × (x.program ≡ kinds.Sender start)) × Stands m None x.past × IsRunBy (Next None) x.past

-- what is kept stands for a state
pub record Follows (f : Following) (s : State) : Type 0 where
  pub fates : AreFates f.fates s.books
  pub heard : IsHeard f.sender (s.actors (codes "sender"))

-- so who has a member's name doesn't start alone, who hasn't is an injector or a delivery, and a sender has its own name
pub record AreNamed (s : State) : Type 0 where
  pub member : (a : List ℕ) (x : Actor) → s.actors a ≡ Some x → Contains members a → MayRun x.program → ⊥
  pub alone : (a : List ℕ) (x : Actor) → s.actors a ≡ Some x → ¬ (Contains members a) → IsNamedSo a x.program
  pub sender : (a : List ℕ) (x : Actor) → s.actors a ≡ Some x → IsSender x.program → a ≡ codes "sender"

-- An actor did what was due to it, and what may come of that came: an event of its own, or the start of a child.
pub record HasDone (s : State) (a : List ℕ) (own : Own) : Type 0 where
  pub actor : Actor
  pub reads : MayRead s a actor own.read
  pub due : next_of actor.program actor.past own.read own.ready ≡ own.due
  pub came : MayCome own.due own.came

-- a kept event as a history has it: a child starts with the input that it is given later, and a giving is like any other
abbrev pub IsReadAs : Kept → Kept → Type 0
IsReadAs (kept.Child a own c program) read = (whole : Program) × (read ≡ kept.Child a own c whole)
IsReadAs (kept.Feed a own c message envelope) read = read ≡ kept.Act a own
IsReadAs event read = read ≡ event

-- so it tells that event
abbrev pub TellsRead : Kept → Event → Type 0
TellsRead k event = (read : Kept) × IsReadAs k read × Tells read event

-- an injector that was started: its name, whether it is a child, and the envelope that it was given so far
pub record Receiver : Type 0 where
  pub actor : List ℕ
  pub is_child : Bool
  pub envelope : List ℕ

abbrev pub receiver : Given → Receiver
receiver g = record { actor = g.actor.now; is_child = g.is_child; envelope = g.envelope.now }

abbrev pub received_by : List ℕ → Bool → Option Arguments → List Receiver
received_by a is_child None = []
received_by a is_child (Some args) = record { actor = a; is_child = is_child; envelope = args.envelope } ∷ []

-- the newest child of that name is given this envelope, of these, the newest first
abbrev pub is_given : List ℕ → Receiver → Bool
is_given c r = r.is_child && bytes_eq r.actor c

abbrev pub given_to : List ℕ → List ℕ → List Receiver → List Receiver
given_to c envelope [] = []
given_to c envelope (r ∷ before) = if is_given c r then record r { envelope = envelope } ∷ before else (r ∷ given_to c envelope before)

-- the injectors that these events started, both the newest first
abbrev pub receivers_in : List Kept → List Receiver
receivers_in [] = []
receivers_in ((kept.Start a program) ∷ before) = received_by a false (injection_of program) ++ receivers_in before
receivers_in ((kept.Child a own c program) ∷ before) = received_by c true (injection_of program) ++ receivers_in before
receivers_in ((kept.Feed a own c message envelope) ∷ before) = given_to c envelope (receivers_in before)
receivers_in (event ∷ before) = receivers_in before
