-- What an event of a legal history leaves as it was, besides that each state is safe.
use Rattle.std.specs.Prelude.{◌≡◌, ◌≢◌, ℕ, List, ◌∷◌, Bool, true, false, Option, Some, None}
use Rattle.call_fs.specs.Disk.{Disk, Open}
use Rattle.queue_law.specs.Books.{Injection, IsInjected}
use Rattle.queue_law.specs.Numbers.{Role, Queue, About, about, IsSorted}
use Rattle.queue_law.specs.Injectors.{IsHeld}
use Rattle.queue_law.specs.Steps.{Outside}
use Rattle.world_events.specs.declared.event.Program.{Program}
use Rattle.mail_world.specs.ByKind.{Leaves}
use Rattle.mail_world.specs.Waiting.{HasNoGeneration}
use Rattle.mail_world.specs.History.{Event, State, happens, after, Legal}
-- what an actor runs
pub use Rattle.mail_world.specs.History.{program_of}
use Rattle.mail_world.specs.History.Event.{Start, Act, Child, Generation, Report, End, Stop, Moment, Halt}

-- the queue of a state
abbrev pub queue : State → (ℕ → Role) → Queue
queue s role = record { disk = s.disk; holder = s.holder; books = s.books; role = role }

-- all that concerns a number in a state, whatever its files were made as
abbrev pub about_in : State → ℕ → About
about_in s n = about (queue s (λ _. Role.AsOld)) n

-- a machine stop
abbrev pub is_halt : Event → Bool
is_halt (Start a program) = false
is_halt (Act a own wrote) = false
is_halt (Child parent own a program) = false
is_halt (Generation crew) = false
is_halt (Report slot output) = false
is_halt (End a read ready status) = false
is_halt (Stop a) = false
is_halt (Moment m) = false
is_halt (Halt how contents) = true

-- what an event of an actor leaves of what isn't the queue's
abbrev pub LeavesBy : Option Program → Disk → Disk → Type 0
LeavesBy None d e = Outside d e
LeavesBy (Some program) d e = Leaves program d e

-- the program whose event it is
abbrev pub doer : State → Event → Option Program
doer s (Start a program) = None
doer s (Act a own wrote) = program_of (s.actors a)
doer s (Child parent own a program) = program_of (s.actors parent)
doer s (Generation crew) = None
doer s (Report slot output) = None
doer s (End a read ready status) = program_of (s.actors a)
doer s (Stop a) = program_of (s.actors a)
doer s (Moment m) = None
doer s (Halt how contents) = None

-- an actor none of whose descriptors the event opens or closes
abbrev pub IsOther : Event → List ℕ → Type 0
IsOther (Start a program) o = Unit {0}
IsOther (Act a own wrote) o = o ≢ a
IsOther (Child parent own a program) o = o ≢ parent
IsOther (Generation crew) o = Unit {0}
IsOther (Report slot output) o = Unit {0}
IsOther (End a read ready status) o = o ≢ a
IsOther (Stop a) o = o ≢ a
IsOther (Moment m) o = Unit {0}
IsOther (Halt how contents) o = ⊥

-- What an event leaves: what was accepted; and, unless it is a machine stop, what isn't the queue's, as its program does, what
-- other actors hold open, and all that concerns a preprocessed number. A machine stop closes each descriptor.
pub record LeavesRest (s : State) (e : Event) : Type 0 where
  pub outside : is_halt e ≡ false → LeavesBy (doer s e) s.disk (happens s e).disk
  pub opens : (o : List ℕ) (fd : ℕ) (how : Open) → IsOther e o → IsHeld s.disk.opens s.holder o fd how → IsHeld (happens s e).disk.opens (happens s e).holder o fd how
  pub accepted : (i : Injection) → IsInjected s.books i → i.accepted ≡ true → IsInjected (happens s e).books i
  pub sorted : is_halt e ≡ false → (n : ℕ) → IsSorted (about_in s n) → about_in (happens s e) n ≡ about_in s n

-- so does each event of a legal history in which no generation was started
abbrev pub EventsLeave : Type 0
EventsLeave = (d : Disk) (e : Event) (before : List Event) → Legal d (e ∷ before) → HasNoGeneration (e ∷ before) → LeavesRest (after d before) e
