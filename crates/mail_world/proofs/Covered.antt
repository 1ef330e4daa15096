-- Histories in which no generation was started.
use Rattle.std.proofs.Common.{◌≡◌, List, [], ◌∷◌, ◌++◌, false}
use Rattle.call_fs.specs.Disk.{Disk}
use Rattle.mail_world.specs.History.{Event, State, Allowed, Opening, after, Legal}
use Rattle.mail_world.specs.History.Event.{Start, Act, Child, Generation, Report, End, Stop, Moment, Halt}
use Rattle.mail_world.specs.Waiting.{HasNoGeneration, is_generation}

-- an event that may happen, and is no start of a generation
abbrev pub IsLone : State → Event → Type 0
IsLone s (Start a program) = Allowed s (Start a program)
IsLone s (Act a own wrote) = Allowed s (Act a own wrote)
IsLone s (Child parent own a program) = Allowed s (Child parent own a program)
IsLone s (Generation crew) = ⊥
IsLone s (Report slot output) = Allowed s (Report slot output)
IsLone s (End a read ready status) = Allowed s (End a read ready status)
IsLone s (Stop a) = Allowed s (Stop a)
IsLone s (Moment m) = Allowed s (Moment m)
IsLone s (Halt how contents) = Allowed s (Halt how contents)

-- a legal history of such events
abbrev pub AreLone : Disk → List Event → Type 0
AreLone d [] = Opening d
AreLone d (event ∷ before) = AreLone d before × IsLone (after d before) event

lone : (s : State) (e : Event) → Allowed s e → is_generation e ≡ false → IsLone s e
lone s (Start a program) allowed none = allowed
lone s (Act a own wrote) allowed none = allowed
lone s (Child parent own a program) allowed none = allowed
lone s (Generation crew) allowed none = absurd cc
lone s (Report slot output) allowed none = allowed
lone s (End a read ready status) allowed none = allowed
lone s (Stop a) allowed none = allowed
lone s (Moment m) allowed none = allowed
lone s (Halt how contents) allowed none = allowed

pub covered : (d : Disk) (h : List Event) → Legal d h → HasNoGeneration h → AreLone d h
covered d [] legal none = legal
covered d (e ∷ before) legal none = (covered d before legal.0 none.0, lone (after d before) e legal.1 none.1)

-- so is each prefix
pub covered_before : (later before : List Event) → HasNoGeneration (later ++ before) → HasNoGeneration before
covered_before [] before none = none
covered_before (e ∷ later) before none = covered_before later before none.0
