-- Histories that are told anew: the whole input of a child stands in its start, and may be another one as long as the child has done
-- nothing, and its parent nothing since that start.
use Rattle.std.specs.Prelude.{◌≡◌, ◌≢◌, ℕ, List, [], ◌∷◌, ◌++◌, Some}
use Rattle.call_fs.specs.Disk.{Disk}
use Rattle.call_fs.specs.declared.past.Own.{Own}
use Rattle.queue_inject.specs.Stands.{IsStartedBy}
use Rattle.world_events.specs.declared.event.Program.{Program}
use Rattle.world_events.specs.declared.event.Program.TheVariants.{Injector}
use Rattle.mail_world.specs.History.{Event, Actor, Life, State, after, EachAllowed}
use Rattle.mail_world.specs.History.Event.{Start, Act, Child, Generation, Report, End, Stop, Moment, Halt}

-- the same injector, perhaps with another input
abbrev pub IsSameButInput : Program → Program → Type 0
IsSameButInput (Injector args) (Injector others) = IsStartedBy others args.uid args.pid args.invoked args.start
IsSameButInput program other = ⊥

-- an event that is none of this parent's own, nor of its child's
abbrev pub IsApart : List ℕ → List ℕ → Event → Type 0
IsApart parent c (Start a program) = Unit {0}
IsApart parent c (Act a own wrote) = (a ≢ parent) × (a ≢ c)
IsApart parent c (Child a own b program) = (a ≢ parent) × (a ≢ c)
IsApart parent c (Generation crew) = Unit {0}
IsApart parent c (Report slot output) = Unit {0}
IsApart parent c (End a read ready status) = a ≢ c
IsApart parent c (Stop a) = Unit {0}
IsApart parent c (Moment m) = Unit {0}
IsApart parent c (Halt how contents) = Unit {0}

-- each of these
abbrev pub AreApart : List ℕ → List ℕ → List Event → Type 0
AreApart parent c [] = Unit {0}
AreApart parent c (e ∷ events) = IsApart parent c e × AreApart parent c events

-- an actor that has done nothing
abbrev pub idle : Program → Life → Actor
idle program life = record { program = program; past = []; life = life }

-- Two states are the same, but for the program of one actor, which has done nothing.
pub record AreAlikeBut (c : List ℕ) (program other : Program) (s t : State) : Type 0 where
  pub disk : t.disk ≡ s.disk
  pub holder : t.holder ≡ s.holder
  pub now : t.now ≡ s.now
  pub books : t.books ≡ s.books
  pub pipework : t.pipework ≡ s.pipework
  pub others : (a : List ℕ) → a ≢ c → t.actors a ≡ s.actors a
  pub life : Life
  pub was : s.actors c ≡ Some (idle program life)
  pub is : t.actors c ≡ Some (idle other life)

-- In a history the input of a child may be another one, if since its start neither it nor its parent did anything: each event might
-- happen when it did all the same, and leads to the same state but for the program of the child.
abbrev pub HistoriesBeginAnew : Type 0
HistoriesBeginAnew =
    (d : Disk) (later before : List Event) (parent c : List ℕ) (own : Own) (program other : Program)
    → IsSameButInput program other → AreApart parent c later → EachAllowed d (later ++ Child parent own c program ∷ before)
    → EachAllowed d (later ++ Child parent own c other ∷ before)
    × AreAlikeBut c program other (after d (later ++ Child parent own c program ∷ before)) (after d (later ++ Child parent own c other ∷ before))
