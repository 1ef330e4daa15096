-- The life of a message number: from an injector's link to the name of its message file to the next such link.
use Rattle.std.specs.Option.{option_and_then}
use Rattle.std.specs.Prelude.{◌≡◌, ◌≢◌, ◌⊎◌, ℕ, List, [], ◌∷◌, ◌++◌, Option, Some, None}
use Rattle.call_fs.specs.Disk.{Disk}
use Rattle.call_fs.specs.declared.calls.Answer.{Answer}
use Rattle.call_fs.specs.declared.calls.Answer.TheVariants.{Done}
use Rattle.call_fs.specs.declared.calls.CallData.{CallData}
use Rattle.call_fs.specs.declared.calls.CallData.TheVariants.{Link}
use Rattle.call_fs.specs.declared.past.GotData.{GotData}
use Rattle.call_fs.specs.declared.past.GotData.TheVariants.{Answered}
use Rattle.call_fs.specs.declared.past.NeedData.{NeedData}
use Rattle.call_fs.specs.declared.past.NeedData.TheVariants as needs
use Rattle.call_fs.specs.declared.past.Own.{Own}
use Rattle.queue_law.specs.Books.{Injection}
use Rattle.queue_paths.specs.Names.{parse}
use Rattle.world_events.specs.Books.{mess_number}
use Rattle.world_events.specs.declared.event.Program.{Program}
use Rattle.world_events.specs.declared.event.Program.TheVariants.{Injector, Sender}
use Rattle.mail_world.specs.History.{Actor, Event, State, after}
use Rattle.mail_world.specs.History.Event.{Act}

-- the number whose life a call begins: an Ok link to mess/N
abbrev pub begun_at : CallData → Answer → Option ℕ
begun_at (Link old new) Done = mess_number (parse new)
begun_at call answer = None

abbrev pub begun_by : Program → NeedData → GotData → Option ℕ
begun_by (Injector args) (needs.File call) (Answered told) = begun_at call told.answer
begun_by program due came = None

-- the number whose life an event begins: such a call of an injector
abbrev pub begun_in : State → Event → Option ℕ
begun_in s (Act a own wrote) = option_and_then (λ (x : Actor). begun_by x.program own.due own.came) (s.actors a)
begun_in s event = None

-- none of these events, which came after those, began a life of the number
abbrev pub Lasts : Disk → List Event → List Event → ℕ → Type 0
Lasts d [] before n = Unit {0}
Lasts d (event ∷ later) before n = Lasts d later before n × (begun_in (after d (later ++ before)) event ≢ Some n)

-- The life of this injection lasts to the end of these events, which are all of the history, or the next event began another: if first `a` and later
-- `b` linked mess/1, that of a's injection to the events before b's link, and that of b's to all of them.
abbrev pub IsLifeOf : Disk → List Event → List Event → Injection → Type 0
IsLifeOf d h life i = ((after d life).books.living i.number ≡ Some i)
    × ((h ≡ life) ⊎ ((rest : List Event) × (event : Event) × (h ≡ rest ++ event ∷ life) × (begun_in (after d life) event ≡ Some i.number)))

-- these events end at a point of it
abbrev pub IsInLife : Disk → List Event → List Event → Injection → Type 0
IsInLife d h until i = (later : List Event) × Lasts d later until i.number × IsLifeOf d h (later ++ until) i

-- With the newest of these events a sender did this.
pub record SenderDid (d : Disk) (h : List Event) : Type 0 where
  pub name : List ℕ
  pub own : Own
  pub wrote : ℕ
  pub earlier : List Event
  pub all : h ≡ Act name own wrote ∷ earlier
  pub sender : Actor
  pub is : (after d earlier).actors name ≡ Some sender
  pub start : ℕ
  pub program : sender.program ≡ Sender start
