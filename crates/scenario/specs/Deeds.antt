-- What happens in a play, deed by deed. In a history the whole input of a child stands in its start; a play is told of that input when
-- the child is given it, and what was before is then told anew.
use Rattle.std.specs.Prelude.{◌≡◌, ℕ, List, [], ◌∷◌, Bool, false, count_by}
use Rattle.std.specs.List.{sum_by}
use Rattle.call_fs.specs.declared.past.Own.{Own}
use Rattle.call_fs.specs.Disk.{Disk}
use Rattle.mail_world.specs.History.{Event, State, started_by}
use Rattle.mail_world.specs.History.Event.{Act, Child}
use Rattle.mail_world.specs.History.{after as after_events}
use Rattle.mail_world.specs.World.{Counts, Tells, begun_with, is_bounce, is_delivery, pid_after}
use Rattle.world_events.specs.declared.event.Event.{Event as Kept}
use Rattle.world_events.specs.declared.event.Event.TheVariants as kept
use Rattle.world_events.specs.declared.event.Program.{Program}

-- An event; or an event of an actor that gives a child its whole input, a message and an envelope.
pub data Deed : Type 0 where
  Came : Event → Deed
  Fed : (actor : List ℕ) (own : Own) (child message envelope : List ℕ) → Deed

-- the event that it is
abbrev pub event_in : Deed → Event
event_in (Came event) = event
event_in (Fed a own c message envelope) = Act a own 0

-- what a world kept of it
abbrev pub TellsDeed : Kept → Deed → Type 0
TellsDeed k (Came event) = Tells k event
TellsDeed k (Fed a own c message envelope) = k ≡ kept.Feed a own c message envelope

-- the history of these deeds, the newest first: each child starts with the input that it was given
abbrev pub history_of : List Deed → List Event
history_of [] = []
history_of ((Came event) ∷ before) = event ∷ history_of before
history_of ((Fed a own c message envelope) ∷ before) = Act a own 0 ∷ begun_with c message envelope (history_of before)

-- the state after these deeds, of which the first found this disk
abbrev pub after : Disk → List Deed → State
after d deeds = after_events d (history_of deeds)

-- how many programs they started, and the process number of the next one
abbrev pub started : Deed → ℕ
started deed = started_by (event_in deed)

abbrev pub next_pid : List Deed → ℕ
next_pid deeds = pid_after (sum_by started deeds)

-- how many bounces and how many deliveries they started
abbrev pub bears_such : (Program → Bool) → Event → Bool
bears_such is_such (Child parent own a program) = is_such program
bears_such is_such event = false

abbrev pub is_bounce_birth : Deed → Bool
is_bounce_birth deed = bears_such is_bounce (event_in deed)

abbrev pub is_delivery_birth : Deed → Bool
is_delivery_birth deed = bears_such is_delivery (event_in deed)

abbrev pub counts_in : List Deed → Counts
counts_in deeds = record { bounces = count_by is_bounce_birth deeds; deliveries = count_by is_delivery_birth deeds }
