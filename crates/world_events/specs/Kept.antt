-- The history that a world keeps.
use Rattle.std.specs.Prelude.{ℕ, ◌+◌, ◌≤◌, List, vec_len, vec_capacity}
use Rattle.world_events.specs.declared.event.Event.{Event}
use Rattle.world_events.specs.declared.event.History.{History}

-- its events, the oldest first
abbrev pub events_of : History → List Event
events_of h = h.events.items

-- room for so many events more
abbrev pub HasRoom : History → ℕ → Type 0
HasRoom h more = vec_len h.events + more ≤ vec_capacity h.events
