-- Who started, as a world keeps it.
use Rattle.std.specs.Prelude.{ℕ, List, Bool, Option, is_none}
use Rattle.mail_world.specs.declared.actor.Actor.{Actor as Held}
use Rattle.world_events.specs.declared.starts.Starts.{Starts}
use Rattle.world_events.specs.Starts as order
-- what the order of starts is
pub use Rattle.world_events.specs.Order.{others_in, number_from, crew_in, place_in, AreStarts}

-- an actor lives
abbrev pub lives : Held → Bool
lives x = is_none x.ended

-- an actor, if it lives
abbrev pub if_lives : Option Held → Option Held
if_lives o = order.if_lives lives o

abbrev pub living_in : List Held → Option ℕ → Option Held
living_in actors place = order.living_in lives actors place

-- the actor that started at a place in the order, if it lives and hasn't started again
abbrev pub start_at : Starts → List Held → ℕ → ℕ → Option Held
start_at starts actors crew at = order.start_at lives starts actors crew at

-- the first such place from one on
abbrev pub IsNextStart : Starts → List Held → ℕ → ℕ → Option (Held × ℕ) → Type 0
IsNextStart starts actors crew from found = order.IsNextStart lives starts actors crew from found
