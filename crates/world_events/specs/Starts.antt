-- Who started, as it is kept in order, and who of these lives.
use Rattle.std.specs.Prelude.{◌≡◌, ℕ, ◌+◌, ◌-◌, ◌≤◌, ◌<◌, List, Bool, false, Option, Some, None, nat_lt, if◌then◌else◌, length, vec_len, vec_capacity}
use Rattle.std.specs.List.{slice_get}
use Rattle.actor_names.specs.MailNames.{members}
use Rattle.world_events.specs.declared.starts.Starts.{Starts}

-- the same starts, perhaps with more room
pub record IsSameOrder (old new : Starts) : Type 0 where
  pub order : new.order.items ≡ old.order.items
  pub newest : new.newest ≡ old.newest

-- room for so many more
abbrev pub HasRoomFor : Starts → ℕ → Type 0
HasRoomFor starts more = vec_len starts.order + more ≤ vec_capacity starts.order

-- The place among all actors, of whom so many are members, of the one that started at a place in the order: that of a member, if it is one
-- of the newest generation, or that of any other actor.
abbrev pub place_by_entry : ℕ → ℕ → ℕ → Option ℕ → Option ℕ
place_by_entry crew newest at None = None
place_by_entry crew newest at (Some entry) = if nat_lt entry (length members) then (if nat_lt at newest then None else Some entry) else Some (crew + (entry - length members))

abbrev pub place_at : Starts → ℕ → ℕ → Option ℕ
place_at starts crew at = place_by_entry crew starts.newest at (slice_get starts.order.items at)

-- By a test of who lives

-- who may be there, if it lives
abbrev pub if_lives : {A : Type 0} → (A → Bool) → Option A → Option A
if_lives lives None = None
if_lives lives (Some x) = if lives x then Some x else None

abbrev pub living_in : {A : Type 0} → (A → Bool) → List A → Option ℕ → Option A
living_in lives actors None = None
living_in lives actors (Some place) = if_lives lives (slice_get actors place)

-- the actor that started at a place in the order, if it lives and hasn't started again
abbrev pub start_at : {A : Type 0} → (A → Bool) → Starts → List A → ℕ → ℕ → Option A
start_at lives starts actors crew at = living_in lives actors (place_at starts crew at)

-- the first such place from one on
abbrev pub IsNextStart : {A : Type 0} → (A → Bool) → Starts → List A → ℕ → ℕ → Option (A × ℕ) → Type 0
IsNextStart lives starts actors crew from None = (at : ℕ) → from ≤ at → start_at lives starts actors crew at ≡ None
IsNextStart lives starts actors crew from (Some found) =
    (from ≤ found.1) × (start_at lives starts actors crew found.1 ≡ Some found.0) × ((at : ℕ) → from ≤ at → at < found.1 → start_at lives starts actors crew at ≡ None)

-- it is there, and lives
abbrev pub lasts : {A : Type 0} → (A → Bool) → Option A → Bool
lasts lives None = false
lasts lives (Some x) = lives x
