-- Where each actor stands, as a function of its name: among those that are no members, and among all; and where the child in a slot of one does.
use Rattle.std.specs.Prelude.{ℕ, ◌+◌, List, Option, Some, None, option_map, nat_lt, if◌then◌else◌}
use Rattle.std.specs.Ordering.{nat_cmp}
use Rattle.std.specs.BTreeMap.{get_by}
use Rattle.std.specs.Cmp.Lexicographic.{slice_cmp}
use Rattle.world_events.specs.declared.places.Places.{Places}
use Rattle.world_pipes.specs.declared.mouths.Mouths.{Mouths}
use Rattle.world_pipes.specs.Mouths.{actor_of}
use Rattle.world_pipes.specs.Wired.{seat, tenant_in, kept_at}

abbrev pub place_of : Places → List ℕ → Option ℕ
place_of places name = get_by (λ key. slice_cmp nat_cmp name key.items) places.map

-- the place of an actor among all, of whom the first so many are the members of a generation
abbrev pub place_by : ℕ → Option ℕ → Option ℕ → Option ℕ
place_by crew None at = option_map (λ i. crew + i) at
place_by crew (Some i) at = if nat_lt i crew then Some i else None

abbrev pub among_all : ℕ → (List ℕ → Option ℕ) → List ℕ → Option ℕ
among_all crew places a = place_by crew (seat a) (places a)

-- the place among all of the child in a slot of whose pipes are there, if there is one
abbrev pub place_by_name : ℕ → (List ℕ → Option ℕ) → Option (List ℕ) → Option ℕ
place_by_name crew places None = None
place_by_name crew places (Some c) = place_so (places c) where
  place_so : Option ℕ → Option ℕ
  place_so None = None
  place_so (Some i) = Some (crew + i)

abbrev pub child_place : List Mouths → Option ℕ → ℕ → ℕ → (List ℕ → Option ℕ) → Option ℕ
child_place mouths wire d crew places = place_by_name crew places (actor_of (tenant_in (kept_at wire mouths) d))
