-- What the order of starts is, by those who started.
use Rattle.std.specs.Prelude.{◌≡◌, ℕ, suc, ◌+◌, ◌<◌, List, [], ◌∷◌, length, drop, true, not, Option, Some, None, if◌then◌else◌, is_some, bytes_eq}
use Rattle.std.specs.List.{slice_get, list_any}
use Rattle.actor_names.specs.MailNames.{members}
use Rattle.world_events.specs.declared.starts.Starts.{Starts}
use Rattle.world_events.specs.Places.{place_by, among_all}
use Rattle.world_events.specs.Starts.{place_by_entry}
use Rattle.world_pipes.specs.Pipework.{is_member}
use Rattle.world_pipes.specs.Wired.{seat}

-- Of those who started, in order: how many are no members, and the number of one of these, if they are counted from this number on. If `a`
-- started, then a generation and then `b`, there are two: from 0 on, `b` has the number 1, and it stands at place 5 among all.
abbrev pub others_in : List (List ℕ) → ℕ
others_in [] = 0
others_in (a ∷ later) = if is_member a then others_in later else 1 + others_in later

abbrev pub number_from : ℕ → List (List ℕ) → List ℕ → Option ℕ
number_from n [] a = None
number_from n (b ∷ later) a = if is_member b then number_from n later a else (if bytes_eq a b then Some n else number_from (n + 1) later a)

-- how many members there are, and the place of an actor among all
abbrev pub crew_in : List (List ℕ) → ℕ
crew_in names = if list_any is_member names then length members else 0

abbrev pub place_in : List (List ℕ) → List ℕ → Option ℕ
place_in names a = place_by (crew_in names) (seat a) (number_from 0 names a)

-- What the order is, by the starts so far and the places of all actors: each has its place; where the order has a seat, a member started;
-- the place that it tells is the actor's; and it tells one exactly if the actor hasn't started again. The places are by the starts alone.
pub record AreStarts (starts : Starts) (crew : ℕ) (places : List ℕ → Option ℕ) (names : List (List ℕ)) : Type 0 where
  pub many : length starts.order.items ≡ length names
  pub known : (at : ℕ) (a : List ℕ) → slice_get names at ≡ Some a → is_some (among_all crew places a) ≡ true
  pub seats : (at entry : ℕ) (a : List ℕ) → slice_get starts.order.items at ≡ Some entry → slice_get names at ≡ Some a → entry < length members → is_member a ≡ true
  pub placed : (at entry i : ℕ) (a : List ℕ) → slice_get starts.order.items at ≡ Some entry → slice_get names at ≡ Some a
      → place_by_entry crew starts.newest at (Some entry) ≡ Some i → among_all crew places a ≡ Some i
  pub last : (at entry : ℕ) (a : List ℕ) → slice_get starts.order.items at ≡ Some entry → slice_get names at ≡ Some a
      → is_some (place_by_entry crew starts.newest at (Some entry)) ≡ not (list_any (bytes_eq a) (drop (suc at) names))
  pub begun : crew ≡ crew_in names
  pub numbered : (a : List ℕ) → seat a ≡ None → places a ≡ number_from 0 names a
  pub filled : (k : ℕ) → k < others_in names → (a : List ℕ) × (seat a ≡ None) × (number_from 0 names a ≡ Some k)
