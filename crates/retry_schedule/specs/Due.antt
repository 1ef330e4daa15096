-- Which entry is due first. An entry is (due, n): the message number n is due at that moment. The entries 5 of number 9,
-- 5 of number 12 and 8 of number 3 are in order; the first at 5 is that of 9, and at 4 there is none.
use Rattle.std.specs.Prelude.{◌≡◌, ◌≢◌, ◌<◌, ◌≤◌, ◌⊎◌, ◌==◌, ℕ, List, ◌∷◌, ◌++◌, Bool, not, ◌&&◌, ◌||◌, if◌then◌else◌, Option, Some, None, MatchOption, Contains, All, filter, nat_lt, nat_le, slice_get}
use Rattle.std.specs.List.{AllPairs, list_any}

-- one is before another: due earlier, or, of those due together, of the lower number
abbrev pub IsBefore : ℕ × ℕ → ℕ × ℕ → Type 0
IsBefore a b = (a.0 < b.0) ⊎ ((a.0 ≡ b.0) × (a.1 < b.1))

-- the test of it
abbrev pub before : ℕ × ℕ → ℕ × ℕ → Bool
before a b = nat_lt a.0 b.0 || (a.0 == b.0 && nat_lt a.1 b.1)

-- each entry is before all later ones
abbrev pub IsInOrder : List (ℕ × ℕ) → Type 0
IsInOrder es = AllPairs IsBefore es

-- in order, and no number has two entries
pub record IsSchedule (es : List (ℕ × ℕ)) : Type 0 where
  pub order : IsInOrder es
  pub one : AllPairs (λ a b. a.1 ≢ b.1) es

-- a number has no entry
abbrev pub HasNoEntry : ℕ → List (ℕ × ℕ) → Type 0
HasNoEntry n es = All (λ e. e.1 ≢ n) es

-- a number has an entry
abbrev pub HasEntry : ℕ → List (ℕ × ℕ) → Type 0
HasEntry n es = (due : ℕ) × Contains es (due, n)

-- when a number is due; none exactly when it has no entry
abbrev pub IsDueOf : ℕ → List (ℕ × ℕ) → Option ℕ → Type 0
IsDueOf n es found = MatchOption found (HasNoEntry n es) (λ due. Contains es (due, n))

-- an entry among others: those before it, it, and those after it
abbrev pub added : ℕ × ℕ → List (ℕ × ℕ) → List (ℕ × ℕ)
added e es = filter (λ o. before o e) es ++ e ∷ filter (λ o. before e o) es

-- all but those of a number
abbrev pub removed : ℕ → List (ℕ × ℕ) → List (ℕ × ℕ)
removed n es = filter (λ e. not (e.1 == n)) es

-- the least entry of those that are due at most now; none exactly when there is none
abbrev pub IsFirst : ℕ → List (ℕ × ℕ) → Option (ℕ × ℕ) → Type 0
IsFirst now es found = MatchOption found (All (λ e. now < e.0) es)
    (λ first. Contains es first × (first.0 ≤ now) × All (λ e. e.0 ≤ now → (first ≡ e) ⊎ IsBefore first e) es)

-- As functions

-- a number has an entry
abbrev pub is_due : ℕ → List (ℕ × ℕ) → Bool
is_due n es = list_any (λ e. e.1 == n) es

-- an entry in place of the one of its number, if that has one
abbrev pub put : ℕ × ℕ → List (ℕ × ℕ) → List (ℕ × ℕ)
put e es = added e (removed e.1 es)

-- the same of a number that has one, and of any other nothing
abbrev pub moved : ℕ × ℕ → List (ℕ × ℕ) → List (ℕ × ℕ)
moved e es = if is_due e.1 es then put e es else es

-- Of entries in order the first one, if it is due by now: `IsFirst` has no other.
abbrev pub due_by : ℕ → Option (ℕ × ℕ) → Option (ℕ × ℕ)
due_by now None = None
due_by now (Some e) = if nat_le e.0 now then Some e else None

abbrev pub first_due : ℕ → List (ℕ × ℕ) → Option (ℕ × ℕ)
first_due now es = due_by now (slice_get es 0)
