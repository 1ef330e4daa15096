-- Meanings that a value may tell or not, and counts that rise.
use Rattle.std.specs.Prelude.{◌≡◌, ℕ, ◌≤◌, ◌+◌, ◌-◌, ◌^◌, min, List, [], ◌∷◌, ◌++◌, Option, Some, None}

-- the sum of two counts, which stands still at u64's last value
abbrev pub summed : ℕ → ℕ → ℕ
summed m n = min (m + n) (2 ^ 64 - 1)

-- one more
abbrev pub raised : ℕ → ℕ
raised n = summed n 1

-- a count rose, or stands at its last value
abbrev pub Rose : ℕ → ℕ → Type 0
Rose before now = raised before ≤ now

-- both tell, and then this holds; or neither tells
abbrev pub Meets : {X : Type 0} → Option X → Option X → (X → X → Type 0) → Type 0
Meets (Some old) (Some new) P = P old new
Meets None None P = Unit {0}
Meets (Some old) None P = ⊥
Meets None (Some new) P = ⊥

-- if it tells, this holds
abbrev pub OnTold : {X : Type 0} → Option X → (X → Type 0) → Type 0
OnTold (Some x) P = P x
OnTold None P = Unit {0}

-- One call more is kept; or from now on none is, as when there was no room for it.
abbrev pub Records : {X : Type 0} → Option (List X) → Option (List X) → X → Type 0
Records (Some old) (Some new) call = new ≡ old ++ call ∷ []
Records told None call = Unit {0}
Records None (Some new) call = ⊥
