-- Slots with a value each, or with none.
use Rattle.std.specs.Prelude.{◌≡◌, ◌≢◌, ℕ, List, Option, Some, None, slice_get}

-- what a slot holds; one past the last holds nothing
abbrev pub content : {T : Type 0} → Option (Option T) → Option T
content None = None
content (Some slot) = slot

-- what the number holds
abbrev pub held : {T : Type 0} → List (Option T) → ℕ → Option T
held slots number = content (slice_get slots number)

-- there is this slot, and it holds nothing
abbrev pub IsVacant : {T : Type 0} → List (Option T) → ℕ → Type 0
IsVacant slots place = slice_get slots place ≡ Some None

-- each number holds what it held
abbrev pub HoldsTheSame : {T : Type 0} → List (Option T) → List (Option T) → Type 0
HoldsTheSame old new = (number : ℕ) → held new number ≡ held old number

-- The number holds this now, or nothing. Each other number holds what it held.
pub record Puts {T : Type 0} (old new : List (Option T)) (number : ℕ) (value : Option T) : Type 0 where
  pub at_number : held new number ≡ value
  pub others : (other : ℕ) → other ≢ number → held new other ≡ held old other
