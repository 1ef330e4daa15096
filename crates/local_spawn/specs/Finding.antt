-- The line that a local part belongs to (qmail-users(5)). Of `+u:`, `+u-:` and `=u-x:` the last is for `U-X`, the second for `u-y`
-- and the first for `ux`.
use Rattle.std.specs.Prelude.{◌≡◌, ℕ, ◌<◌, ◌≤◌, List, length, take, Option, Some, None, slice_get}
use Rattle.mail_bytes.specs.Fold.{IsSameFold}
use Rattle.local_spawn.specs.declared.assign.Assignment.{Assignment}
use Rattle.local_spawn.specs.declared.finding.Found.{Found}
use Rattle.local_spawn.specs.declared.kinds.Kind.TheVariants.{Simple, Wildcard}

-- a simple line with this local part, in whatever case
abbrev pub IsFor : Assignment → List ℕ → Type 0
IsFor a local = (a.kind ≡ Simple) × IsSameFold a.local local

-- a wildcard with which it begins, in whatever case
abbrev pub BeginsFor : Assignment → List ℕ → Type 0
BeginsFor a local = (a.kind ≡ Wildcard) × (length a.local ≤ length local) × IsSameFold a.local (take (length a.local) local)

-- of the lines up to a place, none is a simple line for it
abbrev pub NoneIsFor : List Assignment → List ℕ → ℕ → Type 0
NoneIsFor lines local end = (k : ℕ) (a : Assignment) → k < end → slice_get lines k ≡ Some a → ¬ (IsFor a local)

-- the first simple line for it
pub record IsFirstFor (lines : List Assignment) (local : List ℕ) (at : ℕ) : Type 0 where
  pub assignment : Assignment
  pub here : slice_get lines at ≡ Some assignment
  pub is_for : IsFor assignment local
  pub first : NoneIsFor lines local at

-- of the lines up to a place, the longest wildcard for it, so long, the first of equally long ones
pub record IsLongestFor (lines : List Assignment) (local : List ℕ) (end at long : ℕ) : Type 0 where
  pub assignment : Assignment
  pub inside : at < end
  pub here : slice_get lines at ≡ Some assignment
  pub begins : BeginsFor assignment local
  pub is_long : long ≡ length assignment.local
  pub longest : (k : ℕ) (a : Assignment) → k < end → slice_get lines k ≡ Some a → BeginsFor a local → length a.local ≤ long
  pub first : (k : ℕ) (a : Assignment) → k < at → slice_get lines k ≡ Some a → BeginsFor a local → length a.local < long

abbrev pub NoneBegins : List Assignment → List ℕ → ℕ → Type 0
NoneBegins lines local end = (k : ℕ) (a : Assignment) → k < end → slice_get lines k ≡ Some a → ¬ (BeginsFor a local)

-- what was found: the first simple line for it, else the longest wildcard
pub data IsFound (lines : List Assignment) (local : List ℕ) (found : Found) : Type 0 where
  ByName : IsFirstFor lines local found.line → found.rest ≡ length local → IsFound lines local found
  ByBeginning : NoneIsFor lines local (length lines) → IsLongestFor lines local (length lines) found.line found.rest → IsFound lines local found

-- no line is for it
abbrev pub IsForNobody : List Assignment → List ℕ → Type 0
IsForNobody lines local = NoneIsFor lines local (length lines) × NoneBegins lines local (length lines)

-- The longest wildcard of the lines up to a place

abbrev pub IsBest : List Assignment → List ℕ → ℕ → Option Found → Type 0
IsBest lines local end None = NoneBegins lines local end
IsBest lines local end (Some found) = IsLongestFor lines local end found.line found.rest

-- What becomes of it at one line more: it stays if this is no wildcard for the local part, or none that is longer.
pub data Becomes (best : Option Found) (index : ℕ) (a : Assignment) (local : List ℕ) (after : Option Found) : Type 0 where
  Stays : ¬ (BeginsFor a local) → after ≡ best → Becomes best index a local after
  IsAsLong : (found : Found) → best ≡ Some found → length a.local ≤ found.rest → after ≡ best → Becomes best index a local after
  IsLonger : BeginsFor a local → ((found : Found) → best ≡ Some found → found.rest < length a.local)
      → after ≡ Some (record { line = index; rest = length a.local }) → Becomes best index a local after
