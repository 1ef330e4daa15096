-- Lists of pairs of a number and a value, in order of the numbers, read as maps.
use Rattle.std.specs.Prelude.{◌≡◌, ℕ, ◌<◌, ◌≤◌, List, length, Option, Result, MatchResult, nat_eq, slice_index_or}
use Rattle.std.specs.declared.cmp.Ordering.{Ordering}
use Rattle.std.specs.Ordering.{nat_cmp}
use Rattle.std.specs.declared.cmp.Ordering.TheVariants.{Less}
use Rattle.std.specs.Map.{lookup}

-- the value of a number
abbrev pub at_number : {V : Type 0} → List (ℕ × V) → ℕ → Option V
at_number es n = lookup (nat_eq n) es

-- each key is below those after it
abbrev pub AreKeysInOrder : {K V : Type 0} → (K → K → Ordering) → List (K × V) → Type 0
AreKeysInOrder {K} {V} R es = (i j : ℕ) (d : K × V) → i < j → j < length es → R (slice_index_or es i d).0 (slice_index_or es j d).0 ≡ Less

-- the numbers rise, and are from 1
pub record AreNumbersInOrder {V : Type 0} (es : List (ℕ × V)) : Type 0 where
  pub in_order : AreKeysInOrder nat_cmp es
  pub positive : (i : ℕ) (d : ℕ × V) → i < length es → 1 ≤ (slice_index_or es i d).0

-- the key stands at place i
pub record IsAt {K V : Type 0} (es : List (K × V)) (k : K) (i : ℕ) : Type 0 where
  pub within : i < length es
  pub has_key : (d : K × V) → (slice_index_or es i d).0 ≡ k

-- the key would go to place i: lower keys stand before it, and higher ones from it on
pub record IsGapFor {K V : Type 0} (R : K → K → Ordering) (es : List (K × V)) (k : K) (i : ℕ) : Type 0 where
  pub within : i ≤ length es
  pub before : (j : ℕ) (d : K × V) → j < i → R (slice_index_or es j d).0 k ≡ Less
  pub after : (j : ℕ) (d : K × V) → i ≤ j → j < length es → R k (slice_index_or es j d).0 ≡ Less

-- where a key is, or where it would go
abbrev pub IsPlace : {K V : Type 0} → (K → K → Ordering) → List (K × V) → K → Result ℕ ℕ → Type 0
IsPlace R es k place = MatchResult place (IsAt es k) (IsGapFor R es k)
