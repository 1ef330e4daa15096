-- The lowest number of which something holds.
use Rattle.std.proofs.Common.{◌≡◌, ℕ, ◌≤◌, ◌<◌, Bool, true, false, refl, ap, ◌∙◌, arith, nat_lt}
use Rattle.std.proofs.lemmas.Bool.Decides.{nat_tests}

below : (d slot : ℕ) → nat_lt d slot ≡ true → d < slot
below d slot is = grind (arith, nat_tests)

above : (d slot : ℕ) → nat_lt d slot ≡ false → slot ≤ d
above d slot is = grind (arith, nat_tests)

-- what holds of none before a slot, and not of that one, holds of none up to it
pub up_to : (t : ℕ → Bool) (from slot : ℕ) → ((d : ℕ) → from ≤ d → d < slot → t d ≡ false) → t slot ≡ false → (d : ℕ) → from ≤ d → d ≤ slot → t d ≡ false
up_to t from slot before here d le lt = by_test (nat_lt d slot) refl where
  by_test : (b : Bool) → nat_lt d slot ≡ b → t d ≡ false
  by_test true is = before d le (below d slot is)
  by_test false is =
      let high = above d slot is in
      let same : d ≡ slot = omega (arith, high, lt) in
      ap t same ∙ here
