-- Roots.
use Rattle.std.proofs.Common.{◌≡◌, ℕ, zero, suc, ◌+◌, ◌*◌, ◌<◌, ◌≤◌, Bool, true, false, refl, ⊎_elim, arith}
use Rattle.std.specs.Prelude.{if◌then◌else◌}
use Rattle.std.proofs.Math.Nat.{mul-le-mul_left, mul-le-mul_right, le-mul_of_pos_right}
use Rattle.std.proofs.lemmas.Bool.{cases_lt}
use Rattle.std.proofs.lemmas.Bool.Decides.{leb_tells}
use Rattle.retry_schedule.specs.Retry.{IsRoot, root_to, root}

squares : (a b : ℕ) → a ≤ b → a * a ≤ b * b
squares a b le =
    let one = mul-le-mul_left a le in
    let two = mul-le-mul_right b le in
    omega arith

-- the square of the next number is too much
next_too_much : (x r s : ℕ) → x < (r + 1) * (r + 1) → s * s ≤ x → s ≤ r
next_too_much x r s high within =
    ⊎_elim (λ far. let more = squares (r + 1) s (omega arith) in absurd (omega arith)) (λ near. near) (cases_lt r s)

pub is_next : (x r : ℕ) → r * r ≤ x → x < (r + 1) * (r + 1) → IsRoot x r
is_next x r within high = record { within = within; greatest = λ s h. next_too_much x r s high h }

small : (x s : ℕ) → s * s ≤ x → s ≤ x
small x zero h = omega arith
small x (suc s) h = let le = le-mul_of_pos_right {m = suc s} (suc s) (omega arith) in omega arith

-- the greatest of the numbers up to k
record Greatest (x k r : ℕ) : Type 0 where
  within : r * r ≤ x
  greatest : (s : ℕ) → s ≤ k → s * s ≤ x → s ≤ r

picked : (t : Bool) (x k : ℕ) → (t ≡ true → suc k * suc k ≤ x) → (t ≡ false → x < suc k * suc k) → Greatest x k (root_to x k) → Greatest x (suc k) (if t then suc k else root_to x k)
picked true x k fits over below = record { within = fits refl; greatest = λ s le h. le }
picked false x k fits over below = record {
  within = below.within;
  greatest = λ s le h. below.greatest s (let high = over refl in next_too_much x k s (omega arith) h) h;
}

greatest_to : (x k : ℕ) → Greatest x k (root_to x k)
greatest_to x zero = record { within = omega arith; greatest = λ s le h. le }
greatest_to x (suc k) =
    ⊎_elim
    (λ w. picked _ x k (λ _. w.1) (λ e. absurd (cc)) (greatest_to x k))
    (λ w. picked _ x k (λ e. absurd (cc)) (λ _. w.1) (greatest_to x k))
    (leb_tells (suc k * suc k) x)

pub root_is : (x : ℕ) → IsRoot x (root x)
unfolding root
root_is x = let found = greatest_to x x in record { within = found.within; greatest = λ s h. found.greatest s (small x s h) h }

pub one_root : (x r : ℕ) → IsRoot x r → r ≡ root x
one_root x r h =
    let found = root_is x in
    let up = found.greatest r h.within in
    let down = h.greatest (root x) found.within in
    omega arith
