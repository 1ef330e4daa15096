-- When a message is tried again (qmail-send(8); qmail's THOUGHTS, section 2, "Retry schedules").
use Rattle.std.specs.Prelude.{ℕ, zero, suc, ◌+◌, ◌-◌, ◌*◌, ◌≤◌, if◌then◌else◌, nat_le}

-- the greatest number whose square is at most x: 3 of 9 to 15
pub record IsRoot (x r : ℕ) : Type 0 where
  pub within : r * r ≤ x
  pub greatest : (s : ℕ) → s * s ≤ x → s ≤ r

-- that number, of those up to k
abbrev pub root_to : ℕ → ℕ → ℕ
root_to x zero = 0
root_to x (suc k) = if nat_le (suc k * suc k) x then suc k else root_to x k

unfoldable pub root : ℕ → ℕ
root x = root_to x x

-- A message that was born then, and is tried now, is tried again when the root of its age has grown by `skip`. At the
-- ages 0, 399 and 400, and skip 20, that is 400, 1521 and 1600 seconds after its birth. The age of one that is born
-- later is 0, as `-` stops there.
unfoldable pub next_retry : ℕ → ℕ → ℕ → ℕ
next_retry birth now skip = let step = root (now - birth) + skip in birth + step * step
