-- What a clock tells by readings of the system's clock and of the monotonic one, in microseconds. It told 100 s when the
-- monotonic clock stood at 7 s. At 9 s there it tells 101 s if the system's clock has fallen to 3 s, 102 s if that can't be
-- read, 140 s if it tells 140 s, and 104 s if it is ten years ahead.
use Rattle.std.specs.Prelude.{ℕ, ◌+◌, ◌-◌, ◌/◌, ◌^◌, min, max, nat_lt, Bool, true, false, Option, Some, None}
use Rattle.host_streams.specs.declared.pace.TheConstants.{MINUTE}

-- what it told last, and where the monotonic clock stood then, once there was a reading
pub record PaceState : Type 0 where
  pub told : ℕ
  pub ran : Option ℕ

-- a sum that ends at the last number of 64 bits
abbrev pub up : ℕ → ℕ → ℕ
up a b = min (a + b) (2 ^ 64 - 1)

-- whether the system's clock is ahead by over a minute: what was told, where the monotonic clock stood, and both readings
abbrev pub is_ahead : ℕ → Option ℕ → Option ℕ → Option ℕ → Bool
is_ahead told (Some before) (Some system) (Some now) = nat_lt (up (up told (now - before)) MINUTE) system
is_ahead told _ _ _ = false

-- the moment after one that was told, once the monotonic clock ran so far
abbrev pub paced : ℕ → ℕ → Option ℕ → Bool → ℕ
paced told ran None _ = up told ran
paced told ran (Some system) true = up (up told ran) ran
paced told ran (Some system) false = max system (up told (ran / 2))

-- the moment that is told next
abbrev pub next_told : ℕ → Option ℕ → Option ℕ → Option ℕ → ℕ
next_told told None None _ = told
next_told told None (Some system) _ = max told system
next_told told (Some before) system None = told
next_told told (Some before) system (Some now) =
    paced told (now - before) system (is_ahead told (Some before) system (Some now))

-- where the monotonic clock stood then
abbrev pub next_ran : Option ℕ → Option ℕ → Option ℕ → Option ℕ
next_ran None None _ = None
next_ran None (Some system) now = now
next_ran (Some before) _ None = Some before
next_ran (Some before) _ (Some now) = Some now
