-- Moments: seconds since 1 January 1970 UTC.
use Rattle.std.specs.Prelude.{ℕ, ◌≤◌}
use Rattle.mail_bytes.specs.declared.moments.TheConstants.{LAST_MOMENT}

-- a second since 1 January 1970 UTC that a clock may tell
abbrev pub IsMoment : ℕ → Type 0
IsMoment now = now ≤ LAST_MOMENT
