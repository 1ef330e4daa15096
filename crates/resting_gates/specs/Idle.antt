-- How long a sender rests after a turn in which it found nothing to do.
use Rattle.std.specs.Prelude.{ℕ, List, Option, None, Some, nat_le, if◌then◌else◌}
use Rattle.mail_bytes.specs.Decimal.{number_of}
use Rattle.resting_gates.specs.declared.idle.TheConstants.{IDLE, LONGEST_IDLE}

-- a number of milliseconds that isn't past a minute
abbrev pub within_a_minute : Option ℕ → Option ℕ
within_a_minute (Some n) = if nat_le n LONGEST_IDLE then Some n else None
within_a_minute None = None

-- by the text that the environment has, if it has one
abbrev pub idle_of : Option (List ℕ) → Option ℕ
idle_of (Some text) = within_a_minute (number_of text)
idle_of None = Some IDLE
