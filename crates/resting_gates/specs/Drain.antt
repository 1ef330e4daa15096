-- How long a child may run after its input ended.
use Rattle.std.specs.Prelude.{ℕ, List, Option, None, Some, nat_le, ◌&&◌, if◌then◌else◌}
use Rattle.mail_bytes.specs.Decimal.{number_of}
use Rattle.resting_gates.specs.declared.drain.TheConstants.{DRAIN, LONGEST_DRAIN, SHORTEST_DRAIN}

-- a number of milliseconds that is at least one, and isn't past a day
abbrev pub within_a_day : Option ℕ → Option ℕ
within_a_day (Some n) = if nat_le SHORTEST_DRAIN n && nat_le n LONGEST_DRAIN then Some n else None
within_a_day None = None

-- by the text that the environment has, if it has one
abbrev pub drain_of : Option (List ℕ) → Option ℕ
drain_of (Some text) = within_a_day (number_of text)
drain_of None = Some DRAIN
