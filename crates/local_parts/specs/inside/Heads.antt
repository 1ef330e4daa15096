-- The head with which an input begins, by its first bytes.
use Rattle.std.specs.Prelude.{ℕ, ◌+◌, List, take, Option, ◌==◌, position}
use Rattle.std.specs.Option.{option_map, option_and_then}
use Rattle.mail_bytes.specs.Decimal.{number_of}
use Rattle.local_parts.specs.declared.inputs.Head.{Head}

abbrev pub head_with : ℕ → ℕ → Head
head_with at length = record { length = length; used = at + 1 }

-- the decimal number before its first colon
abbrev pub head_at : List ℕ → ℕ → Option Head
head_at front at = option_map (head_with at) (number_of (take at front))

abbrev pub head_of : List ℕ → Option Head
head_of front = option_and_then (head_at front) (position (λ b. b == 58) front)
