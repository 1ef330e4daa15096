-- Which input is a message: a netstring, and nothing after it.
use Rattle.std.specs.Prelude.{◌≡◌, ℕ, ◌+◌, ◌<◌, ◌^◌, List, [], ◌∷◌, ◌++◌, length, take, drop, Option, Some, None, if◌then◌else◌, ◌==◌, bytes_eq}
use Rattle.std.specs.List.{before_first}
use Rattle.mail_bytes.specs.Decimal.{number_of}
use Rattle.mail_bytes.specs.Netstring.{head}

-- what stands before the first colon
abbrev pub length_text : List ℕ → List ℕ
length_text input = before_first (λ b. b == 58) input

-- of this many bytes, with a comma and nothing more after them
abbrev pub sized : Option ℕ → List ℕ → Option (List ℕ)
sized None rest = None
sized (Some n) rest = if bytes_eq (drop n rest) (44 ∷ []) then Some (take n rest) else None

-- The message of an input; `3:abc,` is that of `abc`. None if the input isn't a whole netstring, or goes on after it.
unfoldable pub message_in : List ℕ → Option (List ℕ)
message_in input = sized (number_of (length_text input)) (drop (length (length_text input) + 1) input)

-- the same as a relation: the length in decimal, a colon, the message and a comma
pub record IsNetstring (input message : List ℕ) : Type 0 where
  pub fits : length message < 2 ^ 64
  pub text : input ≡ head (length message) ++ (message ++ 44 ∷ [])
