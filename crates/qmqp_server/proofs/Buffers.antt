-- The first byte of a buffer.
use Rattle.std.proofs.Common.{◌≡◌, ℕ, List, [], ◌∷◌, length, take, arith}
use Rattle.std.proofs.Math.ListN.{set}
use Rattle.std.proofs.lemmas.List.{take_more_set}

pub first_set : (buffer : List ℕ) (byte : ℕ) → length buffer ≡ 8192 → take 1 (set buffer 0 byte) ≡ byte ∷ []
first_set buffer byte long = take_more_set buffer 0 byte (omega arith)
