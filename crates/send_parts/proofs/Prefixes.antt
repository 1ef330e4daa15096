-- The first bytes of a text.
use Rattle.std.proofs.Common.{◌≡◌, ℕ, List, length, take, min, ap, ◌∙◌}
use Rattle.std.proofs.lemmas.List.{take_min}
use Rattle.std.proofs.Math.Nat.{min_comm}

pub take_least : (text : List ℕ) (n : ℕ) → take (min (length text) n) text ≡ take n text
take_least text n = ap (λ k. take k text) (min_comm (length text) n) ∙ take_min n text
