-- Texts that are given in pieces.
use Rattle.std.specs.Prelude.{◌≡◌, ℕ, List, ◌++◌}

-- of a text all was given but these bytes, its last ones
abbrev pub GivesBut : List ℕ → List ℕ → List ℕ → List ℕ → Type 0
GivesBut held text before after = (given : List ℕ) × (text ≡ given ++ held) × (after ≡ before ++ given)
