-- The names that mails may have, and those of the queue's own programs.
use Rattle.std.specs.Prelude.{◌⊎◌, ℕ, ◌≤◌, List, [], ◌∷◌, length, All, Contains, codes}

-- `a` to `z`
abbrev pub IsLetter : ℕ → Type 0
IsLetter b = (97 ≤ b) × (b ≤ 122)

-- `a` to `z` and `0` to `9`
abbrev pub IsLetterOrDigit : ℕ → Type 0
IsLetterOrDigit b = IsLetter b ⊎ ((48 ≤ b) × (b ≤ 57))

-- the members of a generation
abbrev pub members : List (List ℕ)
members = codes "sender" ∷ codes "clean" ∷ codes "lspawn" ∷ codes "rspawn" ∷ []

-- a letter, then up to fifteen letters or digits, and no member of the generation
abbrev pub IsMailName : List ℕ → Type 0
IsMailName [] = ⊥
IsMailName (first ∷ rest) = IsLetter first × All IsLetterOrDigit rest × (length rest ≤ 15) × (¬ (Contains members (first ∷ rest)))
