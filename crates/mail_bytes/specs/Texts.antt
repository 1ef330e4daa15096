-- Texts: without NUL, as lines, and without the blanks at their end.
use Rattle.std.specs.Prelude.{◌≢◌, ℕ, List, [], ◌∷◌, ◌++◌, All, Bool, ◌||◌, if◌then◌else◌, ◌==◌}
use Rattle.std.specs.List.{list_all}

-- no byte of it is NUL
abbrev pub HasNoNul : List ℕ → Type 0
HasNoNul text = All (λ b. b ≢ 0) text

-- a line with its newline
abbrev pub line : List ℕ → List ℕ
line text = text ++ 10 ∷ []

-- a space or a tab
abbrev pub is_blank : ℕ → Bool
is_blank b = b == 32 || b == 9

-- a line without the blanks at its end
abbrev pub trimmed : List ℕ → List ℕ
trimmed [] = []
trimmed (b ∷ rest) = if list_all is_blank (b ∷ rest) then [] else b ∷ trimmed rest
