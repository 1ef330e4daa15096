-- The form of a file's name.
use Rattle.std.specs.Prelude.{ℕ, ◌≤◌, ◌==◌, List, [], ◌∷◌, length, if◌then◌else◌, Contains, All}
use Rattle.std.specs.List.{slice_split}

-- one part of a name; where a name is split at each `/`, none is left in it
pub record IsPart (part : List ℕ) : Type 0 where
  pub positive : 1 ≤ length part
  pub short : length part ≤ 255
  pub no_nul : ¬ (Contains part 0)

-- Parts with a `/` between each two: `mess/1/24`. None is empty, so two `/` never stand side by side, and none stands at
-- the end.
abbrev pub AreParts : List ℕ → Type 0
AreParts text = All IsPart (slice_split (λ b. b == 47) text)

-- a name without the `/` before its first part
abbrev pub without_slash : List ℕ → List ℕ
without_slash [] = []
without_slash (b ∷ rest) = if b == 47 then rest else b ∷ rest

-- parts, and one more `/` may stand before the first
abbrev pub IsName : List ℕ → Type 0
IsName name = AreParts (without_slash name)
