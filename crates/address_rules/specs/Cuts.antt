-- A text cut at a byte: `a@b@c` is cut at its first `@` into `a` and `b@c`, at its last one into `a@b` and `c`.
use Rattle.std.specs.Prelude.{◌≡◌, ℕ, List, [], ◌∷◌, ◌++◌, Contains, All, Option, Some, None, if◌then◌else◌, ◌==◌}
use Rattle.std.specs.Option.{option_or}

-- what stands before and after a byte
abbrev pub Parts : Type 0
Parts = List ℕ × List ℕ

-- with one byte more before it
abbrev pub put_before : ℕ → Option Parts → Option Parts
put_before b None = None
put_before b (Some parts) = Some (b ∷ parts.0, parts.1)

abbrev pub cut_here : ℕ → ℕ → List ℕ → Option Parts
cut_here at b rest = if b == at then Some ([], rest) else None

abbrev pub first_cut : ℕ → List ℕ → Option Parts
first_cut at [] = None
first_cut at (b ∷ rest) = option_or (cut_here at b rest) (put_before b (first_cut at rest))

abbrev pub last_cut : ℕ → List ℕ → Option Parts
last_cut at [] = None
last_cut at (b ∷ rest) = option_or (put_before b (last_cut at rest)) (cut_here at b rest)

pub record IsFirstCut (at : ℕ) (text before after : List ℕ) : Type 0 where
  pub split : text ≡ before ++ at ∷ after
  pub first : ¬ (Contains before at)

pub record IsLastCut (at : ℕ) (text before after : List ℕ) : Type 0 where
  pub split : text ≡ before ++ at ∷ after
  pub last : ¬ (Contains after at)

-- x is the first of the list of which P holds
pub record IsFirst {A : Type 0} (P : A → Type 0) (xs : List A) (x : A) : Type 0 where
  pub before : List A
  pub after : List A
  pub split : xs ≡ before ++ x ∷ after
  pub none : All (λ y. ¬ (P y)) before
  pub holds : P x
