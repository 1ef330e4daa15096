-- Which file of a home handles an address (dot-qmail(5), "Extension addresses").
use Rattle.std.specs.Prelude.{◌≡◌, ◌⊎◌, ℕ, ◌<◌, List, [], ◌∷◌, ◌++◌, length, map, position, All, slice_index_or, Option, Some, None, if◌then◌else◌, ◌==◌, bytes_eq, codes}
use Rattle.std.specs.Char.{to_ascii_lowercase}
use Rattle.std.specs.Option.{option_or}
use Rattle.dot_qmail.specs.declared.choice.Chosen.{Chosen}
use Rattle.dot_qmail.specs.declared.choice.Chosen.TheVariants.{File, Default}
use Rattle.dot_qmail.specs.declared.choice.ChooseError.{ChooseError}
use Rattle.dot_qmail.specs.declared.choice.ChooseError.TheVariants.{NoMailbox, Memory}

-- a byte of an address as it stands in a file's name: a dot as a colon, and no upper case
abbrev pub safe_byte : ℕ → ℕ
safe_byte b = if b == 46 then 58 else to_ascii_lowercase b

-- `Foo.Bar` is `foo:bar`
abbrev pub safe : List ℕ → List ℕ
safe ext = map safe_byte ext

-- the name with this after `.qmail` and the dash
abbrev pub dot_name : List ℕ → List ℕ → List ℕ
dot_name dash rest = (codes ".qmail" ++ dash) ++ rest

-- the prefixes that end in `-`, the longest first: of `a-b-c` they are `a-b-` and `a-`
abbrev pub dashed : List ℕ → List (List ℕ)
dashed [] = []
dashed (b ∷ rest) = map (λ stem. b ∷ stem) (dashed rest) ++ (if b == 45 then (b ∷ []) ∷ [] else [])

-- the stems of the default names: these, and then the empty one
abbrev pub stems : List ℕ → List (List ℕ)
stems ext = dashed ext ++ [] ∷ []

abbrev pub default_name : List ℕ → List ℕ → List ℕ
default_name dash stem = dot_name dash (stem ++ codes "default")

-- The names that are looked for, in their order: the one with all of ext, then the default names.
abbrev pub looked_for : List ℕ → List ℕ → List (List ℕ)
looked_for dash ext = dot_name dash ext ∷ map (default_name dash) (stems ext)

-- where a name stands first
abbrev pub place_of : List (List ℕ) → List ℕ → Option ℕ
place_of names name = position (λ it. bytes_eq it name) names

-- where the first of these that is there stands
abbrev pub first_place : List (List ℕ) → List (List ℕ) → Option ℕ
first_place names [] = None
first_place names (name ∷ rest) = option_or (place_of names name) (first_place names rest)

-- with a dash there is no default delivery line
abbrev pub bare_choice : Option ℕ → Option Chosen
bare_choice (Some place) = Some (File place)
bare_choice None = Some Default

abbrev pub dash_choice : Option ℕ → Option Chosen
dash_choice (Some place) = Some (File place)
dash_choice None = None

-- what handles an address, if anything does
unfoldable pub chosen : List (List ℕ) → List ℕ → List ℕ → Option Chosen
chosen names [] ext = bare_choice (place_of names (codes ".qmail"))
chosen names (d ∷ dash) ext = dash_choice (first_place names (looked_for (d ∷ dash) (safe ext)))

-- why nothing does; out of memory has no cause in the names
abbrev pub IsChooseFault : List (List ℕ) → List ℕ → List ℕ → ChooseError → Type 0
IsChooseFault names dash ext NoMailbox = chosen names dash ext ≡ None
IsChooseFault names dash ext Memory = Unit {0}

-- The same as relations.

-- a prefix of ext that ends in `-`, or the empty one
pub record IsStem (ext stem : List ℕ) : Type 0 where
  pub rest : List ℕ
  pub begins : ext ≡ stem ++ rest
  pub ends : (stem ≡ []) ⊎ ((front : List ℕ) × (stem ≡ front ++ 45 ∷ []))

-- the stem stands in the list, and those before it are longer
pub record StandsByLength (list : List (List ℕ)) (stem : List ℕ) : Type 0 where
  pub before : List (List ℕ)
  pub after : List (List ℕ)
  pub split : list ≡ before ++ stem ∷ after
  pub longer : All (λ other. length stem < length other) before

-- a name stands at this place first
pub record StandsFirst (names : List (List ℕ)) (name : List ℕ) (place : ℕ) : Type 0 where
  pub inside : place < length names
  pub here : slice_index_or names place [] ≡ name
  pub first : (k : ℕ) → k < place → ¬ (slice_index_or names k [] ≡ name)

abbrev pub IsMissing : List (List ℕ) → List ℕ → Type 0
IsMissing names name = (k : ℕ) → k < length names → ¬ (slice_index_or names k [] ≡ name)

-- of the names that are looked for, this one is there, at this place, and those before it aren't
pub record IsFirstThere (names looked : List (List ℕ)) (place : ℕ) : Type 0 where
  pub before : List (List ℕ)
  pub name : List ℕ
  pub after : List (List ℕ)
  pub split : looked ≡ before ++ name ∷ after
  pub missing : All (IsMissing names) before
  pub there : StandsFirst names name place
