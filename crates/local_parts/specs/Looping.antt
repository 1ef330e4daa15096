-- Which message is looping (qmail-local(8)).
use Rattle.std.specs.Prelude.{ℕ, List, [], ◌∷◌, Bool, ◌==◌, bytes_eq}
use Rattle.std.specs.List.{list_any, slice_split}

-- the lines up to the first empty one
abbrev pub until_empty : List (List ℕ) → List (List ℕ)
until_empty [] = []
until_empty ([] ∷ more) = []
until_empty ((b ∷ line) ∷ more) = (b ∷ line) ∷ until_empty more

-- The lines of a message's header. A last line without newline counts.
abbrev pub header : List ℕ → List (List ℕ)
header message = until_empty (slice_split (λ b. b == 10) message)

-- its header has this line already
unfoldable pub is_looping : List ℕ → List ℕ → Bool
is_looping line message = list_any (λ it. bytes_eq it line) (header message)
