-- The names that a listing gives.
use Rattle.std.specs.Prelude.{◌⊎◌, ◌↔◌, ◌==◌, ℕ, List, IsTrue, All, Contains}
use Rattle.std.specs.List.{AllPairs, slice_split}
use Rattle.host_fs.specs.Listing.{is_before, IsEntry}

-- in byte order, each once, and each an entry that counts
pub record AreEntries (names : List (List ℕ)) : Type 0 where
  pub rising : AllPairs (λ low high. IsTrue (is_before low high)) names
  pub each : All IsEntry names

-- the entries of a piece of a listing, each of which ends in a NUL: those of `.\0..\09\0` are `.`, `..`, `9` and an empty one
abbrev pub entries_of : List ℕ → List (List ℕ)
entries_of piece = slice_split (λ b. b == 0) piece

-- What was there stays, and of these entries those that count are added, and nothing else.
abbrev pub Adds : List (List ℕ) → List (List ℕ) → List (List ℕ) → Type 0
Adds old entries new = (name : List ℕ) → Contains new name ↔ (Contains old name ⊎ (Contains entries name × IsEntry name))
