-- The names of a home.
use Rattle.std.specs.Prelude.{ℕ, List, [], length, ◌-◌, slice_index_or}

-- the one that was told last; empty if none was
abbrev pub last_name : List (List ℕ) → List ℕ
last_name names = slice_index_or names (length names - 1) []
