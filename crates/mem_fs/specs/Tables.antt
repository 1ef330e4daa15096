-- Lists of pairs of a name and a value, in order of the names, read as maps.
use Rattle.std.specs.Prelude.{◌≡◌, ℕ, List, ◌∷◌, ◌++◌, map, Option, IsSome, bytes_eq}
use Rattle.std.specs.declared.vec.Vec.{Vec}
use Rattle.std.specs.List.Sorted.{IsStrictlySortedBy}
use Rattle.std.specs.Ordering.{nat_cmp}
use Rattle.std.specs.Cmp.Lexicographic.{slice_cmp}
use Rattle.std.specs.Map.{lookup, keys_of}
use Rattle.call_fs.specs.Disk.{Among}
use Rattle.call_fs.specs.Apply.{IsLater}

-- the value of a name
abbrev pub at_name : {V : Type 0} → List (List ℕ × V) → List ℕ → Option V
at_name es name = lookup (bytes_eq name) es

-- each name is below those after it, byte by byte
abbrev pub AreNamesInOrder : {V : Type 0} → List (List ℕ × V) → Type 0
AreNamesInOrder es = IsStrictlySortedBy (slice_cmp nat_cmp) (keys_of es)

-- entries of a tree, by the bytes of their names
abbrev pub texts : {A : Type 0} → List (Vec ℕ A × ℕ) → List (List ℕ × ℕ)
texts entries = map (λ e. (e.0.items, e.1)) entries

-- the names in order from some place on, among them each one of the directory that comes after that one
pub record IsRest (names : List (List ℕ × ℕ)) (dir after : List ℕ) (rest : List (List ℕ × ℕ)) : Type 0 where
  pub in_order : AreNamesInOrder rest
  pub before : List (List ℕ × ℕ)
  pub whole : names ≡ before ++ rest
  pub all : (other : List ℕ) → IsSome (at_name names (dir ++ 47 ∷ other)) → IsLater after other → Among (dir ++ 47 ∷ other) (keys_of rest)
