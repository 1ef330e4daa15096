-- Where a path of a .qmail file leads (dot-qmail(5), qmail-local(8)).
use Rattle.std.specs.Prelude.{◌≡◌, ℕ, List, [], ◌∷◌, ◌++◌, drop, if◌then◌else◌, nat_eq}
use Rattle.std.specs.List.{starts_with}

-- a path without one leading `./`
abbrev pub without_dot : List ℕ → List ℕ
without_dot path = if starts_with nat_eq path (46 ∷ 47 ∷ []) then drop 2 path else path

-- In the home `home/j` the path `./Maildir/` leads to `home/j/Maildir/`, and `/abs/dir/` to itself.
abbrev pub path_in : List ℕ → List ℕ → List ℕ
path_in home path = if starts_with nat_eq path (47 ∷ []) then path else (home ++ 47 ∷ []) ++ without_dot path

-- it is the path of a directory, as `./Maildir/` is
abbrev pub EndsInSlash : List ℕ → Type 0
EndsInSlash path = (front : List ℕ) × (path ≡ front ++ 47 ∷ [])
