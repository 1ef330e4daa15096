-- The paths that are handed to the system for names of files.
use Rattle.std.specs.Prelude.{◌⊎◌, ℕ, ◌≤◌, ◌==◌, List, [], ◌∷◌, ◌++◌, length, Bool, false, if◌then◌else◌, IsTrue, Contains}
use Rattle.std.specs.Str.{IsUtf8}
use Rattle.call_fs.specs.Names.{IsName}
use Rattle.call_fs.specs.declared.calls.CallData.{CallData}
use Rattle.call_fs.specs.declared.calls.CallData.TheVariants.{CreateExcl, Open, Link, Unlink, Stat, NextName}

-- a name that begins with `/` is a path of the machine
abbrev pub is_of_machine : List ℕ → Bool
is_of_machine [] = false
is_of_machine (b ∷ rest) = b == 47

-- the directory that names stand under, as the system takes paths
pub record IsRoot (root : List ℕ) : Type 0 where
  pub positive : 1 ≤ length root
  pub no_nul : ¬ (Contains root 0)
  pub utf8 : IsUtf8 root

-- there is a path for the name
pub record IsPath (root name : List ℕ) : Type 0 where
  pub named : IsName name
  pub utf8 : IsUtf8 name
  pub rooted : IsTrue (is_of_machine name) ⊎ IsRoot root

-- the path of a name under this root
abbrev pub path_text : List ℕ → List ℕ → List ℕ
path_text root name = if is_of_machine name then name else root ++ 47 ∷ name

-- a name of the call has no path
abbrev pub LacksPath : List ℕ → CallData → Type 0
LacksPath root (CreateExcl name) = ¬ (IsPath root name)
LacksPath root (Open name how) = ¬ (IsPath root name)
LacksPath root (Link old new) = (¬ (IsPath root old)) ⊎ (¬ (IsPath root new))
LacksPath root (Unlink name) = ¬ (IsPath root name)
LacksPath root (Stat name) = ¬ (IsPath root name)
LacksPath root (NextName dir after) = ¬ (IsPath root dir)
LacksPath root call = ⊥
