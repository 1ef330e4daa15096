-- The name of the host, as it stands in the names of files in a maildir (qmail-control(5), maildir(5)).
use Rattle.std.specs.Prelude.{ℕ, List, ◌∷◌, replicate, Option, Some, None}
use Rattle.address_rules.specs.Files.{Fault, controls_of, first_fault}

-- the control files, with only `me` there
abbrev pub only_me : List ℕ → List (Option (List ℕ))
only_me bytes = Some bytes ∷ replicate 11 None

abbrev pub unless_bad : Option Fault → List ℕ → Option (List ℕ)
unless_bad None host = Some host
unless_bad (Some fault) host = None

-- the host that control/me names, if that is a good control file
unfoldable pub host_in : List ℕ → Option (List ℕ)
host_in bytes = unless_bad (first_fault (only_me bytes)) (controls_of (only_me bytes)).me
