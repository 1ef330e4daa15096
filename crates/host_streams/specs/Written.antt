-- What a writer holds, if it tells, after bytes were given to it.
use Rattle.std.specs.Prelude.{◌≡◌, ℕ, List, ◌++◌, Option}
use Rattle.std.specs.Io.KnownBytes.{Appends}

-- it holds a prefix of these bytes more: of `abc` nothing, `a`, `ab` or `abc`
abbrev pub AppendsPrefix : Option (List ℕ) → Option (List ℕ) → List ℕ → Type 0
AppendsPrefix old new bytes = (taken rest : List ℕ) × (bytes ≡ taken ++ rest) × Appends old new taken
