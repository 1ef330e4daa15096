-- When the names of a directory may be kept.
use Rattle.std.specs.Prelude.{◌≡◌, ℕ, ◌+◌, ◌*◌, ◌≤◌, ℤ, pos, negsuc}
use Rattle.host_fs.specs.declared.system.Facts.{Facts}

-- A time, in seconds since 1970 and nanoseconds, is at least two seconds before this one, in nanoseconds since 1970. One
-- before 1970 never is.
abbrev pub IsPast : ℤ → ℤ → ℕ → Type 0
IsPast (pos seconds) (pos nanos) now = seconds * 1000000000 + nanos + 2000000000 ≤ now
IsPast (pos seconds) (negsuc nanos) now = ⊥
IsPast (negsuc seconds) nanos now = ⊥

-- a directory's names and its facts were last changed at least two seconds before
pub record IsAtRest (facts : Facts) (now : ℕ) : Type 0 where
  pub modified : IsPast facts.modified facts.modified_nanos now
  pub changed : IsPast facts.changed facts.changed_nanos now

-- the system tells the same of a directory
pub record IsSame (old new : Facts) : Type 0 where
  pub number : old.number ≡ new.number
  pub length : old.length ≡ new.length
  pub modified : old.modified ≡ new.modified
  pub modified_nanos : old.modified_nanos ≡ new.modified_nanos
  pub changed : old.changed ≡ new.changed
  pub changed_nanos : old.changed_nanos ≡ new.changed_nanos
