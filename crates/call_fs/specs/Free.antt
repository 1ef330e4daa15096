-- Which numbers and descriptors are free, and the least and the greatest of them.
use Rattle.std.specs.Prelude.{◌≡◌, ℕ, ◌<◌, ◌≤◌, ◌^◌, None}
use Rattle.call_fs.specs.Disk.{Disk, IsUnused}

-- a number that a new file may take
abbrev pub IsFree : Disk → ℕ → Type 0
IsFree d n = (1 ≤ n) × IsUnused d n

-- no lower number may be taken
pub record IsLeastFree (d : Disk) (n : ℕ) : Type 0 where
  pub free : IsFree d n
  pub least : (m : ℕ) → m < n → ¬ (IsFree d m)

-- no higher number may be taken, below the end of the numbers
pub record IsGreatestFree (d : Disk) (n : ℕ) : Type 0 where
  pub free : IsFree d n
  pub in_range : n < 2 ^ 64
  pub greatest : (m : ℕ) → n < m → m < 2 ^ 64 → ¬ (IsFree d m)

-- the least descriptor from 1 that isn't open
pub record IsNextDescriptor (d : Disk) (fd : ℕ) : Type 0 where
  pub positive : 1 ≤ fd
  pub not_open : d.opens fd ≡ None
  pub least : (lower : ℕ) → 1 ≤ lower → lower < fd → ¬ (d.opens lower ≡ None)
