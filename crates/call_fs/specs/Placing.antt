-- What is put on a disk by no call: directories, and files with all their bytes on the disk.
use Rattle.std.specs.Prelude.{◌≡◌, ◌⊎◌, ℕ, ◌++◌, List, [], ◌∷◌, Some, None, Contains}
use Rattle.call_fs.specs.Apply.{empty_file}
use Rattle.call_fs.specs.Disk.{File, Disk, dir_of}
use Rattle.call_fs.specs.Free.{IsGreatestFree}
use Rattle.call_fs.specs.Maps.{put, put_at}
use Rattle.call_fs.specs.Survival.{settled}

-- one directory more
abbrev pub with_dir : Disk → List ℕ → Disk
with_dir d dir = record { dirs = d.dirs ++ dir ∷ []; names = d.names; files = d.files; opens = d.opens }

-- a directory is made if it is missing
abbrev pub HasMade : Disk → List ℕ → Disk → Type 0
HasMade old dir new =
    (Contains old.dirs dir × (new ≡ old)) ⊎ ((¬ (Contains old.dirs dir)) × (new ≡ with_dir old dir))

-- a number's file is this one
abbrev pub with_file : Disk → ℕ → File → Disk
with_file d n file = record { dirs = d.dirs; names = d.names; files = put d.files n file; opens = d.opens }

-- a new name has the greatest free number, with this file
pub record PlacesNew (old : Disk) (name : List ℕ) (file : File) (new : Disk) : Type 0 where
  pub number : ℕ
  pub greatest : IsGreatestFree old number
  pub is : new ≡ record { dirs = old.dirs; names = put_at old.names name (Some number); files = put old.files number file; opens = old.opens }

-- a name's file has just these bytes, all of them on the disk, and this moment
abbrev pub replaced : ℕ → List ℕ → File
replaced now bytes = settled bytes (empty_file now)

-- A name has these bytes from now on: the file that it had before keeps its number; a new one takes the greatest that is
-- free, and its directory is made if it is missing. So `control/locals` on an empty disk makes `control` too.
pub record Replaces (now : ℕ) (name bytes : List ℕ) (old new : Disk) : Type 0 where
  pub there : (n : ℕ) → old.names name ≡ Some n → new ≡ with_file old n (replaced now bytes)
  pub missing : old.names name ≡ None → (mid : Disk) × HasMade old (dir_of name) mid × PlacesNew mid name (replaced now bytes) new
