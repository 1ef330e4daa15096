-- The disk that a script begins with: some directories and no file, and then what the script's entries put there.
use Rattle.std.specs.Prelude.{◌≡◌, ℕ, List, [], ◌∷◌, ◌++◌, None, codes}
use Rattle.call_fs.specs.Apply.{empty_file}
use Rattle.call_fs.specs.Disk.{Disk}
use Rattle.call_fs.specs.Placing.{HasMade}
use Rattle.mem_fs.specs.MemDisk.{Places}
use Rattle.queue_paths.specs.Dirs.{queue_dirs}
use Rattle.script_words.specs.declared.entry.Entry.{Entry}
use Rattle.script_words.specs.declared.entry.Entry.TheVariants.{File, Dir}
use Rattle.script_words.specs.Entries.{dirs_above}

-- more directories
abbrev pub with_dirs : Disk → List (List ℕ) → Disk
with_dirs d more = record { dirs = d.dirs ++ more; names = d.names; files = d.files; opens = d.opens }

-- the directories of each script's disk: three, and the queue's
abbrev pub bare_dirs : List (List ℕ)
bare_dirs = (codes "control" ∷ codes "users" ∷ codes "home" ∷ []) ++ queue_dirs

-- A disk with these directories alone: no file, nothing open. No number has had a file yet: each stands for the empty
-- one of moment 0.
pub record IsBareDisk (d : Disk) : Type 0 where
  pub dirs : d.dirs ≡ bare_dirs
  pub empty : (name : List ℕ) → d.names name ≡ None
  pub fresh : (n : ℕ) → d.files n ≡ empty_file 0
  pub shut : (fd : ℕ) → d.opens fd ≡ None

-- directories are made if they are missing, one after the other
abbrev pub AreMade : Disk → List (List ℕ) → Disk → Type 0
AreMade old [] new = new ≡ old
AreMade old (dir ∷ dirs) new = (mid : Disk) × HasMade old dir mid × AreMade mid dirs new

-- An entry is put on a disk, and the directories above its path are made if they are missing: `home/j` for
-- `home/j/.qmail`, since `home` is there. A file is all on the disk, and a new one takes the greatest free number;
-- if an earlier entry has the same path, its file has these bytes instead.
abbrev pub Enters : Disk → Entry → Disk → Type 0
Enters old (File path bytes) new = (mid : Disk) × AreMade old (dirs_above path) mid × Places mid path bytes new
Enters old (Dir path) new = AreMade old (dirs_above path ++ path ∷ []) new

-- entries are put on a disk, one after the other
abbrev pub EntersAll : Disk → List Entry → Disk → Type 0
EntersAll old [] new = new ≡ old
EntersAll old (entry ∷ later) new = (mid : Disk) × Enters old entry mid × EntersAll mid later new

-- The disk that a script with these entries begins with.
pub record IsFirstDisk (opening : List Entry) (d : Disk) : Type 0 where
  pub bare : Disk
  pub is_bare : IsBareDisk bare
  pub entered : EntersAll bare opening d
