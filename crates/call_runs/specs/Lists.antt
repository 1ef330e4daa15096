-- What the lists of a disk in memory hold that keeps nothing else.
use Rattle.std.specs.Prelude.{◌≡◌, ℕ, List, map, Option, Some, None}
use Rattle.std.specs.Option.{option_map}
use Rattle.call_runs.specs.declared.plain_lists.PlainLists.{PlainLists}
use Rattle.mem_files.specs.declared.file.Inode.{Inode}
use Rattle.call_fs.specs.Disk.{Disk, File, Open}
use Rattle.call_fs.specs.Apply.{IsNextName, IsLastName}
use Rattle.call_fs.specs.Maps.{put}
use Rattle.mem_files.specs.MemFiles.{file_at}
use Rattle.mem_fs.specs.MemDisk.{Held}
use Rattle.mem_files.specs.Tables.{at_number}
use Rattle.mem_fs.specs.Tables.{at_name}

-- the files with their numbers; these lists don't count what uses one
abbrev pub uncounted : List (ℕ × File) → List (ℕ × Inode)
uncounted files = map (λ e. (e.0, record { links = 0; opens = 0; file = e.1 })) files

-- the lists as those of a disk in memory
abbrev pub held_of : PlainLists → Held
held_of l = record { dirs = l.dirs.items; names = l.names.items; files = uncounted l.files.items; opens = l.opens.items }

-- a name has the number
abbrev pub IsNamed : List (List ℕ × ℕ) → ℕ → Type 0
IsNamed names n = (name : List ℕ) × (at_name names name ≡ Some n)

-- a descriptor is open on it
abbrev pub IsOpened : List (ℕ × Open) → ℕ → Type 0
IsOpened opens n = (fd : ℕ) × (option_map (λ (o : Open). o.number) (at_number opens fd) ≡ Some n)

-- the file of this number changed so, and no other
abbrev pub Changes : List (ℕ × File) → List (ℕ × File) → ℕ → (File → File) → Type 0
Changes old new n change = file_at (uncounted new) ≡ put (file_at (uncounted old)) n (change (file_at (uncounted old) n))

-- The least part in a directory after that one, of all names that are listed; None if there is none.
abbrev pub IsLeastPart : List (List ℕ × ℕ) → List ℕ → List ℕ → Option (List ℕ) → Type 0
IsLeastPart names dir after None = (d : Disk) → d.names ≡ at_name names → IsLastName d dir after
IsLeastPart names dir after (Some part) = (d : Disk) → d.names ≡ at_name names → IsNextName d dir after part
