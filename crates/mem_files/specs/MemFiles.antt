-- The files of a disk in memory, by number: what each number has, and how that changes.
use Rattle.std.specs.Prelude.{◌≡◌, ℕ, ◌<◌, ◌≤◌, ◌+◌, ◌-◌, ◌^◌, List, Some, unwrap_or}
use Rattle.std.specs.Option.{option_map}
use Rattle.call_fs.specs.Disk.{File}
use Rattle.call_fs.specs.Maps.{put}
use Rattle.mem_files.specs.declared.file.Inode.{Inode}
use Rattle.mem_files.specs.MemFile.{no_file}
use Rattle.mem_files.specs.Tables.{at_number, AreNumbersInOrder}

-- the file of a number; one that never had a file has an empty one
abbrev pub file_at : List (ℕ × Inode) → ℕ → File
file_at files n = unwrap_or (option_map (λ i. i.file) (at_number files n)) no_file

-- how many names a number has, and how many descriptors are open on it, as its file's entry counts them
abbrev pub links_of : List (ℕ × Inode) → ℕ → ℕ
links_of files n = unwrap_or (option_map (λ i. i.links) (at_number files n)) 0

abbrev pub holds_of : List (ℕ × Inode) → ℕ → ℕ
holds_of files n = unwrap_or (option_map (λ i. i.opens) (at_number files n)) 0

-- nothing uses the number
abbrev pub IsIdle : List (ℕ × Inode) → ℕ → Type 0
IsIdle files n = (links_of files n ≡ 0) × (holds_of files n ≡ 0)

-- no u64 from 1 is idle
abbrev pub NoneIdle : List (ℕ × Inode) → Type 0
NoneIdle files = (n : ℕ) → 1 ≤ n → n < 2 ^ 64 → ¬ (IsIdle files n)

-- the greatest idle number below the end of the numbers
abbrev pub IsGreatestIdle : List (ℕ × Inode) → ℕ → Type 0
IsGreatestIdle files n = (1 ≤ n) × IsIdle files n × ((higher : ℕ) → n < higher → higher < 2 ^ 64 → ¬ (IsIdle files higher))

-- how the entry of a file changes
abbrev pub on_file : (File → File) → Inode → Inode
on_file f i = record { links = i.links; opens = i.opens; file = f i.file }

abbrev pub linked_inode : Inode → Inode
linked_inode i = record { links = i.links + 1; opens = i.opens; file = i.file }

abbrev pub unlinked_inode : Inode → Inode
unlinked_inode i = record { links = i.links - 1; opens = i.opens; file = i.file }

abbrev pub opened_inode : Inode → Inode
opened_inode i = record { links = i.links; opens = i.opens + 1; file = i.file }

abbrev pub closed_inode : Inode → Inode
closed_inode i = record { links = i.links; opens = i.opens - 1; file = i.file }

-- the entry of this number changed so, and no other
pub record Changes (old new : List (ℕ × Inode)) (n : ℕ) (change : Inode → Inode) : Type 0 where
  pub in_order : AreNumbersInOrder new
  pub value : (i : Inode) → at_number old n ≡ Some i → at_number new ≡ put (at_number old) n (Some (change i))
