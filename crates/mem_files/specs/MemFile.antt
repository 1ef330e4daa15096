-- One file of a disk in memory.
use Rattle.std.specs.Prelude.{ℕ, ◌<◌, ◌≤◌, ◌^◌, ◌==◌, ◌&&◌, ◌||◌, Bool, IsTrue, List, [], length, slice_index}
use Rattle.std.specs.List.{list_any}
use Rattle.call_fs.specs.Disk.{File}
use Rattle.call_fs.specs.Apply.{empty_file}
use Rattle.call_fs.specs.Survival.{settled}

-- a file of the opening contents: its bytes are on the disk, and its moment is 0
abbrev pub settled_file : List ℕ → File
settled_file bytes = settled bytes (empty_file 0)

-- a number that never had a file stands for this one
abbrev pub no_file : File
no_file = settled_file []

-- the value that a place below the synced length had at the last sync, or was given since
abbrev pub had : File → ℕ → ℕ → Bool
had f place value = (slice_index f.kept place == value) || list_any (λ g. (g.0 == place) && (g.1 == value)) f.given

-- What holds of a file at any time: what it reads as, and its last synced bytes, are among what a machine stop may leave.
pub record IsSurvivor (f : File) : Type 0 where
  pub least_kept : f.least ≤ length f.kept
  pub greatest_kept : length f.kept ≤ f.greatest
  pub least_read : f.least ≤ length f.bytes
  pub greatest_read : length f.bytes ≤ f.greatest
  pub small : f.greatest < 2 ^ 63
  pub read : (place : ℕ) → place < length f.kept → place < length f.bytes → IsTrue (had f place (slice_index f.bytes place))
