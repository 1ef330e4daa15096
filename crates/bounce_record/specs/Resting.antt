-- What notes rest on: whole lines that a bounce file begins with, whatever comes after them. A write that is cut off, a sync and a
-- machine stop leave them. Only a whole note that was synced makes them more.
use Rattle.std.specs.Prelude.{◌≡◌, ℕ, ◌≤◌, List, [], ◌∷◌, ◌++◌, length, take}
use Rattle.call_fs.specs.Apply.{empty_file, grown, grown_part, synced}
use Rattle.call_fs.specs.Disk.{Among, File}
use Rattle.call_fs.specs.Survival.{Survives, settled}
use Rattle.bounce_record.specs.Notes.{count, with_note}

-- Every version of the file since its last sync begins with this: the file as it is, as it was at that sync, and whatever a machine
-- stop leaves of it.
pub record BeginsWith (fixed : List ℕ) (f : File) : Type 0 where
  pub present : take (length fixed) f.bytes ≡ fixed
  pub kept : take (length fixed) f.kept ≡ fixed
  pub since : (place value : ℕ) → Among (place, value) f.given → length fixed ≤ place
  pub no_shorter : length fixed ≤ f.least

-- nothing, or lines of which each has its newline
pub data IsWhole (text : List ℕ) : Type 0 where
  Bare : text ≡ [] → IsWhole text
  Ends : (lines : List ℕ) → text ≡ lines ++ 10 ∷ [] → IsWhole text

-- Of `<a@x>:`, newline, `no`, and two newlines, with `<b` after them that a machine stop left of another note, the file begins with the
-- note of a@x and names it once; and so it does with any note after that.
pub record NotesRest : Type 0 where
  pub created : (now : ℕ) → BeginsWith [] (empty_file now)
  pub grows : (fixed more : List ℕ) (now : ℕ) (f : File) → BeginsWith fixed f → BeginsWith fixed (grown now more f)
  pub grows_in_part : (fixed more : List ℕ) (now wrote : ℕ) (f : File) → BeginsWith fixed f → BeginsWith fixed (grown_part now more wrote f)
  pub syncs : (f : File) → BeginsWith f.bytes (synced f)
  pub survives : (fixed bytes : List ℕ) (f : File) → BeginsWith fixed f → Survives f bytes → BeginsWith fixed (settled bytes f)
  -- a file is whole lines once a note was put at its end
  pub whole : (file address report : List ℕ) → IsWhole (with_note file address report)
  -- and names no one less often than what it rests on, as it is and as it was at its last sync
  pub named : (fixed r : List ℕ) (f : File) → IsWhole fixed → BeginsWith fixed f → (count fixed r ≤ count f.bytes r) × (count fixed r ≤ count f.kept r)
