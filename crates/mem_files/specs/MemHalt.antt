-- The files of a disk in memory after a machine stop.
use Rattle.std.specs.Prelude.{ℕ, ◌==◌, List, [], ◌∷◌, if◌then◌else◌}
use Rattle.call_fs.specs.declared.crash_file_system.Survival.{Survival}
use Rattle.call_fs.specs.declared.crash_file_system.Survival.TheVariants.{Keep, Lose, Junk}
use Rattle.call_fs.specs.Choices.{junked}
use Rattle.call_fs.specs.Survival.{settled}
use Rattle.mem_files.specs.declared.file.Inode.{Inode}

-- the first x: the seed; if nothing is drawn it may be any
abbrev pub seed_of : Survival → ℕ
seed_of Keep = 0
seed_of Lose = 0
seed_of (Junk seed) = seed

-- the bytes that a number's file has then, and the x that follows; nothing is drawn for a number without a name
abbrev pub left_of : Survival → Inode → ℕ → List ℕ × ℕ
left_of Keep i x = (i.file.bytes, x)
left_of Lose i x = (i.file.kept, x)
left_of (Junk seed) i x = if i.links == 0 then (i.file.bytes, x) else junked i.file x

-- its entry then, with these bytes
abbrev pub settled_entry : List ℕ → Inode → Inode
settled_entry bytes i = record { links = i.links; opens = 0; file = settled bytes i.file }

-- all entries, one after another
abbrev pub settled_entries : Survival → ℕ → List (ℕ × Inode) → List (ℕ × Inode)
settled_entries how x [] = []
settled_entries how x (e ∷ es) = (e.0, settled_entry (left_of how e.1 x).0 e.1) ∷ settled_entries how (left_of how e.1 x).1 es
