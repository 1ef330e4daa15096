-- What the files of a message tell of a recipient: its own record, and the notes of its bounce file.
use Rattle.std.specs.Prelude.{◌≡◌, ℕ, List, length, take, drop, Bool, false, bytes_eq, nat_lt, Option, Some, None}
use Rattle.std.specs.List.{list_any}
use Rattle.bounce_record.specs.Notes.{count}
use Rattle.call_fs.specs.Disk.{Disk}
use Rattle.mem_fs.specs.MemDisk.{bytes_at}
use Rattle.queue_law.specs.Routes.{lane_part}
use Rattle.queue_paths.specs.Names.{path}
use Rattle.queue_paths.specs.Names.Name.{Of}
use Rattle.queue_paths.specs.Names.Part.{Bounce}
use Rattle.script_disks.specs.declared.routes.Routed.{Routed}

-- these bytes stand there in the file
abbrev pub stands_in : Option (List ℕ) → ℕ → List ℕ → Bool
stands_in None place text = false
stands_in (Some bytes) place text = bytes_eq (take (length text) (drop place bytes)) text

-- the file of its channel has its record at its place, and that reads `T`
abbrev pub is_unmarked : Disk → Option ℕ → Routed → Bool
is_unmarked d None r = false
is_unmarked d (Some n) r = stands_in (bytes_at d (path (Of (lane_part r.channel) n))) r.place r.text

-- the file has at least one note of this name
abbrev pub names_it : Option (List ℕ) → List ℕ → Bool
names_it None name = false
names_it (Some bytes) name = nat_lt 0 (count bytes name)

-- the bounce file of the message of this number is there, and has one
abbrev pub is_noted : Disk → Option ℕ → List ℕ → Bool
is_noted d None name = false
is_noted d (Some n) name = names_it (bytes_at d (path (Of Bounce n))) name

-- these are the names of which it has notes
abbrev pub AreNoted : Disk → Option ℕ → List (List ℕ) → Type 0
AreNoted d number names = (name : List ℕ) → list_any (λ one. bytes_eq one name) names ≡ is_noted d number name
