-- The bare disk of each script.
use Rattle.std.proofs.Common.{◌≡◌, ℕ, List, ◌∙◌, ap}
use Rattle.call_fs.specs.Disk.{Disk}
use Rattle.mem_fs.specs.MemDisk.{disk_of, held_nothing}
use Rattle.script_disks.specs.FirstDisk.{bare_dirs, IsBareDisk, with_dirs}

-- a disk with nothing but these directories
pub bare_disk : (d : Disk) (dirs : List (List ℕ)) → d ≡ with_dirs (disk_of held_nothing) dirs → dirs ≡ bare_dirs → IsBareDisk d
bare_disk d dirs e all = record {
  dirs = ap (λ (x : Disk). x.dirs) e ∙ all;
  empty = λ name. ap (λ (x : Disk). x.names name) e;
  fresh = λ n. ap (λ (x : Disk). x.files n) e;
  shut = λ fd. ap (λ (x : Disk). x.opens fd) e;
}
