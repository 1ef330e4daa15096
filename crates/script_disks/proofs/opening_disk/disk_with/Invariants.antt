use Rattle.std.proofs.Common.{◌≡◌, [], take}
use Rattle.mem_fs.specs.MemDisk.{disk_of, held_nothing}
use Rattle.script_disks.specs.FirstDisk.{with_dirs}
use Rattle.script_disks.proofs.opening_disk.disk_with.Given as goal

abbrev pub invariant-loop-dir : goal.invariant-loop-dir
invariant-loop-dir l =
    (disk_of l.disk.held ≡ with_dirs (disk_of held_nothing) (take l.dir-index l.dirs))
    × (l.disk.picks ≡ [])
    × (l.disk.plan ≡ [])
