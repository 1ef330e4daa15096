use Rattle.std.proofs.Common.{◌≡◌, take}
use Rattle.mem_fs.specs.MemDisk.{disk_of, with_held}
use Rattle.script_disks.specs.FirstDisk.{EntersAll}
use Rattle.script_disks.proofs.opening_disk.enter_all.Given as goal

abbrev pub invariant-loop-entry : goal.invariant-loop-entry
invariant-loop-entry l =
    EntersAll (disk_of l.initial.disk.held) (take l.entry-index l.entries) (disk_of l.disk.held)
    × (l.dirs.items ≡ l.disk.held.dirs)
    × (l.disk ≡ with_held l.initial.disk l.disk.held)
