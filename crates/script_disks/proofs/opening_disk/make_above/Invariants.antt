use Rattle.std.proofs.Common.{◌≡◌, take}
use Rattle.mem_fs.specs.MemDisk.{disk_of, with_held}
use Rattle.script_words.specs.Entries.{dirs_above}
use Rattle.script_disks.specs.FirstDisk.{AreMade}
use Rattle.script_disks.proofs.opening_disk.make_above.Given as goal

abbrev pub invariant-loop-at : goal.invariant-loop-at
invariant-loop-at l =
    AreMade (disk_of l.initial.disk.held) (dirs_above (take l.at l.path)) (disk_of l.disk.held)
    × (l.dirs.items ≡ l.disk.held.dirs)
    × (l.disk ≡ with_held l.initial.disk l.disk.held)
