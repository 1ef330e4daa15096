use Rattle.mem_fs.specs.MemDisk.{disk_of}
use Rattle.script_disks.proofs.Gathered.{Splitting}
use Rattle.script_disks.proofs.numbers.gather_splits.Given as goal

abbrev pub invariant-loop-split : goal.invariant-loop-split
invariant-loop-split l = Splitting (disk_of l.disk.held) l.dir l.split l.fn.numbers.items l.numbers.items
