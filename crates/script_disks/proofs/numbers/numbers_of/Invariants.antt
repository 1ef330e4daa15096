use Rattle.std.proofs.Common.{take}
use Rattle.mem_fs.specs.MemDisk.{disk_of}
use Rattle.script_disks.proofs.Gathered.{Gathered, texts, flat_dirs}
use Rattle.script_disks.proofs.numbers.numbers_of.Given as goal

abbrev pub invariant-loop-dir : goal.invariant-loop-dir
invariant-loop-dir l = Gathered (disk_of l.disk.held) flat_dirs (texts (take l.dir-index l.dir-items)) l.numbers.items
