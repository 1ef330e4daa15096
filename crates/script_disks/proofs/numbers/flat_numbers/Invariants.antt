use Rattle.std.proofs.Common.{take, []}
use Rattle.mem_fs.specs.MemDisk.{disk_of}
use Rattle.script_disks.proofs.Gathered.{Gathered, texts}
use Rattle.script_disks.proofs.numbers.flat_numbers.Given as goal

abbrev pub invariant-loop-dir : goal.invariant-loop-dir
invariant-loop-dir l = Gathered (disk_of l.disk.held) (texts (take l.dir-index l.dir-items)) [] l.numbers.items
