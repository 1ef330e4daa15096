use Rattle.std.proofs.Common.{take}
use Rattle.mem_fs.specs.MemDisk.{disk_of}
use Rattle.script_disks.proofs.Gathered.{Gathering, texts}
use Rattle.script_disks.proofs.numbers.gather.Given as goal

abbrev pub invariant-loop-name : goal.invariant-loop-name
invariant-loop-name l =
    Gathering (disk_of l.disk.held) l.dir (texts (take l.name-index l.name-items)) l.fn.numbers.items l.numbers.items
