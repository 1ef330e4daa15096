use Rattle.std.proofs.Common.{◌++◌, ◌∷◌, map}
use Rattle.mem_fs.specs.MemDisk.{disk_of}
use Rattle.queue_states.proofs.Listed.{Found}
use Rattle.script_disks.proofs.NamesAfter.{count_after}
use Rattle.script_disks.proofs.numbers.names_of.Given as goal

abbrev pub invariant-loop-name : goal.invariant-loop-name
invariant-loop-name l = Found (disk_of l.disk.held) l.dir (map (λ name. name.now) l.names.items) l.last

abbrev pub decreases-loop-name : goal.decreases-loop-name
decreases-loop-name l = count_after (l.dir ++ 47 ∷ l.last) l.disk.held.names
