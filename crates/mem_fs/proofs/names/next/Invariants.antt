use Rattle.std.proofs.Common.{length}
use Rattle.mem_fs.specs.Tables.{texts, IsRest}
use Rattle.mem_fs.proofs.names.next.Given as goal

abbrev pub invariant-loop-name : goal.invariant-loop-name
invariant-loop-name l = IsRest (texts l.names.entries) l.dir l.after (texts l.rest)

abbrev pub decreases-loop-name : goal.decreases-loop-name
decreases-loop-name l = length l.rest
