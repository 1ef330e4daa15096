use Rattle.std.proofs.Common.{length}
use Rattle.local_spawn.proofs.FileLemmas.{Stands}
use Rattle.local_spawn.proofs.assign.Assign.read.Given as goal

abbrev pub invariant-loop-rest : goal.invariant-loop-rest
invariant-loop-rest l = Stands l.bytes l.lines.items l.rest

abbrev pub decreases-loop-rest : goal.decreases-loop-rest
decreases-loop-rest l = length l.rest
