use Rattle.mem_files.proofs.Idle.{AreBusyUpTo}
use Rattle.mem_files.proofs.files.greatest_idle.Given as goal

abbrev pub invariant-loop-at : goal.invariant-loop-at
invariant-loop-at l = AreBusyUpTo l.files l.at l.number

abbrev pub decreases-loop-at : goal.decreases-loop-at
decreases-loop-at l = l.at
