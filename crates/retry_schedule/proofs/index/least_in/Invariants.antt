use Rattle.retry_schedule.proofs.Walks.{Looking}
use Rattle.retry_schedule.proofs.index.least_in.Given as goal

abbrev pub invariant-loop-n : goal.invariant-loop-n
invariant-loop-n l = Looking l.now l.moments.entries l.n-iterator l.least
