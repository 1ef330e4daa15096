use Rattle.retry_schedule.proofs.Walks.{Filling}
use Rattle.retry_schedule.proofs.index.fill.Given as goal

abbrev pub invariant-loop-n : goal.invariant-loop-n
invariant-loop-n l = Filling l.moments.entries l.n-iterator l.index
