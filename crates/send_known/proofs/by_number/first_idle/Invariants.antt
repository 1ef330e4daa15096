use Rattle.send_known.proofs.ByNumber.{Past}
use Rattle.send_known.proofs.by_number.first_idle.Given as goal

abbrev pub invariant-loop-n : goal.invariant-loop-n
invariant-loop-n l = Past l.now l.known.entries l.n-iterator
