use Rattle.send_known.proofs.ByNumber.{Listing}
use Rattle.send_known.proofs.by_number.list_again.Given as goal

abbrev pub invariant-loop-n : goal.invariant-loop-n
invariant-loop-n l = Listing l.known.entries l.n-iterator l.done.items
