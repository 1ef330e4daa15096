use Rattle.std.proofs.Common.{nat_cmp, take}
use Rattle.std.specs.BTreeMap.{get}
use Rattle.send_known.proofs.ByNumber.{Looked}
use Rattle.send_known.proofs.by_number.least_idle.Given as goal

abbrev pub invariant-loop-n : goal.invariant-loop-n
invariant-loop-n l = Looked l.now (get nat_cmp l.known) (take l.n-index l.done) l.least
