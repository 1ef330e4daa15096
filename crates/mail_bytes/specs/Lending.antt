-- What is lent of a value on the heap.
use Rattle.std.specs.Borrow.{Lends, MutBor, Fml}
use denote.RattleType.{RattleType}
use Rattle.mail_bytes.specs.contracts.on_heap.OnHeap.{the_row}

-- the value on the heap ends as the last value behind r
abbrev pub LendsWhole : (R : RattleType) → MutBor R.Denot → MutBor R.Denot → Fml
LendsWhole R s r = Lends (the_row R) R s r (λ w. w)
