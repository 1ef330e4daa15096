use Rattle.std.proofs.Common.{true, refl}
use Rattle.send_known.proofs.ByNumber.{kept_listed}
use Rattle.send_known.proofs.known.KnownList.learn.Goals as goal

pub learn-requires : goal.learn-requires
learn-requires c = c.in_ok-relist.ensures.listed

pub invariant_of-self-2 : goal.invariant_of-self-2
invariant_of-self-2 c = kept_listed c.learn.new.known c.learn.new.done.items c.learn.new.done.items true c.relist.new.listed c.learn.ensures.kept (λ _. c.learn.ensures.kept.covers refl)
