use Rattle.std.proofs.Common.{ℕ, List, true, subst}
use Rattle.retry_schedule.specs.Index.{entry}
use Rattle.retry_schedule.proofs.Kept.{puts_from}
use Rattle.retry_schedule.proofs.Walks.{Filling, filling_none, filling_more, filling_over}
use Rattle.retry_schedule.proofs.index.fill.Goals as goal

pub loop-n-init : goal.loop-n-init
loop-n-init c = filling_none c.args.moments.now.entries _ c.clear.new.self c.into_iter-n-iterator.ensures.into_iter_gives.0 c.clear.ensures.ordered c.clear.ensures.empty

pub loop-n-preserved : goal.loop-n-preserved
loop-n-preserved c =
    let m : ℕ × ℕ = (c.in-Some.n.now, c.in-Some.due.now) in
    filling_more c.args.moments.now.entries _ m c.loop-n.index c.insert.new.self
    (subst (λ (es : List (ℕ × ℕ)). Filling c.args.moments.now.entries es c.loop-n.index) c.in-Some.ensures.steps c.loop-n.invariant)
    (puts_from c.loop-n.index c.insert.new.self (entry m.1 m.0) true c.in_ok-insert.ensures.updates)
    c.insert.ensures.ordered

pub returns-clause-ordered : goal.returns-clause-ordered
returns-clause-ordered c = c.loop-n.invariant.ordered

pub returns-clause-tells : goal.returns-clause-tells
returns-clause-tells c = filling_over c.args.moments.now _ c.loop-n.index c.into_iter-n-iterator.ensures.into_iter_gives.5 c.in-None.ensures.steps.0 c.loop-n.invariant
