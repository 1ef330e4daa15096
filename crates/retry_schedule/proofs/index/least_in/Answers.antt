use Rattle.std.proofs.Common.{ℕ, List, subst}
use Rattle.retry_schedule.proofs.Walks.{Looking, looking_none, looking_more, looking_over}
use Rattle.retry_schedule.proofs.index.least_in.Goals as goal

pub loop-n-init : goal.loop-n-init
loop-n-init c = looking_none c.args.now c.args.moments.now.entries _ c.into_iter-n-iterator.ensures.into_iter_gives.0

pub loop-n-preserved : goal.loop-n-preserved
loop-n-preserved c =
    let m : ℕ × ℕ = (c.in-Some.n.now, c.in-Some.due.now) in
    looking_more c.args.now c.args.moments.now.entries _ m c.loop-n.least _
    (subst (λ (es : List (ℕ × ℕ)). Looking c.args.now c.args.moments.now.entries es c.loop-n.least) c.in-Some.ensures.steps c.loop-n.invariant)
    c.lesser-least.ensures

pub returns : goal.returns
returns c = looking_over c.args.now c.args.moments.now.entries _ c.loop-n.least c.in-None.ensures.steps.0 c.loop-n.invariant
