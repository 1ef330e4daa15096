use Rattle.std.proofs.Common.{ℕ, List, subst, rules}
use Rattle.send_known.specs.declared.known.Known.{Known}
use Rattle.send_known.proofs.ByNumber.{Past, past_none, past_one, past_here, past_all}
use Rattle.send_known.proofs.by_number.first_idle.Goals as goal

pub loop-n-init : goal.loop-n-init
loop-n-init c = past_none c.args.now c.args.known.now.entries _ c.into_iter-n-iterator.ensures.into_iter_gives.0

pub loop-n-preserved : goal.loop-n-preserved
loop-n-preserved c =
    let e : ℕ × Known = (c.in-Some.n.now, c.in-Some.message.now) in
    past_one c.args.now c.args.known.now.entries _ e (subst (λ (es : List (ℕ × Known)). Past c.args.now c.args.known.now.entries es) c.in-Some.ensures.steps c.loop-n.invariant) (search rules)

pub returns-then-not-message : goal.returns-then-not-message
returns-then-not-message c =
    let e : ℕ × Known = (c.in-Some.n.now, c.in-Some.message.now) in
    past_here c.args.now c.args.known.now.entries _ e c.requires (subst (λ (es : List (ℕ × Known)). Past c.args.now c.args.known.now.entries es) c.in-Some.ensures.steps c.loop-n.invariant) (search rules)

pub returns : goal.returns
returns c = past_all c.args.now c.args.known.now.entries _ c.in-None.ensures.steps.0 c.loop-n.invariant
