use Rattle.std.proofs.Common.{ℕ, List, subst, rules}
use Rattle.send_known.specs.declared.known.Known.{Known}
use Rattle.send_known.proofs.ByNumber.{Listing, listing_none, listing_done, listing_past, listing_over}
use Rattle.send_known.proofs.by_number.list_again.Goals as goal

pub loop-n-init : goal.loop-n-init
loop-n-init c = listing_none c.args.known.now.entries _ _ c.into_iter-n-iterator.ensures.into_iter_gives.0

pub loop-n-preserved-in_ok-push : goal.loop-n-preserved-in_ok-push
loop-n-preserved-in_ok-push c =
    let e : ℕ × Known = (c.in-Some.n.now, c.in-Some.message.now) in
    rw c.in_ok-push.ensures.items
    (listing_done c.args.known.now.entries _ e c.loop-n.done.items (subst (λ (es : List (ℕ × Known)). Listing c.args.known.now.entries es c.loop-n.done.items) c.in-Some.ensures.steps c.loop-n.invariant))

pub loop-n-preserved : goal.loop-n-preserved
loop-n-preserved c =
    let e : ℕ × Known = (c.in-Some.n.now, c.in-Some.message.now) in
    listing_past c.args.known.now.entries _ e c.loop-n.done.items (subst (λ (es : List (ℕ × Known)). Listing c.args.known.now.entries es c.loop-n.done.items) c.in-Some.ensures.steps c.loop-n.invariant) (search rules)

pub returns : goal.returns
returns c = listing_over c.args.known.now _ c.loop-n.done.items c.in-None.ensures.steps.0 c.loop-n.invariant
