use Rattle.std.proofs.Common.{List, ℕ, ◌≡◌, Some, None, sym, ap, ◌∙◌, subst}
use Rattle.address_rules.specs.Routes.{hacked, qualified, unhacked}
use Rattle.address_rules.proofs.RouteLemmas.{unhacked_step, unhacked_end, round_shorter}
use Rattle.address_rules.proofs.rewriting.full_address.Goals as goal

pub loop-smaller : goal.loop-smaller
loop-smaller c =
    let e = subst (λ (t : List (List ℕ)). hacked t c.loop.full.items ≡ Some c.hack.new.address.items) c.as_slice-in-loop.ensures c.loop-test.ensures.made in
    round_shorter c.args.controls.now.percent_hack c.loop.full.items c.hack.new.address.items e

pub loop-preserved : goal.loop-preserved
loop-preserved c =
    let e = subst (λ (t : List (List ℕ)). hacked t c.loop.full.items ≡ Some c.hack.new.address.items) c.as_slice-in-loop.ensures c.loop-test.ensures.made in
    sym (unhacked_step c.args.controls.now.percent_hack c.loop.full.items c.hack.new.address.items e) ∙ c.loop.invariant

pub returns : goal.returns
returns c =
    let hacks = c.args.controls.now.percent_hack in
    let e = subst (λ (t : List (List ℕ)). hacked t c.loop.full.items ≡ None) c.as_slice-in-loop.ensures c.loop-test.ensures.none in
    c.loop-test.ensures.kept
    ∙ sym (unhacked_end hacks c.loop.full.items e)
    ∙ c.loop.invariant
    ∙ ap (unhacked hacks) (c.in_ok-full.ensures ∙ ap (λ host. qualified host c.args.address.now) c.as_slice.ensures)
