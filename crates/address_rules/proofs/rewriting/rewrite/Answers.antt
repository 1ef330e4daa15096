use Rattle.std.proofs.Common.{sym, ap, ◌∙◌}
use Rattle.address_rules.specs.Cuts.{last_cut}
use Rattle.address_rules.specs.Routes.{domain_of}
use Rattle.address_rules.proofs.RouteLemmas.{route_is}
use Rattle.address_rules.proofs.rewriting.rewrite.Goals as goal

pub returns : goal.returns
returns c =
    rw (route_is c.args.controls.now c.args.address.now c.as_slice.result.now c.domain_of.result.now
    (c.as_slice.ensures.value ∙ c.in_ok-full.ensures)
    (c.domain_of.ensures ∙ ap (λ t. domain_of (last_cut 64 t)) (c.as_slice-2.ensures.value ∙ sym c.as_slice.ensures.value)))
    c.decide.ensures
