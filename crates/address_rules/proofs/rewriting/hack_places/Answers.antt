use Rattle.std.proofs.Common.{sym, ◌∙◌}
use Rattle.address_rules.proofs.RouteLemmas.{places}
use Rattle.address_rules.proofs.rewriting.hack_places.Goals as goal

pub returns-in-Some-cut_last : goal.returns-in-Some-cut_last
returns-in-Some-cut_last c =
    places c.args.hacks.now c.args.address.now c.in-Some.before.now c.in-Some.domain.now c.in-Some-cut_last.user.now c.in-Some-cut_last.field-0-1.now
    c.in-Some.ensures (sym c.is_listed.ensures ∙ c.if-is_listed.true) c.in-Some-cut_last.ensures
