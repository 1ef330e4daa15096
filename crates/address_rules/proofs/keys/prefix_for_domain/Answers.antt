use Rattle.address_rules.proofs.KeyLemmas.{domain_looked_up}
use Rattle.address_rules.proofs.keys.prefix_for_domain.Goals as goal

pub returns : goal.returns
returns c = rw (c.or-2.ensures, c.or.ensures) (domain_looked_up c.args.lines.now c.args.domain.now _ _ _ c.prefix_for.ensures c.prefix_for_suffix.ensures c.prefix_for-2.ensures)
