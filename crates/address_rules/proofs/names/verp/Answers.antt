use Rattle.address_rules.proofs.NameLemmas.{verp_unmarked, verp_no_domain, verp_told}
use Rattle.address_rules.proofs.names.verp.Goals as goal

pub returns-in_default : goal.returns-in_default
returns-in_default c = rw (verp_unmarked c.args.sender.now c.args.recipient.now c.in_default.ensures) c.from_slice.ensures.items

pub returns-in-Some-cut_last : goal.returns-in-Some-cut_last
returns-in-Some-cut_last c =
    rw (verp_told c.args.sender.now c.args.recipient.now c.in-Some.owner.now c.in-Some.host.now c.in-Some-cut_last.user.now c.in-Some-cut_last.domain.now
    c.in-Some.ensures c.in-Some-cut_last.ensures) c.told.ensures

pub returns-in-None : goal.returns-in-None
returns-in-None c = rw (verp_no_domain c.args.sender.now c.args.recipient.now c.in-None.ensures) c.from_slice-in-None.ensures.items
