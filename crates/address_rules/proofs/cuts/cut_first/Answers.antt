use Rattle.address_rules.proofs.ByteCuts.{first_cut_none, first_cut_of, lacks_byte}
use Rattle.address_rules.proofs.cuts.cut_first.Goals as goal

pub returns-in_default : goal.returns-in_default
returns-in_default c = first_cut_none c.args.byte c.args.text.now (lacks_byte c.args.byte c.args.text.now c.in_default.ensures)

pub returns : goal.returns
returns c = first_cut_of c.args.byte c.args.text.now c.in-Some.at c.in-Some.ensures
