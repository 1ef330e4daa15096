use Rattle.address_rules.proofs.LineLemmas.{lines_cut, lines_shorter, lines_uncut}
use Rattle.address_rules.proofs.lines.cut_line.Goals as goal

pub returns-in-Some-clause-lines : goal.returns-in-Some-clause-lines
returns-in-Some-clause-lines c = lines_cut c.args.text.now c.in-Some.parts.0.now c.in-Some.parts.1.now c.in-Some.ensures

pub returns-in-Some-clause-shorter : goal.returns-in-Some-clause-shorter
returns-in-Some-clause-shorter c = lines_shorter c.args.text.now c.in-Some.parts.0.now c.in-Some.parts.1.now c.in-Some.ensures

pub returns-in-None-clause-lines : goal.returns-in-None-clause-lines
returns-in-None-clause-lines c = lines_uncut c.args.text.now c.requires c.in-None.ensures
