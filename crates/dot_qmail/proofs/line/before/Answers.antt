use Rattle.std.proofs.Common.{sym, eqb}
use Rattle.dot_qmail.proofs.LineLemmas.{before_place, before_none}
use Rattle.dot_qmail.proofs.line.before.Goals as goal

pub returns-in-Some : goal.returns-in-Some
returns-in-Some c = before_place (λ b. eqb b c.args.byte) c.args.text.now c.in-Some.at (sym c.in-Some.ensures)

pub returns-in-None : goal.returns-in-None
returns-in-None c = before_none (λ b. eqb b c.args.byte) c.args.text.now (sym c.in-None.ensures)
