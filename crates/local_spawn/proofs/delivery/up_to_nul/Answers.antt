use Rattle.std.proofs.Common.{sym, eqb}
use Rattle.local_spawn.proofs.NulLemmas.{before_place, before_none}
use Rattle.local_spawn.proofs.delivery.up_to_nul.Goals as goal

pub returns-in-Some : goal.returns-in-Some
returns-in-Some c = before_place (λ b. eqb b 0) c.args.output.now c.in-Some.at (sym c.in-Some.ensures)

pub returns-in-None : goal.returns-in-None
returns-in-None c = before_none (λ b. eqb b 0) c.args.output.now (sym c.in-None.ensures)
