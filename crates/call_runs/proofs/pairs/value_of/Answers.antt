use Rattle.std.proofs.Common.{sym, rules}
use Rattle.call_runs.proofs.Lookups.{number_missing, number_there}
use Rattle.call_runs.proofs.pairs.value_of.Goals as goal

pub returns-in_err-at : goal.returns-in_err-at
returns-in_err-at g c = rw c.from_residual.ensures (sym (number_missing c.args.pairs.now c.args.number (search rules)))

pub returns : goal.returns
returns g c = sym (number_there c.args.pairs.now c.args.number c.in_ok-at.at (search rules) c.index-pairs-at.result)
