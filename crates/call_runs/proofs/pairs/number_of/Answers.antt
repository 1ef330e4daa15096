use Rattle.std.proofs.Common.{sym, rules}
use Rattle.call_runs.proofs.Lookups.{name_missing, name_there}
use Rattle.call_runs.proofs.pairs.number_of.Goals as goal

pub returns-in_err-at : goal.returns-in_err-at
returns-in_err-at c = rw c.from_residual.ensures (sym (name_missing c.args.names.now c.args.name.now (search rules)))

pub returns : goal.returns
returns c = sym (name_there c.args.names.now c.args.name.now c.in_ok-at.at (search rules) c.index-names-at.result)
