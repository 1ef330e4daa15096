use Rattle.std.specs.Option.{option_copied}
use Rattle.call_runs.proofs.Least.{IsLeastOf}
use Rattle.call_runs.proofs.plain_names.next.Given as goal

abbrev pub invariant-loop-one : goal.invariant-loop-one
invariant-loop-one l = IsLeastOf l.names l.dir l.after l.one-index (option_copied l.least)
