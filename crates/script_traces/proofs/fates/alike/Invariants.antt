use Rattle.std.proofs.Common.{◌≡◌, replicate}
use Rattle.script_traces.proofs.fates.alike.Given as goal

abbrev pub invariant-loop : goal.invariant-loop
invariant-loop l = l.fates.items ≡ replicate l.counter l.fate
