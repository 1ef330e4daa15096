use Rattle.std.proofs.Common.{◌≡◌, ℕ, List, ◌<◌, length, get_or, Some}
use Rattle.mem_fs.specs.Tables.{at_name}
use Rattle.call_runs.proofs.pairs.is_named.Given as goal

abbrev pub invariant-loop-one : goal.invariant-loop-one
invariant-loop-one l = (j : ℕ) (d : List ℕ × ℕ) → j < l.one-index → j < length l.names → ¬ (at_name l.names (get_or l.names j d).0 ≡ Some l.number)
