use Rattle.std.proofs.Common.{◌≡◌, ℕ, ◌<◌, ◌≤◌, true, not, eqb, length, get_or}
use Rattle.call_runs.proofs.plain_names.dir_of.Given as goal

abbrev pub invariant-loop-end : goal.invariant-loop-end
invariant-loop-end l = (l.end ≤ length l.name) × ((k : ℕ) → l.end ≤ k → k < length l.name → not (eqb (get_or l.name k 0) 47) ≡ true)

abbrev pub decreases-loop-end : goal.decreases-loop-end
decreases-loop-end l = l.end
