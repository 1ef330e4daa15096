use Rattle.std.proofs.Common.{◌≡◌, ◌<◌, ℕ, get_or}
use Rattle.retry_schedule.proofs.plain_due.due_in.Given as goal

abbrev pub invariant-loop-entry : goal.invariant-loop-entry
invariant-loop-entry l = (k : ℕ) (d : ℕ × ℕ) → k < l.entry-index → (get_or l.entries k d).1 ≡ l.n → ⊥
