use Rattle.std.proofs.Common.{◌≡◌, ℕ, ◌<◌, map}
use Rattle.std.specs.Prelude.{Some, slice_get}
use Rattle.proc_runner.proofs.children.Children.place_of.Given as goal

abbrev pub invariant-loop-place : goal.invariant-loop-place
invariant-loop-place g l = (k : ℕ) → k < l.place → ¬ (slice_get (map (λ r. r.chan) l.self.running.items) k ≡ Some l.chan)
