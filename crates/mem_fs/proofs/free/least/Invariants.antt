use Rattle.std.proofs.Common.{ℕ, ◌≤◌, ◌<◌, ◌-◌, ◌^◌}
use Rattle.mem_files.specs.MemFiles.{IsIdle}
use Rattle.mem_fs.proofs.free.least.Given as goal

abbrev pub invariant-loop-number : goal.invariant-loop-number
invariant-loop-number l = (l.low ≤ l.number) × ((n : ℕ) → l.low ≤ n → n < l.number → ¬ (IsIdle l.files n))

abbrev pub decreases-loop-number : goal.decreases-loop-number
decreases-loop-number l = 2 ^ 64 - l.number
