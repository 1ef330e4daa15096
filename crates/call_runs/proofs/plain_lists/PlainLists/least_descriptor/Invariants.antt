use Rattle.std.proofs.Common.{◌≡◌, ℕ, ◌≤◌, ◌<◌, ◌-◌, ◌^◌, None}
use Rattle.mem_files.specs.Tables.{at_number}
use Rattle.call_runs.proofs.plain_lists.PlainLists.least_descriptor.Given as goal

abbrev pub invariant-loop-fd : goal.invariant-loop-fd
invariant-loop-fd l = (1 ≤ l.fd) × ((m : ℕ) → m < l.fd → ¬ ((1 ≤ m) × (at_number l.self.opens.items m ≡ None)))

abbrev pub decreases-loop-fd : goal.decreases-loop-fd
decreases-loop-fd l = 2 ^ 64 - l.fd
