use Rattle.std.proofs.Common.{ℕ, ◌<◌, ◌-◌, ◌^◌}
use Rattle.call_fs.specs.Free.{IsFree}
use Rattle.mem_fs.specs.MemDisk.{disk_of}
use Rattle.call_runs.specs.Lists.{held_of}
use Rattle.call_runs.proofs.plain_lists.PlainLists.least_free.Given as goal

abbrev pub invariant-loop-number : goal.invariant-loop-number
invariant-loop-number l = (m : ℕ) → m < l.number → ¬ (IsFree (disk_of (held_of l.self)) m)

abbrev pub decreases-loop-number : goal.decreases-loop-number
decreases-loop-number l = 2 ^ 64 - l.number
