use Rattle.std.proofs.Common.{◌≡◌, ℕ, ◌-◌, ◌≤◌, ◌<◌, false}
use Rattle.world_pipes.specs.Mouths.{is_remote, tenant_of}
use Rattle.world_pipes.proofs.mouths.Mouths.lowest.Given as goal

-- none before this slot is one
abbrev pub invariant-loop-from : goal.invariant-loop-from
invariant-loop-from l = (l.from ≤ l.slot) × ((d : ℕ) → l.from ≤ d → d < l.slot → is_remote l.reported (tenant_of l.self d) ≡ false)

abbrev pub decreases-loop-from : goal.decreases-loop-from
decreases-loop-from l = 255 - l.slot
