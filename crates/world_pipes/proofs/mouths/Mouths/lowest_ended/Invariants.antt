use Rattle.std.proofs.Common.{◌≡◌, ℕ, ◌-◌, ◌≤◌, ◌<◌, false}
use Rattle.world_pipes.specs.Mouths.{ended_of}
use Rattle.world_pipes.proofs.mouths.Mouths.lowest_ended.Given as goal

-- none before this slot is one
abbrev pub invariant-slots : goal.invariant-slots
invariant-slots l = (d : ℕ) → 0 ≤ d → d < l.slot → ended_of l.self d ≡ false

abbrev pub decreases-slots : goal.decreases-slots
decreases-slots l = 255 - l.slot
