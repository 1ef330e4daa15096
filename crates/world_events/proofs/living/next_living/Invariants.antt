use Rattle.std.proofs.Common.{◌≡◌, ℕ, ◌-◌, ◌≤◌, ◌<◌, None, length}
use Rattle.world_events.specs.Starts.{start_at}
use Rattle.world_events.proofs.living.next_living.Given as goal

-- none of those before this place
abbrev pub invariant-loop-at : goal.invariant-loop-at
invariant-loop-at g l = (l.from ≤ l.at) × ((k : ℕ) → l.from ≤ k → k < l.at → start_at g.A.Living.lives l.starts l.actors l.crew k ≡ None)

abbrev pub decreases-loop-at : goal.decreases-loop-at
decreases-loop-at g l = length l.starts.order.items - l.at
