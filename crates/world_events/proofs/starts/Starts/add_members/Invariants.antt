use Rattle.std.proofs.Common.{◌≡◌, ◌++◌, ◌≤◌, ◌+◌}
use Rattle.std.specs.List.{range_with_len}
use Rattle.std.specs.Vec.{vec_len, vec_capacity}
use Rattle.world_events.proofs.starts.Starts.add_members.Given as goal

-- the seats below this one are there, and room for the others
abbrev pub invariant-loop-seat : goal.invariant-loop-seat
invariant-loop-seat l =
    (l.self.order.items ≡ l.initial.self.order.items ++ range_with_len 0 l.seat) × (vec_capacity l.initial.self.order ≤ vec_capacity l.self.order)
    × (l.self.newest ≡ l.initial.self.newest) × (vec_len l.self.order ≡ vec_len l.initial.self.order + l.seat)
