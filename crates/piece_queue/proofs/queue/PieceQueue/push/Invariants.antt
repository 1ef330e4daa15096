use Rattle.std.proofs.Common.{◌≡◌}
use Rattle.crossbeam_queue.specs.Passes.{view, IsPassOf}
use Rattle.piece_queue.proofs.queue.PieceQueue.push.Given as goal

abbrev pub invariant-loop : goal.invariant-loop
invariant-loop g l = IsPassOf l.self.line l.pass × (view l.pass ≡ view l.initial.pass) × (l.left ≡ l.initial.left)
