use Rattle.std.proofs.Common.{rules}
use Rattle.piece_queue.proofs.Moves.{begins, parts}
use Rattle.piece_queue.proofs.queue.PieceQueue.new.Goals as goal

pub ruled-requires-clause-rule : goal.ruled-requires-clause-rule
ruled-requires-clause-rule c = begins

pub another-taker-requires-clause-rule : goal.another-taker-requires-clause-rule
another-taker-requires-clause-rule c = parts _ _ (search rules) (search rules)
