use Rattle.piece_queue.proofs.Moves.{opens}
use Rattle.piece_queue.proofs.queue.PieceQueue.open_channel.Goals as goal

pub another-requires-clause-rule : goal.another-requires-clause-rule
another-requires-clause-rule c = opens _ _ c.requires.1
