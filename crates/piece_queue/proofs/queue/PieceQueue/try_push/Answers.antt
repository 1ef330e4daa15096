use Rattle.piece_queue.proofs.Moves.{adds}
use Rattle.piece_queue.proofs.queue.PieceQueue.try_push.Goals as goal

pub push_as-requires-clause-rule : goal.push_as-requires-clause-rule
push_as-requires-clause-rule g c = (adds _ _ _ _ c.requires.pass.1 c.requires.piece, λ items views h at. tt)
