use Rattle.piece_queue.proofs.Moves.{takes}
use Rattle.piece_queue.proofs.queue.PieceQueue.take.Goals as goal

pub pop_as-requires-clause-rule : goal.pop_as-requires-clause-rule
pop_as-requires-clause-rule g c = (takes _ _ c.requires.1, λ items views h at. tt)
