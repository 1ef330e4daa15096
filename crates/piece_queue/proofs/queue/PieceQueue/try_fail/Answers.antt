use Rattle.std.proofs.Common.{◌∙◌, ap, refl}
use Rattle.piece_queue.specs.declared.hand.Hand.{Hand}
use Rattle.piece_queue.proofs.Pushed.{fails_first, fails_so}
use Rattle.piece_queue.proofs.queue.PieceQueue.try_fail.Goals as goal

pub try_push-requires-clause-pass : goal.try_push-requires-clause-pass
try_push-requires-clause-pass g c = (c.requires.0, ap (λ (v : Hand). v.reads) c.requires.1)

pub try_push-requires-clause-piece : goal.try_push-requires-clause-piece
try_push-requires-clause-piece g c = fails_first _ _ _ c.requires.1 refl refl tt

pub returns-in-Ok-clause-failed : goal.returns-in-Ok-clause-failed
returns-in-Ok-clause-failed g c = fails_so _ _ _ _ c.requires.1 c.in-Ok.ensures.ok refl refl refl

pub returns-in-Err-clause-failed : goal.returns-in-Err-clause-failed
returns-in-Err-clause-failed g c = c.in-Err.ensures.full.1 ∙ c.requires.1
