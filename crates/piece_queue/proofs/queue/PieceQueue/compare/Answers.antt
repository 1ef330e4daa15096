use Rattle.std.proofs.Common.{ap, ◌∙◌}
use Rattle.piece_queue.specs.declared.hand.Hand.{Hand}
use Rattle.piece_queue.proofs.Hands.{agrees, divides, unites}
use Rattle.piece_queue.proofs.queue.PieceQueue.compare.Goals as goal

pub absorb-requires-clause-rule : goal.absorb-requires-clause-rule
absorb-requires-clause-rule c = unites _ _ _ _ c.requires.taker.1 c.requires.reader.1

pub learn_as-requires-clause-rule : goal.learn_as-requires-clause-rule
learn_as-requires-clause-rule c = agrees _ _ (ap (λ (v : Hand). v.takes) c.absorb.ensures.rule) (ap (λ (v : Hand). v.reads) c.absorb.ensures.rule)

pub another-requires-clause-rule : goal.another-requires-clause-rule
another-requires-clause-rule c =
    let is = c.learn_as.ensures.queue.1 ∙ c.absorb.ensures.rule in
    divides _ _ (ap (λ (v : Hand). v.takes) is) (ap (λ (v : Hand). v.reads) is)
