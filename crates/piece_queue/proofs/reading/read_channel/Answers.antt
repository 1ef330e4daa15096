use Rattle.piece_queue.proofs.Pushed.{in_false, in_true, none_pushed}
use Rattle.piece_queue.proofs.reading.read_channel.Goals as goal

pub loop-number-init : goal.loop-number-init
loop-number-init g c = let begun = none_pushed _ _ _ c.requires.1 in (c.requires.0, begun.0, begun.1)

pub loop-number-preserved : goal.loop-number-preserved
loop-number-preserved g c = (
  c.push_next-is_over.ensures.pass,
  c.push_next-is_over.ensures.all _ c.loop-number.invariant.1,
  in_false _ _ _ c.push_next-is_over.ensures.over c.if-is_over.false,
)

pub returns-then-is_over-clause-all : goal.returns-then-is_over-clause-all
returns-then-is_over-clause-all g c = c.push_next-is_over.ensures.all _ c.loop-number.invariant.1

pub returns-then-is_over-clause-over : goal.returns-then-is_over-clause-over
returns-then-is_over-clause-over g c = in_true _ _ _ c.push_next-is_over.ensures.over c.if-is_over.true
