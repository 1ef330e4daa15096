use Rattle.std.proofs.Common.{arith}
use Rattle.proc_runner.proofs.Held.{not_there, nowhere}
use Rattle.proc_runner.proofs.children.Children.place_of.Goals as goal

pub loop-place-preserved : goal.loop-place-preserved
loop-place-preserved g c = not_there _ _ c.loop-place.place c.index.result.now _ (omega (arith, c.loop-place-test.true, c.len-place-end.ensures)) c.index.ensures c.if-index-chan.false c.loop-place.invariant

pub returns-clause-none : goal.returns-clause-none
returns-clause-none g c = nowhere _ _ c.loop-place.place _ (omega (arith, c.loop-place-test.false, c.len-place-end.ensures)) c.loop-place.invariant
