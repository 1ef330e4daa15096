use Rattle.settle_law.proofs.WholeTurns.{rests_begin}
use Rattle.settle_law.proofs.steps.rests_begin.Goals as goal

pub returns : goal.returns
returns c = rests_begin
