use Rattle.settle_law.proofs.QuietTurns.{searches_begin}
use Rattle.settle_law.proofs.steps.searches_begin.Goals as goal

pub returns : goal.returns
returns c = searches_begin
