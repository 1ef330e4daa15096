use Rattle.queue_law.proofs.Begins.{rests_begin}
use Rattle.queue_law.proofs.laws.rests_begin.Goals as goal

pub returns : goal.returns
returns c = rests_begin
