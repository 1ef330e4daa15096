use Rattle.queue_law.proofs.PassesMake.{passes_give}
use Rattle.queue_law.proofs.laws.passes_give.Goals as goal

pub returns : goal.returns
returns c = passes_give
