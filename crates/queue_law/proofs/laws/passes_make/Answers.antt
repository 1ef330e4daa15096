use Rattle.queue_law.proofs.PassesMake.{passes_make}
use Rattle.queue_law.proofs.laws.passes_make.Goals as goal

pub returns : goal.returns
returns c = passes_make
