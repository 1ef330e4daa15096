use Rattle.program_law.proofs.Sender.Passing.{passes_give}
use Rattle.program_law.proofs.senders.passes_give.Goals as goal

pub returns : goal.returns
returns c = passes_give
