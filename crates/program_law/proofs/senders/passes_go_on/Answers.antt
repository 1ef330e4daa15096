use Rattle.program_law.proofs.Sender.Passing.{passes_go_on}
use Rattle.program_law.proofs.senders.passes_go_on.Goals as goal

pub returns : goal.returns
returns c = passes_go_on
