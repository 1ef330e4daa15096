use Rattle.program_law.proofs.Sender.Begins.{begins}
use Rattle.program_law.proofs.senders.senders_begin.Goals as goal

pub returns : goal.returns
returns c = λ now q a turns. begins now q a turns
