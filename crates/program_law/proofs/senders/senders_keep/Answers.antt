use Rattle.program_law.proofs.Sender.Whole.{senders_keep}
use Rattle.program_law.proofs.senders.senders_keep.Goals as goal

pub returns : goal.returns
returns c = senders_keep
