use Rattle.program_law.proofs.Sender.Spares.{others_spare}
use Rattle.program_law.proofs.senders.others_spare.Goals as goal

pub returns : goal.returns
returns c = others_spare
