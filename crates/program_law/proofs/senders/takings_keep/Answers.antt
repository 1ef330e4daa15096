use Rattle.program_law.proofs.Sender.Entries.{takings}
use Rattle.program_law.proofs.senders.takings_keep.Goals as goal

pub returns : goal.returns
returns c = takings
