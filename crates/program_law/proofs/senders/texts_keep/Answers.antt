use Rattle.program_law.proofs.Sender.Asking.{texts_keep}
use Rattle.program_law.proofs.senders.texts_keep.Goals as goal

pub returns : goal.returns
returns c = texts_keep
