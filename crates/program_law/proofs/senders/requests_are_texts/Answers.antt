use Rattle.program_law.proofs.Sender.Asking.{requests_are_texts}
use Rattle.program_law.proofs.senders.requests_are_texts.Goals as goal

pub returns : goal.returns
returns c = requests_are_texts
