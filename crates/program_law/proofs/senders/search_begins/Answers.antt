use Rattle.program_law.proofs.Sender.Passing.{search_begins}
use Rattle.program_law.proofs.senders.search_begins.Goals as goal

pub returns : goal.returns
returns c = search_begins
