use Rattle.program_law.proofs.Sender.Goes.{cleaners_go_on}
use Rattle.program_law.proofs.senders.cleaners_go_on.Goals as goal

pub returns : goal.returns
returns c = cleaners_go_on
