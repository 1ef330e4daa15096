use Rattle.program_law.proofs.Sender.Passes.{opens}
use Rattle.program_law.proofs.senders.passes_open.Goals as goal

pub returns : goal.returns
returns c = λ now q a ch n begun g d read call told wrote G h due fits by. opens now q a G ch n begun g d read call told wrote h due fits by
