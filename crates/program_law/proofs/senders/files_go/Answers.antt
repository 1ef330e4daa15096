use Rattle.program_law.proofs.Sender.Gone.{files_go}
use Rattle.program_law.proofs.senders.files_go.Goals as goal

pub returns : goal.returns
returns c = λ now q a ch n p d read call told wrote G h due fits. files_go now q a G ch n p d read call told wrote h due fits
