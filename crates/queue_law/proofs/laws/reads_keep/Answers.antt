use Rattle.queue_law.proofs.Sends.{reads_keep}
use Rattle.queue_law.proofs.laws.reads_keep.Goals as goal

pub returns : goal.returns
returns c = λ now q a read call told wrote G may fits. reads_keep now q a G read call told wrote may fits
