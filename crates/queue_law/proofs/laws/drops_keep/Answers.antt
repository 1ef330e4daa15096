use Rattle.queue_law.proofs.Sends.{drops_keep}
use Rattle.queue_law.proofs.laws.drops_keep.Goals as goal

pub returns : goal.returns
returns c = λ now q a read n ch told wrote G may fits. drops_keep now q a G read n ch told wrote may fits
