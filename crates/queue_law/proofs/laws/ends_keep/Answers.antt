use Rattle.queue_law.proofs.Sends.{ends_keep}
use Rattle.queue_law.proofs.laws.ends_keep.Goals as goal

pub returns : goal.returns
returns c = λ now q a read n told wrote G may fits. ends_keep now q a G read n told wrote may fits
