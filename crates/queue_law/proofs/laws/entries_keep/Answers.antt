use Rattle.queue_law.proofs.Sends.{entries_keep}
use Rattle.queue_law.proofs.laws.entries_keep.Goals as goal

pub returns : goal.returns
returns c = λ now q a n s G may. entries_keep now q a G n s may
