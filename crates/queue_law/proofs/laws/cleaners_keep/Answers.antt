use Rattle.queue_law.proofs.Cleaners.{cleaners_keep}
use Rattle.queue_law.proofs.laws.cleaners_keep.Goals as goal

pub returns : goal.returns
returns c = cleaners_keep
