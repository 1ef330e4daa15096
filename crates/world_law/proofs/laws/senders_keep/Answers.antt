use Rattle.world_law.proofs.SendersEvents.{senders_keep}
use Rattle.world_law.proofs.laws.senders_keep.Goals as goal

pub returns : goal.returns
returns c = senders_keep
