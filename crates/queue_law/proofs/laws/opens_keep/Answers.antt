use Rattle.queue_law.proofs.Opens.{opened_held, held_on}
use Rattle.queue_law.proofs.laws.opens_keep.Goals as goal

pub returns : goal.returns
returns c = record { opened = opened_held; held = held_on }
