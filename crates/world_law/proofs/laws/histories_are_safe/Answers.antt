use Rattle.world_law.proofs.Histories.{histories_are_safe}
use Rattle.world_law.proofs.laws.histories_are_safe.Goals as goal

pub returns : goal.returns
returns c = histories_are_safe
