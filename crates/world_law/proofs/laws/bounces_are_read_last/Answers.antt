use Rattle.world_law.proofs.Histories.{bounces_are_read_last}
use Rattle.world_law.proofs.laws.bounces_are_read_last.Goals as goal

pub returns : goal.returns
returns c = bounces_are_read_last
