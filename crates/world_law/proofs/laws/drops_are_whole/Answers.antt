use Rattle.world_law.proofs.Histories.{drops_are_whole}
use Rattle.world_law.proofs.laws.drops_are_whole.Goals as goal

pub returns : goal.returns
returns c = drops_are_whole
