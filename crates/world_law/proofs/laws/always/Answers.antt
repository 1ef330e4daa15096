use Rattle.world_law.proofs.Histories.{always}
use Rattle.world_law.proofs.laws.always.Goals as goal

pub returns : goal.returns
returns c = always
