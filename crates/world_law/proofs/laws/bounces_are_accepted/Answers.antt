use Rattle.world_law.proofs.Histories.{bounces_are_accepted}
use Rattle.world_law.proofs.laws.bounces_are_accepted.Goals as goal

pub returns : goal.returns
returns c = bounces_are_accepted
