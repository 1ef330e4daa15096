use Rattle.world_law.proofs.Promise.{delivered_are_carried}
use Rattle.world_law.proofs.laws.delivered_are_carried.Goals as goal

pub returns : goal.returns
returns c = delivered_are_carried
