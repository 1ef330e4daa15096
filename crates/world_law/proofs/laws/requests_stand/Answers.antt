use Rattle.world_law.proofs.Spawned.{requests_stand}
use Rattle.world_law.proofs.laws.requests_stand.Goals as goal

pub returns : goal.returns
returns c = requests_stand
