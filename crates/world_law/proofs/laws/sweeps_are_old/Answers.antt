use Rattle.world_law.proofs.Sweeps.{sweeps_are_old}
use Rattle.world_law.proofs.laws.sweeps_are_old.Goals as goal

pub returns : goal.returns
returns c = sweeps_are_old
