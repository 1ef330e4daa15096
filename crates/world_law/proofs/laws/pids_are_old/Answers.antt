use Rattle.world_law.proofs.PidNames.{pids_are_old}
use Rattle.world_law.proofs.laws.pids_are_old.Goals as goal

pub returns : goal.returns
returns c = pids_are_old
