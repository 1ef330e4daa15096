use Rattle.world_law.proofs.Promise.{k_reports_are_carried}
use Rattle.world_law.proofs.laws.k_reports_are_carried.Goals as goal

pub returns : goal.returns
returns c = k_reports_are_carried
