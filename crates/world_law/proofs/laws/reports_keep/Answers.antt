use Rattle.world_law.proofs.Later.{reports_keep}
use Rattle.world_law.proofs.laws.reports_keep.Goals as goal

pub returns : goal.returns
returns c = reports_keep
