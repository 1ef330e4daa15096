use Rattle.remote_spawn.proofs.ReportLaws.{success_is}
use Rattle.remote_spawn.proofs.laws.successes_are_told.Goals as goal

pub returns : goal.returns
returns c = success_is
