use Rattle.remote_spawn.proofs.Tells.{ends, failed, settles}
use Rattle.remote_spawn.proofs.laws.statuses_have_causes.Goals as goal

pub returns-clause-ends : goal.returns-clause-ends
returns-clause-ends c = ends

pub returns-clause-fails : goal.returns-clause-fails
returns-clause-fails c = failed

pub returns-clause-settles : goal.returns-clause-settles
returns-clause-settles c = settles
