use Rattle.spawner_parts.proofs.Failures.{failed}
use Rattle.spawner_parts.proofs.Reasons.{ends}
use Rattle.spawner_parts.proofs.Settled.{settles}
use Rattle.spawner_parts.proofs.laws.pasts_have_causes.Goals as goal

pub returns-clause-ends : goal.returns-clause-ends
returns-clause-ends c = λ program past p ready status tells due. ends program past p ready status tells.knows due

pub returns-clause-fails : goal.returns-clause-fails
returns-clause-fails c = failed

pub returns-clause-settles : goal.returns-clause-settles
returns-clause-settles c = settles
