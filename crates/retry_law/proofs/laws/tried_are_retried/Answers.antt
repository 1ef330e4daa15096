use Rattle.retry_law.proofs.Jobs.{empty}
use Rattle.retry_law.proofs.Retried.{retried}
use Rattle.retry_law.proofs.laws.tried_are_retried.Goals as goal

pub returns : goal.returns
returns c = retried empty
