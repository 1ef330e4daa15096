use Rattle.retry_law.proofs.Retried.{searches_keep}
use Rattle.retry_law.proofs.laws.searches_keep_tries.Goals as goal

pub returns : goal.returns
returns c = searches_keep
