use Rattle.retry_law.proofs.Told.{moments_are_told}
use Rattle.retry_law.proofs.laws.moments_are_told.Goals as goal

pub returns : goal.returns
returns c = moments_are_told
