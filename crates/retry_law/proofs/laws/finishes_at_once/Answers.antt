use Rattle.retry_law.proofs.Finishes.{finishes_at_once}
use Rattle.retry_law.proofs.laws.finishes_at_once.Goals as goal

pub returns : goal.returns
returns c = finishes_at_once
