use Rattle.queue_law.proofs.RestIsKept.{rest_is_kept}
use Rattle.queue_law.proofs.laws.rest_is_kept.Goals as goal

pub returns : goal.returns
returns c = rest_is_kept
