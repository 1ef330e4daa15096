use Rattle.retry_law.proofs.Due.{due_again_known}
use Rattle.retry_law.proofs.Jobs.{clear, empty}
use Rattle.retry_law.proofs.laws.known_are_due_again.Goals as goal

pub returns : goal.returns
returns c = due_again_known clear empty
