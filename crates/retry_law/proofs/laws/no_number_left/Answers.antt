use Rattle.retry_law.proofs.Left.{no_number_left}
use Rattle.retry_law.proofs.laws.no_number_left.Goals as goal

pub returns : goal.returns
returns c = no_number_left
