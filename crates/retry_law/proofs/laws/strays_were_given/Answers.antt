use Rattle.retry_law.proofs.Left.{strays_were_given}
use Rattle.retry_law.proofs.laws.strays_were_given.Goals as goal

pub returns : goal.returns
returns c = strays_were_given
