use Rattle.retry_law.proofs.Served.{served_are_plain}
use Rattle.retry_law.proofs.laws.served_are_plain.Goals as goal

pub returns : goal.returns
returns c = served_are_plain
