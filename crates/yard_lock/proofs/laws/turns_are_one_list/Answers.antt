use Rattle.yard_lock.proofs.OneList.{one_list}
use Rattle.yard_lock.proofs.laws.turns_are_one_list.Goals as goal

pub returns : goal.returns
returns g c = λ key s r. one_list g.Y.Stepped.moves key s r
