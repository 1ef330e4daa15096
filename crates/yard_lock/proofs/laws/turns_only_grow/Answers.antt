use Rattle.yard_lock.proofs.Whole.{list_grows}
use Rattle.yard_lock.proofs.laws.turns_only_grow.Goals as goal

pub returns : goal.returns
returns g c = λ key s t r q on. list_grows g.Y.Stepped.moves key s r t.views q.turns (λ k w at. (q.each k w at).prefix) on
