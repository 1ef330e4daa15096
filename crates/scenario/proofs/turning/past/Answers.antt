use Rattle.std.proofs.Common.{arith}
use Rattle.scenario.proofs.DeadStarts.{later_moves}
use Rattle.scenario.proofs.turning.past.Goals as goal

pub returns-clause-none : goal.returns-clause-none
returns-clause-none c = λ d plan h playing none.
    later_moves d h c.args.first c.args.later.now c.args.next c.max.result c.first_place.result (omega arith) (λ low. omega arith) none (c.first_place.ensures.none d plan h playing)
