use Rattle.settle_law.proofs.NoneHalfWay.{none_is_half_way}
use Rattle.settle_law.proofs.steps.none_is_half_way.Goals as goal

pub returns : goal.returns
returns c = none_is_half_way
