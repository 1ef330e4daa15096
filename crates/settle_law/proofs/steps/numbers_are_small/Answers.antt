use Rattle.settle_law.proofs.SmallNumbers.{numbers_are_small}
use Rattle.settle_law.proofs.steps.numbers_are_small.Goals as goal

pub returns : goal.returns
returns c = numbers_are_small
