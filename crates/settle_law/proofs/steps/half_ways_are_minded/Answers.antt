use Rattle.settle_law.proofs.Minded.{half_ways_are_minded}
use Rattle.settle_law.proofs.steps.half_ways_are_minded.Goals as goal

pub returns : goal.returns
returns c = half_ways_are_minded
