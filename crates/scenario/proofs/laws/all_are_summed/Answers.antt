use Rattle.scenario.proofs.AllSummed.{all_summed}
use Rattle.scenario.proofs.laws.all_are_summed.Goals as goal

pub returns : goal.returns
returns c = all_summed
