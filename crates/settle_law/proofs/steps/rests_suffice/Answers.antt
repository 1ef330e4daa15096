use Rattle.settle_law.proofs.Sufficing.{suffices}
use Rattle.settle_law.proofs.steps.rests_suffice.Goals as goal

pub returns : goal.returns
returns c = suffices
