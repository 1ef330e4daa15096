use Rattle.settle_law.proofs.Meeting.{stays_met}
use Rattle.settle_law.proofs.steps.stays_met.Goals as goal

pub returns : goal.returns
returns c = stays_met
