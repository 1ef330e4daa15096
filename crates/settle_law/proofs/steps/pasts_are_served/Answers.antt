use Rattle.settle_law.proofs.ServedPasts.{pasts_are_served}
use Rattle.settle_law.proofs.steps.pasts_are_served.Goals as goal

pub returns : goal.returns
returns c = pasts_are_served
