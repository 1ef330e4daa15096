use Rattle.settle_law.proofs.ToldMoments.{pasts_tell_moments}
use Rattle.settle_law.proofs.steps.pasts_tell_moments.Goals as goal

pub returns : goal.returns
returns c = pasts_tell_moments
