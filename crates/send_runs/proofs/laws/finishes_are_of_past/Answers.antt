use Rattle.send_runs.proofs.FinishMoments.{finishes_are_of_past}
use Rattle.send_runs.proofs.laws.finishes_are_of_past.Goals as goal

pub returns : goal.returns
returns c = finishes_are_of_past
