use Rattle.send_runs.proofs.DueMoments.{dues_are_of_past}
use Rattle.send_runs.proofs.laws.dues_are_of_past.Goals as goal

pub returns : goal.returns
returns c = dues_are_of_past
