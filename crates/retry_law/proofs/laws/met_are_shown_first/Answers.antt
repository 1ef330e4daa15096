use Rattle.retry_law.proofs.Shown.{met_are_shown_first}
use Rattle.retry_law.proofs.laws.met_are_shown_first.Goals as goal

pub returns : goal.returns
returns c = met_are_shown_first
