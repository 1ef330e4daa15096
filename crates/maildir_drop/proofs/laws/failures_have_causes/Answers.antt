use Rattle.maildir_drop.proofs.Reasons.{failure}
use Rattle.maildir_drop.proofs.laws.failures_have_causes.Goals as goal

pub returns : goal.returns
returns c = failure
