use Rattle.send_runs.proofs.Reports.{entries_were_reported}
use Rattle.send_runs.proofs.laws.entries_were_reported.Goals as goal

pub returns : goal.returns
returns c = entries_were_reported
