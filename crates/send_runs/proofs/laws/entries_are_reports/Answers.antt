use Rattle.send_runs.proofs.Reports.{entries_are_reports}
use Rattle.send_runs.proofs.laws.entries_are_reports.Goals as goal

pub returns : goal.returns
returns c = entries_are_reports
