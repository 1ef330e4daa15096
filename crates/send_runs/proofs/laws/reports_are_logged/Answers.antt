use Rattle.send_runs.proofs.ReportLines.{reports_are_logged}
use Rattle.send_runs.proofs.laws.reports_are_logged.Goals as goal

pub returns : goal.returns
returns c = reports_are_logged
