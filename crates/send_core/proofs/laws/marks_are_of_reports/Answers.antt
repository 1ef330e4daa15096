use Rattle.send_core.proofs.Runs.{marks_reports}
use Rattle.send_core.proofs.laws.marks_are_of_reports.Goals as goal

pub returns : goal.returns
returns c = marks_reports
