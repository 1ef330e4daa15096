use Rattle.send_core.proofs.Followed.{notes_reports}
use Rattle.send_core.proofs.laws.notes_are_of_reports.Goals as goal

pub returns : goal.returns
returns c = notes_reports
