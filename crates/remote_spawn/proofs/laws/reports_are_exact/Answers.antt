use Rattle.remote_spawn.proofs.ReportLaws.{report_is, report_plain}
use Rattle.remote_spawn.proofs.laws.reports_are_exact.Goals as goal

pub returns : goal.returns
returns c = record { one = report_is; plain = report_plain }
