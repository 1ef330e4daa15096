use Rattle.spawn_protocol.proofs.Reports.{no_text}
use Rattle.spawn_protocol.proofs.report.ReportReader.new.Goals as goal

pub returns-clause-read : goal.returns-clause-read
returns-clause-read c = no_text
