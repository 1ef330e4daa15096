use Rattle.spawn_protocol.proofs.Reports.{taken}
use Rattle.spawn_protocol.proofs.report.ReportReader.feed.Goals as goal

pub returns-clause-read : goal.returns-clause-read
returns-clause-read c = taken _ _ _ _ c.advance.ensures
