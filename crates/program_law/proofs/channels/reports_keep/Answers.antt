use Rattle.program_law.proofs.Channel.Ties.{report_kept}
use Rattle.program_law.proofs.channels.reports_keep.Goals as goal

pub returns : goal.returns
returns c = report_kept
