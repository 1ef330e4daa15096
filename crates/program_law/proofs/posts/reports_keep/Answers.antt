use Rattle.program_law.proofs.Post.Reports.{reports_keep}
use Rattle.program_law.proofs.posts.reports_keep.Goals as goal

pub returns : goal.returns
returns c = reports_keep
