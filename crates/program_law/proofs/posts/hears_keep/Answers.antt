use Rattle.program_law.proofs.Post.Hears.{hears_keep}
use Rattle.program_law.proofs.posts.hears_keep.Goals as goal

pub returns : goal.returns
returns c = hears_keep
