use Rattle.program_law.proofs.Post.Works.{works_keep}
use Rattle.program_law.proofs.posts.works_keep.Goals as goal

pub returns : goal.returns
returns c = works_keep
