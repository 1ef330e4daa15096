use Rattle.program_law.proofs.Post.TakesIn.{takes_in_keep}
use Rattle.program_law.proofs.posts.takes_in_keep.Goals as goal

pub returns : goal.returns
returns c = takes_in_keep
