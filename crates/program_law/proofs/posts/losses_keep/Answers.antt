use Rattle.program_law.proofs.Post.Asks.{losses_keep}
use Rattle.program_law.proofs.posts.losses_keep.Goals as goal

pub returns : goal.returns
returns c = losses_keep
