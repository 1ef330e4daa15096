use Rattle.program_law.proofs.Post.Asks.{slots_keep}
use Rattle.program_law.proofs.posts.slots_keep.Goals as goal

pub returns : goal.returns
returns c = slots_keep
