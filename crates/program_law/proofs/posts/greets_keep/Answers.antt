use Rattle.program_law.proofs.Post.Asks.{greets_keep}
use Rattle.program_law.proofs.posts.greets_keep.Goals as goal

pub returns : goal.returns
returns c = greets_keep
