use Rattle.program_law.proofs.Post.Asks.{asks_keep}
use Rattle.program_law.proofs.posts.asks_keep.Goals as goal

pub returns : goal.returns
returns c = asks_keep
