use Rattle.program_law.proofs.Post.Asks.{starts_posted}
use Rattle.program_law.proofs.posts.starts_posted.Goals as goal

pub returns : goal.returns
returns c = starts_posted
