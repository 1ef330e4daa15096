use Rattle.program_law.proofs.Post.Senders.{senders_keep}
use Rattle.program_law.proofs.posts.senders_keep.Goals as goal

pub returns : goal.returns
returns c = senders_keep
