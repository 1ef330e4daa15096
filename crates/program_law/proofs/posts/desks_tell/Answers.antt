use Rattle.program_law.proofs.Post.Desks.{desks_tell}
use Rattle.program_law.proofs.posts.desks_tell.Goals as goal

pub returns : goal.returns
returns c = desks_tell
