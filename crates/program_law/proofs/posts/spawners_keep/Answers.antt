use Rattle.program_law.proofs.Post.Spawners.{spawners_keep}
use Rattle.program_law.proofs.posts.spawners_keep.Goals as goal

pub returns : goal.returns
returns c = spawners_keep
