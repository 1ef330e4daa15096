use Rattle.world_law.proofs.Remotes.{remotes_keep}
use Rattle.world_law.proofs.laws.remotes_keep.Goals as goal

pub returns : goal.returns
returns c = remotes_keep
