use Rattle.world_law.proofs.Children.{children_keep}
use Rattle.world_law.proofs.laws.children_keep.Goals as goal

pub returns : goal.returns
returns c = children_keep
