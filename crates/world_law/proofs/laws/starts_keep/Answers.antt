use Rattle.world_law.proofs.Starts.{generations_keep, starts_keep}
use Rattle.world_law.proofs.laws.starts_keep.Goals as goal

pub returns-clause-starts : goal.returns-clause-starts
returns-clause-starts c = starts_keep

pub returns-clause-generations : goal.returns-clause-generations
returns-clause-generations c = generations_keep
