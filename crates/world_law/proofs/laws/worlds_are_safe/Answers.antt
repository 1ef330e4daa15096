use Rattle.world_law.proofs.Promise.{worlds_are_safe}
use Rattle.world_law.proofs.laws.worlds_are_safe.Goals as goal

pub returns : goal.returns
returns c = worlds_are_safe
