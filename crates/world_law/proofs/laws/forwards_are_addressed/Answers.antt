use Rattle.world_law.proofs.Addressed.{forwards_are_addressed}
use Rattle.world_law.proofs.laws.forwards_are_addressed.Goals as goal

pub returns : goal.returns
returns c = forwards_are_addressed
