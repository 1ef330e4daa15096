use Rattle.world_law.proofs.UnderWay.{commands_rest}
use Rattle.world_law.proofs.laws.commands_rest.Goals as goal

pub returns : goal.returns
returns c = commands_rest
