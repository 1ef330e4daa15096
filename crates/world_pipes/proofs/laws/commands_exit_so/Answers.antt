use Rattle.world_pipes.proofs.Exits.{exits_by_number, exits_otherwise}
use Rattle.world_pipes.proofs.laws.commands_exit_so.Goals as goal

pub returns-clause-exits : goal.returns-clause-exits
returns-clause-exits c = exits_by_number

pub returns-clause-other : goal.returns-clause-other
returns-clause-other c = exits_otherwise
