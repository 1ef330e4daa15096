use Rattle.local_spawn.proofs.Holds.{uses}
use Rattle.local_spawn.proofs.machine.LocalSpawnMachine.uses_held.Goals as goal

pub returns : goal.returns
returns c = record { uses = uses }
