use Rattle.remote_spawn.proofs.Holds.{uses}
use Rattle.remote_spawn.proofs.machine.RemoteSpawnMachine.uses_held.Goals as goal

pub returns : goal.returns
returns c = record { uses = uses }
