use Rattle.send_core.proofs.Holds.{uses}
use Rattle.send_core.proofs.machine.SenderMachine.uses_held.Goals as goal

pub returns : goal.returns
returns c = record { uses = uses }
