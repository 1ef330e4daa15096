use Rattle.local_deliver.proofs.Holds.{uses}
use Rattle.local_deliver.proofs.machine.LocalMachine.uses_held.Goals as goal

pub returns : goal.returns
returns c = record { uses = λ args past now ready run. uses args past run }
