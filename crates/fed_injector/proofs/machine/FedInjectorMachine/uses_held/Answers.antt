use Rattle.queue_inject.proofs.Holds.{holds_what_it_uses}
use Rattle.fed_injector.proofs.machine.FedInjectorMachine.uses_held.Goals as goal

pub returns : goal.returns
returns c = record { uses = holds_what_it_uses }
