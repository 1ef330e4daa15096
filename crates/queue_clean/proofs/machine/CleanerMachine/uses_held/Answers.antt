use Rattle.call_fs.specs.Past.{held}
use Rattle.queue_clean.proofs.Demands.{asks, needs_none}
use Rattle.queue_clean.proofs.machine.CleanerMachine.uses_held.Goals as goal

pub returns : goal.returns
returns c = record { uses = λ args past now ready run. needs_none (held past) (asks args past now ready) }
