use Rattle.maildir_drop.proofs.Holds.{uses}
use Rattle.maildir_drop.proofs.machine.MaildirDropMachine.uses_held.Goals as goal

pub returns : goal.returns
returns c = record { uses = λ args past now ready run. uses args past run }
