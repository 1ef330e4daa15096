use Rattle.maildir_drop.proofs.Standing.{on_ok}
use Rattle.maildir_drop.proofs.machine.MaildirDropMachine.done.Goals as goal

pub returns-clause-stands : goal.returns-clause-stands
returns-clause-stands c = λ args past s. on_ok c.done.result (c.done.ensures.stands args past s)
