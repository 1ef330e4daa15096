use Rattle.std.proofs.Common.{Err, ap, inl, inr, refl}
use Rattle.audit_command.proofs.Audits.{nothing_done}
use Rattle.command_words.proofs.Ranges.{work_range}
use Rattle.qmail_top.proofs.Made.{nothing_made}
use Rattle.qmail_top.proofs.Packages.{received_nothing}
use Rattle.qmail_top.proofs.Works.{no_usage, worked_nothing}
use Rattle.qmail_top.proofs.top.qmail.Goals as goal

-- `work`

pub work_script-requires-clause-threads : goal.work_script-requires-clause-threads
work_script-requires-clause-threads g c = λ κs lives. work_range _ c.in-Ok.threads c.in-Ok.ensures.ok

pub returns-in-Ok-clause-usage : goal.returns-in-Ok-clause-usage
returns-in-Ok-clause-usage g c = λ is. absurd (no_usage _ c.work_script.ensures.known is)

pub returns-in-Ok-clause-unused : goal.returns-in-Ok-clause-unused
returns-in-Ok-clause-unused g c = λ is. (refl, refl, refl)

-- another command

pub returns-in-Err-Usage-clause-work : goal.returns-in-Err-Usage-clause-work
returns-in-Err-Usage-clause-work g c = λ is. absurd (c.in-Err-Usage.ensures.usage (ap Err c.in-Err-Usage.field-0-is) is.0 is.1)

pub returns-in-Err-Usage-clause-unused : goal.returns-in-Err-Usage-clause-unused
returns-in-Err-Usage-clause-unused g c = λ is. absurd (c.in-Err-Usage.ensures.usage (ap Err c.in-Err-Usage.field-0-is) is.0 is.1)

-- no memory for the words

pub returns-in-Err-Memory-clause-queue : goal.returns-in-Err-Memory-clause-queue
returns-in-Err-Memory-clause-queue g c = λ q is. inr (record {
  status_is = refl;
  read = inl refl;
  message_left = refl;
  envelope_left = refl;
  disk = refl;
  calls = refl;
  faults = refl;
})

pub returns-in-Err-Memory-clause-qmqpd : goal.returns-in-Err-Memory-clause-qmqpd
returns-in-Err-Memory-clause-qmqpd g c = λ told is. received_nothing _ _ _ _ _ _

pub returns-in-Err-Memory-clause-make : goal.returns-in-Err-Memory-clause-make
returns-in-Err-Memory-clause-make g c = λ told is. nothing_made told _ _

pub returns-in-Err-Memory-clause-audit : goal.returns-in-Err-Memory-clause-audit
returns-in-Err-Memory-clause-audit g c = λ is. nothing_done _ _

pub returns-in-Err-Memory-clause-clean : goal.returns-in-Err-Memory-clause-clean
returns-in-Err-Memory-clause-clean g c = λ is. inr (refl, refl)

pub returns-in-Err-Memory-clause-lspawn : goal.returns-in-Err-Memory-clause-lspawn
returns-in-Err-Memory-clause-lspawn g c = λ dir is. inr (refl, refl, refl)

pub returns-in-Err-Memory-clause-rspawn : goal.returns-in-Err-Memory-clause-rspawn
returns-in-Err-Memory-clause-rspawn g c = λ told is. inr (refl, refl, refl)

pub returns-in-Err-Memory-clause-send : goal.returns-in-Err-Memory-clause-send
returns-in-Err-Memory-clause-send g c = λ told is. inr ((refl, refl, refl), refl)

pub returns-in-Err-Memory-clause-local : goal.returns-in-Err-Memory-clause-local
returns-in-Err-Memory-clause-local g c = λ told is. inr (refl, refl, refl)

pub returns-in-Err-Memory-clause-work : goal.returns-in-Err-Memory-clause-work
returns-in-Err-Memory-clause-work g c = λ is. worked_nothing _ _ refl

pub returns-in-Err-Memory-clause-unused : goal.returns-in-Err-Memory-clause-unused
returns-in-Err-Memory-clause-unused g c = λ is. (refl, refl, refl)
