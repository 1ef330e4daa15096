use Rattle.std.proofs.Common.{inl, inr, refl}
use Rattle.scenario.proofs.TakenLines.{line_taken}
use Rattle.audit_command.proofs.Audits.{nothing_done}
use Rattle.command_words.proofs.Ranges.{make_range}
use Rattle.qmail_top.specs.Command.{usage_line}
use Rattle.qmail_top.proofs.Families.{delivery_from, lspawned_from, one_local, one_lspawn, one_rspawn, one_send, rspawned_from, sent_from}
use Rattle.qmail_top.proofs.Injections.{ends_otherwise}
use Rattle.qmail_top.proofs.Made.{made_from, made_otherwise, nothing_made, one_make}
use Rattle.qmail_top.proofs.Packages.{one_qmqpd, received_from, received_nothing, received_otherwise}
use Rattle.qmail_top.proofs.Senders.{sent_otherwise}
use Rattle.qmail_top.proofs.Spawners.{ended_otherwise, locally_otherwise, spawned_otherwise}
use Rattle.qmail_top.proofs.alone.qmail_alone.Goals as goal

pub returns-clause-queue : goal.returns-clause-queue
returns-clause-queue g c = λ q is. inr (record {
  status_is = refl;
  read = inl refl;
  message_left = refl;
  envelope_left = refl;
  disk = refl;
  calls = refl;
  faults = refl;
})

pub returns-clause-audit : goal.returns-clause-audit
returns-clause-audit g c = λ is. nothing_done _ _

pub returns-in-Err-Usage-clause-usage_line : goal.returns-in-Err-Usage-clause-usage_line
returns-in-Err-Usage-clause-usage_line g c = λ none is.
    line_taken (g.L.Sink.taken c.args.log.now) (g.L.Sink.taken c.give.new.self) usage_line c.give.result _ (λ failed. c.give.ensures.cause.rose failed) c.give.ensures.told

pub returns-clause-clean : goal.returns-clause-clean
returns-clause-clean g c = λ is. inr (refl, refl)

pub returns-in-Ok-Queue-clause-usage : goal.returns-in-Ok-Queue-clause-usage
returns-in-Ok-Queue-clause-usage g c = λ is. absurd (ends_otherwise _ _ _ _ _ _ _ c.queue_message.ensures.queued is)

pub returns-in-Ok-Queue-clause-usage_line : goal.returns-in-Ok-Queue-clause-usage_line
returns-in-Ok-Queue-clause-usage_line g c = λ none is. absurd (ends_otherwise _ _ _ _ _ _ _ c.queue_message.ensures.queued is)

pub returns-clause-lspawn : goal.returns-clause-lspawn
returns-clause-lspawn g c = λ dir is. inr (refl, refl, refl)

pub returns-clause-rspawn : goal.returns-clause-rspawn
returns-clause-rspawn g c = λ told is. inr (refl, refl, refl)

pub returns-clause-local : goal.returns-clause-local
returns-clause-local g c = λ told is. inr (refl, refl, refl)

pub returns-in-Ok-Lspawn-clause-usage : goal.returns-in-Ok-Lspawn-clause-usage
returns-in-Ok-Lspawn-clause-usage g c = λ is. absurd (spawned_otherwise _ _ _ _ _ _ _ _ locally_otherwise c.spawn_local.ensures.1 is)

pub returns-in-Ok-Rspawn-clause-usage : goal.returns-in-Ok-Rspawn-clause-usage
returns-in-Ok-Rspawn-clause-usage g c = λ is. absurd (spawned_otherwise _ _ _ _ _ _ _ _ ended_otherwise c.spawn_remote.ensures.1 is)

pub returns-in-Ok-Lspawn-clause-lspawn : goal.returns-in-Ok-Lspawn-clause-lspawn
returns-in-Ok-Lspawn-clause-lspawn g c = λ dir is.
    lspawned_from dir c.in-Ok-Lspawn.dir _ _ _ _ _ _ c.as_slice.ensures (one_lspawn _ _ _ (rw c.in-Ok-Lspawn.field-0-is at c.in-Ok-Lspawn.ensures.ok) is) c.spawn_local.ensures

pub returns-in-Ok-Rspawn-clause-rspawn : goal.returns-in-Ok-Rspawn-clause-rspawn
returns-in-Ok-Rspawn-clause-rspawn g c = λ told is.
    rspawned_from told c.in-Ok-Rspawn.spawner _ _ _ _ _ _ c.as_slice-program.ensures (one_rspawn _ _ _ (rw c.in-Ok-Rspawn.field-0-is at c.in-Ok-Rspawn.ensures.ok) is) c.spawn_remote.ensures

pub returns-in-Ok-Local-clause-local : goal.returns-in-Ok-Local-clause-local
returns-in-Ok-Local-clause-local g c = λ told is.
    delivery_from told c.in-Ok-Local.told _ _ _ _ _ _ (one_local _ _ _ (rw c.in-Ok-Local.field-0-is at c.in-Ok-Local.ensures.ok) is) c.deliver_message.ensures

pub returns-clause-send : goal.returns-clause-send
returns-clause-send g c = λ told is. inr ((refl, refl, refl), refl)

pub returns-in-Ok-Send-clause-usage : goal.returns-in-Ok-Send-clause-usage
returns-in-Ok-Send-clause-usage g c = λ is. absurd (sent_otherwise _ _ _ _ _ _ _ _ _ _ c.be_sender.ensures.1 is)

pub returns-in-Ok-Send-clause-send : goal.returns-in-Ok-Send-clause-send
returns-in-Ok-Send-clause-send g c = λ told is.
    sent_from told c.in-Ok-Send.told _ _ _ _ _ _ _ (one_send _ _ _ (rw c.in-Ok-Send.field-0-is at c.in-Ok-Send.ensures.ok) is) c.be_sender.ensures

pub returns-in-Ok-Send-clause-unlogged : goal.returns-in-Ok-Send-clause-unlogged
returns-in-Ok-Send-clause-unlogged g c = λ other is. absurd (other (c.in-Ok-Send.told, rw c.in-Ok-Send.field-0-is at c.in-Ok-Send.ensures.ok))

pub returns-clause-make : goal.returns-clause-make
returns-clause-make g c = λ told is. nothing_made told _ _

pub make_script-requires : goal.make_script-requires
make_script-requires g c = (make_range _ c.in-Ok-Make.told (rw c.in-Ok-Make.field-0-is at c.in-Ok-Make.ensures.ok)).0

pub returns-in-Ok-Make-clause-usage : goal.returns-in-Ok-Make-clause-usage
returns-in-Ok-Make-clause-usage g c = λ is. absurd (made_otherwise _ _ _ c.make_script.ensures is)

pub returns-in-Ok-Make-clause-make : goal.returns-in-Ok-Make-clause-make
returns-in-Ok-Make-clause-make g c = λ told is.
    made_from told c.in-Ok-Make.told _ _ (one_make _ _ _ (rw c.in-Ok-Make.field-0-is at c.in-Ok-Make.ensures.ok) is) c.make_script.ensures

pub returns-clause-qmqpd : goal.returns-clause-qmqpd
returns-clause-qmqpd g c = λ told is. received_nothing _ _ _ _ _ _

pub returns-in-Ok-Qmqpd-clause-usage : goal.returns-in-Ok-Qmqpd-clause-usage
returns-in-Ok-Qmqpd-clause-usage g c = λ is. absurd (received_otherwise _ _ _ _ _ _ c.receive_package.ensures is)

pub returns-in-Ok-Qmqpd-clause-usage_line : goal.returns-in-Ok-Qmqpd-clause-usage_line
returns-in-Ok-Qmqpd-clause-usage_line g c = λ none is. absurd (received_otherwise _ _ _ _ _ _ c.receive_package.ensures is)

pub returns-in-Ok-Qmqpd-clause-qmqpd : goal.returns-in-Ok-Qmqpd-clause-qmqpd
returns-in-Ok-Qmqpd-clause-qmqpd g c = λ told is.
    received_from told c.in-Ok-Qmqpd.told _ _ _ _ _ _ (one_qmqpd _ _ _ (rw c.in-Ok-Qmqpd.field-0-is at c.in-Ok-Qmqpd.ensures.ok) is) c.receive_package.ensures

pub returns-in-Ok-Work-clause-unworked : goal.returns-in-Ok-Work-clause-unworked
returns-in-Ok-Work-clause-unworked g c = λ is. (inl refl, (refl, refl), (refl, refl, refl))

pub returns-clause-unworked : goal.returns-clause-unworked
returns-clause-unworked g c = λ is. (inr refl, (refl, refl), (refl, refl, refl))
