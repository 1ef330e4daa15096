use Rattle.std.proofs.Common.{[], ◌++◌, Err, ap, ◌∙◌}
use Rattle.mail_world.specs.World.{started_world}
use Rattle.scenario.specs.Played.{refusal_line}
use Rattle.scenario.specs.Steps.Refusal.{Taken}
use Rattle.scenario.proofs.ScriptLines.{mail_started, mail_refused}
use Rattle.qmail_top.proofs.Working.{mail_put, mails_stay}
use Rattle.qmail_top.proofs.around_threads.add_mail.Goals as goal

pub returns-in-Ok-clause-mails : goal.returns-in-Ok-clause-mails
returns-in-Ok-clause-mails c =
    let pushed = rw c.unwrap.ensures at c.push.ensures.items in
    mail_put c.args.world.now c.start_mail.new.self _ _ _ c.args.name.now c.copy.result _ _ c.in-Ok.ensures.started c.in_ok-reserve.ensures.items c.copy.ensures pushed c.requires

pub returns-in-Ok-clause-played : goal.returns-in-Ok-clause-played
returns-in-Ok-clause-played c = λ d plan h playing.
    let started = c.in-Ok.ensures.started ∙ ap (λ m. started_world c.args.world.now c.args.name.now m c.as_slice-2.result.now) c.as_slice.ensures
    ∙ ap (started_world c.args.world.now c.args.name.now c.args.message.now) c.as_slice-2.ensures in
    ([], mail_started d c.args.world.now c.start_mail.new.self plan c.args.name.now c.args.message.now c.args.envelope.now [] h playing c.in-Ok.ensures.named started c.in-Ok.ensures.goes_on)

pub returns-in-Err-Taken-clause-mails : goal.returns-in-Err-Taken-clause-mails
returns-in-Err-Taken-clause-mails c = mails_stay c.args.world.now c.start_mail.new.self _ _ c.in-Err-Taken.ensures.err c.in_ok-reserve.ensures.items c.requires

pub returns-in-Err-Taken-clause-played : goal.returns-in-Err-Taken-clause-played
returns-in-Err-Taken-clause-played c = λ d plan h playing. rw c.in-Err-Taken.ensures.err (
  [] ++ refusal_line Taken c.args.name.now,
  mail_refused d c.args.world.now plan c.args.name.now c.args.message.now c.args.envelope.now [] h playing (c.start_mail.ensures.taken.0 (c.in-Err-Taken.is ∙ ap Err c.in-Err-Taken.field-0-is)),
)
