use Rattle.std.proofs.Common.{◌∙◌, ◌++◌, Err, ap}
use Rattle.std.proofs.lemmas.Result.{on_ok_weaker}
use Rattle.scenario.specs.Played.{refusal_line}
use Rattle.mail_world.specs.World.{started_world}
use Rattle.scenario.proofs.ScriptLines.{mail_started, only_taken, mail_refused}
use Rattle.scenario.proofs.playing.start.Goals as goal

pub returns-in-Ok : goal.returns-in-Ok
returns-in-Ok c = λ d plan h playing.
    let started = c.in-Ok.ensures.started ∙ ap (λ m. started_world c.args.world.now c.args.name.now m c.as_slice-2.result.now) c.as_slice.ensures
    ∙ ap (started_world c.args.world.now c.args.name.now c.args.message.now) c.as_slice-2.ensures in
    (mail_started d c.args.world.now c.start_mail.new.self plan c.args.name.now c.args.message.now c.args.envelope.now c.args.text.now.items h playing
    c.in-Ok.ensures.named started c.in-Ok.ensures.goes_on)

pub returns-in-Err : goal.returns-in-Err
returns-in-Err c =
    on_ok_weaker c.refuse.result
    (λ told d plan h playing.
    let taken = only_taken c.in-Err.why told.0 c.in-Err.ensures.others told.1 in
    let text = told.2 ∙ ap (λ r. c.args.text.now.items ++ refusal_line r c.args.name.now) taken.1 in
    rw (c.in-Err.ensures.err, text)
    (mail_refused d c.args.world.now plan c.args.name.now c.args.message.now c.args.envelope.now c.args.text.now.items h playing
    (c.start_mail.ensures.taken.0 (c.in-Err.is ∙ ap Err taken.0))))
    c.refuse.ensures
