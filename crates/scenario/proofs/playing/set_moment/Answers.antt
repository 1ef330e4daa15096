use Rattle.std.proofs.Common.{◌++◌, ◌<◌, Err, ap, ◌∙◌, subst}
use Rattle.std.proofs.lemmas.Result.{on_ok_weaker}
use Rattle.mail_bytes.specs.Decimal.{digits}
use Rattle.mail_world.specs.World.{moment_world}
use Rattle.scenario.specs.Played.{Refusal, refusal_line}
use Rattle.scenario.proofs.StopsAndMoments.{moment_came, moment_refused}
use Rattle.scenario.proofs.playing.set_moment.Goals as goal

pub returns-in-Ok : goal.returns-in-Ok
returns-in-Ok c = λ d plan h playing.
    moment_came d c.args.world.now c.moment.new.self plan c.args.moment c.args.text.now.items h playing
    (c.in-Ok.ensures.came ∙ ap (moment_world c.args.world.now) c.seconds.ensures.value) c.in-Ok.ensures.goes_on c.in-Ok.ensures.plan

pub returns-in-Err-Past : goal.returns-in-Err-Past
returns-in-Err-Past c =
    on_ok_weaker c.refuse_number.result
    (λ told d plan h playing.
    let late = (c.moment.ensures.past c.in-Err-Past.present).0 (c.in-Err-Past.is ∙ ap Err c.in-Err-Past.field-0-is) in
    let text = told ∙ ap (λ n. c.args.text.now.items ++ refusal_line Refusal.Past (digits n)) late.0 in
    rw (c.in-Err-Past.ensures.err, text)
    (moment_refused d c.args.world.now plan c.args.moment c.args.text.now.items h playing (subst (λ m. m < c.args.world.now.present) c.seconds.ensures.value late.1)))
    c.refuse_number.ensures
