use Rattle.std.proofs.Common.{◌∙◌, Err, ap}
use Rattle.std.proofs.lemmas.Result.{on_ok_weaker}
use Rattle.scenario.proofs.StopsAndMoments.{stop_played, stop_refused}
use Rattle.scenario.proofs.playing.stop.Goals as goal

pub returns-in-Ok : goal.returns-in-Ok
returns-in-Ok c = λ d plan h playing.
    (stop_played d c.args.world.now c.stop.new.self plan c.args.actor.now c.args.text.now.items h playing c.in-Ok.ensures.event c.in-Ok.ensures.goes_on c.in-Ok.ensures.plan)

pub returns-in-Err : goal.returns-in-Err
returns-in-Err c =
    on_ok_weaker c.refuse.result
    (λ told d plan h playing.
    rw (c.in-Err.ensures.err, told.2)
    (stop_refused d c.args.world.now plan c.args.actor.now c.args.text.now.items c.in-Err.why told.0 h playing told.1
    (λ e. c.stop.ensures.unknown.0 (c.in-Err.is ∙ ap Err e)) (λ name at e. ((c.stop.ensures.gone name at).0 (c.in-Err.is ∙ ap Err e)).1) c.in-Err.ensures.others))
    c.refuse.ensures
