use Rattle.std.proofs.lemmas.Result.{on_ok_weaker}
use Rattle.scenario.proofs.ScriptRuns.{no_memory_refused}
use Rattle.scenario.proofs.ScriptLines.{step_played, step_refused}
use Rattle.scenario.proofs.playing.step_once.Goals as goal

pub returns-in-Ok : goal.returns-in-Ok
returns-in-Ok c = λ d plan h playing.
    (step_played d c.step.new.world plan c.args.actor.now c.in-Ok.field-0 c.args.text.now.items h (c.in-Ok.ensures.ok d plan h playing))

pub returns-in-Err : goal.returns-in-Err
returns-in-Err c =
    on_ok_weaker c.refuse.result
    (λ told d plan h playing.
    let same = c.in-Err.ensures.same (no_memory_refused c.in-Err.why told.0 told.1) in
    rw (same, told.2)
    (step_refused d c.args.world.now plan c.args.actor.now c.args.text.now.items c.in-Err.why told.0 h playing (c.in-Err.ensures.err d plan h playing) told.1))
    c.refuse.ensures
