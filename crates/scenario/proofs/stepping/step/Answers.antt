use Rattle.std.proofs.Common.{sym, ◌∙◌, subst}
use Rattle.std.proofs.lemmas.Result.{err_from_is_err_and}
use Rattle.scenario.specs.declared.stepping.AfterStep.{AfterStep}
use Rattle.scenario.specs.Playing.{HasStepped}
use Rattle.scenario.proofs.ScriptSteps.{refused_as, stepped}
use Rattle.scenario.proofs.stepping.step.Goals as goal

pub returns-in_err-did-clause-err : goal.returns-in_err-did-clause-err
returns-in_err-did-clause-err c =
    let p = err_from_is_err_and c.from_residual.result c.from_residual.ensures.1 in
    rw (p.1, p.2)
    (λ d plan h playing. refused_as c.step.result c.in_err-did.field-0.0 d c.args.world.now plan c.args.actor.now h playing c.in_err-did.was
    c.step.ensures.unknown.0 (λ name at. (c.step.ensures.gone name at).0) c.step.ensures.waits c.step.ensures.taken c.step.ensures.past c.step.ensures.alive)

pub returns-clause-ok : goal.returns-clause-ok
returns-clause-ok c = λ d plan h playing.
    let done = c.in_ok-did.ensures in
    subst (λ (how : AfterStep). HasStepped d c.step.new.self c.args.actor.now how plan h) (sym c.left_by.ensures)
    (stepped d c.args.world.now c.step.new.self plan c.args.actor.now c.in_ok-did.did.ended c.in_ok-did.did.idle h playing done.event c.step.ensures.present done.idle done.goes_on done.plan
    (λ before newest is. sym c.if-newest_lacked_memory.false ∙ c.newest_lacked_memory.ensures before newest (c.history.ensures.events ∙ is)))
