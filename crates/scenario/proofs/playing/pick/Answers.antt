use Rattle.std.proofs.Common.{◌≡◌, ◌++◌, refl, sym, ap, ◌∙◌, subst}
use Rattle.std.proofs.lemmas.Result.{on_ok_weaker}
use Rattle.mail_bytes.specs.Decimal.{digits}
use Rattle.mail_bytes.specs.Told.{Meets}
use Rattle.call_fs.specs.Disk.{IsUnused}
use Rattle.call_fs.specs.Plan.{with_pick}
use Rattle.crash_fs.specs.Crash.{crash_disk, crash_plan}
use Rattle.scenario.specs.Played.{Refusal, refusal_line}
use Rattle.scenario.proofs.StopsAndMoments.{number_played, number_refused}
use Rattle.scenario.proofs.playing.pick.Goals as goal

pub returns-in-Ok : goal.returns-in-Ok
returns-in-Ok c = λ d plan h playing.
    number_played d c.args.world.now c.pick.new.self plan c.args.number c.args.text.now.items h playing
    (subst (λ n. Meets (crash_plan c.args.world.now.disk) (crash_plan c.pick.new.self.disk) (λ before after. after ≡ with_pick n before)) c.number.ensures.value c.in-Ok.ensures.ok)
    (subst (λ n. IsUnused (crash_disk c.args.world.now.disk) n) c.number.ensures.value (c.pick.ensures.unused.0 (rw c.in-Ok.is refl)))
    c.pick.ensures.disk c.pick.ensures.events c.pick.ensures.present

pub returns-in-Err : goal.returns-in-Err
returns-in-Err c =
    on_ok_weaker c.refuse_number.result
    (λ told d plan h playing.
    let text = told ∙ ap (λ n. c.args.text.now.items ++ refusal_line Refusal.Taken (digits n)) c.number-in-Err.ensures.value in
    rw text
    (number_refused d c.args.world.now c.pick.new.self plan c.args.number c.args.text.now.items h playing c.in-Err.ensures.err.plan_is
    (λ unused. let ok = c.pick.ensures.unused.1 (subst (λ n. IsUnused (crash_disk c.args.world.now.disk) n) (sym c.number.ensures.value) unused) in absurd (cc (rw c.in-Err.is at ok)))
    c.pick.ensures.disk c.pick.ensures.events c.pick.ensures.present))
    c.refuse_number.ensures
