use Rattle.std.proofs.Common.{◌≡◌, subst}
use Rattle.mail_bytes.specs.Told.{Meets}
use Rattle.call_fs.specs.Plan.{with_fault}
use Rattle.crash_fs.specs.Crash.{crash_plan}
use Rattle.scenario.proofs.StopsAndMoments.{fault_played}
use Rattle.scenario.proofs.playing.fail_in.Goals as goal

pub returns : goal.returns
returns c = λ d plan h text playing.
    fault_played d c.args.world.now c.fault_in.new.self plan c.args.k text h playing
    (subst (λ k. Meets (crash_plan c.args.world.now.disk) (crash_plan c.fault_in.new.self.disk) (λ before after. after ≡ with_fault k before)) c.number.ensures.value c.fault_in.ensures.plan)
    c.fault_in.ensures.disk c.fault_in.ensures.events c.fault_in.ensures.present
