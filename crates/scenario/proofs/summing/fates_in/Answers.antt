use Rattle.std.proofs.Common.{List, sym, ◌∙◌, subst}
use Rattle.std.proofs.lemmas.Result.{IfOk-weaker}
use Rattle.crash_fs.specs.Crash.{crash_disk}
use Rattle.world_events.specs.declared.event.Event.{Event as Kept}
use Rattle.mail_world.specs.World.{IsHistory}
use Rattle.scenario.specs.Deeds.{history_of}
use Rattle.scenario.proofs.summing.fates_in.Goals as goal

pub returns : goal.returns
returns c =
    let w = c.args.world.now in
    IfOk-weaker c.fates_heard.result _ _
    (λ fates told d plan h playing. told d plan h playing (c.in_ok-heard.ensures d (crash_disk w.disk) w.present (history_of h)
    (subst (λ (ks : List Kept). IsHistory d (crash_disk w.disk) ks w.present (history_of h)) (sym (c.events.ensures ∙ c.history.ensures.events)) playing.is) playing.starts))
    c.fates_heard.ensures
