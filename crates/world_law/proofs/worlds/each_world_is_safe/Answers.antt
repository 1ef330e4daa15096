use Rattle.world_law.proofs.Promise.{worlds_are_safe}
use Rattle.world_law.proofs.Led.{led_safe, told_waiting}
use Rattle.world_law.proofs.worlds.each_world_is_safe.Goals as goal

pub returns-clause-safe : goal.returns-clause-safe
returns-clause-safe g c = λ opening h happened.
    let w = c.args.world.now in
    worlds_are_safe opening (record { disk = g.D.CallFs.disk w.disk; events = w.events; present = w.present }) h happened

pub returns-clause-waiting : goal.returns-clause-waiting
returns-clause-waiting g c = λ opening h happened none.
    let w = c.args.world.now in
    told_waiting opening (g.D.CallFs.disk w.disk) w.events w.present h happened none

pub returns-clause-happened : goal.returns-clause-happened
returns-clause-happened g c =
    let w = c.args.world.now in
    led_safe (g.D.CallFs.disk w.disk) w.events w.present c.history.ensures.happened
