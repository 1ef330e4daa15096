use Rattle.mail_world.proofs.Histories.{led_legal}
use Rattle.mail_world.proofs.world.World.history.Goals as goal

pub returns-clause-happened : goal.returns-clause-happened
returns-clause-happened g c =
    let w = c.args.self.now in
    led_legal (g.D.CallFs.disk w.disk) w.events w.present (rw (← c.self.view_is) c.self.invariant.world.led)
