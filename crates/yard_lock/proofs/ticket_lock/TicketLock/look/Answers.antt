use Rattle.std.proofs.Common.{rules, ◌≡◌, ◌<◌, ap, ◌∙◌, arith}
use Rattle.yard_lock.specs.declared.view.Stage.TheVariants.{Waits}
use Rattle.yard_lock.proofs.Steps.{enters}
use Rattle.yard_lock.proofs.ticket_lock.TicketLock.look.Goals as goal

pub load-requires : goal.load-requires
load-requires g c =
    let w = c.requires.waits in
    let same = c.loop.invariant.2 in
    let st : c.loop.pass.me.0.stage ≡ Waits w.0 = ap (λ m. m.0.stage) same ∙ w.2 in
    let parts : c.loop.pass.me.0.parts ≡ c.args.pass.now.me.0.parts = ap (λ m. m.0.parts) same in
    let live : 0 < c.loop.pass.me.0.parts = omega (arith, c.requires.live) in
    (search rules, search rules, enters _ _ _ _ _ _ _ w.0 (search rules) c.requires.facts.1 st live)
