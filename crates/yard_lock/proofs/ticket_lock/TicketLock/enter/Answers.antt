use Rattle.std.proofs.Common.{◌≡◌, ap, ◌∙◌, arith}
use Rattle.yard_lock.proofs.Steps.{inside_before}
use Rattle.yard_lock.proofs.ticket_lock.TicketLock.enter.Goals as goal

pub look-requires-clause-waits : goal.look-requires-clause-waits
look-requires-clause-waits g c = let d = c.draw-ticket.ensures.drew in (d.0, d.1, ap (λ m. m.0.stage) c.loop.invariant.2 ∙ ap (λ v. v.stage) d.2)

pub look-requires-clause-live : goal.look-requires-clause-live
look-requires-clause-live g c =
    let parts : c.loop.pass.me.0.parts ≡ c.args.pass.now.me.0.parts = ap (λ m. m.0.parts) c.loop.invariant.2 ∙ ap (λ v. v.parts) c.draw-ticket.ensures.drew.2 in
    omega (arith, c.requires.idle.2)

pub returns-then-look-clause-has : goal.returns-then-look-clause-has
returns-then-look-clause-has g c =
    let h = c.look.ensures.has c.if-look.true in
    let d = c.draw-ticket.ensures.drew in
    let same = c.loop.invariant.2 in
    (h.0, h.1, inside_before _ _ _ _ c.args.pass.now.me _ _ _ (ap (λ m. m.0) same ∙ d.2) (ap (λ m. m.1) same ∙ d.3) h.2)
