use Rattle.std.proofs.Common.{ℕ, List, Option, Some, None, subst}
use Rattle.mail_world.specs.declared.actor.Actor.{Actor as Held}
use Rattle.mail_world.specs.Places.{place_of}
use Rattle.mail_world.specs.Starts.{IsNextStart}
use Rattle.mail_world.specs.Inside.{known}
use Rattle.mail_world.proofs.Turns.{next_told}
use Rattle.mail_world.proofs.world.World.next_living.Goals as goal

pub returns-in_err-actor : goal.returns-in_err-actor
returns-in_err-actor g c =
    let i = c.self.inside in
    let events = i.history.events.items in
    let found : IsNextStart i.starts c.deref.result.now i.crew c.args.from None = rw c.in_err-actor.was at c.next_living.ensures in
    let here = subst (λ (l : List Held). IsNextStart i.starts l i.crew c.args.from None) c.deref.ensures.value found in
    rw (c.from_residual.ensures, ← c.self.view_is)
    (next_told i.starts i.crew (place_of i.places) i.actors.items (known events) events i.present c.self.invariant.world.kept c.self.invariant.started c.args.from None here)

pub returns : goal.returns
returns g c =
    let i = c.self.inside in
    let events = i.history.events.items in
    let what : Option (Held × ℕ) = Some (c.in_ok-actor.actor.now, c.in_ok-actor.at) in
    let found : IsNextStart i.starts c.deref.result.now i.crew c.args.from what = rw c.in_ok-actor.was at c.next_living.ensures in
    let here = subst (λ (l : List Held). IsNextStart i.starts l i.crew c.args.from what) c.deref.ensures.value found in
    rw (← c.self.view_is) (next_told i.starts i.crew (place_of i.places) i.actors.items (known events) events i.present c.self.invariant.world.kept c.self.invariant.started c.args.from what here)
