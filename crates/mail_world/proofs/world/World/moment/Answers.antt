use Rattle.std.proofs.Common.{◌≡◌, ◌+◌, ◌≤◌, List, [], ◌∷◌, ◌++◌, length, refl, ap, ◌∙◌, arith}
use Rattle.world_events.specs.declared.event.Event.{Event as Kept}
use Rattle.world_events.specs.declared.event.Event.TheVariants as kept
use Rattle.mail_world.specs.Places.{place_of}
use Rattle.mail_world.specs.World.{counted}
use Rattle.mail_world.specs.Inside.{among_all, living}
use Rattle.mail_world.proofs.Histories.{moment_told, goes_on}
use Rattle.mail_world.proofs.Living.{living_within, room_less}
use Rattle.mail_world.proofs.Booked.{moment_booked}
use Rattle.mail_world.proofs.Piped.{moment_piped}
use Rattle.mail_world.proofs.Starting.{still_starts}
use Rattle.mail_world.proofs.Worlds.{moment_keeps}
use Rattle.mail_world.proofs.world.World.moment.Goals as goal
use Rattle.mail_world.proofs.world.World.moment.Goals.{After-put}

pub invariant_of-self : goal.invariant_of-self
invariant_of-self g c = record {
  world = rw (c.in_err-reserve.ensures.same) c.self.invariant.world;
  room = c.in_err-reserve.ensures.stays (living c.self.inside.actors.items) c.self.invariant.room;
  booked = rw (c.in_err-reserve.ensures.same) c.self.invariant.booked;
  piped = rw (c.in_err-reserve.ensures.same) c.self.invariant.piped;
  started = rw (c.in_err-reserve.ensures.same) c.self.invariant.started;
}

-- the event that was put
came : (g : _) (c : After-put g) → c.put.new.self.events.items ≡ c.self.inside.history.events.items ++ kept.Moment c.args.moment ∷ []
came g c = c.put.ensures.event ∙ ap (λ (l : List Kept). l ++ kept.Moment c.args.moment ∷ []) c.in_ok-reserve.ensures.same

-- the moment is no earlier than the present one
later : (g : _) (c : After-put g) → c.self.inside.present ≤ c.args.moment
later g c = c.if-moment-self.false

pub invariant_of-self-2 : goal.invariant_of-self-2
invariant_of-self-2 g c =
    let i = c.self.inside in
    let at = (goal.at.invariant_of-self-2 g c).After-put in
    let len : c.len.result ≡ length i.actors.items = c.len.ensures ∙ i.actors.ok.0 in
    let bound = living_within i.actors.items in record {
      world = rw (came g at) (moment_keeps (g.D.CallFs.disk i.disk) (among_all i.crew (place_of i.places)) i.actors.items i.history.events.items i.present c.args.moment i.next_pid (counted i.bounces i.deliveries) c.requires (later g at) c.self.invariant.world);
      room = c.put.ensures.room (living i.actors.items) (room_less c.reserve.new.self (c.len.result + 1) (living i.actors.items + 1) (omega (arith, len, bound)) c.in_ok-reserve.ensures.room);
      booked = rw (came g at) (moment_booked i.crew i.actors.items i.history.events.items c.args.moment i.books.entries.items c.self.invariant.booked);
      piped = rw (came g at) (moment_piped i.crew i.mouths.items i.actors.items i.history.events.items c.args.moment c.self.invariant.piped);
      started = rw (came g at) (still_starts i.starts i.crew (place_of i.places) i.history.events.items (kept.Moment c.args.moment) refl c.self.invariant.started);
    }

pub returns-clause-goes_on : goal.returns-clause-goes_on
returns-clause-goes_on g c =
    let i = c.self.inside in
    let told = g.D.CallFs.disk i.disk in
    let events = i.history.events.items in
    let at = (goal.at.returns-clause-goes_on g c).After-put in
    rw (← c.self.view_is, came g at) (goes_on told told events (events ++ kept.Moment c.args.moment ∷ []) i.present c.args.moment
    (moment_told told events i.present c.args.moment c.requires (later g at)))
