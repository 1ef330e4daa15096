use Rattle.std.proofs.Common.{◌≡◌, ◌⊎◌, inl, inr, ℕ, ◌+◌, ◌-◌, ◌^◌, ◌≤◌, List, [], ◌∷◌, ◌++◌, length, reverse, sym, ap, ◌∙◌, subst, arith}
use Rattle.std.specs.Prelude.{drop, min}
use Rattle.std.proofs.lemmas.List.{length-append, length-drop}
use Rattle.world_events.specs.declared.event.Event.{Event as Kept}
use Rattle.world_events.specs.declared.event.Event.TheVariants as kept
use Rattle.mail_world.specs.declared.actor.Actor.{Actor as Held}
use Rattle.mail_world.specs.Books.{entries_of}
use Rattle.world_pipes.specs.declared.mouths.Mouths.{Mouths}
use Rattle.mail_world.specs.Crew.{AreFresh}
use Rattle.mail_world.specs.Generations.{IsNoneAlive, starts_of}
use Rattle.mail_world.specs.Starts.{AreStarts}
use Rattle.mail_world.specs.Places.{place_of}
use Rattle.mail_world.specs.World.{Seen, counted}
use Rattle.mail_world.specs.Inside.{known, living}
use Rattle.mail_world.proofs.Begun.{begun_keeps, begun_leads_on, begun_piped, members_over}
use Rattle.mail_world.proofs.Booked.{begun_booked}
use Rattle.mail_world.proofs.Firsts.{lives_none}
use Rattle.mail_world.proofs.Histories.{goes_on}
use Rattle.mail_world.proofs.Living.{living_within, room_less}
use Rattle.mail_world.proofs.NewCrew.{AreFour, four_of}
use Rattle.world_events.proofs.Starting.{same_starts}
use Rattle.mail_world.proofs.Starting.{starts_push}
use Rattle.mail_world.proofs.Crewing.{members_start}
use Rattle.mail_world.proofs.world.World.begin_generation.Goals as goal

pub invariant_of-self : goal.invariant_of-self
invariant_of-self g c = record {
  world = rw (c.in_err-reserve-2.ensures.same) c.self.invariant.world;
  room = c.in_err-reserve-2.ensures.stays (living c.self.inside.actors.items) c.self.invariant.room;
  booked = rw (c.in_err-reserve-2.ensures.same) c.self.invariant.booked;
  piped = rw (c.in_err-reserve-2.ensures.same) c.self.invariant.piped;
  started = rw (c.in_err-reserve-2.ensures.same) c.self.invariant.started;
}

pub invariant_of-self-in_err-make_room : goal.invariant_of-self-in_err-make_room
invariant_of-self-in_err-make_room g c =
    let i = c.self.inside in record {
      world = rw (c.in_ok-reserve-2.ensures.same) c.self.invariant.world;
      room = c.in_ok-reserve-2.ensures.stays (living i.actors.items) c.self.invariant.room;
      booked = rw (c.in_ok-reserve-2.ensures.same) c.self.invariant.booked;
      piped = rw (c.in_ok-reserve-2.ensures.same) c.self.invariant.piped;
      started = rw (c.in_ok-reserve-2.ensures.same) (same_starts i.starts c.make_room.new.self i.crew (place_of i.places) (starts_of (reverse i.history.events.items)) c.in_err-make_room.ensures.same c.self.invariant.started);
    }

pub invariant_of-self-in_err-mails : goal.invariant_of-self-in_err-mails
invariant_of-self-in_err-mails g c =
    let i = c.self.inside in
    let items = c.in_err-mails.ensures.err in record {
      world = rw (c.in_ok-reserve-2.ensures.same, items) c.self.invariant.world;
      room = rw (items) (c.in_ok-reserve-2.ensures.stays (living i.actors.items) c.self.invariant.room);
      booked = rw (c.in_ok-reserve-2.ensures.same, items) c.self.invariant.booked;
      piped = rw (c.in_ok-reserve-2.ensures.same, items) c.self.invariant.piped;
      started = rw (c.in_ok-reserve-2.ensures.same) (same_starts i.starts c.make_room.new.self i.crew (place_of i.places) (starts_of (reverse i.history.events.items)) c.in_ok-make_room.ensures.same c.self.invariant.started);
    }

-- there is room for the stop of each
few : (crew : ℕ) (four actors : List Held) → AreFour four → living (four ++ drop crew actors) ≤ length actors + 4
few crew four actors new =
    let within = living_within (four ++ drop crew actors) in
    let all = length-append four (drop crew actors) in
    let rest = length-drop crew actors in
    let many : length four ≡ 4 = ap (λ (l : List Held). length l) new.are in
    omega (arith, within, all, rest, many)

-- the members have pipes, or nobody has any
some_pipes : (crew n : ℕ) → (n ≡ 0) ⊎ ((4 ≤ n) × (crew ≡ 4)) → (n ≡ 0) ⊎ (4 ≤ n)
some_pipes crew n (inl none) = inl none
some_pipes crew n (inr four) = inr four.0

pub renew-requires-clause-count : goal.renew-requires-clause-count
renew-requires-clause-count g c = let i = c.self.inside in some_pipes i.crew (length i.mouths.items) c.self.invariant.piped.count

pub renew-requires-clause-slots : goal.renew-requires-clause-slots
renew-requires-clause-slots g c = c.self.invariant.piped.slots

pub renew-requires-clause-fresh : goal.renew-requires-clause-fresh
renew-requires-clause-fresh g c = subst (λ (l : List Mouths). length l ≡ 0 → AreFresh c.in_ok-fresh.fresh.items) c.deref.ensures.value c.in_ok-fresh.ensures.fresh

pub invariant_of-self-2 : goal.invariant_of-self-2
invariant_of-self-2 g c =
    let i = c.self.inside in
    let told = g.D.CallFs.disk i.disk in
    let events = i.history.events.items in
    let four = c.in_ok-actors.actors.items in
    let new = four_of four c.in_ok-actors.ensures in
    let rest = drop i.crew i.actors.items in
    let none = lives_none i.crew (place_of i.places) i.actors.items (known events) events i.present c.self.invariant.world.kept (subst (λ (w : Seen _). IsNoneAlive w.events) (sym c.self.view_is) c.requires) in
    let event : c.put.new.self.events.items ≡ events ++ kept.Generation i.present ∷ [] =
    c.put.ensures.event ∙ ap (λ (l : List Kept). l ++ kept.Generation i.present ∷ []) c.in_ok-reserve-2.ensures.same in
    let pushed = rw c.unwrap.ensures at c.append.ensures.items in
    let actors : c.append.new.self.items ≡ four ++ rest =
    pushed ∙ ap (λ (l : List Held). l ++ c.in_ok-mails.mails.items) c.in_ok-reserve.ensures.items ∙ ap (λ (l : List Held). four ++ l) c.in_ok-mails.ensures.tail in
    let len : c.len-2.result ≡ length i.actors.items = c.len-2.ensures ∙ i.actors.ok.0 in
    let bound = few i.crew four i.actors.items new in record {
      world = rw (actors, event) (begun_keeps told (place_of i.places) i.crew i.actors.items four events i.present i.next_pid c.saturating_add-self-inside.result (counted i.bounces i.deliveries) c.self.invariant.world none c.self.invariant.piped.few
          c.self.invariant.piped.wired.members new (c.saturating_add-self-inside.ensures ∙ ap (λ (n : ℕ). min (i.next_pid + n) (2 ^ 32 - 1)) c.started_by.ensures));
      room = rw (actors) (c.put.ensures.room (living (four ++ rest)) (room_less c.reserve-2.new.self (c.len-2.result + 5) (living (four ++ rest) + 1) (omega (arith, len, bound)) c.in_ok-reserve-2.ensures.room));
      booked = rw (actors, event) (begun_booked i.crew i.actors.items four events (entries_of i.books) new c.self.invariant.booked i.present);
      piped = rw (actors, event) (begun_piped i.crew i.mouths.items c.renew.new.mouths.items i.actors.items four events i.present c.self.invariant.piped
          (members_over told (place_of i.places) i.crew i.actors.items events i.present i.next_pid (counted i.bounces i.deliveries) c.self.invariant.world none c.self.invariant.piped.few) new c.renew.ensures);
      started = rw (event) (subst (AreStarts c.add_members.new.self 4 (place_of i.places)) (sym (starts_push events (kept.Generation i.present)))
          (members_start c.make_room.new.self c.add_members.new.self i.crew (place_of i.places) (starts_of (reverse events)) c.add_members.ensures.order c.add_members.ensures.newest
          (same_starts i.starts c.make_room.new.self i.crew (place_of i.places) (starts_of (reverse events)) c.in_ok-make_room.ensures.same c.self.invariant.started)));
    }

pub returns-clause-goes_on : goal.returns-clause-goes_on
returns-clause-goes_on g c =
    let i = c.self.inside in
    let told = g.D.CallFs.disk i.disk in
    let events = i.history.events.items in
    let none = lives_none i.crew (place_of i.places) i.actors.items (known events) events i.present c.self.invariant.world.kept (subst (λ (w : Seen _). IsNoneAlive w.events) (sym c.self.view_is) c.requires) in
    let event : c.put.new.self.events.items ≡ events ++ kept.Generation i.present ∷ [] =
    c.put.ensures.event ∙ ap (λ (l : List Kept). l ++ kept.Generation i.present ∷ []) c.in_ok-reserve-2.ensures.same in
    rw (← c.self.view_is, event) (goes_on told told events (events ++ kept.Generation i.present ∷ []) i.present i.present
    (begun_leads_on told (place_of i.places) i.crew i.actors.items events i.present i.next_pid (counted i.bounces i.deliveries) c.self.invariant.world none c.self.invariant.piped.few))
