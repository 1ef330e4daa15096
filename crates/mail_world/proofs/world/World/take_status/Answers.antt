use Rattle.std.proofs.Common.{◌≡◌, ℕ, ◌+◌, List, length, set, Option, Some, None, refl, sym, ap, ◌∙◌, subst, arith}
use Rattle.std.specs.Prelude.{IsSome}
use Rattle.std.specs.List.{slice_get}
use Rattle.std.proofs.lemmas.List.{length-set}
use Rattle.call_fs.specs.declared.past.GotData.{GotData}
use Rattle.mail_bytes.specs.Moments.{IsMoment}
use Rattle.world_events.specs.declared.event.Event.{Event as Kept}
use Rattle.world_pipes.specs.Mouths.{actor_of}
use Rattle.world_pipes.specs.Seating.{due_slot}
use Rattle.world_pipes.proofs.Feeds.{own_tenant}
use Rattle.world_pipes.proofs.Slots.{slot_there}
use Rattle.mail_world.specs.declared.actor.Actor.{Actor as Held}
use Rattle.mail_world.specs.Acting.{status_of}
use Rattle.mail_world.specs.Children.{IsDueOfChild, IsSetting}
use Rattle.mail_world.specs.Inside.{known}
use Rattle.mail_world.specs.Pipework.{Tenant}
use Rattle.mail_world.specs.Places.{place_of}
use Rattle.mail_world.specs.World.{Seen, counted}
use Rattle.mail_world.proofs.Parents.{asks_at, still_whole, room_after, parent_low, parent_seen, set_back, parent_past, may_hand, was_handed, has_wire, wire_at, mouths_at, own_by, put_act, child_is, child_low, child_seen}
use Rattle.mail_world.proofs.Serving.{same_at}
use Rattle.mail_world.proofs.Statuses.{IsTaking, taking, status_waits, status_kind, status_within, status_serves}
use Rattle.mail_world.proofs.Wholes.{WasFreed, taken_whole}
use Rattle.mail_world.proofs.world.World.take_status.Goals as goal
use Rattle.mail_world.proofs.world.World.take_status.Goals.{After-len-room, After-unwrap-wire, After-index-2}

-- what is due, and whose status it is
due_here : (g : _) (c : After-len-room g) →
    IsTaking c.self.inside.crew (place_of c.self.inside.places) c.self.inside.mouths.items c.self.inside.actors.items c.self.inside.history.events.items c.self.inside.present c.args.actor.now c.args.due.now
due_here g c =
    let i = c.self.inside in
    taking i.disk (g.D.CallFs.disk i.disk) i.crew (place_of i.places) i.actors.items i.mouths.items i.history.events.items i.present i.next_pid (counted i.bounces i.deliveries) c.args.actor.now c.args.due.now c.self.invariant.world c.self.invariant.piped
    (subst (λ (w : Seen _). IsDueOfChild w c.args.actor.now c.args.due.now) (sym c.self.view_is) c.requires.due) c.requires.take

-- what the step goes by, and where the parent stands
setting : (g : _) (c : After-len-room g) → IsSetting (record { disk = c.self.inside.disk; events = c.self.inside.history.events.items; present = c.self.inside.present }) c.args.actor.now c.args.at
setting g c = subst (λ (w : Seen _). IsSetting w c.args.actor.now c.args.at) (sym c.self.view_is) c.requires.at

place_is : (g : _) (c : After-len-room g) → c.args.at.place ≡ (due_here g c).asks.at
place_is g c = asks_at c.self.invariant (setting g c) (due_here g c).asks

pub index-requires : goal.index-requires
index-requires g c =
    let at = (goal.at.index-requires g c).After-len-room in
    let low = parent_low (due_here g at).asks (place_is g at) in
    omega (arith, low, c.self.inside.actors.ok.0)

pub unwrap-wire-requires : goal.unwrap-wire-requires
unwrap-wire-requires g c =
    let at = (goal.at.unwrap-wire-requires g c).After-len-room in
    let k = due_here g at in
    has_wire (parent_seen k.asks (place_is g at) c.index.ensures) k.wire_is

-- its pipes
wire_is : (g : _) (c : After-unwrap-wire g)
    (k : IsTaking c.self.inside.crew (place_of c.self.inside.places) c.self.inside.mouths.items c.self.inside.actors.items c.self.inside.history.events.items c.self.inside.present c.args.actor.now c.args.due.now)
    → c.args.at.place ≡ k.asks.at → c.unwrap-wire.result ≡ k.wire
wire_is g c k here = wire_at (parent_seen k.asks here c.index.ensures) k.wire_is c.unwrap-wire.ensures

pub child_at-requires : goal.child_at-requires
child_at-requires g c =
    let at = goal.at.child_at-requires g c in
    let i = c.self.inside in
    let k = due_here g at.After-len-room in
    let within = k.within in
    child_low (child_is i.crew (place_of i.places) c.deref.ensures.value (ap (λ (n : ℕ). Some n) (wire_is g at.After-unwrap-wire k (place_is g at.After-len-room))) (c.due_slot-slot.ensures ∙ ap due_slot k.due_is) k.found)
    (omega (arith, within, i.actors.ok.0))

pub unwrap-child-requires : goal.unwrap-child-requires
unwrap-child-requires g c =
    let at = goal.at.unwrap-child-requires g c in
    let i = c.self.inside in
    let k = due_here g at.After-len-room in
    let there = child_is i.crew (place_of i.places) c.deref.ensures.value (ap (λ (n : ℕ). Some n) (wire_is g at.After-unwrap-wire k (place_is g at.After-len-room))) (c.due_slot-slot.ensures ∙ ap due_slot k.due_is) k.found in
    subst IsSome (sym (c.child_at.ensures ∙ there)) refl

pub index-requires-2 : goal.index-requires-2
index-requires-2 g c =
    let at = goal.at.index-requires-2 g c in
    let i = c.self.inside in
    let k = due_here g at.After-len-room in
    let within = k.within in
    let there = child_is i.crew (place_of i.places) c.deref.ensures.value (ap (λ (n : ℕ). Some n) (wire_is g at.After-unwrap-wire k (place_is g at.After-len-room))) (c.due_slot-slot.ensures ∙ ap due_slot k.due_is) k.found in
    let same = same_at c.child_at.result c.unwrap-child.result (i.crew + k.here.at) c.unwrap-child.ensures (c.child_at.ensures ∙ there) in
    omega (arith, within, same, i.actors.ok.0)

-- the child that is read
seen : (g : _) (c : After-index-2 g)
    (k : IsTaking c.self.inside.crew (place_of c.self.inside.places) c.self.inside.mouths.items c.self.inside.actors.items c.self.inside.history.events.items c.self.inside.present c.args.actor.now c.args.due.now)
    → c.args.at.place ≡ k.asks.at → k.here.held ≡ c.index-2.result.now
seen g c k here =
    let i = c.self.inside in
    let wire = wire_at (parent_seen k.asks here c.index.ensures) k.wire_is c.unwrap-wire.ensures in
    let there = child_is i.crew (place_of i.places) c.deref.ensures.value (ap (λ (n : ℕ). Some n) wire) (c.due_slot-slot.ensures ∙ ap due_slot k.due_is) k.found in
    child_seen k.here (same_at c.child_at.result c.unwrap-child.result (i.crew + k.here.at) c.unwrap-child.ensures (c.child_at.ensures ∙ there)) c.index-2.ensures

none_of : (o : Option GotData) → ((came : GotData) → o ≡ Some came → ⊥) → o ≡ None
none_of None other = refl
none_of (Some came) other = absurd (other came refl)

pub returns-in_default-clause-waits : goal.returns-in_default-clause-waits
returns-in_default-clause-waits g c =
    let at = goal.at.returns-in_default-clause-waits g c in
    let i = c.self.inside in
    let k = due_here g at.After-len-room in
    let none : status_of k.here.held.ended k.here.held.status ≡ None =
    ap (λ (x : Held). status_of x.ended x.status) (seen g at.After-index-2 k (place_is g at.After-len-room)) ∙ sym c.status_of.ensures ∙ none_of c.status_of.result c.in_default.not-Some in
    rw (← c.self.view_is) (λ is. (status_waits i.crew (place_of i.places) i.actors.items i.history.events.items i.present c.args.actor.now k.asks.parent k.slot k.child k.asks.is k.asks.alive (k.asks.next ∙ k.due_is) k.runs k.here none, refl))

pub index_mut-parent-requires : goal.index_mut-parent-requires
index_mut-parent-requires g c =
    let at = (goal.at.index_mut-parent-requires g c).After-len-room in
    let low = parent_low (due_here g at).asks (place_is g at) in
    omega (arith, low, c.self.inside.actors.ok.0)

pub pay_with_room-requires : goal.pay_with_room-requires
pay_with_room-requires g c =
    let at = (goal.at.pay_with_room-requires g c).After-len-room in
    let a = (due_here g at).asks in
    parent_past a (parent_seen a (place_is g at) c.index_mut-parent.ensures.value)

pub invariant_of-self : goal.invariant_of-self
invariant_of-self g c =
    let at = (goal.at.invariant_of-self g c).After-len-room in
    let a = (due_here g at).asks in
    let here = place_is g at in
    let err = c.in_err-pay_with_room.ensures in
    still_whole c.self.invariant c.pay_with_room.new.history (set_back a here (parent_seen a here c.index_mut-parent.ensures.value) err.err) err.same err.stays

pub take_in-did-requires-clause-moment : goal.take_in-did-requires-clause-moment
take_in-did-requires-clause-moment g c = subst IsMoment (sym (setting g (goal.at.take_in-did-requires-clause-moment g c).After-len-room).now) c.self.invariant.world.moment

pub take_in-did-requires-clause-paid : goal.take_in-did-requires-clause-paid
take_in-did-requires-clause-paid g c = c.in_ok-pay_with_room.ensures.paid.paid

pub take_in-did-requires-clause-may : goal.take_in-did-requires-clause-may
take_in-did-requires-clause-may g c =
    let at = goal.at.take_in-did-requires-clause-may g c in
    let k = due_here g at.After-len-room in
    let here = place_is g at.After-len-room in
    let h = k.here.held in
    let ended : status_of h.ended h.status ≡ Some c.in-Some.came = ap (λ (x : Held). status_of x.ended x.status) (seen g at.After-index-2 k here) ∙ sym c.status_of.ensures ∙ c.in-Some.is in
    may_hand k.asks (parent_seen k.asks here c.index_mut-parent.ensures.value) c.in_ok-pay_with_room.ensures.paid (setting g at.After-len-room) c.own_at-own.ensures k.due_is
    (status_kind k.slot h.ended h.status c.in-Some.came ended) (status_within h.ended h.status c.in-Some.came ended)

pub index_mut-requires : goal.index_mut-requires
index_mut-requires g c =
    let at = goal.at.index_mut-requires g c in
    let k = due_here g at.After-len-room in
    let low = k.low in
    let wire = wire_is g at.After-unwrap-wire k (place_is g at.After-len-room) in
    omega (arith, low, wire, c.self.inside.mouths.ok.0)

pub free-requires : goal.free-requires
free-requires g c =
    let at = goal.at.free-requires g c in
    let k = due_here g at.After-len-room in
    let piped = c.self.invariant.piped in
    let m = c.index_mut.result.now in
    let wire = wire_is g at.After-unwrap-wire k (place_is g at.After-len-room) in
    let there = subst (λ (j : ℕ). slice_get c.self.inside.mouths.items j ≡ Some m) wire (mouths_at c.self.inside.mouths.items c.index_mut.ensures.value wire k.low) in
    let of : piped.wires c.args.actor.now ≡ Some k.wire = ap piped.wires (sym k.asks.here.name) ∙ piped.places k.asks.at k.asks.here.held k.asks.here.is k.asks.here.lives ∙ k.wire_is in
    let runs = sym (own_tenant piped.wires c.self.inside.mouths.items (known c.self.inside.history.events.items).pipework c.args.actor.now k.wire m piped.wired of there k.slot) ∙ k.runs in
    let low = slot_there m k.slot (subst (λ (o : Option Tenant). IsSome (actor_of o)) (sym runs) refl) in
    let same : c.due_slot-slot.result ≡ k.slot = c.due_slot-slot.ensures ∙ ap due_slot k.due_is in
    omega (arith, low, same)

pub invariant_of-self-2 : goal.invariant_of-self-2
invariant_of-self-2 g c =
    let at = goal.at.invariant_of-self-2 g c in
    let i = c.self.inside in
    let k = due_here g at.After-len-room in
    let here = place_is g at.After-len-room in
    let free = c.free.ensures in
    let freed : WasFreed c.index_mut.result.now c.free.new.self c.due_slot-slot.result = record { pipes = free.pipes; tenants = free.tenants; ended = free.ended; slots = free.slots } in
    let still = c.in_ok-pay_with_room.ensures.same in
    let same = own_by (setting g at.After-len-room) c.own_at-own.ensures k.due_is in
    let served = was_handed k.asks (parent_seen k.asks here c.index_mut-parent.ensures.value) c.in_ok-pay_with_room.ensures.paid same (c.len.ensures ∙ ap (λ (l : List Kept). length l) still) c.take_in-did.ensures.taken in
    let wire = wire_is g at.After-unwrap-wire k here in
    taken_whole c.self.invariant k c.put.new.self here (ap (λ (x : Held). status_of x.ended x.status) (seen g at.After-index-2 k here) ∙ sym c.status_of.ensures ∙ c.in-Some.is) served.0
    (put_act c.put.ensures.event still c.copy.ensures same)
    (room_after i.actors.items (set i.actors.items c.args.at.place c.take_in-did.new.actor) c.pay_with_room.new.history c.put.new.self (length-set i.actors.items c.args.at.place c.take_in-did.new.actor) (c.len-room.ensures ∙ i.actors.ok.0) c.in_ok-pay_with_room.ensures.holds c.put.ensures.room)
    wire (mouths_at c.self.inside.mouths.items c.index_mut.ensures.value wire k.low) (c.due_slot-slot.ensures ∙ ap due_slot k.due_is) freed

pub returns-clause-served : goal.returns-clause-served
returns-clause-served g c =
    let at = goal.at.returns-clause-served g c in
    let i = c.self.inside in
    let k = due_here g at.After-len-room in
    let a = k.asks in
    let here = place_is g at.After-len-room in
    let still = c.in_ok-pay_with_room.ensures.same in
    let same = own_by (setting g at.After-len-room) c.own_at-own.ensures k.due_is in
    let index = c.len.ensures ∙ ap (λ (l : List Kept). length l) still in
    let served = was_handed a (parent_seen a here c.index_mut-parent.ensures.value) c.in_ok-pay_with_room.ensures.paid same index c.take_in-did.ensures.taken in
    let ended = ap (λ (x : Held). status_of x.ended x.status) (seen g at.After-index-2 k here) ∙ sym c.status_of.ensures ∙ c.in-Some.is in
    let did = c.take_in-did.ensures.did in
    rw (← c.self.view_is, put_act c.put.ensures.event still c.copy.ensures same) (status_serves (g.D.CallFs.disk i.disk) i.crew (place_of i.places) i.actors.items i.mouths.items i.books.entries.items i.history.events.items i.present i.next_pid
    (counted i.bounces i.deliveries) c.args.actor.now a.at a.parent c.self.invariant.world c.self.invariant.piped a.is a.alive a.here k.slot k.child k.runs k.here c.in-Some.came ended (a.next ∙ k.due_is)
    g.D.CallFs.disk i.disk refl c.take_in-did.result (did.0 ∙ index) did.1 served.1)
