use Rattle.std.proofs.Common.{◌≡◌, ℕ, ◌+◌, List, [], length, set, refl, sym, ap, ◌∙◌, subst, arith}
use Rattle.std.specs.Prelude.{IsSome}
use Rattle.std.proofs.lemmas.List.{length-set}
use Rattle.call_fs.specs.declared.past.NeedData.{NeedData}
use Rattle.call_fs.specs.declared.past.NeedData.TheVariants as needs
use Rattle.call_fs.specs.declared.program.Port.TheVariants as port
use Rattle.mail_bytes.specs.Moments.{IsMoment}
use Rattle.world_events.specs.declared.event.Event.{Event as Kept}
use Rattle.world_pipes.specs.declared.mouths.Mouths.{Mouths}
use Rattle.world_pipes.specs.Mouths.{HasRoomAt, IsSame}
use Rattle.world_pipes.specs.Seating.{due_slot}
use Rattle.mail_world.specs.declared.actor.Actor.{Actor as Held}
use Rattle.mail_world.specs.Children.{IsDueOfChild, IsSetting}
use Rattle.mail_world.specs.Places.{place_of}
use Rattle.mail_world.specs.World.{Seen, counted}
use Rattle.mail_world.proofs.Filling.{IsFilling, filling, fill_serves}
use Rattle.mail_world.proofs.Parents.{asks_at, still_whole, roomy_whole, room_after, parent_low, parent_seen, set_back, parent_past, may_hand, was_handed, has_wire, wire_at, mouths_at, read_back, own_by, put_act, child_is, child_low, child_seen}
use Rattle.mail_world.proofs.Serving.{same_at}
use Rattle.mail_world.proofs.Wholes.{WasGiven, filled_whole}
use Rattle.mail_world.proofs.world.World.fill.Goals as goal
use Rattle.mail_world.proofs.world.World.fill.Goals.{After-len-room, After-unwrap-to, In-Give}

-- what is due, and to whom it is given
due_here : (g : _) (c : After-len-room g) →
    IsFilling c.self.inside.crew (place_of c.self.inside.places) c.self.inside.mouths.items c.self.inside.actors.items c.self.inside.history.events.items c.self.inside.present c.args.actor.now c.args.due.now c.self.invariant.piped.wires
due_here g c =
    let i = c.self.inside in
    filling i.disk (g.D.CallFs.disk i.disk) i.crew (place_of i.places) i.actors.items i.mouths.items i.history.events.items i.present i.next_pid (counted i.bounces i.deliveries) c.args.actor.now c.args.due.now c.self.invariant.world c.self.invariant.piped
    (subst (λ (w : Seen _). IsDueOfChild w c.args.actor.now c.args.due.now) (sym c.self.view_is) c.requires.due) c.requires.give c.requires.spawner

-- what the step goes by, and where the spawner stands
setting : (g : _) (c : After-len-room g) → IsSetting (record { disk = c.self.inside.disk; events = c.self.inside.history.events.items; present = c.self.inside.present }) c.args.actor.now c.args.at
setting g c = subst (λ (w : Seen _). IsSetting w c.args.actor.now c.args.at) (sym c.self.view_is) c.requires.at

place_is : (g : _) (c : After-len-room g) → c.args.at.place ≡ (due_here g c).asks.at
place_is g c = asks_at c.self.invariant (setting g c) (due_here g c).asks

pub index-requires : goal.index-requires
index-requires g c =
    let at = (goal.at.index-requires g c).After-len-room in
    let low = parent_low (due_here g at).asks (place_is g at) in
    omega (arith, low, c.self.inside.actors.ok.0)

pub child_at-requires : goal.child_at-requires
child_at-requires g c =
    let at = (goal.at.child_at-requires g c).After-len-room in
    let i = c.self.inside in
    let k = due_here g at in
    let within = k.within in
    child_low (child_is i.crew (place_of i.places) c.deref.ensures.value (ap (λ (x : Held). x.wire) (sym (parent_seen k.asks (place_is g at) c.index.ensures))) (c.due_slot.ensures ∙ ap due_slot k.due_is) k.found)
    (omega (arith, within, i.actors.ok.0))

pub unwrap-child-requires : goal.unwrap-child-requires
unwrap-child-requires g c =
    let at = (goal.at.unwrap-child-requires g c).After-len-room in
    let i = c.self.inside in
    let k = due_here g at in
    let there = child_is i.crew (place_of i.places) c.deref.ensures.value (ap (λ (x : Held). x.wire) (sym (parent_seen k.asks (place_is g at) c.index.ensures))) (c.due_slot.ensures ∙ ap due_slot k.due_is) k.found in
    subst IsSome (sym (c.child_at.ensures ∙ there)) refl

pub index-requires-2 : goal.index-requires-2
index-requires-2 g c =
    let at = (goal.at.index-requires-2 g c).After-len-room in
    let i = c.self.inside in
    let k = due_here g at in
    let within = k.within in
    let there = child_is i.crew (place_of i.places) c.deref.ensures.value (ap (λ (x : Held). x.wire) (sym (parent_seen k.asks (place_is g at) c.index.ensures))) (c.due_slot.ensures ∙ ap due_slot k.due_is) k.found in
    let same = same_at c.child_at.result c.unwrap-child.result (i.crew + k.here.at) c.unwrap-child.ensures (c.child_at.ensures ∙ there) in
    omega (arith, within, same, i.actors.ok.0)

pub unwrap-to-requires : goal.unwrap-to-requires
unwrap-to-requires g c =
    let at = (goal.at.unwrap-to-requires g c).After-len-room in
    let i = c.self.inside in
    let k = due_here g at in
    let there = child_is i.crew (place_of i.places) c.deref.ensures.value (ap (λ (x : Held). x.wire) (sym (parent_seen k.asks (place_is g at) c.index.ensures))) (c.due_slot.ensures ∙ ap due_slot k.due_is) k.found in
    has_wire (child_seen k.here (same_at c.child_at.result c.unwrap-child.result (i.crew + k.here.at) c.unwrap-child.ensures (c.child_at.ensures ∙ there)) c.index-2.ensures) k.to_is

-- where the delivery has its pipes
to_is : (g : _) (c : After-unwrap-to g)
    (k : IsFilling c.self.inside.crew (place_of c.self.inside.places) c.self.inside.mouths.items c.self.inside.actors.items c.self.inside.history.events.items c.self.inside.present c.args.actor.now c.args.due.now c.self.invariant.piped.wires)
    → c.args.at.place ≡ k.asks.at → c.unwrap-to.result ≡ k.to
to_is g c k here =
    let i = c.self.inside in
    let there = child_is i.crew (place_of i.places) c.deref.ensures.value (ap (λ (x : Held). x.wire) (sym (parent_seen k.asks here c.index.ensures))) (c.due_slot.ensures ∙ ap due_slot k.due_is) k.found in
    let same = same_at c.child_at.result c.unwrap-child.result (i.crew + k.here.at) c.unwrap-child.ensures (c.child_at.ensures ∙ there) in
    wire_at (child_seen k.here same c.index-2.ensures) k.to_is c.unwrap-to.ensures

pub index_mut-requires : goal.index_mut-requires
index_mut-requires g c =
    let at = goal.at.index_mut-requires g c in
    let k = due_here g at.After-len-room in
    let low = k.low in
    let to = to_is g at.After-unwrap-to k (place_is g at.After-len-room) in
    omega (arith, low, to, c.self.inside.mouths.ok.0)

-- with more room in its pipe, all is as before
pub invariant_of-self : goal.invariant_of-self
invariant_of-self g c =
    let at = goal.at.invariant_of-self g c in
    let k = due_here g at.After-len-room in
    let made = c.in_err-make_room.ensures in
    let roomy : IsSame c.index_mut.result.now c.make_room.new.self = record { pipes = made.pipes; tenants = made.tenants; ended = made.ended; slots = made.slots } in
    roomy_whole c.self.invariant k.asks.at c.unwrap-to.result k.asks.here.is (mouths_at c.self.inside.mouths.items c.index_mut.ensures.value (to_is g at.After-unwrap-to k (place_is g at.After-len-room)) k.low) roomy

pub index_mut-parent-requires : goal.index_mut-parent-requires
index_mut-parent-requires g c =
    let at = (goal.at.index_mut-parent-requires g c).After-len-room in
    let low = parent_low (due_here g at).asks (place_is g at) in
    omega (arith, low, c.self.inside.actors.ok.0)

pub pay_with_room-requires : goal.pay_with_room-requires
pay_with_room-requires g c =
    let at = (goal.at.pay_with_room-requires g c).After-len-room in
    let a = (due_here g at).asks in
    parent_past a (parent_seen a (place_is g at) c.index_mut-parent.ensures.value)

pub invariant_of-self-in_err-pay_with_room : goal.invariant_of-self-in_err-pay_with_room
invariant_of-self-in_err-pay_with_room g c =
    let at = goal.at.invariant_of-self-in_err-pay_with_room g c in
    let k = due_here g at.After-len-room in
    let here = place_is g at.After-len-room in
    let made = c.in_ok-make_room.ensures in
    let err = c.in_err-pay_with_room.ensures in
    let roomy : IsSame c.index_mut.result.now c.make_room.new.self = record { pipes = made.pipes; tenants = made.tenants; ended = made.ended; slots = made.slots } in
    still_whole (roomy_whole c.self.invariant k.asks.at c.unwrap-to.result k.asks.here.is (mouths_at c.self.inside.mouths.items c.index_mut.ensures.value (to_is g at.After-unwrap-to k here) k.low) roomy) c.pay_with_room.new.history (set_back k.asks here (parent_seen k.asks here c.index_mut-parent.ensures.value) err.err) err.same err.stays

pub index_mut-requires-2 : goal.index_mut-requires-2
index_mut-requires-2 g c =
    let at = goal.at.index_mut-requires-2 g c in
    let i = c.self.inside in
    let k = due_here g at.After-len-room in
    let low = k.low in
    let to = to_is g at.After-unwrap-to k (place_is g at.After-len-room) in
    let many = length-set i.mouths.items c.unwrap-to.result c.make_room.new.self in
    omega (arith, low, to, many, i.mouths.ok.0)

pub give_all-requires : goal.give_all-requires
give_all-requires g c =
    let at = goal.at.give_all-requires g c in
    let k = due_here g at.After-len-room in
    let n = c.make_room.new.self in
    let there = mouths_at c.self.inside.mouths.items c.index_mut.ensures.value (to_is g at.After-unwrap-to k (place_is g at.After-len-room)) k.low in
    subst (λ (m : Mouths). HasRoomAt m port.Input (length c.as_slice-2.result.now)) (read_back c.self.inside.mouths.items c.unwrap-to.result there c.index_mut-2.ensures.value)
    (subst (λ (more : ℕ). HasRoomAt n port.Input more) (ap (λ (bytes : List ℕ). length bytes) (c.as_slice.ensures ∙ sym c.as_slice-2.ensures)) c.in_ok-make_room.ensures.room)

pub take_in-did-requires-clause-moment : goal.take_in-did-requires-clause-moment
take_in-did-requires-clause-moment g c = subst IsMoment (sym (setting g (goal.at.take_in-did-requires-clause-moment g c).After-len-room).now) c.self.invariant.world.moment

pub take_in-did-requires-clause-paid : goal.take_in-did-requires-clause-paid
take_in-did-requires-clause-paid g c = c.in_ok-pay_with_room.ensures.paid.paid

pub take_in-did-requires-clause-may : goal.take_in-did-requires-clause-may
take_in-did-requires-clause-may g c =
    let at = (goal.at.take_in-did-requires-clause-may g c).After-len-room in
    let k = due_here g at in
    may_hand k.asks (parent_seen k.asks (place_is g at) c.index_mut-parent.ensures.value) c.in_ok-pay_with_room.ensures.paid (setting g at) c.own_at-own.ensures k.due_is tt (λ most. tt)

-- the bytes that were given
abbrev given_in : NeedData → List ℕ
given_in (needs.Give to bytes) = bytes
given_in other = []

was_given : (g : _) (c : In-Give g) (v : Mouths) {slot : ℕ} {bytes read : List ℕ} (m : Mouths) → c.args.due.now ≡ needs.Give (port.Program slot) bytes → read ≡ c.in-Give.bytes → WasGiven m v read → WasGiven m v bytes
was_given g c v {slot} {bytes} {read} m due same gave = subst (WasGiven m v) (same ∙ ap given_in (sym c.in-Give.is ∙ due)) gave

pub invariant_of-self-2 : goal.invariant_of-self-2
invariant_of-self-2 g c =
    let at = goal.at.invariant_of-self-2 g c in
    let i = c.self.inside in
    let k = due_here g at.After-len-room in
    let here = place_is g at.After-len-room in
    let made = c.in_ok-make_room.ensures in
    let roomy : IsSame c.index_mut.result.now c.make_room.new.self = record { pipes = made.pipes; tenants = made.tenants; ended = made.ended; slots = made.slots } in
    let gave = c.give_all.ensures in
    let still = c.in_ok-pay_with_room.ensures.same in
    let same = own_by (setting g at.After-len-room) c.own_at-own.ensures k.due_is in
    let served = was_handed k.asks (parent_seen k.asks here c.index_mut-parent.ensures.value) c.in_ok-pay_with_room.ensures.paid same (c.len.ensures ∙ ap (λ (l : List Kept). length l) still) c.take_in-did.ensures.taken in
    let to = to_is g at.After-unwrap-to k here in
    let there = mouths_at c.self.inside.mouths.items c.index_mut.ensures.value to k.low in
    let given = subst (λ (m : Mouths). WasGiven m c.give_all.new.self c.as_slice-2.result.now) (sym (read_back c.self.inside.mouths.items c.unwrap-to.result there c.index_mut-2.ensures.value))
    (record { pipes = gave.pipes; tenants = gave.tenants; ended = gave.ended; slots = gave.slots }) in
    filled_whole c.self.invariant k c.put.new.self here served.0 (put_act c.put.ensures.event still c.copy.ensures same)
    (room_after i.actors.items (set i.actors.items c.args.at.place c.take_in-did.new.actor) c.pay_with_room.new.history c.put.new.self (length-set i.actors.items c.args.at.place c.take_in-did.new.actor) (c.len-room.ensures ∙ i.actors.ok.0) c.in_ok-pay_with_room.ensures.holds c.put.ensures.room)
    to there roomy
    (was_given g at.In-Give c.give_all.new.self c.make_room.new.self k.due_is c.as_slice-2.ensures given)

pub returns-clause-served : goal.returns-clause-served
returns-clause-served g c =
    let at = (goal.at.returns-clause-served g c).After-len-room in
    let i = c.self.inside in
    let k = due_here g at in
    let a = k.asks in
    let still = c.in_ok-pay_with_room.ensures.same in
    let same = own_by (setting g at) c.own_at-own.ensures k.due_is in
    let index = c.len.ensures ∙ ap (λ (l : List Kept). length l) still in
    let served = was_handed a (parent_seen a (place_is g at) c.index_mut-parent.ensures.value) c.in_ok-pay_with_room.ensures.paid same index c.take_in-did.ensures.taken in
    let did = c.take_in-did.ensures.did in
    rw (← c.self.view_is, put_act c.put.ensures.event still c.copy.ensures same) (fill_serves (g.D.CallFs.disk i.disk) i.crew (place_of i.places) i.actors.items i.mouths.items i.books.entries.items i.history.events.items i.present i.next_pid
    (counted i.bounces i.deliveries) c.args.actor.now a.at a.parent c.self.invariant.world c.self.invariant.piped a.is a.alive a.here k.slot k.bytes k.child k.runs k.here.member.actor k.there k.delivers k.spawner (a.next ∙ k.due_is)
    g.D.CallFs.disk i.disk refl c.take_in-did.result (did.0 ∙ index) did.1 served.1)
