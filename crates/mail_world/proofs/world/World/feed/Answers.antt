use Rattle.std.proofs.Common.{◌≡◌, ◌+◌, List, ◌++◌, length, set, refl, sym, ap, ◌∙◌, subst, arith, is_some}
use Rattle.std.proofs.lemmas.List.{length-set}
use Rattle.std.proofs.lemmas.Option.{slice_get_within}
use Rattle.call_fs.specs.declared.past.NeedData.{NeedData}
use Rattle.call_fs.specs.declared.past.NeedData.TheVariants as needs
use Rattle.call_fs.specs.declared.past.Own.{Own}
use Rattle.call_fs.specs.declared.program.Port.TheVariants as port
use Rattle.mail_bytes.specs.Moments.{IsMoment}
use Rattle.world_events.specs.declared.event.Event.{Event as Kept}
use Rattle.world_pipes.specs.Seating.{due_slot}
use Rattle.mail_world.specs.declared.actor.Actor.{Actor as Held}
use Rattle.mail_world.specs.Children.{GivesTexts, GivesTwo, IsDueOfChild, IsSetting, IsFed}
use Rattle.mail_world.specs.History.{netstring}
use Rattle.mail_world.specs.Inside.{known}
use Rattle.mail_world.specs.Places.{place_of}
use Rattle.mail_world.specs.World.{Seen, counted}
use Rattle.mail_world.proofs.Booked.{entry_within}
use Rattle.mail_world.proofs.Feeding.{CanFeed, can_feed, gives_two, texts_due, fed_entry_is, feed_serves}
use Rattle.mail_world.proofs.Parents.{asks_at, still_whole, room_after, parent_low, parent_seen, set_back, parent_past, may_hand, was_handed, own_by, put_feed, child_is, child_low, child_seen_beside}
use Rattle.mail_world.proofs.Serving.{same_at}
use Rattle.mail_world.proofs.Wholes.{fed_whole}
use Rattle.mail_world.proofs.world.World.feed.Goals as goal
use Rattle.mail_world.proofs.world.World.feed.Goals.{After-len-room, After-unwrap-child, In_ok-message, After-index_mut-fed}

-- the actor is asked to feed its child
can : (g : _) (c : After-len-room g) →
    CanFeed c.self.inside.crew (place_of c.self.inside.places) c.self.inside.actors.items c.self.inside.mouths.items c.self.inside.history.events.items c.self.inside.present c.args.actor.now c.args.due.now
can g c =
    let i = c.self.inside in
    can_feed i.disk (g.D.CallFs.disk i.disk) i.crew (place_of i.places) i.actors.items i.mouths.items i.history.events.items i.present i.next_pid (counted i.bounces i.deliveries) c.args.actor.now c.args.due.now c.self.invariant.world c.self.invariant.piped
    (subst (λ (w : Seen _). IsDueOfChild w c.args.actor.now c.args.due.now) (sym c.self.view_is) c.requires.due) c.requires.give c.requires.other

-- what the step goes by, and where the parent stands
setting : (g : _) (c : After-len-room g) → IsSetting (record { disk = c.self.inside.disk; events = c.self.inside.history.events.items; present = c.self.inside.present }) c.args.actor.now c.args.at
setting g c = subst (λ (w : Seen _). IsSetting w c.args.actor.now c.args.at) (sym c.self.view_is) c.requires.at

place_is : (g : _) (c : After-len-room g) → c.args.at.place ≡ (can g c).asks.at
place_is g c = asks_at c.self.invariant (setting g c) (can g c).asks

pub index_mut-parent-requires : goal.index_mut-parent-requires
index_mut-parent-requires g c =
    let at = (goal.at.index_mut-parent-requires g c).After-len-room in
    let low = parent_low (can g at).asks (place_is g at) in
    omega (arith, low, c.self.inside.actors.ok.0)

pub child_at-requires : goal.child_at-requires
child_at-requires g c =
    let at = (goal.at.child_at-requires g c).After-len-room in
    let i = c.self.inside in
    let w = can g at in
    let within = slice_get_within i.actors.items (i.crew + w.child.at) w.child.held w.child.is in
    child_low (child_is i.crew (place_of i.places) c.deref.ensures.value (ap (λ (x : Held). x.wire) (sym (parent_seen w.asks (place_is g at) c.index_mut-parent.ensures.value))) (c.due_slot-slot.ensures ∙ ap due_slot w.feeds.due_is) w.found)
    (omega (arith, within, i.actors.ok.0))

pub unwrap-child-requires : goal.unwrap-child-requires
unwrap-child-requires g c =
    let at = (goal.at.unwrap-child-requires g c).After-len-room in
    let i = c.self.inside in
    let w = can g at in
    let there = child_is i.crew (place_of i.places) c.deref.ensures.value (ap (λ (x : Held). x.wire) (sym (parent_seen w.asks (place_is g at) c.index_mut-parent.ensures.value))) (c.due_slot-slot.ensures ∙ ap due_slot w.feeds.due_is) w.found in
    ap is_some (c.child_at.ensures ∙ there)

-- where the child stands
place : (g : _) (c : After-unwrap-child g)
    (w : CanFeed c.self.inside.crew (place_of c.self.inside.places) c.self.inside.actors.items c.self.inside.mouths.items c.self.inside.history.events.items c.self.inside.present c.args.actor.now c.args.due.now)
    → c.args.at.place ≡ w.asks.at → c.unwrap-child.result ≡ c.self.inside.crew + w.child.at
place g c w here =
    let i = c.self.inside in
    let there = child_is i.crew (place_of i.places) c.deref.ensures.value (ap (λ (x : Held). x.wire) (sym (parent_seen w.asks here c.index_mut-parent.ensures.value))) (c.due_slot-slot.ensures ∙ ap due_slot w.feeds.due_is) w.found in
    same_at c.child_at.result c.unwrap-child.result (i.crew + w.child.at) c.unwrap-child.ensures (c.child_at.ensures ∙ there)

pub ready_to_feed-requires-clause-gives : goal.ready_to_feed-requires-clause-gives
ready_to_feed-requires-clause-gives g c =
    let i = c.self.inside in
    subst GivesTwo (sym (ap (λ (own : Own). own.due) (c.get.ensures ∙ c.in_ok-own.ensures ∙ c.own_at-own.ensures)))
    (gives_two (known i.history.events.items) i.history.events.items c.args.actor.now c.args.due.now (can g (goal.at.ready_to_feed-requires-clause-gives g c).After-len-room).feeds)

pub ready_to_feed-requires-clause-owes : goal.ready_to_feed-requires-clause-owes
ready_to_feed-requires-clause-owes g c =
    let at = (goal.at.ready_to_feed-requires-clause-owes g c).After-len-room in
    let a = (can g at).asks in
    parent_past a (parent_seen a (place_is g at) c.index_mut-parent.ensures.value)

pub invariant_of-self : goal.invariant_of-self
invariant_of-self g c =
    let at = (goal.at.invariant_of-self g c).After-len-room in
    let a = (can g at).asks in
    let here = place_is g at in
    let err = c.in_err-message.ensures in
    still_whole c.self.invariant c.ready_to_feed.new.history (set_back a here (parent_seen a here c.index_mut-parent.ensures.value) err.err) err.same err.stays

-- the two texts
texts : (g : _) (c : In_ok-message g)
    (w : CanFeed c.self.inside.crew (place_of c.self.inside.places) c.self.inside.actors.items c.self.inside.mouths.items c.self.inside.history.events.items c.self.inside.present c.args.actor.now c.args.due.now)
    → c.args.due.now ≡ needs.Give (port.Program 0) (netstring c.in_ok-message.message ++ netstring c.in_ok-message.envelope)
texts g c w = texts_due c.args.due.now w.feeds.bytes c.in_ok-message.message c.in_ok-message.envelope w.feeds.due_is
    (subst (λ (due : NeedData). GivesTexts due c.in_ok-message.message c.in_ok-message.envelope) (ap (λ (own : Own). own.due) (c.get.ensures ∙ c.in_ok-own.ensures ∙ c.own_at-own.ensures)) c.in_ok-message.ensures.texts)

pub take_in-did-requires-clause-moment : goal.take_in-did-requires-clause-moment
take_in-did-requires-clause-moment g c = subst IsMoment (sym (setting g (goal.at.take_in-did-requires-clause-moment g c).After-len-room).now) c.self.invariant.world.moment

pub take_in-did-requires-clause-paid : goal.take_in-did-requires-clause-paid
take_in-did-requires-clause-paid g c = c.in_ok-message.ensures.paid.paid

pub take_in-did-requires-clause-may : goal.take_in-did-requires-clause-may
take_in-did-requires-clause-may g c =
    let at = goal.at.take_in-did-requires-clause-may g c in
    let w = can g at.After-len-room in
    may_hand w.asks (parent_seen w.asks (place_is g at.After-len-room) c.index_mut-parent.ensures.value) c.in_ok-message.ensures.paid (setting g at.After-len-room) (c.get-2.ensures ∙ c.in_ok-own.ensures ∙ c.own_at-own.ensures) (texts g at.In_ok-message w) tt (λ most. tt)

pub index_mut-fed-requires : goal.index_mut-fed-requires
index_mut-fed-requires g c =
    let i = c.self.inside in
    let at = goal.at.index_mut-fed-requires g c in
    let w = can g at.After-len-room in
    let low = slice_get_within i.actors.items (i.crew + w.child.at) w.child.held w.child.is in
    let is = place g at.After-unwrap-child w (place_is g at.After-len-room) in
    let same = length-set i.actors.items c.args.at.place c.take_in-did.new.actor in
    omega (arith, low, is, same, i.actors.ok.0)

-- the child, as it was read
child : (g : _) (c : After-index_mut-fed g)
    (w : CanFeed c.self.inside.crew (place_of c.self.inside.places) c.self.inside.actors.items c.self.inside.mouths.items c.self.inside.history.events.items c.self.inside.present c.args.actor.now c.args.due.now)
    → c.args.at.place ≡ w.asks.at → c.unwrap-child.result ≡ c.self.inside.crew + w.child.at → w.child.held ≡ c.index_mut-fed.result.now
child g c w here is = child_seen_beside w.child c.take_in-did.new.actor w.apart.1 here is c.index_mut-fed.ensures.value

-- it has an entry
pub unwrap-entry-requires : goal.unwrap-entry-requires
unwrap-entry-requires g c =
    let i = c.self.inside in
    let at = goal.at.unwrap-entry-requires g c in
    let w = can g at.After-len-room in
    let a = w.asks in
    let f = w.feeds in
    let here = place_is g at.After-len-room in
    let has = fed_entry_is (g.D.CallFs.disk i.disk) i.crew (place_of i.places) i.actors.items i.mouths.items i.history.events.items i.present i.next_pid (counted i.bounces i.deliveries) c.args.actor.now a.at a.parent c.self.invariant.world c.self.invariant.piped a.is a.alive a.here
    f.child f.runs w.child f.awaiting f.just c.in_ok-message.message c.in_ok-message.envelope (a.next ∙ texts g at.In_ok-message w) w.feeder i.books.entries.items c.self.invariant.booked in
    ap is_some (ap (λ (x : Held). x.entry) (sym (child g at.After-index_mut-fed w here (place g at.After-unwrap-child w here))) ∙ has.1)

pub feed-requires : goal.feed-requires
feed-requires g c =
    let i = c.self.inside in
    let at = goal.at.feed-requires g c in
    let w = can g at.After-len-room in
    let here = place_is g at.After-len-room in
    entry_within i.crew i.books.entries.items i.actors.items i.history.events.items (i.crew + w.child.at) c.unwrap-entry.result w.child.held c.self.invariant.booked w.child.is
    (ap (λ (x : Held). x.entry) (child g at.After-index_mut-fed w here (place g at.After-unwrap-child w here)) ∙ c.unwrap-entry.ensures)

pub invariant_of-self-2 : goal.invariant_of-self-2
invariant_of-self-2 g c =
    let i = c.self.inside in
    let at = goal.at.invariant_of-self-2 g c in
    let w = can g at.After-len-room in
    let here = place_is g at.After-len-room in
    let ok = c.in_ok-message.ensures in
    let y = c.take_in-did.new.actor in
    let z = c.give_input.new.actor in
    let due = texts g at.In_ok-message w in
    let own = own_by (setting g at.After-len-room) (c.in_ok-own.ensures ∙ c.own_at-own.ensures) due in
    let served = was_handed w.asks (parent_seen w.asks here c.index_mut-parent.ensures.value) ok.paid (c.get-2.ensures ∙ own) (c.len.ensures ∙ ap (λ (l : List Kept). length l) ok.same) c.take_in-did.ensures.taken in
    let is = place g at.After-unwrap-child w here in
    let same = child g at.After-index_mut-fed w here is in
    let name = c.copy-name.ensures ∙ ap (λ (x : Held). x.name) (sym same) ∙ w.child.name in
    let first = set i.actors.items c.args.at.place y in
    let many = length-set first c.unwrap-child.result z ∙ length-set i.actors.items c.args.at.place y in
    fed_whole c.self.invariant w c.put.new.self c.feed.new.self here is due served.0 (subst (λ (x : Held). IsFed c.in_ok-message.message c.in_ok-message.envelope x z) (sym same) c.give_input.ensures)
    (put_feed c.put.ensures.event ok.same c.copy.ensures own name ok.message ok.envelope)
    (room_after i.actors.items (set first c.unwrap-child.result z) c.ready_to_feed.new.history c.put.new.self many (c.len-room.ensures ∙ i.actors.ok.0) ok.holds c.put.ensures.room)
    (ap (λ (x : Held). x.entry) same ∙ c.unwrap-entry.ensures) c.as_slice.ensures c.feed.ensures

pub returns-clause-served : goal.returns-clause-served
returns-clause-served g c =
    let i = c.self.inside in
    let at = goal.at.returns-clause-served g c in
    let w = can g at.After-len-room in
    let a = w.asks in
    let f = w.feeds in
    let here = place_is g at.After-len-room in
    let ok = c.in_ok-message.ensures in
    let due = texts g at.In_ok-message w in
    let own = own_by (setting g at.After-len-room) (c.in_ok-own.ensures ∙ c.own_at-own.ensures) due in
    let index = c.len.ensures ∙ ap (λ (l : List Kept). length l) ok.same in
    let served = was_handed a (parent_seen a here c.index_mut-parent.ensures.value) ok.paid (c.get-2.ensures ∙ own) index c.take_in-did.ensures.taken in
    let same = child g at.After-index_mut-fed w here (place g at.After-unwrap-child w here) in
    let name = c.copy-name.ensures ∙ ap (λ (x : Held). x.name) (sym same) ∙ w.child.name in
    let did = c.take_in-did.ensures.did in
    rw (← c.self.view_is, put_feed c.put.ensures.event ok.same c.copy.ensures own name ok.message ok.envelope) (feed_serves (g.D.CallFs.disk i.disk) i.crew (place_of i.places) i.actors.items i.mouths.items i.history.events.items i.present i.next_pid
    (counted i.bounces i.deliveries) c.args.actor.now a.at a.parent c.self.invariant.world c.self.invariant.piped a.is a.alive a.here f.child f.runs w.child f.awaiting f.just c.in_ok-message.message c.in_ok-message.envelope (a.next ∙ due) w.feeder
    g.D.CallFs.disk i.disk refl c.take_in-did.result (did.0 ∙ index) did.1 served.1)
