use Rattle.std.proofs.Common.{◌≡◌, ℕ, ◌+◌, ◌-◌, List, [], ◌∷◌, ◌++◌, length, set, Option, Some, get_or, refl, sym, ap, ◌∙◌, subst, arith}
use Rattle.std.specs.List.{slice_get}
use Rattle.std.proofs.lemmas.List.{length-append, length-set}
use Rattle.call_fs.specs.Maps.{put_at}
use Rattle.call_fs.specs.declared.past.ChildData.{ChildData}
use Rattle.call_fs.specs.declared.past.NeedData.{NeedData}
use Rattle.call_fs.specs.declared.past.NeedData.TheVariants as needs
use Rattle.world_events.specs.Books.{entry_by}
use Rattle.world_events.specs.Children.{counts_with, entry_after}
use Rattle.world_events.specs.Programs.{injection_of}
use Rattle.world_events.specs.declared.books.Entry.{Entry}
use Rattle.world_events.specs.declared.event.Event.{Event as Kept}
use Rattle.world_events.specs.declared.event.Program.{Program}
use Rattle.world_pipes.specs.declared.mouths.Mouths.{Mouths}
use Rattle.world_pipes.specs.Pipework.{slot_of}
use Rattle.world_pipes.specs.Seating.{HasPipesFor, HasPlaceAfter, due_slot}
use Rattle.world_pipes.specs.Wired.{MayRunIn}
use Rattle.mail_world.specs.declared.actor.Actor.{Actor as Held}
use Rattle.mail_world.specs.declared.any_machine.AnyMachine.{AnyMachine}
use Rattle.mail_world.specs.Children.{Begins, IsDueOfChild, IsPaid, IsSetting}
use Rattle.mail_world.specs.Places.{place_of}
use Rattle.mail_world.specs.World.{Seen, counted, next_pid}
use Rattle.mail_world.proofs.Bearing.{IsBearing, HasStartedIn, bearing, slot_low, bear_serves}
use Rattle.mail_world.proofs.Parents.{asks_at, still_all, same_places, paid_whole, room_pushed, parent_low, parent_seen, set_back, parent_past, may_hand, was_handed, has_wire, wire_at, mouths_at, own_by, put_child, born_at}
use Rattle.mail_world.proofs.Wholes.{borne_whole}
use Rattle.mail_world.proofs.world.World.start_child.Goals as goal
use Rattle.mail_world.proofs.world.World.start_child.Goals.{After-len, In_ok-born, After-index_mut-parent, After-index_mut}

-- what is due, and where
due_here : (g : _) (c : After-len g) →
    IsBearing c.self.inside.crew (place_of c.self.inside.places) c.self.inside.mouths.items c.self.inside.actors.items c.self.inside.history.events.items c.self.inside.present (counted c.self.inside.bounces c.self.inside.deliveries) c.args.actor.now c.args.due.now
due_here g c =
    let i = c.self.inside in
    bearing i.disk (g.D.CallFs.disk i.disk) i.crew (place_of i.places) i.actors.items i.mouths.items i.history.events.items i.present i.next_pid (counted i.bounces i.deliveries) c.args.actor.now c.args.due.now c.self.invariant.world c.self.invariant.piped
    (subst (λ (w : Seen _). IsDueOfChild w c.args.actor.now c.args.due.now) (sym c.self.view_is) c.requires.due) c.requires.start

-- what the step goes by, and where the parent stands
setting : (g : _) (c : After-len g) → IsSetting (record { disk = c.self.inside.disk; events = c.self.inside.history.events.items; present = c.self.inside.present }) c.args.actor.now c.args.at
setting g c = subst (λ (w : Seen _). IsSetting w c.args.actor.now c.args.at) (sym c.self.view_is) c.requires.at

place_is : (g : _) (c : After-len g) → c.args.at.place ≡ (due_here g c).asks.at
place_is g c = asks_at c.self.invariant (setting g c) (due_here g c).asks

-- room was made
pub invariant_of-self : goal.invariant_of-self
invariant_of-self g c =
    let room = c.in_err-room_for_one.ensures in
    still_all c.self.invariant c.self.inside.history c.room_for_one.new.books room.actors refl (λ k has. has) room.pipes room.books room.starts

pub index_mut-parent-requires : goal.index_mut-parent-requires
index_mut-parent-requires g c =
    let at = (goal.at.index_mut-parent-requires g c).After-len in
    let low = parent_low (due_here g at).asks (place_is g at) in
    let many = ap (λ (l : List Held). length l) c.in_ok-room_for_one.ensures.actors in
    omega (arith, low, many, c.room_for_one.new.actors.ok.0)

-- the parent is read, and its pipes
read : (g : _) (c : After-index_mut-parent g) → c.index_mut-parent.result.now ≡ get_or c.self.inside.actors.items c.args.at.place c.index_mut-parent.result.now
read g c =
    let x = c.index_mut-parent.result.now in
    subst (λ (l : List Held). x ≡ get_or l c.args.at.place x) c.in_ok-room_for_one.ensures.actors c.index_mut-parent.ensures.value

mouths_read : (g : _) (c : After-index_mut g) → c.index_mut.result.now ≡ get_or c.self.inside.mouths.items c.unwrap-wire.result c.index_mut.result.now
mouths_read g c =
    let m = c.index_mut.result.now in
    subst (λ (l : List Mouths). m ≡ get_or l c.unwrap-wire.result m) c.in_ok-room_for_one.ensures.pipes c.index_mut.ensures.value

pub unwrap-wire-requires : goal.unwrap-wire-requires
unwrap-wire-requires g c =
    let at = goal.at.unwrap-wire-requires g c in
    let k = due_here g at.After-len in
    has_wire (parent_seen k.asks (place_is g at.After-len) (read g at.After-index_mut-parent)) k.wire_is

pub pay_with_room-requires : goal.pay_with_room-requires
pay_with_room-requires g c =
    let at = goal.at.pay_with_room-requires g c in
    let a = (due_here g at.After-len).asks in
    parent_past a (parent_seen a (place_is g at.After-len) (read g at.After-index_mut-parent))

pub invariant_of-self-in_err-pay_with_room : goal.invariant_of-self-in_err-pay_with_room
invariant_of-self-in_err-pay_with_room g c =
    let at = goal.at.invariant_of-self-in_err-pay_with_room g c in
    let a = (due_here g at.After-len).asks in
    let here = place_is g at.After-len in
    let room = c.in_ok-room_for_one.ensures in
    let err = c.in_err-pay_with_room.ensures in
    still_all c.self.invariant c.pay_with_room.new.history c.room_for_one.new.books
    (ap (λ (l : List Held). set l c.args.at.place c.pay_with_room.new.actor) room.actors ∙ set_back a here (parent_seen a here (read g at.After-index_mut-parent)) err.err) err.same err.stays room.pipes room.books room.starts

pub invariant_of-self-in_err-add : goal.invariant_of-self-in_err-add
invariant_of-self-in_err-add g c =
    let at = goal.at.invariant_of-self-in_err-add g c in
    let i = c.self.inside in
    let a = (due_here g at.After-len).asks in
    let here = place_is g at.After-len in
    let room = c.in_ok-room_for_one.ensures in
    let ok = c.in_ok-pay_with_room.ensures in
    let z = c.pay_with_room.new.actor in
    let paid = subst (λ (x : Held). IsPaid x z i.history.events.items) (sym (parent_seen a here (read g at.After-index_mut-parent))) ok.paid in
    let stood : set c.room_for_one.new.actors.items c.args.at.place z ≡ set i.actors.items a.at z = ap (λ (l : List Held). set l c.args.at.place z) room.actors ∙ ap (λ (j : ℕ). set i.actors.items j z) here in
    same_places (still_all (paid_whole c.self.invariant a paid) c.pay_with_room.new.history c.room_for_one.new.books stood ok.same ok.stays room.pipes room.books room.starts) c.in_err-add.ensures.err

pub take_in-did-requires-clause-may : goal.take_in-did-requires-clause-may
take_in-did-requires-clause-may g c =
    let at = goal.at.take_in-did-requires-clause-may g c in
    let k = due_here g at.After-len in
    may_hand k.asks (parent_seen k.asks (place_is g at.After-len) (read g at.After-index_mut-parent)) c.in_ok-pay_with_room.ensures.paid (setting g at.After-len) (c.get.ensures ∙ c.in_ok-own.ensures ∙ c.own_at-own.ensures) k.due_is tt (λ most. tt)

pub index_mut-requires : goal.index_mut-requires
index_mut-requires g c =
    let at = goal.at.index_mut-requires g c in
    let k = due_here g at.After-len in
    let low = k.low in
    let wire = wire_at (parent_seen k.asks (place_is g at.After-len) (read g at.After-index_mut-parent)) k.wire_is c.unwrap-wire.ensures in
    let same = ap (λ (l : List Mouths). length l) c.in_ok-room_for_one.ensures.pipes in
    omega (arith, low, wire, same, c.room_for_one.new.mouths.ok.0)

pub start_actor-requires : goal.start_actor-requires
start_actor-requires g c =
    let at = goal.at.start_actor-requires g c in
    let k = due_here g at.After-len in
    let wire = wire_at (parent_seen k.asks (place_is g at.After-len) (read g at.After-index_mut-parent)) k.wire_is c.unwrap-wire.ensures in
    let slot : c.due_slot-number.result ≡ slot_of k.asked = c.due_slot-number.ensures ∙ ap due_slot k.due_is in
    slot_low k.wire c.due_slot-number.result (length c.index_mut.result.now.slots.items) (subst (MayRunIn k.wire) (sym slot) k.runs_in) c.due_slot-number.type_inv
    (c.self.invariant.piped.slots k.wire c.index_mut.result.now (subst (λ (j : ℕ). slice_get c.self.inside.mouths.items j ≡ Some c.index_mut.result.now) wire (mouths_at c.self.inside.mouths.items (mouths_read g at.After-index_mut) wire k.low)))

-- what is asked for
asked_is : (g : _) (c : In_ok-born g) (asked : ChildData) → c.args.due.now ≡ needs.Start asked → c.get-asked.result.now ≡ asked
asked_is g c asked due = c.get-asked.ensures ∙ (let both : ◌≡◌ {A = NeedData} (needs.Start c.in-Start.asked) (needs.Start asked) = sym c.in-Start.is ∙ due in cc)

pub invariant_of-self-2 : goal.invariant_of-self-2
invariant_of-self-2 g c =
    let at = goal.at.invariant_of-self-2 g c in
    let i = c.self.inside in
    let before = counted i.bounces i.deliveries in
    let k = due_here g at.After-len in
    let here = place_is g at.After-len in
    let seen = parent_seen k.asks here (read g at.After-index_mut-parent) in
    let name = c.in_ok-born.born.name in
    let program = c.in_ok-born.born.program in
    let y = c.take_in-did.new.actor in
    let z = c.new-child.result in
    let v = c.start_actor.new.self in
    let room = c.in_ok-room_for_one.ensures in
    let ok = c.in_ok-pay_with_room.ensures in
    let made = c.new-child.ensures in
    let began = c.start_actor.ensures in
    let now = c.add_pipes-pipes.new.mouths.items in
    let own_pipes = c.in_ok-own_pipes.own_pipes in
    let asked = asked_is g at.In_ok-born k.asked k.due_is in
    let born = born_at before c.in_ok-machine.machine (setting g at.After-len) asked (c.in_ok-born.ensures before c.counts_with-counts.ensures) c.in_ok-machine.ensures in
    let own = own_by (setting g at.After-len) (c.in_ok-own.ensures ∙ c.own_at-own.ensures) k.due_is in
    let served = was_handed k.asks seen ok.paid (c.get.ensures ∙ own) (c.len-2.ensures ∙ ap (λ (l : List Kept). length l) ok.same) c.take_in-did.ensures.taken in
    let all : c.push.new.self.items ≡ set i.actors.items c.args.at.place y ++ z ∷ [] = rw c.unwrap.ensures at c.push.ensures.items ∙ ap (λ (l : List Held). set l c.args.at.place y ++ z ∷ []) room.actors in
    let many : c.len.result ≡ length i.actors.items = c.len.ensures ∙ i.actors.ok.0 in
    let wide : length c.push.new.self.items ≡ length i.actors.items + 1 =
    ap (λ (l : List Held). length l) all ∙ length-append (set i.actors.items c.args.at.place y) (z ∷ []) ∙ ap (λ (n : ℕ). n + 1) (length-set i.actors.items c.args.at.place y) in
    let len : c.len-events.result ≡ length i.actors.items = c.len-events.ensures ∙ c.room_for_one.new.actors.ok.0 ∙ ap (λ (l : List Held). length l) room.actors in
    let wire = wire_at seen k.wire_is c.unwrap-wire.ensures in
    let pipes : set c.room_for_one.new.mouths.items c.unwrap-wire.result v ≡ set i.mouths.items c.unwrap-wire.result v = ap (λ (l : List Mouths). set l c.unwrap-wire.result v) room.pipes in
    borne_whole c.self.invariant k z own_pipes (place_of c.add.new.self) c.put.new.self c.enter-entry.new.self c.room_for_one.new.starts c.add_other.new.self here (c.counts_with-counts.ensures ∙ ap (counts_with before) asked) born.0 served.0
    (put_child c.put.ensures.event ok.same c.child_event.ensures own) all (room_pushed i.actors.items c.push.new.self.items c.pay_with_room.new.history c.put.new.self wide len ok.holds c.put.ensures.room) c.saturating_add-self-inside.ensures
    (λ q. c.in_ok-add.ensures.ok q ∙ ap (λ (n : List ℕ). put_at (place_of i.places) n (Some (c.len.result - i.crew)) q) c.as_slice.ensures ∙ ap (λ (n : ℕ). put_at (place_of i.places) name (Some (n - i.crew)) q) many)
    (made.name ∙ c.copy-2.ensures) made.ended made.owed made.status made.descriptors (subst (λ (m : AnyMachine). Begins m program) (sym made.machine) born.1)
    (c.enter-entry.ensures.entered ∙ ap (λ (l : List Entry). l ++ entry_by name (injection_of c.get-2.result.now)) room.books ∙ ap (λ (p : Program). i.books.entries.items ++ entry_by name (injection_of p)) c.get-2.ensures)
    (made.entry ∙ c.enter-entry.ensures.place ∙ ap (λ (l : List Entry). entry_after (length l) c.get-2.result.now) room.books ∙ ap (entry_after (length i.books.entries.items)) c.get-2.ensures)
    wire (mouths_at c.self.inside.mouths.items (mouths_read g at.After-index_mut) wire k.low) (c.due_slot-number.ensures ∙ ap due_slot k.due_is)
    (subst (λ (n : List ℕ). HasStartedIn c.index_mut.result.now v c.due_slot-number.result n) c.copy.ensures (record { pipes = began.pipes; tenants = began.tenants; ended = began.ended; slots = began.slots }))
    (subst (λ (asked : ChildData). HasPipesFor asked own_pipes) asked c.in_ok-own_pipes.ensures)
    (subst (λ (w : Option ℕ). HasPlaceAfter (set i.mouths.items c.unwrap-wire.result v) now own_pipes w) (sym made.wire) (subst (λ (l : List Mouths). HasPlaceAfter l now own_pipes c.add_pipes-pipes.result) pipes c.add_pipes-pipes.ensures))
    made.slot room.starts (c.add_other.ensures.order ∙ ap (λ (n : ℕ). c.room_for_one.new.starts.order.items ++ (n - i.crew + 4) ∷ []) many) c.add_other.ensures.newest

pub returns-clause-served : goal.returns-clause-served
returns-clause-served g c =
    let at = goal.at.returns-clause-served g c in
    let i = c.self.inside in
    let before = counted i.bounces i.deliveries in
    let k = due_here g at.After-len in
    let a = k.asks in
    let ok = c.in_ok-pay_with_room.ensures in
    let asked = asked_is g at.In_ok-born k.asked k.due_is in
    let born = born_at before c.in_ok-machine.machine (setting g at.After-len) asked (c.in_ok-born.ensures before c.counts_with-counts.ensures) c.in_ok-machine.ensures in
    let own = own_by (setting g at.After-len) (c.in_ok-own.ensures ∙ c.own_at-own.ensures) k.due_is in
    let index = c.len-2.ensures ∙ ap (λ (l : List Kept). length l) ok.same in
    let served = was_handed a (parent_seen a (place_is g at.After-len) (read g at.After-index_mut-parent)) ok.paid (c.get.ensures ∙ own) index c.take_in-did.ensures.taken in
    let did = c.take_in-did.ensures.did in
    rw (← c.self.view_is, put_child c.put.ensures.event ok.same c.child_event.ensures own) (bear_serves (g.D.CallFs.disk i.disk) i.crew (place_of i.places) (place_of c.add.new.self) i.actors.items i.mouths.items i.history.events.items i.present
    i.next_pid before c.args.actor.now a.at a.parent c.self.invariant.world c.self.invariant.piped a.is a.alive a.here k.asked k.actor k.starts c.in_ok-born.born.name c.in_ok-born.born.program c.args.at.pid born.0 (a.next ∙ k.due_is)
    g.D.CallFs.disk i.disk refl (c.requires.at.pid ∙ ap (λ (w : Seen _). next_pid w.events) (sym c.self.view_is)) c.take_in-did.result (did.0 ∙ index) did.1 served.1)
