use Rattle.std.proofs.Common.{◌≡◌, ℕ, ◌<◌, ◌^◌, List, [], ◌∷◌, ◌++◌, length, reverse, set, arith, Some, None, Ok, refl, sym, ap, ◌∙◌, subst}
use Rattle.std.proofs.lemmas.Result.{err_from_is_err_and}
use Rattle.mail_world.specs.declared.actor.Actor.{Actor as Held}
use Rattle.world_events.specs.declared.event.Event.TheVariants as kept
use Rattle.mail_world.specs.Places.{place_of}
use Rattle.mail_world.specs.World.{counted}
use Rattle.mail_world.specs.Inside.{among_all, known, living}
use Rattle.mail_world.specs.Acting.{IsNoLiving}
use Rattle.mail_world.proofs.Histories.{goes_on}
use Rattle.std.proofs.lemmas.List.{length-set}
use Rattle.mail_world.proofs.Booked.{entry_within, one_booked}
use Rattle.world_pipes.specs.declared.mouths.Mouths.{Mouths}
use Rattle.mail_world.specs.Children.{child_place, HasLeft}
use Rattle.mail_world.specs.History.{finished}
use Rattle.mail_world.proofs.Leaving.{leaves}
use Rattle.mail_world.proofs.Lists.{written_back}
use Rattle.mail_world.proofs.Living.{living_less, living_some, room_less, left_many, left_living}
use Rattle.mail_world.proofs.Steps.{is_seated, left_booked, left_piped}
use Rattle.mail_world.specs.Books.{entries_of}
use Rattle.mail_world.specs.History.Life.{Stopped}
use Rattle.mail_world.proofs.Acts.{stop_finishes}
use Rattle.mail_world.proofs.Piped.{finish_piped}
use Rattle.world_events.specs.declared.event.Event.{Event as Kept}
use Rattle.mail_world.specs.Generations.{starts_of}
use Rattle.mail_world.specs.Starts.{AreStarts}
use Rattle.mail_world.proofs.Starting.{still_starts}
use Rattle.mail_world.proofs.Stepping.{acting_at, child_within, keeps, no_end_yet}
use Rattle.mail_world.proofs.Worlds.{stopped_keeps, stopped_leads_on, in_range, may_end}
use Rattle.mail_world.proofs.Refusals.{not_gone, gone_exactly, ok_other}
use Rattle.mail_world.proofs.world.World.stop.Goals as goal
use Rattle.mail_world.proofs.world.World.stop.Goals.{After-child_at-child, After-leave}

pub living-requires : goal.living-requires
living-requires g c =
    let i = c.self.inside in
    λ k place. subst (λ (l : List Held). k < length l) (sym c.deref.ensures.value)
    (in_range (g.D.CallFs.disk i.disk) (among_all i.crew (place_of i.places)) i.actors.items (known i.history.events.items) i.history.events.items i.present i.next_pid (counted i.bounces i.deliveries) c.args.actor.now c.self.invariant.world k place)

pub returns-in_err-place-clause-gone : goal.returns-in_err-place-clause-gone
returns-in_err-place-clause-gone g c =
    let i = c.self.inside in
    let p = err_from_is_err_and c.from_residual.result c.from_residual.ensures.1 in
    let why = c.in_err-place.field-0.0 in
    let none : IsNoLiving (among_all i.crew (place_of i.places)) i.actors.items c.args.actor.now why =
    subst (λ (l : List Held). IsNoLiving (among_all i.crew (place_of i.places)) l c.args.actor.now why) c.deref.ensures.value c.in_err-place.ensures.err in
    rw (p.1, p.2, ← c.self.view_is) (gone_exactly (among_all i.crew (place_of i.places)) i.actors.items (known i.history.events.items) i.history.events.items i.present c.args.actor.now why c.self.invariant.world.kept none)

pub index_mut-stopped-requires : goal.index_mut-stopped-requires
index_mut-stopped-requires g c =
    let i = c.self.inside in
    let within = in_range (g.D.CallFs.disk i.disk) (among_all i.crew (place_of i.places)) i.actors.items (known i.history.events.items) i.history.events.items i.present i.next_pid (counted i.bounces i.deliveries) c.args.actor.now c.self.invariant.world c.in_ok-place.place c.in_ok-place.ensures.ok.0 in
    omega (arith, i.actors.ok.0)

pub stop-requires-clause-opens : goal.stop-requires-clause-opens
stop-requires-clause-opens g c =
    let i = c.self.inside in
    let at = acting_at c.self.invariant c.args.actor.now c.deref.ensures.value c.in_ok-place.ensures.ok c.index_mut-stopped.ensures.value in
    may_end (g.D.CallFs.disk i.disk) (among_all i.crew (place_of i.places)) i.actors.items (known i.history.events.items) i.history.events.items i.present i.next_pid (counted i.bounces i.deliveries) c.in_ok-place.place c.index_mut-stopped.result.now c.self.invariant.world at.0

pub stop-requires-clause-room : goal.stop-requires-clause-room
stop-requires-clause-room g c =
    let i = c.self.inside in
    let at = acting_at c.self.invariant c.args.actor.now c.deref.ensures.value c.in_ok-place.ensures.ok c.index_mut-stopped.ensures.value in
    room_less i.history (living i.actors.items) 1 (living_some i.actors.items c.in_ok-place.place c.index_mut-stopped.result.now at.0.is at.0.lives) c.self.invariant.room

pub stop-requires-clause-seat : goal.stop-requires-clause-seat
stop-requires-clause-seat g c =
    let i = c.self.inside in
    let at = acting_at c.self.invariant c.args.actor.now c.deref.ensures.value c.in_ok-place.ensures.ok c.index_mut-stopped.ensures.value in
    is_seated (g.D.CallFs.disk i.disk) i.crew (place_of i.places) i.actors.items i.mouths.items i.books.entries.items i.history.events.items i.present i.next_pid (counted i.bounces i.deliveries) c.in_ok-place.place c.index_mut-stopped.result.now
    (keeps c.self.invariant) at.0.is at.0.lives

pub note-requires : goal.note-requires
note-requires g c =
    let i = c.self.inside in
    let at = acting_at c.self.invariant c.args.actor.now c.deref.ensures.value c.in_ok-place.ensures.ok c.index_mut-stopped.ensures.value in
    λ k own. entry_within i.crew i.books.entries.items i.actors.items i.history.events.items c.in_ok-place.place k c.index_mut-stopped.result.now c.self.invariant.booked at.0.is own

-- the place of its child, if there is one
placed : (g : _) (c : After-child_at-child g) → c.child_at-child.result ≡ child_place c.self.inside.mouths.items c.index_mut-stopped.result.now.wire 0 c.self.inside.crew (place_of c.self.inside.places)
placed g c =
    let i = c.self.inside in
    subst (λ (l : List Mouths). c.child_at-child.result ≡ child_place l c.index_mut-stopped.result.now.wire 0 i.crew (place_of i.places)) c.deref-2.ensures.value c.child_at-child.ensures

pub child_at-child-requires : goal.child_at-child-requires
child_at-child-requires g c =
    let i = c.self.inside in
    subst (λ (l : List Mouths). (k : ℕ) → child_place l c.index_mut-stopped.result.now.wire 0 i.crew (place_of i.places) ≡ Some k → k < 2 ^ 64) (sym c.deref-2.ensures.value)
    (λ k found. let low = child_within c.self.invariant c.args.actor.now c.deref.ensures.value c.in_ok-place.ensures.ok c.index_mut-stopped.ensures.value k found in omega (arith, low, i.actors.ok.0))

-- the actors before and after that child is given no input any more
stood : (g : _) (c : After-leave g) → HasLeft c.child_at-child.result (set c.self.inside.actors.items c.in_ok-place.place c.stop.new.self) c.leave.new.actors
stood g c =
    subst (λ (l : List Held). HasLeft c.child_at-child.result l c.leave.new.actors) c.deref_mut.ensures.value c.leave.ensures

pub leave-requires : goal.leave-requires
leave-requires g c =
    let same = placed g (goal.at.leave-requires g c).After-child_at-child in
    λ k found.
    let low = child_within c.self.invariant c.args.actor.now c.deref.ensures.value c.in_ok-place.ensures.ok c.index_mut-stopped.ensures.value k (sym same ∙ found) in
    subst (λ (l : List Held). k < length l) (sym c.deref_mut.ensures.value) (subst (λ (n : ℕ). k < n) (sym (length-set c.self.inside.actors.items c.in_ok-place.place c.stop.new.self)) low)

pub invariant_of-self : goal.invariant_of-self
invariant_of-self g c =
    let i = c.self.inside in
    let place = c.in_ok-place.place in
    let x = c.index_mut-stopped.result.now in
    let y = c.stop.new.self in
    let stands = set i.actors.items place y in
    let events = i.history.events.items in
    let later = c.stop.new.history.events.items in
    let at = acting_at c.self.invariant c.args.actor.now c.deref.ensures.value c.in_ok-place.ensures.ok c.index_mut-stopped.ensures.value in
    let left = stood g (goal.at.invariant_of-self g c).After-leave in
    let over = c.stop.ensures.stopped in
    let fewer = living_less i.actors.items place x y (length events) at.0.is at.0.lives over.ended in
    let still = left_living c.child_at-child.result stands c.leave.new.actors left in
    let many = left_many c.child_at-child.result stands c.leave.new.actors left in
    let items = written_back i.actors.len stands c.leave.new.actors many (i.actors.ok.0 ∙ sym (length-set i.actors.items place y)) in
    let m = at.0.member in
    let t = finished (known events) x.name Stopped (Some m.actor) in
    let leave = leaves i.crew (place_of i.places) i.mouths.items i.actors.items c.leave.new.actors (known events) events i.present x y x.wire Stopped m.actor c.self.invariant.world.kept c.self.invariant.piped
    (c.self.invariant.piped.places place x at.0.is at.0.lives) place c.child_at-child.result at.0.is (placed g (goal.at.invariant_of-self g c).After-child_at-child) left in
    let room = c.self.invariant.room in record {
      world = rw (items) (stopped_keeps (g.D.CallFs.disk i.disk) (g.D.CallFs.disk c.stop.new.disk) (among_all i.crew (place_of i.places)) i.actors.items c.leave.new.actors i.mouths.items c.stop.new.mouths.items events later
          i.present i.next_pid (counted i.bounces i.deliveries) place x y c.self.invariant.world at.0 over leave);
      room = rw (items) (c.stop.ensures.room (living c.leave.new.actors) (omega (arith, fewer, still, room)));
      booked = rw (items) (left_booked i.crew i.actors.items c.leave.new.actors (known events) t later place x y c.note.new.books.entries.items leave
          (one_booked (among_all i.crew (place_of i.places)) i.crew i.actors.items events later place
          x y i.books.entries.items c.note.new.books.entries.items (kept.Stop x.name) c.newest.result.now c.self.invariant.world.kept.placed c.self.invariant.booked at.0.is over.name over.stays.entry refl over.event c.newest.ensures
          (λ none. ap entries_of (c.note.ensures.none none)) c.note.ensures.own));
      piped = rw (items) (left_piped i.crew c.stop.new.mouths.items i.actors.items c.leave.new.actors (known events) t (known later) later place x y leave
          (finish_piped i.crew (among_all i.crew (place_of i.places)) (g.D.CallFs.disk i.disk) (g.D.CallFs.disk c.stop.new.disk) i.mouths.items c.stop.new.mouths.items i.actors.items events later i.present place x y
          (kept.Stop x.name) Stopped None c.self.invariant.world.kept c.self.invariant.piped at.0.is at.0.lives m (stop_finishes x.name) tt (λ parent b z there mail other awaits. tt) over));
      started = subst (λ (l : List Kept). AreStarts i.starts i.crew (place_of i.places) (starts_of (reverse l))) (sym over.event)
          (still_starts i.starts i.crew (place_of i.places) events (kept.Stop x.name) refl c.self.invariant.started);
    }

pub returns-clause-event : goal.returns-clause-event
returns-clause-event g c =
    let i = c.self.inside in
    let at = acting_at c.self.invariant c.args.actor.now c.deref.ensures.value c.in_ok-place.ensures.ok c.index_mut-stopped.ensures.value in
    rw (← c.self.view_is) (c.stop.ensures.stopped.event ∙ ap (λ (a : List ℕ). i.history.events.items ++ kept.Stop a ∷ []) at.1, refl)

pub returns-clause-goes_on : goal.returns-clause-goes_on
returns-clause-goes_on g c =
    let i = c.self.inside in
    let at = acting_at c.self.invariant c.args.actor.now c.deref.ensures.value c.in_ok-place.ensures.ok c.index_mut-stopped.ensures.value in
    let old = g.D.CallFs.disk i.disk in
    let new = g.D.CallFs.disk c.stop.new.disk in
    let before = i.history.events.items in
    let now_kept = c.stop.new.history.events.items in
    rw (← c.self.view_is) (goes_on old new before now_kept i.present i.present
    (stopped_leads_on old new (among_all i.crew (place_of i.places)) i.actors.items i.mouths.items c.stop.new.mouths.items before now_kept i.present i.next_pid (counted i.bounces i.deliveries)
    c.in_ok-place.place c.index_mut-stopped.result.now c.stop.new.self c.self.invariant.world at.0 c.stop.ensures.stopped))

pub returns-clause-gone : goal.returns-clause-gone
returns-clause-gone g c =
    rw (← c.self.view_is) (not_gone (Ok tt) c.self.inside.history.events.items c.args.actor.now (ok_other tt) (no_end_yet c.self.invariant c.args.actor.now c.deref.ensures.value c.in_ok-place.ensures.ok))
