use Rattle.std.proofs.Common.{◌≡◌, ℕ, ◌+◌, ◌<◌, List, [], ◌∷◌, ◌++◌, Some, length, get_or, refl, sym, ap, ◌∙◌, subst, arith}
use Rattle.std.specs.List.{slice_get}
use Rattle.std.proofs.lemmas.Option.{slice_get_read}
use Rattle.world_events.specs.declared.event.Event.{Event as Kept}
use Rattle.world_events.specs.declared.event.Event.TheVariants as kept
use Rattle.mail_world.specs.History.{MayReport}
use Rattle.mail_world.specs.Books.{entries_of}
use Rattle.mail_world.specs.Places.{place_of}
use Rattle.mail_world.specs.World.{Seen, counted}
use Rattle.mail_world.specs.Inside.{among_all, known, living}
use Rattle.mail_world.proofs.Booked.{report_booked}
use Rattle.mail_world.proofs.Feeds.{as_before}
use Rattle.mail_world.proofs.Histories.{report_told, goes_on}
use Rattle.mail_world.proofs.Living.{living_within, room_less}
use Rattle.mail_world.proofs.Reported.{report_low, report_keeps, report_piped, same_piped}
use Rattle.mail_world.proofs.Starting.{still_starts}
use Rattle.mail_world.proofs.world.World.end_program.Goals as goal
use Rattle.mail_world.proofs.world.World.end_program.Goals.{After-reserve, After-index_mut, After-put}

-- a report may come
may : (g : _) (c : After-reserve g) → MayReport (known c.self.inside.history.events.items) c.args.slot
may g c = subst (λ (w : Seen _). MayReport (known w.events) c.args.slot) (sym c.self.view_is) c.requires

low : (g : _) (c : After-reserve g) → 3 < length c.self.inside.mouths.items
low g c =
    let i = c.self.inside in
    report_low i.crew (place_of i.places) i.mouths.items i.actors.items (known i.history.events.items) i.history.events.items i.present c.args.slot c.self.invariant.world.kept c.self.invariant.piped (may g c)

pub invariant_of-self : goal.invariant_of-self
invariant_of-self g c = record {
  world = rw (c.in_err-reserve.ensures.same) c.self.invariant.world;
  room = c.in_err-reserve.ensures.stays (living c.self.inside.actors.items) c.self.invariant.room;
  booked = rw (c.in_err-reserve.ensures.same) c.self.invariant.booked;
  piped = rw (c.in_err-reserve.ensures.same) c.self.invariant.piped;
  started = rw (c.in_err-reserve.ensures.same) c.self.invariant.started;
}

pub index_mut-requires : goal.index_mut-requires
index_mut-requires g c =
    let at = (goal.at.index_mut-requires g c).After-reserve in
    let within = low g at in
    let here : c.seat-spawner.result ≡ 3 = c.seat-spawner.ensures in
    omega (arith, within, here, c.self.inside.mouths.ok.0)

-- the pipes of the spawner
is : (g : _) (c : After-index_mut g) → 3 < length c.self.inside.mouths.items → slice_get c.self.inside.mouths.items 3 ≡ Some c.index_mut.result.now
is g c low =
    let l = c.self.inside.mouths.items in
    let x = c.index_mut.result.now in
    slice_get_read l (length l) 3 x (omega arith) low (subst (λ (n : ℕ). x ≡ get_or l n x) c.seat-spawner.ensures c.index_mut.ensures.value)

pub put_report-requires : goal.put_report-requires
put_report-requires g c =
    let at = goal.at.put_report-requires g c in
    let slots = c.self.invariant.piped.slots 3 c.index_mut.result.now (is g at.After-index_mut (low g at.After-reserve)) in
    omega (arith, slots, c.ranges.slot)

pub invariant_of-self-in_err-put_report : goal.invariant_of-self-in_err-put_report
invariant_of-self-in_err-put_report g c =
    let i = c.self.inside in
    let at = goal.at.invariant_of-self-in_err-put_report g c in record {
      world = rw (c.in_ok-reserve.ensures.same) c.self.invariant.world;
      room = c.in_ok-reserve.ensures.stays (living i.actors.items) c.self.invariant.room;
      booked = rw (c.in_ok-reserve.ensures.same) c.self.invariant.booked;
      piped = rw (c.seat-spawner.ensures, c.in_ok-reserve.ensures.same) (same_piped i.crew i.mouths.items _ i.actors.items (known i.history.events.items) i.history.events.items c.self.invariant.piped
          (as_before i.mouths.items 3 c.index_mut.result.now c.put_report.new.mouths (is g at.After-index_mut (low g at.After-reserve)) c.in_err-put_report.ensures.err));
      started = rw (c.in_ok-reserve.ensures.same) c.self.invariant.started;
    }

-- the event that was put
came : (g : _) (c : After-put g) → c.put.new.self.events.items ≡ c.self.inside.history.events.items ++ kept.Report c.args.slot c.args.letter c.args.text.now ∷ []
came g c =
    let text = c.in_ok-kept.ensures in
    c.put.ensures.event ∙ ap (λ (l : List Kept). l ++ kept.Report c.args.slot c.args.letter c.in_ok-kept.kept ∷ []) c.in_ok-reserve.ensures.same
    ∙ ap (λ (t : List ℕ). c.self.inside.history.events.items ++ kept.Report c.args.slot c.args.letter t ∷ []) text

pub invariant_of-self-2 : goal.invariant_of-self-2
invariant_of-self-2 g c =
    let i = c.self.inside in
    let told = g.D.CallFs.disk i.disk in
    let events = i.history.events.items in
    let at = goal.at.invariant_of-self-2 g c in
    let len : c.len.result ≡ length i.actors.items = c.len.ensures ∙ i.actors.ok.0 in
    let bound = living_within i.actors.items in
    let leads = report_told told events i.present c.args.slot c.args.letter c.args.text.now c.self.invariant.piped.whole (may g at.After-reserve) in record {
      world = rw (came g at.After-put) (report_keeps told (among_all i.crew (place_of i.places)) i.actors.items events i.present i.next_pid (counted i.bounces i.deliveries) c.args.slot c.args.letter c.args.text.now c.self.invariant.world leads);
      room = c.put.ensures.room (living i.actors.items) (room_less c.reserve.new.self (c.len.result + 1) (living i.actors.items + 1) (omega (arith, len, bound)) c.in_ok-reserve.ensures.room);
      booked = rw (came g at.After-put) (report_booked i.crew i.actors.items events c.args.slot c.args.letter c.args.text.now (entries_of i.books) c.self.invariant.booked);
      piped = rw (c.seat-spawner.ensures, came g at.After-put) (report_piped i.crew i.mouths.items i.actors.items events c.index_mut.result.now c.put_report.new.mouths c.args.slot c.args.letter c.args.text.now c.self.invariant.piped
          (is g at.After-index_mut (low g at.After-reserve)) c.in_ok-put_report.ensures.ok);
      started = rw (came g at.After-put) (still_starts i.starts i.crew (place_of i.places) events (kept.Report c.args.slot c.args.letter c.args.text.now) refl c.self.invariant.started);
    }

pub returns-clause-goes_on : goal.returns-clause-goes_on
returns-clause-goes_on g c =
    let i = c.self.inside in
    let told = g.D.CallFs.disk i.disk in
    let events = i.history.events.items in
    let at = goal.at.returns-clause-goes_on g c in
    rw (← c.self.view_is, came g at.After-put) (goes_on told told events (events ++ kept.Report c.args.slot c.args.letter c.args.text.now ∷ []) i.present i.present
    (report_told told events i.present c.args.slot c.args.letter c.args.text.now c.self.invariant.piped.whole (may g at.After-reserve)))
