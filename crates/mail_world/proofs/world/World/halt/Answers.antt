use Rattle.std.proofs.Common.{◌≡◌, ◌+◌, List, [], ◌∷◌, ◌++◌, length, ℕ, refl, ap, ◌∙◌, subst, arith}
use Rattle.mail_bytes.specs.Told.{Meets}
use Rattle.call_fs.specs.Choices.{Halts}
use Rattle.mail_world.specs.declared.actor.Actor.{Actor as Held}
use Rattle.world_events.specs.declared.event.Event.{Event as Kept}
use Rattle.world_events.specs.declared.event.Event.TheVariants as kept
use Rattle.mail_world.specs.Places.{place_of}
use Rattle.mail_world.specs.World.{counted}
use Rattle.mail_world.specs.Inside.{among_all, known, living}
use Rattle.mail_world.specs.Acting.{AreCutOff}
use Rattle.mail_world.proofs.Histories.{halt_goes_with}
use Rattle.mail_world.proofs.Lists.{written_back}
use Rattle.mail_world.proofs.Living.{living_within, room_less}
use Rattle.mail_world.proofs.Booked.{halt_booked}
use Rattle.mail_world.proofs.Piped.{halt_piped}
use Rattle.mail_world.proofs.Starting.{still_starts}
use Rattle.mail_world.proofs.Worlds.{halt_keeps, all_over}
use Rattle.mail_world.proofs.world.World.halt.Goals as goal
use Rattle.mail_world.proofs.world.World.halt.Goals.{After-cut_off_all}

pub invariant_of-self : goal.invariant_of-self
invariant_of-self g c = record {
  world = rw (c.in_err-reserve.ensures.same) c.self.invariant.world;
  room = c.in_err-reserve.ensures.stays (living c.self.inside.actors.items) c.self.invariant.room;
  booked = rw (c.in_err-reserve.ensures.same) c.self.invariant.booked;
  piped = rw (c.in_err-reserve.ensures.same) c.self.invariant.piped;
  started = rw (c.in_err-reserve.ensures.same) c.self.invariant.started;
}

-- the event that was put
halted : (g : _) (c : After-cut_off_all g) → c.put.new.self.events.items ≡ c.self.inside.history.events.items ++ kept.Halt c.args.how ∷ []
halted g c = c.put.ensures.event ∙ ap (λ (l : List Kept). l ++ kept.Halt c.args.how ∷ []) c.in_ok-reserve.ensures.same

-- all actors are over with it
cut : (g : _) (c : After-cut_off_all g) → AreCutOff (length c.self.inside.history.events.items) c.self.inside.actors.items c.cut_off_all.new.actors
cut g c =
    let at : c.len-at.result ≡ length c.self.inside.history.events.items = c.len-at.ensures ∙ ap (λ (l : List Kept). length l) c.in_ok-reserve.ensures.same in
    subst (λ (n : ℕ). AreCutOff n c.self.inside.actors.items c.cut_off_all.new.actors) at
    (subst (λ (l : List Held). AreCutOff c.len-at.result l c.cut_off_all.new.actors) c.deref_mut.ensures.value c.cut_off_all.ensures)

-- what the disk did
stopped : (g : _) (c : After-cut_off_all g) → Meets (g.D.CallFs.disk c.self.inside.disk) (g.D.CallFs.disk c.halt.new.self) (λ before after. Halts c.args.how before after)
stopped g c = c.in_ok-halt.ensures.ok

pub invariant_of-self-2 : goal.invariant_of-self-2
invariant_of-self-2 g c =
    let i = c.self.inside in
    let at = (goal.at.invariant_of-self-2 g c).After-cut_off_all in
    let over = cut g at in
    let items = written_back i.actors.len i.actors.items c.cut_off_all.new.actors over.many i.actors.ok.0 in
    let len : c.len.result ≡ length i.actors.items = c.len.ensures ∙ i.actors.ok.0 in
    let many = over.many in
    let bound = living_within c.cut_off_all.new.actors in record {
      world = rw (items, halted g at) (halt_keeps (g.D.CallFs.disk i.disk) (g.D.CallFs.disk c.halt.new.self) (among_all i.crew (place_of i.places)) i.actors.items c.cut_off_all.new.actors i.history.events.items i.present i.next_pid (counted i.bounces i.deliveries) c.args.how
          c.self.invariant.world over (stopped g at));
      room = rw (items) (c.put.ensures.room (living c.cut_off_all.new.actors) (room_less c.reserve.new.self (c.len.result + 1) (living c.cut_off_all.new.actors + 1)
          (omega (arith, len, bound, many)) c.in_ok-reserve.ensures.room));
      booked = rw (items, halted g at, c.cut_off.ensures) (halt_booked i.crew (length i.history.events.items) i.actors.items c.cut_off_all.new.actors i.history.events.items c.args.how i.books.entries.items c.self.invariant.booked over);
      piped = rw (items, halted g at, c.clear.ensures.items) (halt_piped i.crew i.mouths.items i.actors.items c.cut_off_all.new.actors i.history.events.items c.args.how c.self.invariant.piped over);
      started = rw (halted g at) (still_starts i.starts i.crew (place_of i.places) i.history.events.items (kept.Halt c.args.how) refl c.self.invariant.started);
    }

pub returns-clause-goes_on : goal.returns-clause-goes_on
returns-clause-goes_on g c =
    let i = c.self.inside in
    let at = (goal.at.returns-clause-goes_on g c).After-cut_off_all in
    rw (← c.self.view_is, halted g at) (halt_goes_with (g.D.CallFs.disk i.disk) (g.D.CallFs.disk c.halt.new.self) i.history.events.items i.present c.args.how (stopped g at))

pub returns-clause-over : goal.returns-clause-over
returns-clause-over g c =
    let i = c.self.inside in
    let at = (goal.at.returns-clause-over g c).After-cut_off_all in
    rw (← c.self.view_is, halted g at) (λ a was. all_over (among_all i.crew (place_of i.places)) i.actors.items (known i.history.events.items) i.history.events.items i.present c.args.how a c.self.invariant.world.kept was)
