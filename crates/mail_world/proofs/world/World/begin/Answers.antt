use Rattle.std.proofs.Common.{◌≡◌, ℕ, ◌+◌, ◌-◌, List, [], ◌∷◌, ◌++◌, length, reverse, false, is_some, Option, Some, None, refl, sym, ap, ◌∙◌, subst, arith}
use Rattle.std.proofs.Math.Path.{fun_ext}
use Rattle.std.proofs.lemmas.List.{length-append}
use Rattle.mail_world.specs.Generations.{starts_of}
use Rattle.mail_world.specs.Starts.{AreStarts}
use Rattle.call_fs.specs.Maps.{put_at}
use Rattle.mail_world.specs.declared.any_machine.AnyMachine.{AnyMachine}
use Rattle.world_events.specs.declared.event.Event.{Event as Kept}
use Rattle.world_events.specs.declared.event.Event.TheVariants as kept
use Rattle.world_events.specs.declared.event.Program.TheVariants.{Injector}
use Rattle.mail_world.specs.Books.{new_entry}
use Rattle.mail_world.specs.Places.{place_of}
use Rattle.world_events.specs.declared.books.Entry.{Entry}
use Rattle.fed_injector.specs.declared.machine.FedInjector.{FedInjector}
use Rattle.fed_injector.specs.Inputs.{FedStands, awaits as is_awaited}
use Rattle.queue_inject.specs.declared.injection.Arguments.{Arguments}
use Rattle.queue_inject.specs.declared.injection.InputEnd.TheVariants.{Unread}
use Rattle.received_line.specs.declared.line.Invoked.TheVariants.{Uid}
use Rattle.world_events.specs.Books.{entry_by}
use Rattle.world_events.specs.Children.{entry_after}
use Rattle.world_events.specs.declared.event.Program.{Program}
use Rattle.mail_world.specs.ByKind.{Follows, awaits_of, injection_of}
use Rattle.mail_world.specs.Readiness.{is_awaiting}
use Rattle.mail_world.specs.World.{mail, Seen, was_started, counted}
use Rattle.mail_world.specs.Inside.{IsWorld, among_all, known, living}
use Rattle.mail_world.proofs.Histories.{goes_on}
use Rattle.mail_world.proofs.Borne.{stranger_awaits}
use Rattle.mail_world.proofs.Members.{mail_is_none}
use Rattle.mail_world.proofs.Living.{living_push, room_less}
use Rattle.mail_world.proofs.Booked.{start_booked}
use Rattle.mail_world.proofs.Noted.{put_among}
use Rattle.mail_world.proofs.Piped.{start_piped}
use Rattle.mail_world.proofs.Placing.{so_many}
use Rattle.mail_world.proofs.Seats.{seat_none}
use Rattle.world_events.proofs.Starting.{same_starts, mail_starts}
use Rattle.mail_world.proofs.Starting.{starts_push}
use Rattle.mail_world.proofs.Worlds.{start_keeps, start_leads_on}
use Rattle.mail_world.proofs.world.World.begin.Goals as goal
use Rattle.mail_world.proofs.world.World.begin.Goals.{After-saturating_add-self-inside}

none_is : (o : Option ℕ) → is_some o ≡ false → o ≡ None
none_is None h = refl
none_is (Some i) h = absurd cc

-- no actor of the name stands anywhere
new_name : (g : _) (c : After-saturating_add-self-inside g) → among_all c.self.inside.crew (place_of c.self.inside.places) c.args.name.now ≡ None
new_name g c =
    let i = c.self.inside in
    none_is (among_all i.crew (place_of i.places) c.args.name.now) (sym (c.self.invariant.world.kept.started c.args.name.now) ∙ ap (λ (w : Seen _). was_started w.events c.args.name.now) c.self.view_is ∙ c.requires.new)

-- the event that was put
started : (g : _) (c : After-saturating_add-self-inside g) →
    c.put.new.self.events.items ≡ c.self.inside.history.events.items ++ kept.Start c.args.name.now (Injector (mail c.self.inside.next_pid c.self.inside.present c.args.message.now c.args.envelope.now)) ∷ []
started g c =
    let copied = c.copy-2.ensures in
    let program = c.in_ok-program.ensures in
    let told : Kept = kept.Start c.copy-2.result c.in_ok-program.program in
    let same : told ≡ kept.Start c.args.name.now (Injector (mail c.self.inside.next_pid c.self.inside.present c.args.message.now c.args.envelope.now)) = cc in
    c.put.ensures.event ∙ ap (λ (l : List Kept). l ++ told ∷ []) c.in_ok-reserve.ensures.same ∙ ap (λ (k : Kept). c.self.inside.history.events.items ++ k ∷ []) same

-- an injector before it is fed
abbrev unfed : ℕ → ℕ → Arguments
unfed pid start = record { uid = 1000; pid = pid; invoked = Uid 1000; start = start; message = []; message_end = Unread; envelope = []; envelope_end = Unread }

pub invariant_of-self : goal.invariant_of-self
invariant_of-self g c = record {
  world = rw (c.in_err-reserve.ensures.same) c.self.invariant.world;
  room = c.in_err-reserve.ensures.stays (living c.self.inside.actors.items) c.self.invariant.room;
  booked = rw (c.in_err-reserve.ensures.same) c.self.invariant.booked;
  piped = rw (c.in_err-reserve.ensures.same) c.self.invariant.piped;
  started = rw (c.in_err-reserve.ensures.same) c.self.invariant.started;
}

pub invariant_of-self-in_err-reserve-2 : goal.invariant_of-self-in_err-reserve-2
invariant_of-self-in_err-reserve-2 g c =
    let items = c.in_err-reserve-2.ensures.items in record {
      world = rw (items, c.in_ok-reserve.ensures.same) c.self.invariant.world;
      room = rw (items) (c.in_ok-reserve.ensures.stays (living c.self.inside.actors.items) c.self.invariant.room);
      booked = rw (items, c.in_ok-reserve.ensures.same) c.self.invariant.booked;
      piped = rw (items, c.in_ok-reserve.ensures.same) c.self.invariant.piped;
      started = rw (c.in_ok-reserve.ensures.same) c.self.invariant.started;
    }

pub invariant_of-self-in_err-make_room : goal.invariant_of-self-in_err-make_room
invariant_of-self-in_err-make_room g c =
    let items = c.in_ok-reserve-2.ensures.items in record {
      world = rw (items, c.in_ok-reserve.ensures.same) c.self.invariant.world;
      room = rw (items) (c.in_ok-reserve.ensures.stays (living c.self.inside.actors.items) c.self.invariant.room);
      booked = rw (items, c.in_ok-reserve.ensures.same, c.in_err-make_room.ensures.same) c.self.invariant.booked;
      piped = rw (items, c.in_ok-reserve.ensures.same) c.self.invariant.piped;
      started = rw (c.in_ok-reserve.ensures.same) c.self.invariant.started;
    }

pub invariant_of-self-in_err-make_room-2 : goal.invariant_of-self-in_err-make_room-2
invariant_of-self-in_err-make_room-2 g c =
    let i = c.self.inside in
    let items = c.in_ok-reserve-2.ensures.items in record {
      world = rw (items, c.in_ok-reserve.ensures.same) c.self.invariant.world;
      room = rw (items) (c.in_ok-reserve.ensures.stays (living i.actors.items) c.self.invariant.room);
      booked = rw (items, c.in_ok-reserve.ensures.same, c.in_ok-make_room.ensures.same) c.self.invariant.booked;
      piped = rw (items, c.in_ok-reserve.ensures.same) c.self.invariant.piped;
      started = rw (c.in_ok-reserve.ensures.same) (same_starts i.starts c.make_room-2.new.self i.crew (place_of i.places) (starts_of (reverse i.history.events.items)) c.in_err-make_room-2.ensures.same c.self.invariant.started);
    }

pub invariant_of-self-in_err-program : goal.invariant_of-self-in_err-program
invariant_of-self-in_err-program g c =
    let i = c.self.inside in
    let items = c.in_ok-reserve-2.ensures.items in record {
      world = rw (items, c.in_ok-reserve.ensures.same) c.self.invariant.world;
      room = rw (items) (c.in_ok-reserve.ensures.stays (living i.actors.items) c.self.invariant.room);
      booked = rw (items, c.in_ok-reserve.ensures.same, c.in_ok-make_room.ensures.same) c.self.invariant.booked;
      piped = rw (items, c.in_ok-reserve.ensures.same) c.self.invariant.piped;
      started = rw (c.in_ok-reserve.ensures.same) (same_starts i.starts c.make_room-2.new.self i.crew (place_of i.places) (starts_of (reverse i.history.events.items)) c.in_ok-make_room-2.ensures.same c.self.invariant.started);
    }

pub invariant_of-self-in_err-injector : goal.invariant_of-self-in_err-injector
invariant_of-self-in_err-injector g c =
    let i = c.self.inside in
    let items = c.in_ok-reserve-2.ensures.items in record {
      world = rw (items, c.in_ok-reserve.ensures.same) c.self.invariant.world;
      room = rw (items) (c.in_ok-reserve.ensures.stays (living i.actors.items) c.self.invariant.room);
      booked = rw (items, c.in_ok-reserve.ensures.same, c.in_ok-make_room.ensures.same) c.self.invariant.booked;
      piped = rw (items, c.in_ok-reserve.ensures.same) c.self.invariant.piped;
      started = rw (c.in_ok-reserve.ensures.same) (same_starts i.starts c.make_room-2.new.self i.crew (place_of i.places) (starts_of (reverse i.history.events.items)) c.in_ok-make_room-2.ensures.same c.self.invariant.started);
    }

pub invariant_of-self-in_err-injector-2 : goal.invariant_of-self-in_err-injector-2
invariant_of-self-in_err-injector-2 g c =
    let i = c.self.inside in
    let items = c.in_ok-reserve-2.ensures.items in record {
      world = rw (items, c.in_ok-reserve.ensures.same) c.self.invariant.world;
      room = rw (items) (c.in_ok-reserve.ensures.stays (living i.actors.items) c.self.invariant.room);
      booked = rw (items, c.in_ok-reserve.ensures.same, c.in_ok-make_room.ensures.same) c.self.invariant.booked;
      piped = rw (items, c.in_ok-reserve.ensures.same) c.self.invariant.piped;
      started = rw (c.in_ok-reserve.ensures.same) (same_starts i.starts c.make_room-2.new.self i.crew (place_of i.places) (starts_of (reverse i.history.events.items)) c.in_ok-make_room-2.ensures.same c.self.invariant.started);
    }

pub invariant_of-self-in_err-add : goal.invariant_of-self-in_err-add
invariant_of-self-in_err-add g c =
    let i = c.self.inside in
    let items = c.in_ok-reserve-2.ensures.items in
    let places : ◌≡◌ {A = List ℕ → Option ℕ} (place_of i.places) (place_of c.add.new.self) = fun_ext (λ q. sym (c.in_err-add.ensures.err q)) in record {
      world = rw (items, c.in_ok-reserve.ensures.same) (subst (λ (f : List ℕ → Option ℕ). IsWorld (g.D.CallFs.disk i.disk) (among_all i.crew f) i.actors.items (known i.history.events.items) i.history.events.items i.present i.next_pid (counted i.bounces i.deliveries)) places c.self.invariant.world);
      room = rw (items) (c.in_ok-reserve.ensures.stays (living i.actors.items) c.self.invariant.room);
      booked = rw (items, c.in_ok-reserve.ensures.same, c.in_ok-make_room.ensures.same) c.self.invariant.booked;
      piped = rw (items, c.in_ok-reserve.ensures.same) c.self.invariant.piped;
      started = rw (c.in_ok-reserve.ensures.same) (subst (λ (f : List ℕ → Option ℕ). AreStarts c.make_room-2.new.self i.crew f (starts_of (reverse i.history.events.items))) places
          (same_starts i.starts c.make_room-2.new.self i.crew (place_of i.places) (starts_of (reverse i.history.events.items)) c.in_ok-make_room-2.ensures.same c.self.invariant.started));
    }

pub invariant_of-self-2 : goal.invariant_of-self-2
invariant_of-self-2 g c =
    let i = c.self.inside in
    let a = c.args.name.now in
    let all = among_all i.crew (place_of i.places) in
    let other = mail_is_none a c.requires.named in
    let args = mail i.next_pid i.present c.args.message.now c.args.envelope.now in
    let at = (goal.at.invariant_of-self-2 g c).After-saturating_add-self-inside in
    let new = new_name g at in
    let held = c.in_ok-reserve-2.ensures.items in
    let pushed = rw c.unwrap.ensures at c.push.ensures.items in
    let actors : c.push.new.self.items ≡ i.actors.items ++ c.new-actor.result ∷ [] = cc in
    let event = started g at in
    let name : c.new-actor.result.name ≡ a = c.new-actor.ensures.name ∙ c.copy.ensures in
    let many : c.len-2.result ≡ length i.actors.items = c.len-2.ensures ∙ c.reserve-2.new.self.ok.0 ∙ ap length held in
    let within = c.self.invariant.piped.many in
    let put : (b : List ℕ) → place_of c.add.new.self b ≡ put_at (place_of i.places) a (Some (length i.actors.items - i.crew)) b =
    λ b. c.in_ok-add.ensures.ok b ∙ ap (λ (n : List ℕ). put_at (place_of i.places) n (Some (c.len-2.result - i.crew)) b) c.as_slice.ensures ∙ ap (λ (n : ℕ). put_at (place_of i.places) a (Some (n - i.crew)) b) many in
    let placed = put_among i.crew (length i.actors.items) (place_of i.places) (place_of c.add.new.self) a (seat_none a other) within put in
    let len : c.len.result ≡ length i.actors.items = c.len.ensures ∙ i.actors.ok.0 in
    let grown : length c.push.new.self.items ≡ length i.actors.items + 1 = ap length actors ∙ length-append i.actors.items (c.new-actor.result ∷ []) in
    let total : c.len-3.result ≡ length c.push.new.self.items = c.len-3.ensures ∙ c.push.new.self.ok.0 in
    let last : c.len-3.result - i.crew - 1 + 4 ≡ length i.actors.items - i.crew + 4 = omega (arith, grown, total, within) in
    let bound = living_push i.actors.items c.new-actor.result in
    let program : c.get.result.now ≡ Injector args = c.get.ensures ∙ c.in_ok-program.ensures in
    let numbered : c.new-actor.result.entry ≡ Some (length i.books.entries.items) =
    c.new-actor.ensures.entry ∙ c.enter-entry.ensures.place ∙ ap (entry_after (length c.make_room.new.self.entries.items)) program
    ∙ ap Some (ap (λ (l : List Entry). length l) c.in_ok-make_room.ensures.same) in
    let entry : c.enter-entry.new.self.entries.items ≡ i.books.entries.items ++ new_entry a args ∷ [] =
    c.enter-entry.ensures.entered ∙ ap (λ (l : List Entry). l ++ entry_by a (injection_of c.get.result.now)) c.in_ok-make_room.ensures.same
    ∙ ap (λ (p : Program). i.books.entries.items ++ entry_by a (injection_of p)) program in
    let fed : FedStands c.in_ok-injector.injector args [] = c.in_ok-injector.ensures.stands (unfed i.next_pid i.present) (record { uid_is = refl; pid_is = refl; invoked_is = refl; start_is = refl })
    (record { message_is = refl; message_end = refl; envelope_is = refl; envelope_end = refl }) in
    let stands : FedStands c.in_ok-injector-2.injector args [] = subst (λ (x : FedInjector). FedStands x args []) (sym c.in_ok-injector-2.ensures) fed in
    let machine = subst (λ (m : AnyMachine). Follows m (Injector args) []) (sym c.new-actor.ensures.machine) stands in
    let stranger = c.self.invariant.world.kept.strangers a new in
    let awaits : awaits_of c.new-actor.result.machine ≡ is_awaiting (known i.history.events.items) a =
    ap awaits_of c.new-actor.ensures.machine ∙ ap is_awaited c.in_ok-injector-2.ensures ∙ c.in_ok-injector.ensures.given
    ∙ sym (stranger_awaits i.crew i.mouths.items i.actors.items (known i.history.events.items) i.history.events.items a c.self.invariant.piped stranger.unknown) in record {
      world = rw (actors, event) (start_keeps (g.D.CallFs.disk i.disk) all (among_all i.crew (place_of c.add.new.self)) i.actors.items i.history.events.items i.present i.next_pid c.saturating_add-self-inside.result (counted i.bounces i.deliveries)
          c.new-actor.result a (Injector args) tt other c.requires.named c.self.invariant.world new placed name c.new-actor.ensures.ended c.new-actor.ensures.status c.new-actor.ensures.owed c.new-actor.ensures.descriptors machine awaits refl c.saturating_add-self-inside.ensures);
      room = rw (actors) (c.put.ensures.room (living (i.actors.items ++ c.new-actor.result ∷ [])) (room_less c.reserve.new.self (c.len.result + 2) (living (i.actors.items ++ c.new-actor.result ∷ []) + 1)
          (omega (arith, len, bound)) c.in_ok-reserve.ensures.room));
      booked = rw (actors, event, entry) (start_booked i.crew i.actors.items i.history.events.items c.new-actor.result a args i.books.entries.items within c.self.invariant.booked name numbered);
      piped = rw (actors, event) (start_piped i.crew i.mouths.items i.actors.items i.history.events.items c.new-actor.result a (Injector args) other stranger.unknown tt name c.new-actor.ensures.wire c.new-actor.ensures.slot c.self.invariant.piped);
      started = rw (event) (subst (AreStarts c.add_other.new.self i.crew (place_of c.add.new.self)) (sym (starts_push i.history.events.items (kept.Start a (Injector args))))
          (mail_starts c.make_room-2.new.self c.add_other.new.self i.crew (length i.actors.items) (place_of i.places) (place_of c.add.new.self) (starts_of (reverse i.history.events.items)) a within
          (c.add_other.ensures.order ∙ ap (λ (n : ℕ). c.make_room-2.new.self.order.items ++ n ∷ []) last) c.add_other.ensures.newest new placed
          (same_starts i.starts c.make_room-2.new.self i.crew (place_of i.places) (starts_of (reverse i.history.events.items)) c.in_ok-make_room-2.ensures.same c.self.invariant.started)
          other put (so_many i.starts i.crew (place_of i.places) (starts_of (reverse i.history.events.items)) i.actors.items (known i.history.events.items) i.history.events.items i.present c.self.invariant.started c.self.invariant.world.kept within)));
    }

pub returns-clause-goes_on : goal.returns-clause-goes_on
returns-clause-goes_on g c =
    let i = c.self.inside in
    let told = g.D.CallFs.disk i.disk in
    let events = i.history.events.items in
    let args = mail i.next_pid i.present c.args.message.now c.args.envelope.now in
    let at = (goal.at.returns-clause-goes_on g c).After-saturating_add-self-inside in
    rw (← c.self.view_is, started g at) (goes_on told told events (events ++ kept.Start c.args.name.now (Injector args) ∷ []) i.present i.present
    (start_leads_on told (among_all i.crew (place_of i.places)) i.actors.items events i.present i.next_pid (counted i.bounces i.deliveries) c.args.name.now (Injector args) tt c.self.invariant.world (new_name g at)))
