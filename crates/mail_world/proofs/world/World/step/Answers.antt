use Rattle.std.proofs.Common.{◌≡◌, ℕ, ◌+◌, ◌-◌, ◌^◌, ◌<◌, min, List, [], ◌∷◌, ◌++◌, length, reverse, set, arith, Bool, true, false, Option, Some, None, Ok, Err, is_some, refl, sym, ap, ◌∙◌, subst}
use Rattle.std.specs.Prelude.{IsNone, IfSome, IfOk, IfErr}
use Rattle.std.proofs.lemmas.List.{length-set}
use Rattle.std.proofs.lemmas.Result.{err_from_is_err_and}
use Rattle.call_fs.specs.declared.past.Own.{Own}
use Rattle.world_events.specs.declared.event.Event.{Event as Kept}
use Rattle.world_events.specs.declared.event.History.{History}
use Rattle.world_events.specs.declared.event.Program.{Program}
use Rattle.world_pipes.specs.declared.mouths.Mouths.{Mouths}
use Rattle.mail_world.specs.declared.actor.Actor.{Actor as Held}
use Rattle.world_events.specs.declared.answers.Did.{Did}
use Rattle.world_events.specs.declared.answers.WorldError.{WorldError}
use Rattle.world_events.specs.declared.answers.WorldError.TheVariants as why
use Rattle.mail_world.specs.Acting.{IsNoLiving, HasActed, HasStepped, HasIdled, HasWaited}
use Rattle.mail_world.specs.Books.{entries_of}
use Rattle.mail_world.specs.ByKind.{Follows}
use Rattle.mail_world.specs.Children.{IsDueOfChild, IsPaid, IsSetting, Serves, child_place, HasLeftIf}
use Rattle.mail_world.specs.Generations.{Waits, has_idled, starts_of}
use Rattle.mail_world.specs.Inside.{among_all, known, StandsFor, Owes}
use Rattle.mail_world.specs.Kept.{HasRoom}
use Rattle.mail_world.specs.Places.{place_of}
use Rattle.mail_world.specs.World.{Seen, IsStep, GoesOn, GoesByPlan, counted}
use Rattle.mail_world.proofs.Booked.{entry_within}
use Rattle.mail_world.proofs.Histories.{goes_on}
use Rattle.mail_world.proofs.Lists.{written_back}
use Rattle.mail_world.proofs.Living.{left_many_if}
use Rattle.mail_world.proofs.Parents.{still_whole, room_after}
use Rattle.world_events.proofs.Placing.{stands_in}
use Rattle.mail_world.proofs.Refusals.{not_gone, gone_exactly, memory_other, ok_other}
use Rattle.mail_world.proofs.Served.{other_error, if_ok, if_err, either_way, waits_or, step_waits, step_planned}
use Rattle.mail_world.proofs.Starting.{acted_starts}
use Rattle.mail_world.proofs.Stepping.{StandsAlone, IsDone, turned_whole, no_end_yet, acting_at, child_within, has_pipes, lives_still, paid_ready, looked_ready, ready_is, ready_can, ready_keeps, looked_keeps, ready_opens, ready_seated, asks_for, asks_none, alone_may, alone_waits, alone_leads, alone_step, alone_acts, alone_idle, alone_keeps}
use Rattle.mail_world.proofs.Steps.{StandsReady, no_living_waits}
use Rattle.mail_world.proofs.Worlds.{in_range}
use Rattle.mail_world.proofs.world.World.step.Goals as goal
use Rattle.mail_world.proofs.world.World.step.Goals.{After-child_at-child, After-ready_at, In-Some, In_default, After-serve-did, In_default-did, In-Some-did}

-- the actor was paid, and finds this ready
paid : (g : _) (c : After-ready_at g) → IsPaid c.index_mut-acting.result.now c.pay.new.self c.self.inside.history.events.items
paid g c =
    let x = c.index_mut-acting.result.now in
    let done = c.in_ok-pay.ensures in record {
      follows = subst (λ (l : List Kept). (program : Program) (past : List Own) → ((at : ℕ) → x.owed ≡ Some at → Owes x l past at) → StandsFor x program past → Follows c.pay.new.self.machine program past)
          c.in_ok-reserve.ensures.same done.follows;
      name = done.name;
      ended = done.ended;
      status = done.status;
      awaits = done.awaits;
      paid = done.paid;
      descriptors = done.descriptors;
      stays = done.stays;
    }

ready : (g : _) (c : After-ready_at g) →
    StandsReady (g.D.CallFs.disk c.self.inside.disk) c.self.inside.crew (place_of c.self.inside.places) c.self.inside.actors.items c.self.inside.mouths.items c.self.inside.books.entries.items c.self.inside.history.events.items c.self.inside.present c.self.inside.next_pid (counted c.self.inside.bounces c.self.inside.deliveries)
    c.in_ok-place.place c.args.actor.now c.pay.new.self c.ready_at.result
ready g c = paid_ready c.self.invariant c.args.actor.now c.deref.ensures.value c.in_ok-place.ensures.ok c.index_mut-acting.ensures.value (paid g c) c.deref-3.ensures.value c.awaits.ensures c.ready_at.ensures

pub living-requires : goal.living-requires
living-requires g c =
    let i = c.self.inside in
    λ k place. subst (λ (l : List Held). k < length l) (sym c.deref.ensures.value)
    (in_range (g.D.CallFs.disk i.disk) (among_all i.crew (place_of i.places)) i.actors.items (known i.history.events.items) i.history.events.items i.present i.next_pid (counted i.bounces i.deliveries) c.args.actor.now c.self.invariant.world k place)

pub returns-in_err-place-clause-gone : goal.returns-in_err-place-clause-gone
returns-in_err-place-clause-gone g c =
    let i = c.self.inside in
    let p = err_from_is_err_and c.from_residual.result c.from_residual.ensures.1 in
    let why = c.in_err-place.field-0.0 in
    let none : IsNoLiving (among_all i.crew (place_of i.places)) i.actors.items c.args.actor.now why =
    subst (λ (l : List Held). IsNoLiving (among_all i.crew (place_of i.places)) l c.args.actor.now why) c.deref.ensures.value c.in_err-place.ensures.err in
    rw (p.1, p.2, ← c.self.view_is) (gone_exactly (among_all i.crew (place_of i.places)) i.actors.items (known i.history.events.items) i.history.events.items i.present c.args.actor.now why c.self.invariant.world.kept none)

pub returns-in_err-place-clause-waiting : goal.returns-in_err-place-clause-waiting
returns-in_err-place-clause-waiting g c =
    let i = c.self.inside in
    let why = c.in_err-place.field-0.0 in
    let none : IsNoLiving (among_all i.crew (place_of i.places)) i.actors.items c.args.actor.now why =
    subst (λ (l : List Held). IsNoLiving (among_all i.crew (place_of i.places)) l c.args.actor.now why) c.deref.ensures.value c.in_err-place.ensures.err in
    rw (← c.self.view_is) (λ waits. absurd (no_living_waits (among_all i.crew (place_of i.places)) i.actors.items (known i.history.events.items) i.history.events.items i.present c.args.actor.now why c.self.invariant.world.kept none waits))

pub invariant_of-self : goal.invariant_of-self
invariant_of-self g c = still_whole c.self.invariant c.reserve.new.self refl c.in_err-reserve.ensures.same c.in_err-reserve.ensures.stays

pub returns-in_err-reserve-clause-gone : goal.returns-in_err-reserve-clause-gone
returns-in_err-reserve-clause-gone g c =
    let p = err_from_is_err_and c.from_residual-in_err-reserve.result c.from_residual-in_err-reserve.ensures.1 in
    rw (← c.self.view_is) (not_gone c.from_residual-in_err-reserve.result c.self.inside.history.events.items c.args.actor.now (memory_other c.from_residual-in_err-reserve.result (p.1 ∙ ap (λ (why : WorldError). Err why) p.2))
    (no_end_yet c.self.invariant c.args.actor.now c.deref.ensures.value c.in_ok-place.ensures.ok))

pub child_at-child-requires : goal.child_at-child-requires
child_at-child-requires g c =
    let i = c.self.inside in
    subst (λ (l : List Mouths). (k : ℕ) → child_place l c.index_mut-acting.result.now.wire 0 i.crew (place_of i.places) ≡ Some k → k < 2 ^ 64) (sym c.deref-2.ensures.value)
    (λ k found. let low = child_within c.self.invariant c.args.actor.now c.deref.ensures.value c.in_ok-place.ensures.ok c.index_mut-acting.ensures.value k found in omega (arith, low, i.actors.ok.0))

pub index_mut-acting-requires : goal.index_mut-acting-requires
index_mut-acting-requires g c =
    let i = c.self.inside in
    let within = in_range (g.D.CallFs.disk i.disk) (among_all i.crew (place_of i.places)) i.actors.items (known i.history.events.items) i.history.events.items i.present i.next_pid (counted i.bounces i.deliveries) c.args.actor.now c.self.invariant.world c.in_ok-place.place c.in_ok-place.ensures.ok.0 in
    omega (arith, i.actors.ok.0)

pub pay-requires : goal.pay-requires
pay-requires g c =
    let x = c.index_mut-acting.result.now in
    let at = acting_at c.self.invariant c.args.actor.now c.deref.ensures.value c.in_ok-place.ensures.ok c.index_mut-acting.ensures.value in
    let m = at.0.member in
    λ n owed. (m.actor.past, subst (λ (l : List Kept). Owes x l m.actor.past n) (sym c.in_ok-reserve.ensures.same) (m.owes at.0.lives n owed))

pub returns-in_err-pay-clause-gone : goal.returns-in_err-pay-clause-gone
returns-in_err-pay-clause-gone g c =
    let p = err_from_is_err_and c.from_residual-in_err-pay.result c.from_residual-in_err-pay.ensures.1 in
    rw (← c.self.view_is) (not_gone c.from_residual-in_err-pay.result c.self.inside.history.events.items c.args.actor.now (memory_other c.from_residual-in_err-pay.result (p.1 ∙ ap (λ (why : WorldError). Err why) p.2))
    (no_end_yet c.self.invariant c.args.actor.now c.deref.ensures.value c.in_ok-place.ensures.ok))

pub ready_at-requires : goal.ready_at-requires
ready_at-requires g c = λ k wire. subst (λ (l : List Mouths). k < length l) (sym c.deref-3.ensures.value)
    (has_pipes c.self.invariant c.args.actor.now c.deref.ensures.value c.in_ok-place.ensures.ok c.index_mut-acting.ensures.value k (sym c.in_ok-pay.ensures.stays.wire ∙ wire))

pub asks-requires-clause-found : goal.asks-requires-clause-found
asks-requires-clause-found g c = ready_can (ready g (goal.at.asks-requires-clause-found g c).After-ready_at)

pub invariant_of-self-in_err-due : goal.invariant_of-self-in_err-due
invariant_of-self-in_err-due g c =
    let looked = c.in_err-due.ensures.looked in
    turned_whole c.self.invariant c.reserve.new.self (ready_keeps (looked_ready (ready g (goal.at.invariant_of-self-in_err-due g c).After-ready_at) looked))
    (lives_still c.self.invariant c.args.actor.now c.deref.ensures.value c.in_ok-place.ensures.ok c.index_mut-acting.ensures.value c.asks.new.self (looked.ended ∙ c.in_ok-pay.ensures.ended)) c.in_ok-reserve.ensures.same c.in_ok-reserve.ensures.stays

pub returns-in_err-due-clause-gone : goal.returns-in_err-due-clause-gone
returns-in_err-due-clause-gone g c =
    let p = err_from_is_err_and c.from_residual-in_err-due.result c.from_residual-in_err-due.ensures.1 in
    rw (← c.self.view_is) (not_gone c.from_residual-in_err-due.result c.self.inside.history.events.items c.args.actor.now (memory_other c.from_residual-in_err-due.result (p.1 ∙ ap (λ (why : WorldError). Err why) p.2))
    (no_end_yet c.self.invariant c.args.actor.now c.deref.ensures.value c.in_ok-place.ensures.ok))

-- Something of a child is due

pub invariant_of-self-in-Some : goal.invariant_of-self-in-Some
invariant_of-self-in-Some g c =
    let looked = c.in_ok-due.ensures.looked in
    turned_whole c.self.invariant c.reserve.new.self (ready_keeps (looked_ready (ready g (goal.at.invariant_of-self-in-Some g c).After-ready_at) looked))
    (lives_still c.self.invariant c.args.actor.now c.deref.ensures.value c.in_ok-place.ensures.ok c.index_mut-acting.ensures.value c.asks.new.self (looked.ended ∙ c.in_ok-pay.ensures.ended)) c.in_ok-reserve.ensures.same c.in_ok-reserve.ensures.stays

due_of_child : (g : _) (c : In-Some g) →
    StandsReady (g.D.CallFs.disk c.self.inside.disk) c.self.inside.crew (place_of c.self.inside.places) c.self.inside.actors.items c.self.inside.mouths.items c.self.inside.books.entries.items c.self.inside.history.events.items c.self.inside.present c.self.inside.next_pid (counted c.self.inside.bounces c.self.inside.deliveries)
    c.in_ok-place.place c.args.actor.now c.pay.new.self c.ready_at.result
    → IsDueOfChild (record { disk = c.self.inside.disk; events = c.self.inside.history.events.items; present = c.self.inside.present }) c.args.actor.now c.in-Some.due
due_of_child g c r =
    let looked = c.in_ok-due.ensures.looked in
    asks_for (looked_ready r looked) r c.deref-4.ensures.value looked c.self.inside.disk c.in-Some.is c.in_ok-due.ensures.next c.in_ok-due.ensures.of_child

pub serve-did-requires-clause-due : goal.serve-did-requires-clause-due
serve-did-requires-clause-due g c =
    let at = goal.at.serve-did-requires-clause-due g c in
    let i = c.self.inside in
    subst (λ (l : List Kept). IsDueOfChild (record { disk = i.disk; events = l; present = i.present }) c.args.actor.now c.in-Some.due) (sym c.in_ok-reserve.ensures.same) (due_of_child g at.In-Some (ready g at.After-ready_at))

pub serve-did-requires-clause-at : goal.serve-did-requires-clause-at
serve-did-requires-clause-at g c =
    let i = c.self.inside in
    let events = i.history.events.items in
    let r = ready g (goal.at.serve-did-requires-clause-at g c).After-ready_at in
    subst (λ (l : List Kept). IsSetting (record { disk = i.disk; events = l; present = i.present }) c.args.actor.now (record { now = i.present; ready = c.ready_at.result; pid = i.next_pid; place = c.in_ok-place.place })) (sym c.in_ok-reserve.ensures.same)
    (record { now = refl; ready = ready_is r; pid = c.self.invariant.world.pid; place = sym (stands_in i.starts i.crew (place_of i.places) (starts_of (reverse events)) c.args.actor.now c.self.invariant.started) ∙ c.in_ok-place.ensures.ok.0 })

-- what the world did for it
abbrev Served : (g : _) (c : After-serve-did g) → Did → Type 0
Served g c did = Serves g.D.CallFs.disk c.args.actor.now (record { disk = c.self.inside.disk; events = c.self.inside.history.events.items; present = c.self.inside.present }) c.serve-did.new.self did

served : (g : _) (c : After-serve-did g) (P : Did → Type 0) → ((did : Did) → Served g c did → P did) → IfOk c.serve-did.result P
served g c P tells =
    let i = c.self.inside in
    if_ok c.serve-did.result (λ did. Served g c did) P tells
    (subst (λ (l : List Kept). IfOk c.serve-did.result (λ did. Serves g.D.CallFs.disk c.args.actor.now (record { disk = i.disk; events = l; present = i.present }) c.serve-did.new.self did)) c.in_ok-reserve.ensures.same c.serve-did.ensures.served)

pub returns-in-Some : goal.returns-in-Some
returns-in-Some g c =
    let at = goal.at.returns-in-Some g c in
    let i = c.self.inside in
    let events = i.history.events.items in
    let a = c.args.actor.now in
    let old : Seen _ = record { disk = i.disk; events = events; present = i.present } in
    let new = c.serve-did.new.self in
    let r = c.serve-did.result in
    let tells = served g at.After-serve-did in
    let same = c.in_ok-reserve.ensures.same in
    let others = c.serve-did.ensures.others in
    let started = c.self.invariant.world.kept.started a ∙ ap is_some c.in_ok-place.ensures.ok.0 in
    let due = due_of_child g at.In-Some (ready g at.After-ready_at) in record {
      event = rw (← c.self.view_is) (tells (λ did. IsStep a did.ended old new) (λ did s. subst (λ (o : Option ℕ). IsStep a o old new) (sym s.ended) s.event));
      present = rw (← c.self.view_is) (either_way r (new.present ≡ i.present) (tells (λ did. new.present ≡ i.present) (λ did s. s.present))
          (if_err r (λ error. new ≡ record { disk = i.disk; events = c.reserve.new.self.events.items; present = i.present }) (λ error. new.present ≡ i.present) (λ error e. ap (λ w. w.present) e) c.serve-did.ensures.err));
      at = rw (← c.self.view_is) (tells (λ did. did.at ≡ length events) (λ did s. s.at));
      idle = rw (← c.self.view_is) (tells (λ did. (event : Kept) → new.events ≡ events ++ event ∷ [] → did.idle ≡ has_idled (known events) event) (λ did s. s.idle));
      goes_on = rw (← c.self.view_is) (tells (λ did. GoesOn g.D.CallFs.disk old new) (λ did s. s.goes_on));
      plan = rw (← c.self.view_is) (tells (λ did. GoesByPlan g.D.CallFs.plan g.D.CallFs.disk i.disk new.disk events new.events)
          (λ did s. step_planned g.D.CallFs.plan g.D.CallFs.disk a old new c.in-Some.due due s.event s.disk));
      unknown = rw (← c.self.view_is) (
        (λ e. absurd (other_error r a why.Unknown others (λ f. cc) (λ f. cc) e)),
        (λ f. let both : true ≡ false = sym started ∙ f in absurd (cc)),
      );
      gone = rw (← c.self.view_is) (not_gone r events a (λ name at. other_error r a (why.Gone name at) others (λ f. cc) (λ f. cc)) (no_end_yet c.self.invariant a c.deref.ensures.value c.in_ok-place.ensures.ok));
      waits = rw (← c.self.view_is) (λ other e. let so = c.serve-did.ensures.waits other e in (so.0, subst (λ (l : List Kept). Waits (known l) i.present a) same so.1));
      waiting = rw (← c.self.view_is) (λ waits. waits_or r a others (tells (λ did. ⊥) (λ did s. step_waits a old new s.event waits)));
      taken = other_error r a why.Taken others (λ f. cc) (λ f. cc);
      alive = λ other. other_error r a (why.Alive other) others (λ f. cc) (λ f. cc);
      past = λ now. other_error r a (why.Past now) others (λ f. cc) (λ f. cc);
      err = rw (← c.self.view_is) (subst (λ (l : List Kept). IfErr r (λ error. new ≡ record { disk = i.disk; events = l; present = i.present })) same c.serve-did.ensures.err);
    }

-- Nothing of a child is due

alone : (g : _) (c : In_default g) →
    StandsReady (g.D.CallFs.disk c.self.inside.disk) c.self.inside.crew (place_of c.self.inside.places) c.self.inside.actors.items c.self.inside.mouths.items c.self.inside.books.entries.items c.self.inside.history.events.items c.self.inside.present c.self.inside.next_pid (counted c.self.inside.bounces c.self.inside.deliveries)
    c.in_ok-place.place c.args.actor.now c.pay.new.self c.ready_at.result
    → StandsAlone (g.D.CallFs.disk c.self.inside.disk) c.self.inside.crew (place_of c.self.inside.places) c.self.inside.actors.items c.self.inside.mouths.items c.self.inside.books.entries.items c.self.inside.history.events.items c.self.inside.present c.self.inside.next_pid (counted c.self.inside.bounces c.self.inside.deliveries)
    c.in_ok-place.place c.args.actor.now c.asks.new.self c.ready_at.result
alone g c r =
    let looked = c.in_ok-due.ensures.looked in
    let q = looked_ready r looked in
    record { stands = q; own = asks_none q r c.deref-4.ensures.value looked c.in_default.not-Some c.in_ok-due.ensures.none }

pub act-requires-clause-may : goal.act-requires-clause-may
act-requires-clause-may g c = let at = goal.at.act-requires-clause-may g c in alone_may (alone g at.In_default (ready g at.After-ready_at))

pub act-requires-clause-paid : goal.act-requires-clause-paid
act-requires-clause-paid g c = (looked_ready (ready g (goal.at.act-requires-clause-paid g c).After-ready_at) c.in_ok-due.ensures.looked).paid

pub act-requires-clause-read : goal.act-requires-clause-read
act-requires-clause-read g c = c.in_ok-due.ensures.read

pub act-requires-clause-opens : goal.act-requires-clause-opens
act-requires-clause-opens g c = ready_opens (looked_ready (ready g (goal.at.act-requires-clause-opens g c).After-ready_at) c.in_ok-due.ensures.looked)

pub act-requires-clause-seat : goal.act-requires-clause-seat
act-requires-clause-seat g c = ready_seated (looked_ready (ready g (goal.at.act-requires-clause-seat g c).After-ready_at) c.in_ok-due.ensures.looked)

pub invariant_of-self-in_err-did : goal.invariant_of-self-in_err-did
invariant_of-self-in_err-did g c =
    let err = c.in_err-did.ensures in
    let looked = c.in_ok-due.ensures.looked in
    let w = looked_keeps (looked_ready (ready g (goal.at.invariant_of-self-in_err-did g c).After-ready_at) looked) err.looked err.pipes in
    rw (err.err) (turned_whole c.self.invariant c.act.new.history w
    (lives_still c.self.invariant c.args.actor.now c.deref.ensures.value c.in_ok-place.ensures.ok c.index_mut-acting.ensures.value c.act.new.self (err.looked.ended ∙ looked.ended ∙ c.in_ok-pay.ensures.ended))
    (ap (λ (h : History). h.events.items) err.same ∙ c.in_ok-reserve.ensures.same) (subst (λ (h : History). (k : ℕ) → HasRoom c.self.inside.history k → HasRoom h k) (sym err.same) c.in_ok-reserve.ensures.stays))

pub returns-in_err-did-clause-gone : goal.returns-in_err-did-clause-gone
returns-in_err-did-clause-gone g c =
    let p = err_from_is_err_and c.from_residual-in_err-did.result c.from_residual-in_err-did.ensures.1 in
    rw (← c.self.view_is) (not_gone c.from_residual-in_err-did.result c.self.inside.history.events.items c.args.actor.now (memory_other c.from_residual-in_err-did.result (p.1 ∙ ap (λ (why : WorldError). Err why) p.2))
    (no_end_yet c.self.invariant c.args.actor.now c.deref.ensures.value c.in_ok-place.ensures.ok))

-- It waits

none_of : (o : Option Did) → ((d : Did) → o ≡ Some d → ⊥) → o ≡ None
none_of None other = refl
none_of (Some d) other = absurd (other d refl)

waited : (g : _) (c : In_default-did g) → HasWaited c.self.inside.mouths.items c.act.new.mouths.items c.asks.new.self c.act.new.self c.self.inside.present c.ready_at.result
waited g c =
    let i = c.self.inside in
    subst (λ (d : Option Did). HasStepped d (g.D.CallFs.disk i.disk) (g.D.CallFs.disk c.act.new.disk) i.mouths.items c.act.new.mouths.items i.next_pid c.asks.new.self c.act.new.self c.reserve.new.self.events.items c.act.new.history.events.items i.present c.ready_at.result)
    (none_of c.in_ok-did.did c.in_default-did.not-Some) c.in_ok-did.ensures.acted

pub invariant_of-self-in_default-did : goal.invariant_of-self-in_default-did
invariant_of-self-in_default-did g c =
    let at = goal.at.invariant_of-self-in_default-did g c in
    let looked = c.in_ok-due.ensures.looked in
    let w = waited g at.In_default-did in
    let still = c.in_ok-did.ensures.waits (subst IsNone (sym (none_of c.in_ok-did.did c.in_default-did.not-Some)) refl) in
    rw (still.0) (turned_whole c.self.invariant c.act.new.history (looked_keeps (looked_ready (ready g at.After-ready_at) looked) w.looked w.same)
    (lives_still c.self.invariant c.args.actor.now c.deref.ensures.value c.in_ok-place.ensures.ok c.index_mut-acting.ensures.value c.act.new.self (w.looked.ended ∙ looked.ended ∙ c.in_ok-pay.ensures.ended))
    (ap (λ (h : History). h.events.items) still.1 ∙ c.in_ok-reserve.ensures.same) (subst (λ (h : History). (k : ℕ) → HasRoom c.self.inside.history k → HasRoom h k) (sym still.1) c.in_ok-reserve.ensures.stays))

pub returns-in_default-did-clause-gone : goal.returns-in_default-did-clause-gone
returns-in_default-did-clause-gone g c =
    rw (← c.self.view_is) (not_gone _ c.self.inside.history.events.items c.args.actor.now (λ name at e. absurd (cc)) (no_end_yet c.self.invariant c.args.actor.now c.deref.ensures.value c.in_ok-place.ensures.ok))

pub returns-in_default-did-clause-waits : goal.returns-in_default-did-clause-waits
returns-in_default-did-clause-waits g c =
    let at = goal.at.returns-in_default-did-clause-waits g c in
    let waits = alone_waits (alone g at.In_default (ready g at.After-ready_at)) (waited g at.In_default-did) in
    rw (← c.self.view_is) (λ name e.
    let same : c.copy.result ≡ name = cc in
    (sym same ∙ c.copy.ensures, waits))

-- It acts

pub note-requires : goal.note-requires
note-requires g c =
    let i = c.self.inside in
    let at = acting_at c.self.invariant c.args.actor.now c.deref.ensures.value c.in_ok-place.ensures.ok c.index_mut-acting.ensures.value in
    λ k own. entry_within i.crew i.books.entries.items i.actors.items i.history.events.items c.in_ok-place.place k c.index_mut-acting.result.now c.self.invariant.booked at.0.is own

-- the place of its child, if there is one
placed : (g : _) (c : After-child_at-child g) → c.child_at-child.result ≡ child_place c.self.inside.mouths.items c.index_mut-acting.result.now.wire 0 c.self.inside.crew (place_of c.self.inside.places)
placed g c =
    let i = c.self.inside in
    subst (λ (l : List Mouths). c.child_at-child.result ≡ child_place l c.index_mut-acting.result.now.wire 0 i.crew (place_of i.places)) c.deref-2.ensures.value c.child_at-child.ensures

pub leave-requires : goal.leave-requires
leave-requires g c =
    let same = placed g (goal.at.leave-requires g c).After-child_at-child in
    λ k found.
    let low = child_within c.self.invariant c.args.actor.now c.deref.ensures.value c.in_ok-place.ensures.ok c.index_mut-acting.ensures.value k (sym same ∙ found) in
    subst (λ (l : List Held). k < length l) (sym c.deref_mut.ensures.value) (subst (λ (n : ℕ). k < n) (sym (length-set c.self.inside.actors.items c.in_ok-place.place c.act.new.self)) low)

-- what it did, after the events that there were before room was made
done : (g : _) (c : In-Some-did g) →
    IsDone c.in-Some-did.did.ended (g.D.CallFs.disk c.self.inside.disk) (g.D.CallFs.disk c.act.new.disk) c.self.inside.mouths.items c.act.new.mouths.items c.self.inside.next_pid
    c.asks.new.self c.act.new.self c.self.inside.history.events.items c.act.new.history.events.items c.self.inside.present c.ready_at.result
done g c =
    let i = c.self.inside in
    record {
      acted = subst (λ (l : List Kept). HasActed c.in-Some-did.did.ended (g.D.CallFs.disk i.disk) (g.D.CallFs.disk c.act.new.disk) i.mouths.items c.act.new.mouths.items i.next_pid c.asks.new.self c.act.new.self l c.act.new.history.events.items i.present c.ready_at.result)
          c.in_ok-reserve.ensures.same
          (subst (λ (d : Option Did). HasStepped d (g.D.CallFs.disk i.disk) (g.D.CallFs.disk c.act.new.disk) i.mouths.items c.act.new.mouths.items i.next_pid c.asks.new.self c.act.new.self c.reserve.new.self.events.items c.act.new.history.events.items i.present c.ready_at.result)
          c.in-Some-did.is c.in_ok-did.ensures.acted);
    }

pub invariant_of-self-2 : goal.invariant_of-self-2
invariant_of-self-2 g c =
    let at = goal.at.invariant_of-self-2 g c in
    let i = c.self.inside in
    let place = c.in_ok-place.place in
    let y = c.act.new.self in
    let pays = c.in_ok-pay.ensures.stays in
    let looks = c.in_ok-due.ensures.looked.stays in
    let did = c.in-Some-did.did in
    let it = done g at.In-Some-did in
    let stands = set i.actors.items place y in
    let stood = c.leave.new.actors in
    let left : HasLeftIf (is_some did.ended) c.child_at-child.result stands stood =
    subst (λ (t : Bool). HasLeftIf t c.child_at-child.result stands stood) c.is_some.ensures
    (subst (λ (l : List Held). HasLeftIf c.is_some.result c.child_at-child.result l stood) c.deref_mut.ensures.value c.leave.ensures) in
    let many = left_many_if (is_some did.ended) c.child_at-child.result stands stood left in
    let items = written_back i.actors.len stands stood many (i.actors.ok.0 ∙ sym (length-set i.actors.items place y)) in
    let entry = looks.entry ∙ pays.entry in
    let w = alone_keeps (alone g at.In_default (ready g at.After-ready_at)) it c.newest-newest.ensures (c.saturating_add-self-inside.ensures ∙ ap (λ (k : ℕ). min (i.next_pid + k) (2 ^ 32 - 1)) c.started_by.ensures)
    (λ none. ap entries_of (c.note.ensures.none (sym entry ∙ none))) (λ k e own. c.note.ensures.own k e (sym entry ∙ own))
    (placed g at.After-child_at-child ∙ ap (λ (o : Option ℕ). child_place i.mouths.items o 0 i.crew (place_of i.places)) (sym (looks.wire ∙ pays.wire))) left in
    let room = room_after i.actors.items stood c.reserve.new.self c.act.new.history (many ∙ length-set i.actors.items place y) (c.len.ensures ∙ i.actors.ok.0) c.in_ok-reserve.ensures.room (λ k. c.in_ok-did.ensures.room k) in record {
      world = rw (items) w.world;
      room = rw (items) room;
      booked = rw (items) w.booked;
      piped = rw (items) w.piped;
      started = acted_starts i.starts i.crew (place_of i.places) did.ended (g.D.CallFs.disk i.disk) (g.D.CallFs.disk c.act.new.disk) i.mouths.items c.act.new.mouths.items i.next_pid c.asks.new.self y i.history.events.items c.act.new.history.events.items i.present
          c.ready_at.result it.acted c.self.invariant.started;
    }

pub returns-clause-event : goal.returns-clause-event
returns-clause-event g c =
    let at = goal.at.returns-clause-event g c in
    rw (← c.self.view_is) (alone_step (alone g at.In_default (ready g at.After-ready_at)) (done g at.In-Some-did) c.self.inside.disk c.act.new.disk c.self.invariant.world.pid)

pub returns-clause-idle : goal.returns-clause-idle
returns-clause-idle g c =
    let at = goal.at.returns-clause-idle g c in
    let v = c.asks.new.self in
    let did = c.in-Some-did.did in
    let idled : HasIdled did.idle v c.self.inside.history.events.items c.act.new.history.events.items =
    subst (λ (l : List Kept). HasIdled did.idle v l c.act.new.history.events.items) c.in_ok-reserve.ensures.same
    (subst (λ (d : Option Did). IfSome d (λ d. HasIdled d.idle v c.reserve.new.self.events.items c.act.new.history.events.items)) c.in-Some-did.is c.in_ok-did.ensures.idle) in
    rw (← c.self.view_is) (alone_idle (alone g at.In_default (ready g at.After-ready_at)) (done g at.In-Some-did) did.idle idled)

pub returns-clause-goes_on : goal.returns-clause-goes_on
returns-clause-goes_on g c =
    let at = goal.at.returns-clause-goes_on g c in
    let i = c.self.inside in
    rw (← c.self.view_is) (goes_on (g.D.CallFs.disk i.disk) (g.D.CallFs.disk c.act.new.disk) i.history.events.items c.act.new.history.events.items i.present i.present
    (alone_leads (alone g at.In_default (ready g at.After-ready_at)) (done g at.In-Some-did)))

pub returns-clause-gone : goal.returns-clause-gone
returns-clause-gone g c =
    rw (← c.self.view_is) (not_gone (Ok c.in-Some-did.did) c.self.inside.history.events.items c.args.actor.now (ok_other c.in-Some-did.did) (no_end_yet c.self.invariant c.args.actor.now c.deref.ensures.value c.in_ok-place.ensures.ok))

pub returns-clause-waiting : goal.returns-clause-waiting
returns-clause-waiting g c =
    let at = goal.at.returns-clause-waiting g c in
    rw (← c.self.view_is) (λ waits. absurd (alone_acts (alone g at.In_default (ready g at.After-ready_at)) (done g at.In-Some-did) waits))
