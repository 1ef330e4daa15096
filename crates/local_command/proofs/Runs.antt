-- Runs that begin, go on, end and are cut short.
use Rattle.std.proofs.Common.{◌≡◌, ℕ, ◌+◌, ◌≤◌, List, [], ◌∷◌, Option, Some, None, Result, Ok, Err, IsErr, refl, sym, ap, ◌∙◌, subst, ⊎_elim, arith}
use Rattle.std.specs.declared.alloc.AllocError.{AllocError}
use Rattle.call_fs.specs.declared.past.ChildData.{ChildData}
use Rattle.call_fs.specs.declared.past.GotData.{GotData}
use Rattle.call_fs.specs.declared.past.GotData.TheVariants as got
use Rattle.call_fs.specs.declared.past.NeedData.{NeedData}
use Rattle.call_fs.specs.declared.past.NeedData.TheVariants as needs
use Rattle.call_fs.specs.declared.past.Own.{Own}
use Rattle.call_fs.specs.declared.program.Port.TheVariants as port
use Rattle.call_fs.specs.declared.program.Ready.{Ready}
use Rattle.call_fs.specs.Past.{IsRunBy, taken}
use Rattle.local_parts.specs.declared.arguments.LocalArgs.{LocalArgs}
use Rattle.local_parts.specs.Inputs.{message_in}
use Rattle.local_deliver.specs.Forwards.{HasGiven, HasStarted, IsForwardInput}
use Rattle.local_deliver.specs.Table.{Next}
use Rattle.outside.specs.declared.spawner.Started.{Started}
use Rattle.outside.specs.declared.spawner.Started.TheVariants as started
use Rattle.outside.specs.Children.{SpawnCall}
use Rattle.outside.specs.Children.SpawnCall.{Start}
use Rattle.program_runner.specs.Lines.{StartsBy, came_of_start}
use Rattle.program_runner.specs.Outside.{Outside}
use Rattle.program_runner.specs.Runs.{most_turns}
use Rattle.program_runner.proofs.Deeds.{did_more, did_nothing, open_after}
use Rattle.program_runner.proofs.Members.{answered_nothing, answered_then, spawned_then}
use Rattle.program_runner.proofs.Serves.{asked_nothing}
use Rattle.local_command.specs.Done.{AreServed, Children, Deed, FeedsInjector, HasDone, Serves, events_of, injector_by, injector_of, started_on}
use Rattle.local_command.specs.Running.{IsUnderway, RanTo}
use Rattle.local_command.specs.Serving.{Goes, HasInjector, IsOver, IsStep, IsThere, MayGoOn}

-- The injector was started before it is fed, and fed before its status is asked

chan_of : (told : Started) (pid : ℕ) → got.Started pid ≡ came_of_start told → (chan : ℕ) × ((p : ℕ) × (told ≡ started.Chan chan p))
chan_of (started.Chan chan p) pid is = (chan, (p, refl))
chan_of started.Failed pid is = absurd (cc)
chan_of started.Memory pid is = absurd (cc)

begun_there : (words : List (List ℕ)) (told : Started) (chan p : ℕ) (calls : List SpawnCall) (old : Option ℕ) → told ≡ started.Chan chan p → StartsBy words told calls → IsThere (started_on calls old)
begun_there words told chan p calls old is =
    ⊎_elim (λ e. subst (λ (c : List SpawnCall). IsThere (started_on c old)) (sym (e ∙ ap (λ (t : Started). Start words t ∷ []) is)) tt) (λ m. let none = m.0 in absurd (cc))

module _ (words : ChildData → List (List ℕ)) where
  there_after_start : (deeds : List Deed) → AreServed words deeds → HasStarted (events_of deeds) → IsThere (injector_of deeds)
  there_after_start [] served (child, (pid, h)) = absurd h
  there_after_start (deed ∷ before) served (child, (pid, (due, came))) =
      let s = subst (λ d. Serves words (message_in (taken (events_of before))) (injector_of before) d deed.event.came deed.asked deed.calls) due served.1 in
      let told = s.1.0 in
      let c = chan_of told pid (sym came ∙ s.1.1) in
      subst (λ d. IsThere (injector_by d deed.calls (injector_of before))) (sym due) (begun_there (words child) told c.0 c.1.0 deed.calls (injector_of before) c.1.1 s.1.2)

  fed_there : (chan : Option ℕ) (bytes : List ℕ) (came : GotData) (calls : List SpawnCall) → FeedsInjector chan bytes came calls → IsThere chan
  fed_there None bytes came calls h = absurd h
  fed_there (Some chan) bytes came calls h = tt

  there_after_giving : (deeds : List Deed) (text : List ℕ) → AreServed words deeds → HasGiven text (events_of deeds) → IsThere (injector_of deeds)
  there_after_giving [] text served h = absurd h
  there_after_giving (deed ∷ before) text served (due, came) =
      let s = subst (λ d. Serves words (message_in (taken (events_of before))) (injector_of before) d deed.event.came deed.asked deed.calls) due served.1 in
      subst (λ d. IsThere (injector_by d deed.calls (injector_of before))) (sym due) (fed_there (injector_of before) text deed.event.came deed.calls s.1)

  module _ (args : LocalArgs) (deeds : List Deed) (served : AreServed words deeds) (run : IsRunBy (Next args) (events_of deeds))
      (given : (args : LocalArgs) (past : List Own) (now : ℕ) (ready : Ready) (slot : ℕ) (text : List ℕ) → IsRunBy (Next args) past
      → Next args past now ready ≡ needs.Give (port.Program slot) text → (slot ≡ 0) × HasStarted past × IsForwardInput args past text)
      (taken : (args : LocalArgs) (past : List Own) (now : ℕ) (ready : Ready) (slot : ℕ) → IsRunBy (Next args) past
      → Next args past now ready ≡ needs.Take (port.Status slot) → (slot ≡ 0) × ((text : List ℕ) × HasGiven text past)) where
    has_injector : (now : ℕ) (ready : Ready) (due : NeedData) → Next args (events_of deeds) now ready ≡ due → HasInjector (injector_of deeds) due
    has_injector now ready (needs.Give (port.Program slot) bytes) is = there_after_start deeds served (given args (events_of deeds) now ready slot bytes run is).1
    has_injector now ready (needs.Take (port.Status slot)) is = let t = taken args (events_of deeds) now ready slot run is in there_after_giving deeds t.1.0 served t.1.1
    has_injector now ready due is = tt

  pub may_go_on : (args : LocalArgs) (stands : LocalArgs → List Own → Type 0) (chan : Option ℕ) (start count : ℕ) (old now : Outside) (s t : Children)
      → ((args : LocalArgs) (past : List Own) (now : ℕ) (ready : Ready) (slot : ℕ) (text : List ℕ) → IsRunBy (Next args) past
      → Next args past now ready ≡ needs.Give (port.Program slot) text → (slot ≡ 0) × HasStarted past × IsForwardInput args past text)
      → ((args : LocalArgs) (past : List Own) (now : ℕ) (ready : Ready) (slot : ℕ) → IsRunBy (Next args) past
      → Next args past now ready ≡ needs.Take (port.Status slot) → (slot ≡ 0) × ((text : List ℕ) × HasGiven text past))
      → IsUnderway words args stands chan start count old now s t → MayGoOn stands chan now.disk
  may_go_on args stands chan start count old now s t given taken u = record {
    args = args;
    past = events_of u.deeds;
    is = u.is;
    run = u.done.run;
    injector = λ at ready. subst (λ (c : Option ℕ). HasInjector c (Next args (events_of u.deeds) at ready)) (sym u.channel)
        (has_injector args u.deeds u.done.served u.done.run given taken at ready (Next args (events_of u.deeds) at ready) refl);
    backed = open_after (events_of u.deeds) old.disk now.disk u.done.did.disk;
  }

-- Going on

module _ (words : ChildData → List (List ℕ)) (args : LocalArgs) (start : ℕ) where
  pub nothing_done : (o : Outside) (s : Children) → start ≤ o.last → HasDone words args [] start o o s s
  nothing_done o s later = record {
    run = tt;
    finds = tt;
    did = did_nothing start o later;
    served = tt;
    posts = answered_nothing s.posts;
    spawner = asked_nothing s.spawner;
  }

  pub begins : (stands : LocalArgs → List Own → Type 0) (o : Outside) (s : Children) → stands args [] → start ≤ o.last → IsUnderway words args stands None start 0 o o s s
  begins stands o s new later = record { deeds = []; long = refl; is = new; done = nothing_done o s later; channel = refl }

  module _ (before : LocalArgs → List Own → Type 0) (chan next : Option ℕ) (count : ℕ) (old mid new : Outside) (s t w : Children) (u : IsUnderway words args before chan start count old mid s t) where
    abbrev more : (after : LocalArgs → List Own → Type 0) → Goes words before after chan next mid new t w → Deed
    more after g = record { event = g.on.event; asked = g.asked; calls = g.calls }

    done_more : (after : LocalArgs → List Own → Type 0) (g : Goes words before after chan next mid new t w) → HasDone words args (more after g ∷ u.deeds) start old new s w
    done_more after g = record {
      run = (u.done.run, (g.on.due args (events_of u.deeds) u.is, g.on.came));
      finds = (g.on.found, u.done.finds);
      did = did_more start (events_of u.deeds) g.on.event old mid new u.done.did g.on.does;
      served = (
        u.done.served,
        subst (λ (c : Option ℕ). Serves words (message_in (taken (events_of u.deeds))) c g.on.event.due g.on.event.came g.asked g.calls) u.channel (g.serves args (events_of u.deeds) u.is u.done.run),
      );
      posts = answered_then _ g.asked s.posts t.posts w.posts u.done.posts g.posts;
      spawner = spawned_then _ g.calls s.spawner t.spawner w.spawner u.done.spawner g.spawner;
    }

    goes_on : (after : LocalArgs → List Own → Type 0) → Goes words before after chan next mid new t w → IsUnderway words args after next start (count + 1) old new s w
    goes_on after g = record {
      deeds = more after g ∷ u.deeds;
      long = let long = u.long in omega arith;
      is = g.on.stands args (events_of u.deeds) u.is;
      done = done_more after g;
      channel = g.channel ∙ ap (injector_by g.on.event.due g.calls) u.channel;
    }

    pub stepped_on : (after : LocalArgs → List Own → Type 0) (result : Result (Option ℕ) AllocError) → result ≡ Ok None → IsStep words before after chan next result mid new t w
        → IsUnderway words args after next start (count + 1) old new s w
    stepped_on after result is h = goes_on after (subst (λ r. IsStep words before after chan next r mid new t w) is h)

    is_over : (status : ℕ) → IsOver before status chan next mid new t w → RanTo (Ok (Some status)) words args start old new s w
    is_over status o = record {
      deeds = u.deeds;
      read = o.read;
      mid = mid;
      done = subst (λ (c : Children). HasDone words args u.deeds start old mid s c) (sym o.children_are) u.done;
      looks = o.looks;
      ends = o.due args (events_of u.deeds) u.is;
    }

    pub stepped_to_end : (after : LocalArgs → List Own → Type 0) (result : Result (Option ℕ) AllocError) (status : ℕ) → result ≡ Ok (Some status) → IsStep words before after chan next result mid new t w
        → RanTo (Ok (Some status)) words args start old new s w
    stepped_to_end after result status is h = is_over status (subst (λ r. IsStep words before after chan next r mid new t w) is h)

    pub stepped_last : (after : LocalArgs → List Own → Type 0) (result : Result (Option ℕ) AllocError) (why other : AllocError) → result ≡ Err why → IsStep words before after chan next result mid new t w
        → RanTo (Err other) words args start old new s w
    stepped_last after result why other is h =
        let g = subst (λ r. IsStep words before after chan next r mid new t w) is h in
        record { deeds = more (λ args past. Unit {0}) g ∷ u.deeds; done = done_more (λ args past. Unit {0}) g }

  pub as_long : (stands : LocalArgs → List Own → Type 0) (chan : Option ℕ) (count : ℕ) (old new : Outside) (s w : Children) → count ≡ most_turns → IsUnderway words args stands chan start count old new s w
      → RanTo (Ok None) words args start old new s w
  as_long stands chan count old new s w is u = record { deeds = u.deeds; long = u.long ∙ is; done = u.done }

  -- there was no memory for the machine
  pub not_begun : (result : Result (Option ℕ) AllocError) (o : Outside) (s : Children) → IsErr result → start ≤ o.last → RanTo result words args start o o s s
  not_begun (Err why) o s e later = record { deeds = []; done = nothing_done o s later }
  not_begun (Ok None) o s e later = absurd (cc)
  not_begun (Ok (Some status)) o s e later = absurd (cc)
