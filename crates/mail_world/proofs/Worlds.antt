-- A world keeps what it keeps, as one actor makes a call, ends, is stopped, or starts, and as a moment comes.
use Rattle.std.proofs.Common.{◌≡◌, inl, inr, ⊎_elim, ℕ, ◌+◌, ◌-◌, ◌^◌, ◌≤◌, ◌<◌, min, List, [], ◌∷◌, ◌++◌, length, set, Bool, true, false, Option, Some, None, IsSomeAnd, is_some, reverse, refl, sym, ap, ◌∙◌, subst, arith, get_or}
use Rattle.std.proofs.lemmas.Option.{slice_get_within, get_or_from_slice_get}
use Rattle.std.proofs.lemmas.List.Sums.{sum_by-append}
use Rattle.std.specs.List.{slice_get, sum_by}
use Rattle.call_fs.specs.declared.calls.CallData.{CallData}
use Rattle.call_fs.specs.declared.calls.Told.{Told}
use Rattle.call_fs.specs.Disk.{Disk}
use Rattle.call_fs.specs.declared.modes.Mode.{Mode}
use Rattle.call_fs.specs.Columns.{IsAnswerTo}
use Rattle.call_fs.specs.Past.{Uses, UsesHeld, Backs, held}
use Rattle.call_fs.proofs.Held.{may_call}
use Rattle.mail_bytes.specs.Moments.{IsMoment}
use Rattle.call_fs.specs.Maps.{put_at}
use Rattle.call_fs.specs.Apply.{Apply, IsReadBy}
use Rattle.mail_bytes.specs.Told.{OnTold, Meets}
use Rattle.call_fs.specs.declared.crash_file_system.Survival.{Survival}
use Rattle.call_fs.specs.Choices.{Halts}
use Rattle.call_fs.specs.declared.past.GotData.{GotData}
use Rattle.call_fs.specs.declared.past.GotData.TheVariants.{Answered}
use Rattle.call_fs.specs.declared.past.GotData.TheVariants as came
use Rattle.call_fs.specs.declared.past.NeedData.{NeedData}
use Rattle.call_fs.specs.declared.past.NeedData.TheVariants as needs
use Rattle.call_fs.specs.declared.past.ChildData.TheVariants as child
use Rattle.call_fs.specs.declared.program.Port.TheVariants as port
use Rattle.call_fs.specs.Program.{IsKind, MayCome}
use Rattle.call_fs.specs.declared.past.Own.{Own}
use Rattle.mail_world.specs.declared.actor.Actor.{Actor as Held}
use Rattle.world_events.specs.declared.event.Event.{Event as Kept}
use Rattle.world_events.specs.declared.event.Event.TheVariants as kept
use Rattle.world_events.specs.declared.event.Program.{Program}
use Rattle.world_events.specs.declared.event.Program.TheVariants.{Injector}
use Rattle.mail_world.specs.History.{Actor, Life, State, IsDelivery, MayFind, own_call, next_of, start_of, acted, called, finished, happens, held_by, shut_by}
use Rattle.mail_world.specs.History.Event.{Start, Moment, Halt}
use Rattle.mail_world.specs.History.Life.{Over, Stopped}
use Rattle.call_fs.specs.declared.program.Ready.{Ready}
use Rattle.mail_world.specs.World.{Counts, starts, IsKeptBy, IsKeptGiving, next_pid, counts_in, counted, starts_in, most_of, ComesWhole, EndsInWorld, IsStep, span_after, span_of, was_started, EndsAt}
use Rattle.mail_world.specs.World.Span.{OverAt}
use Rattle.mail_world.specs.Pipework.{is_member}
use Rattle.mail_world.specs.ByKind.{IsAlone, IsMail, Follows, CanFind, takes_of, awaits_of}
use Rattle.mail_world.specs.Inside.{known, RunsAt, RunsBy, unowed, StandsFor, Owes, span_by, IsMember, AreActors, IsOpenTo, IsLed, IsWorld}
use Rattle.mail_world.specs.Wired.{HasWires, AreWholeGivings}
use Rattle.world_pipes.specs.declared.mouths.Mouths.{Mouths}
use Rattle.mail_world.specs.Pipework.{Tenant}
use Rattle.mail_world.specs.Readiness.{found_by, found_at, found_in, is_awaiting}
use Rattle.world_pipes.specs.Pipework.{Pipework, pipework_after}
use Rattle.mail_world.specs.Pipework.Tenant.{Runs, Remote}
use Rattle.mail_world.specs.Acting.{is_due_of_child, has_actor, IsAct, IsNoAct, IsCall, MayAct, MayMake, AreOpen, AreCutOff, Brings, HasPassed, HasDone, HasEnded, MakesOf, IsFinished, opened_by, open_after, shut}
use Rattle.mail_world.proofs.Known.{known_push}
use Rattle.actor_names.specs.ChildNames.{bounce_name, delivery_name, forward_of}
use Rattle.actor_names.specs.MailNames.{IsMailName}
use Rattle.mail_world.proofs.Bounces.{mail_no_bounce, mail_no_delivery, mail_no_forward}
use Rattle.mail_world.proofs.Suiting.{place_suits}
use Rattle.mail_world.proofs.Numbered.{is_child, still_count, before_none, numbered_still, numbered_put, numbered_start, numbered_halt}
use Rattle.mail_world.proofs.Spans.{span_push}
use Rattle.mail_world.proofs.Histories.{kept_call, IsActing, FindsIn, ComesIn, LeadsOn, pass_told, call_told, end_told, stop_told, moment_told, start_told, halt_told, led_on, led_still}
use Rattle.call_fs.proofs.Maps.{put_at_same, put_at_other}
use Rattle.mail_world.proofs.Opens.{Opens, opens_by, owns_backs}
use Rattle.mail_world.proofs.Programs.{program_uses, program_acts, found_finds, machine_takes}
use Rattle.mail_world.proofs.Passes.{passing, comes_of, brings_kind}
use Rattle.mail_world.proofs.Awaiting.{GivesToNone, HaveNoSlots, own_awaits, can_find}
use Rattle.mail_world.proofs.Seats.{seat_none}
use Rattle.mail_world.proofs.Lists.{some_at}
use Rattle.mail_world.proofs.Crew.{apart_by, ActsAlone, Halted, member_alive, cut_member, crew_halts, crew_acts, crew_leaves, crew_looks, crew_waits, crew_starts}
use Rattle.mail_world.proofs.Leaving.{Leaves}
use Rattle.mail_world.proofs.Acts.{Finishes, own_alone, end_finishes, stop_finishes, finish_alone, start_alone, own_member, finish_member, start_member, look_member}
use Rattle.mail_world.proofs.Hands.{shut_listed, call_opens, pass_opens, finish_opens, start_opens, moment_opens, halt_opens, look_opens, may_close}

-- if the disk tells
pub on_told : {X : Type 0} (t : Option X) (P Q : X → Type 0) → ((x : X) → P x → Q x) → OnTold t P → OnTold t Q
on_told None P Q f h = tt
on_told (Some x) P Q f h = f x h

on_both : {X : Type 0} (t u : Option X) (P Q : X → Type 0) (R : X → X → Type 0) → ((x y : X) → R x y → P x → Q y) → Meets t u R → OnTold t P → OnTold u Q
on_both None None P Q R f met h = tt
on_both None (Some y) P Q R f met h = absurd met
on_both (Some x) None P Q R f met h = absurd met
on_both (Some x) (Some y) P Q R f met h = f x y met h

met_on : {X : Type 0} (t u : Option X) (P : X → Type 0) (R S : X → X → Type 0) → ((x y : X) → P x → R x y → S x y) → OnTold t P → Meets t u R → Meets t u S
met_on None None P R S f h met = tt
met_on None (Some y) P R S f h met = absurd met
met_on (Some x) None P R S f h met = absurd met
met_on (Some x) (Some y) P R S f h met = f x y h met

pub pid_push : (events : List Kept) (k : Kept) → next_pid (events ++ k ∷ []) ≡ min (77 + (sum_by starts_in events + starts_in k)) (2 ^ 32 - 1)
pid_push events k = ap (λ (n : ℕ). min (77 + n) (2 ^ 32 - 1)) (sum_by-append starts_in events (k ∷ []) ∙ omega arith)

pub still_pid : (events : List Kept) (k : Kept) → starts_in k ≡ 0 → min (77 + (sum_by starts_in events + starts_in k)) (2 ^ 32 - 1) ≡ next_pid events
still_pid events k none = ap (λ (n : ℕ). min (77 + (sum_by starts_in events + n)) (2 ^ 32 - 1)) none ∙ omega arith

-- a disk that tells the same, or not
pub same_told : (old new : Option Disk) → Meets old new (λ d e. e ≡ d) → new ≡ old
same_told None None met = refl
same_told None (Some e) met = absurd met
same_told (Some d) None met = absurd met
same_told (Some d) (Some e) met = ap Some met

-- what passes leaves the disk
pass_made : (p : ℕ) (due : NeedData) (came : GotData) (old new : Option Disk) → IsNoAct due → MakesOf p due came old new → Meets old new (λ d e. e ≡ d)
pass_made p (needs.File c) came old new none made = absurd none
pass_made p (needs.Take port) came old new none made = made
pass_made p (needs.Give port bytes) came old new none made = made
pass_made p (needs.Start asked) came old new none made = made
pass_made p (needs.Command bytes) came old new none made = made
pass_made p needs.Wait came old new none made = made
pass_made p (needs.Ended status) came old new none made = absurd none

pub one_pid : (n q sum more : ℕ) → n ≡ min (77 + sum) (2 ^ 32 - 1) → q ≡ min (n + more) (2 ^ 32 - 1) → q ≡ min (77 + (sum + more)) (2 ^ 32 - 1)
one_pid n q sum more was next = omega (arith, was, next)

-- the actor at a place
pub record StandsAt (places : List ℕ → Option ℕ) (actors : List Held) (s : State) (events : List Kept) (p i : ℕ) (x : Held) : Type 0 where
  pub is : slice_get actors i ≡ Some x
  pub member : IsMember s events p x
  pub lives : x.ended ≡ None

-- a call that is due uses only what its actor holds
due_uses : (s : State) (events : List Kept) (p : ℕ) (x : Held) (ready : Ready) (m : IsMember s events p x) → UsesHeld (held m.actor.past) (next_of m.actor.program m.actor.past p ready)
due_uses s events p x ready m = program_uses m.actor.program m.actor.past p ready m.run

-- what is due may be made
pub may_make : (d : Disk) (h : ℕ → Option Mode) (due : NeedData) → Backs d h → UsesHeld h due → MayMake d due
may_make d h (needs.File c) backs uses = may_call d h backs c uses
may_make d h (needs.Take port) backs uses = tt
may_make d h (needs.Give port bytes) backs uses = tt
may_make d h (needs.Start child) backs uses = tt
may_make d h (needs.Command bytes) backs uses = tt
may_make d h needs.Wait backs uses = tt
may_make d h (needs.Ended status) backs uses = tt

-- one that owes nothing has taken in its whole past
pub stands_whole : (s : State) (events : List Kept) (p : ℕ) (x : Held) (m : IsMember s events p x) → x.ended ≡ None → x.owed ≡ None → Follows x.machine m.actor.program m.actor.past
stands_whole s events p x m lives paid = subst (λ (o : Option ℕ). Follows x.machine m.actor.program (unowed o m.actor.past)) paid (m.follows lives)

pub may_act : (told : Option Disk) (places : List ℕ → Option ℕ) (actors : List Held) (s : State) (events : List Kept) (p n : ℕ) (b : Counts) (i : ℕ) (x : Held) (mouths : List Mouths) (ready : Ready)
    → IsWorld told places actors s events p n b → (at : StandsAt places actors s events p i x) → x.owed ≡ None → ready ≡ found_by s x.name at.member.actor.program
    → RunsBy x.wire at.member.actor.program
    → is_due_of_child (has_actor mouths x.wire) (next_of at.member.actor.program at.member.actor.past p ready) ≡ false → MayAct told x.machine x.wire mouths p ready
may_act told places actors s events p n b i x mouths ready w at paid finds runs own =
    let m = at.member in
    let past = m.actor.past in
    let due = next_of m.actor.program past p ready in
    record {
      asks = record {
        program = m.actor.program;
        past = past;
        follows = stands_whole s events p x m at.lives paid;
        run = m.run;
        found = subst (CanFind x.machine) (sym finds) (can_find s x.name x.machine m.actor.program past (stands_whole s events p x m at.lives paid) (m.awaits at.lives));
        may = on_told told (λ d. IsOpenTo d actors s) (λ d. MayMake d due)
            (λ d o. may_make d (held past) due (owns_backs d s.holder x.name (held past) ((o.each i x at.is).owns m.actor m.is (member_alive s events p x m at.lives))) (due_uses s events p x ready m)) w.opens;
      };
      acts = λ none. program_acts m.actor.program (subst (λ (o : Option ℕ). RunsBy o m.actor.program) none runs) past p ready;
      own = own;
      suits = λ j at_it. place_suits (has_actor mouths x.wire) j m.actor.program past p ready own (subst (λ (o : Option ℕ). RunsBy o m.actor.program) at_it runs);
    }

-- an actor's machine looked, and it owes nothing
pub look_keeps : (told : Option Disk) (places : List ℕ → Option ℕ) (actors : List Held) (s : State) (events : List Kept) (p n : ℕ) (b : Counts) (i : ℕ) (x y : Held)
    → IsWorld told places actors s events p n b → (at : StandsAt places actors s events p i x)
    → y.name ≡ x.name → y.ended ≡ x.ended → y.status ≡ x.status → awaits_of y.machine ≡ awaits_of x.machine → y.owed ≡ None → y.descriptors.items ≡ x.descriptors.items
    → Follows y.machine at.member.actor.program at.member.actor.past
    → IsWorld told places (set actors i y) s events p n b
look_keeps told places actors s events p n b i x y w at name ended status awaits paid list follows = record {
  moment = w.moment;
  now = w.now;
  pid = w.pid;
  count = w.count;
  unborn = w.unborn;
  undelivered = w.undelivered;
  numbered = w.numbered;
  kept = crew_looks places actors s events p i x y w.kept at.is name (look_member s events p x y at.member at.lives name ended status awaits paid follows);
  opens = on_told told (λ d. IsOpenTo d actors s) (λ d. IsOpenTo d (set actors i y) s) (λ d o. look_opens actors s i x y d at.is name list o) w.opens;
  led = w.led;
}

-- what it owed was handed in
pub paid_follows : (s : State) (events : List Kept) (p : ℕ) (x z : Held) (m : IsMember s events p x) → x.ended ≡ None
    → ((program : Program) (past : List Own) → ((at : ℕ) → x.owed ≡ Some at → Owes x events past at) → StandsFor x program past → Follows z.machine program past)
    → Follows z.machine m.actor.program m.actor.past
paid_follows s events p x z m lives pays = pays m.actor.program m.actor.past (m.owes lives) (m.follows lives)

acting : (s : State) (p : ℕ) (x : Held) (events : List Kept) (m : IsMember s events p x) → x.ended ≡ None → IsActing s x.name p m.actor
acting s p x events m lives = record { is = m.is; alive = member_alive s events p x m lives; in_order = m.in_order }

-- what it finds it may find
finds_in : (events : List Kept) (p : ℕ) (x : Held) (ready : Ready) (m : IsMember (known events) events p x) → ready ≡ found_by (known events) x.name m.actor.program → FindsIn events x.name m.actor ready
finds_in events p x ready m finds = λ t same. subst (MayFind t x.name m.actor.program m.actor.past) (sym finds) (found_finds (known events) t x.name m.actor.program m.actor.past same)

-- what is open after a call
call_open : (d e : Disk) (places : List ℕ → Option ℕ) (actors : List Held) (s : State) (events : List Kept) (p i : ℕ) (x y : Held) (ready : Ready) (at : StandsAt places actors s events p i x) (c : CallData) (got : Told)
    → AreActors places actors s events p → y.name ≡ x.name → y.descriptors.items ≡ open_after x.descriptors.items c got.answer
    → next_of at.member.actor.program at.member.actor.past p ready ≡ needs.File c → Apply d p c got.answer e
    → IsOpenTo d actors s → IsOpenTo e (set actors i y) (called s x.name p ready c got 0 (Some at.member.actor))
call_open d e places actors s events p i x y ready at c got crew name list due applied o =
    let opens : Opens d e s.holder (held_by s.holder x.name c got.answer) x.name c got.answer =
    subst (λ (e : Disk). Opens d e s.holder (held_by s.holder x.name c got.answer) x.name c got.answer) (sym applied.2) (opens_by d p c got.answer applied.0 s.holder x.name applied.1) in
    let uses : Uses (held at.member.actor.past) c = subst (UsesHeld (held at.member.actor.past)) due (due_uses s events p x ready at.member) in
    call_opens places actors s events p i x y at.member d e ready c got crew at.is (member_alive s events p x at.member at.lives) name list opens uses o

-- what one event of an actor is, as it goes on: a call, or what passes between programs

pub record IsCallOf (now : ℕ) (ready : Ready) (own : Own) : Type 0 where
  pub call : CallData
  pub told : Told
  pub is : own ≡ own_call now ready call told
  pub kind : IsAnswerTo call told.answer

call_of : (now : ℕ) (ready : Ready) (read : ℕ) (found : Ready) (due : NeedData) (came : GotData) → read ≡ now → found ≡ ready → IsCall due came
    → IsCallOf now ready (record { read = read; ready = found; due = due; came = came })
call_of now ready read found (needs.File c) (Answered got) r f carried = record {
  call = c;
  told = got;
  is = ap (λ (read : ℕ). own_call read found c got) r ∙ ap (λ (found : Ready). own_call now found c got) f;
  kind = carried.0;
}
call_of now ready read found (needs.File c) (came.Took bytes) r f carried = absurd carried
call_of now ready read found (needs.File c) came.End r f carried = absurd carried
call_of now ready read found (needs.File c) (came.Ended status) r f carried = absurd carried
call_of now ready read found (needs.File c) came.Crashed r f carried = absurd carried
call_of now ready read found (needs.File c) came.Gave r f carried = absurd carried
call_of now ready read found (needs.File c) (came.Started pid) r f carried = absurd carried
call_of now ready read found (needs.File c) came.Failed r f carried = absurd carried
call_of now ready read found (needs.File c) came.Memory r f carried = absurd carried
call_of now ready read found (needs.Take port) came r f carried = absurd carried
call_of now ready read found (needs.Give port bytes) came r f carried = absurd carried
call_of now ready read found (needs.Start child) came r f carried = absurd carried
call_of now ready read found (needs.Command bytes) came r f carried = absurd carried
call_of now ready read found needs.Wait came r f carried = absurd carried
call_of now ready read found (needs.Ended status) came r f carried = absurd carried

-- a world in which no member is a child, and of which no giving failed
pub record IsPlumbed (s : State) (events : List Kept) : Type 0 where
  pub whole : AreWholeGivings (reverse events)
  pub members : HaveNoSlots s.pipework

-- what led here goes on with what an actor did, and something like that is open
pub record GoesWith (old new : Option Disk) (places : List ℕ → Option ℕ) (actors : List Held) (events : List Kept) (p i : ℕ) (x y : Held) (m : IsMember (known events) events p x) (own : Own) : Type 0 where
  pub leads : LeadsOn old new events (events ++ kept.Act x.name own ∷ []) p p
  pub may : MayCome own.due own.came
  pub opens : OnTold new (λ d. IsOpenTo d (set actors i y) (acted (known events) x.name own 0 (Some m.actor)))
  pub led : OnTold new (λ d. IsLed d (events ++ kept.Act x.name own ∷ []) p)
  pub awaits : (c : List ℕ) (z : Actor) → (known events).actors c ≡ Some z → IsMail z.program → is_awaiting (acted (known events) x.name own 0 (Some m.actor)) c ≡ is_awaiting (known events) c

call_goes : (old new : Option Disk) (places : List ℕ → Option ℕ) (actors : List Held) (events : List Kept) (p n : ℕ) (b : Counts) (i : ℕ) (x y : Held) (ready : Ready) (c : CallData) (got : Told)
    → IsWorld old places actors (known events) events p n b → IsPlumbed (known events) events → (at : StandsAt places actors (known events) events p i x)
    → ready ≡ found_by (known events) x.name at.member.actor.program
    → y.name ≡ x.name → y.descriptors.items ≡ open_after x.descriptors.items c got.answer
    → IsAnswerTo c got.answer → next_of at.member.actor.program at.member.actor.past p ready ≡ needs.File c
    → Meets old new (λ d e. Apply d p c got.answer e × IsReadBy d c got)
    → GoesWith old new places actors events p i x y at.member (own_call p ready c got)
call_goes old new places actors events p n b i x y ready c got w plumbed at finds name list kind due made =
    let s = known events in
    let m = at.member in
    let k = kept_call x.name p ready c got in
    let t = called s x.name p ready c got 0 (Some m.actor) in
    let leads = call_told old new events p x.name m.actor ready c got plumbed.whole (acting s p x events m at.lives) (finds_in events p x ready m finds) due made in
    record {
      leads = leads;
      may = kind;
      opens = on_both old new (λ d. IsOpenTo d actors s) (λ d. IsOpenTo d (set actors i y) t) (λ d e. Apply d p c got.answer e × IsReadBy d c got)
          (λ d e applied o. call_open d e places actors s events p i x y ready at c got w.kept name list due applied.0 o) made w.opens;
      led = led_on old new (λ d e. Apply d p c got.answer e × IsReadBy d c got) events (events ++ k ∷ []) p p made leads w.led;
      awaits = λ c z there mail. refl;
    }

-- what a mail does passes nothing
pub acts_not : (w : Pipework) (pid most : ℕ) (a : List ℕ) (due : NeedData) (got : GotData) → IsAct due → IsNoAct due → Brings w pid most a due got → ⊥
acts_not w pid most a (needs.File c) got act none brings = none
acts_not w pid most a (needs.Take port) got act none brings = act
acts_not w pid most a (needs.Give port bytes) got act none brings = act
acts_not w pid most a (needs.Start child) got act none brings = act
acts_not w pid most a (needs.Command bytes) got act none brings = act
acts_not w pid most a needs.Wait got act none brings = brings
acts_not w pid most a (needs.Ended status) got act none brings = none

kind_may : (due : NeedData) (came : GotData) → IsNoAct due → IsKind due came → MayCome due came
kind_may (needs.File c) came none kind = absurd none
kind_may (needs.Take port) came none kind = kind
kind_may (needs.Give port bytes) came none kind = kind
kind_may (needs.Start asked) came none kind = kind
kind_may (needs.Command bytes) came none kind = kind
kind_may needs.Wait came none kind = kind
kind_may (needs.Ended status) came none kind = absurd none

pass_goes : (told : Option Disk) (places : List ℕ → Option ℕ) (actors : List Held) (events : List Kept) (p n : ℕ) (b : Counts) (i : ℕ) (x y : Held) (own : Own) (pid most : ℕ)
    → IsWorld told places actors (known events) events p n b → IsPlumbed (known events) events → (at : StandsAt places actors (known events) events p i x)
    → own.ready ≡ found_by (known events) x.name at.member.actor.program → own.read ≡ p → y.name ≡ x.name → y.descriptors.items ≡ opened_by x.descriptors.items own.due own.came
    → next_of at.member.actor.program at.member.actor.past own.read own.ready ≡ own.due → IsNoAct own.due → GivesToNone (known events).pipework x.name own.due
    → 1 ≤ most → Brings (known events).pipework pid most x.name own.due own.came
    → GoesWith told told places actors events p i x y at.member own
pass_goes told places actors events p n b i x y own pid most w plumbed at finds read name list due pass none many brings =
    let s = known events in
    let m = at.member in
    let comes : ComesIn events x.name own = λ t pipes same. comes_of t s.pipework pid most x.name own.due own.came pipes none many brings in
    let leads = pass_told told events p x.name m.actor own plumbed.whole (acting s p x events m at.lives) (finds_in events p x own.ready m finds) read due pass comes in
    let alone : (c : List ℕ) (z : Actor) → s.actors c ≡ Some z → IsMail z.program → c ≡ x.name → pipework_after s.pipework x.name own.due own.came 0 ≡ s.pipework = λ c z there mail same.
    let both : ◌≡◌ {A = Option Actor} (Some z) (Some m.actor) = sym there ∙ ap s.actors same ∙ m.is in
    let one : z ≡ m.actor = cc in
    absurd (acts_not s.pipework pid most x.name own.due own.came (subst IsAct due (program_acts m.actor.program (subst (λ (a : Actor). IsMail a.program) one mail) m.actor.past own.read own.ready)) pass brings) in
    let passes = passing own.due own.came pass in
    record {
      leads = leads;
      may = kind_may own.due own.came pass (brings_kind s.pipework pid most x.name own.due own.came brings);
      opens = on_told told (λ d. IsOpenTo d actors s) (λ d. IsOpenTo d (set actors i y) (acted s x.name own 0 (Some m.actor)))
          (λ d o. pass_opens places actors s events p i x y m d own w.kept at.is (member_alive s events p x m at.lives) name (list ∙ passes.opened x.descriptors.items) passes o) w.opens;
      led = led_still told events (events ++ kept.Act x.name own ∷ []) p p leads w.led;
      awaits = λ c z there mail. own_awaits s x.name m.actor own plumbed.members none c (alone c z there mail);
    }

-- what an actor has open can be closed
pub may_end : (told : Option Disk) (places : List ℕ → Option ℕ) (actors : List Held) (s : State) (events : List Kept) (p n : ℕ) (b : Counts) (i : ℕ) (x : Held)
    → IsWorld told places actors s events p n b → StandsAt places actors s events p i x → OnTold told (λ d. AreOpen d x.descriptors.items)
may_end told places actors s events p n b i x w at =
    on_told told (λ d. IsOpenTo d actors s) (λ d. AreOpen d x.descriptors.items) (λ d o. may_close d actors s i x at.is o) w.opens

-- to close its list is to close what it holds
shut_is : (old new : Option Disk) (places : List ℕ → Option ℕ) (actors : List Held) (s : State) (events : List Kept) (p n : ℕ) (b : Counts) (i : ℕ) (x : Held)
    → IsWorld old places actors s events p n b → StandsAt places actors s events p i x
    → Meets old new (λ d e. e ≡ shut x.descriptors.items d) → Meets old new (λ d e. e ≡ shut_by x.name s.holder d)
shut_is old new places actors s events p n b i x w at met =
    met_on old new (λ d. IsOpenTo d actors s) (λ d e. e ≡ shut x.descriptors.items d) (λ d e. e ≡ shut_by x.name s.holder d)
    (λ d e o is. is ∙ shut_listed d x.name s.holder x.descriptors.items (o.each i x at.is).lists) w.opens met

-- what led here goes on with an actor's end
end_leads_on : (old new : Option Disk) (places : List ℕ → Option ℕ) (actors : List Held) (events : List Kept) (p n : ℕ) (b : Counts) (i : ℕ) (x : Held) (ready : Ready) (status : ℕ)
    → IsWorld old places actors (known events) events p n b → (at : StandsAt places actors (known events) events p i x) → ready ≡ found_by (known events) x.name at.member.actor.program
    → AreWholeGivings (reverse events) → next_of at.member.actor.program at.member.actor.past p ready ≡ needs.Ended status
    → Meets old new (λ d e. e ≡ shut x.descriptors.items d)
    → LeadsOn old new events (events ++ kept.End x.name p ready status ∷ []) p p
end_leads_on old new places actors events p n b i x ready status w at finds whole due made =
    end_told old new events p x.name at.member.actor ready status whole (acting (known events) p x events at.member at.lives) (finds_in events p x ready at.member finds) due
    (shut_is old new places actors (known events) events p n b i x w at made)

-- and with its stop
stop_leads_on : (old new : Option Disk) (places : List ℕ → Option ℕ) (actors : List Held) (events : List Kept) (p n : ℕ) (b : Counts) (i : ℕ) (x : Held)
    → IsWorld old places actors (known events) events p n b → StandsAt places actors (known events) events p i x
    → Meets old new (λ d e. e ≡ shut x.descriptors.items d)
    → LeadsOn old new events (events ++ kept.Stop x.name ∷ []) p p
stop_leads_on old new places actors events p n b i x w at made =
    stop_told old new events p x.name at.member.actor (acting (known events) p x events at.member at.lives)
    (shut_is old new places actors (known events) events p n b i x w at made)

-- the actors once the one that is over has left
left_kept : (places : List ℕ → Option ℕ) (actors stood : List Held) (s t : State) (events : List Kept) (k : Kept) (p i : ℕ) (x y : Held)
    → AreActors places actors s events p → slice_get actors i ≡ Some x → y.name ≡ x.name → ActsAlone x.name s t k → ((a : List ℕ) → starts a k ≡ false)
    → IsMember t (events ++ k ∷ []) p y → Leaves actors stood s t i x y → AreActors places stood t (events ++ k ∷ []) p
left_kept places actors stood s t events k p i x y kept is name alone none member (inl same) =
    subst (λ (l : List Held). AreActors places l t (events ++ k ∷ []) p) (sym same.0)
    (crew_acts places actors s t events k p i x y kept is name alone none (λ b a there mail other. same.1 b a there mail) member)
left_kept places actors stood s t events k p i x y kept is name alone none member (inr cut) =
    subst (λ (l : List Held). AreActors places l t (events ++ k ∷ []) p) (sym cut.is)
    (crew_leaves places actors s t events k p i cut.place x y cut.old cut.new kept is cut.there cut.other name cut.cut.name alone none
    (λ j v m here beside other lives mail. m.awaits lives mail
    ∙ sym (cut.rest v.name m.actor m.is mail (apart_by places cut.old.name v.name cut.place j (kept.placed cut.place cut.old cut.there) (kept.placed j v here) beside)))
    member (cut_member s t events k p x.name cut.old cut.new alone cut.apart (kept.members cut.place cut.old cut.there) cut.cut cut.none))

left_opens : (told : Option Disk) (actors stood : List Held) (s t : State) (i : ℕ) (x y : Held) → Leaves actors stood s t i x y
    → OnTold told (λ d. IsOpenTo d (set actors i y) t) → OnTold told (λ d. IsOpenTo d stood t)
left_opens told actors stood s t i x y (inl same) opens = subst (λ (l : List Held). OnTold told (λ d. IsOpenTo d l t)) (sym same.0) opens
left_opens told actors stood s t i x y (inr cut) opens =
    subst (λ (l : List Held). OnTold told (λ d. IsOpenTo d l t)) (sym cut.is)
    (on_told told (λ d. IsOpenTo d (set actors i y) t) (λ d. IsOpenTo d (set (set actors i y) cut.place cut.new) t)
    (λ d o. look_opens (set actors i y) t cut.place cut.old cut.new d cut.mid cut.cut.name cut.cut.descriptors o) opens)

-- an actor ended or was stopped, and its child is given no input any more
pub finish_keeps : (old new : Option Disk) (places : List ℕ → Option ℕ) (actors stood : List Held) (pipes piped : List Mouths) (events later : List Kept) (p n : ℕ) (b : Counts) (i : ℕ) (x y : Held) (k : Kept) (life : Life) (status : Option ℕ)
    → IsWorld old places actors (known events) events p n b → (at : StandsAt places actors (known events) events p i x)
    → Finishes x.name k life status → IsFinished k status old new pipes piped x y events later → LeadsOn old new events (events ++ k ∷ []) p p
    → Leaves actors stood (known events) (finished (known events) x.name life (Some at.member.actor)) i x y → is_child k ≡ false
    → IsWorld new places stood (known later) later p n b
finish_keeps old new places actors stood pipes piped events later p n b i x y k life status w at f over on leaves none_born =
    let s = known events in
    let m = at.member in
    let t = finished s x.name life (Some m.actor) in
    let is : known (events ++ k ∷ []) ≡ t = known_push events k f.plain ∙ f.happens s ∙ ap (finished s x.name life) m.is in
    let name = over.name in
    let none_starts = f.none_starts in
    let member = finish_member s events p x y k life status m f at.lives name over.ended over.status_is over.descriptors in
    let alone = finish_alone s x.name m.actor k life status f in
    let opens : OnTold new (λ d. IsOpenTo d (set actors i y) t) = on_both old new (λ d. IsOpenTo d actors s) (λ d. IsOpenTo d (set actors i y) t) (λ d e. e ≡ shut_by x.name s.holder d)
    (λ d e is o. subst (λ (d : Disk). IsOpenTo d (set actors i y) t) (sym is) (finish_opens places actors s events p i x y m d life f.dead w.kept at.is name over.descriptors o))
    (shut_is old new places actors s events p n b i x w at over.closed) w.opens in
    subst (λ (l : List Kept). IsWorld new places stood (known l) l p n b) (sym over.event)
    (subst (λ (s : State). IsWorld new places stood s (events ++ k ∷ []) p n b) (sym is) (record {
      moment = w.moment;
      now = w.now;
      pid = w.pid ∙ sym (pid_push events k ∙ still_pid events k none_starts);
      count = w.count ∙ sym (still_count events k none_born);
      unborn = w.unborn;
      undelivered = w.undelivered;
      numbered = numbered_put s t x.name m.actor (record { program = m.actor.program; past = m.actor.past; life = life }) m.is refl refl (λ none. none) w.numbered;
      kept = left_kept places actors stood s t events k p i x y w.kept at.is name alone f.nobody_starts member leaves;
      opens = left_opens new actors stood s t i x y leaves opens;
      led = led_on old new (λ d e. e ≡ shut x.descriptors.items d) events (events ++ k ∷ []) p p over.closed on w.led;
    }))

-- a step of an actor
pub done_goes : (old new : Option Disk) (places : List ℕ → Option ℕ) (actors : List Held) (pipes piped : List Mouths) (pid : ℕ) (events later : List Kept) (p n : ℕ) (b : Counts) (i : ℕ) (x y : Held) (ready : Ready)
    → IsWorld old places actors (known events) events p n b → IsPlumbed (known events) events → (by : List ℕ → Option ℕ) → HasWires by pipes (known events).pipework x.name x.wire x.slot
    → (at : StandsAt places actors (known events) events p i x) → x.owed ≡ None
    → (done : HasDone old new pipes piped pid x y events later p ready) → GivesToNone (known events).pipework x.name done.own.due
    → (IsNoAct done.own.due → Brings (known events).pipework pid (takes_of x.machine) x.name done.own.due done.own.came → 1 ≤ takes_of x.machine) → ready ≡ found_by (known events) x.name at.member.actor.program
    → GoesWith old new places actors events p i x y at.member done.own
done_goes old new places actors pipes piped pid events later p n b i x y ready w plumbed by wired at paid done none many finds = by_passed done.passed where
  m : IsMember (known events) events p x
  m = at.member

  due : next_of m.actor.program m.actor.past p ready ≡ done.own.due
  due = done.due m.actor.program m.actor.past (stands_whole (known events) events p x m at.lives paid)

  by_passed : HasPassed x pipes piped pid (takes_of x.machine) done.own.due done.own.came → GoesWith old new places actors events p i x y m done.own
  by_passed (inl call) =
      let made = call_of p ready done.own.read done.own.ready done.own.due done.own.came done.read done.found call.0 in
      let is = made.is in
      subst (GoesWith old new places actors events p i x y m) (sym is)
      (call_goes old new places actors events p n b i x y ready made.call made.told w plumbed at finds done.name
      (done.descriptors ∙ ap (λ (own : Own). opened_by x.descriptors.items own.due own.came) is) made.kind
      (due ∙ ap (λ (own : Own). own.due) is)
      (subst (λ (own : Own). MakesOf p own.due own.came old new) is done.made))
  by_passed (inr pass) =
      let same = same_told old new (pass_made p done.own.due done.own.came old new pass.0 done.made) in
      let brings = pass.1.brings by (known events).pipework wired in
      subst (λ (new : Option Disk). GoesWith old new places actors events p i x y m done.own) (sym same)
      (pass_goes old places actors events p n b i x y done.own pid (takes_of x.machine) w plumbed at (done.found ∙ finds) done.read done.name done.descriptors
      (ap (λ (read : ℕ). next_of m.actor.program m.actor.past read done.own.ready) done.read ∙ ap (next_of m.actor.program m.actor.past p) done.found ∙ due) pass.0 none (many pass.0 brings) brings)

pub done_keeps : (old new : Option Disk) (places : List ℕ → Option ℕ) (actors : List Held) (pipes piped : List Mouths) (pid : ℕ) (events later : List Kept) (p n q : ℕ) (b : Counts) (i : ℕ) (x y : Held) (ready : Ready)
    → IsWorld old places actors (known events) events p n b → (at : StandsAt places actors (known events) events p i x) → x.owed ≡ None
    → (done : HasDone old new pipes piped pid x y events later p ready) → GoesWith old new places actors events p i x y at.member done.own
    → q ≡ min (n + starts_in (kept.Act x.name done.own)) (2 ^ 32 - 1)
    → IsWorld new places (set actors i y) (known later) later p q b
done_keeps old new places actors pipes piped pid events later p n q b i x y ready w at paid done goes next =
    let s = known events in
    let m = at.member in
    let own = done.own in
    let k = kept.Act x.name own in
    let t = acted s x.name own 0 (Some m.actor) in
    let is : known (events ++ k ∷ []) ≡ t = known_push events k tt ∙ ap (acted s x.name own 0) m.is in
    let follows = stands_whole s events p x m at.lives paid in
    let due : next_of m.actor.program m.actor.past own.read own.ready ≡ own.due =
    ap (λ (read : ℕ). next_of m.actor.program m.actor.past read own.ready) done.read ∙ ap (next_of m.actor.program m.actor.past p) done.found ∙ done.due m.actor.program m.actor.past follows in
    let was = w.pid in
    let pushed = pid_push events k in
    subst (λ (l : List Kept). IsWorld new places (set actors i y) (known l) l p q b) (sym done.event)
    (subst (λ (s : State). IsWorld new places (set actors i y) s (events ++ k ∷ []) p q b) (sym is) (record {
      moment = w.moment;
      now = w.now;
      pid = one_pid n q (sum_by starts_in events) (starts_in k) was next ∙ sym pushed;
      count = w.count ∙ sym (still_count events k refl);
      unborn = w.unborn;
      undelivered = w.undelivered;
      numbered = numbered_put s t x.name m.actor (record { program = m.actor.program; past = own ∷ m.actor.past; life = m.actor.life }) m.is refl refl (before_none own m.actor.past) w.numbered;
      kept = crew_acts places actors s t events k p i x y w.kept at.is done.name (own_alone s x.name m.actor own) (λ a. refl) (λ b a there mail other. goes.awaits b a there mail)
          (own_member s t events p x y own k m refl refl refl (put_at_same s.actors x.name _) at.lives done.name done.ended done.status
          (λ mail. done.awaits ∙ m.awaits at.lives mail ∙ sym (goes.awaits x.name m.actor m.is mail)) done.read due goes.may (done.follows m.actor.program m.actor.past follows) done.owes);
      opens = goes.opens;
      led = goes.led;
    }))

pub ended_keeps : (status : ℕ) (old new : Option Disk) (places : List ℕ → Option ℕ) (actors stood : List Held) (pipes piped : List Mouths) (events later : List Kept) (p n : ℕ) (b : Counts) (i : ℕ) (x y : Held) (ready : Ready)
    → IsWorld old places actors (known events) events p n b → (at : StandsAt places actors (known events) events p i x) → x.owed ≡ None
    → ready ≡ found_by (known events) x.name at.member.actor.program → AreWholeGivings (reverse events) → HasEnded status old new pipes piped x y events later p ready
    → Leaves actors stood (known events) (finished (known events) x.name (Over status) (Some at.member.actor)) i x y
    → IsWorld new places stood (known later) later p n b
ended_keeps status old new places actors stood pipes piped events later p n b i x y ready w at paid finds whole ended leaves =
    finish_keeps old new places actors stood pipes piped events later p n b i x y (kept.End x.name p ready status) (Over status) (Some status) w at (end_finishes x.name p ready status) ended.over
    (end_leads_on old new places actors events p n b i x ready status w at finds whole
    (ended.due at.member.actor.program at.member.actor.past (stands_whole (known events) events p x at.member at.lives paid)) ended.over.closed) leaves refl

pub ended_leads_on : (status : ℕ) (old new : Option Disk) (places : List ℕ → Option ℕ) (actors : List Held) (pipes piped : List Mouths) (events later : List Kept) (p n : ℕ) (b : Counts) (i : ℕ) (x y : Held) (ready : Ready)
    → IsWorld old places actors (known events) events p n b → (at : StandsAt places actors (known events) events p i x) → x.owed ≡ None
    → ready ≡ found_by (known events) x.name at.member.actor.program → AreWholeGivings (reverse events) → HasEnded status old new pipes piped x y events later p ready
    → LeadsOn old new events later p p
ended_leads_on status old new places actors pipes piped events later p n b i x y ready w at paid finds whole ended =
    subst (λ (l : List Kept). LeadsOn old new events l p p) (sym ended.over.event)
    (end_leads_on old new places actors events p n b i x ready status w at finds whole
    (ended.due at.member.actor.program at.member.actor.past (stands_whole (known events) events p x at.member at.lives paid)) ended.over.closed)

-- an actor was stopped
pub stopped_keeps : (old new : Option Disk) (places : List ℕ → Option ℕ) (actors stood : List Held) (pipes piped : List Mouths) (events later : List Kept) (p n : ℕ) (b : Counts) (i : ℕ) (x y : Held)
    → IsWorld old places actors (known events) events p n b → (at : StandsAt places actors (known events) events p i x) → IsFinished (kept.Stop x.name) None old new pipes piped x y events later
    → Leaves actors stood (known events) (finished (known events) x.name Stopped (Some at.member.actor)) i x y
    → IsWorld new places stood (known later) later p n b
stopped_keeps old new places actors stood pipes piped events later p n b i x y w at over leaves =
    finish_keeps old new places actors stood pipes piped events later p n b i x y (kept.Stop x.name) Stopped None w at (stop_finishes x.name) over
    (stop_leads_on old new places actors events p n b i x w at over.closed) leaves refl

pub stopped_leads_on : (old new : Option Disk) (places : List ℕ → Option ℕ) (actors : List Held) (pipes piped : List Mouths) (events later : List Kept) (p n : ℕ) (b : Counts) (i : ℕ) (x y : Held)
    → IsWorld old places actors (known events) events p n b → StandsAt places actors (known events) events p i x → IsFinished (kept.Stop x.name) None old new pipes piped x y events later
    → LeadsOn old new events later p p
stopped_leads_on old new places actors pipes piped events later p n b i x y w at over =
    subst (λ (l : List Kept). LeadsOn old new events l p p) (sym over.event) (stop_leads_on old new places actors events p n b i x w at over.closed)

-- a moment came
pub moment_keeps : (told : Option Disk) (places : List ℕ → Option ℕ) (actors : List Held) (events : List Kept) (p m n : ℕ) (b : Counts) → IsMoment m → p ≤ m
    → IsWorld told places actors (known events) events p n b
    → IsWorld told places actors (known (events ++ kept.Moment m ∷ [])) (events ++ kept.Moment m ∷ []) m n b
moment_keeps told places actors events p m n b moment later w =
    let s = known events in
    let k = kept.Moment m in
    let t = happens s (Moment m) in
    subst (λ (s : State). IsWorld told places actors s (events ++ k ∷ []) m n b) (sym (known_push events k tt)) (record {
      moment = moment;
      now = refl;
      pid = w.pid ∙ sym (pid_push events k ∙ still_pid events k refl);
      count = w.count ∙ sym (still_count events k refl);
      unborn = w.unborn;
      undelivered = w.undelivered;
      numbered = numbered_still s t refl w.numbered;
      kept = crew_waits places actors s t events k p m later w.kept refl refl (λ a. refl) (λ a. refl) (λ a. refl);
      opens = on_told told (λ d. IsOpenTo d actors s) (λ d. IsOpenTo d actors t) (λ d o. moment_opens actors s m d o) w.opens;
      led = led_still told events (events ++ k ∷ []) p m (moment_told told events p m moment later) w.led;
    })

-- the machine stopped
pub halt_keeps : (old new : Option Disk) (places : List ℕ → Option ℕ) (actors stood : List Held) (events : List Kept) (p n : ℕ) (b : Counts) (how : Survival)
    → IsWorld old places actors (known events) events p n b → AreCutOff (length events) actors stood → Meets old new (λ d e. Halts how d e)
    → IsWorld new places stood (known (events ++ kept.Halt how ∷ [])) (events ++ kept.Halt how ∷ []) p n b
halt_keeps old new places actors stood events p n b how w cut met =
    let s = known events in
    let k = kept.Halt how in
    let t = happens s (Halt how (λ _. [])) in
    let halted : Halted s t = record { actors = λ a. refl; holder = λ fd. refl } in
    subst (λ (s : State). IsWorld new places stood s (events ++ k ∷ []) p n b) (sym (known_push events k tt)) (record {
      moment = w.moment;
      now = w.now;
      pid = w.pid ∙ sym (pid_push events k ∙ still_pid events k refl);
      count = w.count ∙ sym (still_count events k refl);
      unborn = w.unborn;
      undelivered = w.undelivered;
      numbered = numbered_halt s t (λ a. refl) w.numbered;
      kept = crew_halts places actors stood s t events how p w.kept halted cut;
      opens = on_both old new (λ d. IsOpenTo d actors s) (λ d. IsOpenTo d stood t) (λ d e. Halts how d e)
          (λ d e halts o. halt_opens (length events) actors stood s t e halted cut) met w.opens;
      led = led_on old new (λ d e. Halts how d e) events (events ++ k ∷ []) p p met (halt_told old new events p how met) w.led;
    })

-- each actor that was started is over then
pub all_over : (places : List ℕ → Option ℕ) (actors : List Held) (s : State) (events : List Kept) (p : ℕ) (how : Survival) (a : List ℕ)
    → AreActors places actors s events p → was_started events a ≡ true → (at : ℕ) × EndsAt (events ++ kept.Halt how ∷ []) a at
all_over places actors s events p how a crew was = by_place (places a) refl where
  over : (o : Option ℕ) → (at : ℕ) × (span_after a (kept.Halt how) (length events) (span_by o) ≡ OverAt at)
  over None = (length events, refl)
  over (Some at) = (at, refl)

  by_place : (o : Option ℕ) → places a ≡ o → (at : ℕ) × EndsAt (events ++ kept.Halt how ∷ []) a at
  by_place None is = let both : ◌≡◌ {A = Bool} true false = sym was ∙ crew.started a ∙ ap is_some is in absurd (cc)
  by_place (Some i) is =
      let x = some_at (λ (x : Held). x.name ≡ a) (slice_get actors i) (crew.named a i is) in
      let spans = ap (λ (a : List ℕ). span_of a (reverse events)) (sym x.2) ∙ (crew.members i x.0 x.1).spans in
      let last = over x.0.ended in
      (last.0, span_push events (kept.Halt how) a ∙ ap (span_after a (kept.Halt how) (length events)) spans ∙ last.1)

-- the actor that a place has
pub stands_at : (told : Option Disk) (places : List ℕ → Option ℕ) (actors : List Held) (s : State) (events : List Kept) (p n : ℕ) (b : Counts) (i : ℕ) (a : List ℕ) (x : Held)
    → IsWorld told places actors s events p n b → places a ≡ Some i → IsSomeAnd (slice_get actors i) (λ x. x.ended ≡ None) → x ≡ get_or actors i x
    → StandsAt places actors s events p i x × (x.name ≡ a)
stands_at told places actors s events p n b i a x w place lives read =
    let named = some_at (λ (x : Held). x.name ≡ a) (slice_get actors i) (w.kept.named a i place) in
    let same : named.0 ≡ x = sym (get_or_from_slice_get actors i named.0 x named.1) ∙ sym read in
    let is : slice_get actors i ≡ Some x = named.1 ∙ ap Some same in (
      record { is = is; member = w.kept.members i x is; lives = subst (λ (o : Option Held). IsSomeAnd o (λ x. x.ended ≡ None)) is lives },
      ap (λ (x : Held). x.name) (sym same) ∙ named.2,
    )

pub in_range : (told : Option Disk) (places : List ℕ → Option ℕ) (actors : List Held) (s : State) (events : List Kept) (p n : ℕ) (b : Counts) (a : List ℕ)
    → IsWorld told places actors s events p n b → (i : ℕ) → places a ≡ Some i → i < length actors
in_range told places actors s events p n b a w i place =
    let named = some_at (λ (x : Held). x.name ≡ a) (slice_get actors i) (w.kept.named a i place) in
    slice_get_within actors i named.0 named.1

-- what led here goes on with a start
pub start_leads_on : (told : Option Disk) (places : List ℕ → Option ℕ) (actors : List Held) (events : List Kept) (p n : ℕ) (b : Counts) (a : List ℕ) (program : Program) → IsMail program
    → IsWorld told places actors (known events) events p n b → places a ≡ None → LeadsOn told told events (events ++ kept.Start a program ∷ []) p p
start_leads_on told places actors events p n b a program mail w new = start_told told events p a program mail (w.kept.strangers a new).unknown

-- who runs alone may be a mail
mail_alone : (program : Program) → IsMail program → IsAlone program
mail_alone (Injector args) mail = tt
mail_alone other mail = absurd mail

-- a mail is no delivery
no_delivery_mail : (program : Program) → IsMail program → IsDelivery program → ⊥
no_delivery_mail (Injector args) mail delivers = delivers
no_delivery_mail other mail delivers = mail

-- an actor started
pub start_keeps : (told : Option Disk) (places next : List ℕ → Option ℕ) (actors : List Held) (events : List Kept) (p n q : ℕ) (b : Counts) (y : Held) (a : List ℕ) (program : Program) → IsMail program → is_member a ≡ false → IsMailName a
    → IsWorld told places actors (known events) events p n b → places a ≡ None → ((b : List ℕ) → next b ≡ put_at places a (Some (length actors)) b)
    → y.name ≡ a → y.ended ≡ None → y.status ≡ None → y.owed ≡ None → y.descriptors.items ≡ [] → Follows y.machine program [] → awaits_of y.machine ≡ is_awaiting (known events) a
    → start_of program ≡ p → q ≡ min (n + 1) (2 ^ 32 - 1)
    → IsWorld told next (actors ++ y ∷ []) (known (events ++ kept.Start a program ∷ [])) (events ++ kept.Start a program ∷ []) p q b
start_keeps told places next actors events p n q b y a program mail named lettered w new put name ended status paid list follows awaits start pid =
    let s = known events in
    let k = kept.Start a program in
    let t = happens s (Start a program) in
    let was = w.pid in
    subst (λ (s : State). IsWorld told next (actors ++ y ∷ []) s (events ++ k ∷ []) p q b) (sym (known_push events k tt)) (record {
      moment = w.moment;
      now = w.now;
      pid = omega (arith, pid_push events k);
      count = w.count ∙ sym (still_count events k refl);
      unborn = λ m more. put (bounce_name m) ∙ put_at_other places a (Some (length actors)) (bounce_name m) (mail_no_bounce a m lettered) ∙ w.unborn m more;
      undelivered = λ m more. let old = w.undelivered m more in (
        put (delivery_name m) ∙ put_at_other places a (Some (length actors)) (delivery_name m) (mail_no_delivery a m lettered) ∙ old.0,
        put (forward_of (delivery_name m)) ∙ put_at_other places a (Some (length actors)) (forward_of (delivery_name m)) (mail_no_forward a m lettered) ∙ old.1,
      );
      numbered = numbered_start s t a program refl (no_delivery_mail program mail) (λ m. mail_no_forward a m lettered) w.numbered;
      kept = crew_starts places actors s t events k p a y next w.kept new put name (start_alone s a program) (λ b other. refl)
          (start_member s events p y a program (subst (λ (o : Option ℕ). RunsAt o program) (sym (seat_none a named)) (mail_alone program mail)) (w.kept.strangers a new) name ended status paid follows awaits start);
      opens = on_told told (λ d. IsOpenTo d actors s) (λ d. IsOpenTo d (actors ++ y ∷ []) t)
          (λ d o. start_opens places actors s events p y a program d w.kept new name list o) w.opens;
      led = led_still told events (events ++ k ∷ []) p p (start_leads_on told places actors events p n b a program mail w new) w.led;
    })

-- a world without actors
pub new_keeps : (told : Option Disk) (places : List ℕ → Option ℕ) → ((a : List ℕ) → places a ≡ None) → IsWorld told places [] (known []) [] 0 77 (counted 0 0)
new_keeps told places none = record {
  moment = omega arith;
  now = refl;
  pid = refl;
  count = refl;
  unborn = λ m more. none (bounce_name m);
  undelivered = λ m more. (none (delivery_name m), none (forward_of (delivery_name m)));
  numbered = λ a x there. absurd (cc);
  kept = record {
    placed = λ i x is. absurd (cc);
    members = λ i x is. absurd (cc);
    named = λ a i at. let both : ◌≡◌ {A = Option ℕ} None (Some i) = sym (none a) ∙ at in absurd (cc);
    strangers = λ a is. record { unknown = refl; unborn = refl; holds_none = λ fd. refl };
    started = λ a. sym (ap is_some (none a));
  };
  opens = every told (λ d. IsOpenTo d [] (known [])) (λ d. record { held = λ fd a is. absurd (cc); each = λ i x is. absurd (cc) });
  led = every told (λ d. IsLed d [] 0) (λ d. (d, [], record { allowed = tt; told = tt; named = tt; disk = refl; moment = refl }));
} where
  every : {X : Type 0} (t : Option X) (P : X → Type 0) → ((x : X) → P x) → OnTold t P
  every None P f = tt
  every (Some x) P f = f x

-- the event of a step

call_whole : (s : State) (pid : ℕ) (a : List ℕ) (program : Program) (due : NeedData) (came : GotData) → IsCall due came → ComesWhole s pid a program due came
call_whole s pid a program (needs.File c) (Answered got) call = (got, refl)
call_whole s pid a program (needs.File c) (came.Took bytes) call = absurd call
call_whole s pid a program (needs.File c) came.End call = absurd call
call_whole s pid a program (needs.File c) (came.Ended status) call = absurd call
call_whole s pid a program (needs.File c) came.Crashed call = absurd call
call_whole s pid a program (needs.File c) came.Gave call = absurd call
call_whole s pid a program (needs.File c) (came.Started q) call = absurd call
call_whole s pid a program (needs.File c) came.Failed call = absurd call
call_whole s pid a program (needs.File c) came.Memory call = absurd call
call_whole s pid a program (needs.Take port) came call = absurd call
call_whole s pid a program (needs.Give port bytes) came call = absurd call
call_whole s pid a program (needs.Start child) came call = absurd call
call_whole s pid a program (needs.Command bytes) came call = absurd call
call_whole s pid a program needs.Wait came call = absurd call
call_whole s pid a program (needs.Ended status) came call = absurd call

-- nothing of a child was due, so that only a remote program starts
pass_whole : (s : State) (pid : ℕ) (a : List ℕ) (has : ℕ → Bool) (program : Program) (due : NeedData) (came : GotData) → is_due_of_child has due ≡ false
    → Brings s.pipework pid (most_of program) a due came → ComesWhole s pid a program due came
pass_whole s pid a has program (needs.File c) came own brings = absurd brings
pass_whole s pid a has program (needs.Take (port.Status d)) came own brings = subst (λ (o : Option Tenant). EndsInWorld s o came) (sym brings.0) brings.1
pass_whole s pid a has program (needs.Take port.Input) came own brings = brings
pass_whole s pid a has program (needs.Take port.Output) came own brings = brings
pass_whole s pid a has program (needs.Take port.Clean) came own brings = brings
pass_whole s pid a has program (needs.Take port.Lspawn) came own brings = brings
pass_whole s pid a has program (needs.Take port.Rspawn) came own brings = brings
pass_whole s pid a has program (needs.Take port.Todo) came own brings = brings
pass_whole s pid a has program (needs.Take (port.Program d)) came own brings = brings
pass_whole s pid a has program (needs.Give port bytes) came own brings = brings
pass_whole s pid a has program (needs.Start (child.Bounce room)) came own brings = absurd brings
pass_whole s pid a has program (needs.Start (child.Forward uid room)) came own brings = absurd brings
pass_whole s pid a has program (needs.Start (child.Local slot words uid)) came own brings = absurd brings
pass_whole s pid a has program (needs.Start (child.Remote slot domain sender recipient)) came own brings = brings
pass_whole s pid a has program (needs.Command bytes) came own brings = brings
pass_whole s pid a has program needs.Wait came own brings = absurd brings
pass_whole s pid a has program (needs.Ended status) came own brings = absurd brings

-- and it is kept as an event of its own
call_kept : (s : State) (before : Counts) (a : List ℕ) (own : Own) (due : NeedData) (came : GotData) → IsCall due came → IsKeptBy s before a own due came (kept.Act a own)
call_kept s before a own (needs.File c) came call = refl
call_kept s before a own (needs.Take port) came call = absurd call
call_kept s before a own (needs.Give port bytes) came call = absurd call
call_kept s before a own (needs.Start asked) came call = absurd call
call_kept s before a own (needs.Command bytes) came call = absurd call
call_kept s before a own needs.Wait came call = absurd call
call_kept s before a own (needs.Ended status) came call = absurd call

slot_kept : (s : State) (a : List ℕ) (own : Own) (bytes : List ℕ) (o : Option Tenant) → ((c : List ℕ) → o ≡ Some (Runs c) → ⊥) → IsKeptGiving s o a own bytes (kept.Act a own)
slot_kept s a own bytes None none = refl
slot_kept s a own bytes (Some (Remote reported)) none = refl
slot_kept s a own bytes (Some (Runs c)) none = absurd (none c refl)

pass_kept : (s : State) (pid most : ℕ) (before : Counts) (a : List ℕ) (own : Own) (due : NeedData) (came : GotData) → GivesToNone s.pipework a due → Brings s.pipework pid most a due came
    → IsKeptBy s before a own due came (kept.Act a own)
pass_kept s pid most before a own (needs.Give (port.Program d) bytes) came none brings =
    subst (λ (came : GotData). IsKeptBy s before a own (needs.Give (port.Program d) bytes) came (kept.Act a own)) (sym brings) (slot_kept s a own bytes (s.pipework.programs a d) none)
pass_kept s pid most before a own (needs.Start (child.Bounce room)) came none brings = absurd brings
pass_kept s pid most before a own (needs.Start (child.Forward uid room)) came none brings = absurd brings
pass_kept s pid most before a own (needs.Start (child.Local slot words uid)) came none brings = absurd brings
pass_kept s pid most before a own (needs.Start (child.Remote slot domain sender recipient)) came none brings =
    subst (λ (came : GotData). IsKeptBy s before a own (needs.Start (child.Remote slot domain sender recipient)) came (kept.Act a own)) (sym brings) refl
pass_kept s pid most before a own due came none brings = refl

pub done_step : {D : Type 0} (d e : D) (old new : Option Disk) (pipes piped : List Mouths) (events later : List Kept) (p : ℕ) (a : List ℕ) (x y : Held) (has : ℕ → Bool) (ready : Ready)
    → x.name ≡ a → (m : IsMember (known events) events p x) → x.ended ≡ None → x.owed ≡ None → ready ≡ found_by (known events) x.name m.actor.program
    → (by : List ℕ → Option ℕ) → HasWires by pipes (known events).pipework x.name x.wire x.slot → is_due_of_child has (next_of m.actor.program m.actor.past p ready) ≡ false
    → (done : HasDone old new pipes piped (next_pid events) x y events later p ready) → GivesToNone (known events).pipework x.name done.own.due
    → IsStep a None (record { disk = d; events = events; present = p }) (record { disk = e; events = later; present = p })
done_step d e old new pipes piped events later p a x y has ready name m lives paid finds by wired mine done none =
    let s = known events in
    let follows = stands_whole s events p x m lives paid in
    let due = done.due m.actor.program m.actor.past follows in
    let here : found_in s x.name ≡ ready = ap (found_at s x.name) m.is ∙ sym finds in
    let own = done.own in
    let came : ComesWhole s (next_pid events) x.name m.actor.program own.due own.came = ⊎_elim
    (λ call. call_whole s (next_pid events) x.name m.actor.program own.due own.came call.0)
    (λ pass.
    let brings = pass.1.brings by s.pipework wired in
    ⊎_elim
    (λ mail. absurd (acts_not s.pipework (next_pid events) (takes_of x.machine) x.name own.due own.came
    (subst IsAct due (program_acts m.actor.program mail m.actor.past p ready)) pass.0 brings))
    (λ takes. pass_whole s (next_pid events) x.name has m.actor.program own.due own.came (ap (is_due_of_child has) (sym due) ∙ mine)
    (subst (λ (most : ℕ). Brings s.pipework (next_pid events) most x.name own.due own.came) takes brings))
    (machine_takes x.machine m.actor.program m.actor.past follows))
    done.passed in
    let kept_so : IsKeptBy s (counts_in events) x.name own own.due own.came (kept.Act x.name own) = ⊎_elim
    (λ call. call_kept s (counts_in events) x.name own own.due own.came call.0)
    (λ pass. pass_kept s (next_pid events) (takes_of x.machine) (counts_in events) x.name own own.due own.came none (pass.1.brings by s.pipework wired))
    done.passed in
    subst (λ (a : List ℕ). IsStep a None (record { disk = d; events = events; present = p }) (record { disk = e; events = later; present = p })) name (
      own,
      kept.Act x.name own,
      record {
        actor = m.actor;
        is = m.is;
        read = done.read;
        ready = done.found ∙ sym here;
        due = ap (next_of m.actor.program m.actor.past p) here ∙ due;
        came = came;
      },
      kept_so,
      done.event,
    )

pub ended_step : {D : Type 0} (d e : D) (status : ℕ) (old new : Option Disk) (pipes piped : List Mouths) (events later : List Kept) (p : ℕ) (a : List ℕ) (x y : Held) (ready : Ready)
    → x.name ≡ a → (m : IsMember (known events) events p x) → x.ended ≡ None → x.owed ≡ None → ready ≡ found_by (known events) x.name m.actor.program
    → HasEnded status old new pipes piped x y events later p ready
    → IsStep a (Some status) (record { disk = d; events = events; present = p }) (record { disk = e; events = later; present = p })
ended_step d e status old new pipes piped events later p a x y ready name m lives paid finds ended =
    let s = known events in
    let here : ready ≡ found_in s x.name = finds ∙ sym (ap (found_at s x.name) m.is) in
    subst (λ (a : List ℕ). IsStep a (Some status) (record { disk = d; events = events; present = p }) (record { disk = e; events = later; present = p })) name (
      record {
        actor = m.actor;
        is = m.is;
        due = ap (next_of m.actor.program m.actor.past p) (sym here) ∙ ended.due m.actor.program m.actor.past (stands_whole s events p x m lives paid);
      },
      ended.over.event ∙ ap (λ (ready : Ready). events ++ kept.End x.name p ready status ∷ []) here,
    )
