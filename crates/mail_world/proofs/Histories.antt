-- What led to a world's disk goes on with one event more; and if it began with an opening disk, it is legal.
use Rattle.std.specs.Prelude.{All, if◌then◌else◌}
use Rattle.std.proofs.Common.{◌≡◌, ◌≢◌, inl, inr, ℕ, ◌≤◌, List, [], ◌∷◌, ◌++◌, Bool, true, false, Option, Some, None, IsSomeAnd, refl, sym, ap, ◌∙◌, subst, arith, bytes_eq, codes, reverse}
use Rattle.std.specs.List.{AllZip}
use Rattle.call_fs.specs.declared.calls.CallData.{CallData}
use Rattle.call_fs.specs.declared.calls.Told.{Told}
use Rattle.call_fs.specs.declared.program.Ready.{Ready}
use Rattle.call_fs.specs.declared.crash_file_system.Survival.{Survival}
use Rattle.call_fs.specs.Survival.{AllSurvive, halted}
use Rattle.call_fs.specs.Choices.{Halts, contents_by}
use Rattle.call_fs.specs.Disk.{Disk}
use Rattle.mail_bytes.specs.Moments.{IsMoment}
use Rattle.call_fs.specs.Apply.{effect, Fits, Apply, IsReadBy}
use Rattle.call_fs.specs.declared.past.ChildData.{ChildData}
use Rattle.call_fs.specs.declared.past.GotData.{GotData}
use Rattle.call_fs.specs.declared.past.GotData.TheVariants as got
use Rattle.call_fs.specs.declared.past.NeedData.{NeedData}
use Rattle.call_fs.specs.declared.past.NeedData.TheVariants as needs
use Rattle.call_fs.specs.declared.program.Port.TheVariants as port
use Rattle.mail_bytes.specs.Told.{OnTold, Meets}
use Rattle.world_events.specs.declared.event.Program.{Program}
use Rattle.world_events.specs.declared.event.Program.TheVariants.{Injector}
use Rattle.world_events.specs.Inputs.{with_texts, start_with, with_inputs}
use Rattle.call_fs.specs.declared.past.Own.{Own}
use Rattle.world_events.specs.declared.event.Event.{Event as Kept}
use Rattle.world_events.specs.declared.event.Event.TheVariants as kept
use Rattle.mail_world.specs.History.{Event, call_act, own_call, netstring, report_text, start_of, Actor, Life, State, next_of, acted, MayRun, MayFind, MayReport, Allowed, MayRead, ComesOf, IsFed, IsInputOf, IsProgramOf, happens, called, finished, shut_by, after, latest, Opening, EachAllowed, Legal}
use Rattle.mail_world.specs.History.Event.{Start, Act, Child, Generation, Report, End, Stop, Moment, Halt}
use Rattle.mail_world.specs.History.Life.{Alive}
use Rattle.mail_world.specs.World.{Tells, begun_with, IsBefore, IsByName, AreByName, Leads, IsHistory}
use Rattle.mail_world.specs.Pipework.{Pipework, Tenant, is_member}
use Rattle.mail_world.specs.Pipework.Tenant.{Runs}
use Rattle.mail_world.specs.Wired.{AreWholeGivings}
use Rattle.mail_world.specs.Acting.{IsNoAct}
use Rattle.mail_world.specs.Inside.{IsApart, HasJustStarted, IsLed, known}
use Rattle.mail_world.specs.Anew.{IsSameButInput, AreApart, idle, AreAlikeBut}
use Rattle.mail_world.specs.Anew.{IsApart as IsApartFrom}
use Rattle.mail_world.proofs.Known.{IsPlain, AreAlike, all_first, all_rest, inputs_push, inputs_fed, after_known, known_pipework}
use Rattle.mail_world.proofs.Anew.{some_is, begin_anew}
use Rattle.mail_world.proofs.Members.{contained_member}
use Rattle.mail_world.proofs.Passes.{passing}
use Rattle.mail_world.proofs.Tests.{same_text, other_text}
use Rattle.mail_world.specs.ByKind.{IsMail}
use Rattle.mail_world.proofs.Programs.{mail_runs}
use Rattle.world_events.specs.Programs.{crew_at}

history_push : (o d : Disk) (events : List Kept) (p : ℕ) (h : List Event) (k : Kept) (e : Event)
    → IsPlain k → Leads o d events p h → Tells k e → Allowed (after o h) e → IsByName (after o h).disk e
    → Leads o (happens (after o h) e).disk (events ++ k ∷ []) (happens (after o h) e).now (e ∷ h)
history_push o d events p h k e plain is told allowed named = record {
  allowed = (is.allowed, allowed);
  named = (is.named, named);
  told = subst (λ (l : List Kept). AllZip Tells l (e ∷ h)) (sym (inputs_push events k plain)) (told, is.told);
  disk = refl;
  moment = refl;
}

called_disk : (s : State) (a : List ℕ) (read : ℕ) (ready : Ready) (call : CallData) (got : Told) (w : ℕ) (o : Option Actor) (x : Actor)
    → o ≡ Some x → (called s a read ready call got w o).disk ≡ effect s.disk read call got.answer w
called_disk s a read ready call got w o x is = subst (λ (o : Option Actor). (called s a read ready call got w o).disk ≡ effect s.disk read call got.answer w) (sym is) refl

called_now : (s : State) (a : List ℕ) (read : ℕ) (ready : Ready) (call : CallData) (got : Told) (w : ℕ) (o : Option Actor) → (called s a read ready call got w o).now ≡ s.now
called_now s a read ready call got w None = refl
called_now s a read ready call got w (Some x) = refl

finished_disk : (s : State) (a : List ℕ) (life : Life) (o : Option Actor) (x : Actor) → o ≡ Some x → (finished s a life o).disk ≡ shut_by a s.holder s.disk
finished_disk s a life o x is = subst (λ (o : Option Actor). (finished s a life o).disk ≡ shut_by a s.holder s.disk) (sym is) refl

finished_now : (s : State) (a : List ℕ) (life : Life) (o : Option Actor) → (finished s a life o).now ≡ s.now
finished_now s a life None = refl
finished_now s a life (Some x) = refl

-- it may find this ready in each state with these pipes and slots
abbrev pub FindsIn : List Kept → List ℕ → Actor → Ready → Type 0
FindsIn events a x ready = (t : State) → t.pipework ≡ (known events).pipework → MayFind t a x.program x.past ready

-- what came of it may come in each state with these pipes, slots and actors
abbrev pub ComesIn : List Kept → List ℕ → Own → Type 0
ComesIn events a own = (t : State) → t.pipework ≡ (known events).pipework → t.actors ≡ (known events).actors → ComesOf t a own.due own.came 0

-- a living actor that has read no moment after the present one
pub record IsActing (s : State) (a : List ℕ) (present : ℕ) (x : Actor) : Type 0 where
  pub is : s.actors a ≡ Some x
  pub alive : x.life ≡ Alive
  pub in_order : latest x.program x.past ≤ present

may_read : (s t : State) (a : List ℕ) (p : ℕ) (x : Actor) → AreAlike s t → s.now ≡ p → IsActing t a p x → MayRead s a x p
may_read s t a p x same now acts = record {
  is = ap (λ (m : List ℕ → Option Actor). m a) same.actors ∙ acts.is;
  alive = acts.alive;
  no_earlier = acts.in_order;
  no_later = omega arith;
  no_stall = omega arith;
}

-- an actor's file call, as it is kept
abbrev pub kept_call : List ℕ → ℕ → Ready → CallData → Told → Kept
kept_call a read ready call told = kept.Act a (own_call read ready call told)

call_goes_on : (o d d' : Disk) (events : List Kept) (p : ℕ) (h : List Event) (a : List ℕ) (x : Actor) (ready : Ready) (call : CallData) (got : Told)
    → Leads o d events p h → AreWholeGivings (reverse events) → IsActing (known events) a p x → FindsIn events a x ready → next_of x.program x.past p ready ≡ needs.File call
    → Apply d p call got.answer d' → IsReadBy d call got
    → (e : Event) × Leads o d' (events ++ kept_call a p ready call got ∷ []) p (e ∷ h)
call_goes_on o d d' events p h a x ready call got is whole acts finds due applied bytes =
    let s = after o h in
    let w = applied.0 in
    let e : Event = call_act a p ready call got w in
    let k : Kept = kept_call a p ready call got in
    let reads : MayRead s a x p = may_read s (known events) a p x (after_known o events h is.told) is.moment acts in
    let allowed : Allowed s e = record {
      actor = x;
      reads = reads;
      finds = finds s (known_pipework o events h is.told whole);
      due = due;
      came = (
        subst (λ (d : Disk). Fits d call got.answer w) (sym is.disk) applied.1,
        subst (λ (d : Disk). IsReadBy d call got) (sym is.disk) bytes,
      );
    } in
    let next = history_push o d events p h k e tt is refl allowed tt in (
      e,
      record {
        allowed = next.allowed;
        told = next.told;
        named = next.named;
        disk = called_disk s a p ready call got w (s.actors a) x reads.is ∙ ap (λ (d : Disk). effect d p call got.answer w) is.disk ∙ sym applied.2;
        moment = called_now s a p ready call got w (s.actors a) ∙ is.moment;
      },
    )

-- what passes between programs
pass_goes_on : (o d : Disk) (events : List Kept) (p : ℕ) (h : List Event) (a : List ℕ) (x : Actor) (own : Own)
    → Leads o d events p h → AreWholeGivings (reverse events) → IsActing (known events) a p x → FindsIn events a x own.ready → own.read ≡ p
    → next_of x.program x.past own.read own.ready ≡ own.due → IsNoAct own.due → ComesIn events a own
    → (e : Event) × Leads o d (events ++ kept.Act a own ∷ []) p (e ∷ h)
pass_goes_on o d events p h a x own is whole acts finds read due pass comes =
    let s = after o h in
    let e : Event = Act a own 0 in
    let k : Kept = kept.Act a own in
    let same = after_known o events h is.told in
    let pipes = known_pipework o events h is.told whole in
    let reads : MayRead s a x own.read = subst (MayRead s a x) (sym read) (may_read s (known events) a p x same is.moment acts) in
    let passes = passing own.due own.came pass in
    let allowed : Allowed s e = record { actor = x; reads = reads; finds = finds s pipes; due = due; came = comes s pipes same.actors } in
    let next = history_push o d events p h k e tt is refl allowed tt in (
      e,
      record {
        allowed = next.allowed;
        told = next.told;
        named = next.named;
        disk = ap (λ (m : Option Actor). (acted s a own 0 m).disk) reads.is ∙ passes.disk s.disk own.read 0 ∙ is.disk;
        moment = ap (λ (m : Option Actor). (acted s a own 0 m).now) reads.is ∙ is.moment;
      },
    )

-- a child starts, with the event of its parent
child_goes_on : (o d : Disk) (events : List Kept) (p : ℕ) (h : List Event) (a : List ℕ) (x : Actor) (own : Own) (c : List ℕ) (program : Program) (asked : ChildData) (pid : ℕ)
    → Leads o d events p h → AreWholeGivings (reverse events) → IsActing (known events) a p x → FindsIn events a x own.ready → own.read ≡ p
    → next_of x.program x.past own.read own.ready ≡ own.due → own.due ≡ needs.Start asked → own.came ≡ got.Started pid
    → (known events).actors c ≡ None → IsProgramOf asked pid program → start_of program ≡ p
    → (e : Event) × Leads o d (events ++ kept.Child a own c program ∷ []) p (e ∷ h)
child_goes_on o d events p h a x own c program asked pid is whole acts finds read due starts came new runs began =
    let s = after o h in
    let e : Event = Child a own c program in
    let k : Kept = kept.Child a own c program in
    let same = after_known o events h is.told in
    let now = is.moment in
    let reads : MayRead s a x own.read = subst (MayRead s a x) (sym read) (may_read s (known events) a p x same is.moment acts) in
    let passes = passing own.due own.came (subst IsNoAct (sym starts) tt) in
    let allowed : Allowed s e = record {
      actor = x;
      reads = reads;
      finds = finds s (known_pipework o events h is.told whole);
      due = due;
      asked = asked;
      starts = starts;
      pid = pid;
      came = came;
      new = ap (λ (m : List ℕ → Option Actor). m c) same.actors ∙ new;
      is = runs;
      no_earlier = omega arith;
      no_later = omega arith;
    } in
    let next = history_push o d events p h k e tt is refl allowed tt in (
      e,
      record {
        allowed = next.allowed;
        told = next.told;
        named = next.named;
        disk = ap (λ (m : Option Actor). (acted s a own 0 m).disk) reads.is ∙ passes.disk s.disk own.read 0 ∙ is.disk;
        moment = ap (λ (m : Option Actor). (acted s a own 0 m).now) reads.is ∙ is.moment;
      },
    )

-- an event with which an actor is over
finish_goes_on : (o d : Disk) (events : List Kept) (p : ℕ) (h : List Event) (a : List ℕ) (x : Actor) (life : Life) (k : Kept) (e : Event)
    → IsPlain k → Leads o d events p h → (known events).actors a ≡ Some x → Tells k e → Allowed (after o h) e → IsByName (after o h).disk e
    → happens (after o h) e ≡ finished (after o h) a life ((after o h).actors a)
    → Leads o (shut_by a (known events).holder d) (events ++ k ∷ []) p (e ∷ h)
finish_goes_on o d events p h a x life k e plain is there tells allowed named over =
    let s = after o h in
    let same = after_known o events h is.told in
    let here : s.actors a ≡ Some x = ap (λ (m : List ℕ → Option Actor). m a) same.actors ∙ there in
    let next = history_push o d events p h k e plain is tells allowed named in record {
      allowed = next.allowed;
      told = next.told;
      named = next.named;
      disk = ap (λ (t : State). t.disk) over ∙ finished_disk s a life (s.actors a) x here ∙ ap (λ (g : ℕ → Option (List ℕ)). shut_by a g s.disk) same.holder ∙ ap (shut_by a (known events).holder) is.disk;
      moment = ap (λ (t : State). t.now) over ∙ finished_now s a life (s.actors a) ∙ is.moment;
    }

end_goes_on : (o d : Disk) (events : List Kept) (p : ℕ) (h : List Event) (a : List ℕ) (x : Actor) (ready : Ready) (status : ℕ)
    → Leads o d events p h → AreWholeGivings (reverse events) → IsActing (known events) a p x → FindsIn events a x ready → next_of x.program x.past p ready ≡ needs.Ended status
    → (e : Event) × Leads o (shut_by a (known events).holder d) (events ++ kept.End a p ready status ∷ []) p (e ∷ h)
end_goes_on o d events p h a x ready status is whole acts finds due =
    let s = after o h in
    let e : Event = End a p ready status in
    let reads : MayRead s a x p = may_read s (known events) a p x (after_known o events h is.told) is.moment acts in
    let allowed : Allowed s e = record { actor = x; reads = reads; finds = finds s (known_pipework o events h is.told whole); due = due } in
    (e, finish_goes_on o d events p h a x (Life.Over status) (kept.End a p ready status) e tt is acts.is refl allowed tt refl)

stop_goes_on : (o d : Disk) (events : List Kept) (p : ℕ) (h : List Event) (a : List ℕ) (x : Actor)
    → Leads o d events p h → IsActing (known events) a p x
    → (e : Event) × Leads o (shut_by a (known events).holder d) (events ++ kept.Stop a ∷ []) p (e ∷ h)
stop_goes_on o d events p h a x is acts =
    let s = after o h in
    let e : Event = Stop a in
    let reads : MayRead s a x p = may_read s (known events) a p x (after_known o events h is.told) is.moment acts in
    let allowed : Allowed s e = record { actor = x; is = reads.is; alive = reads.alive } in
    (e, finish_goes_on o d events p h a x Life.Stopped (kept.Stop a) e tt is acts.is refl allowed tt refl)

moment_goes_on : (o d : Disk) (events : List Kept) (p m : ℕ) (h : List Event) → IsMoment m → p ≤ m
    → Leads o d events p h → (e : Event) × Leads o d (events ++ kept.Moment m ∷ []) m (e ∷ h)
moment_goes_on o d events p m h moment later is =
    let s = after o h in
    let e : Event = Moment m in
    let now = is.moment in
    let allowed : Allowed s e = record { moment = moment; no_earlier = omega arith } in
    let next = history_push o d events p h (kept.Moment m) e tt is refl allowed tt in
    (e, record { allowed = next.allowed; told = next.told; named = next.named; disk = is.disk; moment = refl })

start_goes_on : (o d : Disk) (events : List Kept) (p : ℕ) (h : List Event) (a : List ℕ) (program : Program) → IsMail program
    → Leads o d events p h → (known events).actors a ≡ None
    → (e : Event) × Leads o d (events ++ kept.Start a program ∷ []) p (e ∷ h)
start_goes_on o d events p h a program mail is new =
    let s = after o h in
    let e : Event = Start a program in
    let same = after_known o events h is.told in
    let allowed : Allowed s e = record {
      new = ap (λ (m : List ℕ → Option Actor). m a) same.actors ∙ new;
      runs = mail_runs program mail;
    } in
    let next = history_push o d events p h (kept.Start a program) e tt is refl allowed tt in
    (e, record { allowed = next.allowed; told = next.told; named = next.named; disk = is.disk; moment = is.moment })

-- who has a member's name lives no more, and started with its generation
abbrev pub AreGone : State → Type 0
AreGone s = (a : List ℕ) (x : Actor) → is_member a ≡ true → s.actors a ≡ Some x → (x.life ≢ Alive) × (MayRun x.program → ⊥)

-- a generation starts when no member of the one before lives
generation_goes_on : (o d : Disk) (events : List Kept) (p : ℕ) (h : List Event)
    → Leads o d events p h → AreGone (known events)
    → (e : Event) × Leads o d (events ++ kept.Generation p ∷ []) p (e ∷ h)
generation_goes_on o d events p h is gone =
    let s = after o h in
    let e : Event = Generation (crew_at p) in
    let same = after_known o events h is.told in
    let allowed : Allowed s e = record {
      over = λ a x among there. (gone a x (contained_member a among) (ap (λ (m : List ℕ → Option Actor). m a) (sym same.actors) ∙ there)).0;
      apart = λ a x among there. (gone a x (contained_member a among) (ap (λ (m : List ℕ → Option Actor). m a) (sym same.actors) ∙ there)).1;
      kinds = (tt, (tt, (tt, (tt, tt))));
    } in
    let told : Tells (kept.Generation p) e = (p, refl, refl) in
    let next = history_push o d events p h (kept.Generation p) e tt is told allowed tt in
    (e, record { allowed = next.allowed; told = next.told; named = next.named; disk = is.disk; moment = is.moment })

-- a report of a remote program that has none
report_goes_on : (o d : Disk) (events : List Kept) (p : ℕ) (h : List Event) (slot letter : ℕ) (text : List ℕ)
    → Leads o d events p h → AreWholeGivings (reverse events) → MayReport (known events) slot
    → (e : Event) × Leads o d (events ++ kept.Report slot letter text ∷ []) p (e ∷ h)
report_goes_on o d events p h slot letter text is whole may =
    let s = after o h in
    let e : Event = Report slot (report_text letter text) in
    let same = after_known o events h is.told in
    let pipes = known_pipework o events h is.told whole in
    let allowed : Allowed s e = record {
      lives = record { actor = may.lives.actor; is = ap (λ (m : List ℕ → Option Actor). m (codes "rspawn")) same.actors ∙ may.lives.is; alive = may.lives.alive };
      runs = ap (λ (w : Pipework). w.programs (codes "rspawn") slot) pipes ∙ may.runs;
    } in
    let next = history_push o d events p h (kept.Report slot letter text) e tt is (letter, text, refl, refl) allowed tt in
    (e, record { allowed = next.allowed; told = next.told; named = next.named; disk = is.disk; moment = is.moment })

halt_goes_on : (o d e : Disk) (events : List Kept) (p : ℕ) (h : List Event) (how : Survival) (halts : Halts how d e)
    → Leads o d events p h → Leads o e (events ++ kept.Halt how ∷ []) p (Halt how (contents_by how d halts.numbers) ∷ h)
halt_goes_on o d e events p h how halts is =
    let s = after o h in
    let contents = contents_by how d halts.numbers in
    let allowed : AllSurvive s.disk contents = subst (λ (d : Disk). AllSurvive d contents) (sym is.disk) halts.survive in
    let named : IsByName s.disk (Halt how contents) =
    subst (λ (d : Disk). IsByName d (Halt how contents)) (sym is.disk) (halts.numbers, halts.are_named, refl) in
    let next = history_push o d events p h (kept.Halt how) (Halt how contents) tt is refl allowed named in
    record { allowed = next.allowed; told = next.told; named = next.named; disk = ap (halted contents) is.disk ∙ sym halts.left; moment = is.moment }

-- A child is given its whole input

-- a history that is told, with these texts in the start of that child, is told by the kept events with them

began_by_name : (c message envelope : List ℕ) (ks : List Kept) (h : List Event) (parent : List ℕ) (own : Own) (a : List ℕ) (program : Program) (t : Bool)
    → AllZip Tells ks h → AllZip Tells (start_with c message envelope ks) (begun_with c message envelope h)
    → AllZip Tells (if t then (kept.Child parent own a (with_texts message envelope program)) ∷ ks else (kept.Child parent own a program ∷ start_with c message envelope ks))
    (if t then (Child parent own a (with_texts message envelope program)) ∷ h else (Child parent own a program ∷ begun_with c message envelope h))
began_by_name c message envelope ks h parent own a program true told began = (refl, told)
began_by_name c message envelope ks h parent own a program false told began = (refl, began)

-- these tell these, with these texts in the start of that child
abbrev TellsBegun : List ℕ → List ℕ → List ℕ → List Kept → List Event → Event → Kept → Type 0
TellsBegun c message envelope ks h e k = AllZip Tells (start_with c message envelope (k ∷ ks)) (begun_with c message envelope (e ∷ h))

began_event : (c message envelope : List ℕ) (ks : List Kept) (h : List Event) (k : Kept) (e : Event) → Tells k e → AllZip Tells ks h
    → AllZip Tells (start_with c message envelope ks) (begun_with c message envelope h) → TellsBegun c message envelope ks h e k
began_event c message envelope ks h k e is told began = by_event e is where
  by_event : (e : Event) → Tells k e → TellsBegun c message envelope ks h e k
  by_event (Start a program) is = subst (TellsBegun c message envelope ks h (Start a program)) (sym is) (refl, began)
  by_event (Act a own wrote) is = subst (TellsBegun c message envelope ks h (Act a own wrote)) (sym is) (refl, began)
  by_event (Child parent own a program) is = subst (TellsBegun c message envelope ks h (Child parent own a program)) (sym is) (began_by_name c message envelope ks h parent own a program (bytes_eq a c) told began)
  by_event (Generation crew) is = subst (TellsBegun c message envelope ks h (Generation crew)) (sym is.1) ((is.0, refl, is.2), began)
  by_event (Report slot output) is = subst (TellsBegun c message envelope ks h (Report slot output)) (sym is.2) ((is.0, is.1, refl, is.3), began)
  by_event (End a read ready status) is = subst (TellsBegun c message envelope ks h (End a read ready status)) (sym is) (refl, began)
  by_event (Stop a) is = subst (TellsBegun c message envelope ks h (Stop a)) (sym is) (refl, began)
  by_event (Moment m) is = subst (TellsBegun c message envelope ks h (Moment m)) (sym is) (refl, began)
  by_event (Halt how contents) is = subst (TellsBegun c message envelope ks h (Halt how contents)) (sym is) (refl, began)

pub began_told : (c message envelope : List ℕ) (ks : List Kept) (h : List Event) → AllZip Tells ks h → AllZip Tells (start_with c message envelope ks) (begun_with c message envelope h)
began_told c message envelope [] [] told = tt
began_told c message envelope [] (e ∷ h) told = absurd told
began_told c message envelope (k ∷ ks) [] told = absurd told
began_told c message envelope (k ∷ ks) (e ∷ h) told = began_event c message envelope ks h k e told.0 told.1 (began_told c message envelope ks h told.1)

-- an event of a history, by the kept one, and what is told anew before it
apart_event : (parent c message envelope : List ℕ) (k : Kept) (e : Event) (h : List Event) → Tells k e → IsApart parent c k
    → IsApartFrom parent c e × (begun_with c message envelope (e ∷ h) ≡ e ∷ begun_with c message envelope h)
apart_event parent c message envelope k (Start a program) h is apart = (tt, refl)
apart_event parent c message envelope k (Act a own wrote) h is apart = (subst (IsApart parent c) is apart, refl)
apart_event parent c message envelope k (Child a own b program) h is apart =
    let far = subst (IsApart parent c) is apart in (
      (far.0, far.1),
      ap (λ (t : Bool). if t then (Child a own b (with_texts message envelope program)) ∷ h else (Child a own b program ∷ begun_with c message envelope h)) (other_text b c far.2),
    )
apart_event parent c message envelope k (Generation crew) h is apart = (tt, refl)
apart_event parent c message envelope k (Report slot output) h is apart = (tt, refl)
apart_event parent c message envelope k (End a read ready status) h is apart = ((subst (IsApart parent c) is apart).1, refl)
apart_event parent c message envelope k (Stop a) h is apart = (tt, refl)
apart_event parent c message envelope k (Moment m) h is apart = (tt, refl)
apart_event parent c message envelope k (Halt how contents) h is apart = (tt, refl)

-- the start of a child in a history, if neither the child nor its parent did anything since
record IsBegun (parent : List ℕ) (own : Own) (c : List ℕ) (program : Program) (message envelope : List ℕ) (h : List Event) : Type 0 where
  later : List Event
  before : List Event
  are : h ≡ later ++ Child parent own c program ∷ before
  begun : begun_with c message envelope h ≡ later ++ Child parent own c (with_texts message envelope program) ∷ before
  apart : AreApart parent c later

begun_at : (parent : List ℕ) (own : Own) (c : List ℕ) (program : Program) (message envelope : List ℕ) (k : Kept) (e : Event) (h : List Event)
    → k ≡ kept.Child parent own c program → Tells k e → IsBegun parent own c program message envelope (e ∷ h)
begun_at parent own c program message envelope k (Child a other b runs) h here is =
    let same : kept.Child parent own c program ≡ kept.Child a other b runs = sym here ∙ is in
    let one : Child a other b runs ≡ Child parent own c program = cc in
    record {
      later = [];
      before = h;
      are = ap (λ (e : Event). e ∷ h) one;
      begun = ap (λ (e : Event). begun_with c message envelope (e ∷ h)) one
          ∙ ap (λ (t : Bool). if t then (Child parent own c (with_texts message envelope program)) ∷ h else (Child parent own c program ∷ begun_with c message envelope h)) (same_text c);
      apart = tt;
    }
begun_at parent own c program message envelope k (Start a runs) h here is = let no : kept.Child parent own c program ≡ kept.Start a runs = sym here ∙ is in absurd (cc)
begun_at parent own c program message envelope k (Act a other wrote) h here is = let no : kept.Child parent own c program ≡ kept.Act a other = sym here ∙ is in absurd (cc)
begun_at parent own c program message envelope k (Generation crew) h here is = let no : kept.Child parent own c program ≡ kept.Generation is.0 = sym here ∙ is.1 in absurd (cc)
begun_at parent own c program message envelope k (Report slot output) h here is = let no : kept.Child parent own c program ≡ kept.Report slot is.0 is.1 = sym here ∙ is.2 in absurd (cc)
begun_at parent own c program message envelope k (End a read ready status) h here is = let no : kept.Child parent own c program ≡ kept.End a read ready status = sym here ∙ is in absurd (cc)
begun_at parent own c program message envelope k (Stop a) h here is = let no : kept.Child parent own c program ≡ kept.Stop a = sym here ∙ is in absurd (cc)
begun_at parent own c program message envelope k (Moment m) h here is = let no : kept.Child parent own c program ≡ kept.Moment m = sym here ∙ is in absurd (cc)
begun_at parent own c program message envelope k (Halt how contents) h here is = let no : kept.Child parent own c program ≡ kept.Halt how = sym here ∙ is in absurd (cc)

begun_in : (parent : List ℕ) (own : Own) (c : List ℕ) (program : Program) (message envelope : List ℕ) (later before : List Kept) (h : List Event)
    → AllZip Tells (later ++ kept.Child parent own c program ∷ before) h → All (IsApart parent c) later → IsBegun parent own c program message envelope h
begun_in parent own c program message envelope [] before [] told apart = absurd told
begun_in parent own c program message envelope [] before (e ∷ h) told apart = begun_at parent own c program message envelope (kept.Child parent own c program) e h refl told.0
begun_in parent own c program message envelope (k ∷ later) before [] told apart = absurd told
begun_in parent own c program message envelope (k ∷ later) before (e ∷ h) told apart =
    let rest = begun_in parent own c program message envelope later before h told.1 (all_rest (IsApart parent c) k later apart) in
    let one = apart_event parent c message envelope k e h told.0 (all_first (IsApart parent c) k later apart) in
    record {
      later = e ∷ rest.later;
      before = rest.before;
      are = ap (λ (l : List Event). e ∷ l) rest.are;
      begun = one.1 ∙ ap (λ (l : List Event). e ∷ l) rest.begun;
      apart = (one.0, rest.apart);
    }

-- an injector with these texts is the same one but for its input, which they are
given_texts : (message envelope : List ℕ) (program : Program) → IsMail program
    → IsSameButInput program (with_texts message envelope program) × IsInputOf (with_texts message envelope program) (netstring message ++ netstring envelope)
given_texts message envelope (Injector args) mail = (record { uid_is = refl; pid_is = refl; invoked_is = refl; start_is = refl }, (refl, refl, refl))
given_texts message envelope other mail = absurd mail

-- what a machine stop left is of its name in the history that is told anew
named_anew : (o : Disk) (later before : List Event) (parent c : List ℕ) (own : Own) (program other : Program)
    → IsSameButInput program other → AreApart parent c later → EachAllowed o (later ++ Child parent own c program ∷ before)
    → AreByName o (later ++ Child parent own c program ∷ before) → AreByName o (later ++ Child parent own c other ∷ before)
named_anew o [] before parent c own program other same apart allowed named = (named.0, tt)
named_anew o (e ∷ later) before parent c own program other same apart allowed named = (
  named_anew o later before parent c own program other same apart.1 allowed.0 named.0,
  subst (λ (d : Disk). IsByName d e) (sym (begin_anew o later before parent c own program other same apart.1 allowed.0).1.disk) named.1,
)

-- what a child that has these texts as its input is given is its input
pub is_fed : (t : State) (c : List ℕ) (program : Program) (life : Life) (bytes : List ℕ) (o : Option Tenant) → o ≡ Some (Runs c) → t.actors c ≡ Some (idle program life) → IsInputOf program bytes → IsFed t o bytes
is_fed t c program life bytes o runs there input = subst (λ (o : Option Tenant). IsFed t o bytes) (sym runs)
    (λ x is. let same : x ≡ idle program life = some_is x (idle program life) (sym is ∙ there) in subst (λ (x : Actor). IsInputOf x.program bytes) (sym same) input)

comes_fed : (t : State) (a c : List ℕ) (slot : ℕ) (bytes : List ℕ) (due : NeedData) (came : GotData) → due ≡ needs.Give (port.Program slot) bytes → came ≡ got.Gave
    → IsFed t (t.pipework.programs a slot) bytes → ComesOf t a due came 0
comes_fed t a c slot bytes due came is gave fed =
    subst (λ (due : NeedData). ComesOf t a due came 0) (sym is) (subst (λ (came : GotData). ComesOf t a (needs.Give (port.Program slot) bytes) came 0) (sym gave) fed)

-- a child's whole input is given to it: in the history that led here it stood in the child's start
feed_goes_on : (o d : Disk) (events : List Kept) (p : ℕ) (h : List Event) (a : List ℕ) (x : Actor) (own : Own) (slot : ℕ) (c message envelope : List ℕ)
    → Leads o d events p h → AreWholeGivings (reverse events) → IsActing (known events) a p x → FindsIn events a x own.ready → own.read ≡ p
    → next_of x.program x.past own.read own.ready ≡ own.due → own.due ≡ needs.Give (port.Program slot) (netstring message ++ netstring envelope) → own.came ≡ got.Gave
    → (known events).pipework.programs a slot ≡ Some (Runs c) → a ≢ c → (just : HasJustStarted events a c) → IsMail just.program
    → Leads o d (events ++ kept.Feed a own c message envelope ∷ []) p (Act a own 0 ∷ begun_with c message envelope h)
feed_goes_on o d events p h a x own slot c message envelope is whole acts finds read due gives gave runs other just mail =
    let s = after o h in
    let e : Event = Act a own 0 in
    let same = after_known o events h is.told in
    let began = begun_in a just.own c just.program message envelope just.later just.before h (subst (λ (l : List Kept). AllZip Tells l h) just.are is.told) just.apart in
    let anew = with_texts message envelope just.program in
    let old = began.later ++ Child a just.own c just.program ∷ began.before in
    let new = began.later ++ Child a just.own c anew ∷ began.before in
    let allowed_old : EachAllowed o old = subst (EachAllowed o) began.are is.allowed in
    let texts = given_texts message envelope just.program mail in
    let all = begin_anew o began.later began.before a c just.own just.program anew texts.0 began.apart allowed_old in
    let named : AreByName o new = named_anew o began.later began.before a c just.own just.program anew texts.0 began.apart allowed_old (subst (AreByName o) began.are is.named) in
    let t = after o new in
    let alike : AreAlikeBut c just.program anew s t = subst (λ (l : List Event). AreAlikeBut c just.program anew (after o l) t) (sym began.are) all.1 in
    let pipes : t.pipework ≡ (known events).pipework = alike.pipework ∙ known_pipework o events h is.told whole in
    let now : t.now ≡ p = alike.now ∙ is.moment in
    let reads : MayRead t a x own.read = record {
      is = alike.others a other ∙ ap (λ (m : List ℕ → Option Actor). m a) same.actors ∙ acts.is;
      alive = acts.alive;
      no_earlier = let order = acts.in_order in omega arith;
      no_later = omega arith;
      no_stall = omega arith;
    } in
    let fed = is_fed t c anew alike.life (netstring message ++ netstring envelope) (t.pipework.programs a slot) (ap (λ (w : Pipework). w.programs a slot) pipes ∙ runs) alike.is texts.1 in
    let allowed : Allowed t e = record {
      actor = x;
      reads = reads;
      finds = finds t pipes;
      due = due;
      came = comes_fed t a c slot (netstring message ++ netstring envelope) own.due own.came gives gave fed;
    } in
    let passes = passing own.due own.came (subst IsNoAct (sym gives) tt) in
    let one : Leads o d (events ++ kept.Feed a own c message envelope ∷ []) p (e ∷ new) = record {
      allowed = (all.0, allowed);
      told = subst (λ (l : List Kept). AllZip Tells l (e ∷ new)) (sym (inputs_fed events a own c message envelope))
          (refl, subst (λ (l : List Event). AllZip Tells (start_with c message envelope (with_inputs (reverse events))) l) began.begun (began_told c message envelope (with_inputs (reverse events)) h is.told));
      named = (named, tt);
      disk = ap (λ (m : Option Actor). (acted t a own 0 m).disk) reads.is ∙ passes.disk t.disk own.read 0 ∙ alike.disk ∙ is.disk;
      moment = ap (λ (m : Option Actor). (acted t a own 0 m).now) reads.is ∙ now;
    } in
    subst (λ (l : List Event). Leads o d (events ++ kept.Feed a own c message envelope ∷ []) p (e ∷ l)) (sym began.begun) one

-- whatever led to the old disk, one event more leads to the new one; if it gives a child its input, the child began with it
abbrev pub LeadsOn : Option Disk → Option Disk → List Kept → List Kept → ℕ → ℕ → Type 0
LeadsOn old new events later p q = (o : Disk) (h : List Event) → IsSomeAnd old (λ d. Leads o d events p h)
    → (e : Event) × (before : List Event) × IsBefore e h before × IsSomeAnd new (λ d. Leads o d later q (e ∷ before))

pub call_told : (old new : Option Disk) (events : List Kept) (p : ℕ) (a : List ℕ) (x : Actor) (ready : Ready) (call : CallData) (got : Told)
    → AreWholeGivings (reverse events) → IsActing (known events) a p x → FindsIn events a x ready → next_of x.program x.past p ready ≡ needs.File call
    → Meets old new (λ d d'. Apply d p call got.answer d' × IsReadBy d call got) → LeadsOn old new events (events ++ kept_call a p ready call got ∷ []) p p
call_told (Some d) (Some d') events p a x ready call got whole acts finds due met o h is =
    let next = call_goes_on o d d' events p h a x ready call got is whole acts finds due met.0 met.1 in (next.0, h, inl refl, next.1)
call_told (Some d) None events p a x ready call got whole acts finds due met o h is = absurd met
call_told None new events p a x ready call got whole acts finds due met o h is = absurd is

pub end_told : (old new : Option Disk) (events : List Kept) (p : ℕ) (a : List ℕ) (x : Actor) (ready : Ready) (status : ℕ)
    → AreWholeGivings (reverse events) → IsActing (known events) a p x → FindsIn events a x ready → next_of x.program x.past p ready ≡ needs.Ended status
    → Meets old new (λ d d'. d' ≡ shut_by a (known events).holder d) → LeadsOn old new events (events ++ kept.End a p ready status ∷ []) p p
end_told (Some d) (Some d') events p a x ready status whole acts finds due met o h is =
    let next = end_goes_on o d events p h a x ready status is whole acts finds due in
    (next.0, h, inl refl, subst (λ (d : Disk). Leads o d (events ++ kept.End a p ready status ∷ []) p (next.0 ∷ h)) (sym met) next.1)
end_told (Some d) None events p a x ready status whole acts finds due met o h is = absurd met
end_told None new events p a x ready status whole acts finds due met o h is = absurd is

pub stop_told : (old new : Option Disk) (events : List Kept) (p : ℕ) (a : List ℕ) (x : Actor)
    → IsActing (known events) a p x → Meets old new (λ d d'. d' ≡ shut_by a (known events).holder d)
    → LeadsOn old new events (events ++ kept.Stop a ∷ []) p p
stop_told (Some d) (Some d') events p a x acts met o h is =
    let next = stop_goes_on o d events p h a x is acts in
    (next.0, h, inl refl, subst (λ (d : Disk). Leads o d (events ++ kept.Stop a ∷ []) p (next.0 ∷ h)) (sym met) next.1)
stop_told (Some d) None events p a x acts met o h is = absurd met
stop_told None new events p a x acts met o h is = absurd is

pub pass_told : (told : Option Disk) (events : List Kept) (p : ℕ) (a : List ℕ) (x : Actor) (own : Own)
    → AreWholeGivings (reverse events) → IsActing (known events) a p x → FindsIn events a x own.ready → own.read ≡ p → next_of x.program x.past own.read own.ready ≡ own.due
    → IsNoAct own.due → ComesIn events a own → LeadsOn told told events (events ++ kept.Act a own ∷ []) p p
pass_told (Some d) events p a x own whole acts finds read due pass comes o h is =
    let next = pass_goes_on o d events p h a x own is whole acts finds read due pass comes in (next.0, h, inl refl, next.1)
pass_told None events p a x own whole acts finds read due pass comes o h is = absurd is

pub child_told : (told : Option Disk) (events : List Kept) (p : ℕ) (a : List ℕ) (x : Actor) (own : Own) (c : List ℕ) (program : Program) (asked : ChildData) (pid : ℕ)
    → AreWholeGivings (reverse events) → IsActing (known events) a p x → FindsIn events a x own.ready → own.read ≡ p → next_of x.program x.past own.read own.ready ≡ own.due
    → own.due ≡ needs.Start asked → own.came ≡ got.Started pid → (known events).actors c ≡ None → IsProgramOf asked pid program → start_of program ≡ p
    → LeadsOn told told events (events ++ kept.Child a own c program ∷ []) p p
child_told (Some d) events p a x own c program asked pid whole acts finds read due starts came new runs began o h is =
    let next = child_goes_on o d events p h a x own c program asked pid is whole acts finds read due starts came new runs began in (next.0, h, inl refl, next.1)
child_told None events p a x own c program asked pid whole acts finds read due starts came new runs began o h is = absurd is

pub feed_told : (told : Option Disk) (events : List Kept) (p : ℕ) (a : List ℕ) (x : Actor) (own : Own) (slot : ℕ) (c message envelope : List ℕ)
    → AreWholeGivings (reverse events) → IsActing (known events) a p x → FindsIn events a x own.ready → own.read ≡ p → next_of x.program x.past own.read own.ready ≡ own.due
    → own.due ≡ needs.Give (port.Program slot) (netstring message ++ netstring envelope) → own.came ≡ got.Gave
    → (known events).pipework.programs a slot ≡ Some (Runs c) → a ≢ c → (just : HasJustStarted events a c) → IsMail just.program
    → LeadsOn told told events (events ++ kept.Feed a own c message envelope ∷ []) p p
feed_told (Some d) events p a x own slot c message envelope whole acts finds read due gives gave runs other just mail o h is = (
  Act a own 0,
  begun_with c message envelope h,
  inr (record { parent = a; own = own; slot = slot; child = c; message = message; envelope = envelope; is = refl; due = gives; came = gave; later_is = refl }),
  feed_goes_on o d events p h a x own slot c message envelope is whole acts finds read due gives gave runs other just mail,
)
feed_told None events p a x own slot c message envelope whole acts finds read due gives gave runs other just mail o h is = absurd is

pub generation_told : (told : Option Disk) (events : List Kept) (p : ℕ) → AreGone (known events)
    → LeadsOn told told events (events ++ kept.Generation p ∷ []) p p
generation_told (Some d) events p gone o h is = let next = generation_goes_on o d events p h is gone in (next.0, h, inl refl, next.1)
generation_told None events p gone o h is = absurd is

pub report_told : (told : Option Disk) (events : List Kept) (p slot letter : ℕ) (text : List ℕ) → AreWholeGivings (reverse events) → MayReport (known events) slot
    → LeadsOn told told events (events ++ kept.Report slot letter text ∷ []) p p
report_told (Some d) events p slot letter text whole may o h is = let next = report_goes_on o d events p h slot letter text is whole may in (next.0, h, inl refl, next.1)
report_told None events p slot letter text whole may o h is = absurd is

pub moment_told : (told : Option Disk) (events : List Kept) (p m : ℕ) → IsMoment m → p ≤ m → LeadsOn told told events (events ++ kept.Moment m ∷ []) p m
moment_told (Some d) events p m moment later o h is = let next = moment_goes_on o d events p m h moment later is in (next.0, h, inl refl, next.1)
moment_told None events p m moment later o h is = absurd is

pub start_told : (told : Option Disk) (events : List Kept) (p : ℕ) (a : List ℕ) (program : Program) → IsMail program
    → (known events).actors a ≡ None → LeadsOn told told events (events ++ kept.Start a program ∷ []) p p
start_told (Some d) events p a program mail new o h is = let next = start_goes_on o d events p h a program mail is new in (next.0, h, inl refl, next.1)
start_told None events p a program mail new o h is = absurd is

-- a machine stop, with contents that are those of its name
pub halt_leads : (old new : Option Disk) (events : List Kept) (p : ℕ) (how : Survival) → Meets old new (λ d e. Halts how d e)
    → (o : Disk) (h : List Event) → IsSomeAnd old (λ d. Leads o d events p h)
    → (contents : ℕ → List ℕ) × IsSomeAnd new (λ d. Leads o d (events ++ kept.Halt how ∷ []) p (Halt how contents ∷ h))
halt_leads (Some d) (Some e) events p how met o h is = (contents_by how d met.numbers, halt_goes_on o d e events p h how met is)
halt_leads (Some d) None events p how met o h is = absurd met
halt_leads None new events p how met o h is = absurd is

pub halt_told : (old new : Option Disk) (events : List Kept) (p : ℕ) (how : Survival) → Meets old new (λ d e. Halts how d e)
    → LeadsOn old new events (events ++ kept.Halt how ∷ []) p p
halt_told old new events p how met o h is = let next = halt_leads old new events p how met o h is in (Halt how next.0, h, inl refl, next.1)

-- so, if a history led to the old disk, one leads to the new one
pub led_on : (old new : Option Disk) (R : Disk → Disk → Type 0) (events later : List Kept) (p q : ℕ)
    → Meets old new R → LeadsOn old new events later p q → OnTold old (λ d. IsLed d events p) → OnTold new (λ d. IsLed d later q)
led_on None None R events later p q met on led = tt
led_on None (Some e) R events later p q met on led = absurd met
led_on (Some d) None R events later p q met on led = absurd met
led_on (Some d) (Some e) R events later p q met on led = let next = on led.0 led.1 led.2 in (led.0, next.0 ∷ next.1, next.3)

pub led_still : (told : Option Disk) (events later : List Kept) (p q : ℕ)
    → LeadsOn told told events later p q → OnTold told (λ d. IsLed d events p) → OnTold told (λ d. IsLed d later q)
led_still None events later p q on led = tt
led_still (Some d) events later p q on led = led_on (Some d) (Some d) (λ d e. d ≡ e) events later p q refl on led

-- a legal history is one that began with an opening disk, and of which each event might happen when it did
pub legal_by : (d : Disk) (h : List Event) → Opening d → EachAllowed d h → Legal d h
legal_by d [] opens allowed = opens
legal_by d (e ∷ h) opens allowed = (legal_by d h opens allowed.0, allowed.1)

pub legal_opens : (d : Disk) (h : List Event) → Legal d h → Opening d
legal_opens d [] legal = legal
legal_opens d (e ∷ h) legal = legal_opens d h legal.0

pub legal_allowed : (d : Disk) (h : List Event) → Legal d h → EachAllowed d h
legal_allowed d [] legal = tt
legal_allowed d (e ∷ h) legal = (legal_allowed d h legal.0, legal.1)

-- what led from an initial disk is legal
history_of : (o : Disk) (h : List Event) (new : Option Disk) (later : List Kept) (q : ℕ) (e : Event) → Opening o
    → IsSomeAnd new (λ d. Leads o d later q (e ∷ h)) → IsSomeAnd new (λ d. IsHistory o d later q (e ∷ h))
history_of o h None later q e opens leads = absurd leads
history_of o h (Some d) later q e opens leads =
    record { legal = legal_by o (e ∷ h) opens leads.allowed; told = leads.told; named = leads.named; disk = leads.disk; moment = leads.moment }

leads_of : (o d : Disk) (h : List Event) (events : List Kept) (p : ℕ) → IsHistory o d events p h → Leads o d events p h
leads_of o d h events p is = record { allowed = legal_allowed o h is.legal; told = is.told; named = is.named; disk = is.disk; moment = is.moment }

-- so a legal history goes on
pub goes_on : (old new : Option Disk) (events later : List Kept) (p q : ℕ) → LeadsOn old new events later p q
    → (o : Disk) (h : List Event) → IsSomeAnd old (λ d. IsHistory o d events p h)
    → (e : Event) × (before : List Event) × IsBefore e h before × IsSomeAnd new (λ d. IsHistory o d later q (e ∷ before))
goes_on None new events later p q on o h is = absurd is
goes_on (Some d) new events later p q on o h is =
    let next = on o h (leads_of o d h events p is) in
    (next.0, next.1, next.2, history_of o next.1 new later q next.0 (legal_opens o h is.legal) next.3)

-- and with a machine stop
pub halt_goes_with : (old new : Option Disk) (events : List Kept) (p : ℕ) (how : Survival) → Meets old new (λ d e. Halts how d e)
    → (o : Disk) (h : List Event) → IsSomeAnd old (λ d. IsHistory o d events p h)
    → (contents : ℕ → List ℕ) × IsSomeAnd new (λ d. IsHistory o d (events ++ kept.Halt how ∷ []) p (Halt how contents ∷ h))
halt_goes_with None new events p how met o h is = absurd is
halt_goes_with (Some d) new events p how met o h is =
    let next = halt_leads (Some d) new events p how met o h (leads_of o d h events p is) in
    (next.0, history_of o h new (events ++ kept.Halt how ∷ []) p (Halt how next.0) (legal_opens o h is.legal) next.1)

-- what led to a world is legal, if it began with an initial disk
pub led_legal : (told : Option Disk) (events : List Kept) (p : ℕ) → OnTold told (λ d. IsLed d events p)
    → OnTold told (λ d. (o : Disk) × (h : List Event) × Leads o d events p h × (Opening o → Legal o h))
led_legal None events p led = tt
led_legal (Some d) events p led = (led.0, led.1, led.2, λ opens. legal_by led.0 led.1 opens led.2.allowed)
