-- What the world does for an actor and a child of its, as a step of that actor.
use Rattle.std.proofs.Common.{◌≡◌, ◌≢◌, ◌⊎◌, inl, inr, ℕ, List, Bool, true, false, Option, Some, None, Result, Ok, Err, refl, sym, ap, ◌∙◌, subst, ⊎_elim}
use Rattle.std.specs.Prelude.{IfErr, IfOk, is_some}
use Rattle.call_fs.specs.Disk.{Disk}
use Rattle.call_fs.specs.Plan.{Plan}
use Rattle.call_fs.specs.declared.past.GotData.{GotData}
use Rattle.call_fs.specs.declared.past.GotData.TheVariants.{Started, Gave}
use Rattle.call_fs.specs.declared.past.NeedData.{NeedData}
use Rattle.call_fs.specs.declared.past.NeedData.TheVariants as needs
use Rattle.call_fs.specs.declared.past.Own.{Own}
use Rattle.call_fs.specs.declared.program.Port.TheVariants as port
use Rattle.world_events.specs.declared.event.Event.{Event as Kept}
use Rattle.world_events.specs.declared.event.Event.TheVariants as kept
use Rattle.world_events.specs.declared.event.Program.TheVariants.{Injector}
use Rattle.world_events.specs.declared.event.Program.{Program}
use Rattle.world_pipes.specs.Pipework.{Tenant}
use Rattle.world_pipes.specs.Pipework.Tenant.{Runs, Remote}
use Rattle.world_pipes.specs.Mouths.{actor_of}
use Rattle.world_events.specs.declared.answers.WorldError.{WorldError}
use Rattle.world_events.specs.declared.answers.WorldError.TheVariants as why
use Rattle.world_events.specs.declared.answers.Did.{Did}
use Rattle.mail_world.specs.Acting.{is_due_of_child}
use Rattle.mail_world.specs.Children.{IsDueOfChild}
use Rattle.mail_world.specs.Generations.{CanNot, Waits}
use Rattle.mail_world.specs.History.{Actor, Life, State, IsStatusOf, next_of, program_of}
use Rattle.mail_world.specs.History.Life.{Alive, Over, Stopped}
use Rattle.mail_world.specs.Known.{known}
use Rattle.mail_world.specs.Readiness.{has_ended, is_gone, is_over, found_in}
use Rattle.mail_world.specs.World.{Counts, Seen, IsPlannedOwn, IsPlannedEvent, GoesByPlan, ComesWhole, EndsInWorld, IsKeptStart, IsKeptTo, IsKeptGiving, IsKeptBy, IsStep, most_of, next_pid, counts_in, child_of}
use Rattle.mail_world.proofs.Lasts.{same_last}
use Rattle.mail_world.proofs.Steps.{none_ready}

-- It waited for nothing

status_over : (life : Life) (came : GotData) → IsStatusOf life came → is_over life ≡ true
status_over Alive came is = absurd is
status_over (Over status) came is = refl
status_over Stopped came is = refl

tenant_ended : (s : State) (o : Option Tenant) (came : GotData) → EndsInWorld s o came → has_ended s o ≡ true
tenant_ended s None came ends = absurd ends
tenant_ended s (Some (Runs a)) came ends = ap is_gone ends.1 ∙ status_over ends.0.life came ends.2
tenant_ended s (Some (Remote true)) came ends = refl
tenant_ended s (Some (Remote false)) came ends = absurd ends

came_can : (s : State) (pid : ℕ) (a : List ℕ) (program : Program) (due : NeedData) (came : GotData) → ComesWhole s pid a program due came → CanNot s a due → ⊥
came_can s pid a program (needs.File c) came whole can = can
came_can s pid a program (needs.Take (port.Status d)) came whole can = let both : true ≡ false = sym (tenant_ended s (s.pipework.programs a d) came whole) ∙ can in cc
came_can s pid a program (needs.Take port.Input) came whole can = none_ready (most_of program) (s.pipework.pipes a port.Input) came can whole
came_can s pid a program (needs.Take port.Output) came whole can = none_ready (most_of program) (s.pipework.pipes a port.Output) came can whole
came_can s pid a program (needs.Take port.Clean) came whole can = none_ready (most_of program) (s.pipework.pipes a port.Clean) came can whole
came_can s pid a program (needs.Take port.Lspawn) came whole can = none_ready (most_of program) (s.pipework.pipes a port.Lspawn) came can whole
came_can s pid a program (needs.Take port.Rspawn) came whole can = none_ready (most_of program) (s.pipework.pipes a port.Rspawn) came can whole
came_can s pid a program (needs.Take port.Todo) came whole can = none_ready (most_of program) (s.pipework.pipes a port.Todo) came can whole
came_can s pid a program (needs.Take (port.Program d)) came whole can = none_ready (most_of program) (s.pipework.pipes a (port.Program d)) came can whole
came_can s pid a program (needs.Give port bytes) came whole can = can
came_can s pid a program (needs.Start asked) came whole can = can
came_can s pid a program (needs.Command bytes) came whole can = can
came_can s pid a program needs.Wait came whole can = absurd whole
came_can s pid a program (needs.Ended status) came whole can = can

pub step_waits : {D : Type 0} (a : List ℕ) (old new : Seen D) → IsStep a None old new → Waits (known old.events) old.present a → ⊥
step_waits a old new step waits =
    let of = step.2 in
    let both : ◌≡◌ {A = Option Actor} (Some of.actor) (Some waits.actor) = sym of.is ∙ waits.is in
    let same : of.actor ≡ waits.actor = cc in
    let due : next_of waits.actor.program waits.actor.past old.present (found_in (known old.events) a) ≡ step.0.due =
    ap (λ (x : Actor). next_of x.program x.past old.present (found_in (known old.events) a)) (sym same) ∙ of.due in
    came_can (known old.events) (next_pid old.events) a of.actor.program step.0.due step.0.came of.came (subst (CanNot (known old.events) a) due waits.due)

-- It makes no call, so that it uses up no plan

own_planned : (has : ℕ → Bool) (due : NeedData) (came : GotData) (plan after : Option Plan) (disk later : Option Disk) → is_due_of_child has due ≡ true → after ≡ plan → IsPlannedOwn due came plan after disk later
own_planned has (needs.Start asked) came plan after disk later of_child same = same
own_planned has (needs.Give to bytes) came plan after disk later of_child same = same
own_planned has (needs.Take from) came plan after disk later of_child same = same
own_planned has (needs.File c) came plan after disk later of_child same = absurd cc
own_planned has (needs.Command bytes) came plan after disk later of_child same = absurd cc
own_planned has needs.Wait came plan after disk later of_child same = absurd cc
own_planned has (needs.Ended status) came plan after disk later of_child same = absurd cc

kept_to : (o : Option Program) (c a : List ℕ) (own : Own) (bytes : List ℕ) (k : Kept) (P : Kept → Type 0) → IsKeptTo o c a own bytes k → P (kept.Act a own)
    → ((c message envelope : List ℕ) → P (kept.Feed a own c message envelope)) → P k
kept_to None c a own bytes k P is act feed = subst P (sym is) act
kept_to (Some (Injector args)) c a own bytes k P is act feed = subst P (sym is.3) (feed c is.0 is.1)
kept_to (Some other) c a own bytes k P is act feed = subst P (sym is) act

kept_giving : (s : State) (o : Option Tenant) (a : List ℕ) (own : Own) (bytes : List ℕ) (k : Kept) (P : Kept → Type 0) → IsKeptGiving s o a own bytes k → P (kept.Act a own)
    → ((c message envelope : List ℕ) → P (kept.Feed a own c message envelope)) → P k
kept_giving s None a own bytes k P is act feed = subst P (sym is) act
kept_giving s (Some (Remote reported)) a own bytes k P is act feed = subst P (sym is) act
kept_giving s (Some (Runs c)) a own bytes k P is act feed = kept_to (program_of (s.actors c)) c a own bytes k P is act feed

kept_start : (o : Option (List ℕ × Program)) (a : List ℕ) (own : Own) (k : Kept) (P : Kept → Type 0) → IsKeptStart o a own k → P (kept.Act a own)
    → ((c : List ℕ) (program : Program) → P (kept.Child a own c program)) → P k
kept_start None a own k P is act born = subst P (sym is) act
kept_start (Some child) a own k P is act born = subst P (sym is) (born child.0 child.1)

kept_by : (s : State) (before : Counts) (a : List ℕ) (own : Own) (due : NeedData) (came : GotData) (k : Kept) (P : Kept → Type 0) → IsKeptBy s before a own due came k → P (kept.Act a own)
    → ((c : List ℕ) (program : Program) → P (kept.Child a own c program)) → ((c message envelope : List ℕ) → P (kept.Feed a own c message envelope)) → P k
kept_by s before a own (needs.Start asked) (Started pid) k P is act born feed = kept_start (child_of before a asked pid own.read) a own k P is act born
kept_by s before a own (needs.Give (port.Program d) bytes) Gave k P is act born feed = kept_giving s (s.pipework.programs a d) a own bytes k P is act feed
kept_by s before a own due came k P is act born feed = subst P (sym is) act

pub step_planned : {D : Type 0} (plan : D → Option Plan) (tells : D → Option Disk) (a : List ℕ) (old new : Seen D) (due : NeedData) → IsDueOfChild old a due → IsStep a None old new → new.disk ≡ old.disk
    → GoesByPlan plan tells old.disk new.disk old.events new.events
step_planned plan tells a old new due asked step same e event =
    let of = step.2 in
    let own = step.0 in
    let is : step.1 ≡ e = same_last old.events step.1 e (sym step.4 ∙ event) in
    let both : ◌≡◌ {A = Option Actor} (Some of.actor) (Some asked.actor) = sym of.is ∙ asked.is in
    let one : of.actor ≡ asked.actor = cc in
    let due_is : own.due ≡ due = sym of.due ∙ ap (λ (x : Actor). next_of x.program x.past old.present (found_in (known old.events) a)) one ∙ asked.due_is in
    let has : ℕ → Bool = λ d. is_some (actor_of ((known old.events).pipework.programs a d)) in
    let kept_plan : plan new.disk ≡ plan old.disk = ap plan same in
    subst (λ (e : Kept). IsPlannedEvent e (plan old.disk) (plan new.disk) (tells old.disk) (tells new.disk)) is
    (kept_by (known old.events) (counts_in old.events) a own own.due own.came step.1 (λ e. IsPlannedEvent e (plan old.disk) (plan new.disk) (tells old.disk) (tells new.disk)) step.3
    (own_planned has own.due own.came (plan old.disk) (plan new.disk) (tells old.disk) (tells new.disk) (ap (is_due_of_child has) due_is ∙ asked.of_child) kept_plan)
    (λ c program. kept_plan) (λ c message envelope. kept_plan))

-- It is refused for want of memory, or since the child has not ended

abbrev pub IsServed : List ℕ → WorldError → Type 0
IsServed a error = (error ≡ why.Memory) ⊎ (error ≡ why.NotWaiting a)

pub other_error : (r : Result Did WorldError) (a : List ℕ) (bad : WorldError) → IfErr r (IsServed a) → (why.Memory ≢ bad) → (why.NotWaiting a ≢ bad) → r ≢ Err bad
other_error (Ok did) a bad served memory waits is = absurd cc
other_error (Err error) a bad served memory waits is =
    let same : error ≡ bad = cc in ⊎_elim (λ f. memory (sym f ∙ same)) (λ f. waits (sym f ∙ same)) served

-- by either outcome
pub if_ok : (r : Result Did WorldError) (P Q : Did → Type 0) → ((did : Did) → P did → Q did) → IfOk r P → IfOk r Q
if_ok (Ok did) P Q f is = f did is
if_ok (Err error) P Q f is = tt

pub if_err : (r : Result Did WorldError) (P Q : WorldError → Type 0) → ((error : WorldError) → P error → Q error) → IfErr r P → IfErr r Q
if_err (Ok did) P Q f is = tt
if_err (Err error) P Q f is = f error is

pub either_way : (r : Result Did WorldError) (X : Type 0) → IfOk r (λ _. X) → IfErr r (λ _. X) → X
either_way (Ok did) X ok err = ok
either_way (Err error) X ok err = err

pub waits_or : (r : Result Did WorldError) (a : List ℕ) → IfErr r (IsServed a) → IfOk r (λ _. ⊥) → (r ≡ Err (why.NotWaiting a)) ⊎ (r ≡ Err why.Memory)
waits_or (Ok did) a served none = absurd none
waits_or (Err error) a served none = ⊎_elim (λ f. inr (ap failed f)) (λ f. inl (ap failed f)) served where
  failed : WorldError → Result Did WorldError
  failed error = Err error
