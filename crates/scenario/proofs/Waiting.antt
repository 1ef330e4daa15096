-- What a world does is what comes of what is due, and who waits in it waits.
use Rattle.std.proofs.Common.{◌≡◌, ℕ, ◌==◌, List, ◌++◌, length, take, Bool, true, false, not, ◌||◌, if◌then◌else◌, Option, Some, None, refl, sym, ap, ◌∙◌, subst}
use Rattle.call_fs.specs.Disk.{Disk}
use Rattle.call_fs.specs.Plan.{Plan}
use Rattle.call_fs.specs.declared.past.ChildData.{ChildData}
use Rattle.call_fs.specs.declared.past.GotData.{GotData}
use Rattle.call_fs.specs.declared.past.GotData.TheVariants.{Took, Gave, Started}
use Rattle.call_fs.specs.declared.past.NeedData.{NeedData}
use Rattle.call_fs.specs.declared.past.NeedData.TheVariants as needs
use Rattle.call_fs.specs.declared.past.Own.{Own}
use Rattle.call_fs.specs.declared.program.Port.TheVariants as port
use Rattle.queue_inject.specs.declared.injection.Arguments.{Arguments}
use Rattle.world_events.specs.Children.{Counts, child_of}
use Rattle.world_events.specs.declared.event.Event.TheVariants as kept
use Rattle.world_events.specs.declared.event.Program.{Program}
use Rattle.world_events.specs.declared.event.Program.TheVariants.{Injector}
use Rattle.world_pipes.specs.Pipes.{offered, end_of}
use Rattle.mail_world.specs.Generations.{CanNot}
use Rattle.mail_world.specs.History.{Event, Actor, Life, State, IsStatusOf, netstring, next_of, program_of}
use Rattle.mail_world.specs.History.Event.{Act, Child}
use Rattle.mail_world.specs.History.Life.{Alive, Over, Stopped}
use Rattle.mail_world.specs.Pipework.{Pipe, Tenant, is_ready}
use Rattle.mail_world.specs.Pipework.Tenant.{Runs, Remote}
use Rattle.mail_world.specs.Readiness.{has_ended, found_in, is_over}
use Rattle.mail_world.specs.World.{ComesWhole, EndsInWorld, IsKeptBy, IsKeptGiving, IsKeptStart, IsKeptTo, most_of}
use Rattle.scenario.specs.Deeds.{Deed, after, counts_in}
use Rattle.scenario.specs.Deeds.Deed.{Came, Fed}
use Rattle.scenario.specs.Steps.{DoesNext, StepsTo, Gives, GivesTo, next_pid, comes, does, event_by, own_by, start_event, status_in, status_of, status_told}
use Rattle.scenario.specs.Steps.Outcome.{Happens, Is}
use Rattle.scenario.specs.Steps.Refusal.{NotWaiting}
use Rattle.scenario.proofs.StepKinds.{IsNoFile}
use Rattle.scenario.proofs.Outcomes.{does_next}

-- Who waits

or_false : (p q : Bool) → (p || q) ≡ false → (p ≡ false) × (q ≡ false)
or_false true q e = absurd (cc)
or_false false q e = (refl, e)

not_false : (p : Bool) → not p ≡ false → p ≡ true
not_false true e = refl
not_false false e = absurd (cc)

nothing_offered : (most : ℕ) (pipe : Pipe) → is_ready pipe ≡ false → offered most pipe ≡ None
nothing_offered most pipe none =
    let tests = or_false (not (length pipe.bytes == 0)) pipe.shut none in
    ap (λ t. if t then end_of pipe.shut else Some (Took (take most pipe.bytes))) (not_false (length pipe.bytes == 0) tests.0) ∙ ap end_of tests.1

life_none : (life : Life) → is_over life ≡ false → status_told life ≡ None
life_none Alive e = refl
life_none (Over status) e = absurd (cc)
life_none Stopped e = absurd (cc)

tenant_none : (s : State) (o : Option Tenant) → has_ended s o ≡ false → status_in s o ≡ None
tenant_none s None e = refl
tenant_none s (Some (Runs a)) e = by (s.actors a) refl e
  where
    by : (x : Option Actor) → s.actors a ≡ x → has_ended s (Some (Runs a)) ≡ false → status_of (s.actors a) ≡ None
    by None is e = ap status_of is
    by (Some x) is e = ap status_of is ∙ life_none x.life (subst (λ (o : Option Actor). gone o ≡ false) is e)
      where
        gone : Option Actor → Bool
        gone None = false
        gone (Some x) = is_over x.life
tenant_none s (Some (Remote true)) e = absurd (cc)
tenant_none s (Some (Remote false)) e = refl

pub cannot_none : (s : State) (pid : ℕ) (a : List ℕ) (program : Program) (due : NeedData) → CanNot s a due → comes s pid a program due ≡ None
cannot_none s pid a program needs.Wait not_yet = refl
cannot_none s pid a program (needs.Take (port.Status d)) not_yet = tenant_none s (s.pipework.programs a d) not_yet
cannot_none s pid a program (needs.Take port.Input) not_yet = nothing_offered (most_of program) (s.pipework.pipes a port.Input) not_yet
cannot_none s pid a program (needs.Take port.Output) not_yet = nothing_offered (most_of program) (s.pipework.pipes a port.Output) not_yet
cannot_none s pid a program (needs.Take port.Clean) not_yet = nothing_offered (most_of program) (s.pipework.pipes a port.Clean) not_yet
cannot_none s pid a program (needs.Take port.Lspawn) not_yet = nothing_offered (most_of program) (s.pipework.pipes a port.Lspawn) not_yet
cannot_none s pid a program (needs.Take port.Rspawn) not_yet = nothing_offered (most_of program) (s.pipework.pipes a port.Rspawn) not_yet
cannot_none s pid a program (needs.Take port.Todo) not_yet = nothing_offered (most_of program) (s.pipework.pipes a port.Todo) not_yet
cannot_none s pid a program (needs.Take (port.Program d)) not_yet = nothing_offered (most_of program) (s.pipework.pipes a (port.Program d)) not_yet
cannot_none s pid a program (needs.Give port bytes) not_yet = absurd not_yet
cannot_none s pid a program (needs.Start child) not_yet = absurd not_yet
cannot_none s pid a program (needs.File call) not_yet = absurd not_yet
cannot_none s pid a program (needs.Command bytes) not_yet = absurd not_yet
cannot_none s pid a program (needs.Ended status) not_yet = absurd not_yet

waits_next : (plan : Plan) (s : State) (pid : ℕ) (n : Counts) (a : List ℕ) (program : Program) (due : NeedData) → CanNot s a due → comes s pid a program due ≡ None → DoesNext plan s pid n a program due (Is NotWaiting)
waits_next plan s pid n a program (needs.File call) not_yet none = absurd not_yet
waits_next plan s pid n a program (needs.Ended status) not_yet none = absurd not_yet
waits_next plan s pid n a program (needs.Give to bytes) not_yet none = absurd not_yet
waits_next plan s pid n a program due not_yet none = sym (ap (does s n a due) none)

-- a living actor that can't do yet what is due is refused so
pub waits_steps : (d : Disk) (h : List Deed) (plan : Plan) (a : List ℕ) (x : Actor) → (after d h).actors a ≡ Some x → x.life ≡ Alive
    → CanNot (after d h) a (next_of x.program x.past (after d h).now (found_in (after d h) a)) → StepsTo d h plan a (Is NotWaiting)
waits_steps d h plan a x is alive not_yet =
    let s = after d h in
    let due = next_of x.program x.past s.now (found_in s a) in
    does_next d h plan a s.now x due (Is NotWaiting) is alive refl refl
    (waits_next plan s (next_pid h) (counts_in h) a x.program due not_yet (cannot_none s (next_pid h) a x.program due not_yet))

-- What is done

status_some : (life : Life) (came : GotData) → IsStatusOf life came → status_told life ≡ Some came
status_some Alive came is = absurd is
status_some (Over status) came is = ap (λ (g : GotData). Some g) (sym is)
status_some Stopped came is = ap (λ (g : GotData). Some g) (sym is)

tenant_some : (s : State) (o : Option Tenant) (came : GotData) → EndsInWorld s o came → status_in s o ≡ Some came
tenant_some s None came ends = absurd ends
tenant_some s (Some (Runs a)) came ends = ap status_of ends.1 ∙ status_some ends.0.life came ends.2
tenant_some s (Some (Remote true)) came ends = ap (λ (g : GotData). Some g) (sym ends)
tenant_some s (Some (Remote false)) came ends = absurd ends

-- of what comes in a world
pub all_comes : (s : State) (pid : ℕ) (a : List ℕ) (program : Program) (due : NeedData) (came : GotData) → IsNoFile due → ComesWhole s pid a program due came
    → comes s pid a program due ≡ Some came
all_comes s pid a program (needs.File call) came unfiled all = absurd unfiled
all_comes s pid a program (needs.Take (port.Status d)) came unfiled all = tenant_some s (s.pipework.programs a d) came all
all_comes s pid a program (needs.Take port.Input) came unfiled all = all
all_comes s pid a program (needs.Take port.Output) came unfiled all = all
all_comes s pid a program (needs.Take port.Clean) came unfiled all = all
all_comes s pid a program (needs.Take port.Lspawn) came unfiled all = all
all_comes s pid a program (needs.Take port.Rspawn) came unfiled all = all
all_comes s pid a program (needs.Take port.Todo) came unfiled all = all
all_comes s pid a program (needs.Take (port.Program d)) came unfiled all = all
all_comes s pid a program (needs.Give port bytes) came unfiled all = ap (λ (g : GotData). Some g) (sym all)
all_comes s pid a program (needs.Start asked) came unfiled all = ap (λ (g : GotData). Some g) (sym all)
all_comes s pid a program (needs.Command bytes) came unfiled all = ap (λ (g : GotData). Some g) (sym all)
all_comes s pid a program needs.Wait came unfiled all = absurd all
all_comes s pid a program (needs.Ended status) came unfiled all = absurd all

-- So it is what the step comes to

to_as : (o : Option Program) (c a : List ℕ) (own mine : Own) (bytes : List ℕ) → IsKeptTo o c a own bytes (kept.Act a own) → own ≡ mine → GivesTo o c a mine bytes (Happens (Came (Act a own 0)))
to_as (Some (Injector args)) c a own mine bytes is same = let no = is.3 in absurd (cc)
to_as None c a own mine bytes is same = ap (λ (own : Own). Happens (Came (Act a own 0))) same
to_as (Some other) c a own mine bytes is same = ap (λ (own : Own). Happens (Came (Act a own 0))) same

gives_as : (s : State) (a : List ℕ) (own mine : Own) (bytes : List ℕ) (o : Option Tenant) → IsKeptGiving s o a own bytes (kept.Act a own) → own ≡ mine → Gives s a mine bytes o (Happens (Came (Act a own 0)))
gives_as s a own mine bytes None is same = ap (λ (own : Own). Happens (Came (Act a own 0))) same
gives_as s a own mine bytes (Some (Runs c)) is same = to_as (program_of (s.actors c)) c a own mine bytes is same
gives_as s a own mine bytes (Some (Remote reported)) is same = ap (λ (own : Own). Happens (Came (Act a own 0))) same

-- what is kept as no start of a child is none
start_acts : (a : List ℕ) (own : Own) (o : Option (List ℕ × Program)) → IsKeptStart o a own (kept.Act a own) → start_event a own o ≡ Act a own 0
start_acts a own None is = refl
start_acts a own (Some child) is = absurd (cc)

event_acts : (s : State) (n : Counts) (a : List ℕ) (own : Own) (due : NeedData) (came : GotData) → IsKeptBy s n a own due came (kept.Act a own) → event_by n a own due came ≡ Act a own 0
event_acts s n a own (needs.Start asked) (Started number) is = start_acts a own (child_of n a asked number own.read) is
event_acts s n a own due came is = refl

does_so : (s : State) (pid : ℕ) (n : Counts) (a : List ℕ) (program : Program) (own : Own) (due : NeedData) (came : GotData) (event : Event) → comes s pid a program due ≡ Some came
    → event_by n a own due came ≡ event → own ≡ own_by s a due came → Happens (Came event) ≡ does s n a due (comes s pid a program due)
does_so s pid n a program own due came event is of same =
    ap (λ (e : Event). Happens (Came e)) (sym of) ∙ ap (λ (own : Own). Happens (Came (event_by n a own due came))) same ∙ sym (ap (does s n a due) is)

-- what is kept as an event that started no child, and gave none its input
pub acts_next : (plan : Plan) (s : State) (pid : ℕ) (n : Counts) (a : List ℕ) (program : Program) (own : Own) (due : NeedData) (came : GotData) → IsNoFile due → comes s pid a program due ≡ Some came
    → IsKeptBy s n a own due came (kept.Act a own) → own ≡ own_by s a due came → DoesNext plan s pid n a program due (Happens (Came (Act a own 0)))
acts_next plan s pid n a program own (needs.File call) came unfiled is kept_as same = absurd unfiled
acts_next plan s pid n a program own (needs.Ended status) came unfiled is kept_as same = absurd (cc)
acts_next plan s pid n a program own (needs.Give (port.Program d) bytes) came unfiled is kept_as same =
    let gave : came ≡ Gave = cc in
    gives_as s a own (own_by s a (needs.Give (port.Program d) bytes) Gave) bytes (s.pipework.programs a d)
    (subst (λ (g : GotData). IsKeptBy s n a own (needs.Give (port.Program d) bytes) g (kept.Act a own)) gave kept_as)
    (same ∙ ap (own_by s a (needs.Give (port.Program d) bytes)) gave)
acts_next plan s pid n a program own due came unfiled is kept_as same = does_so s pid n a program own due came (Act a own 0) is (event_acts s n a own due came kept_as) same

-- the start of a child
pub bears_next : (plan : Plan) (s : State) (pid : ℕ) (n : Counts) (a : List ℕ) (program : Program) (own : Own) (asked : ChildData) (number : ℕ) (child : List ℕ × Program)
    → comes s pid a program (needs.Start asked) ≡ Some (Started number) → child_of n a asked number own.read ≡ Some child → own ≡ own_by s a (needs.Start asked) (Started number)
    → DoesNext plan s pid n a program (needs.Start asked) (Happens (Came (Child a own child.0 child.1)))
bears_next plan s pid n a program own asked number child is of same =
    does_so s pid n a program own (needs.Start asked) (Started number) (Child a own child.0 child.1) is (ap (start_event a own) of) same

-- a giving of its whole input
pub feeds_next : (plan : Plan) (s : State) (pid : ℕ) (n : Counts) (a : List ℕ) (program : Program) (own : Own) (slot : ℕ) (c message envelope : List ℕ) (args : Arguments) → s.pipework.programs a slot ≡ Some (Runs c)
    → program_of (s.actors c) ≡ Some (Injector args) → own ≡ own_by s a (needs.Give (port.Program slot) (netstring message ++ netstring envelope)) Gave
    → DoesNext plan s pid n a program (needs.Give (port.Program slot) (netstring message ++ netstring envelope)) (Happens (Fed a own c message envelope))
feeds_next plan s pid n a program own slot c message envelope args runs mail same =
    let bytes = netstring message ++ netstring envelope in
    let mine = own_by s a (needs.Give (port.Program slot) bytes) Gave in
    subst (λ (o : Option Tenant). Gives s a mine bytes o (Happens (Fed a own c message envelope))) (sym runs)
    (subst (λ (o : Option Program). GivesTo o c a mine bytes (Happens (Fed a own c message envelope))) (sym mail)
    (message, envelope, refl, ap (λ (own : Own). Happens (Fed a own c message envelope)) same))
