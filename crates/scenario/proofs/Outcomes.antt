-- What a step comes to, by whether its actor lives.
use Rattle.std.proofs.Common.{◌≡◌, ◌≢◌, ◌⊎◌, inl, inr, ℕ, List, Option, Some, None, ◌++◌, refl, sym, ap, ◌∙◌, subst}
use Rattle.call_fs.specs.Disk.{Disk}
use Rattle.call_fs.specs.Plan.{Plan}
use Rattle.call_fs.specs.declared.past.GotData.{GotData}
use Rattle.call_fs.specs.declared.past.GotData.TheVariants.{Gave}
use Rattle.call_fs.specs.declared.past.NeedData.{NeedData}
use Rattle.call_fs.specs.declared.past.NeedData.TheVariants as needs
use Rattle.call_fs.specs.declared.past.Own.{Own}
use Rattle.call_fs.specs.declared.program.Port.TheVariants as port
use Rattle.crash_fs.specs.Answers.{IsFinite}
use Rattle.crash_fs.proofs.Decided.{Decided}
use Rattle.crash_fs.proofs.GivenAnswers.{has_answer}
use Rattle.world_events.specs.declared.event.Program.{Program}
use Rattle.world_events.specs.declared.event.Program.TheVariants.{Injector}
use Rattle.mail_world.specs.Acting.{MayMake}
use Rattle.mail_world.specs.History.{Actor, Life, State, call_act, netstring, next_of, program_of}
use Rattle.mail_world.specs.History.Event.{Act, End}
use Rattle.mail_world.specs.History.Life.{Alive, Over, Stopped}
use Rattle.mail_world.specs.Pipework.{Tenant}
use Rattle.mail_world.specs.Pipework.Tenant.{Runs, Remote}
use Rattle.mail_world.specs.Readiness.{found_in}
use Rattle.mail_world.specs.World.{Counts}
use Rattle.scenario.specs.Deeds.{Deed, after, counts_in}
use Rattle.scenario.specs.Deeds.Deed.{Came, Fed}
use Rattle.scenario.specs.Steps.{Refusal, Outcome, DoesNext, DoesAlive, DoesStep, StepsTo, Gives, GivesTo, next_pid, comes, does, own_by}
use Rattle.scenario.specs.Steps.Outcome.{Happens, Is}
use Rattle.scenario.specs.Steps.Refusal.{Unknown, Gone, NotWaiting}

-- what is due to a living actor, at the present moment
pub does_next : (d : Disk) (h : List Deed) (plan : Plan) (a : List ℕ) (p : ℕ) (x : Actor) (due : NeedData) (outcome : Outcome) → (after d h).actors a ≡ Some x → x.life ≡ Alive
    → (after d h).now ≡ p → next_of x.program x.past p (found_in (after d h) a) ≡ due → DoesNext plan (after d h) (next_pid h) (counts_in h) a x.program due outcome → StepsTo d h plan a outcome
does_next d h plan a p x due outcome is alive now next done =
    let s = after d h in
    let pid = next_pid h in
    let n = counts_in h in
    subst (λ (o : Option Actor). DoesStep plan s pid n a o outcome) (sym is)
    (subst (λ (life : Life). DoesAlive plan s pid n a x life outcome) (sym alive)
    (subst (λ (due : NeedData). DoesNext plan s pid n a x.program due outcome) (sym (ap (λ q. next_of x.program x.past q (found_in s a)) now ∙ next)) done))

-- A living one isn't refused as gone, or as unknown.
only_waits : (s : State) (n : Counts) (a : List ℕ) (due : NeedData) (c : Option GotData) (why : Refusal) → Is why ≡ does s n a due c → why ≡ NotWaiting
only_waits s n a due None why e = cc
only_waits s n a due (Some came) why e = absurd (cc)

to_not : (o : Option Program) (c a : List ℕ) (own : Own) (bytes : List ℕ) (why : Refusal) → GivesTo o c a own bytes (Is why) → why ≡ NotWaiting
to_not (Some (Injector args)) c a own bytes why h = let e = h.3 in absurd (cc)
to_not None c a own bytes why h = absurd (cc)
to_not (Some other) c a own bytes why h = absurd (cc)

gives_not : (s : State) (a : List ℕ) (own : Own) (bytes : List ℕ) (o : Option Tenant) (why : Refusal) → Gives s a own bytes o (Is why) → why ≡ NotWaiting
gives_not s a own bytes None why h = absurd (cc)
gives_not s a own bytes (Some (Runs c)) why h = to_not (program_of (s.actors c)) c a own bytes why h
gives_not s a own bytes (Some (Remote reported)) why h = absurd (cc)

next_not : (plan : Plan) (s : State) (pid : ℕ) (n : Counts) (a : List ℕ) (program : Program) (due : NeedData) (why : Refusal) → DoesNext plan s pid n a program due (Is why) → why ≡ NotWaiting
next_not plan s pid n a program (needs.File call) why h = let e = h.2 in absurd (cc)
next_not plan s pid n a program (needs.Ended status) why h = absurd (cc)
next_not plan s pid n a program (needs.Give (port.Program d) bytes) why h =
    gives_not s a (own_by s a (needs.Give (port.Program d) bytes) Gave) bytes (s.pipework.programs a d) why h
next_not plan s pid n a program due why h = only_waits s n a due (comes s pid a program due) why h

pub alive_waits : (d : Disk) (h : List Deed) (plan : Plan) (a : List ℕ) (x : Actor) (why : Refusal) → (after d h).actors a ≡ Some x → x.life ≡ Alive → StepsTo d h plan a (Is why) → why ≡ NotWaiting
alive_waits d h plan a x why is alive step =
    let s = after d h in
    let pid = next_pid h in
    let n = counts_in h in
    next_not plan s pid n a x.program (next_of x.program x.past s.now (found_in s a)) why
    (subst (λ (life : Life). DoesAlive plan s pid n a x life (Is why)) alive (subst (λ (o : Option Actor). DoesStep plan s pid n a o (Is why)) is step))

-- One that lives no more is gone.
over_life : (plan : Plan) (s : State) (pid : ℕ) (n : Counts) (a : List ℕ) (x : Actor) (life : Life) → life ≢ Alive → DoesAlive plan s pid n a x life (Is Gone)
over_life plan s pid n a x Alive over = absurd (over refl)
over_life plan s pid n a x (Over status) over = refl
over_life plan s pid n a x Stopped over = refl

pub over_gone : (d : Disk) (h : List Deed) (plan : Plan) (a : List ℕ) (x : Actor) → (after d h).actors a ≡ Some x → x.life ≢ Alive → StepsTo d h plan a (Is Gone)
over_gone d h plan a x is over =
    subst (λ (o : Option Actor). DoesStep plan (after d h) (next_pid h) (counts_in h) a o (Is Gone)) (sym is) (over_life plan (after d h) (next_pid h) (counts_in h) a x x.life over)

gone_by : (d : Disk) (h : List Deed) (plan : Plan) (a : List ℕ) (x : Actor) (life : Life) → (after d h).actors a ≡ Some x → x.life ≡ life
    → DoesAlive plan (after d h) (next_pid h) (counts_in h) a x life (Is Gone) ⊎ (¬ (StepsTo d h plan a (Is Gone)))
gone_by d h plan a x Alive is alive = inr (λ gone. let waits = alive_waits d h plan a x Gone is alive gone in absurd (cc))
gone_by d h plan a x (Over status) is over = inl refl
gone_by d h plan a x Stopped is over = inl refl

gone_actor : (d : Disk) (h : List Deed) (plan : Plan) (a : List ℕ) (o : Option Actor) → (after d h).actors a ≡ o
    → DoesStep plan (after d h) (next_pid h) (counts_in h) a o (Is Gone) ⊎ (¬ (StepsTo d h plan a (Is Gone)))
gone_actor d h plan a None is =
    inr (λ gone.
    let other : Is Gone ≡ Is Unknown = subst (λ (o : Option Actor). DoesStep plan (after d h) (next_pid h) (counts_in h) a o (Is Gone)) is gone in
    absurd (cc))
gone_actor d h plan a (Some x) is = gone_by d h plan a x x.life is refl

pub is_gone : (d : Disk) (h : List Deed) (plan : Plan) (a : List ℕ) → Decided (StepsTo d h plan a (Is Gone))
is_gone d h plan a = gone_actor d h plan a ((after d h).actors a) refl

-- Something is always due, if the call may be made on a finite disk, and if what is given to an injector is a message and an envelope.
abbrev pub AreTextsTo : Option Program → List ℕ → Type 0
AreTextsTo (Some (Injector args)) bytes = (message envelope : List ℕ) × (bytes ≡ netstring message ++ netstring envelope)
AreTextsTo other bytes = Unit {0}

abbrev pub AreTextsFor : State → Option Tenant → List ℕ → Type 0
AreTextsFor s (Some (Runs c)) bytes = AreTextsTo (program_of (s.actors c)) bytes
AreTextsFor s None bytes = Unit {0}
AreTextsFor s (Some (Remote reported)) bytes = Unit {0}

abbrev pub GivesTexts : State → List ℕ → NeedData → Type 0
GivesTexts s a (needs.Give (port.Program d) bytes) = AreTextsFor s (s.pipework.programs a d) bytes
GivesTexts s a due = Unit {0}

to_some : (o : Option Program) (c a : List ℕ) (own : Own) (bytes : List ℕ) → AreTextsTo o bytes → (outcome : Outcome) × GivesTo o c a own bytes outcome
to_some (Some (Injector args)) c a own bytes texts = (Happens (Fed a own c texts.0 texts.1), (texts.0, texts.1, texts.2, refl))
to_some None c a own bytes texts = (Happens (Came (Act a own 0)), refl)
to_some (Some other) c a own bytes texts = (Happens (Came (Act a own 0)), refl)

gives_some : (s : State) (a : List ℕ) (own : Own) (bytes : List ℕ) (o : Option Tenant) → AreTextsFor s o bytes → (outcome : Outcome) × Gives s a own bytes o outcome
gives_some s a own bytes None texts = (Happens (Came (Act a own 0)), refl)
gives_some s a own bytes (Some (Runs c)) texts = to_some (program_of (s.actors c)) c a own bytes texts
gives_some s a own bytes (Some (Remote reported)) texts = (Happens (Came (Act a own 0)), refl)

pub due_comes : (plan : Plan) (s : State) (pid : ℕ) (n : Counts) (a : List ℕ) (program : Program) (due : NeedData) → MayMake s.disk due → IsFinite s.disk → GivesTexts s a due
    → (outcome : Outcome) × DoesNext plan s pid n a program due outcome
due_comes plan s pid n a program (needs.File c) may finite texts =
    let got = has_answer plan s.disk c finite may in
    (Happens (Came (call_act a s.now (found_in s a) c got.0 0)), (got.0, got.1, refl))
due_comes plan s pid n a program (needs.Ended status) may finite texts = (Happens (Came (End a s.now (found_in s a) status)), refl)
due_comes plan s pid n a program (needs.Give (port.Program d) bytes) may finite texts =
    gives_some s a (own_by s a (needs.Give (port.Program d) bytes) Gave) bytes (s.pipework.programs a d) texts
due_comes plan s pid n a program due may finite texts = (does s n a due (comes s pid a program due), refl)
