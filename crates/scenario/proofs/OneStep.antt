-- A step comes to one outcome, and a run is one list of steps.
use Rattle.std.proofs.Common.{◌≡◌, ℕ, List, ◌++◌, length, Option, Some, None, IsSome, sym, ap, ◌∙◌, subst, inl, inr, ⊎_elim, arith}
use Rattle.std.proofs.lemmas.Bool.{false≢true}
use Rattle.call_fs.specs.declared.calls.Told.{Told}
use Rattle.call_fs.specs.declared.past.Own.{Own}
use Rattle.call_fs.specs.declared.past.GotData.TheVariants.{Gave}
use Rattle.call_fs.specs.declared.program.Port.TheVariants as port
use Rattle.call_fs.specs.Disk.{Disk}
use Rattle.call_fs.specs.Plan.{Plan}
use Rattle.call_fs.specs.declared.past.NeedData.{NeedData}
use Rattle.call_fs.specs.declared.past.NeedData.TheVariants as needs
use Rattle.queue_inject.specs.declared.injection.Arguments.{Arguments}
use Rattle.world_events.specs.declared.event.Program.{Program}
use Rattle.world_events.specs.declared.event.Program.TheVariants.{Injector}
use Rattle.mail_world.specs.History.{Life, State, Actor, call_act, next_of, program_of}
use Rattle.mail_world.specs.History.Life.{Alive, Over, Stopped}
use Rattle.mail_world.specs.Pipework.{Tenant}
use Rattle.mail_world.specs.Pipework.Tenant.{Runs, Remote}
use Rattle.mail_world.specs.Readiness.{found_in}
use Rattle.mail_world.specs.World.{Counts}
use Rattle.scenario.specs.Deeds.{Deed, after, counts_in}
use Rattle.scenario.specs.Deeds.Deed.{Came, Fed}
use Rattle.scenario.specs.Steps.{Refusal, Outcome, Gives, GivesTo, own_by, DoesNext, DoesAlive, DoesStep, StepsTo, RunsOn, next_pid, plan_through, Stops, IsRunOf, stop_text}
use Rattle.scenario.specs.Steps.Stops.{Idles, Refused, Full}
use Rattle.scenario.specs.Steps.Outcome.{Happens, Is}
use Rattle.scenario.specs.Played.{MailComesTo}
use Rattle.scenario.proofs.Chains.{one_chain}
use Rattle.scenario.proofs.OneGiving.{one_giving}
use Rattle.crash_fs.proofs.OneAnswer.{one_answer}

-- Steps

-- a giving to the program in a slot, of one message and one envelope at most
to_one : (program : Option Program) (c a : List ℕ) (own : Own) (bytes : List ℕ) (o p : Outcome) → GivesTo program c a own bytes o → GivesTo program c a own bytes p → o ≡ p
to_one (Some (Injector args)) c a own bytes o p h k =
    let same = one_giving h.0 k.0 h.1 k.1 (sym h.2 ∙ k.2) in
    h.3 ∙ ap (λ (m : List ℕ). Happens (Fed a own c m h.1)) same.0 ∙ ap (λ (e : List ℕ). Happens (Fed a own c k.0 e)) same.1 ∙ sym k.3
to_one None c a own bytes o p h k = h ∙ sym k
to_one (Some other) c a own bytes o p h k = h ∙ sym k

gives_one : (s : State) (a : List ℕ) (own : Own) (bytes : List ℕ) (tenant : Option Tenant) (o p : Outcome) → Gives s a own bytes tenant o → Gives s a own bytes tenant p → o ≡ p
gives_one s a own bytes None o p h k = h ∙ sym k
gives_one s a own bytes (Some (Remote reported)) o p h k = h ∙ sym k
gives_one s a own bytes (Some (Runs c)) o p h k = to_one (program_of (s.actors c)) c a own bytes o p h k

does_one : (plan : Plan) (s : State) (pid : ℕ) (n : Counts) (a : List ℕ) (program : Program) (due : NeedData) (o p : Outcome)
    → DoesNext plan s pid n a program due o → DoesNext plan s pid n a program due p → o ≡ p
does_one plan s pid n a program (needs.File call) o p h k =
    h.2 ∙ ap (λ (t : Told). Happens (Came (call_act a s.now (found_in s a) call t 0))) (one_answer plan s.disk call h.0 k.0 h.1 k.1) ∙ sym k.2
does_one plan s pid n a program (needs.Ended status) o p h k = h ∙ sym k
does_one plan s pid n a program (needs.Give (port.Program d) bytes) o p h k =
    gives_one s a (own_by s a (needs.Give (port.Program d) bytes) Gave) bytes (s.pipework.programs a d) o p h k
does_one plan s pid n a program due o p h k = h ∙ sym k

alive_one : (plan : Plan) (s : State) (pid : ℕ) (n : Counts) (a : List ℕ) (x : Actor) (life : Life) (o p : Outcome) → DoesAlive plan s pid n a x life o → DoesAlive plan s pid n a x life p → o ≡ p
alive_one plan s pid n a x Alive o p h k = does_one plan s pid n a x.program (next_of x.program x.past s.now (found_in s a)) o p h k
alive_one plan s pid n a x (Over status) o p h k = h ∙ sym k
alive_one plan s pid n a x Stopped o p h k = h ∙ sym k

actor_one : (plan : Plan) (s : State) (pid : ℕ) (n : Counts) (a : List ℕ) (m : Option Actor) (o p : Outcome) → DoesStep plan s pid n a m o → DoesStep plan s pid n a m p → o ≡ p
actor_one plan s pid n a None o p h k = h ∙ sym k
actor_one plan s pid n a (Some x) o p h k = alive_one plan s pid n a x x.life o p h k

pub one_step : (d : Disk) (h : List Deed) (plan : Plan) (a : List ℕ) (o p : Outcome) → StepsTo d h plan a o → StepsTo d h plan a p → o ≡ p
one_step d h plan a o p first second = actor_one plan (after d h) (next_pid h) (counts_in h) a ((after d h).actors a) o p first second

no-actor : (m : Option Actor) → m ≡ None → IsSome m → ⊥
no-actor None e h = absurd (cc)
no-actor (Some x) e h = absurd (cc)

pub one_start : (s : State) (name : List ℕ) (args : Arguments) (o p : Outcome) → MailComesTo s name args o → MailComesTo s name args p → o ≡ p
one_start s name args o p (inl h) (inl k) = h.2 ∙ sym k.2
one_start s name args o p (inl h) (inr k) = absurd (⊎_elim (λ used. no-actor (s.actors name) h.1 used) (λ bad. bad h.0) k.0)
one_start s name args o p (inr h) (inl k) = absurd (⊎_elim (λ used. no-actor (s.actors name) k.1 used) (λ bad. bad k.0) h.0)
one_start s name args o p (inr h) (inr k) = h.1 ∙ sym k.1

-- what happens isn't refused
not_refused : (d : Disk) (h : List Deed) (plan : Plan) (a : List ℕ) (event : Deed) (why : Refusal) → StepsTo d h plan a (Happens event) → StepsTo d h plan a (Is why) → ⊥
not_refused d h plan a event why steps refused = let both = one_step d h plan a (Happens event) (Is why) steps refused in absurd (cc)

-- Runs

runs_on_one : (d : Disk) (h : List Deed) (plan : Plan) (a : List ℕ) (before : List Deed) (x y : Deed) → RunsOn d h plan a before x → RunsOn d h plan a before y → x ≡ y
runs_on_one d h plan a before x y p q =
    let both = one_step d (before ++ h) (plan_through plan before) a (Happens x) (Happens y) p.2 q.2 in cc

-- a run that has stopped has no step more
stops_all : (d : Disk) (h : List Deed) (plan : Plan) (a : List ℕ) (events : List Deed) (text : List ℕ) (event : Deed) → Stops d h plan a events text → RunsOn d h plan a events event → ⊥
stops_all d h plan a events text event (Idles idle is) on = false≢true (sym on.1 ∙ idle)
stops_all d h plan a events text event (Refused busy why refused low is) on = not_refused d (events ++ h) (plan_through plan events) a event why on.2 refused
stops_all d h plan a events text event (Full busy all lives is) on = let few = on.0 in absurd (omega arith)

one_stop : (d : Disk) (h : List Deed) (plan : Plan) (a : List ℕ) (events : List Deed) (t u : List ℕ) → Stops d h plan a events t → Stops d h plan a events u → t ≡ u
one_stop d h plan a events t u (Idles p is) (Idles q are) = is ∙ sym are
one_stop d h plan a events t u (Idles p is) (Refused q why refused low are) = absurd (false≢true (sym q ∙ p))
one_stop d h plan a events t u (Idles p is) (Full q all lives are) = absurd (false≢true (sym q ∙ p))
one_stop d h plan a events t u (Refused p why refused low is) (Idles q are) = absurd (false≢true (sym p ∙ q))
one_stop d h plan a events t u (Refused p why refused low is) (Refused q other refuses few are) =
    let both = one_step d (events ++ h) (plan_through plan events) a (Is why) (Is other) refused refuses in
    let same : why ≡ other = cc in
    is ∙ ap (λ (r : Refusal). stop_text (length events) r a) same ∙ sym are
one_stop d h plan a events t u (Refused p why refused low is) (Full q all lives are) = ⊎_elim
    (λ less. absurd (omega arith))
    (λ gone. absurd (lives (subst (λ (r : Refusal). StepsTo d (events ++ h) (plan_through plan events) a (Is r)) gone refused)))
    low
one_stop d h plan a events t u (Full p all lives is) (Idles q are) = absurd (false≢true (sym p ∙ q))
one_stop d h plan a events t u (Full p all lives is) (Refused q why refused low are) = ⊎_elim
    (λ less. absurd (omega arith))
    (λ gone. absurd (lives (subst (λ (r : Refusal). StepsTo d (events ++ h) (plan_through plan events) a (Is r)) gone refused)))
    low
one_stop d h plan a events t u (Full p all lives is) (Full q full live are) = is ∙ sym are

pub one_run : (d : Disk) (h : List Deed) (plan : Plan) (a : List ℕ) (e f : List Deed) (t u : List ℕ) → IsRunOf d h plan a e t → IsRunOf d h plan a f u → (e ≡ f) × (t ≡ u)
one_run d h plan a e f t u p q =
    let Ends : List Deed → Type 0 = λ events. (text : List ℕ) × Stops d h plan a events text in
    let same : e ≡ f = one_chain (RunsOn d h plan a) Ends (runs_on_one d h plan a)
    (λ before x ends on. stops_all d h plan a before ends.0 x ends.1 on) e f p.are_steps q.are_steps (t, p.stops) (u, q.stops) in
    (same, one_stop d h plan a f t u (subst (λ (g : List Deed). Stops d h plan a g t) same p.stops) q.stops)
