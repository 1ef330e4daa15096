-- What is refused to a living actor can't be done yet.
use Rattle.std.proofs.Common.{◌≡◌, ℕ, ◌==◌, List, length, take, Bool, true, false, not, ◌||◌, if◌then◌else◌, Option, Some, None, refl, subst}
use Rattle.call_fs.specs.Disk.{Disk}
use Rattle.call_fs.specs.Plan.{Plan}
use Rattle.call_fs.specs.declared.past.GotData.{GotData}
use Rattle.call_fs.specs.declared.past.GotData.TheVariants.{Gave, Took}
use Rattle.call_fs.specs.declared.past.NeedData.{NeedData}
use Rattle.call_fs.specs.declared.past.NeedData.TheVariants as needs
use Rattle.call_fs.specs.declared.past.Own.{Own}
use Rattle.call_fs.specs.declared.program.Port.TheVariants as port
use Rattle.world_events.specs.Children.{Counts}
use Rattle.world_events.specs.declared.event.Program.{Program}
use Rattle.world_events.specs.declared.event.Program.TheVariants.{Injector}
use Rattle.world_pipes.specs.Pipes.{end_of, offered}
use Rattle.mail_world.specs.Generations.{CanNot}
use Rattle.mail_world.specs.History.{Actor, Life, State, next_of, program_of}
use Rattle.mail_world.specs.History.Life.{Alive, Over, Stopped}
use Rattle.mail_world.specs.Pipework.{Pipe, Tenant, is_ready}
use Rattle.mail_world.specs.Pipework.Tenant.{Runs, Remote}
use Rattle.mail_world.specs.Readiness.{found_in, has_ended, is_gone, is_over}
use Rattle.mail_world.specs.World.{most_of}
use Rattle.scenario.specs.Deeds.{Deed, after, counts_in}
use Rattle.scenario.specs.Steps.{DoesAlive, DoesNext, DoesStep, Gives, GivesTo, Refusal, StepsTo, comes, does, next_pid, own_by, status_in, status_of, status_told}
use Rattle.scenario.specs.Steps.Outcome.{Is}

offered_none : (most : ℕ) (pipe : Pipe) → offered most pipe ≡ None → is_ready pipe ≡ false
offered_none most pipe none = by (length pipe.bytes == 0) pipe.shut none
  where
    by : (empty shut : Bool) → (if empty then end_of shut else Some (Took (take most pipe.bytes))) ≡ None → (not empty || shut) ≡ false
    by true true e = absurd (cc)
    by true false e = refl
    by false shut e = absurd (cc)

life_none : (life : Life) → status_told life ≡ None → is_over life ≡ false
life_none Alive e = refl
life_none (Over status) e = absurd (cc)
life_none Stopped e = absurd (cc)

actor_none : (o : Option Actor) → status_of o ≡ None → is_gone o ≡ false
actor_none None e = refl
actor_none (Some x) e = life_none x.life e

tenant_none : (s : State) (o : Option Tenant) → status_in s o ≡ None → has_ended s o ≡ false
tenant_none s None e = refl
tenant_none s (Some (Runs a)) e = actor_none (s.actors a) e
tenant_none s (Some (Remote true)) e = absurd (cc)
tenant_none s (Some (Remote false)) e = refl

-- neither a file call nor an end
abbrev IsNoCall : NeedData → Type 0
IsNoCall (needs.File call) = ⊥
IsNoCall (needs.Ended status) = ⊥
IsNoCall other = Unit {0}

none_cannot : (s : State) (pid : ℕ) (a : List ℕ) (program : Program) (due : NeedData) → IsNoCall due → comes s pid a program due ≡ None → CanNot s a due
none_cannot s pid a program needs.Wait uncalled none = tt
none_cannot s pid a program (needs.Take (port.Status d)) uncalled none = tenant_none s (s.pipework.programs a d) none
none_cannot s pid a program (needs.Take port.Input) uncalled none = offered_none (most_of program) (s.pipework.pipes a port.Input) none
none_cannot s pid a program (needs.Take port.Output) uncalled none = offered_none (most_of program) (s.pipework.pipes a port.Output) none
none_cannot s pid a program (needs.Take port.Clean) uncalled none = offered_none (most_of program) (s.pipework.pipes a port.Clean) none
none_cannot s pid a program (needs.Take port.Lspawn) uncalled none = offered_none (most_of program) (s.pipework.pipes a port.Lspawn) none
none_cannot s pid a program (needs.Take port.Rspawn) uncalled none = offered_none (most_of program) (s.pipework.pipes a port.Rspawn) none
none_cannot s pid a program (needs.Take port.Todo) uncalled none = offered_none (most_of program) (s.pipework.pipes a port.Todo) none
none_cannot s pid a program (needs.Take (port.Program d)) uncalled none = offered_none (most_of program) (s.pipework.pipes a (port.Program d)) none
none_cannot s pid a program (needs.Give to bytes) uncalled none = absurd (cc)
none_cannot s pid a program (needs.Start child) uncalled none = absurd (cc)
none_cannot s pid a program (needs.Command bytes) uncalled none = absurd (cc)
none_cannot s pid a program (needs.File call) uncalled none = absurd uncalled
none_cannot s pid a program (needs.Ended status) uncalled none = absurd uncalled

does_none : (s : State) (n : Counts) (a : List ℕ) (due : NeedData) (c : Option GotData) (why : Refusal) → Is why ≡ does s n a due c → c ≡ None
does_none s n a due None why e = refl
does_none s n a due (Some came) why e = absurd (cc)

to_some : (o : Option Program) (c a : List ℕ) (own : Own) (bytes : List ℕ) (why : Refusal) → GivesTo o c a own bytes (Is why) → ⊥
to_some (Some (Injector args)) c a own bytes why h = let e = h.3 in absurd (cc)
to_some None c a own bytes why h = absurd (cc)
to_some (Some other) c a own bytes why h = absurd (cc)

gives_some : (s : State) (a : List ℕ) (own : Own) (bytes : List ℕ) (o : Option Tenant) (why : Refusal) → Gives s a own bytes o (Is why) → ⊥
gives_some s a own bytes None why h = absurd (cc)
gives_some s a own bytes (Some (Runs c)) why h = to_some (program_of (s.actors c)) c a own bytes why h
gives_some s a own bytes (Some (Remote reported)) why h = absurd (cc)

next_cannot : (plan : Plan) (s : State) (pid : ℕ) (n : Counts) (a : List ℕ) (program : Program) (due : NeedData) (why : Refusal) → DoesNext plan s pid n a program due (Is why) → CanNot s a due
next_cannot plan s pid n a program (needs.File call) why h = let e = h.2 in absurd (cc)
next_cannot plan s pid n a program (needs.Ended status) why h = absurd (cc)
next_cannot plan s pid n a program (needs.Give (port.Program d) bytes) why h =
    absurd (gives_some s a (own_by s a (needs.Give (port.Program d) bytes) Gave) bytes (s.pipework.programs a d) why h)
next_cannot plan s pid n a program due why h = none_cannot s pid a program due tt (does_none s n a due (comes s pid a program due) why h)

pub refused_cannot : (d : Disk) (h : List Deed) (plan : Plan) (a : List ℕ) (x : Actor) (why : Refusal) → (after d h).actors a ≡ Some x → x.life ≡ Alive → StepsTo d h plan a (Is why)
    → CanNot (after d h) a (next_of x.program x.past (after d h).now (found_in (after d h) a))
refused_cannot d h plan a x why is alive step =
    let s = after d h in
    let pid = next_pid h in
    let n = counts_in h in
    next_cannot plan s pid n a x.program (next_of x.program x.past s.now (found_in s a)) why
    (subst (λ (life : Life). DoesAlive plan s pid n a x life (Is why)) alive (subst (λ (o : Option Actor). DoesStep plan s pid n a o (Is why)) is step))
