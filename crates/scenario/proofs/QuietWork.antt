-- In what `work` does nothing fails, and no moment, stop or machine stop comes.
use Rattle.std.proofs.Common.{◌≡◌, ◌≢◌, ◌==◌, ℕ, List, [], ◌∷◌, ◌++◌, length, Bool, true, false, not, ◌&&◌, Option, Some, None, if◌then◌else◌, bytes_eq, take, refl, sym, ap, ◌∙◌, subst, ⊎_elim}
use Rattle.std.specs.List.{list_all}
use Rattle.std.proofs.lemmas.List.Folds.{list_all-append}
use Rattle.call_fs.specs.declared.calls.Answer.{Answer}
use Rattle.call_fs.specs.declared.calls.Answer.TheVariants as answer
use Rattle.call_fs.specs.declared.calls.CallData.{CallData}
use Rattle.call_fs.specs.declared.calls.CallData.TheVariants as calls
use Rattle.call_fs.specs.declared.calls.FsError.TheVariants as error
use Rattle.call_fs.specs.declared.past.GotData.{GotData}
use Rattle.call_fs.specs.declared.past.GotData.TheVariants.{Answered, Took, End as Ends, Gave, Started, Ended, Crashed, Failed, Memory}
use Rattle.call_fs.specs.declared.past.NeedData.{NeedData}
use Rattle.call_fs.specs.declared.past.NeedData.TheVariants as needs
use Rattle.call_fs.specs.declared.past.Own.{Own}
use Rattle.call_fs.specs.declared.program.Port.TheVariants as port
use Rattle.queue_inject.specs.declared.injection.Arguments.{Arguments}
use Rattle.call_fs.specs.Disk.{Disk}
use Rattle.call_fs.specs.Plan.{Plan, no_plan, nearer}
use Rattle.crash_fs.specs.Answers.{FailsBy, plan_left_by}
use Rattle.world_events.specs.declared.event.Program.{Program}
use Rattle.world_events.specs.declared.event.Program.TheVariants as program
use Rattle.world_events.specs.Inputs.{with_texts}
use Rattle.world_pipes.specs.Pipes.{end_of}
use Rattle.mail_world.specs.Pipework.{Pipe, Tenant}
use Rattle.mail_world.specs.Pipework.Tenant.{Runs, Remote}
use Rattle.mail_world.specs.History.{Actor, Event, Life, State, next_of, program_of}
use Rattle.mail_world.specs.History.Event.{Start, Act, Child, Generation, Report, End, Stop, Moment, Halt}
use Rattle.mail_world.specs.History.Life.{Alive, Over, Stopped}
use Rattle.mail_world.specs.Readiness.{found_in}
use Rattle.mail_world.specs.World.{Counts, begun_with, child_of, command_exits, most_of}
use Rattle.script_words.specs.declared.entry.Entry.{Entry}
use Rattle.script_words.specs.declared.letter.Letter.{Letter}
use Rattle.script_lines.specs.declared.line.Line.{Line}
use Rattle.script_lines.specs.declared.line.Line.TheVariants as line
use Rattle.scenario.specs.Chains.{EachFollows}
use Rattle.scenario.specs.Deeds.{Deed, event_in, history_of, after, next_pid, counts_in}
use Rattle.scenario.specs.Deeds.Deed.{Came, Fed}
use Rattle.scenario.specs.Played.{MailComesTo, PlaysAll}
use Rattle.scenario.specs.Steps.{Outcome, StepsTo, DoesStep, DoesAlive, DoesNext, Gives, GivesTo, does, comes, status_in, status_of, status_told, own_by, event_by, start_event, outcome_events, RunsOn, plan_by, plan_left_of, plan_through}
use Rattle.scenario.specs.Steps.Outcome.{Happens, Is}
use Rattle.scenario.specs.Steps.Refusal.{Unknown, Gone, NotWaiting}
use Rattle.scenario.specs.Turns.{Part, Round, AreParts, events_of, reports_of, settled_by, round_events, events_in, SettlesOn, generation_events}
use Rattle.scenario.specs.Working.{IsSomeStep, IsWorked, deeds_of, first_lines, has_failed, is_error, is_quiet}

abbrev quiet_deed : Deed → Bool
quiet_deed x = is_quiet (event_in x)

-- Answers

not_by : (plan : Plan) (call : CallData) → plan.fault ≡ None → FailsBy call plan (answer.Refused error.Fault) → ⊥
not_by plan (calls.Close fd) none fails = fails refl
not_by plan (calls.CreateExcl name) none fails = let both = sym none ∙ fails.0 refl in absurd (cc)
not_by plan (calls.Open name mode) none fails = let both = sym none ∙ fails.0 refl in absurd (cc)
not_by plan (calls.ReadAt fd at len) none fails = let both = sym none ∙ fails.0 refl in absurd (cc)
not_by plan (calls.WriteAt fd at bytes) none fails = let both = sym none ∙ fails.0 refl in absurd (cc)
not_by plan (calls.Append fd bytes) none fails = let both = sym none ∙ fails.0 refl in absurd (cc)
not_by plan (calls.Truncate fd len) none fails = let both = sym none ∙ fails.0 refl in absurd (cc)
not_by plan (calls.Sync fd) none fails = let both = sym none ∙ fails.0 refl in absurd (cc)
not_by plan (calls.Link old new) none fails = let both = sym none ∙ fails.0 refl in absurd (cc)
not_by plan (calls.Unlink name) none fails = let both = sym none ∙ fails.0 refl in absurd (cc)
not_by plan (calls.Stat name) none fails = let both = sym none ∙ fails.0 refl in absurd (cc)
not_by plan (calls.NextName dir last) none fails = let both = sym none ∙ fails.0 refl in absurd (cc)

no_error : (plan : Plan) (call : CallData) (told : Answer) → plan.fault ≡ None → FailsBy call plan told → told ≢ answer.Refused error.Memory → is_error told ≡ false
no_error plan call (answer.Refused error.Fault) none fails ample = absurd (not_by plan call none fails)
no_error plan call (answer.Refused error.Memory) none fails ample = absurd (ample refl)
no_error plan call (answer.Refused error.NotThere) none fails ample = refl
no_error plan call (answer.Refused error.Exists) none fails ample = refl
no_error plan call (answer.Created fd number) none fails ample = refl
no_error plan call (answer.Opened fd) none fails ample = refl
no_error plan call (answer.Count count) none fails ample = refl
no_error plan call answer.Done none fails ample = refl
no_error plan call (answer.Stat stat) none fails ample = refl
no_error plan call (answer.Name name) none fails ample = refl
no_error plan call answer.NoName none fails ample = refl

-- what is left of a plan without a fault has none
no_fault_left : (plan : Plan) (call : CallData) (told : Answer) → plan.fault ≡ None → (plan_left_by call plan told).fault ≡ None
no_fault_left plan (calls.Close fd) told none = none
no_fault_left plan (calls.CreateExcl name) told none = ap nearer none
no_fault_left plan (calls.Open name mode) told none = ap nearer none
no_fault_left plan (calls.ReadAt fd at len) told none = ap nearer none
no_fault_left plan (calls.WriteAt fd at bytes) told none = ap nearer none
no_fault_left plan (calls.Append fd bytes) told none = ap nearer none
no_fault_left plan (calls.Truncate fd len) told none = ap nearer none
no_fault_left plan (calls.Sync fd) told none = ap nearer none
no_fault_left plan (calls.Link old new) told none = ap nearer none
no_fault_left plan (calls.Unlink name) told none = ap nearer none
no_fault_left plan (calls.Stat name) told none = ap nearer none
no_fault_left plan (calls.NextName dir last) told none = ap nearer none

-- What comes

is_end_offered : (shut : Bool) (came : GotData) → end_of shut ≡ Some came → has_failed came ≡ false
is_end_offered true came e = let same : Ends ≡ came = cc in ap has_failed (sym same)
is_end_offered false came e = absurd (cc)

is_offered : (most : ℕ) (pipe : Pipe) (came : GotData) (none : Bool) → (if none then end_of pipe.shut else Some (Took (take most pipe.bytes))) ≡ Some came → has_failed came ≡ false
is_offered most pipe came true e = is_end_offered pipe.shut came e
is_offered most pipe came false e = let same : Took (take most pipe.bytes) ≡ came = cc in ap has_failed (sym same)

life_told : (life : Life) (came : GotData) → status_told life ≡ Some came → has_failed came ≡ false
life_told Alive came e = absurd (cc)
life_told (Over status) came e = let same : Ended status ≡ came = cc in ap has_failed (sym same)
life_told Stopped came e = let same : Crashed ≡ came = cc in ap has_failed (sym same)

actor_told : (x : Option Actor) (came : GotData) → status_of x ≡ Some came → has_failed came ≡ false
actor_told None came e = absurd (cc)
actor_told (Some x) came e = life_told x.life came e

tenant_told : (s : State) (tenant : Option Tenant) (came : GotData) → status_in s tenant ≡ Some came → has_failed came ≡ false
tenant_told s None came e = absurd (cc)
tenant_told s (Some (Runs a)) came e = actor_told (s.actors a) came e
tenant_told s (Some (Remote true)) came e = let same : Ended 0 ≡ came = cc in ap has_failed (sym same)
tenant_told s (Some (Remote false)) came e = absurd (cc)

-- what comes of what is due, other than a file call, is no failure
comes_well : (s : State) (pid : ℕ) (a : List ℕ) (p : Program) (due : NeedData) (came : GotData) → comes s pid a p due ≡ Some came → has_failed came ≡ false
comes_well s pid a p (needs.Take (port.Status slot)) came e = tenant_told s (s.pipework.programs a slot) came e
comes_well s pid a p (needs.Take port.Input) came e = let pipe = s.pipework.pipes a port.Input in is_offered (most_of p) pipe came (length pipe.bytes == 0) e
comes_well s pid a p (needs.Take port.Output) came e = let pipe = s.pipework.pipes a port.Output in is_offered (most_of p) pipe came (length pipe.bytes == 0) e
comes_well s pid a p (needs.Take port.Clean) came e = let pipe = s.pipework.pipes a port.Clean in is_offered (most_of p) pipe came (length pipe.bytes == 0) e
comes_well s pid a p (needs.Take port.Lspawn) came e = let pipe = s.pipework.pipes a port.Lspawn in is_offered (most_of p) pipe came (length pipe.bytes == 0) e
comes_well s pid a p (needs.Take port.Rspawn) came e = let pipe = s.pipework.pipes a port.Rspawn in is_offered (most_of p) pipe came (length pipe.bytes == 0) e
comes_well s pid a p (needs.Take port.Todo) came e = let pipe = s.pipework.pipes a port.Todo in is_offered (most_of p) pipe came (length pipe.bytes == 0) e
comes_well s pid a p (needs.Take (port.Program slot)) came e = let pipe = s.pipework.pipes a (port.Program slot) in is_offered (most_of p) pipe came (length pipe.bytes == 0) e
comes_well s pid a p (needs.Give to bytes) came e = let same : Gave ≡ came = cc in ap has_failed (sym same)
comes_well s pid a p (needs.Start asked) came e = let same : Started pid ≡ came = cc in ap has_failed (sym same)
comes_well s pid a p (needs.Command bytes) came e = let same : Ended (command_exits bytes) ≡ came = cc in ap has_failed (sym same)
comes_well s pid a p (needs.File call) came e = absurd (cc)
comes_well s pid a p needs.Wait came e = absurd (cc)
comes_well s pid a p (needs.Ended status) came e = absurd (cc)

-- Steps

-- a deed that is quiet, after which no call is to fail
pub record IsCalm (plan : Plan) (x : Deed) : Type 0 where
  pub quiet : quiet_deed x ≡ true
  pub fault : (plan_by (event_in x) plan).fault ≡ None

calm_own : (plan : Plan) (a : List ℕ) (own : Own) → plan.fault ≡ None → has_failed own.came ≡ false → plan_left_of own.due own.came plan ≡ plan → IsCalm plan (Came (Act a own 0))
calm_own plan a own none well same = record { quiet = ap not well; fault = ap (λ (p : Plan). p.fault) same ∙ none }

-- an event of a program that is no file call
calm_started : (plan : Plan) (a : List ℕ) (own : Own) (born : Option (List ℕ × Program)) → plan.fault ≡ None → has_failed own.came ≡ false → plan_left_of own.due own.came plan ≡ plan → IsCalm plan (Came (start_event a own born))
calm_started plan a own None none well same = calm_own plan a own none well same
calm_started plan a own (Some born) none well same = record { quiet = ap not well; fault = none }

same_deed : (x y : Deed) → Happens x ≡ Happens y → y ≡ x
same_deed x y e = cc

calm_as : (plan : Plan) (x y : Deed) → Happens x ≡ Happens y → IsCalm plan y → IsCalm plan x
calm_as plan x y e calm = subst (IsCalm plan) (same_deed x y e) calm

calm_event : (plan : Plan) (s : State) (before : Counts) (a : List ℕ) (due : NeedData) (came : GotData) → plan.fault ≡ None → has_failed came ≡ false → plan_left_of due came plan ≡ plan
    → IsCalm plan (Came (event_by before a (own_by s a due came) due came))
calm_event plan s before a (needs.File call) came none well same = calm_own plan a (own_by s a (needs.File call) came) none well same
calm_event plan s before a (needs.Take from) came none well same = calm_own plan a (own_by s a (needs.Take from) came) none well same
calm_event plan s before a (needs.Give to bytes) came none well same = calm_own plan a (own_by s a (needs.Give to bytes) came) none well same
calm_event plan s before a (needs.Command bytes) came none well same = calm_own plan a (own_by s a (needs.Command bytes) came) none well same
calm_event plan s before a needs.Wait came none well same = calm_own plan a (own_by s a needs.Wait came) none well same
calm_event plan s before a (needs.Ended status) came none well same = calm_own plan a (own_by s a (needs.Ended status) came) none well same
calm_event plan s before a (needs.Start asked) (Answered told) none well same = calm_own plan a (own_by s a (needs.Start asked) (Answered told)) none well same
calm_event plan s before a (needs.Start asked) (Took bytes) none well same = calm_own plan a (own_by s a (needs.Start asked) (Took bytes)) none well same
calm_event plan s before a (needs.Start asked) Ends none well same = calm_own plan a (own_by s a (needs.Start asked) Ends) none well same
calm_event plan s before a (needs.Start asked) (Ended status) none well same = calm_own plan a (own_by s a (needs.Start asked) (Ended status)) none well same
calm_event plan s before a (needs.Start asked) Crashed none well same = calm_own plan a (own_by s a (needs.Start asked) Crashed) none well same
calm_event plan s before a (needs.Start asked) Gave none well same = calm_own plan a (own_by s a (needs.Start asked) Gave) none well same
calm_event plan s before a (needs.Start asked) Failed none well same = calm_own plan a (own_by s a (needs.Start asked) Failed) none well same
calm_event plan s before a (needs.Start asked) Memory none well same = calm_own plan a (own_by s a (needs.Start asked) Memory) none well same
calm_event plan s before a (needs.Start asked) (Started pid) none well same =
    calm_started plan a (own_by s a (needs.Start asked) (Started pid)) (child_of before a asked pid s.now) none well same

-- what a program does that is no file call and no end, by what comes of it
calm_does : (plan : Plan) (s : State) (before : Counts) (a : List ℕ) (due : NeedData) (came : Option GotData) (x : Deed) → plan.fault ≡ None → ((got : GotData) → came ≡ Some got → has_failed got ≡ false)
    → ((got : GotData) → plan_left_of due got plan ≡ plan) → Happens x ≡ does s before a due came → IsCalm plan x
calm_does plan s before a due None x none well same e = let waits : Happens x ≡ Is NotWaiting = e in absurd (cc)
calm_does plan s before a due (Some came) x none well same e = calm_as plan x _ e (calm_event plan s before a due came none (well came refl) (same came))

calm_gives : (plan : Plan) (a : List ℕ) (own : Own) (bytes : List ℕ) (child : Option Program) (c : List ℕ) (x : Deed) → IsCalm plan (Came (Act a own 0)) → ((message envelope : List ℕ) → IsCalm plan (Fed a own c message envelope))
    → GivesTo child c a own bytes (Happens x) → IsCalm plan x
calm_gives plan a own bytes (Some (program.Injector args)) c x plain fed g = calm_as plan x _ g.3 (fed g.0 g.1)
calm_gives plan a own bytes None c x plain fed g = calm_as plan x _ g plain
calm_gives plan a own bytes (Some other) c x plain fed g = calm_as plan x _ g plain

calm_given : (plan : Plan) (s : State) (a : List ℕ) (own : Own) (bytes : List ℕ) (tenant : Option Tenant) (x : Deed) → IsCalm plan (Came (Act a own 0)) → ((c message envelope : List ℕ) → IsCalm plan (Fed a own c message envelope))
    → Gives s a own bytes tenant (Happens x) → IsCalm plan x
calm_given plan s a own bytes None x plain fed g = calm_as plan x _ g plain
calm_given plan s a own bytes (Some (Remote reported)) x plain fed g = calm_as plan x _ g plain
calm_given plan s a own bytes (Some (Runs c)) x plain fed g = calm_gives plan a own bytes (program_of (s.actors c)) c x plain (fed c) g

calm_next : (plan : Plan) (s : State) (pid : ℕ) (before : Counts) (a : List ℕ) (p : Program) (due : NeedData) (x : Deed) → plan.fault ≡ None → DoesNext plan s pid before a p due (Happens x) → IsCalm plan x
calm_next plan s pid before a p (needs.File call) x none d =
    calm_as plan x _ d.2 (record { quiet = ap not (no_error plan call d.0.answer none d.1.fails d.1.no_memory); fault = no_fault_left plan call d.0.answer none })
calm_next plan s pid before a p (needs.Ended status) x none d = calm_as plan x _ d (record { quiet = refl; fault = none })
calm_next plan s pid before a p (needs.Give (port.Program slot) bytes) x none d =
    let own = own_by s a (needs.Give (port.Program slot) bytes) Gave in
    calm_given plan s a own bytes (s.pipework.programs a slot) x (calm_own plan a own none refl refl) (λ c message envelope. record { quiet = refl; fault = none }) d
calm_next plan s pid before a p (needs.Give (port.Status slot) bytes) x none d = calm_does plan s before a (needs.Give (port.Status slot) bytes) (comes s pid a p (needs.Give (port.Status slot) bytes)) x none (λ got e. comes_well s pid a p (needs.Give (port.Status slot) bytes) got e) (λ got. refl) d
calm_next plan s pid before a p (needs.Give port.Input bytes) x none d = calm_does plan s before a (needs.Give port.Input bytes) (comes s pid a p (needs.Give port.Input bytes)) x none (λ got e. comes_well s pid a p (needs.Give port.Input bytes) got e) (λ got. refl) d
calm_next plan s pid before a p (needs.Give port.Output bytes) x none d = calm_does plan s before a (needs.Give port.Output bytes) (comes s pid a p (needs.Give port.Output bytes)) x none (λ got e. comes_well s pid a p (needs.Give port.Output bytes) got e) (λ got. refl) d
calm_next plan s pid before a p (needs.Give port.Clean bytes) x none d = calm_does plan s before a (needs.Give port.Clean bytes) (comes s pid a p (needs.Give port.Clean bytes)) x none (λ got e. comes_well s pid a p (needs.Give port.Clean bytes) got e) (λ got. refl) d
calm_next plan s pid before a p (needs.Give port.Lspawn bytes) x none d = calm_does plan s before a (needs.Give port.Lspawn bytes) (comes s pid a p (needs.Give port.Lspawn bytes)) x none (λ got e. comes_well s pid a p (needs.Give port.Lspawn bytes) got e) (λ got. refl) d
calm_next plan s pid before a p (needs.Give port.Rspawn bytes) x none d = calm_does plan s before a (needs.Give port.Rspawn bytes) (comes s pid a p (needs.Give port.Rspawn bytes)) x none (λ got e. comes_well s pid a p (needs.Give port.Rspawn bytes) got e) (λ got. refl) d
calm_next plan s pid before a p (needs.Give port.Todo bytes) x none d = calm_does plan s before a (needs.Give port.Todo bytes) (comes s pid a p (needs.Give port.Todo bytes)) x none (λ got e. comes_well s pid a p (needs.Give port.Todo bytes) got e) (λ got. refl) d
calm_next plan s pid before a p (needs.Take from) x none d = calm_does plan s before a (needs.Take from) (comes s pid a p (needs.Take from)) x none (λ got e. comes_well s pid a p (needs.Take from) got e) (λ got. refl) d
calm_next plan s pid before a p (needs.Start asked) x none d = calm_does plan s before a (needs.Start asked) (comes s pid a p (needs.Start asked)) x none (λ got e. comes_well s pid a p (needs.Start asked) got e) (λ got. refl) d
calm_next plan s pid before a p (needs.Command bytes) x none d = calm_does plan s before a (needs.Command bytes) (comes s pid a p (needs.Command bytes)) x none (λ got e. comes_well s pid a p (needs.Command bytes) got e) (λ got. refl) d
calm_next plan s pid before a p needs.Wait x none d = let waits : Happens x ≡ Is NotWaiting = d in absurd (cc)

calm_alive : (plan : Plan) (s : State) (pid : ℕ) (before : Counts) (a : List ℕ) (actor : Actor) (life : Life) (x : Deed) → plan.fault ≡ None → DoesAlive plan s pid before a actor life (Happens x) → IsCalm plan x
calm_alive plan s pid before a actor Alive x none d = calm_next plan s pid before a actor.program (next_of actor.program actor.past s.now (found_in s a)) x none d
calm_alive plan s pid before a actor (Over status) x none d = let gone : Happens x ≡ Is Gone = d in absurd (cc)
calm_alive plan s pid before a actor Stopped x none d = let gone : Happens x ≡ Is Gone = d in absurd (cc)

calm_does_step : (plan : Plan) (s : State) (pid : ℕ) (before : Counts) (a : List ℕ) (actor : Option Actor) (x : Deed) → plan.fault ≡ None → DoesStep plan s pid before a actor (Happens x) → IsCalm plan x
calm_does_step plan s pid before a None x none d = let unknown : Happens x ≡ Is Unknown = d in absurd (cc)
calm_does_step plan s pid before a (Some actor) x none d = calm_alive plan s pid before a actor actor.life x none d

calm_step : (d : Disk) (h : List Deed) (plan : Plan) (a : List ℕ) (x : Deed) → plan.fault ≡ None → StepsTo d h plan a (Happens x) → IsCalm plan x
calm_step d h plan a x none step = calm_does_step plan (after d h) (next_pid h) (counts_in h) a ((after d h).actors a) x none step

-- Lists of deeds

-- deeds that are quiet, after which no call is to fail
pub record AreCalm (plan : Plan) (deeds : List Deed) : Type 0 where
  pub quiet : list_all quiet_deed deeds ≡ true
  pub fault : (plan_through plan deeds).fault ≡ None

calm_none : (plan : Plan) → plan.fault ≡ None → AreCalm plan []
calm_none plan none = record { quiet = refl; fault = none }

calm_more : (plan : Plan) (x : Deed) (before : List Deed) → AreCalm plan before → IsCalm (plan_through plan before) x → AreCalm plan (x ∷ before)
calm_more plan x before calm one = record { quiet = ap (λ (b : Bool). b && list_all quiet_deed before) one.quiet ∙ calm.quiet; fault = one.fault }

through_more : (plan : Plan) (newer before : List Deed) → plan_through plan (newer ++ before) ≡ plan_through (plan_through plan before) newer
through_more plan [] before = refl
through_more plan (x ∷ newer) before = ap (plan_by (event_in x)) (through_more plan newer before)

calm_append : (plan : Plan) (newer before : List Deed) → AreCalm plan before → AreCalm (plan_through plan before) newer → AreCalm plan (newer ++ before)
calm_append plan newer before calm more = record {
  quiet = list_all-append quiet_deed newer before ∙ (ap (λ (b : Bool). b && list_all quiet_deed before) more.quiet ∙ calm.quiet);
  fault = ap (λ (p : Plan). p.fault) (through_more plan newer before) ∙ more.fault;
}

calm_each : (d : Disk) (h : List Deed) (plan : Plan) (Follows : List Deed → Deed → Type 0) → ((before : List Deed) (x : Deed) → Follows before x → IsSomeStep d h plan before x) → plan.fault ≡ None → (deeds : List Deed) → EachFollows Follows deeds → AreCalm plan deeds
calm_each d h plan Follows steps none [] each = calm_none plan none
calm_each d h plan Follows steps none (x ∷ before) each =
    let calm = calm_each d h plan Follows steps none before each.0 in
    let step = steps before x each.1 in
    calm_more plan x before calm (calm_step d (before ++ h) (plan_through plan before) step.0 x calm.fault step.1)

calm_parts : (d : Disk) (h : List Deed) (plan : Plan) → plan.fault ≡ None → (parts : List Part) → AreParts d h plan parts → AreCalm plan (events_of parts)
calm_parts d h plan none [] each = calm_none plan none
calm_parts d h plan none (part ∷ before) each =
    let calm = calm_parts d h plan none before each.0 in
    let now = plan_through plan (events_of before) in
    calm_append plan part.events (events_of before) calm (calm_each d (events_of before ++ h) now (RunsOn d (events_of before ++ h) now part.actor) (λ first x on. (part.actor, on.2)) calm.fault part.events each.1.run.are_steps)

calm_reports : (plan : Plan) (letter : Letter) (slots : List ℕ) → plan.fault ≡ None → AreCalm plan (reports_of letter slots)
calm_reports plan letter [] none = calm_none plan none
calm_reports plan letter (slot ∷ slots) none = let calm = calm_reports plan letter slots none in calm_more plan (settled_by letter slot) (reports_of letter slots) calm (record { quiet = refl; fault = calm.fault })

calm_rounds : (d : Disk) (h : List Deed) (plan : Plan) (letter : Letter) → plan.fault ≡ None → (rounds : List Round) → EachFollows (SettlesOn d h plan letter) rounds → AreCalm plan (events_in letter rounds)
calm_rounds d h plan letter none [] each = calm_none plan none
calm_rounds d h plan letter none (round ∷ before) each =
    let calm = calm_rounds d h plan letter none before each.0 in
    let now = plan_through plan (events_in letter before) in
    let turn = calm_parts d (events_in letter before ++ h) now calm.fault round.parts each.1.is.turn.are in
    calm_append plan (round_events letter round) (events_in letter before) calm (calm_append now (reports_of letter round.slots) (events_of round.parts) turn (calm_reports _ letter round.slots turn.fault))

-- The first lines

calm_mail : (plan : Plan) (outcome : Outcome) (s : State) (name : List ℕ) (args : Arguments) → plan.fault ≡ None → MailComesTo s name args outcome → AreCalm plan (outcome_events outcome)
calm_mail plan (Is why) s name args none comes = calm_none plan none
calm_mail plan (Happens x) s name args none comes = ⊎_elim
    (λ starts. calm_more plan x [] (calm_none plan none) (calm_as plan x _ starts.2 (record { quiet = refl; fault = none })))
    (λ taken. let never = taken.1 in absurd (cc))
    comes

calm_generation : (plan : Plan) (now : ℕ) (alive : Option (List ℕ)) → plan.fault ≡ None → AreCalm plan (generation_events now alive)
calm_generation plan now None none = calm_more plan _ [] (calm_none plan none) (record { quiet = refl; fault = none })
calm_generation plan now (Some a) none = calm_none plan none

-- the deeds of the first lines, after some that are calm
calm_lines : (d : Disk) (h : List Deed) (plan : Plan) (lines : List Line) (end : List Deed) (left : Plan) (text : List ℕ) → plan.fault ≡ None → list_all quiet_deed h ≡ true
    → PlaysAll d h plan false (first_lines lines) end left text → (list_all quiet_deed end ≡ true) × (left.fault ≡ None)
calm_lines d h plan [] end left text none before plays =
    let events = plays.0 in
    let made = plays.3 in
    let one : AreCalm plan events = subst (AreCalm plan) (sym made.0) (calm_generation plan (after d h).now _ none) in
    let rest = plays.4 in (
      ap (list_all quiet_deed) rest.0 ∙ (list_all-append quiet_deed events h ∙ (ap (λ (b : Bool). b && list_all quiet_deed h) one.quiet ∙ before)),
      ap (λ (p : Plan). p.fault) rest.1 ∙ one.fault,
    )
calm_lines d h plan ((line.Mail name message envelope) ∷ lines) end left text none before plays =
    let events = plays.0 in
    let made = plays.3 in
    let one : AreCalm plan events = subst (AreCalm plan) (sym made.2) (calm_mail plan made.0 (after d h) name _ none made.1) in
    calm_lines d (events ++ h) (plan_through plan events) lines end left plays.2 one.fault (list_all-append quiet_deed events h ∙ (ap (λ (b : Bool). b && list_all quiet_deed h) one.quiet ∙ before)) plays.4
calm_lines d h plan ((line.Alone word) ∷ lines) end left text none before plays = calm_lines d h plan lines end left text none before plays
calm_lines d h plan ((line.Actor word actor) ∷ lines) end left text none before plays = calm_lines d h plan lines end left text none before plays
calm_lines d h plan ((line.Count word count) ∷ lines) end left text none before plays = calm_lines d h plan lines end left text none before plays
calm_lines d h plan ((line.Moment word moment) ∷ lines) end left text none before plays = calm_lines d h plan lines end left text none before plays
calm_lines d h plan ((line.Survival word how) ∷ lines) end left text none before plays = calm_lines d h plan lines end left text none before plays
calm_lines d h plan ((line.Word word path) ∷ lines) end left text none before plays = calm_lines d h plan lines end left text none before plays
calm_lines d h plan ((line.Letter word letter) ∷ lines) end left text none before plays = calm_lines d h plan lines end left text none before plays
calm_lines d h plan ((line.Report slot letter word) ∷ lines) end left text none before plays = calm_lines d h plan lines end left text none before plays

-- Histories

-- the input in the start of a child changes nothing of that
quiet_begun : (c message envelope : List ℕ) (h : List Event) → list_all is_quiet (begun_with c message envelope h) ≡ list_all is_quiet h
quiet_begun c message envelope [] = refl
quiet_begun c message envelope ((Child parent own a p) ∷ before) = by_name (bytes_eq a c) (quiet_begun c message envelope before)
  where
    by_name : (b : Bool) → list_all is_quiet (begun_with c message envelope before) ≡ list_all is_quiet before → list_all is_quiet (if b then Child parent own a (with_texts message envelope p) ∷ before else (Child parent own a p ∷ begun_with c message envelope before)) ≡ list_all is_quiet (Child parent own a p ∷ before)
    by_name true rest = refl
    by_name false rest = ap (λ (b : Bool). is_quiet (Child parent own a p) && b) rest
quiet_begun c message envelope ((Start a p) ∷ before) = ap (λ (b : Bool). is_quiet (Start a p) && b) (quiet_begun c message envelope before)
quiet_begun c message envelope ((Act a own wrote) ∷ before) = ap (λ (b : Bool). is_quiet (Act a own wrote) && b) (quiet_begun c message envelope before)
quiet_begun c message envelope ((Generation crew) ∷ before) = ap (λ (b : Bool). is_quiet (Generation crew) && b) (quiet_begun c message envelope before)
quiet_begun c message envelope ((Report slot output) ∷ before) = ap (λ (b : Bool). is_quiet (Report slot output) && b) (quiet_begun c message envelope before)
quiet_begun c message envelope ((End a read ready status) ∷ before) = ap (λ (b : Bool). is_quiet (End a read ready status) && b) (quiet_begun c message envelope before)
quiet_begun c message envelope ((Stop a) ∷ before) = ap (λ (b : Bool). is_quiet (Stop a) && b) (quiet_begun c message envelope before)
quiet_begun c message envelope ((Moment m) ∷ before) = ap (λ (b : Bool). is_quiet (Moment m) && b) (quiet_begun c message envelope before)
quiet_begun c message envelope ((Halt how contents) ∷ before) = ap (λ (b : Bool). is_quiet (Halt how contents) && b) (quiet_begun c message envelope before)

quiet_history : (deeds : List Deed) → list_all is_quiet (history_of deeds) ≡ list_all quiet_deed deeds
quiet_history [] = refl
quiet_history ((Came e) ∷ before) = ap (λ (b : Bool). is_quiet e && b) (quiet_history before)
quiet_history ((Fed a own c message envelope) ∷ before) =
    ap (λ (b : Bool). is_quiet (Act a own 0) && b) (quiet_begun c message envelope (history_of before) ∙ quiet_history before)

pub work_is_quiet : (opening : List Entry) (lines : List Line) (text : List ℕ) (p : IsWorked opening lines text) → list_all is_quiet (history_of (deeds_of opening lines text p)) ≡ true
work_is_quiet opening lines text p =
    let first = calm_lines p.disk [] no_plan lines p.begun p.left p.dropped refl refl p.begins in
    let steps = calm_each p.disk p.begun p.left (IsSomeStep p.disk p.begun p.left) (λ before x step. step) first.1 p.worked p.are_steps in
    let plan = plan_through p.left p.worked in
    let rounds = p.end.settles in
    let end : AreCalm plan p.end.settled = subst (AreCalm plan) (sym rounds.2) (calm_rounds p.disk (p.worked ++ p.begun) plan _ steps.fault rounds.0 rounds.1.are) in
    quiet_history (deeds_of opening lines text p)
    ∙ (list_all-append quiet_deed p.end.settled (p.worked ++ p.begun)
    ∙ (ap (λ (b : Bool). b && list_all quiet_deed (p.worked ++ p.begun)) end.quiet
    ∙ (list_all-append quiet_deed p.worked p.begun
    ∙ (ap (λ (b : Bool). b && list_all quiet_deed p.begun) steps.quiet ∙ first.0))))
