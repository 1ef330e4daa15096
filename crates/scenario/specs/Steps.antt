-- A step and a run of an actor: what each comes to, and what is printed of it. A file call fails if the script says so, and
-- only then, and nothing else fails.
use Rattle.std.specs.Prelude.{◌≡◌, ◌⊎◌, ℕ, zero, suc, ◌<◌, List, [], ◌∷◌, ◌++◌, length, Bool, true, false, if◌then◌else◌, Option, Some, None, codes}
use Rattle.call_fs.specs.declared.calls.Told.{Told}
use Rattle.call_fs.specs.Disk.{Disk}
use Rattle.call_fs.specs.Plan.{Plan}
use Rattle.call_fs.specs.declared.program.Port.TheVariants as port
use Rattle.call_fs.specs.declared.past.NeedData.{NeedData}
use Rattle.call_fs.specs.declared.past.NeedData.TheVariants as needs
use Rattle.call_fs.specs.declared.past.GotData.{GotData}
use Rattle.call_fs.specs.declared.past.GotData.TheVariants.{Answered, Gave, Started, Ended, Crashed}
use Rattle.call_fs.specs.declared.past.Own.{Own}
use Rattle.crash_fs.specs.Answers.{Answers, plan_left_by}
use Rattle.world_events.specs.declared.event.Program.{Program}
use Rattle.world_events.specs.declared.event.Program.TheVariants.{Injector}
use Rattle.world_pipes.specs.Pipes.{offered}
use Rattle.world_events.specs.declared.answers.WorldError.{WorldError}
use Rattle.world_events.specs.declared.answers.WorldError.TheVariants as error
use Rattle.mail_world.specs.Pipework.{Tenant}
use Rattle.mail_world.specs.Pipework.Tenant.{Runs, Remote}
use Rattle.mail_world.specs.History.{Event, Life, State, Actor, call_act, netstring, next_of, program_of}
use Rattle.mail_world.specs.History.Event.{Start, Act, Child, Generation, Report, End, Stop, Moment, Halt}
use Rattle.mail_world.specs.History.Life.{Alive as Living, Over, Stopped}
use Rattle.mail_world.specs.Readiness.{found_in}
use Rattle.mail_world.specs.Generations.{idled_by}
use Rattle.mail_world.specs.World.{Counts, child_of, command_exits, most_of}
use Rattle.scenario.specs.Shown.{line_of}
use Rattle.scenario.specs.Deeds.{Deed, event_in, after, counts_in}
use Rattle.scenario.specs.Deeds.Deed.{Came, Fed}
use Rattle.scenario.specs.Chains.{EachFollows}
pub use Rattle.scenario.specs.Deeds.{next_pid}

-- why a line is refused
pub data Refusal : Type 0 where
  Unknown : Refusal
  Gone : Refusal
  NotWaiting : Refusal
  Taken : Refusal
  Past : Refusal
  Steps : Refusal
  Alive : Refusal
  Rounds : Refusal

abbrev pub refusal_word : Refusal → List ℕ
refusal_word Unknown = codes "unknown"
refusal_word Gone = codes "gone"
refusal_word NotWaiting = codes "notwaiting"
refusal_word Taken = codes "taken"
refusal_word Past = codes "past"
refusal_word Steps = codes "steps"
refusal_word Alive = codes "alive"
refusal_word Rounds = codes "rounds"

-- what the world's own refusals say; that memory ran out is none of a script's
abbrev pub IsRefusalOf : WorldError → Refusal → Type 0
IsRefusalOf (error.Gone name at) why = why ≡ Gone
IsRefusalOf (error.NotWaiting name) why = why ≡ NotWaiting
IsRefusalOf error.Unknown why = why ≡ Unknown
IsRefusalOf error.Taken why = why ≡ Taken
IsRefusalOf (error.Past present) why = why ≡ Past
IsRefusalOf (error.Alive name) why = why ≡ Alive
IsRefusalOf error.Memory why = ⊥

-- `refused WORD NAME`; a moment is refused by the present one, `refused past N`
abbrev pub refusal_line : Refusal → List ℕ → List ℕ
refusal_line why name = codes "refused " ++ line_of (refusal_word why) name

-- what a step comes to: a deed, or a refusal
pub data Outcome : Type 0 where
  Happens : Deed → Outcome
  Is : Refusal → Outcome

-- what an outcome adds to the deeds, and what is printed of it
abbrev pub outcome_events : Outcome → List Deed
outcome_events (Happens deed) = deed ∷ []
outcome_events (Is why) = []

abbrev pub printed : List ℕ → Outcome → List ℕ
printed name (Happens deed) = []
printed name (Is why) = refusal_line why name

-- Steps

-- the status of a program that is over
abbrev pub status_told : Life → Option GotData
status_told Living = None
status_told (Over status) = Some (Ended status)
status_told Stopped = Some Crashed

abbrev pub status_of : Option Actor → Option GotData
status_of None = None
status_of (Some x) = status_told x.life

-- the status of the program in a slot, if it has ended: a remote program has by its report, with 0
abbrev pub status_in : State → Option Tenant → Option GotData
status_in s None = None
status_in s (Some (Runs a)) = status_of (s.actors a)
status_in s (Some (Remote reported)) = if reported then Some (Ended 0) else None

-- What comes of what is due to an actor, which runs this program, other than a file call or its end, if the next process
-- number is this one; None if the actor waits. A taking takes all that lies there, a giving goes well, a program starts, and a command
-- exits as its text says.
abbrev pub comes : State → ℕ → List ℕ → Program → NeedData → Option GotData
comes s pid a program (needs.Take (port.Status slot)) = status_in s (s.pipework.programs a slot)
comes s pid a program (needs.Take port) = offered (most_of program) (s.pipework.pipes a port)
comes s pid a program (needs.Give port bytes) = Some Gave
comes s pid a program (needs.Start asked) = Some (Started pid)
comes s pid a program (needs.Command bytes) = Some (Ended (command_exits bytes))
comes s pid a program due = None

-- an event of an actor at the present moment, with all that it finds ready
abbrev pub own_by : State → List ℕ → NeedData → GotData → Own
own_by s a due came = record { read = s.now; ready = found_in s a; due = due; came = came }

-- what an actor did, as an event: if so many children were started before, a child starts under its name, with no input; a remote program
-- is none
abbrev pub start_event : List ℕ → Own → Option (List ℕ × Program) → Event
start_event a own None = Act a own 0
start_event a own (Some child) = Child a own child.0 child.1

abbrev pub event_by : Counts → List ℕ → Own → NeedData → GotData → Event
event_by before a own (needs.Start asked) (Started pid) = start_event a own (child_of before a asked pid own.read)
event_by before a own due came = Act a own 0

abbrev pub does : State → Counts → List ℕ → NeedData → Option GotData → Outcome
does s before a due None = Is NotWaiting
does s before a due (Some came) = Happens (Came (event_by before a (own_by s a due came) due came))

-- What a giving to the program in a slot comes to: an injector is given its whole input, a message and an envelope.
abbrev pub GivesTo : Option Program → List ℕ → List ℕ → Own → List ℕ → Outcome → Type 0
GivesTo (Some (Injector args)) c a own bytes outcome =
    (message envelope : List ℕ) × (bytes ≡ netstring message ++ netstring envelope) × (outcome ≡ Happens (Fed a own c message envelope))
GivesTo other c a own bytes outcome = outcome ≡ Happens (Came (Act a own 0))

abbrev pub Gives : State → List ℕ → Own → List ℕ → Option Tenant → Outcome → Type 0
Gives s a own bytes (Some (Runs c)) outcome = GivesTo (program_of (s.actors c)) c a own bytes outcome
Gives s a own bytes other outcome = outcome ≡ Happens (Came (Act a own 0))

-- by what the actor must do next, whether it lives, and whether it was started; so many children were started before
abbrev pub DoesNext : Plan → State → ℕ → Counts → List ℕ → Program → NeedData → Outcome → Type 0
DoesNext plan s pid before a program (needs.File call) outcome =
    (told : Told) × Answers plan s.disk call told × (outcome ≡ Happens (Came (call_act a s.now (found_in s a) call told 0)))
DoesNext plan s pid before a program (needs.Ended status) outcome = outcome ≡ Happens (Came (End a s.now (found_in s a) status))
DoesNext plan s pid before a program (needs.Give (port.Program d) bytes) outcome =
    Gives s a (own_by s a (needs.Give (port.Program d) bytes) Gave) bytes (s.pipework.programs a d) outcome
DoesNext plan s pid before a program due outcome = outcome ≡ does s before a due (comes s pid a program due)

abbrev pub DoesAlive : Plan → State → ℕ → Counts → List ℕ → Actor → Life → Outcome → Type 0
DoesAlive plan s pid before a x Living outcome =
    DoesNext plan s pid before a x.program (next_of x.program x.past s.now (found_in s a)) outcome
DoesAlive plan s pid before a x other outcome = outcome ≡ Is Gone

abbrev pub DoesStep : Plan → State → ℕ → Counts → List ℕ → Option Actor → Outcome → Type 0
DoesStep plan s pid before a None outcome = outcome ≡ Is Unknown
DoesStep plan s pid before a (Some x) outcome = DoesAlive plan s pid before a x x.life outcome

-- what a step of the actor of this name comes to, after these deeds, of which the first found this disk, by what is chosen of the disk
abbrev pub StepsTo : Disk → List Deed → Plan → List ℕ → Outcome → Type 0
StepsTo d h plan a outcome = DoesStep plan (after d h) (next_pid h) (counts_in h) a ((after d h).actors a) outcome

-- Plans

-- what is left of a plan after an event of an actor: only a file call uses it up
abbrev pub plan_left_of : NeedData → GotData → Plan → Plan
plan_left_of (needs.File call) (Answered told) plan = plan_left_by call plan told.answer
plan_left_of due came plan = plan

-- what is left of a plan after an event; only a call uses it up
abbrev pub plan_by : Event → Plan → Plan
plan_by (Start a program) plan = plan
plan_by (Act a own wrote) plan = plan_left_of own.due own.came plan
plan_by (Child parent own a program) plan = plan
plan_by (Generation crew) plan = plan
plan_by (Report slot output) plan = plan
plan_by (End a read ready status) plan = plan
plan_by (Stop a) plan = plan
plan_by (Moment m) plan = plan
plan_by (Halt how contents) plan = plan

-- after these deeds, newest first
abbrev pub plan_through : Plan → List Deed → Plan
plan_through plan [] = plan
plan_through plan (deed ∷ before) = plan_by (event_in deed) (plan_through plan before)

-- Runs

-- an event ended an idle turn of a sender, after that state
abbrev pub idles : State → Event → Bool
idles s (Act a own wrote) = idled_by (s.actors a) own
idles s (Child parent own a program) = idled_by (s.actors parent) own
idles s other = false

-- the newest of these deeds, which came after those, did
abbrev pub has_idled : Disk → List Deed → List Deed → Bool
has_idled d h [] = false
has_idled d h (deed ∷ before) = idles (after d (before ++ h)) (event_in deed)

-- the most steps of one run
abbrev pub most_steps : ℕ
most_steps = 1000000

-- A run goes on with this step after these, newest first: they are fewer than the most, and no idle turn has just ended.
abbrev pub RunsOn : Disk → List Deed → Plan → List ℕ → List Deed → Deed → Type 0
RunsOn d h plan a before deed =
    (length before < most_steps) × (has_idled d h before ≡ false) × StepsTo d (before ++ h) (plan_through plan before) a (Happens deed)

abbrev pub AreSteps : Disk → List Deed → Plan → List ℕ → List Deed → Type 0
AreSteps d h plan a deeds = EachFollows (RunsOn d h plan a) deeds

-- What a run prints that stops since its next step is refused so: nothing if the actor waits, or has ended by one of
-- its steps.
abbrev pub stop_text : ℕ → Refusal → List ℕ → List ℕ
stop_text steps NotWaiting a = []
stop_text zero why a = refusal_line why a
stop_text (suc steps) why a = []

-- A run stops with an idle turn; or if its next step is refused; or if it has made the most steps and the actor hasn't ended.
pub data Stops (d : Disk) (h : List Deed) (plan : Plan) (a : List ℕ) (deeds : List Deed) (text : List ℕ) : Type 0 where
  Idles : has_idled d h deeds ≡ true → text ≡ [] → Stops d h plan a deeds text
  Refused : has_idled d h deeds ≡ false → (why : Refusal) → StepsTo d (deeds ++ h) (plan_through plan deeds) a (Is why)
      → (length deeds < most_steps) ⊎ (why ≡ Gone) → text ≡ stop_text (length deeds) why a → Stops d h plan a deeds text
  Full : has_idled d h deeds ≡ false → length deeds ≡ most_steps → (¬ (StepsTo d (deeds ++ h) (plan_through plan deeds) a (Is Gone)))
      → text ≡ refusal_line Steps a → Stops d h plan a deeds text

-- these deeds, newest first, are what a run adds, and this is what it prints
pub record IsRunOf (d : Disk) (h : List Deed) (plan : Plan) (a : List ℕ) (deeds : List Deed) (text : List ℕ) : Type 0 where
  pub are_steps : AreSteps d h plan a deeds
  pub stops : Stops d h plan a deeds text
