-- What a script plays, deed by deed, and what each of its lines prints.
use Rattle.std.specs.Prelude.{◌≡◌, ◌⊎◌, ℕ, ◌<◌, ◌≤◌, List, [], ◌∷◌, ◌++◌, Bool, Option, Some, None, IsSome, codes}
use Rattle.mail_bytes.specs.Decimal.{digits}
use Rattle.mail_bytes.specs.Escape.{escaped}
use Rattle.call_fs.specs.Disk.{Disk, IsUnused}
use Rattle.call_fs.specs.Plan.{Plan, with_fault, with_pick}
use Rattle.call_fs.specs.Choices.{AreNamed, contents_by}
use Rattle.mem_fs.specs.MemDisk.{bytes_at}
use Rattle.queue_inject.specs.declared.injection.Arguments.{Arguments}
use Rattle.world_events.specs.declared.event.Program.TheVariants.{Injector}
use Rattle.mail_world.specs.History.{Life, State, Actor}
use Rattle.mail_world.specs.History.Event.{Start, Stop, Moment, Halt}
use Rattle.mail_world.specs.History.Life.{Alive, Over, Stopped}
use Rattle.actor_names.specs.MailNames.{IsMailName, members}
use Rattle.mail_world.specs.World.{mail}
use Rattle.script_lines.specs.declared.line.Line.{Line}
use Rattle.script_lines.specs.declared.line.Line.TheVariants as line
use Rattle.script_lines.specs.declared.keyword.Alone.TheVariants as alone
use Rattle.script_lines.specs.declared.keyword.OfActor.TheVariants as of_actor
use Rattle.script_lines.specs.declared.keyword.OfCount.TheVariants as of_count
use Rattle.script_lines.specs.declared.keyword.OfLetter.TheVariants as of_letter
use Rattle.script_lines.specs.declared.keyword.OfMoment.TheVariants as of_moment
use Rattle.script_lines.specs.declared.keyword.OfSurvival.TheVariants as of_survival
use Rattle.script_lines.specs.declared.keyword.OfWord.TheVariants as of_word
use Rattle.scenario.specs.Shown.{line_of, IsShown}
use Rattle.scenario.specs.Summed.{sum_text}
use Rattle.scenario.specs.Deeds.{Deed, history_of, after}
use Rattle.scenario.specs.Deeds.Deed.{Came}
use Rattle.scenario.specs.Traced.{traced_after, traced_text}
use Rattle.scenario.specs.Steps.Outcome.{Happens, Is}
use Rattle.scenario.specs.Steps.Refusal.{Unknown, Gone, Taken, Past}
use Rattle.scenario.specs.Turns.{Part, Round, first_alive, generation_events, generation_text, report_comes, events_of, text_of, IsTurnOf, events_in, IsSettled}
-- steps and runs
pub use Rattle.scenario.specs.Steps.{Refusal, refusal_word, IsRefusalOf, refusal_line, Outcome, outcome_events, printed, next_pid, StepsTo, plan_left_of, plan_by, plan_through, AreSteps, most_steps, Stops, IsRunOf}

-- What the start of a mail comes to: it is refused if its name was used, or is none that a mail may have.
abbrev pub MailComesTo : State → List ℕ → Arguments → Outcome → Type 0
MailComesTo s name args outcome =
    (IsMailName name × (s.actors name ≡ None) × (outcome ≡ Happens (Came (Start name (Injector args)))))
    ⊎ ((IsSome (s.actors name) ⊎ (¬ (IsMailName name))) × (outcome ≡ Is Taken))

-- What a stop of an actor comes to, by whether it lives, and whether it was started.
abbrev pub StopsAlive : List ℕ → Life → Outcome → Type 0
StopsAlive a Alive outcome = outcome ≡ Happens (Came (Stop a))
StopsAlive a (Over status) outcome = outcome ≡ Is Gone
StopsAlive a Stopped outcome = outcome ≡ Is Gone

abbrev pub StopComesTo : List ℕ → Option Actor → Outcome → Type 0
StopComesTo a None outcome = outcome ≡ Is Unknown
StopComesTo a (Some x) outcome = StopsAlive a x.life outcome

-- what a moment comes to: it is refused if it lies before the present one
abbrev pub MomentComesTo : ℕ → ℕ → Outcome → Type 0
MomentComesTo present m outcome = ((present ≤ m) × (outcome ≡ Happens (Came (Moment m)))) ⊎ ((m < present) × (outcome ≡ Is Past))

-- `PATH : TEXT`, or `PATH none` if there is no such file
abbrev pub cat_line : List ℕ → Option (List ℕ) → List ℕ
cat_line path (Some bytes) = line_of (escaped path) (codes ": " ++ escaped bytes)
cat_line path None = line_of (escaped path) (codes "none")

-- what the pick of a number comes to: it is refused if a name or an open descriptor uses it
abbrev pub NumberComesTo : Disk → ℕ → List ℕ → Type 0
NumberComesTo d n text = (IsUnused d n × (text ≡ [])) ⊎ ((¬ (IsUnused d n)) × (text ≡ refusal_line Taken (digits n)))

-- What a line adds to these deeds, newest first, and what it prints.
abbrev pub Plays : Disk → List Deed → Plan → Line → List Deed → List ℕ → Type 0
Plays d h plan (line.Mail name message envelope) events text =
    (outcome : Outcome) × MailComesTo (after d h) name (mail (next_pid h) (after d h).now message envelope) outcome
    × (events ≡ outcome_events outcome) × (text ≡ printed name outcome)
Plays d h plan (line.Actor of_actor.Step actor) events text =
    (outcome : Outcome) × StepsTo d h plan actor outcome × (events ≡ outcome_events outcome) × (text ≡ printed actor outcome)
Plays d h plan (line.Actor of_actor.Run actor) events text = IsRunOf d h plan actor events text
Plays d h plan (line.Actor of_actor.Stop actor) events text =
    (outcome : Outcome) × StopComesTo actor ((after d h).actors actor) outcome × (events ≡ outcome_events outcome) × (text ≡ printed actor outcome)
Plays d h plan (line.Survival of_survival.Halt how) events text =
    let now = (after d h).disk in
    (named : List ℕ) × AreNamed now named × (events ≡ Came (Halt how (contents_by how now named)) ∷ []) × (text ≡ [])
Plays d h plan (line.Count of_count.Fault k) events text = (events ≡ []) × (text ≡ [])
Plays d h plan (line.Count of_count.Number n) events text = (events ≡ []) × NumberComesTo (after d h).disk n text
Plays d h plan (line.Moment of_moment.Moment m) events text =
    (outcome : Outcome) × MomentComesTo (after d h).now m outcome × (events ≡ outcome_events outcome) × (text ≡ printed (digits (after d h).now) outcome)
Plays d h plan (line.Alone alone.Trace) events text = (events ≡ []) × (text ≡ [])
Plays d h plan (line.Word of_word.Cat path) events text = (events ≡ []) × (text ≡ cat_line path (bytes_at (after d h).disk path))
Plays d h plan (line.Alone alone.Show) events text = (events ≡ []) × IsShown d (history_of h) text
Plays d h plan (line.Alone alone.Sum) events text = (events ≡ []) × (text ≡ sum_text d (history_of h))
Plays d h plan (line.Alone alone.Sender) events text =
    let s = after d h in
    let alive = first_alive s members in
    (events ≡ generation_events s.now alive) × (text ≡ generation_text alive)
Plays d h plan (line.Alone alone.Turn) events text =
    (parts : List Part) × IsTurnOf d h plan parts × (events ≡ events_of parts) × (text ≡ text_of parts)
Plays d h plan (line.Letter of_letter.Settle letter) events text =
    (rounds : List Round) × IsSettled d h plan letter rounds text × (events ≡ events_in letter rounds)
Plays d h plan (line.Report slot letter word) events text =
    let outcome = report_comes (after d h) slot letter word in
    (events ≡ outcome_events outcome) × (text ≡ printed (codes "rspawn") outcome)

-- What is chosen of the disk after a line that added these deeds and printed this: another call that is to fail, another
-- number, if it wasn't refused, or what the events left.
abbrev pub plan_after : Plan → Line → List Deed → List ℕ → Plan
plan_after plan (line.Count of_count.Fault k) events text = with_fault k plan
plan_after plan (line.Count of_count.Number n) events [] = with_pick n plan
plan_after plan (line.Count of_count.Number n) events (b ∷ text) = plan
plan_after plan other events text = plan_through plan events

-- The deeds after these lines, from those on, what is chosen of the disk then, and what they print; if events are traced, a line
-- first prints those that it adds.
abbrev pub PlaysAll : Disk → List Deed → Plan → Bool → List Line → List Deed → Plan → List ℕ → Type 0
PlaysAll d h plan traced [] end left text = (end ≡ h) × (left ≡ plan) × (text ≡ [])
PlaysAll d h plan traced (first ∷ lines) end left text =
    (events : List Deed) × (own rest : List ℕ) × Plays d h plan first events own
    × PlaysAll d (events ++ h) (plan_after plan first events own) (traced_after traced first) lines end left rest
    × (text ≡ (traced_text traced events ++ own) ++ rest)
