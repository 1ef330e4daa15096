-- How each deed of a play came: by a step of an actor, of a plan whose picked number is below 2^64, or with a mail, or by none of them.
use Rattle.std.proofs.Common.{◌≡◌, ⊎_elim, ℕ, ◌<◌, ◌^◌, List, [], ◌∷◌, ◌++◌, append_assoc, Bool, true, false, if◌then◌else◌, codes, Option, Some, None, refl, sym, ◌∙◌, subst}
use Rattle.std.specs.List.{AllZip}
use Rattle.call_fs.specs.Choices.{contents_by}
use Rattle.call_fs.specs.Disk.{Disk}
use Rattle.call_fs.specs.Plan.{Plan, no_plan, pick_left}
use Rattle.call_fs.specs.declared.calls.Answer.{Answer}
use Rattle.call_fs.specs.declared.calls.Answer.TheVariants as told
use Rattle.call_fs.specs.declared.calls.CallData.{CallData}
use Rattle.call_fs.specs.declared.calls.CallData.TheVariants as call
use Rattle.call_fs.specs.declared.past.GotData.{GotData}
use Rattle.call_fs.specs.declared.past.GotData.TheVariants as came
use Rattle.call_fs.specs.declared.past.NeedData.{NeedData}
use Rattle.call_fs.specs.declared.past.NeedData.TheVariants as needs
use Rattle.crash_fs.specs.Answers.{plan_left_by}
use Rattle.actor_names.specs.MailNames.{members}
use Rattle.world_events.specs.declared.event.Program.TheVariants.{Injector}
use Rattle.mail_world.specs.History.{Actor, Event, Life, report_text}
use Rattle.mail_world.specs.History.Event.{Act, Generation, Halt, Moment, Report, Start, Stop}
use Rattle.mail_world.specs.History.Life.{Alive, Over, Stopped}
use Rattle.mail_world.specs.World.{mail}
use Rattle.script_words.specs.declared.letter.Letter.{Letter}
use Rattle.script_words.specs.Words.{letter_byte}
use Rattle.script_lines.specs.declared.line.Line.{Line}
use Rattle.script_lines.specs.declared.line.Line.TheVariants as line
use Rattle.script_lines.specs.declared.keyword.Alone.TheVariants as alone
use Rattle.script_lines.specs.declared.keyword.OfActor.TheVariants as of_actor
use Rattle.script_lines.specs.declared.keyword.OfCount.TheVariants as of_count
use Rattle.script_lines.specs.declared.keyword.OfLetter.TheVariants as of_letter
use Rattle.script_lines.specs.declared.keyword.OfMoment.TheVariants as of_moment
use Rattle.script_lines.specs.declared.keyword.OfSurvival.TheVariants as of_survival
use Rattle.script_lines.specs.declared.keyword.OfWord.TheVariants as of_word
use Rattle.script_lines.specs.Contents.{Content}
use Rattle.script_lines.specs.Lines.{IsLine, IsScript}
use Rattle.scenario.specs.Chains.{EachFollows}
use Rattle.scenario.specs.Deeds.{Deed, after, event_in, next_pid}
use Rattle.scenario.specs.Deeds.Deed.{Came}
use Rattle.scenario.specs.Played.{MailComesTo, MomentComesTo, Outcome, Plays, PlaysAll, StepsTo, StopComesTo, StopsAlive, outcome_events, plan_after}
use Rattle.scenario.specs.Steps.{AreSteps, plan_by, plan_left_of, plan_through}
use Rattle.scenario.specs.Steps.Outcome.{Happens, Is}
use Rattle.scenario.specs.Traced.{traced_after}
use Rattle.scenario.specs.Turns.{AreParts, Part, Round, SettlesOn, awaits_report, events_in, events_of, first_alive, generation_at, generation_events, reports_of, round_events}
use Rattle.scenario.specs.Steps.Refusal.{NotWaiting}
use Rattle.scenario.proofs.Endings.{rounds_kept, steps_kept}
use Rattle.scenario.proofs.FreeNames.{Goes}
use Rattle.scenario.proofs.WholePlays.{HaveMoments, line_kept}

-- Plans

abbrev pub PicksSmall : Plan → Type 0
PicksSmall plan = (n : ℕ) → plan.pick ≡ Some n → n < 2 ^ 64

pub none_picks : PicksSmall no_plan
none_picks n is = absurd (cc)

left_picks : (pick : Option ℕ) (got : Answer) → ((n : ℕ) → pick ≡ Some n → n < 2 ^ 64) → (n : ℕ) → pick_left pick got ≡ Some n → n < 2 ^ 64
left_picks pick (told.Created fd number) small n is = absurd (cc)
left_picks pick other small n is = small n is

call_picks : (plan : Plan) (c : CallData) (got : Answer) → PicksSmall plan → PicksSmall (plan_left_by c plan got)
call_picks plan (call.Close fd) got small = small
call_picks plan c got small = left_picks plan.pick got small

own_picks : (plan : Plan) (due : NeedData) (got : GotData) → PicksSmall plan → PicksSmall (plan_left_of due got plan)
own_picks plan (needs.File c) (came.Answered answered) small = call_picks plan c answered.answer small
own_picks plan due got small = small

event_picks : (plan : Plan) (e : Event) → PicksSmall plan → PicksSmall (plan_by e plan)
event_picks plan (Act a own wrote) small = own_picks plan own.due own.came small
event_picks plan other small = small

through_picks : (plan : Plan) (deeds : List Deed) → PicksSmall plan → PicksSmall (plan_through plan deeds)
through_picks plan [] small = small
through_picks plan (deed ∷ before) small = event_picks (plan_through plan before) (event_in deed) (through_picks plan before small)

-- Deeds

-- an event of no actor
abbrev pub IsOfNone : Event → Type 0
IsOfNone (Generation crew) = Unit {0}
IsOfNone (Report slot output) = Unit {0}
IsOfNone (Stop a) = Unit {0}
IsOfNone (Moment m) = Unit {0}
IsOfNone (Halt how contents) = Unit {0}
IsOfNone other = ⊥

pub data CameSo (d : Disk) (h : List Deed) (deed : Deed) : Type 0 where
  Steps : (plan : Plan) (a : List ℕ) → PicksSmall plan → Goes d h → StepsTo d h plan a (Happens deed) → CameSo d h deed
  Mails : (name message envelope : List ℕ) → deed ≡ Came (Start name (Injector (mail (next_pid h) (after d h).now message envelope))) → CameSo d h deed
  Others : (e : Event) → deed ≡ Came e → IsOfNone e → CameSo d h deed

abbrev pub AllCame : Disk → List Deed → Type 0
AllCame d h = EachFollows (λ before deed. CameSo d before deed) h

-- a play so far
pub record Far (d : Disk) (h : List Deed) : Type 0 where
  pub goes : Goes d h
  pub came : AllCame d h

steps_far : (d : Disk) (h : List Deed) (plan : Plan) (a : List ℕ) (events : List Deed) → Far d h → PicksSmall plan → AreSteps d h plan a events → Far d (events ++ h)
steps_far d h plan a [] far small steps = far
steps_far d h plan a (e ∷ events) far small steps =
    let before = steps_far d h plan a events far small steps.0 in
    record {
      goes = steps_kept d h plan a (e ∷ events) far.goes steps;
      came = (before.came, Steps (plan_through plan events) a (through_picks plan events small) before.goes steps.1.2);
    }

parts_far : (d : Disk) (h : List Deed) (plan : Plan) (parts : List Part) → Far d h → PicksSmall plan → AreParts d h plan parts → Far d (events_of parts ++ h)
parts_far d h plan [] far small are = far
parts_far d h plan (part ∷ before) far small are =
    subst (Far d) (sym (append_assoc part.events (events_of before) h))
    (steps_far d (events_of before ++ h) (plan_through plan (events_of before)) part.actor part.events (parts_far d h plan before far small are.0)
    (through_picks plan (events_of before) small) are.1.run.are_steps)

reports_came : (d : Disk) (h : List Deed) (letter : Letter) (slots : List ℕ) → AllCame d h → AllCame d (reports_of letter slots ++ h)
reports_came d h letter [] came = came
reports_came d h letter (slot ∷ before) came = (
  reports_came d h letter before came,
  Others (Report slot (report_text (letter_byte letter) (codes "settled"))) refl tt,
)

pub rounds_far : (d : Disk) (h : List Deed) (plan : Plan) (letter : Letter) (rounds : List Round) → Far d h → PicksSmall plan → EachFollows (SettlesOn d h plan letter) rounds
    → Far d (events_in letter rounds ++ h)
rounds_far d h plan letter [] far small are = far
rounds_far d h plan letter (round ∷ before) far small are =
    let g = events_in letter before ++ h in
    let left = plan_through plan (events_in letter before) in
    let old = rounds_far d h plan letter before far small are.0 in
    let turned = parts_far d g left round.parts old (through_picks plan (events_in letter before) small) are.1.is.turn.are in
    let told = reports_came d (events_of round.parts ++ g) letter round.slots turned.came in
    record {
      goes = rounds_kept d h plan letter (round ∷ before) far.goes are;
      came = subst (AllCame d) (sym (append_assoc (round_events letter round) (events_in letter before) h ∙ append_assoc (reports_of letter round.slots) (events_of round.parts) g)) told;
    }

-- Lines

-- a number that a line picks is below 2^64
abbrev pub IsSmallLine : Line → Type 0
IsSmallLine (line.Count of_count.Number n) = n < 2 ^ 64
IsSmallLine other = Unit {0}

abbrev pub AreSmallLines : List Line → Type 0
AreSmallLines [] = Unit {0}
AreSmallLines (one ∷ lines) = IsSmallLine one × AreSmallLines lines

small_line : (text : List ℕ) (one : Line) → IsLine text one → IsSmallLine one
small_line text (line.Count of_count.Number n) is = is.1.1
small_line text other is = tt

small_lines : (texts : List (List ℕ)) (lines : List Line) → AllZip IsLine texts lines → AreSmallLines lines
small_lines [] [] are = tt
small_lines [] (one ∷ lines) are = absurd are
small_lines (text ∷ texts) [] are = absurd are
small_lines (text ∷ texts) (one ∷ lines) are = (small_line text one are.0, small_lines texts lines are.1)

pub said_small : (script : List ℕ) (content : Content) → IsScript script content → AreSmallLines content.lines
said_small script content says = small_lines says.are.later content.lines says.are.are_lines

number_picks : (plan : Plan) (n : ℕ) (events : List Deed) (text : List ℕ) → n < 2 ^ 64 → PicksSmall plan → PicksSmall (plan_after plan (line.Count of_count.Number n) events text)
number_picks plan n events [] low small = λ m is. let same : n ≡ m = cc in subst (λ (k : ℕ). k < 2 ^ 64) same low
number_picks plan n events (b ∷ text) low small = small

line_picks : (plan : Plan) (one : Line) (events : List Deed) (text : List ℕ) → IsSmallLine one → PicksSmall plan → PicksSmall (plan_after plan one events text)
line_picks plan (line.Count of_count.Number n) events text low small = number_picks plan n events text low small
line_picks plan (line.Count of_count.Fault k) events text low small = small
line_picks plan other events text low small = through_picks plan events small

module _ (d : Disk) (h : List Deed) (came : AllCame d h) where
  abbrev CameToo : List Deed → Type 0
  CameToo events = AllCame d (events ++ h)

  same_came : (events new : List Deed) → events ≡ new → CameToo new → CameToo events
  same_came events new is all = subst CameToo (sym is) all

  by_none : (e : Event) → IsOfNone e → CameToo (Came e ∷ [])
  by_none e of = (came, Others e refl of)

  mail_came : (name message envelope : List ℕ) (outcome : Outcome) → MailComesTo (after d h) name (mail (next_pid h) (after d h).now message envelope) outcome → CameToo (outcome_events outcome)
  mail_came name message envelope outcome comes = ⊎_elim
      (λ good. subst (λ (o : Outcome). CameToo (outcome_events o)) (sym good.2) (came, Mails name message envelope refl))
      (λ bad. subst (λ (o : Outcome). CameToo (outcome_events o)) (sym bad.1) came)
      comes

  step_came : (plan : Plan) (a : List ℕ) (outcome : Outcome) → PicksSmall plan → Goes d h → StepsTo d h plan a outcome → CameToo (outcome_events outcome)
  step_came plan a (Happens deed) small so steps = (came, Steps plan a small so steps)
  step_came plan a (Is why) small so steps = came

  life_came : (a : List ℕ) (life : Life) (outcome : Outcome) → StopsAlive a life outcome → CameToo (outcome_events outcome)
  life_came a Alive outcome comes = subst (λ (o : Outcome). CameToo (outcome_events o)) (sym comes) (by_none (Stop a) tt)
  life_came a (Over status) outcome comes = subst (λ (o : Outcome). CameToo (outcome_events o)) (sym comes) came
  life_came a Stopped outcome comes = subst (λ (o : Outcome). CameToo (outcome_events o)) (sym comes) came

  stop_came : (a : List ℕ) (o : Option Actor) (outcome : Outcome) → StopComesTo a o outcome → CameToo (outcome_events outcome)
  stop_came a None outcome comes = subst (λ (o : Outcome). CameToo (outcome_events o)) (sym comes) came
  stop_came a (Some x) outcome comes = life_came a x.life outcome comes

  moment_came : (m : ℕ) (outcome : Outcome) → MomentComesTo (after d h).now m outcome → CameToo (outcome_events outcome)
  moment_came m outcome comes = ⊎_elim
      (λ late. subst (λ (o : Outcome). CameToo (outcome_events o)) (sym late.1) (by_none (Moment m) tt))
      (λ early. subst (λ (o : Outcome). CameToo (outcome_events o)) (sym early.1) came)
      comes

  generation_came : (alive : Option (List ℕ)) → CameToo (generation_events (after d h).now alive)
  generation_came None = by_none (generation_at (after d h).now) tt
  generation_came (Some a) = came

  report_came : (slot : ℕ) (letter : Letter) (word : List ℕ) (awaits : Bool)
      → CameToo (outcome_events (if awaits then Happens (Came (Report slot (report_text (letter_byte letter) word))) else Is NotWaiting))
  report_came slot letter word true = by_none (Report slot (report_text (letter_byte letter) word)) tt
  report_came slot letter word false = came

line_came : (d : Disk) (h : List Deed) (plan : Plan) (one : Line) (events : List Deed) (text : List ℕ) → Far d h → PicksSmall plan → Plays d h plan one events text → AllCame d (events ++ h)
line_came d h plan (line.Mail name message envelope) events text far small plays =
    same_came d h far.came events _ plays.2 (mail_came d h far.came name message envelope plays.0 plays.1)
line_came d h plan (line.Actor of_actor.Step a) events text far small plays = same_came d h far.came events _ plays.2 (step_came d h far.came plan a plays.0 small far.goes plays.1)
line_came d h plan (line.Actor of_actor.Run a) events text far small plays = (steps_far d h plan a events far small plays.are_steps).came
line_came d h plan (line.Actor of_actor.Stop a) events text far small plays = same_came d h far.came events _ plays.2 (stop_came d h far.came a ((after d h).actors a) plays.0 plays.1)
line_came d h plan (line.Survival of_survival.Halt how) events text far small plays =
    same_came d h far.came events _ plays.2 (by_none d h far.came (Halt how (contents_by how (after d h).disk plays.0)) tt)
line_came d h plan (line.Count of_count.Fault k) events text far small plays = same_came d h far.came events [] plays.0 far.came
line_came d h plan (line.Count of_count.Number n) events text far small plays = same_came d h far.came events [] plays.0 far.came
line_came d h plan (line.Moment of_moment.Moment m) events text far small plays = same_came d h far.came events _ plays.2 (moment_came d h far.came m plays.0 plays.1)
line_came d h plan (line.Alone alone.Trace) events text far small plays = same_came d h far.came events [] plays.0 far.came
line_came d h plan (line.Word of_word.Cat path) events text far small plays = same_came d h far.came events [] plays.0 far.came
line_came d h plan (line.Alone alone.Show) events text far small plays = same_came d h far.came events [] plays.0 far.came
line_came d h plan (line.Alone alone.Sum) events text far small plays = same_came d h far.came events [] plays.0 far.came
line_came d h plan (line.Alone alone.Sender) events text far small plays = same_came d h far.came events _ plays.0 (generation_came d h far.came (first_alive (after d h) members))
line_came d h plan (line.Alone alone.Turn) events text far small plays = same_came d h far.came events _ plays.2 (parts_far d h plan plays.0 far small plays.1.are).came
line_came d h plan (line.Letter of_letter.Settle letter) events text far small plays = same_came d h far.came events _ plays.2 (rounds_far d h plan letter plays.0 far small plays.1.are).came
line_came d h plan (line.Report slot letter word) events text far small plays =
    same_came d h far.came events _ plays.0 (report_came d h far.came slot letter word (awaits_report (after d h) slot))

-- the deeds of lines, and what is left of a plan after them
pub lines_far : (d : Disk) (h : List Deed) (plan : Plan) (traced : Bool) (lines : List Line) (end : List Deed) (left : Plan) (text : List ℕ) → Far d h → PicksSmall plan
    → HaveMoments lines → AreSmallLines lines → PlaysAll d h plan traced lines end left text → Far d end × PicksSmall left
lines_far d h plan traced [] end left text far small fit low plays = (subst (Far d) (sym plays.0) far, subst PicksSmall (sym plays.1) small)
lines_far d h plan traced (first ∷ lines) end left text far small fit low plays =
    lines_far d (plays.0 ++ h) (plan_after plan first plays.0 plays.1) (traced_after traced first) lines end left plays.2
    (record { goes = line_kept d h plan first plays.0 plays.1 far.goes fit.0 plays.3; came = line_came d h plan first plays.0 plays.1 far small plays.3 })
    (line_picks plan first plays.0 plays.1 low.0 small) fit.1 low.1 plays.4

-- a play that has not begun
pub none_far : (d : Disk) → Goes d [] → Far d []
none_far d begins = record { goes = begins; came = tt }
