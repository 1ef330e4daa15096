-- Each line plays, so all lines do: a script has a text, and what was begun of it is a prefix of its text.
use Rattle.std.proofs.Common.{◌≡◌, inl, inr, ⊎_elim, ℕ, ◌<◌, List, [], ◌∷◌, ◌++◌, length, Bool, true, false, Option, Some, None, refl, sym, ap, ◌∙◌, subst, arith, append_assoc}
use Rattle.std.specs.Prelude.{◌^◌, flat_map, codes, if◌then◌else◌}
use Rattle.std.specs.List.{AllZip}
use Rattle.mail_bytes.specs.Decimal.{digits}
use Rattle.call_fs.specs.Disk.{Disk}
use Rattle.mail_bytes.specs.Moments.{IsMoment}
use Rattle.mem_fs.specs.MemDisk.{bytes_at}
use Rattle.queue_inject.specs.declared.injection.Arguments.{Arguments}
use Rattle.world_events.specs.declared.event.Program.TheVariants.{Injector}
use Rattle.mail_world.specs.History.{Actor, Life, State, report_text}
use Rattle.mail_world.specs.History.Event.{Start, Report, Stop, Moment, Halt}
use Rattle.mail_world.specs.History.Life.{Alive, Over, Stopped}
use Rattle.actor_names.specs.MailNames.{IsMailName, IsLetter, IsLetterOrDigit, members}
use Rattle.mail_world.specs.World.{mail}
use Rattle.script_words.specs.declared.entry.Entry.{Entry}
use Rattle.script_lines.specs.declared.line.Line.{Line}
use Rattle.script_lines.specs.declared.line.Line.TheVariants as line
use Rattle.script_lines.specs.declared.keyword.Alone.TheVariants as alone
use Rattle.script_lines.specs.declared.keyword.OfActor.TheVariants as of_actor
use Rattle.script_lines.specs.declared.keyword.OfCount.TheVariants as of_count
use Rattle.script_lines.specs.declared.keyword.OfLetter.TheVariants as of_letter
use Rattle.script_lines.specs.declared.keyword.OfMoment.TheVariants as of_moment
use Rattle.script_lines.specs.declared.keyword.OfSurvival.TheVariants as of_survival
use Rattle.script_lines.specs.declared.keyword.OfWord.TheVariants as of_word
use Rattle.script_lines.specs.Contents.{Content, HaveEntryPaths}
use Rattle.script_lines.specs.Lines.{IsScript, IsLine}
use Rattle.scenario.specs.Deeds.{Deed, history_of, after, next_pid}
use Rattle.scenario.specs.Deeds.Deed.{Came}
use Rattle.script_disks.specs.FirstDisk.{IsFirstDisk}
use Rattle.scenario.specs.Played.{Outcome, StepsTo, MailComesTo, StopsAlive, StopComesTo, MomentComesTo, NumberComesTo, plan_after, Plays, PlaysAll, outcome_events, printed, refusal_line, cat_line}
use Rattle.scenario.specs.Turns.{first_alive, generation_events, generation_text, awaits_report, report_comes, events_of, text_of, events_in}
use Rattle.script_words.specs.declared.letter.Letter.{Letter}
use Rattle.script_words.specs.Words.{letter_byte}
use Rattle.scenario.specs.Steps.Outcome.{Happens, Is}
use Rattle.scenario.specs.Steps.Refusal.{Unknown, Gone, NotWaiting, Taken, Past}
use Rattle.scenario.specs.Shown.{IsShown, pid_line, number_line, all_mail_lines}
use Rattle.scenario.specs.Summed.{sum_text}
use Rattle.scenario.specs.Traced.{traced_after, traced_text}
use Rattle.scenario.specs.Text.{IsPlayed, IsBegun, Prints, BeginsToPrint, BeginsAtMost, IsPrefix, IsPrefixAtMost}
use Rattle.scenario.proofs.FreeNames.{Goes}
use Rattle.scenario.proofs.Going.{goes_on, goes_started, goes_stopped, goes_moment, goes_halted, goes_generation, goes_report}
use Rattle.scenario.proofs.Endings.{step_comes, runs, steps_kept, turns, turn_kept, settles, rounds_kept}
use Rattle.crash_fs.specs.Answers.{IsFinite}
use Rattle.scenario.proofs.FirstDisks.{first_disk}
use Rattle.crash_fs.proofs.Decided.{Decided, both, either, neither, each, up_to, listed, same_text, some_or_none}
use Rattle.scenario.proofs.Listings.{names_in, numbers_in, numbers_named}
use Rattle.call_fs.specs.Choices.{contents_by}
use Rattle.call_fs.specs.Plan.{Plan, no_plan}
use Rattle.crash_fs.proofs.LeastFree.{is_unused}
use Rattle.scenario.proofs.Openings.{first_opens, is_ready}
use Rattle.script_lines.proofs.SaidContents.{said_paths, said_few}

-- Starts

is_letter : (b : ℕ) → Decided (IsLetter b)
is_letter b = both (up_to 97 b) (up_to b 122)

is_letter_or_digit : (b : ℕ) → Decided (IsLetterOrDigit b)
is_letter_or_digit b = either (is_letter b) (both (up_to 48 b) (up_to b 57))

is_mail_name : (name : List ℕ) → Decided (IsMailName name)
is_mail_name [] = inr (λ h. h)
is_mail_name (first ∷ rest) = ⊎_elim
    (λ h. inl (h.0, h.1.0, h.1.1.0, h.1.1.1))
    (λ fails. inr (λ h. fails (h.0, (h.1, (h.2, h.3)))))
    (both (is_letter first) (both (each IsLetterOrDigit is_letter_or_digit rest)
    (both (up_to (length rest) 15) (neither (listed same_text members (first ∷ rest))))))

mail_comes : (s : State) (name : List ℕ) (args : Arguments) → (outcome : Outcome) × MailComesTo s name args outcome
mail_comes s name args = ⊎_elim
    (λ good. ⊎_elim
    (λ new. (Happens (Came (Start name (Injector args))), inl (good, new, refl)))
    (λ used. (Is Taken, inr (inl used, refl)))
    (some_or_none (s.actors name)))
    (λ bad. (Is Taken, inr (inr bad, refl)))
    (is_mail_name name)

-- `show`

shows : (d : Disk) (h : List Deed) → Goes d h → (text : List ℕ) × IsShown d (history_of h) text
shows d h so =
    let s = after d h in
    let pids = names_in s.disk so.carries.finite (codes "pid") in
    let numbers = numbers_in s.disk so.carries.finite in (
      pid_line pids.0 ++ (flat_map (number_line s.disk) numbers.0 ++ all_mail_lines d (history_of h)),
      record {
        pids = pids.0;
        numbers = numbers.0;
        are_pids = pids.1;
        are_numbers = numbers.1;
        text_is = refl;
      },
    )

-- Stops and moments

stop_life : (a : List ℕ) (life : Life) → (outcome : Outcome) × StopsAlive a life outcome
stop_life a Alive = (Happens (Came (Stop a)), refl)
stop_life a (Over status) = (Is Gone, refl)
stop_life a Stopped = (Is Gone, refl)

stop_comes : (a : List ℕ) (o : Option Actor) → (outcome : Outcome) × StopComesTo a o outcome
stop_comes a None = (Is Unknown, refl)
stop_comes a (Some x) = stop_life a x.life

moment_comes : (now m : ℕ) → (outcome : Outcome) × MomentComesTo now m outcome
moment_comes now m = ⊎_elim
    (λ later. (Happens (Came (Moment m)), inl (later, refl)))
    (λ early. (Is Past, inr (omega arith, refl)))
    (up_to now m)

number_comes : (d : Disk) (n : ℕ) → IsFinite d → (text : List ℕ) × NumberComesTo d n text
number_comes d n f = ⊎_elim
    (λ unused. ([], inl (unused, refl)))
    (λ used. (refusal_line Taken (digits n), inr (used, refl)))
    (is_unused d f n)

-- Lines

plays_line : (d : Disk) (h : List Deed) (plan : Plan) (one : Line) → Goes d h
    → (events : List Deed) × (text : List ℕ) × Plays d h plan one events text
plays_line d h plan (line.Mail name message envelope) so =
    let s = after d h in
    let comes = mail_comes s name (mail (next_pid h) s.now message envelope) in
    (outcome_events comes.0, printed name comes.0, (comes.0, comes.1, refl, refl))
plays_line d h plan (line.Actor of_actor.Step a) so =
    let comes = step_comes d h plan a so.carries in
    (outcome_events comes.0, printed a comes.0, (comes.0, comes.1, refl, refl))
plays_line d h plan (line.Actor of_actor.Run a) so = runs d h plan a so
plays_line d h plan (line.Actor of_actor.Stop a) so =
    let comes = stop_comes a ((after d h).actors a) in
    (outcome_events comes.0, printed a comes.0, (comes.0, comes.1, refl, refl))
plays_line d h plan (line.Survival of_survival.Halt how) so =
    let now = (after d h).disk in
    let named = numbers_named now so.carries.finite in
    (Came (Halt how (contents_by how now named.0)) ∷ [], [], (named.0, named.1, refl, refl))
plays_line d h plan (line.Count of_count.Fault k) so = ([], [], (refl, refl))
plays_line d h plan (line.Count of_count.Number n) so =
    let comes = number_comes (after d h).disk n so.carries.finite in
    ([], comes.0, (refl, comes.1))
plays_line d h plan (line.Moment of_moment.Moment m) so =
    let now = (after d h).now in
    let comes = moment_comes now m in
    (outcome_events comes.0, printed (digits now) comes.0, (comes.0, comes.1, refl, refl))
plays_line d h plan (line.Alone alone.Trace) so = ([], [], (refl, refl))
plays_line d h plan (line.Word of_word.Cat path) so = ([], cat_line path (bytes_at (after d h).disk path), (refl, refl))
plays_line d h plan (line.Alone alone.Show) so = let shown = shows d h so in ([], shown.0, (refl, shown.1))
plays_line d h plan (line.Alone alone.Sum) so = ([], sum_text d (history_of h), (refl, refl))
plays_line d h plan (line.Alone alone.Sender) so =
    let alive = first_alive (after d h) members in
    (generation_events (after d h).now alive, generation_text alive, (refl, refl))
plays_line d h plan (line.Alone alone.Turn) so =
    let turn = turns d h plan so in
    (events_of turn.0, text_of turn.0, (turn.0, turn.1, refl, refl))
plays_line d h plan (line.Letter of_letter.Settle letter) so =
    let all = settles d h plan letter so in
    (events_in letter all.0, all.1, (all.0, all.2, refl))
plays_line d h plan (line.Report slot letter word) so =
    let outcome = report_comes (after d h) slot letter word in
    (outcome_events outcome, printed (codes "rspawn") outcome, (refl, refl))

same_events : (d : Disk) (h events new : List Deed) → events ≡ new → Goes d (new ++ h) → Goes d (events ++ h)
same_events d h events new is so = subst (λ (l : List Deed). Goes d (l ++ h)) (sym is) so

outcome_kept : (d : Disk) (h : List Deed) (plan : Plan) (a : List ℕ) (outcome : Outcome) → Goes d h → StepsTo d h plan a outcome
    → Goes d (outcome_events outcome ++ h)
outcome_kept d h plan a (Happens deed) so steps = goes_on d h plan a deed so steps
outcome_kept d h plan a (Is why) so steps = so

generation_kept : (d : Disk) (h : List Deed) (alive : Option (List ℕ)) → first_alive (after d h) members ≡ alive → Goes d h → Goes d (generation_events (after d h).now alive ++ h)
generation_kept d h None none so = goes_generation d h so none
generation_kept d h (Some a) is so = so

report_kept : (d : Disk) (h : List Deed) (slot : ℕ) (letter : Letter) (word : List ℕ) (awaits : Bool) → awaits_report (after d h) slot ≡ awaits → Goes d h
    → Goes d (outcome_events (if awaits then Happens (Came (Report slot (report_text (letter_byte letter) word))) else Is NotWaiting) ++ h)
report_kept d h slot letter word true is so = goes_report d h slot (report_text (letter_byte letter) word) so is
report_kept d h slot letter word false is so = so

start_kept : (d : Disk) (h : List Deed) (name message envelope : List ℕ) (outcome : Outcome) → Goes d h
    → MailComesTo (after d h) name (mail (next_pid h) (after d h).now message envelope) outcome
    → Goes d (outcome_events outcome ++ h)
start_kept d h name message envelope outcome so comes = ⊎_elim
    (λ good. subst (λ (o : Outcome). Goes d (outcome_events o ++ h)) (sym good.2)
    (goes_started d h name (Injector (mail (next_pid h) (after d h).now message envelope)) tt good.0 so good.1 (omega arith)))
    (λ bad. subst (λ (o : Outcome). Goes d (outcome_events o ++ h)) (sym bad.1) so)
    comes

stop_kept_life : (d : Disk) (h : List Deed) (a : List ℕ) (x : Actor) (life : Life) (outcome : Outcome) → Goes d h
    → (after d h).actors a ≡ Some x → x.life ≡ life → StopsAlive a life outcome → Goes d (outcome_events outcome ++ h)
stop_kept_life d h a x Alive outcome so is alive comes =
    subst (λ (o : Outcome). Goes d (outcome_events o ++ h)) (sym comes) (goes_stopped d h a x so is alive)
stop_kept_life d h a x (Over status) outcome so is over comes = subst (λ (o : Outcome). Goes d (outcome_events o ++ h)) (sym comes) so
stop_kept_life d h a x Stopped outcome so is over comes = subst (λ (o : Outcome). Goes d (outcome_events o ++ h)) (sym comes) so

stop_kept : (d : Disk) (h : List Deed) (a : List ℕ) (o : Option Actor) (outcome : Outcome) → Goes d h
    → (after d h).actors a ≡ o → StopComesTo a o outcome → Goes d (outcome_events outcome ++ h)
stop_kept d h a None outcome so is comes = subst (λ (o : Outcome). Goes d (outcome_events o ++ h)) (sym comes) so
stop_kept d h a (Some x) outcome so is comes = stop_kept_life d h a x x.life outcome so is refl comes

moment_kept : (d : Disk) (h : List Deed) (m : ℕ) (outcome : Outcome) → Goes d h → IsMoment m
    → MomentComesTo (after d h).now m outcome → Goes d (outcome_events outcome ++ h)
moment_kept d h m outcome so moment comes = ⊎_elim
    (λ late. subst (λ (o : Outcome). Goes d (outcome_events o ++ h)) (sym late.1) (goes_moment d h m so moment late.0))
    (λ early. subst (λ (o : Outcome). Goes d (outcome_events o ++ h)) (sym early.1) so)
    comes

-- the number of a line that sets the moment is one
abbrev pub HasMoment : Line → Type 0
HasMoment (line.Mail name message envelope) = Unit {0}
HasMoment (line.Alone first) = Unit {0}
HasMoment (line.Actor first a) = Unit {0}
HasMoment (line.Count first n) = Unit {0}
HasMoment (line.Moment first m) = IsMoment m
HasMoment (line.Survival first how) = Unit {0}
HasMoment (line.Word first read) = Unit {0}
HasMoment (line.Letter first letter) = Unit {0}
HasMoment (line.Report slot letter text) = Unit {0}

abbrev pub HaveMoments : List Line → Type 0
HaveMoments [] = Unit {0}
HaveMoments (one ∷ lines) = HasMoment one × HaveMoments lines

has_moment : (text : List ℕ) (one : Line) → IsLine text one → HasMoment one
has_moment text (line.Mail name message envelope) is = tt
has_moment text (line.Alone first) is = tt
has_moment text (line.Actor first a) is = tt
has_moment text (line.Count first n) is = tt
has_moment text (line.Moment first m) is = is.1
has_moment text (line.Survival first how) is = tt
has_moment text (line.Word first read) is = tt
has_moment text (line.Letter first letter) is = tt
has_moment text (line.Report slot letter report) is = tt

have_moments : (texts : List (List ℕ)) (lines : List Line) → AllZip IsLine texts lines → HaveMoments lines
have_moments [] [] are = tt
have_moments [] (one ∷ lines) are = absurd are
have_moments (text ∷ texts) [] are = tt
have_moments (text ∷ texts) (one ∷ lines) are = (has_moment text one are.0, have_moments texts lines are.1)

pub moments_in : (first later : List Line) → HaveMoments (first ++ later) → HaveMoments first × HaveMoments later
moments_in [] later have = (tt, have)
moments_in (one ∷ first) later have = let rest = moments_in first later have.1 in ((have.0, rest.0), rest.1)

pub line_kept : (d : Disk) (h : List Deed) (plan : Plan) (one : Line) (events : List Deed) (text : List ℕ) → Goes d h → HasMoment one
    → Plays d h plan one events text → Goes d (events ++ h)
line_kept d h plan (line.Mail name message envelope) events text so fits plays =
    same_events d h events (outcome_events plays.0) plays.2 (start_kept d h name message envelope plays.0 so plays.1)
line_kept d h plan (line.Actor of_actor.Step a) events text so fits plays =
    same_events d h events (outcome_events plays.0) plays.2 (outcome_kept d h plan a plays.0 so plays.1)
line_kept d h plan (line.Actor of_actor.Run a) events text so fits plays = steps_kept d h plan a events so plays.are_steps
line_kept d h plan (line.Actor of_actor.Stop a) events text so fits plays =
    same_events d h events (outcome_events plays.0) plays.2 (stop_kept d h a ((after d h).actors a) plays.0 so refl plays.1)
line_kept d h plan (line.Survival of_survival.Halt how) events text so fits plays =
    same_events d h events (Came (Halt how (contents_by how (after d h).disk plays.0)) ∷ []) plays.2 (goes_halted d h how plays.0 so)
line_kept d h plan (line.Count of_count.Fault k) events text so fits plays = same_events d h events [] plays.0 so
line_kept d h plan (line.Count of_count.Number n) events text so fits plays = same_events d h events [] plays.0 so
line_kept d h plan (line.Moment of_moment.Moment m) events text so fits plays =
    same_events d h events (outcome_events plays.0) plays.2 (moment_kept d h m plays.0 so fits plays.1)
line_kept d h plan (line.Alone alone.Trace) events text so fits plays = same_events d h events [] plays.0 so
line_kept d h plan (line.Word of_word.Cat path) events text so fits plays = same_events d h events [] plays.0 so
line_kept d h plan (line.Alone alone.Show) events text so fits plays = same_events d h events [] plays.0 so
line_kept d h plan (line.Alone alone.Sum) events text so fits plays = same_events d h events [] plays.0 so
line_kept d h plan (line.Alone alone.Sender) events text so fits plays =
    same_events d h events (generation_events (after d h).now (first_alive (after d h) members)) plays.0 (generation_kept d h (first_alive (after d h) members) refl so)
line_kept d h plan (line.Alone alone.Turn) events text so fits plays = same_events d h events (events_of plays.0) plays.2 (turn_kept d h plan plays.0 so plays.1)
line_kept d h plan (line.Letter of_letter.Settle letter) events text so fits plays =
    same_events d h events (events_in letter plays.0) plays.2 (rounds_kept d h plan letter plays.0 so plays.1.are)
line_kept d h plan (line.Report slot letter word) events text so fits plays =
    same_events d h events (outcome_events (report_comes (after d h) slot letter word)) plays.0 (report_kept d h slot letter word (awaits_report (after d h) slot) refl so)

-- All lines

record PlaysOn (d : Disk) (h : List Deed) (plan : Plan) (traced : Bool) (lines : List Line) : Type 0 where
  end : List Deed
  left : Plan
  text : List ℕ
  plays : PlaysAll d h plan traced lines end left text

plays_on : (d : Disk) (h : List Deed) (plan : Plan) (traced : Bool) (lines : List Line) → Goes d h → HaveMoments lines
    → PlaysOn d h plan traced lines
plays_on d h plan traced [] so fit = record { end = h; left = plan; text = []; plays = (refl, refl, refl) }
plays_on d h plan traced (first ∷ lines) so fit =
    let one = plays_line d h plan first so in
    let rest = plays_on d (one.0 ++ h) (plan_after plan first one.0 one.1) (traced_after traced first) lines (line_kept d h plan first one.0 one.1 so fit.0 one.2) fit.1 in
    record {
      end = rest.end;
      left = rest.left;
      text = (traced_text traced one.0 ++ one.1) ++ rest.text;
      plays = (one.0, one.1, rest.text, one.2, rest.plays, refl);
    }

pub all_kept : (d : Disk) (h : List Deed) (plan : Plan) (traced : Bool) (lines : List Line) (end : List Deed) (left : Plan) (text : List ℕ) → Goes d h
    → HaveMoments lines → PlaysAll d h plan traced lines end left text → Goes d end
all_kept d h plan traced [] end left text so fit plays = subst (λ (l : List Deed). Goes d l) (sym plays.0) so
all_kept d h plan traced (first ∷ lines) end left text so fit plays =
    all_kept d (plays.0 ++ h) (plan_after plan first plays.0 plays.1) (traced_after traced first) lines end left plays.2
    (line_kept d h plan first plays.0 plays.1 so fit.0 plays.3) fit.1 plays.4

-- whether events are traced after lines
abbrev traced_behind : Bool → List Line → Bool
traced_behind traced [] = traced
traced_behind traced (first ∷ lines) = traced_behind (traced_after traced first) lines

one_after_other : (d : Disk) (h : List Deed) (plan : Plan) (traced : Bool) (first later : List Line) (mid end : List Deed) (left last : Plan)
    (text more : List ℕ) → PlaysAll d h plan traced first mid left text → PlaysAll d mid left (traced_behind traced first) later end last more
    → PlaysAll d h plan traced (first ++ later) end last (text ++ more)
one_after_other d h plan traced [] later mid end left last text more before behind =
    subst (λ (t : List ℕ). PlaysAll d h plan traced later end last (t ++ more)) (sym before.2)
    (subst (λ (p : Plan). PlaysAll d h p traced later end last more) before.1
    (subst (λ (l : List Deed). PlaysAll d l left traced later end last more) before.0 behind))
one_after_other d h plan traced (one ∷ first) later mid end left last text more before behind = (
  before.0,
  before.1,
  before.2 ++ more,
  before.3,
  one_after_other d (before.0 ++ h) (plan_after plan one before.0 before.1) (traced_after traced one) first later mid end left last before.2 more before.4 behind,
  ap (λ (t : List ℕ). t ++ more) before.5 ∙ append_assoc (traced_text traced before.0 ++ before.1) before.2 more,
)

pub goes_first : (opening : List Entry) (d : Disk) → HaveEntryPaths opening → IsFirstDisk opening d → Goes d []
goes_first opening d paths first =
    let ready = is_ready opening d paths first in
    record {
      legal = first_opens opening d paths first;
      carries = record {
        finite = ready.finite;
        lasting = ready.lasting;
        owns = λ a x is lives. absurd (cc);
        runs = λ a x is. absurd (cc);
        in_order = λ a x is. absurd (cc);
        kinds = λ a x is. absurd (cc);
        names = λ a x is. absurd (cc);
        children = λ a d c is. absurd (cc);
        new = λ b none named. (refl, refl);
      };
      unborn = record {
        bounces = λ k later. refl;
        deliveries = λ k later. refl;
        forwards = λ k later. refl;
        unforwarded = λ k x is none. refl;
      };
      begun = λ p x is. absurd (cc);
    }

is_played : (opening : List Entry) (d : Disk) (lines : List Line) (end : List Deed) (left : Plan) (text : List ℕ) → IsFirstDisk opening d
    → PlaysAll d [] no_plan false lines end left text → Goes d end → IsPlayed opening lines text
is_played opening d lines end left text first plays so = record {
  disk = d;
  deeds = end;
  left = left;
  is_first = first;
  plays = plays;
  legal = so.legal;
}

-- entries and lines have a text, if they are fewer entries than numbers
has_played : (opening : List Entry) (lines : List Line) → HaveEntryPaths opening → length opening < 2 ^ 64 → HaveMoments lines → (text : List ℕ) × IsPlayed opening lines text
has_played opening lines paths few fit =
    let d = first_disk opening few in
    let so = goes_first opening d.0 paths d.1 in
    let all = plays_on d.0 [] no_plan false lines so fit in
    let end = all_kept d.0 [] no_plan false lines all.end all.left all.text so fit all.plays in
    (all.text, is_played opening d.0 lines all.end all.left all.text d.1 all.plays end)

-- what was begun is a prefix of the text
has_whole_play : (opening : List Entry) (lines : List Line) (begun : List ℕ) → HaveEntryPaths opening → HaveMoments lines → IsBegun opening lines begun
    → (whole : List ℕ) × IsPlayed opening lines whole × IsPrefix begun whole
has_whole_play opening lines begun paths have cut =
    let some = cut.played in
    let fit = moments_in cut.first cut.later (subst HaveMoments cut.lines_are have) in
    let so = all_kept some.disk [] no_plan false cut.first some.deeds some.left cut.printed (goes_first opening some.disk paths some.is_first) fit.0 some.plays in
    let traced = traced_behind false cut.first in
    let more = plays_on some.disk some.deeds some.left traced cut.later so fit.1 in
    let whole : List ℕ = cut.printed ++ more.text in
    let plays = subst (λ (l : List Line). PlaysAll some.disk [] no_plan false l more.end more.left whole) (sym cut.lines_are)
    (one_after_other some.disk [] no_plan false cut.first cut.later some.deeds more.end some.left more.left cut.printed more.text
    some.plays more.plays) in
    let end = all_kept some.disk some.deeds some.left traced cut.later more.end more.left more.text so fit.1 more.plays in (
      whole,
      is_played opening some.disk lines more.end more.left whole some.is_first plays end,
      (cut.rest ++ more.text, ap (λ (t : List ℕ). t ++ more.text) cut.text_is ∙ append_assoc begun cut.rest more.text),
    )

pub said_moments : (script : List ℕ) (content : Content) → IsScript script content → HaveMoments content.lines
said_moments script content says = have_moments says.are.later content.lines says.are.are_lines

-- each script has a text
pub has_text : (script : List ℕ) (content : Content) → IsScript script content → (text : List ℕ) × Prints script text
has_text script content says =
    let all = has_played content.opening content.lines (said_paths script content says) (said_few script content says) (said_moments script content says) in
    (all.0, record { content = content; says = says; played = all.1 })

-- what was begun is a prefix of it
pub has_whole : (script begun : List ℕ) → BeginsToPrint script begun
    → (whole : List ℕ) × Prints script whole × IsPrefix begun whole
has_whole script begun prints =
    let all = has_whole_play prints.content.opening prints.content.lines begun (said_paths script prints.content prints.says) (said_moments script prints.content prints.says) prints.played in
    (all.0, record { content = prints.content; says = prints.says; played = all.1 }, all.2)

pub prefix_at_most : (script text : List ℕ) → BeginsAtMost script text → IsPrefixAtMost script text
prefix_at_most script text begins = ⊎_elim (λ none. inl none) (λ some. inr (has_whole script text some)) begins
