-- Each `settle` line of a script that is played leads to what `settle` promises.
use Rattle.std.proofs.Common.{◌≡◌, ℕ, ◌<◌, ◌^◌, List, [], ◌∷◌, ◌++◌, append_assoc, length, Bool, true, false, not, refl, sym, ap, ◌∙◌, subst, arith}
use Rattle.std.specs.List.{list_all}
use Rattle.std.proofs.lemmas.Bool.{and_parts}
use Rattle.std.proofs.lemmas.List.{length-append}
use Rattle.call_fs.specs.Disk.{Disk}
use Rattle.call_fs.specs.Plan.{Plan, no_plan}
use Rattle.call_fs.specs.declared.calls.Answer.{Answer}
use Rattle.call_fs.specs.declared.calls.Answer.TheVariants as told
use Rattle.call_fs.specs.declared.calls.FsError.TheVariants as error
use Rattle.call_fs.specs.declared.past.GotData.{GotData}
use Rattle.call_fs.specs.declared.past.GotData.TheVariants as came
use Rattle.mail_world.specs.History.{Event}
use Rattle.mail_world.specs.History.Event.{Act, Child, End, Generation, Halt, Moment, Report, Start, Stop}
use Rattle.script_words.specs.declared.letter.Letter.{Letter}
use Rattle.script_lines.specs.declared.line.Line.{Line}
use Rattle.script_lines.specs.declared.line.Line.TheVariants as line
use Rattle.script_lines.specs.declared.keyword.OfLetter.TheVariants as of_letter
use Rattle.script_lines.proofs.SaidContents.{said_paths, said_short}
use Rattle.scenario.specs.Deeds.{Deed, history_of}
use Rattle.scenario.specs.Played.{PlaysAll, plan_after}
use Rattle.scenario.specs.Text.{Prints}
use Rattle.scenario.specs.Traced.{traced_after, traced_text}
use Rattle.scenario.specs.Turns.{IsSettled, Round, events_in}
use Rattle.scenario.specs.Working.{has_failed, is_error}
use Rattle.scenario.proofs.WholePlays.{HaveMoments, goes_first, moments_in, said_moments}
use Rattle.settle_law.specs.Lines.{IsUntroubled, LinesSettle, SettlesThere, is_untroubled, traced_past}
use Rattle.settle_law.specs.Promised.{HasSettled, SettlesEnd, SuccessesEnd}
use Rattle.settle_law.specs.Well.{came_well, goes_well, is_well_answered}
use Rattle.settle_law.proofs.FirstNumbers.{first_empty, first_uses}
use Rattle.settle_law.proofs.PlayedDeeds.{AreSmallLines, Far, lines_far, none_far, none_picks, rounds_far, said_small}
use Rattle.settle_law.proofs.PlayedNumbers.{all_numbered, came_small, is_numbered, small_answer}
use Rattle.settle_law.proofs.SmallNumbers.{both_true}
use Rattle.settle_law.proofs.Stopping.{settle_stops}

-- What goes well

answer_well : (got : Answer) → not (is_error got) ≡ true → small_answer got ≡ true → is_well_answered got ≡ true
answer_well (told.Refused error.Fault) well small = absurd (cc)
answer_well (told.Refused error.Memory) well small = absurd (cc)
answer_well (told.Created fd n) well small = small
answer_well other well small = refl

came_so : (got : GotData) → not (has_failed got) ≡ true → came_small got ≡ true → came_well got ≡ true
came_so (came.Answered answered) well small = answer_well answered.answer well small
came_so came.Failed well small = absurd (cc)
came_so came.Memory well small = absurd (cc)
came_so other well small = refl

event_well : (e : Event) → is_untroubled e ≡ true → is_numbered e ≡ true → goes_well e ≡ true
event_well (Start a program) well small = small
event_well (Act a own wrote) well small = came_so own.came well small
event_well (Child parent own a program) well small = small
event_well (Generation crew) well small = refl
event_well (Report slot output) well small = refl
event_well (End a read ready status) well small = well
event_well (Stop a) well small = absurd (cc)
event_well (Moment m) well small = refl
event_well (Halt how contents) well small = absurd (cc)

all_well : (h : List Event) → list_all is_untroubled h ≡ true → list_all is_numbered h ≡ true → list_all goes_well h ≡ true
all_well [] well small = refl
all_well (e ∷ before) well small =
    let one = and_parts (is_untroubled e) (list_all is_untroubled before) well in
    let other = and_parts (is_numbered e) (list_all is_numbered before) small in
    both_true (goes_well e) (list_all goes_well before) (event_well e one.0 other.0) (all_well before one.1 other.1)

-- Where a line stands

-- a `settle` line among lines that are played after these deeds
record IsAmong (d : Disk) (h : List Deed) (plan : Plan) (traced : Bool) (first : List Line) (letter : Letter) (end : List Deed) (text : List ℕ) : Type 0 where
  before : List Deed
  left : Plan
  printed : List ℕ
  plays : PlaysAll d h plan traced first before left printed
  rounds : List Round
  own : List ℕ
  settles : IsSettled d before left letter rounds own
  later : List Deed
  deeds_are : end ≡ later ++ (events_in letter rounds ++ before)
  rest : List ℕ
  text_is : text ≡ printed ++ ((traced_text (traced_past traced first) (events_in letter rounds) ++ own) ++ rest)

-- lines add deeds to those before
more_deeds : (d : Disk) (h : List Deed) (plan : Plan) (traced : Bool) (lines : List Line) (end : List Deed) (left : Plan) (text : List ℕ) → PlaysAll d h plan traced lines end left text
    → (later : List Deed) × (end ≡ later ++ h)
more_deeds d h plan traced [] end left text plays = ([], plays.0)
more_deeds d h plan traced (one ∷ lines) end left text plays =
    let rest = more_deeds d (plays.0 ++ h) (plan_after plan one plays.0 plays.1) (traced_after traced one) lines end left plays.2 plays.4 in
    (rest.0 ++ plays.0, rest.1 ∙ sym (append_assoc rest.0 plays.0 h))

among : (d : Disk) (h : List Deed) (plan : Plan) (traced : Bool) (first : List Line) (letter : Letter) (lines : List Line) (end : List Deed) (left : Plan) (text : List ℕ)
    → PlaysAll d h plan traced (first ++ line.Letter of_letter.Settle letter ∷ lines) end left text → IsAmong d h plan traced first letter end text
among d h plan traced [] letter lines end left text plays =
    let settles = plays.3 in
    let rest = more_deeds d (plays.0 ++ h) (plan_after plan (line.Letter of_letter.Settle letter) plays.0 plays.1) traced lines end left plays.2 plays.4 in
    record {
      before = h;
      left = plan;
      printed = [];
      plays = (refl, refl, refl);
      rounds = settles.0;
      own = plays.1;
      settles = settles.1;
      later = rest.0;
      deeds_are = rest.1 ∙ ap (λ (l : List Deed). rest.0 ++ (l ++ h)) settles.2;
      rest = plays.2;
      text_is = plays.5 ∙ ap (λ (l : List Deed). (traced_text traced l ++ plays.1) ++ plays.2) settles.2;
    }
among d h plan traced (one ∷ first) letter lines end left text plays =
    let it = among d (plays.0 ++ h) (plan_after plan one plays.0 plays.1) (traced_after traced one) first letter lines end left plays.2 plays.4 in
    let said = traced_text traced plays.0 ++ plays.1 in
    record {
      before = it.before;
      left = it.left;
      printed = said ++ it.printed;
      plays = (plays.0, plays.1, it.printed, plays.3, it.plays, refl);
      rounds = it.rounds;
      own = it.own;
      settles = it.settles;
      later = it.later;
      deeds_are = it.deeds_are;
      rest = it.rest;
      text_is = plays.5 ∙ (ap (λ (t : List ℕ). said ++ t) it.text_is
          ∙ sym (append_assoc said it.printed ((traced_text (traced_past (traced_after traced one) first) (events_in letter it.rounds) ++ it.own) ++ it.rest)));
    }

module _ (script text : List ℕ) (prints : Prints script text) (low : length prints.played.deeds < 2 ^ 63) (first lines : List Line) (letter : Letter) (are : prints.content.lines ≡ first ++ line.Letter of_letter.Settle letter ∷ lines) where
  abbrev disk : Disk
  disk = prints.played.disk

  it : IsAmong disk [] no_plan false first letter prints.played.deeds text
  it = among disk [] no_plan false first letter lines prints.played.deeds prints.played.left text
      (subst (λ (l : List Line). PlaysAll disk [] no_plan false l prints.played.deeds prints.played.left text) are prints.played.plays)

  -- what was done until then, and by it
  abbrev done : List Deed
  done = events_in letter it.rounds ++ it.before

  fit : HaveMoments first
  fit = (moments_in first (line.Letter of_letter.Settle letter ∷ lines) (subst HaveMoments are (said_moments script prints.content prints.says))).0

  small_first : (some more : List Line) → AreSmallLines (some ++ more) → AreSmallLines some
  small_first [] more small = tt
  small_first (one ∷ some) more small = (small.0, small_first some more small.1)

  small : AreSmallLines first
  small = small_first first (line.Letter of_letter.Settle letter ∷ lines) (subst AreSmallLines are (said_small script prints.content prints.says))

  far : Far disk done
  far =
      let begins = goes_first prints.content.opening disk (said_paths script prints.content prints.says) prints.played.is_first in
      let before = lines_far disk [] no_plan false first it.before it.left it.printed (none_far disk begins) none_picks fit small it.plays in
      rounds_far disk it.before it.left letter it.rounds before.0 before.1 it.settles.are

  few_entries : length prints.content.opening < 2 ^ 63
  few_entries =
      let entries = said_short script prints.content prints.says in
      let short = prints.says.short in
      omega arith

  few : length done < 2 ^ 63
  few =
      let whole = ap length it.deeds_are ∙ length-append it.later done in
      omega (arith, whole, low)

  has_settled : (own : it.own ≡ []) → (calm : IsUntroubled disk done) → HasSettled disk it.before letter it.rounds
  has_settled own calm =
      let numbered = all_numbered disk done (first_uses prints.content.opening disk few_entries prints.played.is_first) far.came few in
      record {
        plan = it.left;
        settles = subst (λ (t : List ℕ). IsSettled disk it.before it.left letter it.rounds t) own it.settles;
        empty = first_empty prints.content.opening disk (said_paths script prints.content prints.says) prints.played.is_first;
        well = record { legal = far.goes.legal; well = all_well (history_of done) calm.well numbered };
        may = calm.may;
      }

  settles_there : SettlesEnd → SuccessesEnd → SettlesThere disk first letter prints.played.deeds text
  settles_there ends gone = record {
    there = record {
      before = it.before;
      plan = it.left;
      printed = it.printed;
      plays = it.plays;
      rounds = it.rounds;
      own = it.own;
      settles = it.settles;
      later = it.later;
      deeds_are = it.deeds_are;
      rest = it.rest;
      text_is = it.text_is;
    };
    stops = settle_stops disk it.before it.left letter it.rounds it.own it.settles;
    settled = λ own calm. ends disk it.before letter it.rounds (has_settled own calm);
    gone = λ own calm all. gone disk it.before letter it.rounds (has_settled own calm) all;
  }

pub lines_settle_by : SettlesEnd → SuccessesEnd → LinesSettle
lines_settle_by ends gone script text prints few first lines letter are = settles_there script text prints (few text prints) first lines letter are ends gone
