-- The parts of a turn and the rounds of `settle`, one after the other.
use Rattle.std.proofs.Common.{◌≡◌, ◌≢◌, ◌⊎◌, inl, inr, ⊎_elim, ℕ, ◌+◌, ◌<◌, ◌≤◌, List, [], ◌∷◌, ◌++◌, length, Bool, true, false, ◌&&◌, ◌||◌, Some, None, refl, sym, ap, ◌∙◌, subst, arith, append_assoc}
use Rattle.std.specs.Prelude.{codes}
use Rattle.std.proofs.lemmas.List.{append-nil}
use Rattle.call_fs.specs.Disk.{Disk}
use Rattle.call_fs.specs.Plan.{Plan}
use Rattle.crash_fs.specs.Crash.{Crash}
use Rattle.mail_world.specs.Generations.{lowest_unreported}
use Rattle.mail_world.specs.World.{Seen}
use Rattle.script_lines.specs.declared.line.Line.TheVariants as line
use Rattle.script_lines.specs.declared.keyword.Alone.TheVariants as alone
use Rattle.script_lines.specs.declared.keyword.OfLetter.TheVariants as of_letter
use Rattle.script_words.specs.declared.letter.Letter.{Letter}
use Rattle.scenario.specs.Chains.{EachFollows}
use Rattle.scenario.specs.Deeds.{Deed, event_in, after}
use Rattle.scenario.specs.Steps.{plan_through, plan_by, idles, has_idled, refusal_line}
use Rattle.scenario.specs.Steps.Refusal.{Rounds}
use Rattle.scenario.specs.Turns.{next_living, NoneBetween, Part, events_of, text_of, place_after, AreParts, Round, reports_of, slot_after, ReportsOn, AreReported, AreReportsAfter, round_events, are_searches, is_idle, has_bytes, events_in, is_last, most_rounds, SettlesOn}
use Rattle.scenario.specs.Turns.Settles.{Rests, Full}
use Rattle.scenario.proofs.DeadStarts.{none_skipped, passed_stays}
use Rattle.scenario.specs.Playing.{IsPlaying, HasRun, HasPlayed}
use Rattle.scenario.specs.inside.Playing.{HasParted, HasTurned, HasReported, HasRounded, NonePassed}

-- What events leave of a plan, in two steps
pub plan_through-append : (plan : Plan) (later before : List Deed) → plan_through plan (later ++ before) ≡ plan_through (plan_through plan before) later
plan_through-append plan [] before = refl
plan_through-append plan (x ∷ later) before = ap (plan_by (event_in x)) (plan_through-append plan later before)

-- the history and the plan after events, read as one list
pub playing_on : (d : Disk) (w : Seen Crash) (plan : Plan) (later before h : List Deed) → IsPlaying d w (plan_through (plan_through plan before) later) (later ++ (before ++ h))
    → IsPlaying d w (plan_through plan (later ++ before)) ((later ++ before) ++ h)
playing_on d w plan later before h playing =
    subst (λ (p : Plan). IsPlaying d w p ((later ++ before) ++ h)) (sym (plan_through-append plan later before))
    (subst (λ (l : List Deed). IsPlaying d w (plan_through (plan_through plan before) later) l) (sym (append_assoc later before h)) playing)

-- Parts

-- So many parts were run, which printed nothing; the next one is the first from this place on. None lives where the turn doesn't look.
pub record HasTurnedOn (d : Disk) (h : List Deed) (plan : Plan) (w : Seen Crash) (first later : ℕ) (idle : Bool) (from : ℕ) : Type 0 where
  pub parts : List Part
  pub are : AreParts d h plan parts
  pub quiet : text_of parts ≡ []
  pub idled : idle ≡ has_idled d h (events_of parts)
  pub next_is : next_living d (events_of parts ++ h) (place_after parts) ≡ next_living d (events_of parts ++ h) from
  pub none : NonePassed d (events_of parts ++ h) first later
  pub playing : IsPlaying d w (plan_through plan (events_of parts)) (events_of parts ++ h)

abbrev pub turn_begins : (d : Disk) (h : List Deed) (plan : Plan) (w : Seen Crash) (first later : ℕ) → IsPlaying d w plan h → NonePassed d h first later → HasTurnedOn d h plan w first later false first
turn_begins d h plan w first later playing none = record {
  parts = [];
  are = tt;
  quiet = refl;
  idled = refl;
  next_is = none_skipped d h 0 first (omega arith) none.0;
  none = none;
  playing = playing;
}

-- the newest event of a turn is that of the part, if it has one
pub idled_on : (d : Disk) (h : List Deed) (events before : List Deed) (was now : Bool) → was ≡ has_idled d h before
    → ((events ≡ []) × (now ≡ was)) ⊎ ((events ≢ []) × (now ≡ has_idled d (before ++ h) events)) → now ≡ has_idled d h (events ++ before)
idled_on d h [] before was now is (inl none) = none.1 ∙ is
idled_on d h [] before was now is (inr some) = absurd (some.0 refl)
idled_on d h (x ∷ events) before was now is (inl none) = absurd (let e = none.0 in cc)
idled_on d h (x ∷ events) before was now is (inr some) = some.1 ∙ ap (λ (l : List Deed). idles (after d l) (event_in x)) (sym (append_assoc events before h))

abbrev part_of : List ℕ → ℕ → List Deed → List ℕ → Part
part_of a place events text = record { actor = a; place = place; events = events; text = text }

-- one part more
pub record OnePart (d : Disk) (h : List Deed) (plan : Plan) (v : Seen Crash) (first later : ℕ) (now : Bool) (place : ℕ) (own : List ℕ) : Type 0 where
  pub parts : List Part
  pub are : AreParts d h plan parts
  pub printed : text_of parts ≡ own
  pub idled : now ≡ has_idled d h (events_of parts)
  pub place_is : place + 1 ≡ place_after parts
  pub none : NonePassed d (events_of parts ++ h) first later
  pub playing : IsPlaying d v (plan_through plan (events_of parts)) (events_of parts ++ h)

abbrev pub one_part : (d : Disk) (h : List Deed) (plan : Plan) (w v : Seen Crash) (was now : Bool) (first later from place : ℕ) (a before after_text : List ℕ) (turn : HasTurnedOn d h plan w first later was from)
    → next_living d (events_of turn.parts ++ h) from ≡ Some (a, place) → (part : HasParted d v a was now before after_text (plan_through plan (events_of turn.parts)) (events_of turn.parts ++ h))
    → OnePart d h plan v first later now place part.own
one_part d h plan w v was now first later from place a before after_text turn next part = record {
  parts = part_of a place part.events part.own ∷ turn.parts;
  are = (
    turn.are,
    record {
      quiet = turn.quiet;
      next = turn.next_is ∙ next;
      run = part.run;
    },
  );
  printed = refl;
  idled = idled_on d h part.events (events_of turn.parts) was now turn.idled part.idled;
  place_is = refl;
  none = subst (λ (l : List Deed). NonePassed d l first later) (sym (append_assoc part.events (events_of turn.parts) h))
      (passed_stays d w v (plan_through plan (events_of turn.parts)) (plan_through (plan_through plan (events_of turn.parts)) part.events) part.events (events_of turn.parts ++ h) first later
      turn.playing part.playing turn.none);
  playing = playing_on d v plan part.events (events_of turn.parts) h part.playing;
}

-- the turn goes on from a place: from the next one to it none lives
abbrev pub part_goes_on : (d : Disk) (h : List Deed) (plan : Plan) (v : Seen Crash) (now : Bool) (first later more place next from : ℕ) (own : List ℕ) (part : OnePart d h plan v first later now place own)
    → own ≡ [] → next ≡ place + 1 → next ≤ from → NonePassed d (events_of part.parts ++ h) first more × NoneBetween d (events_of part.parts ++ h) next from
    → HasTurnedOn d h plan v first more now from
part_goes_on d h plan v now first later more place next from own part quiet is rises none = record {
  parts = part.parts;
  are = part.are;
  quiet = part.printed ∙ quiet;
  idled = part.idled;
  next_is = ap (next_living d (events_of part.parts ++ h)) (sym (is ∙ part.place_is)) ∙ none_skipped d (events_of part.parts ++ h) next from rises none.1;
  none = none.0;
  playing = part.playing;
}

-- the turn is over: a part printed something, or no living actor is left
abbrev pub turn_printed : (d : Disk) (h : List Deed) (plan : Plan) (v : Seen Crash) (now : Bool) (first later place : ℕ) (own before after_text : List ℕ) → (part : OnePart d h plan v first later now place own) → own ≢ []
    → after_text ≡ before ++ own → HasTurned d v first later now before after_text plan h
turn_printed d h plan v now first later place own before after_text part some text = record {
  parts = part.parts;
  turn = record { are = part.are; over = inl (λ e. some (sym part.printed ∙ e)) };
  idled = part.idled;
  none = part.none;
  playing = part.playing;
  text = text ∙ ap (λ t. before ++ t) (sym part.printed);
}

abbrev pub turn_rests : (d : Disk) (h : List Deed) (plan : Plan) (w : Seen Crash) (idle : Bool) (first later from : ℕ) (text : List ℕ) (turn : HasTurnedOn d h plan w first later idle from)
    → next_living d (events_of turn.parts ++ h) from ≡ None → HasTurned d w first later idle text text plan h
turn_rests d h plan w idle first later from text turn none = record {
  parts = turn.parts;
  turn = record { are = turn.are; over = inr (turn.next_is ∙ none) };
  idled = turn.idled;
  none = turn.none;
  playing = turn.playing;
  text = sym (append-nil text) ∙ ap (λ t. text ++ t) (sym turn.quiet);
}

-- the part of a turn that a run is
abbrev pub run_parted : (d : Disk) (w : Seen Crash) (a : List ℕ) (was idle now : Bool) (before after_text : List ℕ) (plan : Plan) (h : List Deed) (run : HasRun d w a idle before after_text plan h)
    → ((run.events ≡ []) × (now ≡ was)) ⊎ ((run.events ≢ []) × (now ≡ idle)) → HasParted d w a was now before after_text plan h
run_parted d w a was idle now before after_text plan h run which = record {
  events = run.events;
  own = run.own;
  run = run.run;
  idled = ⊎_elim (λ none. inl none) (λ some. inr (some.0, some.1 ∙ run.idled)) which;
  playing = run.playing;
  text = run.text;
}

-- a turn as a line
abbrev pub turn_played : (d : Disk) (w : Seen Crash) (plan : Plan) (first later : ℕ) (idle : Bool) (before after_text : List ℕ) (h : List Deed) → HasTurned d w first later idle before after_text plan h
    → HasPlayed d w (line.Alone alone.Turn) before after_text plan h
turn_played d w plan first later idle before after_text h turn = record {
  events = events_of turn.parts;
  own = text_of turn.parts;
  plays = (turn.parts, turn.turn, refl, refl);
  playing = turn.playing;
  text = turn.text;
}

-- Reports

-- reports leave each plan
pub plan_reports : (plan : Plan) (letter : Letter) (slots : List ℕ) → plan_through plan (reports_of letter slots) ≡ plan
plan_reports plan letter [] = refl
plan_reports plan letter (slot ∷ slots) = plan_reports plan letter slots

pub record HasReportedOn (d : Disk) (h : List Deed) (letter : Letter) (w : Seen Crash) (plan : Plan) (from : ℕ) : Type 0 where
  pub slots : List ℕ
  pub are : EachFollows (ReportsOn d h letter) slots
  pub place : from ≡ slot_after slots
  pub playing : IsPlaying d w plan (reports_of letter slots ++ h)

abbrev pub reports_begin : (d : Disk) (h : List Deed) (letter : Letter) (w : Seen Crash) (plan : Plan) → IsPlaying d w plan h → HasReportedOn d h letter w plan 0
reports_begin d h letter w plan playing = record { slots = []; are = tt; place = refl; playing = playing }

abbrev pub one_report : (d : Disk) (h : List Deed) (letter : Letter) (w v : Seen Crash) (plan : Plan) (from slot next : ℕ) (so : HasReportedOn d h letter w plan from)
    → lowest_unreported from (after d (reports_of letter so.slots ++ h)) ≡ Some slot → next ≡ slot + 1 → IsPlaying d v plan (reports_of letter (slot ∷ so.slots) ++ h)
    → HasReportedOn d h letter v plan next
one_report d h letter w v plan from slot next so lowest is playing = record {
  slots = slot ∷ so.slots;
  are = (so.are, ap (λ n. lowest_unreported n (after d (reports_of letter so.slots ++ h))) (sym so.place) ∙ lowest);
  place = is;
  playing = playing;
}

abbrev pub all_reported : (d : Disk) (h : List Deed) (letter : Letter) (w : Seen Crash) (plan : Plan) (from : ℕ) (so : HasReportedOn d h letter w plan from)
    → lowest_unreported from (after d (reports_of letter so.slots ++ h)) ≡ None → HasReported d w letter plan h
all_reported d h letter w plan from so none = record {
  slots = so.slots;
  reported = record { are = so.are; none = ap (λ n. lowest_unreported n (after d (reports_of letter so.slots ++ h))) (sym so.place) ∙ none };
  playing = so.playing;
}

-- Rounds

-- a turn that printed something is the last round, without reports
pub reports_none : (d : Disk) (h : List Deed) (letter : Letter) (text : List ℕ) → text ≢ [] → AreReportsAfter d h letter text []
reports_none d h letter [] some = absurd (some refl)
reports_none d h letter (b ∷ text) some = refl

pub bytes_some : (text : List ℕ) → text ≢ [] → has_bytes text ≡ true
bytes_some [] some = absurd (some refl)
bytes_some (b ∷ text) some = refl

abbrev pub round_printed : (d : Disk) (w : Seen Crash) (first later : ℕ) (letter : Letter) (idle : Bool) (before after_text : List ℕ) (plan : Plan) (h : List Deed) (turn : HasTurned d w first later idle before after_text plan h)
    → text_of turn.parts ≢ [] → HasRounded d w first later letter true before after_text plan h
round_printed d w first later letter idle before after_text plan h turn some =
    let round : Round = record { parts = turn.parts; slots = [] } in
    record {
      round = round;
      is = record { turn = turn.turn; reports = reports_none d (events_of turn.parts ++ h) letter (text_of turn.parts) some };
      is_last = sym (ap (λ t. t || is_idle d h letter round) (bytes_some (text_of turn.parts) some));
      none = turn.none;
      playing = turn.playing;
      text = turn.text;
    }

-- whether such a round is idle, by its events and by the newest one of its turn
pub round_idle : (d : Disk) (h : List Deed) (letter : Letter) (idle searches : Bool) (parts : List Part) (slots : List ℕ) → idle ≡ has_idled d h (events_of parts)
    → searches ≡ are_searches (reports_of letter slots ++ events_of parts) → (idle && searches) ≡ is_idle d h letter (record { parts = parts; slots = slots })
round_idle d h letter true searches parts [] idled all = all ∙ and_true searches (are_searches (events_of parts)) (has_idled d h (events_of parts)) all idled
  where
    and_true : (s t u : Bool) → s ≡ t → true ≡ u → t ≡ (t && u)
    and_true s true u same is = is
    and_true s false u same is = refl
round_idle d h letter false searches parts [] idled all = and_false (are_searches (events_of parts)) (has_idled d h (events_of parts)) idled
  where
    and_false : (t u : Bool) → false ≡ u → false ≡ (t && u)
    and_false true u is = is
    and_false false u is = refl
round_idle d h letter true searches parts (slot ∷ slots) idled all = all
round_idle d h letter false searches parts (slot ∷ slots) idled all = refl

pub reports_after : (d : Disk) (h : List Deed) (letter : Letter) (text slots : List ℕ) → text ≡ [] → AreReported d h letter slots → AreReportsAfter d h letter text slots
reports_after d h letter [] slots none reported = reported
reports_after d h letter (b ∷ text) slots none reported = absurd (cc)

abbrev pub round_reported : (d : Disk) (w v : Seen Crash) (first later : ℕ) (letter : Letter) (idle searches : Bool) (before after_text : List ℕ) (plan : Plan) (h : List Deed) (turn : HasTurned d w first later idle before after_text plan h)
    → text_of turn.parts ≡ [] → (told : HasReported d v letter (plan_through plan (events_of turn.parts)) (events_of turn.parts ++ h))
    → searches ≡ are_searches (reports_of letter told.slots ++ events_of turn.parts) → HasRounded d v first later letter (idle && searches) before after_text plan h
round_reported d w v first later letter idle searches before after_text plan h turn quiet told all =
    let round : Round = record { parts = turn.parts; slots = told.slots } in
    record {
      round = round;
      is = record { turn = turn.turn; reports = reports_after d (events_of turn.parts ++ h) letter (text_of turn.parts) told.slots quiet told.reported };
      is_last = round_idle d h letter idle searches turn.parts told.slots turn.idled all ∙ sym (ap (λ t. has_bytes t || is_idle d h letter round) quiet);
      none = subst (λ (l : List Deed). NonePassed d l first later) (sym (append_assoc (reports_of letter told.slots) (events_of turn.parts) h))
          (passed_stays d w v (plan_through plan (events_of turn.parts)) (plan_through plan (events_of turn.parts)) (reports_of letter told.slots) (events_of turn.parts ++ h) first later
          turn.playing told.playing turn.none);
      playing = playing_on d v plan (reports_of letter told.slots) (events_of turn.parts) h
          (subst (λ (p : Plan). IsPlaying d v p (reports_of letter told.slots ++ (events_of turn.parts ++ h))) (sym (plan_reports (plan_through plan (events_of turn.parts)) letter told.slots)) told.playing);
      text = turn.text;
    }

-- So many rounds were made, none of which was the last one; none lives where the next one's turn doesn't look.
pub record HasSettledOn (d : Disk) (h : List Deed) (plan : Plan) (letter : Letter) (w : Seen Crash) (made first later : ℕ) : Type 0 where
  pub rounds : List Round
  pub are : EachFollows (SettlesOn d h plan letter) rounds
  pub more : is_last d h letter rounds ≡ false
  pub count : length rounds ≡ made
  pub none : NonePassed d (events_in letter rounds ++ h) first later
  pub playing : IsPlaying d w (plan_through plan (events_in letter rounds)) (events_in letter rounds ++ h)

pub none_yet : (d : Disk) (h : List Deed) → NonePassed d h 0 0
none_yet d h = (λ n low less. absurd (omega arith), λ n low less. absurd (omega arith))

abbrev pub settle_begins : (d : Disk) (h : List Deed) (plan : Plan) (letter : Letter) (w : Seen Crash) → IsPlaying d w plan h → HasSettledOn d h plan letter w 0 0 0
settle_begins d h plan letter w playing = record { rounds = []; are = tt; more = refl; count = refl; none = none_yet d h; playing = playing }

-- one round more
abbrev pub settle_goes_on : (d : Disk) (h : List Deed) (plan : Plan) (letter : Letter) (w v : Seen Crash) (made was had first later : ℕ) (before after_text : List ℕ) (so : HasSettledOn d h plan letter w made was had)
    → made < most_rounds d h → HasRounded d v first later letter false before after_text (plan_through plan (events_in letter so.rounds)) (events_in letter so.rounds ++ h)
    → HasSettledOn d h plan letter v (made + 1) first later
settle_goes_on d h plan letter w v made was had first later before after_text so low round = record {
  rounds = round.round ∷ so.rounds;
  are = (so.are, record { few = let same = so.count in omega arith; more = so.more; is = round.is });
  more = sym round.is_last;
  count = let same = so.count in omega arith;
  none = subst (λ (l : List Deed). NonePassed d l first later) (sym (append_assoc (round_events letter round.round) (events_in letter so.rounds) h)) round.none;
  playing = playing_on d v plan (round_events letter round.round) (events_in letter so.rounds) h round.playing;
}

abbrev pub settle_rests : (d : Disk) (h : List Deed) (plan : Plan) (letter : Letter) (w v : Seen Crash) (made was had first later : ℕ) (before after_text : List ℕ) (so : HasSettledOn d h plan letter w made was had)
    → made < most_rounds d h → HasRounded d v first later letter true before after_text (plan_through plan (events_in letter so.rounds)) (events_in letter so.rounds ++ h) → HasPlayed d v (line.Letter of_letter.Settle letter) before after_text plan h
settle_rests d h plan letter w v made was had first later before after_text so low round = record {
  events = events_in letter (round.round ∷ so.rounds);
  own = text_of round.round.parts;
  plays = (
    round.round ∷ so.rounds,
    record {
      are = (so.are, record { few = let same = so.count in omega arith; more = so.more; is = round.is });
      stops = Rests (sym round.is_last) refl;
    },
    refl,
  );
  playing = playing_on d v plan (round_events letter round.round) (events_in letter so.rounds) h round.playing;
  text = round.text;
}

abbrev pub settle_full : (d : Disk) (h : List Deed) (plan : Plan) (letter : Letter) (w : Seen Crash) (made was had : ℕ) (text : List ℕ) (so : HasSettledOn d h plan letter w made was had) → made ≡ most_rounds d h
    → HasPlayed d w (line.Letter of_letter.Settle letter) text (text ++ refusal_line Rounds (codes "settle")) plan h
settle_full d h plan letter w made was had text so full = record {
  events = events_in letter so.rounds;
  own = refusal_line Rounds (codes "settle");
  plays = (so.rounds, record { are = so.are; stops = Full so.more (so.count ∙ full) refl }, refl);
  playing = so.playing;
  text = refl;
}
