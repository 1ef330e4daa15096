-- One round of `settle`, and its rounds so far, by what the calls of a world tell.
use Rattle.std.proofs.Common.{◌≡◌, ℕ, ◌+◌, ◌*◌, ◌<◌, List, ◌++◌, length, reverse, Bool, true, false, ◌&&◌, sym, ap, ◌∙◌, subst, append_assoc, arith}
use Rattle.std.specs.Prelude.{drop, codes}
use Rattle.std.specs.List.{AllZip, sum_by}
use Rattle.call_fs.specs.Disk.{Disk}
use Rattle.call_fs.specs.Plan.{Plan}
use Rattle.crash_fs.specs.Crash.{Crash}
use Rattle.world_events.specs.declared.books.Entry.{Entry}
use Rattle.mail_world.specs.Books.{books_in}
use Rattle.mail_world.specs.World.{Seen}
use Rattle.scenario.specs.Deeds.{Deed, TellsDeed, history_of}
use Rattle.script_lines.specs.declared.line.Line.TheVariants as line
use Rattle.script_lines.specs.declared.keyword.OfLetter.TheVariants as of_letter
use Rattle.script_words.specs.declared.letter.Letter.{Letter}
use Rattle.scenario.specs.Steps.{plan_through, refusal_line}
use Rattle.scenario.specs.Steps.Refusal.{Rounds}
use Rattle.scenario.specs.Turns.{counted, most_rounds, are_searches, is_idle, events_of, text_of, events_in, reports_of}
use Rattle.scenario.specs.Playing.{IsPlaying, HasPlayed}
use Rattle.scenario.specs.inside.Playing.{HasTurned, HasReported, HasRounded, are_searches_kept}
use Rattle.scenario.proofs.Searches.{searches_told}
use Rattle.scenario.proofs.TurnRuns.{round_printed, round_reported, HasSettledOn, settle_goes_on, settle_rests, settle_full}
use Rattle.scenario.proofs.TurnParts.{own_none, own_some}
use Rattle.scenario.proofs.TurnSteps.{quiet_round, same_text}

-- the events of a round are searches exactly if those that the world kept of it are
round_searches : (d : Disk) (old w : Seen Crash) (plan left : Plan) (before later h : List Deed) → IsPlaying d old plan h → IsPlaying d w left (later ++ (before ++ h))
    → are_searches_kept (drop (length old.events) w.events) ≡ are_searches (later ++ before)
round_searches d old w plan left before later h was now =
    searches_told old.events w.events (later ++ before) h was.told
    (subst (λ (l : List Deed). AllZip TellsDeed (reverse w.events) l) (sym (append_assoc later before h)) now.told)

-- a turn that printed something is the last round
pub round_stops : (d : Disk) (w : Seen Crash) (first later : ℕ) (letter : Letter) (idle : Bool) (before after_text : List ℕ) (plan : Plan) (h : List Deed) → HasTurned d w first later idle before after_text plan h
    → length before < length after_text → HasRounded d w first later letter true before after_text plan h
round_stops d w first later letter idle before after_text plan h turn more =
    round_printed d w first later letter idle before after_text plan h turn (own_some before after_text (text_of turn.parts) turn.text more)

-- one that printed nothing is a round with the reports after it
pub round_ends : (d : Disk) (old w v : Seen Crash) (first later : ℕ) (letter : Letter) (idle searches : Bool) (before after_text : List ℕ) (plan : Plan) (h : List Deed) → IsPlaying d old plan h
    → (turn : HasTurned d w first later idle before after_text plan h) → ¬ (length before < length after_text)
    → HasReported d v letter (plan_through plan (events_of turn.parts)) (events_of turn.parts ++ h)
    → searches ≡ are_searches_kept (drop (length old.events) v.events) → HasRounded d v first later letter (idle && searches) before after_text plan h
round_ends d old w v first later letter idle searches before after_text plan h was turn none told is =
    let left = plan_through plan (events_of turn.parts) in
    round_reported d w v first later letter idle searches before after_text plan h turn (own_none before after_text (text_of turn.parts) turn.text (omega arith)) told
    (is ∙ round_searches d old v plan left (events_of turn.parts) (reports_of letter told.slots) h was told.playing)

-- Rounds

-- the most rounds, by the books of the world
pub most_told : (d : Disk) (h : List Deed) (most : ℕ) (entries books : List Entry) → most ≡ 100 + 40 * sum_by counted entries → entries ≡ books → books ≡ books_in d (history_of h) → most ≡ most_rounds d h
most_told d h most entries books is told said = is ∙ ap (λ (l : List Entry). 100 + 40 * sum_by counted l) (told ∙ said)

module _ (d : Disk) (h : List Deed) (plan : Plan) (letter : Letter) (w v : Seen Crash) (made was had first later : ℕ) (last : Bool) (start before after_text : List ℕ) (so : HasSettledOn d h plan letter w made was had)
    (same : before ≡ start) (low : made < most_rounds d h)
    (round : HasRounded d v first later letter last before after_text (plan_through plan (events_in letter so.rounds)) (events_in letter so.rounds ++ h)) where
  abbrev ByLast : Bool → Type 0
  ByLast b = HasRounded d v first later letter b before after_text (plan_through plan (events_in letter so.rounds)) (events_in letter so.rounds ++ h)

  pub settled_text : last ≡ false → after_text ≡ start
  settled_text more =
      let g = events_in letter so.rounds ++ h in
      same_text before after_text (text_of round.round.parts) round.text (quiet_round (text_of round.round.parts) (is_idle d g letter round.round) (sym more ∙ round.is_last)) ∙ same

  pub settled_on : last ≡ false → HasSettledOn d h plan letter v (made + 1) first later
  settled_on more = settle_goes_on d h plan letter w v made was had first later before after_text so low (subst ByLast more round)

  pub settled_over : last ≡ true → HasPlayed d v (line.Letter of_letter.Settle letter) start after_text plan h
  settled_over over =
      subst (λ (t : List ℕ). HasPlayed d v (line.Letter of_letter.Settle letter) t after_text plan h) same
      (settle_rests d h plan letter w v made was had first later before after_text so low (subst ByLast over round))

-- as many as may be
pub settled_full : (d : Disk) (h : List Deed) (plan : Plan) (letter : Letter) (w : Seen Crash) (made was had : ℕ) (start before after_text : List ℕ) → HasSettledOn d h plan letter w made was had → before ≡ start
    → made ≡ most_rounds d h → after_text ≡ before ++ refusal_line Rounds (codes "settle") → HasPlayed d w (line.Letter of_letter.Settle letter) start after_text plan h
settled_full d h plan letter w made was had start before after_text so same full is =
    subst (λ (t : List ℕ). HasPlayed d w (line.Letter of_letter.Settle letter) start t plan h) (ap (λ (t : List ℕ). t ++ refusal_line Rounds (codes "settle")) (sym same) ∙ sym is)
    (settle_full d h plan letter w made was had start so full)
