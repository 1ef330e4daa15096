-- The parts of a turn, by what the calls of a world tell.
use Rattle.std.proofs.Common.{◌≡◌, ◌≢◌, inl, inr, ℕ, ◌+◌, ◌<◌, ◌≤◌, List, [], ◌∷◌, ◌++◌, length, reverse, Bool, Option, Some, None, refl, sym, ap, ◌∙◌, subst, arith, length-append}
use Rattle.std.specs.List.{AllZip}
use Rattle.std.proofs.lemmas.List.{append-nil}
use Rattle.call_fs.specs.Disk.{Disk}
use Rattle.call_fs.specs.Plan.{Plan}
use Rattle.crash_fs.specs.Crash.{Crash}
use Rattle.world_events.specs.declared.event.Event.{Event as Kept}
use Rattle.mail_world.specs.Generations.{next_living as kept_next}
use Rattle.mail_world.specs.World.{Seen}
use Rattle.scenario.specs.Deeds.{Deed, TellsDeed}
use Rattle.scenario.specs.Steps.{plan_through}
use Rattle.scenario.specs.Turns.{next_living, NoneBetween, events_of}
use Rattle.scenario.specs.Playing.{IsPlaying, HasRun}
use Rattle.scenario.specs.inside.Playing.{HasParted, HasTurned, NonePassed}
use Rattle.scenario.proofs.Deeds.{told_long}
use Rattle.scenario.proofs.NextLiving.{next_is}
use Rattle.scenario.proofs.TurnRuns.{HasTurnedOn, run_parted, one_part, part_goes_on, turn_printed, turn_rests}

-- The events that a run added, by how many the world keeps

none_came : (old new : List Kept) (h events : List Deed) → AllZip TellsDeed (reverse old) h → AllZip TellsDeed (reverse new) (events ++ h) → length new ≡ length old → events ≡ []
none_came old new h [] told now same = refl
none_came old new h (e ∷ events) told now same =
    let long = told_long old h told in
    let longer = told_long new ((e ∷ events) ++ h) now in
    let more = length-append (e ∷ events) h in
    absurd (omega arith)

some_came : (old new : List Kept) (h events : List Deed) → AllZip TellsDeed (reverse old) h → AllZip TellsDeed (reverse new) (events ++ h) → length new ≢ length old → events ≢ []
some_came old new h events told now other none =
    other (told_long new (events ++ h) now ∙ ap (λ (l : List Deed). length (l ++ h)) none ∙ sym (told_long old h told))

pub run_kept : (d : Disk) (v w : Seen Crash) (a : List ℕ) (was idle : Bool) (before after_text : List ℕ) (plan : Plan) (h : List Deed) → IsPlaying d v plan h
    → length w.events ≡ length v.events → HasRun d w a idle before after_text plan h → HasParted d w a was was before after_text plan h
run_kept d v w a was idle before after_text plan h playing same run =
    run_parted d w a was idle was before after_text plan h run (inl (none_came v.events w.events h run.events playing.told run.playing.told same, refl))

pub run_added : (d : Disk) (v w : Seen Crash) (a : List ℕ) (was idle : Bool) (before after_text : List ℕ) (plan : Plan) (h : List Deed) → IsPlaying d v plan h
    → length w.events ≢ length v.events → HasRun d w a idle before after_text plan h → HasParted d w a was idle before after_text plan h
run_added d v w a was idle before after_text plan h playing other run =
    run_parted d w a was idle idle before after_text plan h run (inr (some_came v.events w.events h run.events playing.told run.playing.told other, refl))

-- What was printed, by how long the text is

pub own_none : (before after_text own : List ℕ) → after_text ≡ before ++ own → length after_text ≤ length before → own ≡ []
own_none before after_text [] is short = refl
own_none before after_text (b ∷ own) is short = let long = ap length is ∙ length-append before (b ∷ own) in absurd (omega arith)

pub own_some : (before after_text own : List ℕ) → after_text ≡ before ++ own → length before < length after_text → own ≢ []
own_some before after_text own is more none =
    let long = ap length is ∙ length-append before own in
    let empty = ap length none in
    omega arith

-- Parts

pub next_told : (d : Disk) (h : List Deed) (plan : Plan) (w : Seen Crash) (from : ℕ) (next : Option (List ℕ × ℕ)) → IsPlaying d w plan h → next ≡ kept_next from w.events → next_living d h from ≡ next
next_told d h plan w from next playing is = sym (next_is d h w.events playing.is.legal playing.told from) ∙ sym is

-- The turn goes on after a part if the text is as long as at the start, and then it is that text.
abbrev pub GoesOnFrom : Disk → List Deed → Plan → Seen Crash → ℕ → ℕ → Bool → ℕ → List ℕ → List ℕ → Type 0
GoesOnFrom d h plan w first later idle from start text = (text ≡ start) × HasTurnedOn d h plan w first later idle from

pub part_on : (d : Disk) (h : List Deed) (plan : Plan) (w v : Seen Crash) (was now : Bool) (first later more from place next further : ℕ) (a start before after_text : List ℕ)
    (on : GoesOnFrom d h plan w first later was from start before) → Some (a, place) ≡ kept_next from w.events
    → HasParted d v a was now before after_text (plan_through plan (events_of on.1.parts)) (events_of on.1.parts ++ h)
    → length after_text ≤ length start → next ≡ place + 1 → next ≤ further
    → ((p : Plan) (g : List Deed) → IsPlaying d v p g → NonePassed d g first later → NonePassed d g first more × NoneBetween d g next further) → GoesOnFrom d h plan v first more now further start after_text
part_on d h plan w v was now first later more from place next further a start before after_text on is part short after_it rises moves =
    let turn = on.1 in
    let there = next_told d (events_of turn.parts ++ h) (plan_through plan (events_of turn.parts)) w from (Some (a, place)) turn.playing is in
    let none = own_none before after_text part.own part.text (subst (λ (t : List ℕ). length after_text ≤ length t) (sym on.0) short) in
    let one = one_part d h plan w v was now first later from place a before after_text turn there part in (
      part.text ∙ ap (λ (t : List ℕ). before ++ t) none ∙ append-nil before ∙ on.0,
      part_goes_on d h plan v now first later more place next further part.own one none after_it rises (moves (plan_through plan (events_of one.parts)) (events_of one.parts ++ h) one.playing one.none),
    )

pub part_over : (d : Disk) (h : List Deed) (plan : Plan) (w v : Seen Crash) (was now : Bool) (first later from place : ℕ) (a start before after_text : List ℕ)
    (on : GoesOnFrom d h plan w first later was from start before) → Some (a, place) ≡ kept_next from w.events
    → HasParted d v a was now before after_text (plan_through plan (events_of on.1.parts)) (events_of on.1.parts ++ h)
    → length start < length after_text → HasTurned d v first later now start after_text plan h
part_over d h plan w v was now first later from place a start before after_text on is part more =
    let turn = on.1 in
    let there = next_told d (events_of turn.parts ++ h) (plan_through plan (events_of turn.parts)) w from (Some (a, place)) turn.playing is in
    let longer : length before < length after_text = subst (λ (t : List ℕ). length t < length after_text) (sym on.0) more in
    subst (λ (t : List ℕ). HasTurned d v first later now t after_text plan h) on.0
    (turn_printed d h plan v now first later place part.own before after_text (one_part d h plan w v was now first later from place a before after_text turn there part)
    (own_some before after_text part.own part.text longer) part.text)

pub turn_over : (d : Disk) (h : List Deed) (plan : Plan) (w : Seen Crash) (idle : Bool) (first later from : ℕ) (start text : List ℕ) (on : GoesOnFrom d h plan w first later idle from start text)
    → None ≡ kept_next from w.events → HasTurned d w first later idle start text plan h
turn_over d h plan w idle first later from start text on is =
    let turn = on.1 in
    subst (λ (t : List ℕ). HasTurned d w first later idle t text plan h) on.0
    (turn_rests d h plan w idle first later from text turn (next_told d (events_of turn.parts ++ h) (plan_through plan (events_of turn.parts)) w from None turn.playing is))
