-- How `settle` ends.
use Rattle.std.proofs.Common.{◌≡◌, ◌==◌, ◌⊎◌, ℕ, suc, ◌+◌, List, [], ◌∷◌, ◌++◌, length, inl, inr, Bool, true, false, not, ◌&&◌, ◌||◌, if◌then◌else◌, Some, bytes_eq, codes, nat_lt, refl, sym, ap, ◌∙◌, subst, append_assoc, arith}
use Rattle.std.specs.List.{count_by, list_all, list_any}
use Rattle.std.proofs.lemmas.Bool.{and_parts}
use Rattle.std.proofs.lemmas.Slice.Eq.{bytes_eq-Decides}
use Rattle.call_fs.specs.Disk.{Disk}
use Rattle.call_fs.specs.Plan.{Plan}
use Rattle.call_fs.specs.declared.past.Own.{Own}
use Rattle.mail_world.specs.Generations.{idled_by, lives_in}
use Rattle.mail_world.specs.History.{Actor, IsLiving, State}
use Rattle.mail_world.specs.History.Event.{Start, Act, Child, Generation, Report, End, Stop, Moment, Halt}
use Rattle.mail_world.specs.Readiness.{found_in}
use Rattle.script_words.specs.declared.letter.Letter.{Letter}
use Rattle.scenario.specs.Chains.{EachFollows}
use Rattle.scenario.specs.Deeds.{Deed, after, counts_in, event_in, next_pid}
use Rattle.scenario.specs.Deeds.Deed.{Came, Fed}
use Rattle.scenario.specs.Steps.{IsRunOf, Refusal, StepsTo, Stops, has_idled, idles, plan_through, refusal_line, stop_text}
use Rattle.scenario.specs.Steps.Outcome.{Happens}
use Rattle.scenario.specs.Steps.Refusal.{Alive, Gone, NotWaiting, Past, Rounds, Steps, Taken, Unknown}
use Rattle.scenario.specs.Steps.Stops.{Idles, Refused, Full}
use Rattle.scenario.specs.Turns.{IsRound, Part, Round, Settles, SettlesOn, TurnsOn, are_searches, events_in, events_of, has_bytes, is_first_deed, is_idle, is_next, is_search_call, is_search_deed, next_in, place_after, reports_of, round_events, starts_of, text_of}
use Rattle.scenario.specs.Turns.Settles.{Rests as RestsThen, Full as FullThen}
use Rattle.scenario.proofs.Carried.{living_in}
use Rattle.scenario.proofs.Outcomes.{alive_waits}
use Rattle.scenario.proofs.StepKinds.{HasDone, has_stepped}
use Rattle.scenario.proofs.StepKinds.HasDone.{Bears, Calls, Feeds, Finishes, Passes}
use Rattle.world_events.specs.Searches.{searches}
use Rattle.settle_law.specs.Ends.{FindsAll, HasEndedIdle, StopsSo}
use Rattle.settle_law.proofs.Searchers.{is_sender}
use Rattle.settle_law.specs.inside.Steps.{SettleStops}
use Rattle.settle_law.specs.Ends.StopsSo.{Rests, TooLong, TooMany}

-- Who comes next in a turn lives.

next_lives : (s : State) (from at : ℕ) (starts : List (List ℕ)) (a : List ℕ) (place : ℕ) → next_in s from at starts ≡ Some (a, place) → lives_in (s.actors a) ≡ true
next_lives s from at [] a place e = absurd (cc)
next_lives s from at (b ∷ later) a place e = by (is_next s from at b later) refl e (next_lives s from (at + 1) later a place)
  where
    by : (t : Bool) → is_next s from at b later ≡ t → (if t then Some (b, at) else next_in s from (at + 1) later) ≡ Some (a, place)
        → (next_in s from (at + 1) later ≡ Some (a, place) → lives_in (s.actors a) ≡ true) → lives_in (s.actors a) ≡ true
    by true t eq rest =
        let pair : ◌≡◌ {A = List ℕ × ℕ} (b, at) (a, place) = cc in
        let same : b ≡ a = ap (λ (p : List ℕ × ℕ). p.0) pair in
        let parts = and_parts (not (nat_lt at from)) (not (list_any (bytes_eq b) later) && lives_in (s.actors b)) t in
        subst (λ c. lives_in (s.actors c) ≡ true) same (and_parts (not (list_any (bytes_eq b) later)) (lives_in (s.actors b)) parts.1).1
    by false t eq rest = rest eq

-- a refusal prints something
pub not_refused : (why : Refusal) (name : List ℕ) → [] ≡ refusal_line why name → ⊥
not_refused why name e = absurd (cc)

-- What a run prints of an actor that lives: nothing, or that it made the most steps.

stop_quiet : (steps : ℕ) (why : Refusal) (a : List ℕ) → why ≡ NotWaiting → stop_text steps why a ≡ []
stop_quiet steps why a e = subst (λ (w : Refusal). stop_text steps w a ≡ []) (sym e) refl

stop_later : (steps : ℕ) (why : Refusal) (a : List ℕ) → stop_text (suc steps) why a ≡ []
stop_later steps NotWaiting a = refl
stop_later steps Unknown a = refl
stop_later steps Gone a = refl
stop_later steps Taken a = refl
stop_later steps Past a = refl
stop_later steps Steps a = refl
stop_later steps Alive a = refl
stop_later steps Rounds a = refl

run_prints : (d : Disk) (h : List Deed) (plan : Plan) (a : List ℕ) (deeds : List Deed) (text : List ℕ) → IsLiving (after d h) a → Stops d h plan a deeds text
    → (text ≡ []) ⊎ (text ≡ refusal_line Steps a)
run_prints d h plan a deeds text lives (Idles idle none) = inl none
run_prints d h plan a deeds text lives (Full idle all more is) = inr is
run_prints d h plan a [] text lives (Refused idle why steps few is) =
    inl (is ∙ stop_quiet 0 why a (alive_waits d h plan a lives.actor why lives.is lives.alive steps))
run_prints d h plan a (x ∷ deeds) text lives (Refused idle why steps few is) = inl (is ∙ stop_later (length deeds) why a)

part_prints : (d : Disk) (h : List Deed) (plan : Plan) (before : List Part) (part : Part) → TurnsOn d h plan before part
    → (part.text ≡ []) ⊎ (part.text ≡ refusal_line Steps part.actor)
part_prints d h plan before part on =
    let g = events_of before ++ h in
    run_prints d g (plan_through plan (events_of before)) part.actor part.events part.text
    (living_in (after d g) part.actor ((after d g).actors part.actor) refl (next_lives (after d g) (place_after before) 0 (starts_of g) part.actor part.place on.next)) on.run.stops

turn_prints : (d : Disk) (h : List Deed) (plan : Plan) (parts : List Part) → EachFollows (TurnsOn d h plan) parts
    → (text_of parts ≡ []) ⊎ ((a : List ℕ) × (text_of parts ≡ refusal_line Steps a))
turn_prints d h plan [] are = inl refl
turn_prints d h plan (part ∷ before) are = by (part_prints d h plan before part are.1)
  where
    by : (part.text ≡ []) ⊎ (part.text ≡ refusal_line Steps part.actor) → (part.text ≡ []) ⊎ ((a : List ℕ) × (part.text ≡ refusal_line Steps a))
    by (inl none) = inl none
    by (inr is) = inr (part.actor, is)

-- What an idle round ends with: a search of the sender

record Ended (d : Disk) (deed : Deed) (before : List Deed) : Type 0 where
  own : Own
  wrote : ℕ
  is : deed ≡ Came (Act (codes "sender") own wrote)
  search : is_search_call own.due ≡ true
  idle : idled_by ((after d before).actors (codes "sender")) own ≡ true

ends_idle : (d : Disk) (before : List Deed) (deed : Deed) → is_search_deed deed ≡ true → idles (after d before) (event_in deed) ≡ true → Ended d deed before
ends_idle d before (Came (Act a own wrote)) search idle =
    let parts = and_parts (bytes_eq a (codes "sender")) (is_search_call own.due) search in
    let same : a ≡ codes "sender" = (bytes_eq-Decides a (codes "sender")).0 parts.0 in
    record {
      own = own;
      wrote = wrote;
      is = ap (λ b. Came (Act b own wrote)) same;
      search = parts.1;
      idle = subst (λ b. idled_by ((after d before).actors b) own ≡ true) same idle;
    }
ends_idle d before row search idle = absurd (cc)

-- Who searched found all that was ready: its event is a step of a run.

own_by_found : (s : State) (a : List ℕ) (own other : Own) (wrote n : ℕ) → Came (Act (codes "sender") own wrote) ≡ Came (Act a other n) → other.read ≡ s.now → other.ready ≡ found_in s a → FindsAll s (codes "sender") own
own_by_found s a own other wrote n e now found =
    let same : own ≡ other = cc in
    let name : a ≡ codes "sender" = cc in
    record { now = ap (λ (o : Own). o.read) same ∙ now; found = ap (λ (o : Own). o.ready) same ∙ found ∙ ap (found_in s) name }

step_finds : (d : Disk) (h : List Deed) (plan : Plan) (a : List ℕ) (deed : Deed) (own : Own) (wrote : ℕ) → StepsTo d h plan a (Happens deed) → deed ≡ Came (Act (codes "sender") own wrote)
    → FindsAll (after d h) (codes "sender") own
step_finds d h plan a deed own wrote step is = let it = has_stepped d h plan a deed step in by it.actor it.did
  where
    by : (x : Actor) → HasDone plan (after d h) (next_pid h) (counts_in h) a x deed → FindsAll (after d h) (codes "sender") own
    by x (Calls c) = own_by_found (after d h) a own _ wrote 0 (sym is ∙ c.4) refl refl
    by x (Passes p) = own_by_found (after d h) a own _ wrote 0 (sym is ∙ p.is) refl refl
    by x (Finishes e) = let both = sym is ∙ e.2 in absurd (cc)
    by x (Bears b) = let both = sym is ∙ b.is in absurd (cc)
    by x (Feeds f) = let both = sym is ∙ f.is in absurd (cc)

-- the newest deed of a turn
turn_finds : (d : Disk) (h : List Deed) (plan : Plan) (parts : List Part) → EachFollows (TurnsOn d h plan) parts → (deed : Deed) (before : List Deed) → events_of parts ≡ deed ∷ before
    → (own : Own) (wrote : ℕ) → deed ≡ Came (Act (codes "sender") own wrote) → FindsAll (after d (before ++ h)) (codes "sender") own
turn_finds d h plan [] are deed before newest own wrote is = absurd (cc)
turn_finds d h plan (part ∷ parts) are deed before newest own wrote is =
    by part.events (λ (e : events_of parts ≡ deed ∷ before). turn_finds d h plan parts are.0 deed before e own wrote is) are.1.run newest
  where
    by : (events : List Deed) → (events_of parts ≡ deed ∷ before → FindsAll (after d (before ++ h)) (codes "sender") own) → IsRunOf d (events_of parts ++ h) (plan_through plan (events_of parts)) part.actor events part.text → events ++ events_of parts ≡ deed ∷ before
        → FindsAll (after d (before ++ h)) (codes "sender") own
    by [] earlier run e = earlier e
    by (newer ∷ older) earlier run e =
        let same : newer ≡ deed = cc in
        let rest : older ++ events_of parts ≡ before = cc in
        let all : older ++ (events_of parts ++ h) ≡ before ++ h = sym (append_assoc older (events_of parts) h) ∙ ap (λ (l : List Deed). l ++ h) rest in
        subst (λ (l : List Deed). FindsAll (after d l) (codes "sender") own) all
        (step_finds d (older ++ (events_of parts ++ h)) (plan_through (plan_through plan (events_of parts)) older) part.actor newer own wrote run.are_steps.1.2 (same ∙ is))

-- of a round that does nothing but search
round_finds : (d : Disk) (h : List Deed) (plan : Plan) (letter : Letter) (parts : List Part) (slots : List ℕ) → EachFollows (TurnsOn d h plan) parts
    → list_all is_search_deed (reports_of letter slots ++ events_of parts) ≡ true → (deed : Deed) (before : List Deed) → reports_of letter slots ++ events_of parts ≡ deed ∷ before
    → (own : Own) (wrote : ℕ) → deed ≡ Came (Act (codes "sender") own wrote) → FindsAll (after d (before ++ h)) (codes "sender") own
round_finds d h plan letter parts [] are all deed before newest own wrote is = turn_finds d h plan parts are deed before newest own wrote is
round_finds d h plan letter parts (slot ∷ slots) are all deed before newest own wrote is = absurd (cc)

record Newest (d : Disk) (events h : List Deed) : Type 0 where
  deed : Deed
  rest : List Deed
  newest : events ≡ deed ∷ rest
  ends : Ended d deed (rest ++ h)

newest_ends : (d : Disk) (events h : List Deed) → list_all is_search_deed events ≡ true → has_idled d h events ≡ true → Newest d events h
newest_ends d [] h all idle = absurd (cc)
newest_ends d (x ∷ before) h all idle =
    record { deed = x; rest = before; newest = refl; ends = ends_idle d (before ++ h) x (and_parts (is_search_deed x) (list_all is_search_deed before) all).0 idle }

rests_so : (d : Disk) (h : List Deed) (plan : Plan) (letter : Letter) (round : Round) (before : List Round) (text : List ℕ) → text ≡ []
    → EachFollows (TurnsOn d (events_in letter before ++ h) plan) round.parts → is_idle d (events_in letter before ++ h) letter round ≡ true → StopsSo d h letter (round ∷ before) text
rests_so d h plan letter round before text none are idle =
    let g = events_in letter before ++ h in
    let events = round_events letter round in
    let parts = and_parts (are_searches events) (has_idled d g events) idle in
    let all = (and_parts (list_all is_search_deed events) (count_by is_first_deed events == 1) parts.0).0 in
    let newest = newest_ends d events g all parts.1 in
    let ends = newest.ends in
    let finds = round_finds d g plan letter round.parts round.slots are all newest.deed newest.rest newest.newest ends.own ends.wrote ends.is in
    let sender : HasEndedIdle d (codes "sender") events g = record {
      newer = [];
      deed = newest.deed;
      older = newest.rest;
      are = newest.newest;
      others = λ k x below. absurd (omega (arith, below));
      ends = record { own = ends.own; wrote = ends.wrote; is = ends.is; search = ends.search; idle = ends.idle; finds = finds };
    } in
    Rests none round before refl idle (λ a search. subst (λ (b : List ℕ). HasEndedIdle d b events g) (sym (is_sender a search)) sender)

-- All rounds

last_round : (d : Disk) (h : List Deed) (plan : Plan) (letter : Letter) (round : Round) (before : List Round) (text : List ℕ)
    → IsRound d (events_in letter before ++ h) (plan_through plan (events_in letter before)) letter round
    → has_bytes (text_of round.parts) || is_idle d (events_in letter before ++ h) letter round ≡ true → text ≡ text_of round.parts → StopsSo d h letter (round ∷ before) text
last_round d h plan letter round before text is last prints =
    by (turn_prints d (events_in letter before ++ h) (plan_through plan (events_in letter before)) round.parts is.turn.are)
  where
    by : (text_of round.parts ≡ []) ⊎ ((a : List ℕ) × (text_of round.parts ≡ refusal_line Steps a)) → StopsSo d h letter (round ∷ before) text
    by (inl none) =
        rests_so d h (plan_through plan (events_in letter before)) letter round before text (prints ∙ none) is.turn.are
        (subst (λ (t : List ℕ). has_bytes t || is_idle d (events_in letter before ++ h) letter round ≡ true) none last)
    by (inr many) = TooLong many.0 (prints ∙ many.1)

stops_so : (d : Disk) (h : List Deed) (plan : Plan) (letter : Letter) (rounds : List Round) (text : List ℕ) → EachFollows (SettlesOn d h plan letter) rounds
    → Settles d h letter rounds text → StopsSo d h letter rounds text
stops_so d h plan letter rounds text are (FullThen more all is) = TooMany all is
stops_so d h plan letter [] text are (RestsThen last is) = absurd (cc)
stops_so d h plan letter (round ∷ before) text are (RestsThen last is) = last_round d h plan letter round before text are.1.is last is

pub settle_stops : SettleStops
settle_stops d h plan letter rounds text settled = stops_so d h plan letter rounds text settled.are settled.stops
