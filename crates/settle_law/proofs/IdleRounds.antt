-- After an idle round nobody but the sender has anything to do.
use Rattle.std.proofs.Common.{◌≡◌, ◌≢◌, ◌==◌, ◌⊎◌, ℕ, List, [], ◌∷◌, ◌++◌, inl, inr, true, false, Some, None, bytes_eq, codes, refl, sym, ap, ◌∙◌, subst, append_assoc, arith}
use Rattle.std.specs.List.{count_by, list_all}
use Rattle.std.proofs.lemmas.Bool.{and_parts, false≢true}
use Rattle.std.proofs.lemmas.List.Folds.{list_all-append}
use Rattle.std.proofs.lemmas.Slice.Eq.{bytes_eq-Decides}
use Rattle.call_fs.specs.Disk.{Disk}
use Rattle.call_fs.specs.Plan.{Plan}
use Rattle.call_fs.specs.declared.past.Own.{Own}
use Rattle.mail_world.specs.Generations.{CanNot, lives_in}
use Rattle.mail_world.specs.History.{Actor, State, next_of}
use Rattle.mail_world.specs.History.Event.{Act}
use Rattle.mail_world.specs.History.Life.{Alive}
use Rattle.mail_world.specs.Readiness.{found_in}
use Rattle.script_words.specs.declared.letter.Letter.{Letter}
use Rattle.scenario.specs.Chains.{EachFollows}
use Rattle.scenario.specs.Deeds.{Deed, after, counts_in, next_pid}
use Rattle.scenario.specs.Deeds.Deed.{Came}
use Rattle.scenario.specs.Steps.{IsRunOf, StepsTo, Stops, has_idled, plan_through}
use Rattle.scenario.specs.Steps.Outcome.{Happens}
use Rattle.scenario.specs.Steps.Refusal.{Rounds}
use Rattle.scenario.specs.Steps.Stops.{Idles, Refused, Full}
use Rattle.scenario.specs.Turns.{AreReported, AreReportsAfter, IsTurnOf, Part, Round, Settles, TurnsOn, are_searches, events_in, events_of, is_first_deed, is_search_call, is_search_deed, next_in, next_living, place_after, reports_of, round_events, starts_of, text_of}
use Rattle.scenario.specs.Turns.Settles.{Rests as RestsThen, Full as FullThen}
use Rattle.scenario.proofs.Carried.{lives_actor}
use Rattle.scenario.proofs.StepKinds.{HasDone, has_stepped}
use Rattle.scenario.proofs.StepKinds.HasDone.{Calls, Finishes, Passes, Bears, Feeds}
use Rattle.settle_law.specs.inside.Steps.{IdleRoundsRest}
use Rattle.settle_law.specs.Promised.{OthersWait}
use Rattle.settle_law.proofs.Alike.{WaitsIn, alike_turned, searches_alike, waits_alike}
use Rattle.settle_law.proofs.Places.{HoldsBefore, HoldsOfAll, newest_holds, next_holds, none_before, none_left}
use Rattle.settle_law.proofs.Refused.{refused_cannot}
use Rattle.settle_law.proofs.Searchers.{is_no_sender}
use Rattle.settle_law.proofs.Starts.{searches_start, there_started}
use Rattle.settle_law.proofs.Stopping.{not_refused}

-- A run without an event is that of an actor that waits

-- each step is one of the actor that runs, and who searches is the sender
act_searches : (a : List ℕ) (own : Own) (wrote : ℕ) (deed : Deed) → deed ≡ Came (Act a own wrote) → is_search_deed deed ≡ true → a ≡ codes "sender"
act_searches a own wrote deed is search =
    let here : (bytes_eq a (codes "sender")) ≡ true = (and_parts (bytes_eq a (codes "sender")) (is_search_call own.due) (ap is_search_deed (sym is) ∙ search)).0 in
    (bytes_eq-Decides a (codes "sender")).0 here

no_search : (deed other : Deed) → deed ≡ other → is_search_deed other ≡ false → is_search_deed deed ≡ true → ⊥
no_search deed other is none search = false≢true (sym none ∙ ap is_search_deed (sym is) ∙ search)

searcher : (d : Disk) (h : List Deed) (plan : Plan) (a : List ℕ) (deed : Deed) → StepsTo d h plan a (Happens deed) → is_search_deed deed ≡ true → a ≡ codes "sender"
searcher d h plan a deed step search = let it = has_stepped d h plan a deed step in by it.actor it.did
  where
    by : (x : Actor) → HasDone plan (after d h) (next_pid h) (counts_in h) a x deed → a ≡ codes "sender"
    by x (Calls c) = act_searches a _ 0 deed c.4 search
    by x (Passes p) = act_searches a _ 0 deed p.is search
    by x (Finishes e) = absurd (no_search deed _ e.2 refl search)
    by x (Bears b) = absurd (no_search deed _ b.is refl search)
    by x (Feeds f) = absurd (no_search deed _ f.is refl search)

quiet_waits : (d : Disk) (h : List Deed) (plan : Plan) (a text : List ℕ) (x : Actor) → (after d h).actors a ≡ Some x → x.life ≡ Alive → Stops d h plan a [] text
    → CanNot (after d h) a (next_of x.program x.past (after d h).now (found_in (after d h) a))
quiet_waits d h plan a text x is alive (Idles idle none) = absurd (cc)
quiet_waits d h plan a text x is alive (Refused busy why step few same) = refused_cannot d h plan a x why is alive step
quiet_waits d h plan a text x is alive (Full busy all more same) = absurd (omega (arith, all))

run_waits : (d : Disk) (h : List Deed) (plan : Plan) (a : List ℕ) (deeds : List Deed) (text : List ℕ) → IsRunOf d h plan a deeds text → list_all is_search_deed deeds ≡ true → WaitsIn (after d h) a
run_waits d h plan a [] text run all x is alive far = quiet_waits d h plan a text x is alive run.stops
run_waits d h plan a (deed ∷ before) text run all x is alive far =
    absurd (far (searcher d (before ++ h) (plan_through plan before) a deed run.are_steps.1.2 (and_parts (is_search_deed deed) (list_all is_search_deed before) all).0))

-- A turn in which nobody but the sender did anything

lives_not : (s : State) (a : List ℕ) (x : Actor) → s.actors a ≡ Some x → x.life ≡ Alive → lives_in (s.actors a) ≡ false → ⊥
lives_not s a x is alive none = false≢true (sym none ∙ ap lives_in is ∙ lives_actor x alive)

module _ (d : Disk) (g : List Deed) (plan : Plan) where
  abbrev Waiting : List ℕ → Type 0
  Waiting a = WaitsIn (after d g) a

  dead_waits : (events : List Deed) → list_all is_search_deed events ≡ true → (a : List ℕ) → lives_in ((after d (events ++ g)).actors a) ≡ false → Waiting a
  dead_waits events all a none x is alive far =
      absurd (lives_not (after d g) a x is alive ((searches_alike d g events all).lives a ∙ none))

  part_waits : (before : List Part) (part : Part) → TurnsOn d g plan before part → list_all is_search_deed part.events ≡ true → list_all is_search_deed (events_of before) ≡ true
      → Waiting part.actor
  part_waits before part on all was =
      let h = events_of before ++ g in
      waits_alike (after d g) (after d h) (searches_alike d g (events_of before) was) part.actor
      (run_waits d h (plan_through plan (events_of before)) part.actor part.events part.text on.run all)

  -- each to which the turn came
  parts_wait : (parts : List Part) → EachFollows (TurnsOn d g plan) parts → list_all is_search_deed (events_of parts) ≡ true → HoldsBefore Waiting 0 (place_after parts) (starts_of g)
  parts_wait [] are all = none_before Waiting 0 0 (starts_of g) (omega arith)
  parts_wait (part ∷ before) are all =
      let both = and_parts (list_all is_search_deed part.events) (list_all is_search_deed (events_of before)) (sym (list_all-append is_search_deed part.events (events_of before)) ∙ all) in
      let s = after d (events_of before ++ g) in
      next_holds s Waiting (dead_waits (events_of before) both.1) (place_after before) 0 (starts_of g) part.actor part.place
      (subst (λ (l : List (List ℕ)). next_in s (place_after before) 0 l ≡ Some (part.actor, part.place)) (searches_start (events_of before) g both.1) are.1.next)
      (part_waits before part are.1 both.0 both.1) (parts_wait before are.0 both.1)

  -- and so all, when the turn is over
  turn_waits : (parts : List Part) → IsTurnOf d g plan parts → text_of parts ≡ [] → list_all is_search_deed (events_of parts) ≡ true → HoldsOfAll Waiting (starts_of g)
  turn_waits parts turn quiet all = by turn.over
    where
      by : (text_of parts ≢ []) ⊎ (next_living d (events_of parts ++ g) (place_after parts) ≡ None) → HoldsOfAll Waiting (starts_of g)
      by (inl some) = absurd (some quiet)
      by (inr none) =
          let s = after d (events_of parts ++ g) in
          none_left s Waiting (dead_waits (events_of parts) all) (place_after parts) 0 (starts_of g)
          (subst (λ (l : List (List ℕ)). next_in s (place_after parts) 0 l ≡ None) (searches_start (events_of parts) g all) none)
          (parts_wait parts turn.are all)

  turn_rests : (parts : List Part) → IsTurnOf d g plan parts → text_of parts ≡ [] → list_all is_search_deed (events_of parts) ≡ true → (a : List ℕ) → WaitsIn (after d (events_of parts ++ g)) a
  turn_rests parts turn quiet all a x is alive far =
      let alike = searches_alike d g (events_of parts) all in
      let was : (after d g).actors a ≡ Some x = alike.others a far ∙ is in
      let waits = newest_holds Waiting (starts_of g) a (turn_waits parts turn quiet all) (there_started d g a x was) in
      waits_alike (after d (events_of parts ++ g)) (after d g) (alike_turned (after d g) (after d (events_of parts ++ g)) alike) a waits x is alive far

  -- A round

  round_rests : (letter : Letter) (parts : List Part) (slots : List ℕ) → IsTurnOf d g plan parts → AreReportsAfter d (events_of parts ++ g) letter (text_of parts) slots → text_of parts ≡ []
      → list_all is_search_deed (reports_of letter slots ++ events_of parts) ≡ true → OthersWait (after d ((reports_of letter slots ++ events_of parts) ++ g))
  round_rests letter parts (slot ∷ slots) turn reports quiet all = absurd (cc)
  round_rests letter parts [] turn reports quiet all =
      let told : AreReported d (events_of parts ++ g) letter [] = subst (λ (t : List ℕ). AreReportsAfter d (events_of parts ++ g) letter t []) quiet reports in
      record {
        waits = λ a x is alive none. turn_rests parts turn quiet all a x is alive (is_no_sender a none);
        reported = told.none;
      }

prints_none : (d : Disk) (h : List Deed) (letter : Letter) (round : Round) (before : List Round) → Settles d h letter (round ∷ before) [] → text_of round.parts ≡ []
prints_none d h letter round before (RestsThen last is) = sym is
prints_none d h letter round before (FullThen more all is) = absurd (not_refused Rounds (codes "settle") is)

pub idle_rounds_rest : IdleRoundsRest
idle_rounds_rest d h plan letter round before so idle =
    let g = events_in letter before ++ h in
    let is = so.are.1.is in
    let searches = (and_parts (are_searches (round_events letter round)) (has_idled d g (round_events letter round)) idle).0 in
    let all = (and_parts (list_all is_search_deed (round_events letter round)) (count_by is_first_deed (round_events letter round) == 1) searches).0 in
    subst (λ (l : List Deed). OthersWait (after d l)) (sym (append_assoc (round_events letter round) (events_in letter before) h))
    (round_rests d g (plan_through plan (events_in letter before)) letter round.parts round.slots is.turn is.reports (prints_none d h letter round before so.stops) all)
