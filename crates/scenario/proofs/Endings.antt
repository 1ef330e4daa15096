-- Each run, turn and `settle` comes to its end, and keeps what a script's history keeps.
use Rattle.std.proofs.Common.{◌≡◌, ◌≢◌, ◌⊎◌, inl, inr, ⊎_elim, ℕ, zero, suc, ◌+◌, ◌-◌, ◌*◌, ◌<◌, ◌≤◌, List, [], ◌∷◌, ◌++◌, length, get_or, Bool, true, false, not, ◌&&◌, Option, Some, None, refl, sym, ap, ◌∙◌, subst, arith, append_assoc}
use Rattle.std.specs.Prelude.{nat_lt, if◌then◌else◌, bytes_eq, codes}
use Rattle.std.specs.List.{list_any, range_with_len, sum_by}
use Rattle.std.proofs.Math.Nat.{mul-le-mul_right, mul-one, mul-zero, one-mul, suc-mul}
use Rattle.std.proofs.lemmas.Bool.{and_parts, cases_lt, ltb-false}
use Rattle.std.proofs.lemmas.List.{append-nil}
use Rattle.std.proofs.lemmas.List.Sums.{sum_by-append, sum_by-cons}
use Rattle.std.proofs.lemmas.List.Quantifiers.{position-Some}
use Rattle.std.proofs.lemmas.List.FromFn.{get_or-range_with_len, length-range_with_len}
use Rattle.actor_names.specs.ChildNames.{bounce_name, delivery_name, forward_of}
use Rattle.call_fs.specs.declared.past.ChildData.{ChildData}
use Rattle.call_fs.specs.declared.past.ChildData.TheVariants as child
use Rattle.call_fs.specs.declared.past.NeedData.{NeedData}
use Rattle.call_fs.specs.declared.past.NeedData.TheVariants as needs
use Rattle.call_fs.specs.declared.program.Port.TheVariants as port
use Rattle.call_fs.specs.Disk.{Disk}
use Rattle.call_fs.specs.Plan.{Plan}
use Rattle.world_events.specs.Children.{Counts, child_of}
use Rattle.world_events.specs.declared.event.Program.{Program}
use Rattle.world_events.specs.declared.event.Program.TheVariants.{Injector, Sender, LocalSpawner, Delivery}
use Rattle.mail_world.specs.Generations.{lives_in, is_unreported, lowest_unreported}
use Rattle.mail_world.specs.History.{Actor, Life, State, IsDelivery, IsLocalSpawner, IsSender, next_of, program_of, report_text}
use Rattle.mail_world.specs.History.Life.{Alive, Over, Stopped}
use Rattle.mail_world.specs.Pipework.{Tenant}
use Rattle.mail_world.specs.Pipework.Tenant.{Runs, Remote}
use Rattle.mail_world.specs.Readiness.{found_in}
use Rattle.mail_world.proofs.Feeders.{Starts, feeder_gives, starter}
use Rattle.script_words.specs.declared.letter.Letter.{Letter}
use Rattle.script_words.specs.Words.{letter_byte}
use Rattle.scenario.specs.Chains.{EachFollows}
use Rattle.scenario.specs.Deeds.{Deed, event_in, after, next_pid, counts_in}
use Rattle.scenario.specs.Fates.{is_delivery_name}
use Rattle.scenario.specs.Steps.{Outcome, DoesAlive, DoesStep, StepsTo, RunsOn, AreSteps, plan_through, has_idled, most_steps, Stops, IsRunOf, stop_text, refusal_line}
use Rattle.scenario.specs.Steps.Stops.{Idles, Refused, Full}
use Rattle.scenario.specs.Steps.Outcome.{Happens, Is}
use Rattle.scenario.specs.Steps.Refusal.{Unknown, Gone, Steps, Rounds}
use Rattle.scenario.specs.Turns.{awaits_report, started_in, starts_of, is_next, next_in, next_living, Part, events_of, text_of, place_after, TurnsOn, AreParts, IsTurnOf, Round, reports_of, slot_after, ReportsOn, AreReported, AreReportsAfter, round_events, IsRound, events_in, is_last, text_in, most_rounds, SettlesOn, Settles, IsSettled}
use Rattle.scenario.specs.Turns.Settles.{Rests, Full as All}
use Rattle.scenario.proofs.Chains.{OneMore, grow}
use Rattle.scenario.proofs.Carried.{Carries, due_may, sender_named, spawner_named}
use Rattle.scenario.proofs.StepKinds.{HasDone, has_stepped}
use Rattle.scenario.proofs.StepKinds.HasDone.{Calls, Finishes, Passes, Bears, Feeds}
use Rattle.scenario.proofs.FreeNames.{Goes}
use Rattle.scenario.proofs.Going.{feeds_so, goes_on, goes_report}
use Rattle.scenario.proofs.Outcomes.{AreTextsFor, AreTextsTo, GivesTexts, due_comes, is_gone}
use Rattle.scenario.proofs.TurnStarts.{place_told}

-- Steps

-- what is given to an injector in a slot are two texts
gives_two : (s : State) (a : List ℕ) (x : Actor) → Carries s → s.actors a ≡ Some x → (due : NeedData) → next_of x.program x.past s.now (found_in s a) ≡ due → GivesTexts s a due
gives_two s a x carries is (needs.Give (port.Program d) bytes) next = by_tenant (s.pipework.programs a d) refl
  where
    by_program : (c : List ℕ) (o : Option Program) → s.pipework.programs a d ≡ Some (Runs c) → program_of (s.actors c) ≡ o → AreTextsTo o bytes
    by_program c (Some (Injector args)) at of =
        let gives = feeder_gives x.program x.past s.now (found_in s a) d bytes (feeds_so s a x d c args carries is at of) (carries.runs a x is) next in
        (gives.texts.message, gives.texts.envelope, gives.texts.are)
    by_program c None at of = tt
    by_program c (Some other) at of = tt

    by_tenant : (o : Option Tenant) → s.pipework.programs a d ≡ o → AreTextsFor s o bytes
    by_tenant None at = tt
    by_tenant (Some (Remote reported)) at = tt
    by_tenant (Some (Runs c)) at = by_program c (program_of (s.actors c)) at refl
gives_two s a x carries is due next = tt

step_life : (d : Disk) (h : List Deed) (plan : Plan) (a : List ℕ) (x : Actor) (life : Life) → Carries (after d h) → (after d h).actors a ≡ Some x → x.life ≡ life
    → (outcome : Outcome) × DoesAlive plan (after d h) (next_pid h) (counts_in h) a x life outcome
step_life d h plan a x Alive carries is alive =
    let s = after d h in
    let due = next_of x.program x.past s.now (found_in s a) in
    due_comes plan s (next_pid h) (counts_in h) a x.program due (due_may s a x carries is alive) carries.finite (gives_two s a x carries is due refl)
step_life d h plan a x (Over status) carries is over = (Is Gone, refl)
step_life d h plan a x Stopped carries is over = (Is Gone, refl)

step_actor : (d : Disk) (h : List Deed) (plan : Plan) (a : List ℕ) (o : Option Actor) → Carries (after d h) → (after d h).actors a ≡ o
    → (outcome : Outcome) × DoesStep plan (after d h) (next_pid h) (counts_in h) a o outcome
step_actor d h plan a None carries is = (Is Unknown, refl)
step_actor d h plan a (Some x) carries is = step_life d h plan a x x.life carries is refl

-- a step always comes to something
pub step_comes : (d : Disk) (h : List Deed) (plan : Plan) (a : List ℕ) → Carries (after d h) → (outcome : Outcome) × StepsTo d h plan a outcome
step_comes d h plan a carries = step_actor d h plan a ((after d h).actors a) carries refl

-- Runs

pub steps_kept : (d : Disk) (h : List Deed) (plan : Plan) (a : List ℕ) (events : List Deed) → Goes d h → AreSteps d h plan a events → Goes d (events ++ h)
steps_kept d h plan a [] so steps = so
steps_kept d h plan a (e ∷ events) so steps = goes_on d (events ++ h) (plan_through plan events) a e (steps_kept d h plan a events so steps.0) steps.1.2

within : (d : Disk) (h : List Deed) (plan : Plan) (a : List ℕ) (events : List Deed) → AreSteps d h plan a events → length events ≤ most_steps
within d h plan a [] steps = omega arith
within d h plan a (e ∷ events) steps = let few = steps.1.0 in omega arith

abbrev RunEnds : Disk → List Deed → Plan → List ℕ → List Deed → Type 0
RunEnds d h plan a events = (text : List ℕ) × Stops d h plan a events text

module _ (d : Disk) (h : List Deed) (plan : Plan) (a : List ℕ) where
  abbrev RunKeeps : List Deed → Type 0
  RunKeeps events = Goes d (events ++ h)

  abbrev steps_left : List Deed → ℕ
  steps_left events = most_steps - length events

  abbrev RunMore : List Deed → Type 0
  RunMore events = OneMore (RunsOn d h plan a) RunKeeps steps_left events

  run_by : (events : List Deed) → RunKeeps events → has_idled d h events ≡ false → length events < most_steps
      → (outcome : Outcome) → StepsTo d (events ++ h) (plan_through plan events) a outcome → RunEnds d h plan a events ⊎ RunMore events
  run_by events so busy low (Happens deed) step = inr (record {
    newest = deed;
    follows = (low, busy, step);
    keeps = goes_on d (events ++ h) (plan_through plan events) a deed so step;
    less = omega arith;
  })
  run_by events so busy low (Is why) step = inl (stop_text (length events) why a, Refused busy why step (inl low) refl)

  run_full : (events : List Deed) → AreSteps d h plan a events → has_idled d h events ≡ false → most_steps ≤ length events → RunEnds d h plan a events
  run_full events steps busy high =
      let few = within d h plan a events steps in
      ⊎_elim
      (λ gone. (stop_text (length events) Gone a, Refused busy Gone gone (inr refl) refl))
      (λ lives. (refusal_line Steps a, Full busy (omega arith) lives refl))
      (is_gone d (events ++ h) (plan_through plan events) a)

  run_next : (events : List Deed) → AreSteps d h plan a events → RunKeeps events → RunEnds d h plan a events ⊎ RunMore events
  run_next events steps so = by (has_idled d h events) refl
    where
      by : (idle : Bool) → has_idled d h events ≡ idle → RunEnds d h plan a events ⊎ RunMore events
      by true idle = inl ([], Idles idle refl)
      by false busy = ⊎_elim
          (λ low. let next = step_comes d (events ++ h) (plan_through plan events) a so.carries in run_by events so busy low next.0 next.1)
          (λ high. inl (run_full events steps busy high))
          (cases_lt (length events) most_steps)

  pub runs : Goes d h → (events : List Deed) × (text : List ℕ) × IsRunOf d h plan a events text
  runs so =
      let all = grow (RunsOn d h plan a) (RunEnds d h plan a) RunKeeps steps_left run_next most_steps [] tt so (omega arith) in
      (all.list, all.stops.0, record { are_steps = all.follow; stops = all.stops.1 })

name_of : (born : List ℕ × Program) (b : List ℕ) (program : Program) → ◌≡◌ {A = Option (List ℕ × Program)} (Some (b, program)) (Some born) → born.0 ≡ b
name_of born b program of = let same : born ≡ (b, program) = cc in ap (λ (p : List ℕ × Program). p.0) same

-- Numbers

part_le : (w l t x b : ℕ) → t ≡ b + x → x ≡ w + l → w + l ≤ t
part_le w l t x b all one = omega (arith, all, one)

one_few : (s w z o c : ℕ) → s ≡ w + z → z ≡ 0 → o ≡ c → w ≤ c → s ≤ o
one_few s w z o c all none same low = omega (arith, all, none, same, low)

step_few : (s a b p o c m : ℕ) → s ≡ a + b → a ≤ p → b ≤ o → o ≡ c → m ≡ p + c → s ≤ m
step_few s a b p o c m all first last same more = omega (arith, all, first, last, same, more)

as_many : (w c k : ℕ) → w ≡ k → c ≡ k → w ≤ c
as_many w c k one other = omega (arith, one, other)

none_le : (n : ℕ) → 0 ≤ n
none_le n = omega arith

le_two : (a b c : ℕ) → a ≤ b → b ≤ c → a ≤ c
le_two a b c low high = omega (arith, low, high)

-- What a start weighs: as much as all that may be started after it in one turn. Who runs makes so many steps at most, and with each starts
-- one child at most: the local spawner deliveries, and these and the sender injectors, which start nothing.

module _ (most : ℕ) where
  abbrev pub child_weight : List ℕ → ℕ
  child_weight a = if bytes_eq a (codes "sender") then 1 else (if bytes_eq a (codes "lspawn") then 1 + most else (if is_delivery_name a then 1 else 0))

  abbrev pub weight : List ℕ → ℕ
  weight a = 1 + most * child_weight a

  -- that of the starts from a place on
  abbrev pub weight_from : ℕ → List (List ℕ) → ℕ
  weight_from zero starts = sum_by weight starts
  weight_from (suc n) [] = 0
  weight_from (suc n) (b ∷ later) = weight_from n later

  sum_append : (l more : List (List ℕ)) → sum_by weight (l ++ more) ≡ sum_by weight l + sum_by weight more
  sum_append l more = sum_by-append weight l more

  -- it is no more than that of all, and at least that of one there and those after it
  at_least : (from : ℕ) (before : List (List ℕ)) (a : List ℕ) (later : List (List ℕ)) → from ≤ length before → weight a + sum_by weight later ≤ weight_from from (before ++ a ∷ later)
  at_least zero before a later low =
      let all = sum_append before (a ∷ later) in
      let one = sum_by-cons weight a later in
      part_le (weight a) (sum_by weight later) (sum_by weight (before ++ a ∷ later)) (sum_by weight (a ∷ later)) (sum_by weight before) all one
  at_least (suc n) [] a later low = absurd (omega (arith, low))
  at_least (suc n) (b ∷ before) a later low = at_least n before a later (omega (arith, low))

  just_after : (before : List (List ℕ)) (a : List ℕ) (rest : List (List ℕ)) → weight_from (suc (length before)) (before ++ a ∷ rest) ≡ sum_by weight rest
  just_after [] a rest = refl
  just_after (b ∷ before) a rest = just_after before a rest

  -- an actor starts these
  pub record StartsFew (a : List ℕ) (steps : ℕ) (started : List (List ℕ)) : Type 0 where
    pub few : sum_by weight started ≤ steps * child_weight a

  starts_none : (a : List ℕ) (steps : ℕ) → StartsFew a steps []
  starts_none a steps = record { few = none_le (steps * child_weight a) }

  starts_one : (a b : List ℕ) → weight b ≤ child_weight a → StartsFew a 1 (b ∷ [])
  starts_one a b low =
      let one = sum_by-cons weight b [] in
      let none : sum_by weight [] ≡ 0 = refl in
      let same : 1 * child_weight a ≡ child_weight a = one-mul (child_weight a) in
      record { few = one_few (sum_by weight (b ∷ [])) (weight b) (sum_by weight []) (1 * child_weight a) (child_weight a) one none same low }

  starts_more : (a : List ℕ) (steps : ℕ) (before newest : List (List ℕ)) → StartsFew a steps before → StartsFew a 1 newest → StartsFew a (suc steps) (before ++ newest)
  starts_more a steps before newest old new =
      let all = sum_append before newest in
      let same : 1 * child_weight a ≡ child_weight a = one-mul (child_weight a) in
      let more : suc steps * child_weight a ≡ steps * child_weight a + child_weight a = suc-mul steps (child_weight a) in
      record {
        few = step_few (sum_by weight (before ++ newest)) (sum_by weight before) (sum_by weight newest) (steps * child_weight a) (1 * child_weight a) (child_weight a) (suc steps * child_weight a) all old.few new.few same more;
      }

  -- the weight of whom a child may be
  child_light : (b : List ℕ) → child_weight b ≡ 0 → weight b ≡ 1
  child_light b none = ap (λ (n : ℕ). 1 + most * n) none ∙ ap (λ (n : ℕ). 1 + n) (mul-zero most)

  delivery_weight : (b : List ℕ) → child_weight b ≡ 1 → weight b ≡ 1 + most
  delivery_weight b one = ap (λ (n : ℕ). 1 + most * n) one ∙ ap (λ (n : ℕ). 1 + n) (mul-one most)

  forward_weight : (a : List ℕ) → child_weight (forward_of a) ≡ 0
  forward_weight [] = refl
  forward_weight (letter ∷ rest) = refl

  born_light : (n : Counts) (a : List ℕ) (parent : Program) (asked : ChildData) (pid now : ℕ) (born : List ℕ × Program) → Starts parent asked → child_of n a asked pid now ≡ Some born
      → (IsSender parent → a ≡ codes "sender") → (IsLocalSpawner parent → a ≡ codes "lspawn") → (IsDelivery parent → (k : ℕ) × (a ≡ delivery_name k)) → weight born.0 ≤ child_weight a
  born_light n a (Sender start) (child.Bounce room) pid now born by of sender spawner delivery =
      let same : born.0 ≡ bounce_name (n.bounces + 1) = name_of born (bounce_name (n.bounces + 1)) _ of in
      let mine : child_weight a ≡ 1 = ap child_weight (sender tt) in
      let its : weight born.0 ≡ 1 = ap weight same ∙ child_light (bounce_name (n.bounces + 1)) refl in
      as_many (weight born.0) (child_weight a) 1 its mine
  born_light n a (LocalSpawner start) (child.Local slot words uid) pid now born by of sender spawner delivery =
      let same : born.0 ≡ delivery_name (n.deliveries + 1) = name_of born (delivery_name (n.deliveries + 1)) _ of in
      let mine : child_weight a ≡ 1 + most = ap child_weight (spawner tt) in
      let its : weight born.0 ≡ 1 + most = ap weight same ∙ delivery_weight (delivery_name (n.deliveries + 1)) refl in
      as_many (weight born.0) (child_weight a) (1 + most) its mine
  born_light n a (Delivery start args) (child.Forward uid room) pid now born by of sender spawner delivery =
      let at = delivery tt in
      let same : born.0 ≡ forward_of a = name_of born (forward_of a) _ of in
      let mine : child_weight a ≡ 1 = ap child_weight at.1 in
      let its : weight born.0 ≡ 1 = ap weight same ∙ child_light (forward_of a) (forward_weight a) in
      as_many (weight born.0) (child_weight a) 1 its mine
  born_light n a parent (child.Remote slot domain sender_of recipient) pid now born by of sender spawner delivery = absurd (cc)
  born_light n a parent asked pid now born by of sender spawner delivery = absurd by

  done_starts : (plan : Plan) (s : State) (pid : ℕ) (n : Counts) (a : List ℕ) (x : Actor) (deed : Deed) → Carries s → s.actors a ≡ Some x → HasDone plan s pid n a x deed
      → StartsFew a 1 (started_in (event_in deed))
  done_starts plan s pid n a x deed carries is (Calls (c, got, next, given, same)) =
      subst (λ (deed : Deed). StartsFew a 1 (started_in (event_in deed))) (sym same) (starts_none a 1)
  done_starts plan s pid n a x deed carries is (Finishes (status, next, same)) =
      subst (λ (deed : Deed). StartsFew a 1 (started_in (event_in deed))) (sym same) (starts_none a 1)
  done_starts plan s pid n a x deed carries is (Passes p) =
      subst (λ (deed : Deed). StartsFew a 1 (started_in (event_in deed))) (sym p.is) (starts_none a 1)
  done_starts plan s pid n a x deed carries is (Bears p) =
      subst (λ (deed : Deed). StartsFew a 1 (started_in (event_in deed))) (sym p.is)
      (starts_one a p.child.0 (born_light n a x.program p.asked pid s.now p.child (starter x.program x.past s.now (found_in s a) p.asked (carries.runs a x is) p.next) p.of
      (sender_named a x.program (carries.kinds a x is)) (spawner_named a x.program (carries.kinds a x is)) (carries.names a x is)))
  done_starts plan s pid n a x deed carries is (Feeds p) =
      subst (λ (deed : Deed). StartsFew a 1 (started_in (event_in deed))) (sym p.is) (starts_none a 1)

  pub record RunStarts (a : List ℕ) (steps : ℕ) (before now : List (List ℕ)) : Type 0 where
    pub started : List (List ℕ)
    pub are : now ≡ before ++ started
    pub starts : StartsFew a steps started

  pub run_starts : (d : Disk) (h : List Deed) (plan : Plan) (a : List ℕ) (events : List Deed) → Goes d h → AreSteps d h plan a events
      → RunStarts a (length events) (starts_of h) (starts_of (events ++ h))
  run_starts d h plan a [] so steps = record { started = []; are = sym (append-nil (starts_of h)); starts = starts_none a 0 }
  run_starts d h plan a (deed ∷ events) so steps =
      let before = run_starts d h plan a events so steps.0 in
      let did = has_stepped d (events ++ h) (plan_through plan events) a deed steps.1.2 in
      let kept = steps_kept d h plan a events so steps.0 in
      let one = done_starts (plan_through plan events) (after d (events ++ h)) (next_pid (events ++ h)) (counts_in (events ++ h)) a did.actor deed kept.carries did.is did.did in
      let newest = started_in (event_in deed) in
      record {
        started = before.started ++ newest;
        are = ap (λ (l : List (List ℕ)). l ++ newest) before.are ∙ append_assoc (starts_of h) before.started newest;
        starts = starts_more a (length events) before.started newest before.starts one;
      }

-- Turns

parts_kept : (d : Disk) (h : List Deed) (plan : Plan) (parts : List Part) → Goes d h → AreParts d h plan parts → Goes d (events_of parts ++ h)
parts_kept d h plan [] so are = so
parts_kept d h plan (part ∷ before) so are =
    subst (Goes d) (sym (append_assoc part.events (events_of before) h))
    (steps_kept d (events_of before ++ h) (plan_through plan (events_of before)) part.actor part.events (parts_kept d h plan before so are.0) are.1.run.are_steps)

pub turn_kept : (d : Disk) (h : List Deed) (plan : Plan) (parts : List Part) → Goes d h → IsTurnOf d h plan parts → Goes d (events_of parts ++ h)
turn_kept d h plan parts so turn = parts_kept d h plan parts so turn.are

-- the next one stands among the starts, at a place from this one on
record IsPlaced (from at : ℕ) (starts : List (List ℕ)) (a : List ℕ) (k : ℕ) : Type 0 where
  no_earlier : from ≤ k
  before : List (List ℕ)
  later : List (List ℕ)
  are : starts ≡ before ++ a ∷ later
  there : k ≡ at + length before

not_is : (t : Bool) → not t ≡ true → t ≡ false
not_is true e = absurd (cc)
not_is false e = refl

-- who is the next one
abbrev who_told : Option (List ℕ × ℕ) → List ℕ
who_told None = []
who_told (Some next) = next.0

next_placed : (s : State) (from at : ℕ) (starts : List (List ℕ)) (a : List ℕ) (k : ℕ) → next_in s from at starts ≡ Some (a, k) → IsPlaced from at starts a k
next_placed s from at [] a k e = absurd (cc)
next_placed s from at (b ∷ later) a k e = by (is_next s from at b later) refl e (next_placed s from (at + 1) later a k)
  where
    by : (t : Bool) → is_next s from at b later ≡ t → (if t then Some (b, at) else next_in s from (at + 1) later) ≡ Some (a, k)
        → (next_in s from (at + 1) later ≡ Some (a, k) → IsPlaced from (at + 1) later a k) → IsPlaced from at (b ∷ later) a k
    by true is e placed =
        let tests = and_parts (not (nat_lt at from)) (not (list_any (bytes_eq b) later) && lives_in (s.actors b)) is in
        let low = ltb-false at from (not_is (nat_lt at from) tests.0) in
        let same : at ≡ k = ap place_told e in
        let name : b ≡ a = ap who_told e in
        record { no_earlier = omega (arith, low, same); before = []; later = later; are = ap (λ (c : List ℕ). c ∷ later) name; there = omega (arith, same) }
    by false is e placed =
        let rest = placed e in
        let there = rest.there in
        record { no_earlier = rest.no_earlier; before = b ∷ rest.before; later = rest.later; are = ap (λ (l : List (List ℕ)). b ∷ l) rest.are; there = omega (arith, there) }

less_by : (p l s m : ℕ) → (1 + p) + l ≤ m → s ≤ p → l + s < m
less_by p l s m all few = omega (arith, all, few)

-- the starts that are left weigh less after a run
lighter : (most : ℕ) (s : State) (old now : List (List ℕ)) (from steps : ℕ) (a : List ℕ) (k : ℕ) → steps ≤ most → next_in s from 0 old ≡ Some (a, k) → RunStarts most a steps old now
    → weight_from most (k + 1) now < weight_from most from old
lighter most s old now from steps a k few next grown =
    let w = next_placed s from 0 old a k next in
    let there = w.there in
    let low = w.no_earlier in
    let all : weight most a + sum_by (weight most) w.later ≤ weight_from most from old =
    subst (λ (l : List (List ℕ)). weight most a + sum_by (weight most) w.later ≤ weight_from most from l) (sym w.are) (at_least most from w.before a w.later (omega (arith, there, low))) in
    let now_is : now ≡ w.before ++ a ∷ (w.later ++ grown.started) =
    grown.are ∙ ap (λ (l : List (List ℕ)). l ++ grown.started) w.are ∙ append_assoc w.before (a ∷ w.later) grown.started in
    let place : k + 1 ≡ suc (length w.before) = omega (arith, there) in
    let left : weight_from most (k + 1) now ≡ sum_by (weight most) (w.later ++ grown.started) =
    ap (λ (n : ℕ). weight_from most n now) place ∙ ap (weight_from most (suc (length w.before))) now_is ∙ just_after most w.before a (w.later ++ grown.started) in
    let both = sum_by-append (weight most) w.later grown.started in
    let times : steps * child_weight most a ≤ most * child_weight most a = mul-le-mul_right (child_weight most a) few in
    let bound = le_two (sum_by (weight most) grown.started) (steps * child_weight most a) (most * child_weight most a) grown.starts.few times in
    let less = less_by (most * child_weight most a) (sum_by (weight most) w.later) (sum_by (weight most) grown.started) (weight_from most from old) all bound in
    omega (arith, left, both, less)

abbrev TurnEnds : Disk → List Deed → List Part → Type 0
TurnEnds d h parts = (text_of parts ≢ []) ⊎ (next_living d (events_of parts ++ h) (place_after parts) ≡ None)

some_text : (b : ℕ) (text : List ℕ) → b ∷ text ≢ []
some_text b text e = absurd (cc)

module _ (d : Disk) (h : List Deed) (plan : Plan) where
  abbrev TurnKeeps : List Part → Type 0
  TurnKeeps parts = Goes d (events_of parts ++ h)

  abbrev places_left : List Part → ℕ
  places_left parts = weight_from most_steps (place_after parts) (starts_of (events_of parts ++ h))

  abbrev TurnMore : List Part → Type 0
  TurnMore parts = OneMore (TurnsOn d h plan) TurnKeeps places_left parts

  turn_by : (parts : List Part) → TurnKeeps parts → text_of parts ≡ [] → (o : Option (List ℕ × ℕ)) → next_living d (events_of parts ++ h) (place_after parts) ≡ o
      → TurnEnds d h parts ⊎ TurnMore parts
  turn_by parts so quiet None is = inl (inr is)
  turn_by parts so quiet (Some next) is =
      let g = events_of parts ++ h in
      let left = plan_through plan (events_of parts) in
      let run = runs d g left next.0 so in
      let assoc = append_assoc run.0 (events_of parts) h in
      inr (record {
        newest = record { actor = next.0; place = next.1; events = run.0; text = run.1 };
        follows = record { quiet = quiet; next = is; run = run.2 };
        keeps = subst (Goes d) (sym assoc) (steps_kept d g left next.0 run.0 so run.2.are_steps);
        less = subst (λ (l : List Deed). weight_from most_steps (next.1 + 1) (starts_of l) < places_left parts) (sym assoc)
            (lighter most_steps (after d g) (starts_of g) (starts_of (run.0 ++ g)) (place_after parts) (length run.0) next.0 next.1 (within d g left next.0 run.0 run.2.are_steps) is
            (run_starts most_steps d g left next.0 run.0 so run.2.are_steps));
      })

  turn_next : (parts : List Part) → AreParts d h plan parts → TurnKeeps parts → TurnEnds d h parts ⊎ TurnMore parts
  turn_next parts are keeps = by (text_of parts) refl
    where
      by : (text : List ℕ) → text_of parts ≡ text → TurnEnds d h parts ⊎ TurnMore parts
      by [] quiet = turn_by parts keeps quiet (next_living d (events_of parts ++ h) (place_after parts)) refl
      by (b ∷ text) is = inl (inl (λ e. some_text b text (sym is ∙ e)))

  pub turns : Goes d h → (parts : List Part) × IsTurnOf d h plan parts
  turns so =
      let all = grow (TurnsOn d h plan) (TurnEnds d h) TurnKeeps places_left turn_next (places_left []) [] tt so (omega arith) in
      (all.list, record { are = all.follow; over = all.stops })

-- Reports

pub record IsLowest (from : ℕ) (s : State) (slot : ℕ) : Type 0 where
  pub no_earlier : from ≤ slot
  pub small : slot < 256
  pub awaits : awaits_report s slot ≡ true

pub lowest : (from : ℕ) (s : State) (slot : ℕ) → lowest_unreported from s ≡ Some slot → IsLowest from s slot
lowest from s slot e =
    let test : ℕ → Bool = λ d. not (nat_lt d from) && (lives_in (s.actors (codes "rspawn")) && is_unreported (s.pipework.programs (codes "rspawn") d)) in
    let found = position-Some test (range_with_len 0 256) slot 0 e in
    let long = length-range_with_len 0 256 in
    let small : slot < 256 = let there = found.0 in omega arith in
    let same : 0 + slot ≡ slot = omega arith in
    let is : get_or (range_with_len 0 256) slot 0 ≡ slot = get_or-range_with_len 0 256 slot 0 small ∙ same in
    let tests = and_parts (not (nat_lt slot from)) (awaits_report s slot) (subst (λ (d : ℕ). test d ≡ true) is found.1) in
    record {
      no_earlier = ltb-false slot from (not_is (nat_lt slot from) tests.0);
      small = small;
      awaits = tests.1;
    }

reports_kept : (d : Disk) (h : List Deed) (letter : Letter) (slots : List ℕ) → Goes d h → EachFollows (ReportsOn d h letter) slots → Goes d (reports_of letter slots ++ h)
reports_kept d h letter [] so are = so
reports_kept d h letter (slot ∷ before) so are =
    let g = reports_of letter before ++ h in
    goes_report d g slot (report_text (letter_byte letter) (codes "settled")) (reports_kept d h letter before so are.0) (lowest (slot_after before) (after d g) slot are.1).awaits

module _ (d : Disk) (h : List Deed) (letter : Letter) where
  abbrev ReportsEnd : List ℕ → Type 0
  ReportsEnd slots = lowest_unreported (slot_after slots) (after d (reports_of letter slots ++ h)) ≡ None

  abbrev ReportsKeep : List ℕ → Type 0
  ReportsKeep slots = Goes d (reports_of letter slots ++ h)

  abbrev slots_left : List ℕ → ℕ
  slots_left slots = 256 - slot_after slots

  reports_by : (slots : List ℕ) → ReportsKeep slots → (o : Option ℕ) → lowest_unreported (slot_after slots) (after d (reports_of letter slots ++ h)) ≡ o
      → ReportsEnd slots ⊎ OneMore (ReportsOn d h letter) ReportsKeep slots_left slots
  reports_by slots so None is = inl is
  reports_by slots so (Some slot) is =
      let g = reports_of letter slots ++ h in
      let found = lowest (slot_after slots) (after d g) slot is in
      let low = found.no_earlier in
      let high = found.small in
      inr (record {
        newest = slot;
        follows = is;
        keeps = goes_report d g slot (report_text (letter_byte letter) (codes "settled")) so found.awaits;
        less = omega arith;
      })

  pub reports : Goes d h → (slots : List ℕ) × AreReported d h letter slots
  reports so =
      let all = grow (ReportsOn d h letter) ReportsEnd ReportsKeep slots_left
      (λ slots are keeps. reports_by slots keeps (lowest_unreported (slot_after slots) (after d (reports_of letter slots ++ h))) refl) 256 [] tt so (omega arith) in
      (all.list, record { are = all.follow; none = all.stops })

-- Rounds

reports_after_kept : (d : Disk) (h : List Deed) (letter : Letter) (text slots : List ℕ) → Goes d h → AreReportsAfter d h letter text slots → Goes d (reports_of letter slots ++ h)
reports_after_kept d h letter [] slots so are = reports_kept d h letter slots so are.are
reports_after_kept d h letter (b ∷ text) slots so none = subst (λ (slots : List ℕ). Goes d (reports_of letter slots ++ h)) (sym none) so

round_kept : (d : Disk) (h : List Deed) (plan : Plan) (letter : Letter) (round : Round) → Goes d h → IsRound d h plan letter round → Goes d (round_events letter round ++ h)
round_kept d h plan letter round so is =
    let turned = turn_kept d h plan round.parts so is.turn in
    subst (Goes d) (sym (append_assoc (reports_of letter round.slots) (events_of round.parts) h))
    (reports_after_kept d (events_of round.parts ++ h) letter (text_of round.parts) round.slots turned is.reports)

pub rounds_kept : (d : Disk) (h : List Deed) (plan : Plan) (letter : Letter) (rounds : List Round) → Goes d h → EachFollows (SettlesOn d h plan letter) rounds
    → Goes d (events_in letter rounds ++ h)
rounds_kept d h plan letter [] so are = so
rounds_kept d h plan letter (round ∷ before) so are =
    subst (Goes d) (sym (append_assoc (round_events letter round) (events_in letter before) h))
    (round_kept d (events_in letter before ++ h) (plan_through plan (events_in letter before)) letter round (rounds_kept d h plan letter before so are.0) are.1.is)

module _ (d : Disk) (h : List Deed) (plan : Plan) (letter : Letter) where
  after_turn : (text : List ℕ) → Goes d h → (slots : List ℕ) × AreReportsAfter d h letter text slots
  after_turn [] so = reports d h letter so
  after_turn (b ∷ text) so = ([], refl)

rounds_of : (d : Disk) (h : List Deed) (plan : Plan) (letter : Letter) → Goes d h → (round : Round) × IsRound d h plan letter round
rounds_of d h plan letter so =
    let turn = turns d h plan so in
    let told = after_turn d (events_of turn.0 ++ h) plan letter (text_of turn.0) (turn_kept d h plan turn.0 so turn.1) in
    (record { parts = turn.0; slots = told.0 }, record { turn = turn.1; reports = told.1 })

module _ (d : Disk) (h : List Deed) (plan : Plan) (letter : Letter) where
  abbrev SettleEnds : List Round → Type 0
  SettleEnds rounds = (text : List ℕ) × Settles d h letter rounds text

  abbrev SettleKeeps : List Round → Type 0
  SettleKeeps rounds = Goes d (events_in letter rounds ++ h)

  abbrev rounds_left : List Round → ℕ
  rounds_left rounds = most_rounds d h - length rounds

  few_rounds : (rounds : List Round) → EachFollows (SettlesOn d h plan letter) rounds → length rounds ≤ most_rounds d h
  few_rounds [] are = omega arith
  few_rounds (round ∷ before) are = let few = are.1.few in omega arith

  settle_more : (rounds : List Round) → SettleKeeps rounds → is_last d h letter rounds ≡ false → length rounds < most_rounds d h
      → OneMore (SettlesOn d h plan letter) SettleKeeps rounds_left rounds
  settle_more rounds so more low =
      let g = events_in letter rounds ++ h in
      let left = plan_through plan (events_in letter rounds) in
      let round = rounds_of d g left letter so in
      record {
        newest = round.0;
        follows = record { few = low; more = more; is = round.1 };
        keeps = subst (Goes d) (sym (append_assoc (round_events letter round.0) (events_in letter rounds) h)) (round_kept d g left letter round.0 so round.1);
        less = omega arith;
      }

  settle_next : (rounds : List Round) → EachFollows (SettlesOn d h plan letter) rounds → SettleKeeps rounds
      → SettleEnds rounds ⊎ OneMore (SettlesOn d h plan letter) SettleKeeps rounds_left rounds
  settle_next rounds are so = by (is_last d h letter rounds) refl
    where
      by : (last : Bool) → is_last d h letter rounds ≡ last → SettleEnds rounds ⊎ OneMore (SettlesOn d h plan letter) SettleKeeps rounds_left rounds
      by true last = inl (text_in rounds, Rests last refl)
      by false more = ⊎_elim
          (λ low. inr (settle_more rounds so more low))
          (λ high. let few = few_rounds rounds are in inl (refusal_line Rounds (codes "settle"), All more (omega arith) refl))
          (cases_lt (length rounds) (most_rounds d h))

  pub settles : Goes d h → (rounds : List Round) × (text : List ℕ) × IsSettled d h plan letter rounds text
  settles so =
      let all = grow (SettlesOn d h plan letter) SettleEnds SettleKeeps rounds_left settle_next (most_rounds d h) [] tt so (omega arith) in
      (all.list, all.stops.0, record { are = all.follow; stops = all.stops.1 })
