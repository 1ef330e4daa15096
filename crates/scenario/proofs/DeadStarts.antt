-- The starts of actors that live no more: a turn may go past them, and they stay behind it.
use Rattle.std.proofs.Common.{◌≡◌, ⊎_elim, ℕ, zero, suc, ◌+◌, ◌-◌, ◌<◌, ◌≤◌, List, [], ◌∷◌, ◌++◌, length, reverse, Bool, true, false, not, ◌&&◌, ◌||◌, Option, Some, refl, sym, ap, ◌∙◌, subst, arith}
use Rattle.std.specs.Prelude.{nat_lt, if◌then◌else◌, bytes_eq}
use Rattle.std.specs.List.{AllZip, list_any}
use Rattle.std.proofs.lemmas.Bool.{false≢true, lt-ltb, ltb-true, ltb-false}
use Rattle.std.proofs.Math.Bool.{or-false, or-true}
use Rattle.std.proofs.lemmas.List.Folds.{list_any-append}
use Rattle.call_fs.specs.Disk.{Disk}
use Rattle.call_fs.specs.Plan.{Plan}
use Rattle.crash_fs.specs.Crash.{Crash}
use Rattle.world_events.specs.declared.event.Event.{Event as Kept}
use Rattle.world_events.specs.declared.event.Event.TheVariants as kept
use Rattle.mail_world.specs.Generations.{lives_in, is_lasting, started_in as kept_started, starts_of as kept_starts}
use Rattle.mail_world.specs.History.{State}
use Rattle.mail_world.specs.World.{Seen, Span, span_of, span_after, starts as starts_one}
use Rattle.mail_world.specs.World.Span.{Unborn, Lasting, OverAt}
use Rattle.mail_world.proofs.Tests.{text_cases, same_text, other_text}
use Rattle.scenario.specs.Deeds.{Deed, TellsDeed, after}
use Rattle.scenario.specs.Playing.{IsPlaying}
use Rattle.scenario.specs.Turns.{starts_of, is_next, next_in, next_living, IsDeadAt, NoneBetween}
use Rattle.scenario.specs.inside.Playing.{NonePassed}
use Rattle.scenario.proofs.Deeds.{same_starts}
use Rattle.scenario.proofs.NextLiving.{lasts_told}
use Rattle.scenario.proofs.TurnStarts.{place_told}

-- The next living actor

abbrev is_newest : State → List ℕ → List (List ℕ) → Bool
is_newest s a later = not (list_any (bytes_eq a) later) && lives_in (s.actors a)

low_enough : (at from : ℕ) → from ≤ at → nat_lt at from ≡ false
low_enough at from le = by (nat_lt at from) refl
  where
    by : (t : Bool) → nat_lt at from ≡ t → nat_lt at from ≡ false
    by true e = let lt = ltb-true at from e in absurd (omega (arith, lt, le))
    by false e = e

-- from a place on that comes before all of these starts, no place matters
past_all : (s : State) (from at : ℕ) (names : List (List ℕ)) → from ≤ at → next_in s from at names ≡ next_in s 0 at names
past_all s from at [] le = refl
past_all s from at (a ∷ later) le =
    ap (λ (t : Bool). if not t && is_newest s a later then Some (a, at) else next_in s from (at + 1) later) (low_enough at from le)
    ∙ ap (λ (o : Option (List ℕ × ℕ)). if is_newest s a later then Some (a, at) else o) (past_all s from (at + 1) later (omega arith))
    ∙ ap (λ (t : Bool). if not t && is_newest s a later then Some (a, at) else next_in s 0 (at + 1) later) (sym (low_enough at 0 (omega arith)))

abbrev chosen : State → ℕ → ℕ → List ℕ → List (List ℕ) → Bool → Option (List ℕ × ℕ)
chosen s from at a later t = if t && is_newest s a later then Some (a, at) else next_in s from (at + 1) later

-- the first of these starts is left out, from a place on after it
left : (s : State) (from at : ℕ) (a : List ℕ) (later : List (List ℕ)) → at < from → next_in s from at (a ∷ later) ≡ next_in s from (at + 1) later
left s from at a later less = ap (λ (t : Bool). chosen s from at a later (not t)) (lt-ltb at from less)

-- else it is looked at
looked_at : (s : State) (from at : ℕ) (a : List ℕ) (later : List (List ℕ)) → from ≤ at
    → next_in s from at (a ∷ later) ≡ (if is_newest s a later then Some (a, at) else next_in s from (at + 1) later)
looked_at s from at a later le = ap (λ (t : Bool). chosen s from at a later (not t)) (low_enough at from le)

-- a start of an actor that lives no more may be left out
one_out : (s : State) (n at : ℕ) (names : List (List ℕ)) → IsDeadAt s n names → next_in s (at + n) at names ≡ next_in s (at + suc n) at names
one_out s n at [] dead = absurd dead
one_out s zero at (a ∷ later) dead =
    looked_at s (at + 0) at a later (omega arith)
    ∙ ap (λ (t : Bool). if t then Some (a, at) else next_in s (at + 0) (at + 1) later) dead
    ∙ past_all s (at + 0) (at + 1) later (omega arith)
    ∙ sym (past_all s (at + suc 0) (at + 1) later (omega arith))
    ∙ sym (left s (at + suc 0) at a later (omega arith))
one_out s (suc n) at (a ∷ later) dead =
    let here : at + suc n ≡ (at + 1) + n = omega arith in
    let there : at + suc (suc n) ≡ (at + 1) + suc n = omega arith in
    left s (at + suc n) at a later (omega arith)
    ∙ ap (λ (from : ℕ). next_in s from (at + 1) later) here
    ∙ one_out s n (at + 1) later dead
    ∙ ap (λ (from : ℕ). next_in s from (at + 1) later) (sym there)
    ∙ sym (left s (at + suc (suc n)) at a later (omega arith))

all_out : (d : Disk) (h : List Deed) (low k : ℕ) → NoneBetween d h low (low + k) → next_living d h low ≡ next_living d h (low + k)
all_out d h low zero none = let same : low ≡ low + 0 = omega arith in ap (next_living d h) same
all_out d h low (suc k) none =
    let next : 0 + (low + k) ≡ low + k = omega arith in
    let over : 0 + suc (low + k) ≡ low + suc k = omega arith in
    all_out d h low k (λ n le less. none n le (omega arith))
    ∙ ap (next_living d h) (sym next)
    ∙ one_out (after d h) (low + k) 0 (starts_of h) (none (low + k) (omega arith) (omega arith))
    ∙ ap (next_living d h) over

pub none_skipped : (d : Disk) (h : List Deed) (low high : ℕ) → low ≤ high → NoneBetween d h low high → next_living d h low ≡ next_living d h high
none_skipped d h low high le none =
    let same : low + (high - low) ≡ high = omega arith in
    all_out d h low (high - low) (λ n from before. none n from (omega arith)) ∙ ap (next_living d h) same

-- before the first one there is none
first_found : (s : State) (from at : ℕ) (names : List (List ℕ)) (a : List ℕ) (place n : ℕ) → next_in s from at names ≡ Some (a, place) → from ≤ at + n → at + n < place → IsDeadAt s n names
first_found s from at [] a place n is le less = absurd cc
first_found s from at (b ∷ later) a place zero is le less = by (is_newest s b later) refl
  where
    by : (t : Bool) → is_newest s b later ≡ t → is_newest s b later ≡ false
    by false e = e
    by true e =
        let same : at ≡ place =
        ap place_told (ap (λ (t : Bool). if t then Some (b, at) else next_in s from (at + 1) later) (sym e) ∙ sym (looked_at s from at b later (omega arith)) ∙ is) in
        absurd (omega arith)
first_found s from at (b ∷ later) a place (suc n) is le less =
    by (is_next s from at b later) refl (λ rest. first_found s from (at + 1) later a place n rest (omega arith) (omega arith))
  where
    by : (t : Bool) → is_next s from at b later ≡ t → (next_in s from (at + 1) later ≡ Some (a, place) → IsDeadAt s n later) → IsDeadAt s n later
    by true e more =
        let same : at ≡ place = ap place_told (ap (λ (t : Bool). if t then Some (b, at) else next_in s from (at + 1) later) (sym e) ∙ is) in
        absurd (omega arith)
    by false e more = more (ap (λ (t : Bool). if t then Some (b, at) else next_in s from (at + 1) later) (sym e) ∙ is)

-- none from a place on before where the first living one from there on started
pub first_is : (d : Disk) (h : List Deed) (from place : ℕ) (a : List ℕ) → next_living d h from ≡ Some (a, place) → NoneBetween d h from place
first_is d h from place a is = λ n le less. first_found (after d h) from 0 (starts_of h) a place n is (omega arith) (omega arith)

-- two stretches, of which the second one begins in the first one or where that ends
pub joined : (d : Disk) (h : List Deed) (low mid from high : ℕ) → from ≤ mid → NoneBetween d h low mid → NoneBetween d h from high → NoneBetween d h low high
joined d h low mid from high le one other n least less = by (nat_lt n mid) refl
  where
    by : (t : Bool) → nat_lt n mid ≡ t → IsDeadAt (after d h) n (starts_of h)
    by true e = one n least (ltb-true n mid e)
    by false e = let more = ltb-false n mid e in other n (omega arith) less

-- where a turn need not look: the first place moves on
pub first_moves : (d : Disk) (h : List Deed) (first next later : ℕ) → first ≤ next → NonePassed d h first later → NoneBetween d h first next → NonePassed d h next later
first_moves d h first next later le none more = (joined d h 0 first first next (omega arith) none.0 more, λ n low less. none.1 n (omega arith) less)

-- so does the later one, from where a turn has run the generation
pub later_moves : (d : Disk) (h : List Deed) (first later crew from next : ℕ) → crew - first ≡ 4 → (later < from → from ≤ crew) → NonePassed d h first later → NoneBetween d h from next
    → NonePassed d h first next × NoneBetween d h crew next
later_moves d h first later crew from next is le none more = ((none.0, all), λ n low less. all n (omega arith) less)
  where
    all : NoneBetween d h (first + 4) next
    all n low less = by (nat_lt later from) refl
      where
        by : (t : Bool) → nat_lt later from ≡ t → IsDeadAt (after d h) n (starts_of h)
        by true e = let high = le (ltb-true later from e) in more n (omega arith) less
        by false e = joined d h (first + 4) later from next (ltb-false later from e) none.1 more n low less

-- They stay so

head_stays : (any_later any_added any_all lived lives : Bool) → any_all ≡ (any_later || any_added) → (lives ≡ true → any_added ≡ false → lived ≡ true) → (not any_later && lived) ≡ false
    → (not any_all && lives) ≡ false
head_stays any_later true any_all lived lives all revives none = ap (λ (t : Bool). not t && lives) (all ∙ or-true any_later)
head_stays true false any_all lived lives all revives none = ap (λ (t : Bool). not t && lives) all
head_stays false false any_all lived false all revives none = ap (λ (t : Bool). not t && false) all
head_stays false false any_all lived true all revives none = absurd (false≢true (sym none ∙ revives refl refl))

-- the same of other tests of who lives
abbrev IsDeadBy : (List ℕ → Bool) → ℕ → List (List ℕ) → Type 0
IsDeadBy lives n [] = ⊥
IsDeadBy lives zero (a ∷ later) = (not (list_any (bytes_eq a) later) && lives a) ≡ false
IsDeadBy lives (suc n) (a ∷ later) = IsDeadBy lives n later

by_test : (s : State) (lives : List ℕ → Bool) (n : ℕ) (names : List (List ℕ)) → ((a : List ℕ) → lives a ≡ lives_in (s.actors a)) → IsDeadAt s n names → IsDeadBy lives n names
by_test s lives n [] same dead = absurd dead
by_test s lives zero (a ∷ later) same dead = ap (λ (t : Bool). not (list_any (bytes_eq a) later) && t) (same a) ∙ dead
by_test s lives (suc n) (a ∷ later) same dead = by_test s lives n later same dead

by_state : (s : State) (lives : List ℕ → Bool) (n : ℕ) (names : List (List ℕ)) → ((a : List ℕ) → lives a ≡ lives_in (s.actors a)) → IsDeadBy lives n names → IsDeadAt s n names
by_state s lives n [] same dead = absurd dead
by_state s lives zero (a ∷ later) same dead = ap (λ (t : Bool). not (list_any (bytes_eq a) later) && t) (sym (same a)) ∙ dead
by_state s lives (suc n) (a ∷ later) same dead = by_state s lives n later same dead

stays : (lived lives : List ℕ → Bool) (added names : List (List ℕ)) (n : ℕ) → ((a : List ℕ) → lives a ≡ true → list_any (bytes_eq a) added ≡ false → lived a ≡ true)
    → IsDeadBy lived n names → IsDeadBy lives n (names ++ added)
stays lived lives added [] n revives dead = absurd dead
stays lived lives added (a ∷ later) zero revives dead =
    head_stays (list_any (bytes_eq a) later) (list_any (bytes_eq a) added) (list_any (bytes_eq a) (later ++ added)) (lived a) (lives a)
    (list_any-append (bytes_eq a) later added) (revives a) dead
stays lived lives added (a ∷ later) (suc n) revives dead = stays lived lives added later n revives dead

turned_text : (a b : List ℕ) → bytes_eq a b ≡ bytes_eq b a
turned_text a b = ⊎_elim
    (λ f. f.1 ∙ sym (ap (λ (c : List ℕ). bytes_eq c a) (sym f.0) ∙ same_text a))
    (λ f. f.1 ∙ sym (other_text b a (λ e. f.0 (sym e))))
    (text_cases a b)

-- a start is among those of its event
starts_listed : (a : List ℕ) (k : Kept) → starts_one a k ≡ list_any (bytes_eq a) (kept_started k)
starts_listed a (kept.Start b program) = turned_text b a ∙ sym (or-false (bytes_eq a b))
starts_listed a (kept.Act b own) = refl
starts_listed a (kept.Child b own c program) = turned_text c a ∙ sym (or-false (bytes_eq a c))
starts_listed a (kept.Feed b own c message envelope) = refl
starts_listed a (kept.Generation start) = refl
starts_listed a (kept.Report slot letter text) = refl
starts_listed a (kept.End b read ready status) = refl
starts_listed a (kept.Stop b) = refl
starts_listed a (kept.Moment m) = refl
starts_listed a (kept.Halt how) = refl

-- who lives after an event that doesn't start it lived before it
lived_before : (a : List ℕ) (k : Kept) (at : ℕ) (span : Span) → is_lasting (span_after a k at span) ≡ true → starts_one a k ≡ false → is_lasting span ≡ true
lived_before a k at Unborn lasts_now started = absurd (false≢true (ap (λ (t : Bool). is_lasting (if t then Lasting else Unborn)) (sym started) ∙ lasts_now))
lived_before a k at Lasting lasts_now started = refl
lived_before a k at (OverAt before) lasts_now started = absurd (false≢true (ap (λ (t : Bool). is_lasting (if t then Lasting else OverAt before)) (sym started) ∙ lasts_now))

abbrev lasting : List Kept → List ℕ → Bool
lasting newest a = is_lasting (span_of a newest)

all_stay : (added newest : List Kept) (n : ℕ) → IsDeadBy (lasting newest) n (kept_starts newest) → IsDeadBy (lasting (added ++ newest)) n (kept_starts (added ++ newest))
all_stay [] newest n none = none
all_stay (k ∷ added) newest n none =
    let before = added ++ newest in
    stays (lasting before) (lasting (k ∷ before)) (kept_started k) (kept_starts before) n
    (λ a lives started. lived_before a k (length before) (span_of a before) lives (starts_listed a k ∙ started)) (all_stay added newest n none)

-- what tells deeds that came later, and those from before
split_told : (newest : List Kept) (later h : List Deed) → AllZip TellsDeed newest (later ++ h) → (added before : List Kept) × (newest ≡ added ++ before) × AllZip TellsDeed before h
split_told newest [] h told = ([], newest, refl, told)
split_told [] (x ∷ later) h told = absurd told
split_told (k ∷ newest) (x ∷ later) h told = let rest = split_told newest later h told.1 in (k ∷ rest.0, rest.1, ap (λ (l : List Kept). k ∷ l) rest.2, rest.3)

-- what came later changes nothing of it
pub none_stays : (d : Disk) (old w : Seen Crash) (left plan : Plan) (events h : List Deed) (low high : ℕ) → IsPlaying d old left h → IsPlaying d w plan (events ++ h) → NoneBetween d h low high
    → NoneBetween d (events ++ h) low high
none_stays d old w left plan events h low high was playing none n le less =
    let newest = reverse w.events in
    let split = split_told newest events h playing.told in
    let before = split.1 in
    let by_then : IsDeadBy (lasting before) n (kept_starts before) =
    subst (λ (l : List (List ℕ)). IsDeadBy (lasting before) n l) (sym (same_starts before h split.3))
    (by_test (after d h) (lasting before) n (starts_of h) (lasts_told d before h was.is.legal split.3) (none n le less)) in
    let now : IsDeadBy (lasting newest) n (kept_starts newest) = subst (λ (l : List Kept). IsDeadBy (lasting l) n (kept_starts l)) (sym split.2) (all_stay split.0 before n by_then) in
    by_state (after d (events ++ h)) (lasting newest) n (starts_of (events ++ h)) (lasts_told d newest (events ++ h) playing.is.legal playing.told)
    (subst (λ (l : List (List ℕ)). IsDeadBy (lasting newest) n l) (same_starts newest (events ++ h) playing.told) now)

pub passed_stays : (d : Disk) (old w : Seen Crash) (left plan : Plan) (events h : List Deed) (first later : ℕ) → IsPlaying d old left h → IsPlaying d w plan (events ++ h) → NonePassed d h first later
    → NonePassed d (events ++ h) first later
passed_stays d old w left plan events h first later was playing none =
    (none_stays d old w left plan events h 0 first was playing none.0, none_stays d old w left plan events h (first + 4) later was playing none.1)
