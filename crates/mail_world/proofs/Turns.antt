-- Who is the next one in a turn.
use Rattle.std.proofs.Common.{◌≡◌, ℕ, zero, suc, ◌+◌, ◌<◌, ◌≤◌, List, [], ◌∷◌, length, drop, reverse, Bool, true, false, not, ◌&&◌, Option, Some, None, is_some, is_none, refl, sym, ap, ◌∙◌, subst, arith, bytes_eq}
use Rattle.std.specs.Prelude.{if◌then◌else◌, option_map, nat_lt}
use Rattle.std.specs.List.{slice_get, list_any}
use Rattle.std.proofs.lemmas.Bool.{ltb-true, ltb-false}
use Rattle.std.proofs.lemmas.List.{length-drop}
use Rattle.std.proofs.lemmas.Option.{slice_get_within}
use Rattle.world_events.specs.declared.event.Event.{Event as Kept}
use Rattle.mail_world.specs.declared.actor.Actor.{Actor as Held}
use Rattle.world_events.specs.declared.starts.Starts.{Starts}
use Rattle.mail_world.specs.History.{State}
use Rattle.mail_world.specs.World.{span_of}
use Rattle.mail_world.specs.Generations.{starts_of, is_lasting, is_next, next_among, next_living}
use Rattle.world_events.specs.Starts.{place_by_entry}
use Rattle.mail_world.specs.Starts.{if_lives, living_in, start_at, IsNextStart, AreStarts}
use Rattle.mail_world.specs.Inside.{span_by, among_all, AreActors}
use Rattle.mail_world.proofs.Lists.{some_at, some_within}

lasting_by : (o : Option ℕ) → is_lasting (span_by o) ≡ is_none o
lasting_by None = refl
lasting_by (Some at) = refl

lives_some : (x : Held) → is_some (if_lives (Some x)) ≡ is_none x.ended
lives_some x = by_test (is_none x.ended) refl where
  by_test : (t : Bool) → is_none x.ended ≡ t → is_some (if_lives (Some x)) ≡ is_none x.ended
  by_test true e = ap (λ (t : Bool). is_some (if t then Some x else None)) e ∙ sym e
  by_test false e = ap (λ (t : Bool). is_some (if t then Some x else None)) e ∙ sym e

lives_name : (x y : Held) → if_lives (Some x) ≡ Some y → y.name ≡ x.name
lives_name x y is = by_test (is_none x.ended) is where
  by_test : (t : Bool) → (if t then Some x else None) ≡ Some y → y.name ≡ x.name
  by_test true e = let same : x ≡ y = cc in ap (λ (z : Held). z.name) (sym same)
  by_test false e = absurd cc

-- the place at which a rest begins
at_drop : (xs : List (List ℕ)) (n : ℕ) (a : List ℕ) (later : List (List ℕ)) → drop n xs ≡ a ∷ later → (slice_get xs n ≡ Some a) × (drop (suc n) xs ≡ later)
at_drop [] zero a later is = absurd cc
at_drop [] (suc n) a later is = absurd cc
at_drop (x ∷ xs) zero a later is = let same : x ≡ a = cc in let rest : xs ≡ later = cc in (ap Some same, rest)
at_drop (x ∷ xs) (suc n) a later is = at_drop xs n a later is

-- what a test tells of an actor that may be there
abbrev TellsEntry : Bool → Option Held → List ℕ → Type 0
TellsEntry t o a = (t ≡ is_some o) × ((x : Held) → o ≡ Some x → x.name ≡ a)

-- a start that is the newest one of an actor that lives
abbrev is_newest : List ℕ → List (List ℕ) → List Kept → Bool
is_newest a later newest = not (list_any (bytes_eq a) later) && is_lasting (span_of a newest)

module _ (starts : Starts) (crew : ℕ) (places : List ℕ → Option ℕ) (actors : List Held) (s : State) (events : List Kept) (p : ℕ)
    (kept : AreActors (among_all crew places) actors s events p) (are : AreStarts starts crew places (starts_of (reverse events))) where
  by_place : (at : ℕ) (a : List ℕ) (o : Option ℕ) → ((i : ℕ) → o ≡ Some i → among_all crew places a ≡ Some i)
      → is_some o ≡ not (list_any (bytes_eq a) (drop (suc at) (starts_of (reverse events))))
      → TellsEntry (is_newest a (drop (suc at) (starts_of (reverse events))) (reverse events)) (living_in actors o) a
  by_place at a None placed last = (ap (λ (t : Bool). t && is_lasting (span_of a (reverse events))) (sym last), λ x is. absurd (cc))
  by_place at a (Some i) placed last =
      let x = some_at (λ (x : Held). x.name ≡ a) (slice_get actors i) (kept.named a i (placed i refl)) in
      let lasting : is_lasting (span_of a (reverse events)) ≡ is_none x.0.ended =
      ap (λ (a : List ℕ). is_lasting (span_of a (reverse events))) (sym x.2) ∙ ap is_lasting (kept.members i x.0 x.1).spans ∙ lasting_by x.0.ended in (
        ap (λ (t : Bool). t && is_lasting (span_of a (reverse events))) (sym last) ∙ lasting ∙ sym (lives_some x.0) ∙ sym (ap (λ (o : Option Held). is_some (if_lives o)) x.1),
        (λ y is. lives_name x.0 y (sym (ap if_lives x.1) ∙ is) ∙ x.2),
      )

  entry_told : (at : ℕ) (a : List ℕ) → slice_get (starts_of (reverse events)) at ≡ Some a
      → TellsEntry (is_newest a (drop (suc at) (starts_of (reverse events))) (reverse events)) (start_at starts actors crew at) a
  entry_told at a is =
      let many = are.many in
      let low = slice_get_within (starts_of (reverse events)) at a is in
      let e = some_within starts.order.items at (omega (arith, many, low)) in
      subst (λ (o : Option ℕ). TellsEntry (is_newest a (drop (suc at) (starts_of (reverse events))) (reverse events)) (living_in actors (place_by_entry crew starts.newest at o)) a) (sym e.1)
      (by_place at a (place_by_entry crew starts.newest at (Some e.0)) (λ i there. are.placed at e.0 i a e.1 is there) (are.last at e.0 a e.1 is))

  -- the entry where a rest begins
  here_told : (at : ℕ) (a : List ℕ) (later : List (List ℕ)) → drop at (starts_of (reverse events)) ≡ a ∷ later
      → TellsEntry (is_newest a later (reverse events)) (start_at starts actors crew at) a
  here_told at a later is =
      let d = at_drop (starts_of (reverse events)) at a later is in
      subst (λ (l : List (List ℕ)). TellsEntry (is_newest a l (reverse events)) (start_at starts actors crew at) a) d.1 (entry_told at a d.0)

  off : (from at : ℕ) (a : List ℕ) (later : List (List ℕ)) → drop at (starts_of (reverse events)) ≡ a ∷ later → (from ≤ at → start_at starts actors crew at ≡ None)
      → is_next from at a later (reverse events) ≡ false
  off from at a later is none = by_test (nat_lt at from) refl where
    by_test : (t : Bool) → nat_lt at from ≡ t → is_next from at a later (reverse events) ≡ false
    by_test true e = ap (λ (t : Bool). not t && is_newest a later (reverse events)) e
    by_test false e = ap (λ (t : Bool). not t && is_newest a later (reverse events)) e ∙ (here_told at a later is).0 ∙ ap (λ (o : Option Held). is_some o) (none (ltb-false at from e))

  on : (from at : ℕ) (a : List ℕ) (later : List (List ℕ)) (x : Held) → drop at (starts_of (reverse events)) ≡ a ∷ later → from ≤ at → start_at starts actors crew at ≡ Some x
      → is_next from at a later (reverse events) ≡ true
  on from at a later x is le there = by_test (nat_lt at from) refl where
    by_test : (t : Bool) → nat_lt at from ≡ t → is_next from at a later (reverse events) ≡ true
    by_test true e = let lt = ltb-true at from e in absurd (omega (arith, lt, le))
    by_test false e = ap (λ (t : Bool). not t && is_newest a later (reverse events)) e ∙ (here_told at a later is).0 ∙ ap (λ (o : Option Held). is_some o) there

  next_none : (from at : ℕ) (rest : List (List ℕ)) → drop at (starts_of (reverse events)) ≡ rest → ((k : ℕ) → from ≤ k → start_at starts actors crew k ≡ None)
      → next_among from at rest (reverse events) ≡ None
  next_none from at [] same none = refl
  next_none from at (a ∷ later) same none =
      let e : suc at ≡ at + 1 = omega arith in
      ap (λ (t : Bool). if t then Some (a, at) else next_among from (at + 1) later (reverse events)) (off from at a later same (none at))
      ∙ next_none from (at + 1) later (ap (λ (n : ℕ). drop n (starts_of (reverse events))) (sym e) ∙ (at_drop (starts_of (reverse events)) at a later same).1) none

  within : (k : ℕ) (x : Held) → start_at starts actors crew k ≡ Some x → k < length (starts_of (reverse events))
  within k x is = by_entry (slice_get starts.order.items k) refl is where
    by_entry : (o : Option ℕ) → slice_get starts.order.items k ≡ o → living_in actors (place_by_entry crew starts.newest k o) ≡ Some x → k < length (starts_of (reverse events))
    by_entry None at there = absurd cc
    by_entry (Some entry) at there = let low = slice_get_within starts.order.items k entry at in let many = are.many in omega (arith, low, many)

  next_some : (from k : ℕ) (x : Held) → from ≤ k → start_at starts actors crew k ≡ Some x → ((j : ℕ) → from ≤ j → j < k → start_at starts actors crew j ≡ None)
      → (at : ℕ) (rest : List (List ℕ)) → drop at (starts_of (reverse events)) ≡ rest → at ≤ k → next_among from at rest (reverse events) ≡ Some (x.name, k)
  next_some from k x le there before at [] same low =
      let lt = within k x there in
      let len = length-drop at (starts_of (reverse events)) in
      let none : length (drop at (starts_of (reverse events))) ≡ 0 = ap (λ (l : List (List ℕ)). length l) same in
      absurd (omega (arith, lt, len, none, low))
  next_some from k x le there before at (a ∷ later) same low =
      by_test (nat_lt at k) refl
      (next_some from k x le there before (at + 1) later (let e : at + 1 ≡ suc at = omega arith in ap (λ (n : ℕ). drop n (starts_of (reverse events))) e ∙ (at_drop (starts_of (reverse events)) at a later same).1))
    where
      by_test : (t : Bool) → nat_lt at k ≡ t → (at + 1 ≤ k → next_among from (at + 1) later (reverse events) ≡ Some (x.name, k))
          → next_among from at (a ∷ later) (reverse events) ≡ Some (x.name, k)
      by_test true e more =
          let lt = ltb-true at k e in
          ap (λ (t : Bool). if t then Some (a, at) else next_among from (at + 1) later (reverse events)) (off from at a later same (λ high. before at high lt)) ∙ more (omega (arith, lt))
      by_test false e more =
          let high = ltb-false at k e in
          let is : k ≡ at = omega (arith, high, low) in
          let found : start_at starts actors crew at ≡ Some x = ap (start_at starts actors crew) (sym is) ∙ there in
          let name : x.name ≡ a = (here_told at a later same).1 x found in
          ap (λ (t : Bool). if t then Some (a, at) else next_among from (at + 1) later (reverse events)) (on from at a later x same (omega (arith, le, is)) found)
          ∙ ap (λ (b : List ℕ). Some (b, at)) (sym name) ∙ ap (λ (n : ℕ). Some (x.name, n)) (sym is)

  pub next_told : (from : ℕ) (found : Option (Held × ℕ)) → IsNextStart starts actors crew from found → option_map (λ f. (f.0.name, f.1)) found ≡ next_living from events
  next_told from None none = let e : drop 0 (starts_of (reverse events)) ≡ starts_of (reverse events) = refl in sym (next_none from 0 (starts_of (reverse events)) e none)
  next_told from (Some found) is =
      let e : drop 0 (starts_of (reverse events)) ≡ starts_of (reverse events) = refl in
      sym (next_some from found.1 found.0 is.0 is.1 is.2 0 (starts_of (reverse events)) e (omega arith))
