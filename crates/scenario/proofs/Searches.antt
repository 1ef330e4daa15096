-- The searches among the events that came.
use Rattle.std.proofs.Common.{◌≡◌, ℕ, List, [], ◌∷◌, ◌++◌, length, reverse, Bool, true, false, ◌&&◌, ◌==◌, cond, refl, sym, ap, ap₂, ◌∙◌, arith, length-append}
use Rattle.std.specs.Prelude.{drop}
use Rattle.std.specs.List.{AllZip, count_by, list_all}
use Rattle.std.proofs.lemmas.List.{drop_all, drop-append-le, length-reverse, reverse-append, reverse-reverse}
use Rattle.std.proofs.lemmas.List.Folds.{list_all-append}
use Rattle.std.proofs.lemmas.List.Sums.{sum_by-append, sum_by-cons}
use Rattle.std.proofs.lemmas.Slice.Zip.{AllZip-long}
use Rattle.world_events.specs.declared.event.Event.{Event as Kept}
use Rattle.mail_world.specs.History.{Event}
use Rattle.mail_world.specs.History.Event.{Start, Act, Child, Generation, Report, End, Stop, Moment, Halt}
use Rattle.mail_world.specs.World.{Tells}
use Rattle.scenario.specs.inside.Playing.{are_searches_kept, is_first_kept, is_search_kept}
use Rattle.scenario.specs.Deeds.{Deed, TellsDeed}
use Rattle.scenario.specs.Deeds.Deed.{Came, Fed}
use Rattle.scenario.specs.Turns.{are_searches, is_first, is_first_deed, is_search, is_search_deed}

-- One event

search_told : (k : Kept) (e : Event) → Tells k e → is_search_kept k ≡ is_search e
search_told k (Start a program) told = ap is_search_kept told
search_told k (Act a own w) told = ap is_search_kept told
search_told k (Child parent own a program) told = ap is_search_kept told
search_told k (Generation crew) told = ap is_search_kept told.1
search_told k (Report slot output) told = ap is_search_kept told.2
search_told k (End a read ready status) told = ap is_search_kept told
search_told k (Stop a) told = ap is_search_kept told
search_told k (Moment m) told = ap is_search_kept told
search_told k (Halt how contents) told = ap is_search_kept told

first_told : (k : Kept) (e : Event) → Tells k e → is_first_kept k ≡ is_first e
first_told k (Start a program) told = ap is_first_kept told
first_told k (Act a own w) told = ap is_first_kept told
first_told k (Child parent own a program) told = ap is_first_kept told
first_told k (Generation crew) told = ap is_first_kept told.1
first_told k (Report slot output) told = ap is_first_kept told.2
first_told k (End a read ready status) told = ap is_first_kept told
first_told k (Stop a) told = ap is_first_kept told
first_told k (Moment m) told = ap is_first_kept told
first_told k (Halt how contents) told = ap is_first_kept told

search_deed : (k : Kept) (x : Deed) → TellsDeed k x → is_search_kept k ≡ is_search_deed x
search_deed k (Came e) told = search_told k e told
search_deed k (Fed a own c message envelope) told = ap is_search_kept told

first_deed : (k : Kept) (x : Deed) → TellsDeed k x → is_first_kept k ≡ is_first_deed x
first_deed k (Came e) told = first_told k e told
first_deed k (Fed a own c message envelope) told = ap is_first_kept told

-- All that came

-- What is told of kept events and of deeds is the same if it is of none, and if it stays so with one event more.
module _ {A : Type 0} (f : List Kept → A) (g : List Deed → A) (of_none : f [] ≡ g [])
    (of_more : (events : List Kept) (deeds : List Deed) (k : Kept) (x : Deed) → TellsDeed k x → f events ≡ g deeds → f (events ++ k ∷ []) ≡ g (x ∷ deeds)) where
  newest_told : (newest : List Kept) (later h : List Deed) → AllZip TellsDeed newest (later ++ h) → f (drop (length h) (reverse newest)) ≡ g later
  newest_told newest [] h told =
      let long = AllZip-long TellsDeed newest h told in
      let turned = length-reverse newest in
      ap f (drop_all (length h) (reverse newest) (omega arith)) ∙ of_none
  newest_told [] (x ∷ later) h told = absurd told
  newest_told (k ∷ newest) (x ∷ later) h told =
      let long = AllZip-long TellsDeed newest (later ++ h) told.1 in
      let turned = length-reverse newest in
      let whole = length-append later h in
      ap (λ (l : List Kept). f (drop (length h) l)) (reverse-append (k ∷ []) newest)
      ∙ ap f (drop-append-le (length h) (reverse newest) (k ∷ []) (omega arith))
      ∙ of_more (drop (length h) (reverse newest)) later k x told.0 (newest_told newest later h told.1)

  all_told : (old new : List Kept) (later h : List Deed) → AllZip TellsDeed (reverse old) h → AllZip TellsDeed (reverse new) (later ++ h) → f (drop (length old) new) ≡ g later
  all_told old new later h was now =
      let long = AllZip-long TellsDeed (reverse old) h was in
      let turned = length-reverse old in
      let before : length old ≡ length h = omega arith in
      ap (λ (n : ℕ). f (drop n new)) before
      ∙ ap (λ (l : List Kept). f (drop (length h) l)) (sym (reverse-reverse new))
      ∙ newest_told (reverse new) later h now

swapped : (s t u v : Bool) → s ≡ u → t ≡ v → (s && (t && true)) ≡ (v && u)
swapped true true u v same also = same ∙ sym (ap (λ b. b && u) (sym also))
swapped true false u v same also = ap (λ b. b && u) also
swapped false t true v same also = absurd (cc)
swapped false t false true same also = refl
swapped false t false false same also = refl

more_searches : (events : List Kept) (deeds : List Deed) (k : Kept) (x : Deed) → TellsDeed k x → list_all is_search_kept events ≡ list_all is_search_deed deeds
    → list_all is_search_kept (events ++ k ∷ []) ≡ list_all is_search_deed (x ∷ deeds)
more_searches events deeds k x told same =
    list_all-append is_search_kept events (k ∷ [])
    ∙ swapped (list_all is_search_kept events) (is_search_kept k) (list_all is_search_deed deeds) (is_search_deed x) same (search_deed k x told)

more_first : (events : List Kept) (deeds : List Deed) (k : Kept) (x : Deed) → TellsDeed k x → count_by is_first_kept events ≡ count_by is_first_deed deeds
    → count_by is_first_kept (events ++ k ∷ []) ≡ count_by is_first_deed (x ∷ deeds)
more_first events deeds k x told same =
    let all = sum_by-append (λ (e : Kept). cond (is_first_kept e) 1 0) events (k ∷ []) in
    let last = sum_by-cons (λ (e : Kept). cond (is_first_kept e) 1 0) k [] in
    let none : count_by is_first_kept [] ≡ 0 = refl in
    let newest = sum_by-cons (λ (y : Deed). cond (is_first_deed y) 1 0) x deeds in
    let alike : ◌≡◌ {A = ℕ} (cond (is_first_kept k) 1 0) (cond (is_first_deed x) 1 0) = ap (λ (b : Bool). cond b 1 0) (first_deed k x told) in
    omega (arith, all, last, none, newest, alike, same)

-- the events after those that told these deeds are searches of one turn exactly if the deeds that came then are
pub searches_told : (old new : List Kept) (later h : List Deed) → AllZip TellsDeed (reverse old) h → AllZip TellsDeed (reverse new) (later ++ h)
    → are_searches_kept (drop (length old) new) ≡ are_searches later
searches_told old new later h was now =
    ap₂ (λ (all : Bool) (n : ℕ). all && (n == 1))
    (all_told (list_all is_search_kept) (list_all is_search_deed) refl more_searches old new later h was now)
    (all_told (count_by is_first_kept) (count_by is_first_deed) refl more_first old new later h was now)
