-- The books of a world, as one event more comes.
use Rattle.std.proofs.Common.{◌≡◌, ◌≢◌, ℕ, ◌+◌, ◌-◌, ◌<◌, ◌≤◌, zero, suc, List, [], ◌∷◌, ◌++◌, length, set, map, get_or, reverse, Bool, true, false, Option, Some, None, refl, sym, ap, ◌∙◌, subst, ⊎_elim, arith, append-nil, bytes_eq}
use Rattle.std.specs.Prelude.{if◌then◌else◌, drop}
use Rattle.std.specs.List.{slice_get}
use Rattle.std.specs.Option.{option_map}
use Rattle.std.proofs.lemmas.List.{length-append, length-map}
use Rattle.std.proofs.lemmas.Option.{slice_get-map, get_or_from_slice_get, slice_get_within}
use Rattle.call_fs.specs.declared.crash_file_system.Survival.{Survival}
use Rattle.call_fs.specs.declared.past.NeedData.{NeedData}
use Rattle.call_fs.specs.declared.past.NeedData.TheVariants as needs
use Rattle.call_fs.specs.declared.past.GotData.{GotData}
use Rattle.call_fs.specs.declared.past.Own.{Own}
use Rattle.queue_inject.specs.declared.injection.Arguments.{Arguments}
use Rattle.queue_inject.specs.declared.injection.InputEnd.TheVariants.{Whole}
use Rattle.world_events.specs.declared.event.Event.{Event as Kept}
use Rattle.world_events.specs.declared.event.Event.TheVariants as kept
use Rattle.world_events.specs.declared.event.Program.{Program}
use Rattle.world_events.specs.declared.event.Program.TheVariants.{Injector}
use Rattle.mail_world.specs.declared.actor.Actor.{Actor as Held}
use Rattle.world_events.specs.declared.books.Entry.{Entry}
use Rattle.world_events.specs.declared.books.Life.TheVariants as told
use Rattle.mail_world.specs.Acting.{AreCutOff}
use Rattle.mail_world.proofs.NewCrew.{AreFour}
use Rattle.world_events.specs.Books.{fed_entry}
use Rattle.world_events.specs.Inputs.{with_texts, start_with, with_inputs}
use Rattle.mail_world.specs.Books.{new_entry, entry_by, entered_by, acted_on, left_as, cut_off, noted, books_of, AreBooked}
use Rattle.world_events.specs.Children.{entry_after}
use Rattle.mail_world.specs.ByKind.{IsMail, injection_of}
use Rattle.mail_world.specs.Inside.{HasJustStarted}
use Rattle.mail_world.proofs.Known.{IsPlain, inputs_push, inputs_fed, start_in}
use Rattle.mail_world.proofs.Tests.{other_text}
use Rattle.mail_world.proofs.Lists.{some_last, some_at, get_push, get_still, get_last, get_drop}
use Rattle.mail_world.proofs.Owns.{IsPass}

-- each actor stands at its place
abbrev pub ArePlaced : (List ℕ → Option ℕ) → List Held → Type 0
ArePlaced places actors = (i : ℕ) (x : Held) → slice_get actors i ≡ Some x → places x.name ≡ Some i

-- one event more
pub books_push : (events : List Kept) (k : Kept) → IsPlain k
    → books_of (with_inputs (reverse (events ++ k ∷ []))) ≡ map (noted k) (books_of (with_inputs (reverse events))) ++ entered_by k
books_push events k plain = ap books_of (inputs_push events k plain)

-- lists, item by item

map_still : {X : Type 0} (f : X → X) (xs : List X) → ((i : ℕ) (x : X) → slice_get xs i ≡ Some x → f x ≡ x) → map f xs ≡ xs
map_still f [] still = refl
map_still f (x ∷ xs) still = ap (λ y. y ∷ map f xs) (still 0 x refl) ∙ ap (λ ys. x ∷ ys) (map_still f xs (λ i z h. still (suc i) z h))

-- a change of one item is a change of each, if it leaves the others
set_is_map : {X : Type 0} (f : X → X) (xs : List X) (i : ℕ) (x : X) → slice_get xs i ≡ Some x → ((j : ℕ) (z : X) → j ≢ i → slice_get xs j ≡ Some z → f z ≡ z)
    → set xs i (f x) ≡ map f xs
set_is_map f [] i x is others = absurd cc
set_is_map f (z ∷ zs) zero x is others =
    let same : z ≡ x = cc in
    ap (λ y. f y ∷ zs) (sym same) ∙ ap (λ ys. f z ∷ ys) (sym (map_still f zs (λ j y h. others (suc j) y (λ e. absurd (omega arith)) h)))
set_is_map f (z ∷ zs) (suc i) x is others =
    ap (λ y. y ∷ set zs i (f x)) (sym (others 0 z (λ e. absurd (omega arith)) refl))
    ∙ ap (λ ys. f z ∷ ys) (set_is_map f zs i x is (λ j y apart h. others (suc j) y (λ e. apart (omega arith)) h))

map_set_same : {X Y : Type 0} (f : X → Y) (xs : List X) (i : ℕ) (x y : X) → slice_get xs i ≡ Some x → f y ≡ f x → map f (set xs i y) ≡ map f xs
map_set_same f [] i x y is same = absurd cc
map_set_same f (z ∷ zs) zero x y is same = let here : z ≡ x = cc in ap (λ v. v ∷ map f zs) (same ∙ ap f (sym here))
map_set_same f (z ∷ zs) (suc i) x y is same = ap (λ vs. f z ∷ vs) (map_set_same f zs i x y is same)

map_after : {X Y : Type 0} (f : X → X) (g : X → Y) (xs : List X) → ((x : X) → g (f x) ≡ g x) → map g (map f xs) ≡ map g xs
map_after f g [] keeps = refl
map_after f g (x ∷ xs) keeps = ap (λ y. y ∷ map g (map f xs)) (keeps x) ∙ ap (λ ys. g x ∷ ys) (map_after f g xs keeps)

map_alike : {X Y : Type 0} (f : X → Y) (xs ys : List X) → length ys ≡ length xs → ((i : ℕ) (x y : X) → slice_get xs i ≡ Some x → slice_get ys i ≡ Some y → f y ≡ f x)
    → map f ys ≡ map f xs
map_alike f [] [] many each = refl
map_alike f [] (y ∷ ys) many each = absurd (omega arith)
map_alike f (x ∷ xs) [] many each = absurd (omega arith)
map_alike f (x ∷ xs) (y ∷ ys) many each =
    ap (λ v. v ∷ map f ys) (each 0 x y refl refl) ∙ ap (λ vs. f x ∷ vs) (map_alike f xs ys (omega arith) (λ i z w h g. each (suc i) z w h g))

-- two lists with the same names: what stands at a place of the one, and of the other
from_map : {X Z : Type 0} (g : X → Z) (o : Option X) (z : Z) → option_map g o ≡ Some z → (x : X) × (o ≡ Some x) × (z ≡ g x)
from_map g None z h = absurd cc
from_map g (Some x) z h = (x, refl, cc)

paired : {X Y Z : Type 0} (f : X → Z) (g : Y → Z) (xs : List X) (ys : List Y) (i : ℕ) (x : X) → map f xs ≡ map g ys → slice_get xs i ≡ Some x
    → (y : Y) × (slice_get ys i ≡ Some y) × (f x ≡ g y)
paired {X} {Y} {Z} f g xs ys i x same is =
    from_map g (slice_get ys i) (f x)
    (sym (slice_get-map g ys i) ∙ ap (λ (l : List Z). slice_get l i) (sym same) ∙ slice_get-map f xs i ∙ ap (option_map f) is)

-- what an event leaves of an entry

if_named : (t : Bool) (e f : Entry) → f.actor ≡ e.actor → (if t then f else e).actor ≡ e.actor
if_named true e f h = h
if_named false e f h = refl

noted_actor : (k : Kept) (e : Entry) → (noted k e).actor ≡ e.actor
noted_actor (kept.Start a program) e = refl
noted_actor (kept.Act a own) e = if_named (bytes_eq a e.actor) e (acted_on own.due own.came e) refl
noted_actor (kept.End a read ready status) e = if_named (bytes_eq a e.actor) e (left_as (told.Ended status) e) refl
noted_actor (kept.Stop a) e = if_named (bytes_eq a e.actor) e (left_as told.Stopped e) refl
noted_actor (kept.Child a own c program) e = refl
noted_actor (kept.Feed a own c message envelope) e = refl
noted_actor (kept.Generation start) e = refl
noted_actor (kept.Report slot letter text) e = refl
noted_actor (kept.Moment m) e = refl
noted_actor (kept.Halt how) e = refl

-- an event of that actor, after its start
abbrev pub IsOwnOf : List ℕ → Kept → Type 0
IsOwnOf a (kept.Start b program) = ⊥
IsOwnOf a (kept.Act b own) = b ≡ a
IsOwnOf a (kept.End b read ready status) = b ≡ a
IsOwnOf a (kept.Stop b) = b ≡ a
IsOwnOf a (kept.Child b own c program) = ⊥
IsOwnOf a (kept.Feed b own c message envelope) = ⊥
IsOwnOf a (kept.Generation start) = ⊥
IsOwnOf a (kept.Report slot letter text) = ⊥
IsOwnOf a (kept.Moment m) = ⊥
IsOwnOf a (kept.Halt how) = ⊥

noted_other : (k : Kept) (a : List ℕ) (e : Entry) → IsOwnOf a k → e.actor ≢ a → noted k e ≡ e
noted_other (kept.Start b program) a e mine apart = absurd mine
noted_other (kept.Act b own) a e mine apart =
    ap (λ t. if t then acted_on own.due own.came e else e) (other_text b e.actor (λ same. apart (sym same ∙ mine)))
noted_other (kept.End b read ready status) a e mine apart =
    ap (λ t. if t then left_as (told.Ended status) e else e) (other_text b e.actor (λ same. apart (sym same ∙ mine)))
noted_other (kept.Stop b) a e mine apart =
    ap (λ t. if t then left_as told.Stopped e else e) (other_text b e.actor (λ same. apart (sym same ∙ mine)))
noted_other (kept.Child b own c program) a e mine apart = absurd mine
noted_other (kept.Feed b own c message envelope) a e mine apart = absurd mine
noted_other (kept.Generation start) a e mine apart = absurd mine
noted_other (kept.Report slot letter text) a e mine apart = absurd mine
noted_other (kept.Moment m) a e mine apart = absurd mine
noted_other (kept.Halt how) a e mine apart = absurd mine

begins_none : (k : Kept) (a : List ℕ) → IsOwnOf a k → entered_by k ≡ []
begins_none (kept.Start b program) a mine = absurd mine
begins_none (kept.Act b own) a mine = refl
begins_none (kept.End b read ready status) a mine = refl
begins_none (kept.Stop b) a mine = refl
begins_none (kept.Child b own c program) a mine = absurd mine
begins_none (kept.Feed b own c message envelope) a mine = refl
begins_none (kept.Generation start) a mine = refl
begins_none (kept.Report slot letter text) a mine = refl
begins_none (kept.Moment m) a mine = refl
begins_none (kept.Halt how) a mine = refl

own_plain : (k : Kept) (a : List ℕ) → IsOwnOf a k → IsPlain k
own_plain (kept.Feed b own c message envelope) a mine = absurd mine
own_plain (kept.Start b program) a mine = tt
own_plain (kept.Act b own) a mine = tt
own_plain (kept.Child b own c program) a mine = tt
own_plain (kept.End b read ready status) a mine = tt
own_plain (kept.Stop b) a mine = tt
own_plain (kept.Generation start) a mine = tt
own_plain (kept.Report slot letter text) a mine = tt
own_plain (kept.Moment m) a mine = tt
own_plain (kept.Halt how) a mine = tt

-- the books after an event that begins no entry
pub books_more : (entries : List Entry) (events : List Kept) (k : Kept) → IsPlain k → entries ≡ books_of (with_inputs (reverse events)) → entered_by k ≡ []
    → map (noted k) entries ≡ books_of (with_inputs (reverse (events ++ k ∷ [])))
books_more entries events k plain are none =
    let before = books_of (with_inputs (reverse events)) in
    ap (map (noted k)) are ∙ sym (append-nil (map (noted k) before)) ∙ ap (λ l. map (noted k) before ++ l) (sym none) ∙ sym (books_push events k plain)

-- what an actor is called, and which entry is its own
abbrev both_held : List ℕ → Option ℕ → List ℕ × Option ℕ
both_held name entry = (name, entry)

abbrev held_by : Held → List ℕ × Option ℕ
held_by x = both_held x.name x.entry

same_held : (x y : Held) → y.name ≡ x.name → y.entry ≡ x.entry → held_by y ≡ held_by x
same_held x y name entry = ap (λ (n : List ℕ). both_held n y.entry) name ∙ ap (both_held x.name) entry

name_of : (n m : List ℕ) (k j : Option ℕ) → both_held n k ≡ both_held m j → n ≡ m
name_of n m k j same = ap (λ (p : List ℕ × Option ℕ). p.0) same

entry_of : (n m : List ℕ) (k j : Option ℕ) → both_held n k ≡ both_held m j → k ≡ j
entry_of n m k j same = ap (λ (p : List ℕ × Option ℕ). p.1) same

-- the books of other events, with entries of the same actors, who have the same names and entries
booked_alike : (crew : ℕ) (entries now : List Entry) (actors stood : List Held) (events later : List Kept) → AreBooked crew entries actors events
    → now ≡ books_of (with_inputs (reverse later)) → map (λ (e : Entry). e.actor) now ≡ map (λ (e : Entry). e.actor) entries → map held_by stood ≡ map held_by actors → AreBooked crew now stood later
booked_alike crew entries now actors stood events later booked are told held =
    let actor : Entry → List ℕ = λ e. e.actor in
    record {
      are = are;
      here = λ i k x is entry.
          let v = paired held_by held_by stood actors i x held is in
          let w = booked.here i k v.0 v.1 (sym (entry_of x.name v.0.name x.entry v.0.entry v.2) ∙ entry) in
          let u = paired actor actor entries now k w.0 (sym told) w.1 in
          (u.0, u.1, sym u.2 ∙ w.2 ∙ sym (name_of x.name v.0.name x.entry v.0.entry v.2));
      owned = λ k e at.
          let u = paired actor actor now entries k e told at in
          let w = booked.owned k u.0 u.1 in
          let x = w.1 in
          let v = paired held_by held_by actors stood (crew + w.0) x (sym held) w.2 in
          (w.0, v.0, v.1, sym (name_of x.name v.0.name x.entry v.0.entry v.2) ∙ w.3 ∙ sym u.2, sym (entry_of x.name v.0.name x.entry v.0.entry v.2) ∙ w.4);
    }

-- an entry of an actor that has a place is the one that is its own
pub its_entry : (places : List ℕ → Option ℕ) (crew : ℕ) (entries : List Entry) (actors : List Held) (events : List Kept) (i k : ℕ) (x : Held) (e : Entry)
    → ArePlaced places actors → AreBooked crew entries actors events → slice_get actors i ≡ Some x → slice_get entries k ≡ Some e → e.actor ≡ x.name → x.entry ≡ Some k
its_entry places crew entries actors events i k x e placed booked is at mine =
    let w = booked.owned k e at in
    let z = w.1 in
    let both : ◌≡◌ {A = Option ℕ} (Some (crew + w.0)) (Some i) = sym (placed (crew + w.0) z w.2) ∙ ap places (w.3 ∙ mine) ∙ placed i x is in
    let same : crew + w.0 ≡ i = cc in
    let one : ◌≡◌ {A = Option Held} (Some z) (Some x) = sym w.2 ∙ ap (slice_get actors) same ∙ is in
    let is_it : z ≡ x = cc in
    ap (λ (x : Held). x.entry) (sym is_it) ∙ w.4

-- the newest of some events
pub newest_is : (events before : List Kept) (k r : Kept) → events ≡ before ++ k ∷ [] → r ≡ get_or events (length events - 1) r → r ≡ k
newest_is events before k r is read =
    let last = some_at (λ (z : Kept). z ≡ k) (slice_get (before ++ k ∷ []) (length before)) (some_last (λ (z : Kept). z ≡ k) before k refl) in
    let many = length-append before (k ∷ []) in
    let at : length (before ++ k ∷ []) - 1 ≡ length before = omega (arith, many) in
    read ∙ ap (λ (l : List Kept). get_or l (length l - 1) r) is ∙ ap (λ (n : ℕ). get_or (before ++ k ∷ []) n r) at
    ∙ get_or_from_slice_get (before ++ k ∷ []) (length before) last.0 r last.1 ∙ last.2

-- there is an entry at each place that is an actor's
pub entry_within : (crew : ℕ) (entries : List Entry) (actors : List Held) (events : List Kept) (i k : ℕ) (x : Held) → AreBooked crew entries actors events → slice_get actors i ≡ Some x → x.entry ≡ Some k → k < length entries
entry_within crew entries actors events i k x booked is entry = let e = booked.here i k x is entry in slice_get_within entries k e.0 e.1

-- what the books took into account is one event more, of that actor
noted_is : (places : List ℕ → Option ℕ) (crew : ℕ) (actors : List Held) (events : List Kept) (i : ℕ) (x : Held) (entries now : List Entry) (k : Kept)
    → ArePlaced places actors → AreBooked crew entries actors events → slice_get actors i ≡ Some x → IsOwnOf x.name k → (x.entry ≡ None → now ≡ entries)
    → ((m : ℕ) (e : Entry) → x.entry ≡ Some m → slice_get entries m ≡ Some e → now ≡ set entries m (noted k e)) → (o : Option ℕ) → x.entry ≡ o → now ≡ map (noted k) entries
noted_is places crew actors events i x entries now k placed booked is mine none own None entry =
    none entry ∙ sym (map_still (noted k) entries (λ j e at. noted_other k x.name e mine (λ same.
    let both : ◌≡◌ {A = Option ℕ} None (Some j) = sym entry ∙ its_entry places crew entries actors events i j x e placed booked is at same in cc)))
noted_is places crew actors events i x entries now k placed booked is mine none own (Some m) entry =
    let e = booked.here i m x is entry in
    own m e.0 entry e.1 ∙ set_is_map (noted k) entries m e.0 e.1 (λ j f apart at. noted_other k x.name f mine (λ same.
    let both : ◌≡◌ {A = Option ℕ} (Some m) (Some j) = sym entry ∙ its_entry places crew entries actors events i j x f placed booked is at same in
    let one : m ≡ j = cc in apart (sym one)))

-- the books took the newest event into account, which is that actor's
pub one_booked : (places : List ℕ → Option ℕ) (crew : ℕ) (actors : List Held) (events later : List Kept) (i : ℕ) (x y : Held) (entries now : List Entry) (k r : Kept)
    → ArePlaced places actors → AreBooked crew entries actors events → slice_get actors i ≡ Some x → y.name ≡ x.name → y.entry ≡ x.entry → IsOwnOf x.name k → later ≡ events ++ k ∷ []
    → r ≡ get_or later (length later - 1) r → (x.entry ≡ None → now ≡ entries)
    → ((m : ℕ) (e : Entry) → x.entry ≡ Some m → slice_get entries m ≡ Some e → now ≡ set entries m (noted r e)) → AreBooked crew now (set actors i y) later
one_booked places crew actors events later i x y entries now k r placed booked is name entry mine event read none own =
    let newest : r ≡ k = newest_is later events k r event read in
    let now_is : now ≡ map (noted k) entries = noted_is places crew actors events i x entries now k placed booked is mine none
    (λ m e at there. own m e at there ∙ ap (λ (k : Kept). set entries m (noted k e)) newest) x.entry refl in
    booked_alike crew entries now actors (set actors i y) events later booked
    (now_is ∙ books_more entries events k (own_plain k x.name mine) booked.are (begins_none k x.name mine) ∙ ap (λ (l : List Kept). books_of (with_inputs (reverse l))) (sym event))
    (ap (map (λ (e : Entry). e.actor)) now_is ∙ map_after (noted k) (λ (e : Entry). e.actor) entries (noted_actor k))
    (map_set_same held_by actors i x y is (same_held x y name entry))

-- an event that leaves each entry as it was
still_booked : (crew : ℕ) (actors : List Held) (events : List Kept) (entries : List Entry) (k : Kept) → IsPlain k → entered_by k ≡ [] → ((e : Entry) → noted k e ≡ e)
    → AreBooked crew entries actors events → AreBooked crew entries actors (events ++ k ∷ [])
still_booked crew actors events entries k plain enters still booked =
    booked_alike crew entries entries actors actors events (events ++ k ∷ []) booked (sym (map_still (noted k) entries (λ i e at. still e)) ∙ books_more entries events k plain booked.are enters) refl refl

-- what passes between programs changes no entry
noted_if : (t : Bool) (e f : Entry) → f ≡ e → (if t then f else e) ≡ e
noted_if true e f h = h
noted_if false e f h = refl

acted_none : (due : NeedData) (came : GotData) (e : Entry) → IsPass due → acted_on due came e ≡ e
acted_none (needs.Take port) came e pass = refl
acted_none (needs.Give port bytes) came e pass = refl
acted_none (needs.Start asked) came e pass = refl
acted_none (needs.Command bytes) came e pass = refl
acted_none (needs.File call) came e pass = absurd pass
acted_none needs.Wait came e pass = absurd pass
acted_none (needs.Ended status) came e pass = absurd pass

noted_pass : (a : List ℕ) (own : Own) (e : Entry) → IsPass own.due → noted (kept.Act a own) e ≡ e
noted_pass a own e pass = noted_if (bytes_eq a e.actor) e (acted_on own.due own.came e) (acted_none own.due own.came e pass)

pub pass_booked : (crew : ℕ) (actors : List Held) (events : List Kept) (entries : List Entry) (a : List ℕ) (own : Own) → IsPass own.due → AreBooked crew entries actors events
    → AreBooked crew entries actors (events ++ kept.Act a own ∷ [])
pass_booked crew actors events entries a own pass booked = still_booked crew actors events entries (kept.Act a own) tt refl (λ e. noted_pass a own e pass) booked

-- an actor's machine looked
pub look_booked : (crew : ℕ) (actors : List Held) (events : List Kept) (i : ℕ) (x y : Held) (entries : List Entry)
    → AreBooked crew entries actors events → slice_get actors i ≡ Some x → y.name ≡ x.name → y.entry ≡ x.entry → AreBooked crew entries (set actors i y) events
look_booked crew actors events i x y entries booked is name entry =
    booked_alike crew entries entries actors (set actors i y) events events booked booked.are refl (map_set_same held_by actors i x y is (same_held x y name entry))

-- a generation started: the mails are after its members
module _ (crew : ℕ) (actors four : List Held) (events : List Kept) (entries : List Entry) (new : AreFour four) (booked : AreBooked crew entries actors events) where
  abbrev mails : List Held
  mails = drop crew actors

  after_four : (j : ℕ) → slice_get (four ++ mails) (4 + j) ≡ slice_get actors (crew + j)
  after_four j =
      let e : 4 + j ≡ suc (suc (suc (suc j))) = omega arith in
      ap (λ (l : List Held). slice_get (l ++ mails) (4 + j)) new.are ∙ ap (slice_get (new.sender ∷ new.clean ∷ new.lspawn ∷ new.rspawn ∷ mails)) e ∙ get_drop crew actors j

  no_entry : {T : Type 0} (x z : Held) (k : ℕ) → ◌≡◌ {A = Option Held} (Some z) (Some x) → z.entry ≡ None → x.entry ≡ Some k → T
  no_entry x z k same none some =
      let is : z ≡ x = cc in
      let both : ◌≡◌ {A = Option ℕ} None (Some k) = sym none ∙ ap (λ (x : Held). x.entry) is ∙ some in absurd (cc)

  in_four : (i k : ℕ) (x : Held) → slice_get (new.sender ∷ new.clean ∷ new.lspawn ∷ new.rspawn ∷ mails) i ≡ Some x → x.entry ≡ Some k → (e : Entry) × (slice_get entries k ≡ Some e) × (e.actor ≡ x.name)
  in_four zero k x is entry = no_entry x new.sender k is new.sender_is.entry entry
  in_four (suc zero) k x is entry = no_entry x new.clean k is new.clean_is.entry entry
  in_four (suc (suc zero)) k x is entry = no_entry x new.lspawn k is new.lspawn_is.entry entry
  in_four (suc (suc (suc zero))) k x is entry = no_entry x new.rspawn k is new.rspawn_is.entry entry
  in_four (suc (suc (suc (suc j)))) k x is entry = booked.here (crew + j) k x (sym (get_drop crew actors j) ∙ is) entry

  pub begun_booked : (p : ℕ) → AreBooked 4 entries (four ++ mails) (events ++ kept.Generation p ∷ [])
  begun_booked p = record {
    are = (still_booked crew actors events entries (kept.Generation p) tt refl (λ e. refl) booked).are;
    here = λ i k x is entry. in_four i k x (ap (λ (l : List Held). slice_get (l ++ mails) i) (sym new.are) ∙ is) entry;
    owned = λ k e at. let w = booked.owned k e at in (w.0, w.1, after_four w.0 ∙ w.2, w.3, w.4);
  }

-- the report of a remote program came
pub report_booked : (crew : ℕ) (actors : List Held) (events : List Kept) (slot letter : ℕ) (text : List ℕ) (entries : List Entry)
    → AreBooked crew entries actors events → AreBooked crew entries actors (events ++ kept.Report slot letter text ∷ [])
report_booked crew actors events slot letter text entries booked = still_booked crew actors events entries (kept.Report slot letter text) tt refl (λ e. refl) booked

-- a moment came
pub moment_booked : (crew : ℕ) (actors : List Held) (events : List Kept) (m : ℕ) (entries : List Entry)
    → AreBooked crew entries actors events → AreBooked crew entries actors (events ++ kept.Moment m ∷ [])
moment_booked crew actors events m entries booked = still_booked crew actors events entries (kept.Moment m) tt refl (λ e. refl) booked

-- the machine stopped
pub halt_booked : (crew at : ℕ) (actors stood : List Held) (events : List Kept) (how : Survival) (entries : List Entry)
    → AreBooked crew entries actors events → AreCutOff at actors stood
    → AreBooked crew (map (λ e. left_as (cut_off e.life) e) entries) stood (events ++ kept.Halt how ∷ [])
halt_booked crew at actors stood events how entries booked cut =
    booked_alike crew entries (map (λ e. left_as (cut_off e.life) e) entries) actors stood events (events ++ kept.Halt how ∷ []) booked (books_more entries events (kept.Halt how) tt booked.are refl)
    (map_after (λ (e : Entry). left_as (cut_off e.life) e) (λ (e : Entry). e.actor) entries (λ e. refl))
    (map_alike held_by actors stood cut.many (λ i x y here there. let w = cut.each i x y here there in same_held x y w.name w.entry))

-- a mail started, with an event that leaves each entry as it was
born_booked : (crew : ℕ) (actors : List Held) (events : List Kept) (y : Held) (a : List ℕ) (args : Arguments) (entries : List Entry) (k : Kept)
    → IsPlain k → entered_by k ≡ new_entry a args ∷ [] → ((e : Entry) → noted k e ≡ e) → crew ≤ length actors → AreBooked crew entries actors events → y.name ≡ a → y.entry ≡ Some (length entries)
    → AreBooked crew (entries ++ new_entry a args ∷ []) (actors ++ y ∷ []) (events ++ k ∷ [])
born_booked crew actors events y a args entries k plain enters still within booked name entry =
    let whole : crew + (length actors - crew) ≡ length actors = omega (arith, within) in
    record {
      are = ap (λ (l : List Entry). l ++ new_entry a args ∷ []) (sym (map_still (noted k) entries (λ i e h. still e)) ∙ ap (map (noted k)) booked.are)
          ∙ ap (λ (l : List Entry). map (noted k) (books_of (with_inputs (reverse events))) ++ l) (sym enters) ∙ sym (books_push events k plain);
      here = λ i m x is has. ⊎_elim
          (λ f.
          let both : ◌≡◌ {A = Option ℕ} (Some (length entries)) (Some m) = sym entry ∙ ap (λ (x : Held). x.entry) f.1 ∙ has in
          let same : length entries ≡ m = cc in
          (new_entry a args, ap (slice_get (entries ++ new_entry a args ∷ [])) (sym same) ∙ get_last entries (new_entry a args), sym name ∙ ap (λ (x : Held). x.name) f.1))
          (λ f.
          let w = booked.here i m x f has in
          (w.0, get_still entries (new_entry a args) m w.0 w.1, w.2))
          (get_push actors y i x is);
      owned = λ m e at. ⊎_elim
          (λ f. (length actors - crew, y, ap (slice_get (actors ++ y ∷ [])) whole ∙ get_last actors y, name ∙ ap (λ (e : Entry). e.actor) f.1, entry ∙ ap Some (sym f.0)))
          (λ f.
          let w = booked.owned m e f in
          (w.0, w.1, get_still actors y (crew + w.0) w.1 w.2, w.3, w.4))
          (get_push entries (new_entry a args) m e at);
    }

pub start_booked : (crew : ℕ) (actors : List Held) (events : List Kept) (y : Held) (a : List ℕ) (args : Arguments) (entries : List Entry)
    → crew ≤ length actors → AreBooked crew entries actors events → y.name ≡ a → y.entry ≡ Some (length entries)
    → AreBooked crew (entries ++ new_entry a args ∷ []) (actors ++ y ∷ []) (events ++ kept.Start a (Injector args) ∷ [])
start_booked crew actors events y a args entries within booked name entry =
    born_booked crew actors events y a args entries (kept.Start a (Injector args)) tt refl (λ e. refl) within booked name entry

-- a child started
pub child_booked : (crew : ℕ) (actors : List Held) (events : List Kept) (y : Held) (parent : List ℕ) (own : Own) (c : List ℕ) (args : Arguments) (entries : List Entry)
    → crew ≤ length actors → AreBooked crew entries actors events → y.name ≡ c → y.entry ≡ Some (length entries)
    → AreBooked crew (entries ++ new_entry c args ∷ []) (actors ++ y ∷ []) (events ++ kept.Child parent own c (Injector args) ∷ [])
child_booked crew actors events y parent own c args entries within booked name entry =
    born_booked crew actors events y c args entries (kept.Child parent own c (Injector args)) tt refl (λ e. refl) within booked name entry

-- one started that is no injector
pub unentered_booked : (crew : ℕ) (actors : List Held) (events : List Kept) (y : Held) (parent : List ℕ) (own : Own) (c : List ℕ) (program : Program) (entries : List Entry)
    → injection_of program ≡ None → AreBooked crew entries actors events → y.entry ≡ entry_after (length entries) program
    → AreBooked crew (entries ++ entry_by c (injection_of program)) (actors ++ y ∷ []) (events ++ kept.Child parent own c program ∷ [])
unentered_booked crew actors events y parent own c (Injector args) entries none booked entry = absurd (cc)
unentered_booked crew actors events y parent own c program entries none booked entry =
    let k = kept.Child parent own c program in
    let still = still_booked crew actors events entries k tt (ap (entry_by c) none) (λ e. refl) booked in
    subst (λ (l : List Entry). AreBooked crew (entries ++ l) (actors ++ y ∷ []) (events ++ k ∷ [])) (sym (ap (entry_by c) none))
    (subst (λ (l : List Entry). AreBooked crew l (actors ++ y ∷ []) (events ++ k ∷ [])) (sym (append-nil entries)) (record {
      are = still.are;
      here = λ i m x is has. ⊎_elim
          (λ (f : (i ≡ length actors) × (y ≡ x)). let both : ◌≡◌ {A = Option ℕ} None (Some m) = sym entry ∙ ap (λ (x : Held). x.entry) f.1 ∙ has in absurd (cc))
          (λ f. still.here i m x f has)
          (get_push actors y i x is);
      owned = λ m e at. let it = still.owned m e at in (it.0, it.1, get_still actors y (crew + it.0) it.1 it.2, it.3, it.4);
    }))

-- A child was given its input

some_mapped : {X : Type 0} (f : X → X) (xs ys : List X) (n : ℕ) (x : X) → slice_get xs n ≡ Some x → slice_get (map f xs ++ ys) n ≡ Some (f x)
some_mapped f [] ys n x is = absurd cc
some_mapped f (z ∷ zs) ys zero x is = ap (option_map f) is
some_mapped f (z ∷ zs) ys (suc n) x is = some_mapped f zs ys n x is

set_mapped : {X : Type 0} (f : X → X) (xs ys : List X) (n : ℕ) (x y z : X) → slice_get xs n ≡ Some x → f y ≡ z → map f (set xs n y) ++ ys ≡ set (map f xs ++ ys) n z
set_mapped f [] ys n x y z is same = absurd cc
set_mapped f (w ∷ ws) ys zero x y z is same = ap (λ v. v ∷ map f ws ++ ys) same
set_mapped f (w ∷ ws) ys (suc n) x y z is same = ap (λ vs. f w ∷ vs) (set_mapped f ws ys n x y z is same)

set_last : {X : Type 0} (xs : List X) (x y : X) → xs ++ y ∷ [] ≡ set (xs ++ x ∷ []) (length xs) y
set_last [] x y = refl
set_last (z ∷ zs) x y = ap (λ vs. z ∷ vs) (set_last zs x y)

fed_if : (t : Bool) (args : Arguments) (e f : Entry) → (if t then fed_entry args f else fed_entry args e) ≡ fed_entry args (if t then f else e)
fed_if true args e f = refl
fed_if false args e f = refl

noted_fed : (k : Kept) (args : Arguments) (e : Entry) → noted k (fed_entry args e) ≡ fed_entry args (noted k e)
noted_fed (kept.Start a program) args e = refl
noted_fed (kept.Act a own) args e = fed_if (bytes_eq a e.actor) args e (acted_on own.due own.came e)
noted_fed (kept.Child a own c program) args e = refl
noted_fed (kept.Feed a own c message envelope) args e = refl
noted_fed (kept.End a read ready status) args e = fed_if (bytes_eq a e.actor) args e (left_as (told.Ended status) e)
noted_fed (kept.Stop a) args e = fed_if (bytes_eq a e.actor) args e (left_as told.Stopped e)
noted_fed (kept.Generation start) args e = refl
noted_fed (kept.Report slot letter text) args e = refl
noted_fed (kept.Moment m) args e = refl
noted_fed (kept.Halt how) args e = refl

-- the books with that input differ in the entry of the child
record AreFed (old new : List Entry) (n : ℕ) (c : List ℕ) (args : Arguments) : Type 0 where
  entry : Entry
  here : slice_get old n ≡ Some entry
  named : entry.actor ≡ c
  are : new ≡ set old n (fed_entry args entry)

books_fed : (parent : List ℕ) (own : Own) (c : List ℕ) (args other : Arguments) (later before : List Kept) → args.pid ≡ other.pid
    → AreFed (books_of (later ++ kept.Child parent own c (Injector args) ∷ before)) (books_of (later ++ kept.Child parent own c (Injector other) ∷ before))
    (length (books_of before)) c other
books_fed parent own c args other [] before pid =
    let old = map (noted (kept.Child parent own c (Injector args))) (books_of before) in
    let many : length old ≡ length (books_of before) = length-map (books_of before) (noted (kept.Child parent own c (Injector args))) in
    let last = some_at (λ (z : Entry). z ≡ new_entry c args) (slice_get (old ++ new_entry c args ∷ []) (length old)) (some_last (λ (z : Entry). z ≡ new_entry c args) old (new_entry c args) refl) in
    record {
      entry = new_entry c args;
      here = ap (slice_get (old ++ new_entry c args ∷ [])) (sym many) ∙ last.1 ∙ ap Some last.2;
      named = refl;
      are = ap (λ (pid : ℕ). old ++ (record (new_entry c other) { pid = pid }) ∷ []) (sym pid) ∙ set_last old (new_entry c args) (fed_entry other (new_entry c args))
          ∙ ap (λ (n : ℕ). set (old ++ new_entry c args ∷ []) n (fed_entry other (new_entry c args))) many;
    }
books_fed parent own c args other (k ∷ later) before pid =
    let rest = books_fed parent own c args other later before pid in
    let old = books_of (later ++ kept.Child parent own c (Injector args) ∷ before) in
    record {
      entry = noted k rest.entry;
      here = some_mapped (noted k) old (entered_by k) (length (books_of before)) rest.entry rest.here;
      named = noted_actor k rest.entry ∙ rest.named;
      are = ap (λ (l : List Entry). map (noted k) l ++ entered_by k) rest.are
          ∙ set_mapped (noted k) old (entered_by k) (length (books_of before)) rest.entry (fed_entry other rest.entry) (fed_entry other (noted k rest.entry)) rest.here (noted_fed k other rest.entry);
    }

-- what an injector is started with, with these texts
abbrev given_texts : List ℕ → List ℕ → Arguments → Arguments
given_texts message envelope args = record args { message = message; message_end = Whole; envelope = envelope; envelope_end = Whole }

fed_books : (message envelope : List ℕ) (parent : List ℕ) (own : Own) (c : List ℕ) (program : Program) (later before : List Kept) → IsMail program
    → (args : Arguments) × (args.envelope ≡ envelope)
    × AreFed (books_of (later ++ kept.Child parent own c program ∷ before)) (books_of (later ++ kept.Child parent own c (with_texts message envelope program) ∷ before)) (length (books_of before)) c args
fed_books message envelope parent own c (Injector args) later before mail =
    (given_texts message envelope args, refl, books_fed parent own c args (given_texts message envelope args) later before refl)
fed_books message envelope parent own c other later before mail = absurd mail

-- the books of the events with that input are those of the events with the giving
fed_more : (entries : List Entry) (events : List Kept) (a : List ℕ) (own : Own) (c message envelope : List ℕ) → IsPass own.due
    → entries ≡ books_of (start_with c message envelope (with_inputs (reverse events))) → entries ≡ books_of (with_inputs (reverse (events ++ kept.Feed a own c message envelope ∷ [])))
fed_more entries events a own c message envelope pass are =
    sym (map_still (noted (kept.Act a own)) entries (λ j e h. noted_pass a own e pass)) ∙ ap (map (noted (kept.Act a own))) are
    ∙ sym (append-nil (map (noted (kept.Act a own)) (books_of (start_with c message envelope (with_inputs (reverse events))))))
    ∙ ap books_of (sym (inputs_fed events a own c message envelope))

-- what a child, which has just started, has: an entry, of which this becomes
module _ (places : List ℕ → Option ℕ) (crew : ℕ) (actors : List Held) (events : List Kept) (i : ℕ) (x : Held) (entries : List Entry) (a c message envelope : List ℕ) (just : HasJustStarted events a c)
    (placed : ArePlaced places actors) (booked : AreBooked crew entries actors events) (is : slice_get actors i ≡ Some x) (name : x.name ≡ c) (mail : IsMail just.program) where
  abbrev old : List Kept
  old = just.later ++ kept.Child a just.own c just.program ∷ just.before

  abbrev filled : List Kept
  filled = just.later ++ kept.Child a just.own c (with_texts message envelope just.program) ∷ just.before

  abbrev number : ℕ
  number = length (books_of just.before)

  fed : (args : Arguments) × (args.envelope ≡ envelope) × AreFed (books_of old) (books_of filled) number c args
  fed = fed_books message envelope a just.own c just.program just.later just.before mail

  are_old : entries ≡ books_of old
  are_old = subst (λ (l : List Kept). entries ≡ books_of l) just.are booked.are

  there : slice_get entries number ≡ Some fed.2.entry
  there = ap (λ (l : List Entry). slice_get l number) are_old ∙ fed.2.here

  pub entry_of_child : x.entry ≡ Some number
  entry_of_child = its_entry places crew entries actors events i number x fed.2.entry placed booked is there (fed.2.named ∙ sym name)

  pub fed_booked : (own : Own) (now : List Entry) (m : ℕ) → IsPass own.due → x.entry ≡ Some m
      → ((e : Entry) (args : Arguments) → slice_get entries m ≡ Some e → args.envelope ≡ envelope → now ≡ set entries m (fed_entry args e))
      → AreBooked crew now actors (events ++ kept.Feed a own c message envelope ∷ [])
  fed_booked own now m pass entry noted_it =
      let args = fed.0 in
      let e = fed.2.entry in
      let both : ◌≡◌ {A = Option ℕ} (Some m) (Some number) = sym entry ∙ entry_of_child in
      let same : m ≡ number = cc in
      let here : slice_get entries m ≡ Some e = ap (slice_get entries) same ∙ there in
      let now_is : now ≡ set entries m (fed_entry args e) = noted_it e args here fed.1 in
      let now_new : now ≡ books_of filled = now_is ∙ ap (λ (n : ℕ). set entries n (fed_entry args e)) same ∙ ap (λ (l : List Entry). set l number (fed_entry args e)) are_old ∙ sym fed.2.are in
      let with_input : start_with c message envelope (with_inputs (reverse events)) ≡ filled =
      subst (λ (l : List Kept). start_with c message envelope l ≡ filled) (sym just.are) (start_in c message envelope a just.own just.program just.later just.before just.apart) in
      booked_alike crew entries now actors actors events (events ++ kept.Feed a own c message envelope ∷ []) booked
      (fed_more now events a own c message envelope pass (subst (λ (l : List Kept). now ≡ books_of l) (sym with_input) now_new))
      (ap (map (λ (e : Entry). e.actor)) now_is ∙ map_set_same (λ (e : Entry). e.actor) entries m e (fed_entry args e) here refl)
      refl

-- no actor yet
pub none_booked : AreBooked 0 [] [] []
none_booked = record { are = refl; here = λ i k x is. absurd (cc); owned = λ k e at. absurd (cc) }
