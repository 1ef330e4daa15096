-- What holds of the slots of a channel, of what its pass has still to give, and of how many records wait for their marks.
use Rattle.std.proofs.Common.{◌≡◌, ◌≢◌, ℕ, zero, suc, ◌+◌, ◌<◌, ◌≤◌, List, [], ◌∷◌, ◌++◌, length, set, drop, min, replicate, cond, Bool, true, false, Option, Some, None, option_map, refl, sym, ap, ◌∙◌, subst, ⊎_elim, arith, length-append, length-drop, length-set, count_by}
use Rattle.std.specs.Prelude.{◌||◌, ◌==◌, if◌then◌else◌, is_some, slice_get}
use Rattle.std.specs.List.{list_any}
use Rattle.std.proofs.lemmas.Bool.{cases_eq, eq-eqb}
use Rattle.std.proofs.lemmas.List.{get_or-set_same, get_or-set_other}
use Rattle.std.proofs.lemmas.List.Sums.{sum_by-set, count_by-le-length}
use Rattle.envelope_records.specs.declared.channel.Record.{Record}
use Rattle.send_jobs.specs.declared.attempts.Attempt.{Attempt}
use Rattle.send_jobs.specs.Lanes.{numbered}
use Rattle.send_jobs.specs.Passes.{attempts_of}
use Rattle.send_jobs.specs.Slots.{attempt_in, is_on}
use Rattle.send_links.specs.Records.{Within, and_then, records_from, records_of}
use Rattle.send_links.specs.Records.Within.{Before, In}
use Rattle.send_core.specs.Past.{Owed}
use Rattle.send_core.proofs.Lists.{free_of}

pub some_is : {A : Type 0} (x y : A) → ◌≡◌ {A = Option A} (Some x) (Some y) → x ≡ y
some_is x y e = cc

-- Places

-- this place of this message isn't among those to be given
abbrev pub Far : ℕ → ℕ → List Attempt → Type 0
Far n place [] = Unit {0}
Far n place (b ∷ left) = (n ≡ b.n → place ≢ b.place) × Far n place left

-- at least this place, and each after the one before
abbrev pub Rises : ℕ → List Attempt → Type 0
Rises k [] = Unit {0}
Rises k (a ∷ left) = (k ≤ a.place) × Rises (a.place + 1) left

rises_from : (j k : ℕ) (left : List Attempt) → j ≤ k → Rises k left → Rises j left
rises_from j k [] le h = tt
rises_from j k (a ∷ left) le h = let low = h.0 in (omega arith, h.1)

far_below : (n place k : ℕ) (left : List Attempt) → place < k → Rises k left → Far n place left
far_below n place k [] lt h = tt
far_below n place k (b ∷ left) lt h = let low = h.0 in (
  (λ same e. let q : place ≡ b.place = e in absurd (omega arith)),
  far_below n place (b.place + 1) left (omega arith) h.1,
)

pub first_far : (n place : ℕ) (left : List Attempt) (x : Attempt) → Far n place left → slice_get left 0 ≡ Some x → n ≡ x.n → place ≢ x.place
first_far n place [] x h e = absurd (cc)
first_far n place (z ∷ left) x h e = subst (λ (w : Attempt). n ≡ w.n → place ≢ w.place) (some_is z x e) h.0

-- The places of records rise

abbrev Placed : ℕ → List Record → Type 0
Placed k [] = Unit {0}
Placed k (r ∷ rs) = (k ≤ r.place) × Placed (r.place + 1) rs

placed_from : (j k : ℕ) (rs : List Record) → j ≤ k → Placed k rs → Placed j rs
placed_from j k [] le h = tt
placed_from j k (r ∷ rs) le h = let low = h.0 in (omega arith, h.1)

abbrev Least : Within → ℕ → ℕ
Least Before at = at
Least (In done place address) at = place

abbrev Begun : Within → ℕ → Type 0
Begun Before at = Unit {0}
Begun (In done place address) at = place < at

begins : (at : ℕ) (rest : Within → Option (List Record)) (rs : List Record) → ((done : Bool) → rest (In done at []) ≡ Some rs → Placed at rs) → (x y : Bool)
    → and_then (if x then Some (In false at []) else (if y then Some (In true at []) else None)) rest ≡ Some rs → Placed at rs
begins at rest rs f true y e = f false e
begins at rest rs f false true e = f true e
begins at rest rs f false false e = absurd (cc)

goes_on : (place at : ℕ) (first : Record) (rs : List Record) (o p : Option (List Record)) → first.place ≡ place → place < at
    → ((ss : List Record) → o ≡ Some ss → Placed (at + 1) ss) → (p ≡ Some rs → Placed place rs)
    → (x : Bool) → (if x then option_map (λ (ss : List Record). first ∷ ss) o else p) ≡ Some rs → Placed place rs
goes_on place at first rs None p same lt f g true e = absurd (cc)
goes_on place at first rs (Some ss) p same lt f g true e = subst (Placed place) (some_is (first ∷ ss) rs e) (omega arith, placed_from (first.place + 1) (at + 1) ss (omega arith) (f ss refl))
goes_on place at first rs None p same lt f g false e = g e
goes_on place at first rs (Some ss) p same lt f g false e = g e

placed : (bytes : List ℕ) (at : ℕ) (w : Within) (rs : List Record) → Begun w at → records_from bytes at w ≡ Some rs → Placed (Least w at) rs
placed [] at Before rs begun e = subst (Placed at) (some_is [] rs e) tt
placed [] at (In done place address) rs begun e = absurd (cc)
placed (b ∷ bs) at Before rs begun e =
    begins at (records_from bs (at + 1)) rs (λ done f. placed bs (at + 1) (In done at []) rs (let lt : at < at + 1 = omega arith in lt) f) (b == 84) (b == 68) e
placed (b ∷ bs) at (In done place address) rs begun e =
    let lt : place < at = begun in
    let more : place < at + 1 = omega arith in
    goes_on place at (record { done = done; place = place; address = address }) rs (records_from bs (at + 1) Before) (records_from bs (at + 1) (In done place (address ++ b ∷ []))) refl lt
    (λ ss f. placed bs (at + 1) Before ss tt f) (λ f. placed bs (at + 1) (In done place (address ++ b ∷ [])) rs more f) (b == 0) e

one_rises : (n k : ℕ) (dying done : Bool) (place : ℕ) (address : List ℕ) (rs : List Record) → k ≤ place → Rises (place + 1) (attempts_of n dying rs)
    → Rises k (attempts_of n dying (record { done = done; place = place; address = address } ∷ rs))
one_rises n k dying true place address rs le h = rises_from k (place + 1) (attempts_of n dying rs) (omega arith) h
one_rises n k dying false place address rs le h = (le, h)

attempts_rise : (n k : ℕ) (dying : Bool) (rs : List Record) → Placed k rs → Rises k (attempts_of n dying rs)
attempts_rise n k dying [] h = tt
attempts_rise n k dying (r ∷ rs) h = one_rises n k dying r.done r.place r.address rs h.0 (attempts_rise n (r.place + 1) dying rs h.1)

-- those of another message are others

one_other : (m at n : ℕ) (dying done : Bool) (place : ℕ) (address : List ℕ) (rs : List Record) → (m ≡ n → ⊥) → Far m at (attempts_of n dying rs)
    → Far m at (attempts_of n dying (record { done = done; place = place; address = address } ∷ rs))
one_other m at n dying true place address rs ne h = h
one_other m at n dying false place address rs ne h = ((λ same e. absurd (ne same)), h)

others_far : (m at n : ℕ) (dying : Bool) (rs : List Record) → (m ≡ n → ⊥) → Far m at (attempts_of n dying rs)
others_far m at n dying [] ne = tt
others_far m at n dying (r ∷ rs) ne = one_other m at n dying r.done r.place r.address rs ne (others_far m at n dying rs ne)

-- Slots

-- an attempt that is found is in flight
seen : (n : ℕ) (slots : List (Option Attempt)) (i : ℕ) (a : Attempt) → attempt_in slots i ≡ Some a → a.n ≡ n → list_any (is_on n) slots ≡ true
seen n [] i a h e = absurd (cc)
seen n (s ∷ slots) zero a h e =
    let here : is_on n s ≡ true = ap (is_on n) h ∙ eq-eqb a.n n e in
    ap (λ t. t || list_any (is_on n) slots) here
seen n (s ∷ slots) (suc i) a h e = true_right (is_on n s) (list_any (is_on n) slots) (seen n slots i a h e)
  where
    true_right : (x y : Bool) → y ≡ true → (x || y) ≡ true
    true_right true y h = refl
    true_right false y h = h

count_freed : (slots : List (Option Attempt)) (slot : ℕ) → slot < length slots → count_by is_some (set slots slot None) + cond (is_some (attempt_in slots slot)) 1 0 ≡ count_by is_some slots
count_freed slots slot lt = let e = sum_by-set (λ s. cond (is_some s) 1 0) slots slot None None lt in omega (arith, e)

stays : (slots : List (Option Attempt)) (slot k : ℕ) (x : Attempt) → slot < length slots → attempt_in (set slots slot None) k ≡ Some x → attempt_in slots k ≡ Some x
stays slots slot k x lt there = ⊎_elim
    (λ here. let none : attempt_in (set slots slot None) k ≡ None = ap (attempt_in (set slots slot None)) here ∙ get_or-set_same slots slot None None lt in absurd (cc (sym none ∙ there)))
    (λ off. sym (get_or-set_other slots slot k None None off) ∙ there)
    (cases_eq k slot)

pub length_free : (count : ℕ) → length (replicate {A = Option Attempt} count None) ≡ count
length_free zero = refl
length_free (suc count) = ap suc (length_free count)

-- What holds: no more slots than the spawner runs deliveries; room for the marks of all that is in flight; and nothing that is in
-- flight is to be given.
pub record Holds (limit : ℕ) (to_mark : List Owed) (slots : List (Option Attempt)) (left : List Attempt) : Type 0 where
  pub limited : length slots ≤ limit
  pub few : length slots ≤ 120
  pub roomy : length to_mark + count_by is_some slots ≤ length slots
  pub far : (slot : ℕ) (x : Attempt) → attempt_in slots slot ≡ Some x → Far x.n x.place left
  pub rises : Rises 0 left

-- all slots are free
pub empty_holds : (limit count : ℕ) → count ≤ limit → Holds limit [] (replicate (min count 120) None) []
empty_holds limit count le = record {
  limited = let e = length_free (min count 120) in omega arith;
  few = let e = length_free (min count 120) in omega arith;
  roomy = let e = count_by-le-length is_some (replicate {A = Option Attempt} (min count 120) None) in omega arith;
  far = λ slot x there. let none = free_of (min count 120) slot in absurd (cc (sym none ∙ there));
  rises = tt;
}

pub other_limit : (limit k : ℕ) (to_mark : List Owed) (slots : List (Option Attempt)) (left : List Attempt) → length slots ≤ k → Holds limit to_mark slots left → Holds k to_mark slots left
other_limit limit k to_mark slots left le h = record { limited = le; few = h.few; roomy = h.roomy; far = h.far; rises = h.rises }

-- the first mark is at work
pub marked_holds : (limit : ℕ) (to_mark : List Owed) (slots : List (Option Attempt)) (left : List Attempt) → Holds limit to_mark slots left → Holds limit (drop 1 to_mark) slots left
marked_holds limit to_mark slots left h = record {
  limited = h.limited;
  few = h.few;
  roomy = let was = h.roomy in let less = length-drop 1 to_mark in omega arith;
  far = h.far;
  rises = h.rises;
}

-- a report was taken
pub freed_holds : (limit slot : ℕ) (to_mark : List Owed) (slots : List (Option Attempt)) (left : List Attempt) → slot < length slots → Holds limit to_mark slots left → Holds limit to_mark (set slots slot None) left
freed_holds limit slot to_mark slots left lt h = record {
  limited = let was = h.limited in let same = length-set slots slot None in omega arith;
  few = let was = h.few in let same = length-set slots slot None in omega arith;
  roomy = let was = h.roomy in let freed = count_freed slots slot lt in let same = length-set slots slot None in omega arith;
  far = λ k x there. h.far k x (stays slots slot k x lt there);
  rises = h.rises;
}

-- and it leads to a mark
pub owed_holds : (limit slot : ℕ) (to_mark : List Owed) (slots : List (Option Attempt)) (left : List Attempt) (x : Attempt) (t : Owed) → slot < length slots → attempt_in slots slot ≡ Some x
    → Holds limit to_mark slots left → Holds limit (to_mark ++ t ∷ []) (set slots slot None) left
owed_holds limit slot to_mark slots left x t lt there h =
    let after : Holds limit to_mark (set slots slot None) left = freed_holds limit slot to_mark slots left lt h in record {
      limited = after.limited;
      few = after.few;
      roomy =
          let was = h.roomy in
          let freed = count_freed slots slot lt in
          let one : ◌≡◌ {A = ℕ} (cond (is_some (attempt_in slots slot)) 1 0) 1 = ap (λ s. cond (is_some s) 1 0) there in
          let same = length-set slots slot None in
          let more = length-append to_mark (t ∷ []) in
          omega (arith, one);
      far = after.far;
      rises = after.rises;
    }

-- for which there is room
pub has_room : (limit slot : ℕ) (to_mark : List Owed) (slots : List (Option Attempt)) (left : List Attempt) (x : Attempt) → slot < length slots → attempt_in slots slot ≡ Some x
    → Holds limit to_mark slots left → length to_mark < 120
has_room limit slot to_mark slots left x lt there h =
    let was = h.roomy in
    let all = h.few in
    let freed = count_freed slots slot lt in
    let one : ◌≡◌ {A = ℕ} (cond (is_some (attempt_in slots slot)) 1 0) 1 = ap (λ s. cond (is_some s) 1 0) there in
    omega (arith, one)

-- the next request was given
pub sent_holds : (limit slot delivery : ℕ) (slots : List (Option Attempt)) (left : List Attempt) (x : Attempt) → slot < length slots → slice_get left 0 ≡ Some x
    → Holds limit [] slots left → Holds limit [] (set slots slot (Some (numbered delivery x))) (drop 1 left)
sent_holds limit slot delivery slots [] x lt first h = absurd (cc)
sent_holds limit slot delivery slots (z ∷ left) x lt first h = record {
  limited = let was = h.limited in let same = length-set slots slot (Some (numbered delivery x)) in omega arith;
  few = let was = h.few in let same = length-set slots slot (Some (numbered delivery x)) in omega arith;
  roomy = let le = count_by-le-length is_some (set slots slot (Some (numbered delivery x))) in omega arith;
  far = λ k y there. ⊎_elim (λ here. new k y here there) (λ off. (h.far k y (sym (get_or-set_other slots slot k (Some (numbered delivery x)) None off) ∙ there)).1) (cases_eq k slot);
  rises = rises_from 0 (z.place + 1) left (omega arith) h.rises.1;
}
  where
    of_first : Far x.n x.place left
    of_first = subst (λ (w : Attempt). Far w.n w.place left) (some_is z x first) (far_below z.n z.place (z.place + 1) left (omega arith) h.rises.1)

    new : (k : ℕ) (y : Attempt) → k ≡ slot → attempt_in (set slots slot (Some (numbered delivery x))) k ≡ Some y → Far y.n y.place left
    new k y here there =
        let at : attempt_in (set slots slot (Some (numbered delivery x))) k ≡ Some (numbered delivery x) =
        ap (attempt_in (set slots slot (Some (numbered delivery x)))) here ∙ get_or-set_same slots slot (Some (numbered delivery x)) None lt in
        subst (λ (w : Attempt). Far w.n w.place left) (some_is (numbered delivery x) y (sym at ∙ there)) of_first

-- a pass has begun
pub begun_holds : (limit n : ℕ) (dying : Bool) (to_mark : List Owed) (slots : List (Option Attempt)) (left : List Attempt) (bytes : List ℕ) (rs : List Record)
    → list_any (is_on n) slots ≡ false → records_of bytes ≡ Some rs → Holds limit to_mark slots left → Holds limit to_mark slots (attempts_of n dying rs)
begun_holds limit n dying to_mark slots left bytes rs free read h = record {
  limited = h.limited;
  few = h.few;
  roomy = h.roomy;
  far = λ k x there. others_far x.n x.place n dying rs (λ same. let is_so = seen n slots k x there same in absurd (cc (sym free ∙ is_so)));
  rises = attempts_rise n 0 dying rs (placed bytes 0 Before rs tt read);
}
