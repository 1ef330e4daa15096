-- What holds after each run of calls: by induction on the run, over a channel, what the last pass over each message had to give,
-- and the places that were reported since.
use Rattle.std.proofs.Common.{◌≡◌, ◌≢◌, ◌⊎◌, ℕ, zero, suc, ◌+◌, ◌<◌, ◌≤◌, List, [], ◌∷◌, ◌++◌, length, get_or, set, drop, replicate, Bool, true, false, not, cond, eqb, Option, Some, None, refl, sym, ap, ◌∙◌, subst, inl, inr, ⊎_elim, arith, length-append}
use Rattle.std.specs.Prelude.{◌||◌, ◌==◌, if◌then◌else◌, All, Contains, slice_get}
use Rattle.std.specs.List.{list_any, flat_map}
use Rattle.std.proofs.lemmas.Bool.{cases_lt, cases_eq, cases_Bool, cond-true, cond-false, eq-eqb, ne_eqb, eqb-true, and_parts, and_from, not-true, not_from_false, false_from_ne_true}
use Rattle.std.proofs.lemmas.List.{get_or_past, get_or-set_same, get_or-set_other, get_or-replicate}
use Rattle.std.proofs.lemmas.List.Elements.{All-contains, All-contains_itself, Contains-append_right}
use Rattle.envelope_records.specs.declared.channel.Record.{Record}
use Rattle.envelope_records.specs.Records.{AreRecords, text_of}
use Rattle.send_jobs.specs.declared.attempts.Attempt.{Attempt}
use Rattle.send_jobs.specs.declared.lane.Lane.{Lane}
use Rattle.send_jobs.specs.Lanes.{empty, next, numbered, sent_in, is_open_on, is_in_flight, finished}
use Rattle.send_jobs.specs.Passes.{attempt_at, attempts_of}
use Rattle.send_jobs.specs.Runs.{Act, after, IsRun, IsSoundRun, pass_of, with_place, reported_of}
use Rattle.send_jobs.specs.Runs.Act.{Begin, Send, Report, AddMark, SettleMark, LeaveUnmarked, EndJob}
use Rattle.send_jobs.specs.Slots.{attempt_in, is_on, lowest, IsLeastFree}
use Rattle.send_jobs.proofs.SlotLemmas.{lowest_is_least, set_free}

-- Membership

at_head : {A : Type 0} (x : A) (xs : List A) → Contains (x ∷ xs) x
at_head x xs = (0, omega arith, refl)

in_tail : {A : Type 0} (y x : A) (xs : List A) → Contains xs x → Contains (y ∷ xs) x
in_tail y x xs h = Contains-append_right (y ∷ []) xs x h

head_or_tail : {A : Type 0} (y x : A) (xs : List A) → Contains (y ∷ xs) x → (y ≡ x) ⊎ Contains xs x
head_or_tail y x xs (zero, lt, e) = inl e
head_or_tail y x xs (suc k, lt, e) = inr (k, omega arith, e)

not_in_none : {A : Type 0} (x : A) → Contains [] x → ⊥
not_in_none x (k, lt, e) = absurd (omega arith)

-- What is in slots

set_at : (slots : List (Option Attempt)) (d i : ℕ) (x : Option Attempt) → d < length slots → i ≡ d → attempt_in (set slots d x) i ≡ x
set_at slots d i x lt e = ap (attempt_in (set slots d x)) e ∙ get_or-set_same slots d x None lt

set_apart : (slots : List (Option Attempt)) (d i : ℕ) (x : Option Attempt) → (i ≡ d → ⊥) → attempt_in (set slots d x) i ≡ attempt_in slots i
set_apart slots d i x apart = get_or-set_other slots d i x None apart

free_of : (count i : ℕ) → attempt_in (replicate count None) i ≡ None
free_of count i = ⊎_elim (λ lt. get_or-replicate count i None None lt) (λ ge. get_or_past (replicate count None) i None (omega (arith, length_of count))) (cases_lt i count)
  where
    length_of : (count : ℕ) → length (replicate {A = Option Attempt} count None) ≡ count
    length_of zero = refl
    length_of (suc count) = ap suc (length_of count)

same_some : (a b : Attempt) → ◌≡◌ {A = Option Attempt} (Some a) (Some b) → a ≡ b
same_some a b e = cc

-- an attempt that is found is in flight
seen : (n : ℕ) (slots : List (Option Attempt)) (i : ℕ) (a : Attempt) → attempt_in slots i ≡ Some a → a.n ≡ n → list_any (is_on n) slots ≡ true
seen n [] i a h e = absurd (cc)
seen n (s ∷ slots) zero a h e =
    let here : is_on n s ≡ true = ap (is_on n) h ∙ eq-eqb a.n n e in
    ap (λ t. t || list_any (is_on n) slots) here
seen n (s ∷ slots) (suc i) a h e = true_right (is_on n s) (list_any (is_on n) slots) (seen n slots i a h e)
  where
    true_right : (x y : Bool) → y ≡ true → (x || y) ≡ true
    true_right true y h = refl
    true_right false y h = h

-- and the other way
pub record InFlight (n : ℕ) (slots : List (Option Attempt)) : Type 0 where
  pub slot : ℕ
  pub attempt : Attempt
  pub there : attempt_in slots slot ≡ Some attempt
  pub mine : attempt.n ≡ n

abbrev later : (n : ℕ) (s : Option Attempt) (slots : List (Option Attempt)) → InFlight n slots → InFlight n (s ∷ slots)
later n s slots w = record { slot = suc w.slot; attempt = w.attempt; there = w.there; mine = w.mine }

abbrev found : (n : ℕ) (slots : List (Option Attempt)) → list_any (is_on n) slots ≡ true → InFlight n slots
found n [] h = absurd (cc)
found n (None ∷ slots) h = later n None slots (found n slots h)
found n (Some a ∷ slots) h = ⊎_elim
    (λ is_so. record { slot = 0; attempt = a; there = refl; mine = eqb-true a.n n is_so })
    (λ no. later n (Some a) slots (found n slots (sym (ap (λ t. t || list_any (is_on n) slots) no) ∙ h)))
    (cases_Bool (eqb a.n n))

-- Places of a pass

-- at least this place, and each after the one before
abbrev Rises : ℕ → List Attempt → Type 0
Rises k [] = Unit {0}
Rises k (a ∷ rest) = (k ≤ a.place) × Rises (a.place + 1) rest

rises_from : (j k : ℕ) (left : List Attempt) → j ≤ k → Rises k left → Rises j left
rises_from j k [] le h = tt
rises_from j k (a ∷ rest) le h = let low = h.0 in (omega arith, h.1)

rises_above : (k : ℕ) (left : List Attempt) (b : Attempt) → Rises k left → Contains left b → k ≤ b.place
rises_above k [] b h w = absurd (not_in_none b w)
rises_above k (a ∷ rest) b h w = ⊎_elim
    (λ same. let low = h.0 in let e = ap (λ (x : Attempt). x.place) same in omega arith)
    (λ more. let low = h.0 in let up = rises_above (a.place + 1) rest b h.1 more in omega arith)
    (head_or_tail a b rest w)

-- the places of records are those of a channel file, from this place on
abbrev Placed : ℕ → List Record → Type 0
Placed k rs = (before rest : List Record) (it : Record) → rs ≡ before ++ it ∷ rest → it.place ≡ k + length (flat_map text_of before)

placed_tail : (k : ℕ) (r : Record) (rs : List Record) → Placed k (r ∷ rs) → Placed (k + length (text_of r)) rs
placed_tail k r rs h before rest it e =
    let w = h (r ∷ before) rest it (ap (λ t. r ∷ t) e) in
    let sum = length-append (text_of r) (flat_map text_of before) in
    omega arith

rises_records : (n : ℕ) (dying : Bool) (k : ℕ) (rs : List Record) → Placed k rs → Rises k (attempts_of n dying rs)
rises_records n dying k [] h = tt
rises_records n dying k (r ∷ rs) h =
    let here = h [] rs r refl in
    let long : 1 ≤ length (text_of r) = omega (arith, length-append r.address (0 ∷ [])) in
    let rest = rises_records n dying (k + length (text_of r)) rs (placed_tail k r rs h) in
    ⊎_elim
    (λ done. subst (Rises k) (sym (ap (λ t. cons_of (cond t None (Some (attempt_at n dying r))) (attempts_of n dying rs)) done)) (rises_from k (k + length (text_of r)) (attempts_of n dying rs) (omega arith) rest))
    (λ to_do. subst (Rises k) (sym (ap (λ t. cons_of (cond t None (Some (attempt_at n dying r))) (attempts_of n dying rs)) to_do)) (omega arith, rises_from (r.place + 1) (k + length (text_of r)) (attempts_of n dying rs) (omega arith) rest))
    (cases_Bool r.done)
  where
    cons_of : Option Attempt → List Attempt → List Attempt
    cons_of None xs = xs
    cons_of (Some x) xs = x ∷ xs

-- each is at this message, and hasn't gone out
abbrev IsFresh : ℕ → Attempt → Type 0
IsFresh n a = (a.n ≡ n) × (numbered 0 a ≡ a)

fresh : (n : ℕ) (dying : Bool) (rs : List Record) (a : Attempt) → Contains (attempts_of n dying rs) a → IsFresh n a
fresh n dying [] a w = absurd (not_in_none a w)
fresh n dying (r ∷ rs) a w = ⊎_elim
    (λ done. fresh n dying rs a (subst (λ xs. Contains xs a) (ap (λ t. cons_of (cond t None (Some (attempt_at n dying r))) (attempts_of n dying rs)) done) w))
    (λ to_do. ⊎_elim
    (λ same. subst (IsFresh n) same (refl, refl))
    (λ more. fresh n dying rs a more)
    (head_or_tail (attempt_at n dying r) a (attempts_of n dying rs) (subst (λ xs. Contains xs a) (ap (λ t. cons_of (cond t None (Some (attempt_at n dying r))) (attempts_of n dying rs)) to_do) w)))
    (cases_Bool r.done)
  where
    cons_of : Option Attempt → List Attempt → List Attempt
    cons_of None xs = xs
    cons_of (Some x) xs = x ∷ xs

-- The invariant

-- a place of this message was reported, is in flight, or is still to be given
abbrev Somewhere : List (Option Attempt) → List Attempt → (ℕ → List ℕ) → ℕ → ℕ → Type 0
Somewhere slots left told n k =
    Contains (told n) k
    ⊎ (((i : ℕ) × (a : Attempt) × (attempt_in slots i ≡ Some a) × (a.n ≡ n) × (a.place ≡ k))
    ⊎ ((b : Attempt) × Contains left b × (b.n ≡ n) × (b.place ≡ k)))

record Holds (slots : List (Option Attempt)) (left : List Attempt) (pass : ℕ → List Attempt) (told : ℕ → List ℕ) : Type 0 where
  apart : (i j : ℕ) (a b : Attempt) → (i ≡ j → ⊥) → attempt_in slots i ≡ Some a → attempt_in slots j ≡ Some b → a.n ≡ b.n → a.place ≢ b.place
  read : (i : ℕ) (a : Attempt) → attempt_in slots i ≡ Some a → Contains (pass a.n) (numbered 0 a)
  own : (b : Attempt) → Contains left b → Contains (pass b.n) b
  fresh : (b : Attempt) → Contains left b → numbered 0 b ≡ b
  one : (b c : Attempt) → Contains left b → Contains left c → b.n ≡ c.n
  rises : Rises 0 left
  out_left : (i : ℕ) (a b : Attempt) → attempt_in slots i ≡ Some a → Contains left b → a.n ≡ b.n → a.place ≢ b.place
  out_told : (i : ℕ) (a : Attempt) → attempt_in slots i ≡ Some a → Contains (told a.n) a.place → ⊥
  left_told : (b : Attempt) → Contains left b → Contains (told b.n) b.place → ⊥
  each : (n : ℕ) (p : Attempt) → Contains (pass n) p → Somewhere slots left told n p.place

-- with nothing out
none_holds : (limit : ℕ) → Holds (empty limit).slots [] (λ n. []) (λ n. [])
none_holds limit = record {
  apart = λ i j a b ne h k same. absurd (nothing i a h);
  read = λ i a h. absurd (nothing i a h);
  own = λ b w. absurd (not_in_none b w);
  fresh = λ b w. absurd (not_in_none b w);
  one = λ b c w v. absurd (not_in_none b w);
  rises = tt;
  out_left = λ i a b h w e. absurd (nothing i a h);
  out_told = λ i a h w. absurd (nothing i a h);
  left_told = λ b w v. absurd (not_in_none b w);
  each = λ n p w. absurd (not_in_none p w);
}
  where
    nothing : (i : ℕ) (a : Attempt) → attempt_in (empty limit).slots i ≡ Some a → ⊥
    nothing i a h = let none = free_of _ i in absurd (cc (sym none ∙ h))

-- A pass begins

none_left : (left : List Attempt) → slice_get left 0 ≡ None → left ≡ []
none_left [] h = refl
none_left (a ∷ rest) h = absurd (cc)

abbrev passed : ℕ → List Attempt → (ℕ → List Attempt) → ℕ → List Attempt
passed m new pass n = if m == n then new else pass n

abbrev told_anew : ℕ → (ℕ → List ℕ) → ℕ → List ℕ
told_anew m told n = if m == n then [] else told n

passed_same : (m n : ℕ) (new : List Attempt) (pass : ℕ → List Attempt) → m ≡ n → passed m new pass n ≡ new
passed_same m n new pass e = cond-true (eqb m n) new (pass n) (eq-eqb m n e)

passed_other : (m n : ℕ) (new : List Attempt) (pass : ℕ → List Attempt) → (m ≡ n → ⊥) → passed m new pass n ≡ pass n
passed_other m n new pass ne = cond-false (eqb m n) new (pass n) (ne_eqb m n ne)

told_same : (m n : ℕ) (told : ℕ → List ℕ) → m ≡ n → told_anew m told n ≡ []
told_same m n told e = cond-true (eqb m n) [] (told n) (eq-eqb m n e)

told_other : (m n : ℕ) (told : ℕ → List ℕ) → (m ≡ n → ⊥) → told_anew m told n ≡ told n
told_other m n told ne = cond-false (eqb m n) [] (told n) (ne_eqb m n ne)

begin_holds : (lane : Lane) (pass : ℕ → List Attempt) (told : ℕ → List ℕ) (m : ℕ) (records : List Record) (begun : ℕ) (dying : Bool) (bytes : List ℕ)
    → Holds lane.slots lane.left pass told → next lane ≡ None → is_in_flight m lane ≡ false → AreRecords bytes records
    → Holds lane.slots (attempts_of m dying records) (passed m (attempts_of m dying records) pass) (told_anew m told)
begin_holds lane pass told m records begun dying bytes h none free are = record {
  apart = h.apart;
  read = λ i a k. subst (λ xs. Contains xs (numbered 0 a)) (sym (passed_other m a.n new pass (other i a k))) (h.read i a k);
  own = λ b w. subst (λ xs. Contains xs b) (sym (passed_same m b.n new pass (sym (fresh m dying records b w).0))) w;
  fresh = λ b w. (fresh m dying records b w).1;
  one = λ b c w v. (fresh m dying records b w).0 ∙ sym (fresh m dying records c v).0;
  rises = rises_records m dying 0 records (λ before rest it e. let w = are.places before rest it e in omega arith);
  out_left = λ i a b k w e. absurd (other i a k (sym (fresh m dying records b w).0 ∙ sym e));
  out_told = λ i a k w. h.out_told i a k (subst (λ xs. Contains xs a.place) (told_other m a.n told (other i a k)) w);
  left_told = λ b w v. not_in_none b.place (subst (λ xs. Contains xs b.place) (told_same m b.n told (sym (fresh m dying records b w).0)) v);
  each = λ n p w. ⊎_elim (λ same. began n p same w) (λ apart. stays n p apart w) (cases_eq m n);
}
  where
    new : List Attempt
    new = attempts_of m dying records

    other : (i : ℕ) (a : Attempt) → attempt_in lane.slots i ≡ Some a → m ≡ a.n → ⊥
    other i a k e = let is_so = seen m lane.slots i a k (sym e) in absurd (cc (sym free ∙ is_so))

    began : (n : ℕ) (p : Attempt) → m ≡ n → Contains (passed m new pass n) p → Somewhere lane.slots new (told_anew m told) n p.place
    began n p same w = let v = subst (λ xs. Contains xs p) (passed_same m n new pass same) w in inr (inr (p, v, (fresh m dying records p v).0 ∙ same, refl))

    stays : (n : ℕ) (p : Attempt) → (m ≡ n → ⊥) → Contains (passed m new pass n) p → Somewhere lane.slots new (told_anew m told) n p.place
    stays n p apart w = ⊎_elim
        (λ was. inl (subst (λ xs. Contains xs p.place) (sym (told_other m n told apart)) was))
        (λ more. ⊎_elim (λ out. inr (inl out)) (λ is. absurd (not_in_none is.0 (subst (λ xs. Contains xs is.0) (none_left lane.left none) is.1))) more)
        (h.each n p (subst (λ xs. Contains xs p) (passed_other m n new pass apart) w))

-- An attempt goes out

first_and_rest : (left : List Attempt) (a : Attempt) → slice_get left 0 ≡ Some a → left ≡ a ∷ drop 1 left
first_and_rest [] a h = absurd (cc)
first_and_rest (b ∷ rest) a h = ap (λ x. x ∷ rest) (same_some b a h)

sent_holds : (lane : Lane) (pass : ℕ → List Attempt) (told : ℕ → List ℕ) (delivery : ℕ) (slot : Option ℕ) (first : Option Attempt)
    → IsLeastFree lane.slots slot → next lane ≡ first → Holds lane.slots lane.left pass told → Holds (sent_in slot first delivery lane).slots (sent_in slot first delivery lane).left pass told
sent_holds lane pass told delivery None first least e h = h
sent_holds lane pass told delivery (Some d) None least e h = h
sent_holds lane pass told delivery (Some d) (Some a) least e h = record {
  apart = λ i j b c ne k l same. ⊎_elim
      (λ here. ⊎_elim (λ there. absurd (ne (here ∙ sym there)))
      (λ away. let is = sent_is i b here k in λ p. h.out_left j c a (kept j c away l) mine (sym same ∙ sym (ap (λ (x : Attempt). x.n) is)) (sym p ∙ sym (ap (λ (x : Attempt). x.place) is))) (cases_eq j d))
      (λ off. ⊎_elim
      (λ there. let is = sent_is j c there l in λ p. h.out_left i b a (kept i b off k) mine (same ∙ sym (ap (λ (x : Attempt). x.n) is)) (p ∙ sym (ap (λ (x : Attempt). x.place) is)))
      (λ away. h.apart i j b c ne (kept i b off k) (kept j c away l) same) (cases_eq j d))
      (cases_eq i d);
  read = λ i b k. ⊎_elim
      (λ here. let is = sent_is i b here k in
      subst (λ (x : Attempt). Contains (pass x.n) (numbered 0 x)) is (subst (λ x. Contains (pass a.n) x) (sym (h.fresh a mine)) (h.own a mine)))
      (λ off. h.read i b (kept i b off k)) (cases_eq i d);
  own = λ b w. h.own b (before b w);
  fresh = λ b w. h.fresh b (before b w);
  one = λ b c w v. h.one b c (before b w) (before c v);
  rises = rises_from 0 (a.place + 1) (drop 1 lane.left) (omega arith) after_first.1;
  out_left = λ i b c k w same. ⊎_elim
      (λ here. let is = sent_is i b here k in let up = rises_above (a.place + 1) (drop 1 lane.left) c after_first.1 w in let place = ap (λ (x : Attempt). x.place) is in
      λ p. let q : b.place ≡ c.place = p in absurd (omega arith))
      (λ off. h.out_left i b c (kept i b off k) (before c w) same) (cases_eq i d);
  out_told = λ i b k w. ⊎_elim
      (λ here. let is = sent_is i b here k in h.left_told a mine (subst (λ (x : Attempt). Contains (told x.n) x.place) (sym is) w))
      (λ off. h.out_told i b (kept i b off k) w) (cases_eq i d);
  left_told = λ b w v. h.left_told b (before b w) v;
  each = λ n p w. ⊎_elim (λ was. inl was) (λ more. ⊎_elim
      (λ out. inr (inl (out.0, out.1, still out.0 out.1 out.2, out.3, out.4)))
      (λ is. ⊎_elim
      (λ same. inr (inl (d, numbered delivery a, set_at lane.slots d d (Some (numbered delivery a)) least.0 refl, ap (λ (x : Attempt). x.n) same ∙ is.2, ap (λ (x : Attempt). x.place) same ∙ is.3)))
      (λ rest. inr (inr (is.0, rest, is.2, is.3)))
      (head_or_tail a is.0 (drop 1 lane.left) (subst (λ xs. Contains xs is.0) split is.1))) more) (h.each n p w);
}
  where
    split : lane.left ≡ a ∷ drop 1 lane.left
    split = first_and_rest lane.left a e

    mine : Contains lane.left a
    mine = subst (λ xs. Contains xs a) (sym split) (at_head a (drop 1 lane.left))

    before : (b : Attempt) → Contains (drop 1 lane.left) b → Contains lane.left b
    before b w = subst (λ xs. Contains xs b) (sym split) (in_tail a b (drop 1 lane.left) w)

    after_first : (0 ≤ a.place) × Rises (a.place + 1) (drop 1 lane.left)
    after_first = subst (Rises 0) split h.rises

    sent_is : (i : ℕ) (b : Attempt) → i ≡ d → attempt_in (set lane.slots d (Some (numbered delivery a))) i ≡ Some b → numbered delivery a ≡ b
    sent_is i b here k = same_some (numbered delivery a) b (sym (set_at lane.slots d i (Some (numbered delivery a)) least.0 here) ∙ k)

    kept : (i : ℕ) (b : Attempt) → (i ≡ d → ⊥) → attempt_in (set lane.slots d (Some (numbered delivery a))) i ≡ Some b → attempt_in lane.slots i ≡ Some b
    kept i b off k = sym (set_apart lane.slots d i (Some (numbered delivery a)) off) ∙ k

    still : (i : ℕ) (b : Attempt) → attempt_in lane.slots i ≡ Some b → attempt_in (set lane.slots d (Some (numbered delivery a))) i ≡ Some b
    still i b k = set_apart lane.slots d i (Some (numbered delivery a)) (λ here. absurd (cc (sym least.1 ∙ ap (attempt_in lane.slots) (sym here) ∙ k))) ∙ k

-- A report comes

told_by : (n : ℕ) (a : Attempt) (places : List ℕ) → a.n ≡ n → with_place n (Some a) places ≡ a.place ∷ places
told_by n a places e = cond-true (eqb a.n n) (a.place ∷ places) places (eq-eqb a.n n e)

told_of_other : (n : ℕ) (a : Attempt) (places : List ℕ) → (a.n ≡ n → ⊥) → with_place n (Some a) places ≡ places
told_of_other n a places ne = cond-false (eqb a.n n) (a.place ∷ places) places (ne_eqb a.n n ne)

-- the place of this attempt, or one that was reported before
told_cases : (n : ℕ) (a : Attempt) (places : List ℕ) (k : ℕ) → Contains (with_place n (Some a) places) k → ((a.n ≡ n) × (a.place ≡ k)) ⊎ Contains places k
told_cases n a places k w = ⊎_elim
    (λ same. ⊎_elim (λ is. inl (same, is)) (λ more. inr more) (head_or_tail a.place k places (subst (λ xs. Contains xs k) (told_by n a places same) w)))
    (λ apart. inr (subst (λ xs. Contains xs k) (told_of_other n a places apart) w))
    (cases_eq a.n n)

told_more : (n : ℕ) (a : Attempt) (places : List ℕ) (k : ℕ) → Contains places k → Contains (with_place n (Some a) places) k
told_more n a places k w = ⊎_elim
    (λ same. subst (λ xs. Contains xs k) (sym (told_by n a places same)) (in_tail a.place k places w))
    (λ apart. subst (λ xs. Contains xs k) (sym (told_of_other n a places apart)) w)
    (cases_eq a.n n)

reported_holds : (lane : Lane) (pass : ℕ → List Attempt) (told : ℕ → List ℕ) (d : ℕ) (was : Option Attempt)
    → attempt_in lane.slots d ≡ was → Holds lane.slots lane.left pass told → Holds (set lane.slots d None) lane.left pass (λ n. with_place n was (told n))
reported_holds lane pass told d None e h = subst (λ slots. Holds slots lane.left pass told) (sym (set_free lane.slots d e)) h
reported_holds lane pass told d (Some a) e h = record {
  apart = λ i j b c ne k l same. h.apart i j b c ne (kept i b k) (kept j c l) same;
  read = λ i b k. h.read i b (kept i b k);
  own = h.own;
  fresh = h.fresh;
  one = h.one;
  rises = h.rises;
  out_left = λ i b c k w same. h.out_left i b c (kept i b k) w same;
  out_told = λ i b k w. ⊎_elim
      (λ is. h.apart d i a b (λ here. off i b k (sym here)) e (kept i b k) is.0 is.1)
      (λ old. h.out_told i b (kept i b k) old)
      (told_cases b.n a (told b.n) b.place w);
  left_told = λ b w v. ⊎_elim (λ is. h.out_left d a b e w is.0 is.1) (λ old. h.left_told b w old) (told_cases b.n a (told b.n) b.place v);
  each = λ n p w. ⊎_elim (λ old. inl (told_more n a (told n) p.place old)) (λ more. ⊎_elim
      (λ out. ⊎_elim
      (λ here.
      let same = same_some a out.1 (sym e ∙ ap (attempt_in lane.slots) (sym here) ∙ out.2) in
      let n_is = ap (λ (x : Attempt). x.n) same ∙ out.3 in
      let place_is = ap (λ (x : Attempt). x.place) same ∙ out.4 in
      inl (subst (λ xs. Contains xs p.place) (sym (told_by n a (told n) n_is)) (subst (λ k. Contains (a.place ∷ told n) k) place_is (at_head a.place (told n)))))
      (λ away. inr (inl (out.0, out.1, set_apart lane.slots d out.0 None away ∙ out.2, out.3, out.4)))
      (cases_eq out.0 d))
      (λ is. inr (inr is)) more) (h.each n p w);
}
  where
    inside : d < length lane.slots
    inside = ⊎_elim (λ lt. lt) (λ ge. absurd (cc (sym (get_or_past lane.slots d None ge) ∙ e))) (cases_lt d (length lane.slots))

    off : (i : ℕ) (b : Attempt) → attempt_in (set lane.slots d None) i ≡ Some b → i ≡ d → ⊥
    off i b k here = absurd (cc (sym (set_at lane.slots d i None inside here) ∙ k))

    kept : (i : ℕ) (b : Attempt) → attempt_in (set lane.slots d None) i ≡ Some b → attempt_in lane.slots i ≡ Some b
    kept i b k = sym (set_apart lane.slots d i None (off i b k)) ∙ k

-- Runs

all_hold : (limit : ℕ) (acts : List Act) → IsRun limit acts → Holds (after limit acts).slots (after limit acts).left (λ n. pass_of n acts) (λ n. reported_of limit n acts)
all_hold limit [] run = none_holds limit
all_hold limit (Begin m records begun dying ∷ before) run =
    let ask = run.1 in
    begin_holds (after limit before) (λ n. pass_of n before) (λ n. reported_of limit n before) m records begun dying ask.2.0 (all_hold limit before run.0) ask.0 ask.1 ask.2.1
all_hold limit (Send delivery ∷ before) run =
    let lane = after limit before in
    sent_holds lane (λ n. pass_of n before) (λ n. reported_of limit n before) delivery (lowest lane.slots) (next lane) (lowest_is_least lane.slots) refl (all_hold limit before run.0)
all_hold limit (Report slot ∷ before) run =
    reported_holds (after limit before) (λ n. pass_of n before) (λ n. reported_of limit n before) slot (attempt_in (after limit before).slots slot) refl (all_hold limit before run.0)
all_hold limit (AddMark mark ∷ before) run = all_hold limit before run.0
all_hold limit (SettleMark ∷ before) run = all_hold limit before run.0
all_hold limit (LeaveUnmarked m ∷ before) run = all_hold limit before run.0
all_hold limit (EndJob m ∷ before) run = all_hold limit before run.0

-- What follows from it

apart_by : (limit : ℕ) (acts : List Act) → IsRun limit acts → (i j : ℕ) (a b : Attempt) → i < j → attempt_in (after limit acts).slots i ≡ Some a → attempt_in (after limit acts).slots j ≡ Some b
    → a.n ≡ b.n → a.place ≢ b.place
apart_by limit acts run i j a b lt k l same = (all_hold limit acts run).apart i j a b (λ e. absurd (omega arith)) k l same

first_in : (left : List Attempt) (a : Attempt) → slice_get left 0 ≡ Some a → Contains left a
first_in left a e = subst (λ xs. Contains xs a) (sym (first_and_rest left a e)) (at_head a (drop 1 left))

first_of : (left : List Attempt) (b : Attempt) → Contains left b → (a : Attempt) × (slice_get left 0 ≡ Some a) × Contains left a
first_of [] b w = absurd (not_in_none b w)
first_of (a ∷ rest) b w = (a, refl, at_head a rest)

-- each place was reported if none is open or in flight
reported_where : (limit : ℕ) (acts : List Act) → IsRun limit acts → (n : ℕ) → finished n (after limit acts) ≡ true
    → (p : Attempt) → Contains (pass_of n acts) p → Contains (reported_of limit n acts) p.place
reported_where limit acts run n over p w =
    let lane = after limit acts in
    let h = all_hold limit acts run in
    let both = and_parts (not (is_open_on n lane)) (not (is_in_flight n lane)) over in
    let closed = not-true (is_open_on n lane) both.0 in
    let none = not-true (is_in_flight n lane) both.1 in
    ⊎_elim (λ told. told) (λ more. ⊎_elim
    (λ out. let is_so = seen n lane.slots out.0 out.1 out.2 out.3 in absurd (cc (sym none ∙ is_so)))
    (λ is.
    let first = first_of lane.left is.0 is.1 in
    let is_so : is_open_on n lane ≡ true = ap (is_on n) first.1 ∙ eq-eqb first.0.n n (h.one first.0 is.0 first.2 is.1 ∙ is.2) in
    absurd (cc (sym closed ∙ is_so)))
    more) (h.each n p w)

not_open : (limit : ℕ) (acts : List Act) → IsRun limit acts → (n : ℕ) → ((p : Attempt) → Contains (pass_of n acts) p → Contains (reported_of limit n acts) p.place)
    → (first : Option Attempt) → next (after limit acts) ≡ first → is_on n first ≡ true → ⊥
not_open limit acts run n all None e is_so = absurd (cc is_so)
not_open limit acts run n all (Some a) e is_so =
    let h = all_hold limit acts run in
    let same : a.n ≡ n = eqb-true a.n n is_so in
    let w = first_in (after limit acts).left a e in
    h.left_told a w (subst (λ k. Contains (reported_of limit k acts) a.place) (sym same) (all a (subst (λ k. Contains (pass_of k acts) a) same (h.own a w))))

not_out : (limit : ℕ) (acts : List Act) → IsRun limit acts → (n : ℕ) → ((p : Attempt) → Contains (pass_of n acts) p → Contains (reported_of limit n acts) p.place)
    → is_in_flight n (after limit acts) ≡ true → ⊥
not_out limit acts run n all is_so =
    let h = all_hold limit acts run in
    let is = found n (after limit acts).slots is_so in
    h.out_told is.slot is.attempt is.there
    (subst (λ k. Contains (reported_of limit k acts) is.attempt.place) (sym is.mine)
    (all (numbered 0 is.attempt) (subst (λ k. Contains (pass_of k acts) (numbered 0 is.attempt)) is.mine (h.read is.slot is.attempt is.there))))

finished_where : (limit : ℕ) (acts : List Act) → IsRun limit acts → (n : ℕ) → ((p : Attempt) → Contains (pass_of n acts) p → Contains (reported_of limit n acts) p.place)
    → finished n (after limit acts) ≡ true
finished_where limit acts run n all =
    let lane = after limit acts in
    and_from (not (is_open_on n lane)) (not (is_in_flight n lane))
    (not_from_false (is_open_on n lane) (false_from_ne_true (is_open_on n lane) (not_open limit acts run n all (next lane) refl)))
    (not_from_false (is_in_flight n lane) (false_from_ne_true (is_in_flight n lane) (not_out limit acts run n all)))

pub sound : (limit : ℕ) (acts : List Act) → IsRun limit acts → IsSoundRun limit acts
sound limit acts run = record {
  apart = apart_by limit acts run;
  read = (all_hold limit acts run).read;
  left = λ a e. (all_hold limit acts run).own a (first_in (after limit acts).left a e);
  over = λ n. (
    λ over. all_by (pass_of n acts) (reported_of limit n acts) (reported_where limit acts run n over),
    λ all. finished_where limit acts run n (λ p w. All-contains (λ a. Contains (reported_of limit n acts) a.place) (pass_of n acts) p all w),
  );
}
  where
    all_by : (xs : List Attempt) (places : List ℕ) → ((p : Attempt) → Contains xs p → Contains places p.place) → All (λ a. Contains places a.place) xs
    all_by xs places f k d lt = f (get_or xs k d) (All-contains_itself xs k d lt)
