-- Entries in order.
use Rattle.std.proofs.Common.{◌≡◌, ◌≢◌, ℕ, zero, suc, ◌+◌, ◌<◌, ◌≤◌, List, [], ◌∷◌, ◌++◌, length, get_or, take, drop, Bool, true, false, not, refl, sym, ap, ◌∙◌, subst, inl, inr, ⊎_elim, arith, eqb, ltb, cond}
use Rattle.std.specs.Prelude.{◌⊎◌, ◌↔◌, ◌&&◌, ◌||◌, Option, Some, None, All, Contains, filter}
use Rattle.std.specs.List.{AllPairs, AllWithin, insert}
use Rattle.std.specs.List.Sorted.{IsPartitionedBy, IsPartitionPoint}
use Rattle.std.specs.Bool.{Decides}
use Rattle.std.proofs.lemmas.Bool.{cases_lt, cond_both}
use Rattle.std.proofs.lemmas.Bool.Decides.{Decides-or, Decides-and, Decides-ltb, Decides-eqb, Decides-not, not_from_Decides, leb_tells}
use Rattle.std.proofs.lemmas.List.{take-append-drop, get_or-take, get_or-drop, get_or_default, length-take, length-drop, append-nil}
use Rattle.std.proofs.lemmas.List.Elements.{All-nil, All-cons, All-head, All-tail, All-append, All-filter, All-weaker, All-contains, All-contains_itself, filter_passes, filter-append, Contains-append_left, Contains-append_right, Contains-append_cases, Contains-get_or}
use Rattle.std.proofs.lemmas.List.Filters.{length-filter_both}
use Rattle.std.proofs.lemmas.List.Kept.{AllPairs-cons, AllPairs-filter}
use Rattle.retry_schedule.specs.Due.{IsBefore, before, IsInOrder, IsSchedule, HasNoEntry, IsFirst, added, first_due, is_due, put, removed}

-- The order of entries.

pub before_decides : (a b : ℕ × ℕ) → Decides (before a b) (IsBefore a b)
before_decides a b =
    Decides-or (ltb a.0 b.0) (eqb a.0 b.0 && ltb a.1 b.1) (Decides-ltb a.0 b.0)
    (Decides-and (eqb a.0 b.0) (ltb a.1 b.1) (Decides-eqb a.0 b.0) (Decides-ltb a.1 b.1))

pub before_trans : (a b c : ℕ × ℕ) → IsBefore a b → IsBefore b c → IsBefore a c
before_trans a b c h k =
    ⊎_elim
    (λ lt. ⊎_elim (λ more. inl (omega arith)) (λ same. inl (omega arith)) k)
    (λ eq. ⊎_elim (λ more. inl (omega arith)) (λ same. inr (omega arith, omega arith)) k)
    h

pub before_one_way : (a b : ℕ × ℕ) → IsBefore a b → IsBefore b a → ⊥
before_one_way a b h k =
    ⊎_elim (λ lt. ⊎_elim (λ more. omega arith) (λ same. omega arith) k) (λ eq. ⊎_elim (λ more. omega arith) (λ same. omega arith) k) h

pub same_entry : (a b : ℕ × ℕ) → a.0 ≡ b.0 → a.1 ≡ b.1 → a ≡ b
same_entry a b p q = ap (λ (x : ℕ). let e : ℕ × ℕ = (x, a.1) in e) p ∙ ap (λ (y : ℕ). let e : ℕ × ℕ = (b.0, y) in e) q

-- two entries are one, or one is before the other
pub which : (a b : ℕ × ℕ) → (a ≡ b) ⊎ (IsBefore a b ⊎ IsBefore b a)
which a b =
    ⊎_elim (λ lt. inr (inl (inl lt)))
    (λ ge. ⊎_elim (λ gt. inr (inr (inl gt)))
    (λ le. ⊎_elim (λ lt. inr (inl (inr (omega arith, lt))))
    (λ ge2. ⊎_elim (λ gt. inr (inr (inr (omega arith, gt)))) (λ le2. inl (same_entry a b (omega arith) (omega arith))) (cases_lt b.1 a.1))
    (cases_lt a.1 b.1))
    (cases_lt b.0 a.0))
    (cases_lt a.0 b.0)

not_before : (a b : ℕ × ℕ) → before a b ≡ false → a.1 ≢ b.1 → IsBefore b a
not_before a b h apart =
    ⊎_elim (λ same. absurd (apart (ap (λ (e : ℕ × ℕ). e.1) same))) (λ w. ⊎_elim (λ is. absurd (not_from_Decides (before a b) (before_decides a b) h is)) (λ other. other) w) (which a b)

-- What filters keep.

pub filter_all : (p : ℕ × ℕ → Bool) (xs : List (ℕ × ℕ)) → All (λ x. p x ≡ true) xs → filter p xs ≡ xs
filter_all p [] h = refl
filter_all p (x ∷ xs) h =
    ap (λ t. cond t (x ∷ filter p xs) (filter p xs)) (All-head (λ x. p x ≡ true) x xs h)
    ∙ ap (λ t. x ∷ t) (filter_all p xs (All-tail (λ x. p x ≡ true) x xs h))

filter_none : (p : ℕ × ℕ → Bool) (xs : List (ℕ × ℕ)) → All (λ x. p x ≡ false) xs → filter p xs ≡ []
filter_none p [] h = refl
filter_none p (x ∷ xs) h =
    ap (λ t. cond t (x ∷ filter p xs) (filter p xs)) (All-head (λ x. p x ≡ false) x xs h)
    ∙ filter_none p xs (All-tail (λ x. p x ≡ false) x xs h)

filter_parts : (p : ℕ × ℕ → Bool) (es : List (ℕ × ℕ)) (i : ℕ) → filter p es ≡ filter p (take i es) ++ filter p (drop i es)
filter_parts p es i = ap (filter p) (sym (take-append-drop i es)) ∙ filter-append p (take i es) (drop i es)

pub filter_first : (p : ℕ × ℕ → Bool) (es : List (ℕ × ℕ)) (i : ℕ) → All (λ x. p x ≡ true) (take i es) → All (λ x. p x ≡ false) (drop i es) → take i es ≡ filter p es
filter_first p es i pass rest =
    sym (filter_parts p es i ∙ ap (λ t. filter p (take i es) ++ t) (filter_none p (drop i es) rest) ∙ append-nil (filter p (take i es)) ∙ filter_all p (take i es) pass)

pub filter_last : (p : ℕ × ℕ → Bool) (es : List (ℕ × ℕ)) (i : ℕ) → All (λ x. p x ≡ false) (take i es) → All (λ x. p x ≡ true) (drop i es) → drop i es ≡ filter p es
filter_last p es i rest pass =
    sym (filter_parts p es i ∙ ap (λ t. t ++ filter p (drop i es)) (filter_none p (take i es) rest) ∙ filter_all p (drop i es) pass)

within_take : (P : ℕ × ℕ → Type 0) (es : List (ℕ × ℕ)) (i : ℕ) → AllWithin P es 0 i → All P (take i es)
within_take P es i w k d h =
    let lt : k < i = omega (arith, length-take i es) in
    subst P (sym (get_or-take i es k d lt)) (w k d (omega arith) lt)

within_drop : (P : ℕ × ℕ → Type 0) (es : List (ℕ × ℕ)) (i : ℕ) → AllWithin P es i (length es) → All P (drop i es)
within_drop P es i w k d h =
    let lt : i + k < length es = omega (arith, length-drop i es) in
    subst P (sym (get_or-drop i es k d)) (w (i + k) d (omega arith) lt)

-- The place of an entry among those in order.

pub in_order_parts : (e : ℕ × ℕ) (es : List (ℕ × ℕ)) → IsInOrder es → IsPartitionedBy (λ o. before o e) es
in_order_parts e es order i j d le lt h =
    ⊎_elim (λ less. (before_decides (get_or es i d) e).1 (before_trans (get_or es i d) (get_or es j d) e (order i j d less lt) ((before_decides (get_or es j d) e).0 h)))
    (λ ge. let same : j ≡ i = omega arith in subst (λ (n : ℕ). before (get_or es n d) e ≡ true) same h) (cases_lt i j)

before_place : (e : ℕ × ℕ) (es : List (ℕ × ℕ)) (i : ℕ) → IsPartitionPoint (λ o. before o e ≡ true) (λ o. before o e ≡ false) es i → take i es ≡ filter (λ o. before o e) es
before_place e es i at = filter_first (λ o. before o e) es i (within_take (λ o. before o e ≡ true) es i at.0) (within_drop (λ o. before o e ≡ false) es i at.1)

pub not_true : (b : Bool) → (b ≡ true → ⊥) → b ≡ false
not_true true h = absurd (h refl)
not_true false h = refl

not_after : (e o : ℕ × ℕ) → before o e ≡ true → before e o ≡ false
not_after e o h = not_true (before e o) (λ t. before_one_way o e ((before_decides o e).0 h) ((before_decides e o).0 t))

after_place : (e : ℕ × ℕ) (es : List (ℕ × ℕ)) (i : ℕ) → HasNoEntry e.1 es → IsPartitionPoint (λ o. before o e ≡ true) (λ o. before o e ≡ false) es i → drop i es ≡ filter (λ o. before e o) es
after_place e es i free at =
    filter_last (λ o. before e o) es i
    (All-weaker (λ o. before o e ≡ true) (λ o. before e o ≡ false) (λ o h. not_after e o h) (take i es) (within_take (λ o. before o e ≡ true) es i at.0))
    (within_drop (λ o. before e o ≡ true) es i (λ k d low high. (before_decides e (get_or es k d)).1 (not_before (get_or es k d) e (at.1 k d low high) (free k d high))))

pub place_is : (e : ℕ × ℕ) (es : List (ℕ × ℕ)) (i : ℕ) → HasNoEntry e.1 es → IsPartitionPoint (λ o. before o e ≡ true) (λ o. before o e ≡ false) es i → insert es i e ≡ added e es
place_is e es i free at = ap (λ t. t ++ e ∷ drop i es) (before_place e es i at) ∙ ap (λ t. filter (λ o. before o e) es ++ e ∷ t) (after_place e es i free at)

-- Pairs of a list.

pub AllPairs-tail : (R : ℕ × ℕ → ℕ × ℕ → Type 0) (x : ℕ × ℕ) (xs : List (ℕ × ℕ)) → AllPairs R (x ∷ xs) → AllPairs R xs
AllPairs-tail R x xs h i j d lt high = h (suc i) (suc j) d (omega arith) (omega arith)

pub AllPairs-head : (R : ℕ × ℕ → ℕ × ℕ → Type 0) (x : ℕ × ℕ) (xs : List (ℕ × ℕ)) → AllPairs R (x ∷ xs) → All (R x) xs
AllPairs-head R x xs h k d lt = h zero (suc k) d (omega arith) (omega arith)

AllPairs-append : (R : ℕ × ℕ → ℕ × ℕ → Type 0) (xs ys : List (ℕ × ℕ)) → AllPairs R xs → AllPairs R ys → All (λ x. All (R x) ys) xs → AllPairs R (xs ++ ys)
AllPairs-append R [] ys h k w = k
AllPairs-append R (x ∷ xs) ys h k w =
    AllPairs-cons R x (xs ++ ys) (All-append (R x) xs ys (AllPairs-head R x xs h) (All-head (λ y. All (R y) ys) x xs w))
    (AllPairs-append R xs ys (AllPairs-tail R x xs h) k (All-tail (λ y. All (R y) ys) x xs w))

-- What is in a filtered list.

pub contains_head : (x : ℕ × ℕ) (xs : List (ℕ × ℕ)) → Contains (x ∷ xs) x
contains_head x xs = (0, omega arith, refl)

pub contains_tail : (x : ℕ × ℕ) (xs : List (ℕ × ℕ)) (o : ℕ × ℕ) → Contains xs o → Contains (x ∷ xs) o
contains_tail x xs o h = (suc h.0, omega arith, h.2)

pub contains_cases : (x : ℕ × ℕ) (xs : List (ℕ × ℕ)) (o : ℕ × ℕ) → Contains (x ∷ xs) o → (o ≡ x) ⊎ Contains xs o
contains_cases x xs o h = ⊎_elim (λ one. inl (from_one one)) (λ more. inr more) (Contains-append_cases (x ∷ []) xs o h)
  where
    from_one : Contains (x ∷ []) o → o ≡ x
    from_one w = sym (All-contains (λ e. x ≡ e) (x ∷ []) o (All-cons (λ e. x ≡ e) x [] refl (All-nil (λ e. x ≡ e))) w)

pub from_filter : (p : ℕ × ℕ → Bool) (xs : List (ℕ × ℕ)) (o : ℕ × ℕ) → Contains (filter p xs) o → Contains xs o × (p o ≡ true)
from_filter p xs o h = (
  All-contains (Contains xs) (filter p xs) o (All-filter p (Contains xs) xs (All-contains_itself xs)) h,
  All-contains (λ x. p x ≡ true) (filter p xs) o (filter_passes p xs) h,
)

pub in_filter : (p : ℕ × ℕ → Bool) (xs : List (ℕ × ℕ)) (o : ℕ × ℕ) → Contains xs o → p o ≡ true → Contains (filter p xs) o
in_filter p [] o h pass = absurd (omega arith)
in_filter p (x ∷ xs) o h pass =
    cond_both (p x) (x ∷ filter p xs) (filter p xs) (λ l. Contains l o)
    (λ t. ⊎_elim (λ same. subst (λ (e : ℕ × ℕ). Contains (x ∷ filter p xs) e) (sym same) (contains_head x (filter p xs))) (λ more. contains_tail x (filter p xs) o (in_filter p xs o more pass)) (contains_cases x xs o h))
    (λ f. ⊎_elim (λ same. let other : p o ≡ false = ap p same ∙ f in absurd (cc)) (λ more. in_filter p xs o more pass) (contains_cases x xs o h))

-- Adding and removing.

pub in_added : (e o : ℕ × ℕ) (es : List (ℕ × ℕ)) → Contains (added e es) o ↔ ((o ≡ e) ⊎ Contains es o)
in_added e o es = (
  λ h. ⊎_elim (λ low. inr (from_filter (λ x. before x e) es o low).0)
      (λ rest. ⊎_elim (λ same. inl same) (λ high. inr (from_filter (λ x. before e x) es o high).0) (contains_cases e (filter (λ x. before e x) es) o rest))
      (Contains-append_cases (filter (λ x. before x e) es) (e ∷ filter (λ x. before e x) es) o h),
  λ w. ⊎_elim
      (λ same. Contains-append_right (filter (λ x. before x e) es) (e ∷ filter (λ x. before e x) es) o (subst (λ (x : ℕ × ℕ). Contains (e ∷ filter (λ x. before e x) es) x) (sym same) (contains_head e (filter (λ x. before e x) es))))
      (λ h. ⊎_elim
      (λ same. Contains-append_right (filter (λ x. before x e) es) (e ∷ filter (λ x. before e x) es) o (subst (λ (x : ℕ × ℕ). Contains (e ∷ filter (λ x. before e x) es) x) (sym same) (contains_head e (filter (λ x. before e x) es))))
      (λ v. ⊎_elim
      (λ low. Contains-append_left (filter (λ x. before x e) es) (e ∷ filter (λ x. before e x) es) o (in_filter (λ x. before x e) es o h ((before_decides o e).1 low)))
      (λ high. Contains-append_right (filter (λ x. before x e) es) (e ∷ filter (λ x. before e x) es) o (contains_tail e (filter (λ x. before e x) es) o (in_filter (λ x. before e x) es o h ((before_decides e o).1 high))))
      v)
      (which o e))
      w,
)

-- two entries of a list in which each number has at most one
apart : (es : List (ℕ × ℕ)) (a b : ℕ × ℕ) → AllPairs (λ x y. x.1 ≢ y.1) es → Contains es a → Contains es b → a ≢ b → a.1 ≢ b.1
apart es a b one h k differ =
    ⊎_elim (λ lt. at_places lt) (λ ge. ⊎_elim (λ gt. other_way gt) (λ le. same_place (omega arith)) (cases_lt k.0 h.0)) (cases_lt h.0 k.0)
  where
    at_places : h.0 < k.0 → a.1 ≢ b.1
    at_places lt e = one h.0 k.0 a lt k.1 (ap (λ (x : ℕ × ℕ). x.1) h.2 ∙ e ∙ ap (λ (x : ℕ × ℕ). x.1) (sym k.2 ∙ get_or_default es k.0 b a k.1))

    other_way : k.0 < h.0 → a.1 ≢ b.1
    other_way lt e = one k.0 h.0 b lt h.1 (ap (λ (x : ℕ × ℕ). x.1) k.2 ∙ sym e ∙ ap (λ (x : ℕ × ℕ). x.1) (sym h.2 ∙ get_or_default es h.0 a b h.1))

    same_place : h.0 ≡ k.0 → a.1 ≢ b.1
    same_place e x = differ (sym h.2 ∙ ap (λ (n : ℕ). get_or es n a) e ∙ get_or_default es k.0 a b k.1 ∙ k.2)

pub all_by : (P : ℕ × ℕ → Type 0) (xs : List (ℕ × ℕ)) → ((o : ℕ × ℕ) → Contains xs o → P o) → All P xs
all_by P xs h k d lt = h (get_or xs k d) (Contains-get_or xs k d lt)

-- what holds of any two entries of which one is before the other holds of the pairs when one is added
added_pairs : (R : ℕ × ℕ → ℕ × ℕ → Type 0) (e : ℕ × ℕ) (es : List (ℕ × ℕ)) → AllPairs R es
    → ((o : ℕ × ℕ) → Contains es o → IsBefore o e → R o e) → ((o : ℕ × ℕ) → Contains es o → IsBefore e o → R e o)
    → ((a b : ℕ × ℕ) → Contains es a → Contains es b → IsBefore a e → IsBefore e b → R a b) → AllPairs R (added e es)
added_pairs R e es h low high across =
    AllPairs-append R (filter (λ o. before o e) es) (e ∷ filter (λ o. before e o) es)
    (AllPairs-filter R (λ o. before o e) es h)
    (AllPairs-cons R e (filter (λ o. before e o) es)
    (all_by (R e) (filter (λ o. before e o) es) (λ o w. let f = from_filter (λ x. before e x) es o w in high o f.0 ((before_decides e o).0 f.1)))
    (AllPairs-filter R (λ o. before e o) es h))
    (all_by (λ a. All (R a) (e ∷ filter (λ o. before e o) es)) (filter (λ o. before o e) es)
    (λ a w. let f = from_filter (λ x. before x e) es a w in
    All-cons (R a) e (filter (λ o. before e o) es) (low a f.0 ((before_decides a e).0 f.1))
    (all_by (R a) (filter (λ o. before e o) es) (λ b v. let g = from_filter (λ x. before e x) es b v in across a b f.0 g.0 ((before_decides a e).0 f.1) ((before_decides e b).0 g.1)))))

pub schedule_added : (e : ℕ × ℕ) (es : List (ℕ × ℕ)) → IsSchedule es → HasNoEntry e.1 es → IsSchedule (added e es)
schedule_added e es h free = record {
  order = added_pairs IsBefore e es h.order (λ o w k. k) (λ o w k. k) (λ a b v w k l. before_trans a e b k l);
  one = added_pairs (λ a b. a.1 ≢ b.1) e es h.one (λ o w k. All-contains (λ x. x.1 ≢ e.1) es o free w) (λ o w k same. All-contains (λ x. x.1 ≢ e.1) es o free w (sym same))
      (λ a b v w k l. apart es a b h.one v w (λ same. before_one_way a e k (subst (λ (x : ℕ × ℕ). IsBefore e x) (sym same) l)));
}

pub in_removed : (n : ℕ) (o : ℕ × ℕ) (es : List (ℕ × ℕ)) → Contains (removed n es) o ↔ (Contains es o × (o.1 ≢ n))
in_removed n o es = (
  λ h. let f = from_filter (λ e. not (eqb e.1 n)) es o h in (f.0, (Decides-not (eqb o.1 n) (Decides-eqb o.1 n)).0 f.1),
  λ w. in_filter (λ e. not (eqb e.1 n)) es o w.0 ((Decides-not (eqb o.1 n) (Decides-eqb o.1 n)).1 w.1),
)

pub free_removed : (n : ℕ) (es : List (ℕ × ℕ)) → HasNoEntry n (removed n es)
free_removed n es = all_by (λ e. e.1 ≢ n) (removed n es) (λ o w. ((in_removed n o es).0 w).1)

pub schedule_removed : (n : ℕ) (es : List (ℕ × ℕ)) → IsSchedule es → IsSchedule (removed n es)
schedule_removed n es h = record {
  order = AllPairs-filter IsBefore (λ e. not (eqb e.1 n)) es h.order;
  one = AllPairs-filter (λ a b. a.1 ≢ b.1) (λ e. not (eqb e.1 n)) es h.one;
}

not_more : (p : ℕ × ℕ → Bool) (xs : List (ℕ × ℕ)) → length (filter p xs) ≤ length xs
not_more p xs = let sum = length-filter_both p (λ x. not (p x)) (λ x. refl) xs in omega arith

-- one that has an entry has fewer once it is removed
pub fewer : (n : ℕ) (es : List (ℕ × ℕ)) → is_due n es ≡ true → length (removed n es) < length es
fewer n [] h = absurd (cc)
fewer n (e ∷ es) h = by_test (eqb e.1 n) h (λ k. fewer n es k)
  where
    by_test : (t : Bool) → (t || is_due n es) ≡ true → (is_due n es ≡ true → length (removed n es) < length es)
        → length (cond (not t) (e ∷ removed n es) (removed n es)) < length (e ∷ es)
    by_test true k rest = let m : length (removed n es) ≤ length es = not_more (λ o. not (eqb o.1 n)) es in omega arith
    by_test false k rest = let m : length (removed n es) < length es = rest k in omega arith

-- The first that is due.

pub head_first : (now : ℕ) (e : ℕ × ℕ) (es : List (ℕ × ℕ)) → IsInOrder (e ∷ es) → e.0 ≤ now → IsFirst now (e ∷ es) (Some e)
head_first now e es order due = (
  contains_head e es,
  due,
  All-cons (λ o. o.0 ≤ now → (e ≡ o) ⊎ IsBefore e o) e es (λ _. inl refl)
      (All-weaker (IsBefore e) (λ o. o.0 ≤ now → (e ≡ o) ⊎ IsBefore e o) (λ o h _. inr h) es (AllPairs-head IsBefore e es order)),
)

pub none_first : (now : ℕ) (e : ℕ × ℕ) (es : List (ℕ × ℕ)) → IsInOrder (e ∷ es) → now < e.0 → IsFirst now (e ∷ es) None
none_first now e es order late =
    All-cons (λ o. now < o.0) e es late (All-weaker (IsBefore e) (λ o. now < o.0) (λ o h. ⊎_elim (λ lt. omega arith) (λ same. omega arith) h) es (AllPairs-head IsBefore e es order))

least_one : (now : ℕ) (es : List (ℕ × ℕ)) (a b : ℕ × ℕ) → IsFirst now es (Some a) → IsFirst now es (Some b) → a ≡ b
least_one now es a b h k =
    ⊎_elim (λ same. same)
    (λ ab. ⊎_elim (λ same. sym same) (λ ba. absurd (before_one_way a b ab ba)) (All-contains (λ o. o.0 ≤ now → (b ≡ o) ⊎ IsBefore b o) es a k.2 h.0 h.1))
    (All-contains (λ o. o.0 ≤ now → (a ≡ o) ⊎ IsBefore a o) es b h.2 k.0 k.1)

none_or_some : (now : ℕ) (es : List (ℕ × ℕ)) (b : ℕ × ℕ) → IsFirst now es None → IsFirst now es (Some b) → ⊥
none_or_some now es b h k = let late = All-contains (λ o. now < o.0) es b h k.0 in let due = k.1 in omega arith

pub one_first : (now : ℕ) (es : List (ℕ × ℕ)) (a b : Option (ℕ × ℕ)) → IsFirst now es a → IsFirst now es b → a ≡ b
one_first now es None None h k = refl
one_first now es None (Some b) h k = absurd (none_or_some now es b h k)
one_first now es (Some a) None h k = absurd (none_or_some now es a k h)
one_first now es (Some a) (Some b) h k = ap (λ (e : ℕ × ℕ). let o : Option (ℕ × ℕ) = Some e in o) (least_one now es a b h k)

-- Two lists in order with the same entries are one list.

pub before_self : (a : ℕ × ℕ) → IsBefore a a → ⊥
before_self a h = before_one_way a a h h

pub same_or_not : (a b : ℕ × ℕ) → (a ≡ b) ⊎ (a ≢ b)
same_or_not a b = ⊎_elim
    (λ same. inl same)
    (λ w. ⊎_elim
    (λ low. inr (λ same. before_self b (subst (λ (x : ℕ × ℕ). IsBefore x b) same low)))
    (λ high. inr (λ same. before_self b (subst (λ (x : ℕ × ℕ). IsBefore b x) same high)))
    w)
    (which a b)

heads_same : (x y : ℕ × ℕ) (xs ys : List (ℕ × ℕ)) → IsInOrder (x ∷ xs) → IsInOrder (y ∷ ys) → Contains (y ∷ ys) x → Contains (x ∷ xs) y → x ≡ y
heads_same x y xs ys hx hy there back = ⊎_elim
    (λ is. is)
    (λ later. ⊎_elim
    (λ is. sym is)
    (λ other. absurd (before_one_way x y (All-contains (IsBefore x) xs y (AllPairs-head IsBefore x xs hx) other) (All-contains (IsBefore y) ys x (AllPairs-head IsBefore y ys hy) later)))
    (contains_cases x xs y back))
    (contains_cases y ys x there)

tail_has : (x y : ℕ × ℕ) (xs ys : List (ℕ × ℕ)) → IsInOrder (x ∷ xs) → x ≡ y → ((o : ℕ × ℕ) → Contains (x ∷ xs) o → Contains (y ∷ ys) o) → (o : ℕ × ℕ) → Contains xs o → Contains ys o
tail_has x y xs ys hx same all o h = ⊎_elim
    (λ is. absurd (before_self x (subst (λ (z : ℕ × ℕ). IsBefore x z) (is ∙ sym same) (All-contains (IsBefore x) xs o (AllPairs-head IsBefore x xs hx) h))))
    (λ more. more)
    (contains_cases y ys o (all o (contains_tail x xs o h)))

pub same_in_order : (a b : List (ℕ × ℕ)) → IsInOrder a → IsInOrder b → ((o : ℕ × ℕ) → Contains a o ↔ Contains b o) → a ≡ b
same_in_order [] [] ha hb same = refl
same_in_order [] (y ∷ ys) ha hb same = let low = ((same y).1 (contains_head y ys)).1 in absurd (omega arith)
same_in_order (x ∷ xs) [] ha hb same = let low = ((same x).0 (contains_head x xs)).1 in absurd (omega arith)
same_in_order (x ∷ xs) (y ∷ ys) ha hb same =
    let heads : x ≡ y = heads_same x y xs ys ha hb ((same x).0 (contains_head x xs)) ((same y).1 (contains_head y ys)) in
    let tails : xs ≡ ys =
    same_in_order xs ys (AllPairs-tail IsBefore x xs ha) (AllPairs-tail IsBefore y ys hb)
    (λ o. (tail_has x y xs ys ha heads (λ e. (same e).0) o, tail_has y x ys xs hb (sym heads) (λ e. (same e).1) o)) in
    ap (λ (h : ℕ × ℕ). h ∷ xs) heads ∙ ap (λ (t : List (ℕ × ℕ)). y ∷ t) tails

-- Whether a number has an entry.

or_true : (a : Bool) → (a || true) ≡ true
or_true true = refl
or_true false = refl

pub due_there : (n : ℕ) (es : List (ℕ × ℕ)) (e : ℕ × ℕ) → Contains es e → e.1 ≡ n → is_due n es ≡ true
due_there n [] e h is = let low = h.1 in absurd (omega arith)
due_there n (x ∷ es) e h is = ⊎_elim
    (λ same. ap (λ b. b || is_due n es) ((Decides-eqb x.1 n).1 (ap (λ (o : ℕ × ℕ). o.1) (sym same) ∙ is)))
    (λ more. ap (λ b. eqb x.1 n || b) (due_there n es e more is) ∙ or_true (eqb x.1 n))
    (contains_cases x es e h)

pub due_none : (n : ℕ) (es : List (ℕ × ℕ)) → HasNoEntry n es → is_due n es ≡ false
due_none n [] h = refl
due_none n (x ∷ es) h =
    let other : eqb x.1 n ≡ false = not_true (eqb x.1 n) (λ t. All-head (λ e. e.1 ≢ n) x es h ((Decides-eqb x.1 n).0 t)) in
    ap (λ b. b || is_due n es) other ∙ due_none n es (All-tail (λ e. e.1 ≢ n) x es h)

-- Putting in place of what a number has.

pub removed_none : (n : ℕ) (es : List (ℕ × ℕ)) → HasNoEntry n es → removed n es ≡ es
removed_none n es h = filter_all (λ e. not (eqb e.1 n)) es (All-weaker (λ e. e.1 ≢ n) (λ e. not (eqb e.1 n) ≡ true) (λ e far. (Decides-not (eqb e.1 n) (Decides-eqb e.1 n)).1 far) es h)

pub put_new : (e : ℕ × ℕ) (es : List (ℕ × ℕ)) → HasNoEntry e.1 es → put e es ≡ added e es
put_new e es h = ap (added e) (removed_none e.1 es h)

pub schedule_put : (e : ℕ × ℕ) (es : List (ℕ × ℕ)) → IsSchedule es → IsSchedule (put e es)
schedule_put e es h = schedule_added e (removed e.1 es) (schedule_removed e.1 es h) (free_removed e.1 es)

-- what is put in place of another entry of its number, and then that one in its place, leaves what there was
pub put_back : (e was : ℕ × ℕ) (es : List (ℕ × ℕ)) → IsSchedule es → Contains es was → e.1 ≡ was.1 → put was (put e es) ≡ es
put_back e was es h there is =
    same_in_order (put was (put e es)) es (schedule_put was (put e es) (schedule_put e es h)).order h.order (λ o. (onward o, backward o))
  where
    onward : (o : ℕ × ℕ) → Contains (put was (put e es)) o → Contains es o
    onward o w = ⊎_elim
        (λ same. subst (λ (x : ℕ × ℕ). Contains es x) (sym same) there)
        (λ rest. let kept = (in_removed was.1 o (put e es)).0 rest in
        ⊎_elim
        (λ same. absurd (kept.1 (ap (λ (x : ℕ × ℕ). x.1) same ∙ is)))
        (λ more. ((in_removed e.1 o es).0 more).0)
        ((in_added e o (removed e.1 es)).0 kept.0))
        ((in_added was o (removed was.1 (put e es))).0 w)

    backward : (o : ℕ × ℕ) → Contains es o → Contains (put was (put e es)) o
    backward o w = (in_added was o (removed was.1 (put e es))).1
        (⊎_elim
        (λ same. inl same)
        (λ differ.
        let far : o.1 ≢ was.1 = apart es o was h.one w there differ in
        let other : o.1 ≢ e.1 = λ x. far (x ∙ is) in
        inr ((in_removed was.1 o (put e es)).1 ((in_added e o (removed e.1 es)).1 (inr ((in_removed e.1 o es).1 (w, other))), far)))
        (same_or_not o was))

-- what was put in where a number had none, and is taken out again, leaves what there was
pub put_undone : (e : ℕ × ℕ) (es : List (ℕ × ℕ)) → IsSchedule es → HasNoEntry e.1 es → removed e.1 (put e es) ≡ es
put_undone e es h free =
    same_in_order (removed e.1 (put e es)) es (schedule_removed e.1 (put e es) (schedule_put e es h)).order h.order (λ o. (onward o, backward o))
  where
    onward : (o : ℕ × ℕ) → Contains (removed e.1 (put e es)) o → Contains es o
    onward o w =
        let kept = (in_removed e.1 o (put e es)).0 w in
        ⊎_elim
        (λ same. absurd (kept.1 (ap (λ (x : ℕ × ℕ). x.1) same)))
        (λ more. ((in_removed e.1 o es).0 more).0)
        ((in_added e o (removed e.1 es)).0 kept.0)

    backward : (o : ℕ × ℕ) → Contains es o → Contains (removed e.1 (put e es)) o
    backward o w =
        let far : o.1 ≢ e.1 = All-contains (λ x. x.1 ≢ e.1) es o free w in
        (in_removed e.1 o (put e es)).1 ((in_added e o (removed e.1 es)).1 (inr ((in_removed e.1 o es).1 (w, far))), far)

-- The first of a schedule is the only one that is first.

pub first_is : (now : ℕ) (es : List (ℕ × ℕ)) → IsInOrder es → IsFirst now es (first_due now es)
first_is now [] order = All-nil (λ e. now < e.0)
first_is now (e ∷ es) order = ⊎_elim
    (λ w. subst (λ b. IsFirst now (e ∷ es) (cond b (Some e) None)) (sym w.0) (head_first now e es order w.1))
    (λ w. subst (λ b. IsFirst now (e ∷ es) (cond b (Some e) None)) (sym w.0) (none_first now e es order w.1))
    (leb_tells e.0 now)
