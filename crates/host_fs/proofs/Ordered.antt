-- Names in byte order, those that come after one, and those that a listing adds.
use Rattle.std.proofs.Common.{◌≡◌, ◌↔◌, ℕ, zero, suc, ◌+◌, ◌-◌, ◌<◌, ◌≤◌, Bool, true, false, not, cond, List, [], ◌∷◌, ◌++◌, length, map, take, drop, get_or, String, string_bytes, IsTrue, All, Contains, refl, sym, ap, ◌∙◌, subst, inl, inr, ⊎_elim, Ordering, Less, Equal, Greater, arith}
use Rattle.std.specs.List.{AllPairs, AllWithin, filter, dedup}
use Rattle.std.specs.List.Sorted.{IsPermutation, IsSorted, IsStrictlySortedBy, IsPartitionedBy}
use Rattle.std.specs.Ordering.{is_lt}
use Rattle.std.specs.Cmp.Lexicographic.{texts_ties}
use Rattle.std.specs.String.{string_cmp, string_eq, string_cmp_total, string_eq_equiv}
use Rattle.std.proofs.Math.ListN.{get_or-map}
use Rattle.std.proofs.lemmas.Cmp.{nat_list_cmp_total}
use Rattle.std.proofs.lemmas.List.{length-map, map-append, take_all, take_more, take_rest}
use Rattle.std.proofs.lemmas.Slice.Eq.{slice_eq-Decides}
use Rattle.std.proofs.lemmas.Bool.{cases_lt}
use Rattle.std.proofs.lemmas.Bool.Decides.{Decides-eqb}
use Rattle.std.proofs.lemmas.List.Elements.{All-from_recursion, All-map, All-weaker, All-contains, All-contains_itself, All-filter, Contains-get_or, Contains-append_left, Contains-append_right, Contains-append_cases, filter_passes}
use Rattle.std.proofs.lemmas.List.Filters.{All-dedup}
use Rattle.std.proofs.lemmas.List.Kept.{AllPairs-cons, Any-dedup, Contains-from_dedup, IsStrictlySortedBy-dedup}
use Rattle.std.proofs.lemmas.List.Sorted.{All-permutation, Contains-permutation, IsPermutation-sym}
use Rattle.host_fs.specs.Listing.{is_before, IsEntry}
use Rattle.host_fs.specs.Entries.{AreEntries, Adds}

-- ---- what each element of a list gives
All-from_map : {X Y : Type 0} (P : Y → Type 0) (f : X → Y) (xs : List X) → All P (map f xs) → All (λ x. P (f x)) xs
All-from_map P f xs all = λ k d within. subst P (get_or-map f xs k d) (all k (f d) (omega (arith, length-map xs f)))

pub Contains-map : {X Y : Type 0} (f : X → Y) (xs : List X) (x : X) → Contains xs x → Contains (map f xs) (f x)
Contains-map f xs x c = (c.0, omega (arith, length-map xs f, c.1), get_or-map f xs c.0 x ∙ ap f c.2)

given_at : {X Y : Type 0} (f : X → Y) (xs : List X) (y : Y) (k : ℕ) → k < length (map f xs) → get_or (map f xs) k y ≡ y → (x : X) × Contains xs x × (f x ≡ y)
given_at f [] y k within is = absurd (omega arith)
given_at f (x ∷ xs) y zero within is = (x, (0, omega arith, refl), is)
given_at f (x ∷ xs) y (suc k) within is =
    let rest = given_at f xs y k (omega arith) is in
    (rest.0, Contains-append_right (x ∷ []) xs rest.0 rest.1, rest.2)

-- ---- names in byte order
rising : {Z : Type 0} (xs : List (String Z)) → IsStrictlySortedBy string_cmp xs → AllPairs (λ low high. IsTrue (is_before low high)) (map string_bytes xs)
unfolding IsStrictlySortedBy
rising [] sorted = λ i j d lt within. absurd (omega arith)
rising (x ∷ xs) sorted =
    AllPairs-cons (λ low high. IsTrue (is_before low high)) (string_bytes x) (map string_bytes xs)
    (All-map (λ high. IsTrue (is_before (string_bytes x) high)) string_bytes xs
    (All-weaker (λ y. string_cmp x y ≡ Less) (λ y. IsTrue (is_before (string_bytes x) (string_bytes y)))
    (λ y below. let e : string_cmp x y ≡ Less = below in ap is_lt e) xs
    (All-from_recursion (λ y. string_cmp x y ≡ Less) xs sorted.0)))
    (rising xs sorted.1)

module _ {Z : Type 0} (given sorted new : List (String Z)) (moved : IsPermutation given sorted) (is : new ≡ dedup string_eq sorted) where
  pub in_order : IsSorted string_cmp sorted → All IsEntry (map string_bytes given) → AreEntries (map string_bytes new)
  in_order up entries =
      let each : All (λ s. IsEntry (string_bytes s)) given = All-from_map IsEntry string_bytes given entries in
      record {
        rising = rising new (subst (IsStrictlySortedBy string_cmp) (sym is) (IsStrictlySortedBy-dedup string_cmp_total (λ x y. texts_ties (string_bytes x) (string_bytes y)) sorted up));
        each = All-map IsEntry string_bytes new (subst (All (λ s. IsEntry (string_bytes s))) (sym is) (All-dedup string_eq (λ s. IsEntry (string_bytes s)) sorted (All-permutation (λ s. IsEntry (string_bytes s)) given sorted moved each)));
      }

  kept_given : (name : List ℕ) → Contains (map string_bytes new) name → Contains (map string_bytes given) name
  kept_given name c =
      let one = given_at string_bytes new name c.0 c.1 c.2 in
      let kept : Contains (dedup string_eq sorted) one.0 = subst (λ l. Contains l one.0) is one.1 in
      let before = Contains-permutation sorted given one.0 (IsPermutation-sym given sorted moved) (Contains-from_dedup string_eq sorted one.0 kept) in
      subst (Contains (map string_bytes given)) one.2 (Contains-map string_bytes given one.0 before)

  given_kept : (name : List ℕ) → Contains (map string_bytes given) name → Contains (map string_bytes new) name
  given_kept name c =
      let one = given_at string_bytes given name c.0 c.1 c.2 in
      let like = Any-dedup string_eq_equiv sorted one.0 (Contains-permutation given sorted one.0 moved one.1) in
      let same : string_bytes one.0 ≡ string_bytes like.1 = (slice_eq-Decides Decides-eqb (string_bytes one.0) (string_bytes like.1) (string_eq one.0 like.1) refl).0 like.4 in
      let here : Contains new like.1 = subst (λ l. Contains l like.1) (sym is) (like.0, like.2, like.3) in
      subst (Contains (map string_bytes new)) (sym same ∙ one.2) (Contains-map string_bytes new like.1 here)

  pub same_names : (name : List ℕ) → Contains (map string_bytes new) name ↔ Contains (map string_bytes given) name
  same_names name = (kept_given name, given_kept name)

-- ---- the names that come after one
less : (o : Ordering) → is_lt o ≡ true → o ≡ Less
less Less h = refl
less Equal h = absurd cc
less Greater h = absurd cc

-- a name before one that doesn't come after the limit doesn't come after it either
not_after : (limit low high : List ℕ) → IsTrue (is_before low high) → not (is_before limit high) ≡ true → not (is_before limit low) ≡ true
not_after limit low high lt not_high =
    elim (is_before limit low) as (λ b. is_before limit low ≡ b → not b ≡ true) [
      | true ↦ λ t.
          let far = nat_list_cmp_total.trans limit low high (less _ t) (less _ lt) in
          absurd (let b : is_before limit high ≡ true = ap is_lt far in cc)
      | false ↦ λ t. refl
    ] refl

pub parted : {Z : Type 0} (limit : List ℕ) (xs : List (String Z)) → AreEntries (map string_bytes xs) → IsPartitionedBy (λ x. not (is_before limit (string_bytes x))) xs
parted limit xs are i j d upto within passes = ⊎_elim
    (λ lt.
    let low = get_or-map string_bytes xs i d in
    let high = get_or-map string_bytes xs j d in
    let rises = are.rising i j (string_bytes d) lt (omega (arith, length-map xs string_bytes)) in
    not_after limit (string_bytes (get_or xs i d)) (string_bytes (get_or xs j d))
    (subst (λ n. IsTrue (is_before n (string_bytes (get_or xs j d)))) low (subst (λ n. IsTrue (is_before (get_or (map string_bytes xs) i (string_bytes d)) n)) high rises))
    passes)
    (λ ge. let is : i ≡ j = omega arith in subst (λ n. not (is_before limit (string_bytes (get_or xs n d))) ≡ true) (sym is) passes)
    (cases_lt i j)

passing : (b : Bool) → not b ≡ true → b ≡ false
passing true h = absurd cc
passing false h = refl

failing : (b : Bool) → not b ≡ false → b ≡ true
failing true h = refl
failing false h = absurd cc

-- where a test fails up to a place and passes from it on, the rest is what passes
rest_is : {X : Type 0} (p : X → Bool) (xs : List X) (i : ℕ) → AllWithin (λ x. not (p x) ≡ true) xs 0 i → AllWithin (λ x. not (p x) ≡ false) xs i (length xs) → i ≤ length xs → drop i xs ≡ filter p xs
rest_is p [] zero before after within = refl
rest_is p [] (suc i) before after within = refl
rest_is p (x ∷ xs) zero before after within =
    let here : p x ≡ true = failing (p x) (after 0 x (omega arith) (omega arith)) in
    ap (λ l. x ∷ l) (rest_is p xs 0 (λ k d low high. absurd (omega arith)) (λ k d low high. after (suc k) d (omega arith) (omega arith)) (omega arith))
    ∙ ap (λ b. cond b (x ∷ filter p xs) (filter p xs)) (sym here)
rest_is p (x ∷ xs) (suc i) before after within =
    let here : p x ≡ false = passing (p x) (before 0 x (omega arith) (omega arith)) in
    rest_is p xs i (λ k d low high. before (suc k) d (omega arith) (omega arith)) (λ k d low high. after (suc k) d (omega arith) (omega arith)) (omega arith)
    ∙ ap (λ b. cond b (x ∷ filter p xs) (filter p xs)) (sym here)

filter-map : {X Y : Type 0} (f : X → Y) (p : Y → Bool) (xs : List X) → map f (filter (λ x. p (f x)) xs) ≡ filter p (map f xs)
filter-map f p [] = refl
filter-map f p (x ∷ xs) =
    let more = filter-map f p xs in
    elim (p (f x)) as (λ b. map f (cond b (x ∷ filter (λ x. p (f x)) xs) (filter (λ x. p (f x)) xs)) ≡ cond b (f x ∷ filter p (map f xs)) (filter p (map f xs))) [
      | true ↦ ap (λ l. f x ∷ l) more
      | false ↦ more
    ]

pub after_is : {Z : Type 0} (limit : List ℕ) (xs : List (String Z)) (i : ℕ) → i ≤ length xs
    → AllWithin (λ x. not (is_before limit (string_bytes x)) ≡ true) xs 0 i → AllWithin (λ x. not (is_before limit (string_bytes x)) ≡ false) xs i (length xs)
    → map string_bytes (drop i xs) ≡ filter (is_before limit) (map string_bytes xs)
after_is limit xs i within before after =
    ap (map string_bytes) (rest_is (λ x. is_before limit (string_bytes x)) xs i before after within)
    ∙ filter-map string_bytes (is_before limit) xs

pub found_after : {Z : Type 0} (limit : List ℕ) (names : List (List ℕ)) (items xs ys : List (String Z)) (i : ℕ) → map string_bytes items ≡ names → xs ≡ items → ys ≡ items → i ≤ length xs
    → AllWithin (λ x. not (is_before limit (string_bytes x)) ≡ true) xs 0 i → AllWithin (λ x. not (is_before limit (string_bytes x)) ≡ false) xs i (length xs)
    → map string_bytes (take (length ys - i) (drop i ys)) ≡ filter (is_before limit) names
found_after limit names items xs ys i are left right within before after =
    ap (map string_bytes) (take_rest ys i)
    ∙ ap (λ l. map string_bytes (drop i l)) (right ∙ sym left)
    ∙ after_is limit xs i within before after
    ∙ ap (filter (is_before limit)) (ap (map string_bytes) left ∙ are)

-- one of them comes after the limit, and is one of the names
pub one_after : {Z : Type 0} (limit : List ℕ) (names : List (List ℕ)) (xs : List (String Z)) (x : String Z) → map string_bytes xs ≡ filter (is_before limit) names → Contains xs x
    → IsTrue (is_before limit (string_bytes x)) × Contains names (string_bytes x)
one_after limit names xs x are c =
    let here : Contains (filter (is_before limit) names) (string_bytes x) = subst (λ l. Contains l (string_bytes x)) are (Contains-map string_bytes xs x c) in (
      All-contains (λ n. is_before limit n ≡ true) (filter (is_before limit) names) (string_bytes x) (filter_passes (is_before limit) names) here,
      All-contains (Contains names) (filter (is_before limit) names) (string_bytes x) (All-filter (is_before limit) (Contains names) names (All-contains_itself names)) here,
    )

-- ---- the names that a listing adds
pub adds_none : (old : List (List ℕ)) → Adds old [] old
adds_none old name = (inl, ⊎_elim (λ c. c) (λ c. absurd (omega (arith, c.0.1))))

one_at : (entry name : List ℕ) (k : ℕ) → k < 1 → get_or (entry ∷ []) k name ≡ name → entry ≡ name
one_at entry name zero within is = is
one_at entry name (suc k) within is = absurd (omega arith)

pub adds_yes : (old : List (List ℕ)) (entry : List ℕ) → IsEntry entry → Adds old (entry ∷ []) (old ++ entry ∷ [])
adds_yes old entry counts name = (
  λ c. ⊎_elim (λ d. inl d) (λ d. inr (d, subst IsEntry (one_at entry name d.0 d.1 d.2) counts)) (Contains-append_cases old (entry ∷ []) name c),
  λ c. ⊎_elim (λ d. Contains-append_left old (entry ∷ []) name d) (λ d. Contains-append_right old (entry ∷ []) name d.0) c,
)

pub adds_text : {Z : Type 0} (old new : List (String Z)) (text : String Z) (entry : List ℕ) → new ≡ old ++ text ∷ [] → string_bytes text ≡ entry → IsEntry entry
    → Adds (map string_bytes old) (entry ∷ []) (map string_bytes new)
adds_text old new text entry grew is counts =
    let more : map string_bytes new ≡ map string_bytes old ++ entry ∷ [] = ap (map string_bytes) grew ∙ map-append string_bytes old (text ∷ []) ∙ ap (λ n. map string_bytes old ++ n ∷ []) is in
    subst (Adds (map string_bytes old) (entry ∷ [])) (sym more) (adds_yes (map string_bytes old) entry counts)

pub adds_no : (old : List (List ℕ)) (entry : List ℕ) → ¬ (IsEntry entry) → Adds old (entry ∷ []) old
adds_no old entry not_one name = (
  λ c. inl c,
  λ c. ⊎_elim (λ d. d) (λ d. absurd (not_one (subst IsEntry (sym (one_at entry name d.0.0 d.0.1 d.0.2)) d.1))) c,
)

adds_both : (old between new first second : List (List ℕ)) → Adds old first between → Adds between second new → Adds old (first ++ second) new
adds_both old between new first second one two name = (
  λ c. ⊎_elim
      (λ d. ⊎_elim (λ e. inl e) (λ e. inr (Contains-append_left first second name e.0, e.1)) ((one name).0 d))
      (λ d. inr (Contains-append_right first second name d.0, d.1))
      ((two name).0 c),
  λ c. ⊎_elim
      (λ d. (two name).1 (inl ((one name).1 (inl d))))
      (λ d. ⊎_elim
      (λ e. (two name).1 (inl ((one name).1 (inr (e, d.1)))))
      (λ e. (two name).1 (inr (e, d.1)))
      (Contains-append_cases first second name d.0))
      c,
)

pub adds_more : (old between new entries : List (List ℕ)) (entry : List ℕ) (i : ℕ) → Adds old (take i entries) between → i < length entries → entry ≡ get_or entries i entry → Adds between (entry ∷ []) new
    → Adds old (take (i + 1) entries) new
adds_more old between new entries entry i before within is one =
    let more : take i entries ++ entry ∷ [] ≡ take (i + 1) entries = ap (λ e. take i entries ++ e ∷ []) is ∙ sym (take_more entries i entry within) in
    subst (λ l. Adds old l new) more (adds_both old between new (take i entries) (entry ∷ []) before one)

pub adds_all : (old new entries : List (List ℕ)) (i : ℕ) → Adds old (take i entries) new → length entries ≤ i → Adds old entries new
adds_all old new entries i before all = subst (λ l. Adds old l new) (take_all i entries all) before

pub each_entry : (old entries new : List (List ℕ)) → All IsEntry old → Adds old entries new → All IsEntry new
each_entry old entries new counts adds = λ k d within.
    let name = get_or new k d in
    ⊎_elim (λ c. All-contains IsEntry old name counts c) (λ c. c.1) ((adds name).0 (Contains-get_or new k d within))
