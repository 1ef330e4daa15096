-- The list of known messages, and the map by number.
use Rattle.std.proofs.Common.{append_assoc, append-nil, le-leb, eq-eqb, ne_eqb, ltb, ◌≡◌, ◌≢◌, ℕ, suc, ◌+◌, ◌<◌, ◌≤◌, List, [], ◌∷◌, ◌++◌, length, get_or, set, insert, filter, position, Bool, true, false, cond, not, eqb, leb, refl, sym, ap, ◌∙◌, subst, ⊎_elim, arith, nat_cmp, is_eq, Ordering, Less, Equal, Greater, BTreeMap, ltb-false}
use Rattle.std.specs.Prelude.{◌&&◌, ◌||◌, MatchOption, Option, Some, None, All, Contains, is_some, min, find}
use Rattle.std.specs.Option.{option_map}
use Rattle.std.specs.List.{AllByRecursion, position_from, position_or_len}
use Rattle.std.specs.Map.{keys_of, lookup, remove_entry, set_value, values_of}
use Rattle.std.specs.List.Sorted.{IsStrictlySortedBy}
use Rattle.std.specs.BTreeMap as tree
use Rattle.std.specs.BTreeMap.{get, insert_entry, is_at}
use Rattle.std.specs.Cmp.{unsigned_ties}
use Rattle.std.specs.Ordering.{MatchOrdering, match_ordering}
use Rattle.std.proofs.lemmas.Bool.{cases_eq, cases_lt, cond_both, lt-leb}
use Rattle.std.proofs.lemmas.Bool.Decides.{Decides-eqb, Decides-not}
use Rattle.std.proofs.lemmas.Cmp.{by_ranked, nat_cmp_total, nat_eq_equiv, ranked}
use Rattle.std.proofs.lemmas.Iterator.Adapters.{position_from-zero}
use Rattle.std.proofs.lemmas.List.Elements.{All-head, All-tail, All-cons, All-nil, All-push, All-weaker, All-contains, Contains-append_cases, Contains-append_left, Contains-append_right, Contains-push}
use Rattle.std.proofs.lemmas.List.Folds.{find_at}
use Rattle.std.proofs.lemmas.Map.Keys.{sorted_head, sorted_tail}
use Rattle.std.proofs.lemmas.Map.Lookups.{exact_unsigned}
use Rattle.std.proofs.lemmas.Map.Views.{All-found, Contains-from_lookup, tells_apart}
use Rattle.std.proofs.lemmas.Option.{slice_get_past}
use Rattle.send_known.specs.declared.known.Known.{Known}
use Rattle.send_known.specs.Known as known
use Rattle.send_known.specs.ByNumber.{AreNamed, AreOrdered, Covers, IsKept, KeepsDone, is_done, is_done_in, is_idle_in, lesser, without}

-- ---- places

shift : {X : Type 0} (p : X → Bool) (i : ℕ) (xs : List X) → position_from p (suc i) xs ≡ option_map suc (position_from p i xs)
shift p i [] = refl
shift p i (x ∷ xs) = by (p x) (shift p (i + 1) xs)
  where
    by : (b : Bool) → position_from p (suc (i + 1)) xs ≡ option_map suc (position_from p (i + 1) xs)
        → cond b (Some (suc i)) (position_from p (suc i + 1) xs) ≡ option_map suc (cond b (Some i) (position_from p (i + 1) xs))
    by true later = refl
    by false later = let e : suc i + 1 ≡ suc (i + 1) = omega arith in ap (λ (j : ℕ). position_from p j xs) e ∙ later

-- the first place that passes is the first one, or stands among the others
pub place_here : {X : Type 0} (p : X → Bool) (x : X) (xs : List X) → p x ≡ true → position p (x ∷ xs) ≡ Some 0
place_here p x xs passes = position_from-zero p (x ∷ xs) ∙ ap (λ b. cond b (Some 0) (position_from p (0 + 1) xs)) passes

pub place_later : {X : Type 0} (p : X → Bool) (x : X) (xs : List X) → p x ≡ false → position p (x ∷ xs) ≡ option_map suc (position p xs)
place_later p x xs fails =
    position_from-zero p (x ∷ xs)
    ∙ ap (λ b. cond b (Some 0) (position_from p (0 + 1) xs)) fails
    ∙ shift p 0 xs
    ∙ ap (λ (o : Option ℕ). option_map suc o) (sym (position_from-zero p xs))

-- ---- a number's message

test_is : (n m : ℕ) → is_eq (nat_cmp n m) ≡ eqb m n
test_is n m = sym (unsigned_ties n m) ∙ nat_eq_equiv.symm n m

other_number : (n m : ℕ) → m ≢ n → is_eq (nat_cmp n m) ≡ false
other_number n m far = test_is n m ∙ ne_eqb m n far

-- the test of a key is that of its message
named_test : (n : ℕ) (e : ℕ × Known) → e.0 ≡ e.1.n → is_eq (nat_cmp n e.0) ≡ known.is_of n e.1
named_test n e is = test_is n e.0 ∙ ap (λ (m : ℕ). eqb m n) is

known_find : (n : ℕ) (ks : List Known) → known.known_of n ks ≡ find (known.is_of n) ks
known_find n ks =
    cond_both (ltb (position_or_len (known.is_of n) ks) (length ks)) (Some (position_or_len (known.is_of n) ks)) None (λ o. known.known_at o ks ≡ find (known.is_of n) ks)
    (λ t. sym (find_at (known.is_of n) ks))
    (λ f. sym (find_at (known.is_of n) ks ∙ slice_get_past ks (position_or_len (known.is_of n) ks) (ltb-false (position_or_len (known.is_of n) ks) (length ks) f)))

found : (n : ℕ) (es : List (ℕ × Known)) → AreNamed es → lookup (is_at (nat_cmp n)) es ≡ find (known.is_of n) (values_of es)
found n [] named = refl
found n (e ∷ es) named =
    ap (λ b. cond b (Some e.1) (lookup (is_at (nat_cmp n)) es)) (named_test n e (All-head (λ e. e.0 ≡ e.1.n) e es named))
    ∙ ap (λ (o : Option Known). cond (known.is_of n e.1) (Some e.1) o) (found n es (All-tail (λ e. e.0 ≡ e.1.n) e es named))

pub known_is : (n : ℕ) (es : List (ℕ × Known)) → AreNamed es → lookup (is_at (nat_cmp n)) es ≡ known.known_of n (values_of es)
known_is n es named = found n es named ∙ sym (known_find n (values_of es))

pub is_known_is : (n : ℕ) (es : List (ℕ × Known)) → AreNamed es → is_some (lookup (is_at (nat_cmp n)) es) ≡ known.is_known n (values_of es)
is_known_is n [] named = refl
is_known_is n (e ∷ es) named =
    ap (λ b. is_some (cond b (Some e.1) (lookup (is_at (nat_cmp n)) es))) (named_test n e (All-head (λ e. e.0 ≡ e.1.n) e es named))
    ∙ by (known.is_of n e.1) (is_known_is n es (All-tail (λ e. e.0 ≡ e.1.n) e es named))
  where
    by : (b : Bool) → is_some (lookup (is_at (nat_cmp n)) es) ≡ known.is_known n (values_of es) → is_some (cond b (Some e.1) (lookup (is_at (nat_cmp n)) es)) ≡ (b || known.is_known n (values_of es))
    by true later = refl
    by false later = later

-- ---- a message changes in place

-- g changes the message at a place by f
module _ (g : Option ℕ → List Known → List Known) (f : Known → Known) (none : (ks : List Known) → g None ks ≡ ks) (some : (i : ℕ) (ks : List Known) → g (Some i) ks ≡ set ks i (f (get_or ks i known.nobody))) where
  changed_later : (k : Known) (ks : List Known) (o : Option ℕ) → g (option_map suc o) (k ∷ ks) ≡ k ∷ g o ks
  changed_later k ks None = none (k ∷ ks) ∙ ap (λ (l : List Known). k ∷ l) (sym (none ks))
  changed_later k ks (Some i) = some (suc i) (k ∷ ks) ∙ ap (λ (l : List Known). k ∷ l) (sym (some i ks))

  pub changed_is : (n : ℕ) (es : List (ℕ × Known)) (was : Known) → AreNamed es → lookup (is_at (nat_cmp n)) es ≡ Some was
      → values_of (set_value (is_at (nat_cmp n)) es (f was)) ≡ g (position (known.is_of n) (values_of es)) (values_of es)
  changed_is n [] was named had = absurd (cc)
  changed_is n (e ∷ es) was named had =
      by (λ later. changed_is n es was (All-tail (λ e. e.0 ≡ e.1.n) e es named) later) (is_eq (nat_cmp n e.0)) (named_test n e (All-head (λ e. e.0 ≡ e.1.n) e es named)) had
    where
      by : (lookup (is_at (nat_cmp n)) es ≡ Some was → values_of (set_value (is_at (nat_cmp n)) es (f was)) ≡ g (position (known.is_of n) (values_of es)) (values_of es))
          → (b : Bool) → b ≡ known.is_of n e.1 → cond b (Some e.1) (lookup (is_at (nat_cmp n)) es) ≡ Some was
          → values_of (cond b ((e.0, f was) ∷ es) (e ∷ set_value (is_at (nat_cmp n)) es (f was))) ≡ g (position (known.is_of n) (e.1 ∷ values_of es)) (e.1 ∷ values_of es)
      by others true is here =
          let same : e.1 ≡ was = cc in
          ap (λ (k : Known). f k ∷ values_of es) (sym same)
          ∙ sym (some 0 (e.1 ∷ values_of es))
          ∙ ap (λ (o : Option ℕ). g o (e.1 ∷ values_of es)) (sym (place_here (known.is_of n) e.1 (values_of es) (sym is)))
      by others false is later =
          ap (λ (l : List Known). e.1 ∷ l) (others later)
          ∙ sym (changed_later e.1 (values_of es) (position (known.is_of n) (values_of es)))
          ∙ ap (λ (o : Option ℕ). g o (e.1 ∷ values_of es)) (sym (place_later (known.is_of n) e.1 (values_of es) (sym is)))

  -- of a number that isn't known nothing changes
  pub unchanged_is : (n : ℕ) (es : List (ℕ × Known)) → AreNamed es → lookup (is_at (nat_cmp n)) es ≡ None → values_of es ≡ g (position (known.is_of n) (values_of es)) (values_of es)
  unchanged_is n [] named had = sym (none [])
  unchanged_is n (e ∷ es) named had =
      by (λ later. unchanged_is n es (All-tail (λ e. e.0 ≡ e.1.n) e es named) later) (is_eq (nat_cmp n e.0)) (named_test n e (All-head (λ e. e.0 ≡ e.1.n) e es named)) had
    where
      by : (lookup (is_at (nat_cmp n)) es ≡ None → values_of es ≡ g (position (known.is_of n) (values_of es)) (values_of es))
          → (b : Bool) → b ≡ known.is_of n e.1 → cond b (Some e.1) (lookup (is_at (nat_cmp n)) es) ≡ None → e.1 ∷ values_of es ≡ g (position (known.is_of n) (e.1 ∷ values_of es)) (e.1 ∷ values_of es)
      by others true is here = absurd (cc)
      by others false is later =
          ap (λ (l : List Known). e.1 ∷ l) (others later)
          ∙ sym (changed_later e.1 (values_of es) (position (known.is_of n) (values_of es)))
          ∙ ap (λ (o : Option ℕ). g o (e.1 ∷ values_of es)) (sym (place_later (known.is_of n) e.1 (values_of es) (sym is)))

-- a change that keeps the number keeps the names
pub named_set : (n : ℕ) (es : List (ℕ × Known)) (w : Known) → AreNamed es → w.n ≡ n → AreNamed (set_value (is_at (nat_cmp n)) es w)
named_set n [] w named is = All-nil (λ e. e.0 ≡ e.1.n)
named_set n (e ∷ es) w named is = by (named_set n es w (All-tail (λ e. e.0 ≡ e.1.n) e es named) is) (is_eq (nat_cmp n e.0)) (test_is n e.0)
  where
    by : AreNamed (set_value (is_at (nat_cmp n)) es w) → (b : Bool) → b ≡ eqb e.0 n → AreNamed (cond b ((e.0, w) ∷ es) (e ∷ set_value (is_at (nat_cmp n)) es w))
    by others true here = All-cons (λ e. e.0 ≡ e.1.n) (e.0, w) es ((Decides-eqb e.0 n).0 (sym here) ∙ sym is) (All-tail (λ e. e.0 ≡ e.1.n) e es named)
    by others false far = All-cons (λ e. e.0 ≡ e.1.n) e (set_value (is_at (nat_cmp n)) es w) (All-head (λ e. e.0 ≡ e.1.n) e es named) others

-- ---- a message is learned

learned_later : (k x : Known) (xs : List Known) (o : Option ℕ) → known.learned_at (option_map suc o) k (x ∷ xs) ≡ x ∷ known.learned_at o k xs
learned_later k x xs None = refl
learned_later k x xs (Some i) = by (known.is_of k.n (get_or xs i k))
  where
    by : (b : Bool) → cond b (x ∷ set xs i k) (insert (x ∷ xs) (suc i) k) ≡ x ∷ cond b (set xs i k) (insert xs i k)
    by true = refl
    by false = refl

-- by how its number compares to the first one
module _ (k : Known) (e : ℕ × Known) (es : List (ℕ × Known)) (is : e.0 ≡ e.1.n) (later : values_of (insert_entry nat_cmp es k.n k) ≡ known.learned k (values_of es)) where
  from_here : leb k.n e.1.n ≡ true → known.learned k (e.1 ∷ values_of es) ≡ cond (known.is_of k.n e.1) (k ∷ values_of es) (k ∷ e.1 ∷ values_of es)
  from_here low = ap (λ (o : Option ℕ). known.learned_at o k (e.1 ∷ values_of es)) (place_here (known.is_from k.n) e.1 (values_of es) low)

  before_first : nat_cmp k.n e.0 ≡ Less → k.n < e.0 → k ∷ e.1 ∷ values_of es ≡ known.learned k (e.1 ∷ values_of es)
  before_first less lt =
      let low : leb k.n e.1.n ≡ true = le-leb k.n e.1.n (omega arith) in
      let other : eqb e.1.n k.n ≡ false = ne_eqb e.1.n k.n (λ same. omega arith) in
      sym (from_here low ∙ ap (λ b. cond b (k ∷ values_of es) (k ∷ e.1 ∷ values_of es)) other)

  in_place : k.n ≡ e.0 → k ∷ values_of es ≡ known.learned k (e.1 ∷ values_of es)
  in_place same =
      let low : leb k.n e.1.n ≡ true = le-leb k.n e.1.n (omega arith) in
      let one : eqb e.1.n k.n ≡ true = eq-eqb e.1.n k.n (sym is ∙ sym same) in
      sym (from_here low ∙ ap (λ b. cond b (k ∷ values_of es) (k ∷ e.1 ∷ values_of es)) one)

  after_first : e.0 < k.n → e.1 ∷ values_of (insert_entry nat_cmp es k.n k) ≡ known.learned k (e.1 ∷ values_of es)
  after_first lt =
      let high : leb k.n e.1.n ≡ false = lt-leb k.n e.1.n (omega arith) in
      ap (λ (l : List Known). e.1 ∷ l) later
      ∙ sym (learned_later k e.1 (values_of es) (position (known.is_from k.n) (values_of es)))
      ∙ ap (λ (o : Option ℕ). known.learned_at o k (e.1 ∷ values_of es)) (sym (place_later (known.is_from k.n) e.1 (values_of es) high))

  learned_more : values_of (insert_entry nat_cmp (e ∷ es) k.n k) ≡ known.learned k (e.1 ∷ values_of es)
  learned_more = by_ranked (k.n < e.0) (k.n ≡ e.0) (e.0 < k.n) (nat_cmp k.n e.0) (ranked k.n e.0 (nat_cmp k.n e.0) refl)
      (λ o lt. ap (λ (r : Ordering). values_of (match_ordering r ((k.n, k) ∷ e ∷ es) ((e.0, k) ∷ es) (e ∷ insert_entry nat_cmp es k.n k))) o ∙ before_first o lt)
      (λ o same. ap (λ (r : Ordering). values_of (match_ordering r ((k.n, k) ∷ e ∷ es) ((e.0, k) ∷ es) (e ∷ insert_entry nat_cmp es k.n k))) o ∙ in_place same)
      (λ o lt. ap (λ (r : Ordering). values_of (match_ordering r ((k.n, k) ∷ e ∷ es) ((e.0, k) ∷ es) (e ∷ insert_entry nat_cmp es k.n k))) o ∙ after_first lt)

pub learned_values : (k : Known) (es : List (ℕ × Known)) → AreNamed es → values_of (insert_entry nat_cmp es k.n k) ≡ known.learned k (values_of es)
learned_values k [] named = refl
learned_values k (e ∷ es) named = learned_more k e es (All-head (λ e. e.0 ≡ e.1.n) e es named) (learned_values k es (All-tail (λ e. e.0 ≡ e.1.n) e es named))

pub named_inserted : (k : Known) (es : List (ℕ × Known)) → AreNamed es → AreNamed (insert_entry nat_cmp es k.n k)
named_inserted k [] named = All-cons (λ e. e.0 ≡ e.1.n) (k.n, k) [] refl (All-nil (λ e. e.0 ≡ e.1.n))
named_inserted k (e ∷ es) named = by (named_inserted k es (All-tail (λ e. e.0 ≡ e.1.n) e es named)) (nat_cmp k.n e.0) (ranked k.n e.0 (nat_cmp k.n e.0) refl)
  where
    first : e.0 ≡ e.1.n
    first = All-head (λ e. e.0 ≡ e.1.n) e es named

    others : AreNamed es
    others = All-tail (λ e. e.0 ≡ e.1.n) e es named

    by : AreNamed (insert_entry nat_cmp es k.n k) → (r : Ordering) → MatchOrdering r (k.n < e.0) (k.n ≡ e.0) (e.0 < k.n) → AreNamed (match_ordering r ((k.n, k) ∷ e ∷ es) ((e.0, k) ∷ es) (e ∷ insert_entry nat_cmp es k.n k))
    by later Less lt = All-cons (λ e. e.0 ≡ e.1.n) (k.n, k) (e ∷ es) refl named
    by later Equal same = All-cons (λ e. e.0 ≡ e.1.n) (e.0, k) es (sym same) others
    by later Greater lt = All-cons (λ e. e.0 ≡ e.1.n) e (insert_entry nat_cmp es k.n k) first later

-- ---- a message is forgotten

not_again : (n : ℕ) (es : List (ℕ × Known)) → AreNamed es → AllByRecursion (λ y. nat_cmp n y ≡ Less) (keys_of es) → filter (λ k. not (known.is_of n k)) (values_of es) ≡ values_of es
not_again n [] named above = refl
not_again n (e ∷ es) named above =
    let equal : is_eq (nat_cmp n e.0) ≡ false = ap is_eq above.0 in
    let other : known.is_of n e.1 ≡ false = sym (named_test n e (All-head (λ e. e.0 ≡ e.1.n) e es named)) ∙ equal in
    ap (λ b. cond (not b) (e.1 ∷ filter (λ k. not (known.is_of n k)) (values_of es)) (filter (λ k. not (known.is_of n k)) (values_of es))) other
    ∙ ap (λ (l : List Known). e.1 ∷ l) (not_again n es (All-tail (λ e. e.0 ≡ e.1.n) e es named) above.1)

pub forgotten_values : (n : ℕ) (es : List (ℕ × Known)) → AreNamed es → IsStrictlySortedBy nat_cmp (keys_of es) → values_of (remove_entry (is_at (nat_cmp n)) es) ≡ known.forgotten n (values_of es)
forgotten_values n [] named ordered = refl
forgotten_values n (e ∷ es) named ordered =
    by (forgotten_values n es (All-tail (λ e. e.0 ≡ e.1.n) e es named) (sorted_tail nat_cmp e.0 (keys_of es) ordered)) (is_eq (nat_cmp n e.0)) (test_is n e.0) (named_test n e (All-head (λ e. e.0 ≡ e.1.n) e es named))
  where
    by : values_of (remove_entry (is_at (nat_cmp n)) es) ≡ known.forgotten n (values_of es) → (b : Bool) → b ≡ eqb e.0 n → b ≡ known.is_of n e.1
        → values_of (cond b es (e ∷ remove_entry (is_at (nat_cmp n)) es)) ≡ cond (not (known.is_of n e.1)) (e.1 ∷ known.forgotten n (values_of es)) (known.forgotten n (values_of es))
    by later true here is =
        let same : e.0 ≡ n = (Decides-eqb e.0 n).0 (sym here) in
        let above : AllByRecursion (λ y. nat_cmp n y ≡ Less) (keys_of es) = subst (λ (m : ℕ). AllByRecursion (λ y. nat_cmp m y ≡ Less) (keys_of es)) same (sorted_head nat_cmp e.0 (keys_of es) ordered) in
        sym (not_again n es (All-tail (λ e. e.0 ≡ e.1.n) e es named) above)
        ∙ ap (λ b. cond (not b) (e.1 ∷ known.forgotten n (values_of es)) (known.forgotten n (values_of es))) is
    by later false far is =
        ap (λ (l : List Known). e.1 ∷ l) later
        ∙ ap (λ b. cond (not b) (e.1 ∷ known.forgotten n (values_of es)) (known.forgotten n (values_of es))) is

pub named_removed : (n : ℕ) (es : List (ℕ × Known)) → AreNamed es → AreNamed (remove_entry (is_at (nat_cmp n)) es)
named_removed n [] named = named
named_removed n (e ∷ es) named = by (named_removed n es (All-tail (λ e. e.0 ≡ e.1.n) e es named)) (is_eq (nat_cmp n e.0))
  where
    by : AreNamed (remove_entry (is_at (nat_cmp n)) es) → (b : Bool) → AreNamed (cond b es (e ∷ remove_entry (is_at (nat_cmp n)) es))
    by later true = All-tail (λ e. e.0 ≡ e.1.n) e es named
    by later false = All-cons (λ e. e.0 ≡ e.1.n) e (remove_entry (is_at (nat_cmp n)) es) (All-head (λ e. e.0 ≡ e.1.n) e es named) later

-- ---- the least idle number

-- none is idle
pub none_idle : (now : ℕ) (es : List (ℕ × Known)) → AreNamed es → All (λ e. known.is_idle now e.1 ≡ false) es → ◌≡◌ {A = Option ℕ} None (known.first_idle now (values_of es))
none_idle now [] named none = refl
none_idle now (e ∷ es) named none =
    none_idle now es (All-tail (λ e. e.0 ≡ e.1.n) e es named) (All-tail (λ e. known.is_idle now e.1 ≡ false) e es none)
    ∙ sym (ap (λ b. option_map (λ (k : Known). k.n) (cond b (Some e.1) (find (known.is_idle now) (values_of es)))) (All-head (λ e. known.is_idle now e.1 ≡ false) e es none))

not_true : (b : Bool) → (b ≡ true → ⊥) → b ≡ false
not_true true h = absurd (h refl)
not_true false h = refl

less_number : (x y : ℕ) → nat_cmp x y ≡ Less → x < y
less_number x y h = by_ranked (x < y) (x ≡ y) (y < x) (nat_cmp x y) (ranked x y (nat_cmp x y) refl) (λ _ lt. lt) (λ e _. absurd (cc)) (λ e _. absurd (cc))

-- a number that is found among later ones is later
later_number : (m n : ℕ) (k : Known) (es : List (ℕ × Known)) → AllByRecursion (λ y. nat_cmp m y ≡ Less) (keys_of es) → lookup (is_at (nat_cmp n)) es ≡ Some k → m < n
later_number m n k [] above had = absurd (cc)
later_number m n k (e ∷ es) above had = by (λ later. later_number m n k es above.1 later) (is_eq (nat_cmp n e.0)) (test_is n e.0) had
  where
    by : (lookup (is_at (nat_cmp n)) es ≡ Some k → m < n) → (b : Bool) → b ≡ eqb e.0 n → cond b (Some e.1) (lookup (is_at (nat_cmp n)) es) ≡ Some k → m < n
    by others true here _ = let same : e.0 ≡ n = (Decides-eqb e.0 n).0 (sym here) in less_number m n (subst (λ (x : ℕ). nat_cmp m x ≡ Less) same above.0)
    by others false far later = others later

-- a number is the first idle one, if its message is idle and no idle one has a lesser number
pub one_idle : (now n : ℕ) (k : Known) (es : List (ℕ × Known)) → AreNamed es → IsStrictlySortedBy nat_cmp (keys_of es) → lookup (is_at (nat_cmp n)) es ≡ Some k → known.is_idle now k ≡ true
    → All (λ e. known.is_idle now e.1 ≡ true → n ≤ e.0) es → ◌≡◌ {A = Option ℕ} (Some n) (known.first_idle now (values_of es))
one_idle now n k [] named ordered had idle least = absurd (cc)
one_idle now n k (e ∷ es) named ordered had idle least =
    by
    (λ later. one_idle now n k es (All-tail (λ e. e.0 ≡ e.1.n) e es named) (sorted_tail nat_cmp e.0 (keys_of es) ordered) later idle (All-tail (λ e. known.is_idle now e.1 ≡ true → n ≤ e.0) e es least))
    (is_eq (nat_cmp n e.0)) (test_is n e.0) had
  where
    first : e.0 ≡ e.1.n
    first = All-head (λ e. e.0 ≡ e.1.n) e es named

    by : (lookup (is_at (nat_cmp n)) es ≡ Some k → ◌≡◌ {A = Option ℕ} (Some n) (known.first_idle now (values_of es)))
        → (b : Bool) → b ≡ eqb e.0 n → cond b (Some e.1) (lookup (is_at (nat_cmp n)) es) ≡ Some k → ◌≡◌ {A = Option ℕ} (Some n) (known.first_idle now (e.1 ∷ values_of es))
    by others true here is =
        let same : e.1 ≡ k = cc in
        let is_idle : known.is_idle now e.1 ≡ true = ap (λ (x : Known). known.is_idle now x) same ∙ idle in
        let number : n ≡ e.1.n = sym ((Decides-eqb e.0 n).0 (sym here)) ∙ first in
        ap Some number ∙ sym (ap (λ b. option_map (λ (x : Known). x.n) (cond b (Some e.1) (find (known.is_idle now) (values_of es)))) is_idle)
    by others false far later =
        let below : e.0 < n = later_number e.0 n k es (sorted_head nat_cmp e.0 (keys_of es) ordered) later in
        let other : known.is_idle now e.1 ≡ false =
        not_true (known.is_idle now e.1) (λ t. let up = All-head (λ e. known.is_idle now e.1 ≡ true → n ≤ e.0) e es least t in omega (arith, up, below)) in
        others later
        ∙ sym (ap (λ b. option_map (λ (x : Known). x.n) (cond b (Some e.1) (find (known.is_idle now) (values_of es)))) other)

and_right : (a b : Bool) → (a && b) ≡ true → b ≡ true
and_right true b h = h
and_right false b h = absurd (cc)

-- the least of the numbers that were looked at
abbrev pub Looked : ℕ → (ℕ → Option Known) → List ℕ → Option ℕ → Type 0
Looked now at seen least = MatchOption least (All (λ n. is_idle_in now (at n) ≡ false) seen)
    (λ n. (is_idle_in now (at n) ≡ true) × All (λ m. is_idle_in now (at m) ≡ true → n ≤ m) seen)

pub looked_none : (now : ℕ) (at : ℕ → Option Known) → Looked now at [] None
looked_none now at = All-nil (λ n. is_idle_in now (at n) ≡ false)

-- one that isn't idle
pub looked_past : (now : ℕ) (at : ℕ → Option Known) (seen : List ℕ) (n : ℕ) (least : Option ℕ) → is_idle_in now (at n) ≡ false → Looked now at seen least → Looked now at (seen ++ n ∷ []) least
looked_past now at seen n None fails l = All-push (λ m. is_idle_in now (at m) ≡ false) seen n l fails
looked_past now at seen n (Some m) fails l = (l.0, All-push (λ q. is_idle_in now (at q) ≡ true → m ≤ q) seen n l.1 (λ passes. absurd (cc)))

-- one that is
pub looked_more : (now : ℕ) (at : ℕ → Option Known) (seen : List ℕ) (n : ℕ) (least : Option ℕ) → is_idle_in now (at n) ≡ true → Looked now at seen least → Looked now at (seen ++ n ∷ []) (lesser least n)
looked_more now at seen n None passes l = (
  passes,
  All-push (λ q. is_idle_in now (at q) ≡ true → n ≤ q) seen n
      (All-weaker (λ q. is_idle_in now (at q) ≡ false) (λ q. is_idle_in now (at q) ≡ true → n ≤ q) (λ q fails is. absurd (cc)) seen l) (λ _. omega arith),
)
looked_more now at seen n (Some m) passes l = (
  ⊎_elim
      (λ lt. subst (λ (q : ℕ). is_idle_in now (at q) ≡ true) (let e : m ≡ min m n = omega (arith, lt) in e) l.0)
      (λ ge. subst (λ (q : ℕ). is_idle_in now (at q) ≡ true) (let e : n ≡ min m n = omega (arith, ge) in e) passes)
      (cases_lt m n),
  All-push (λ q. is_idle_in now (at q) ≡ true → min m n ≤ q) seen n
      (All-weaker (λ q. is_idle_in now (at q) ≡ true → m ≤ q) (λ q. is_idle_in now (at q) ≡ true → min m n ≤ q) (λ q h is. let le = h is in omega (arith, le)) seen l.1) (λ _. omega arith),
)

-- the least of those that cover the idle ones is the first idle one
module _ (now : ℕ) (m : BTreeMap ℕ Known) (done : List ℕ) (k : IsKept m done true) where
  each_found : All (λ e. get nat_cmp m e.0 ≡ Some e.1) m.entries
  each_found = All-found nat_cmp_total m k.ordered

  -- an idle message's number is among those
  is_among : (n : ℕ) → is_idle_in now (get nat_cmp m n) ≡ true → Contains done n
  is_among n idle = k.covers refl n (by (get nat_cmp m n) idle)
    where
      by : (o : Option Known) → is_idle_in now o ≡ true → is_done_in o ≡ true
      by None h = h
      by (Some x) h = and_right (leb x.finish_at now) (not (x.local || x.remote)) h

  pub least_is_first : (least : Option ℕ) → Looked now (get nat_cmp m) done least → least ≡ known.first_idle now (values_of m.entries)
  least_is_first None l =
      none_idle now m.entries k.named
      (All-weaker (λ e. get nat_cmp m e.0 ≡ Some e.1) (λ e. known.is_idle now e.1 ≡ false)
      (λ e is.
      not_true (known.is_idle now e.1) (λ t.
      let idle : is_idle_in now (get nat_cmp m e.0) ≡ true = ap (λ o. is_idle_in now o) is ∙ t in
      let fails = All-contains (λ n. is_idle_in now (get nat_cmp m n) ≡ false) done e.0 l (is_among e.0 idle) in
      absurd (cc)))
      m.entries each_found)
  least_is_first (Some n) l = by (get nat_cmp m n) refl l.0
    where
      by : (o : Option Known) → get nat_cmp m n ≡ o → is_idle_in now o ≡ true → ◌≡◌ {A = Option ℕ} (Some n) (known.first_idle now (values_of m.entries))
      by None is h = absurd (cc)
      by (Some x) is h =
          one_idle now n x m.entries k.named k.ordered is h
          (All-weaker (λ e. get nat_cmp m e.0 ≡ Some e.1) (λ e. known.is_idle now e.1 ≡ true → n ≤ e.0)
          (λ e found t.
          let idle : is_idle_in now (get nat_cmp m e.0) ≡ true = ap (λ o. is_idle_in now o) found ∙ t in
          All-contains (λ q. is_idle_in now (get nat_cmp m q) ≡ true → n ≤ q) done e.0 l.1 (is_among e.0 idle) idle)
          m.entries each_found)

-- ---- the numbers without a file

pub covers_more : (old new : ℕ → Option Known) (done : List ℕ) (n : ℕ) → Covers old done → KeepsDone old new n → Covers new (done ++ n ∷ [])
covers_more old new done n covers keeps m is = ⊎_elim
    (λ same. Contains-append_right done (n ∷ []) m (subst (λ (x : ℕ). Contains (n ∷ []) x) (sym same) (Contains-push [] n)))
    (λ far. Contains-append_left done (n ∷ []) m (covers m (sym (keeps m far) ∙ is)))
    (cases_eq m n)

pub covers_still : (old new : ℕ → Option Known) (done : List ℕ) (n : ℕ) → Covers old done → KeepsDone old new n → is_done_in (new n) ≡ false → Covers new done
covers_still old new done n covers keeps fails m is = ⊎_elim
    (λ same. let other : is_done_in (new m) ≡ false = ap (λ (x : ℕ). is_done_in (new x)) same ∙ fails in absurd (cc))
    (λ far. covers m (sym (keeps m far) ∙ is))
    (cases_eq m n)

kept_in : (n : ℕ) (xs : List ℕ) (m : ℕ) → Contains xs m → m ≢ n → Contains (without n xs) m
kept_in n [] m h far = let low = h.1 in absurd (omega arith)
kept_in n (x ∷ xs) m h far =
    cond_both (not (eqb x n)) (x ∷ without n xs) (without n xs) (λ l. Contains l m)
    (λ t. ⊎_elim (λ one. Contains-append_left (x ∷ []) (without n xs) m one) (λ more. Contains-append_right (x ∷ []) (without n xs) m (kept_in n xs m more far)) (Contains-append_cases (x ∷ []) xs m h))
    (λ f. ⊎_elim
    (λ one.
    let same : x ≡ m = All-contains (λ y. x ≡ y) (x ∷ []) m (All-cons (λ y. x ≡ y) x [] refl (All-nil (λ y. x ≡ y))) one in
    let other : not (eqb x n) ≡ true = (Decides-not (eqb x n) (Decides-eqb x n)).1 (λ e. far (sym same ∙ e)) in
    absurd (cc))
    (λ more. kept_in n xs m more far)
    (Contains-append_cases (x ∷ []) xs m h))

-- a number was taken out of both
pub covers_without : (old new : ℕ → Option Known) (done : List ℕ) (n : ℕ) → Covers old done → KeepsDone old new n → is_done_in (new n) ≡ false → Covers new (without n done)
covers_without old new done n covers keeps fails m is = ⊎_elim
    (λ same. let other : is_done_in (new m) ≡ false = ap (λ (x : ℕ). is_done_in (new x)) same ∙ fails in absurd (cc))
    (λ far. kept_in n done m (covers m (sym (keeps m far) ∙ is)) far)
    (cases_eq m n)

-- ---- walks over the map

-- each number without a file is listed but those that the walk has still to come to
pub record Listing (all rest : List (ℕ × Known)) (done : List ℕ) : Type 0 where
  pub seen : List (ℕ × Known)
  pub parts : all ≡ seen ++ rest
  pub listed : All (λ e. is_done e.1 ≡ true → Contains done e.0) seen

pub listing_none : (all rest : List (ℕ × Known)) (done : List ℕ) → rest ≡ all → Listing all rest done
listing_none all rest done is = record { seen = []; parts = sym is; listed = All-nil (λ e. is_done e.1 ≡ true → Contains done e.0) }

pub listing_done : (all rest : List (ℕ × Known)) (e : ℕ × Known) (done : List ℕ) → Listing all (e ∷ rest) done → Listing all rest (done ++ e.0 ∷ [])
listing_done all rest e done l = record {
  seen = l.seen ++ e ∷ [];
  parts = l.parts ∙ sym (append_assoc l.seen (e ∷ []) rest);
  listed =
      All-push (λ o. is_done o.1 ≡ true → Contains (done ++ e.0 ∷ []) o.0) l.seen e
      (All-weaker (λ o. is_done o.1 ≡ true → Contains done o.0) (λ o. is_done o.1 ≡ true → Contains (done ++ e.0 ∷ []) o.0) (λ o h is. Contains-append_left done (e.0 ∷ []) o.0 (h is)) l.seen l.listed)
      (λ _. Contains-push done e.0);
}

pub listing_past : (all rest : List (ℕ × Known)) (e : ℕ × Known) (done : List ℕ) → Listing all (e ∷ rest) done → is_done e.1 ≡ false → Listing all rest done
listing_past all rest e done l fails = record {
  seen = l.seen ++ e ∷ [];
  parts = l.parts ∙ sym (append_assoc l.seen (e ∷ []) rest);
  listed = All-push (λ o. is_done o.1 ≡ true → Contains done o.0) l.seen e l.listed (λ passes. absurd (cc));
}

pub listing_over : (m : BTreeMap ℕ Known) (rest : List (ℕ × Known)) (done : List ℕ) → rest ≡ [] → Listing m.entries rest done → Covers (get nat_cmp m) done
listing_over m rest done none l n is = by (get nat_cmp m n) refl is
  where
    whole : m.entries ≡ l.seen
    whole = l.parts ∙ ap (λ (es : List (ℕ × Known)). l.seen ++ es) none ∙ append-nil l.seen

    by : (o : Option Known) → get nat_cmp m n ≡ o → is_done_in o ≡ true → Contains done n
    by None found h = absurd (cc)
    by (Some k) found h =
        All-contains (λ e. is_done e.1 ≡ true → Contains done e.0) l.seen (let e : ℕ × Known = (n, k) in e) l.listed
        (subst (λ (es : List (ℕ × Known)). Contains es (let e : ℕ × Known = (n, k) in e)) whole (Contains-from_lookup (tells_apart exact_unsigned) n k m.entries found)) h

-- none that the walk came to is idle
pub record Past (now : ℕ) (all rest : List (ℕ × Known)) : Type 0 where
  pub seen : List (ℕ × Known)
  pub parts : all ≡ seen ++ rest
  pub none : All (λ e. known.is_idle now e.1 ≡ false) seen

pub past_none : (now : ℕ) (all rest : List (ℕ × Known)) → rest ≡ all → Past now all rest
past_none now all rest is = record { seen = []; parts = sym is; none = All-nil (λ e. known.is_idle now e.1 ≡ false) }

pub past_one : (now : ℕ) (all rest : List (ℕ × Known)) (e : ℕ × Known) → Past now all (e ∷ rest) → known.is_idle now e.1 ≡ false → Past now all rest
past_one now all rest e p fails = record {
  seen = p.seen ++ e ∷ [];
  parts = p.parts ∙ sym (append_assoc p.seen (e ∷ []) rest);
  none = All-push (λ o. known.is_idle now o.1 ≡ false) p.seen e p.none fails;
}

-- behind messages that aren't idle
idle_behind : (now : ℕ) (seen : List (ℕ × Known)) (rest : List (ℕ × Known)) → All (λ e. known.is_idle now e.1 ≡ false) seen → known.first_idle now (values_of (seen ++ rest)) ≡ known.first_idle now (values_of rest)
idle_behind now [] rest none = refl
idle_behind now (e ∷ es) rest none =
    ap (λ b. option_map (λ (k : Known). k.n) (cond b (Some e.1) (find (known.is_idle now) (values_of (es ++ rest))))) (All-head (λ e. known.is_idle now e.1 ≡ false) e es none)
    ∙ idle_behind now es rest (All-tail (λ e. known.is_idle now e.1 ≡ false) e es none)

pub past_here : (now : ℕ) (all rest : List (ℕ × Known)) (e : ℕ × Known) → AreNamed all → Past now all (e ∷ rest) → known.is_idle now e.1 ≡ true → ◌≡◌ {A = Option ℕ} (Some e.0) (known.first_idle now (values_of all))
past_here now all rest e named p idle =
    let within : Contains all e = subst (λ (es : List (ℕ × Known)). Contains es e) (sym p.parts) (Contains-append_right p.seen (e ∷ rest) e (0, omega arith, refl)) in
    let name : e.0 ≡ e.1.n = All-contains (λ e. e.0 ≡ e.1.n) all e named within in
    ap Some name
    ∙ sym (ap (λ b. option_map (λ (k : Known). k.n) (cond b (Some e.1) (find (known.is_idle now) (values_of rest)))) idle)
    ∙ sym (ap (λ (es : List (ℕ × Known)). known.first_idle now (values_of es)) p.parts ∙ idle_behind now p.seen (e ∷ rest) p.none)

pub past_all : (now : ℕ) (all rest : List (ℕ × Known)) → rest ≡ [] → Past now all rest → ◌≡◌ {A = Option ℕ} None (known.first_idle now (values_of all))
past_all now all rest none p =
    sym (ap (λ (es : List (ℕ × Known)). known.first_idle now (values_of es)) p.parts
    ∙ idle_behind now p.seen rest p.none
    ∙ ap (λ (es : List (ℕ × Known)). known.first_idle now (values_of es)) none)

-- ---- what holds at any time

pub kept_nothing : (m : BTreeMap ℕ Known) (done : List ℕ) → AreOrdered m → m.entries ≡ [] → IsKept m done true
kept_nothing m done ordered empty = record {
  ordered = ordered;
  named = subst (λ (es : List (ℕ × Known)). AreNamed es) (sym empty) (All-nil (λ e. e.0 ≡ e.1.n));
  covers = λ h n is. let none : get nat_cmp m n ≡ None = ap (λ (es : List (ℕ × Known)). lookup (is_at (nat_cmp n)) es) empty in absurd (cc);
}

pub kept_listed : (m : BTreeMap ℕ Known) (done more : List ℕ) (b c : Bool) → IsKept m done b → (c ≡ true → Covers (get nat_cmp m) more) → IsKept m more c
kept_listed m done more b c kept covers = record { ordered = kept.ordered; named = kept.named; covers = covers }

-- a number that other numbers' messages don't depend on
pub keeps_set : (m n : BTreeMap ℕ Known) (k : ℕ) (w : Known) → tree.Updates nat_cmp m n k (Some w) → KeepsDone (get nat_cmp m) (get nat_cmp n) k
keeps_set m n k w updates q far = ap (λ o. is_done_in o) (updates.2 q (other_number k q far))

pub name_of : (n : ℕ) (es : List (ℕ × Known)) (k : Known) → AreNamed es → lookup (is_at (nat_cmp n)) es ≡ Some k → k.n ≡ n
name_of n es k named had =
    sym (All-contains (λ e. e.0 ≡ e.1.n) es (let e : ℕ × Known = (n, k) in e) named (Contains-from_lookup (tells_apart exact_unsigned) n k es had))

-- one message changed, and has its files as before
pub kept_set : (m n : BTreeMap ℕ Known) (done : List ℕ) (b : Bool) (k : ℕ) (was now : Known) → IsKept m done b → get nat_cmp m k ≡ Some was → now.n ≡ was.n → is_done now ≡ is_done was
    → tree.WritesThrough nat_cmp (nat_cmp k) m now n → IsKept n done b
kept_set m n done b k was now kept had number files writes = record {
  ordered = writes.4;
  named = subst (λ (es : List (ℕ × Known)). AreNamed es) (sym writes.0) (named_set k m.entries now kept.named (number ∙ name_of k m.entries was kept.named had));
  covers = λ h q is.
      let updates = writes.3 (rw had refl) in
      ⊎_elim
      (λ same.
      let here : get nat_cmp n q ≡ Some now = subst (λ (x : ℕ). get nat_cmp n x ≡ Some now) (sym same) updates.1 in
      let there : get nat_cmp m q ≡ Some was = subst (λ (x : ℕ). get nat_cmp m x ≡ Some was) (sym same) had in
      kept.covers h q (ap (λ o. is_done_in o) there ∙ sym files ∙ sym (ap (λ o. is_done_in o) here) ∙ is))
      (λ far. kept.covers h q (sym (ap (λ o. is_done_in o) (updates.2 q (other_number k q far))) ∙ is))
      (cases_eq q k);
}

pub kept_forgotten : (m n : BTreeMap ℕ Known) (done : List ℕ) (b : Bool) (k : ℕ) → IsKept m done b → AreOrdered n → n.entries ≡ remove_entry (is_at (nat_cmp k)) m.entries → tree.Updates nat_cmp m n k None → IsKept n (without k done) b
kept_forgotten m n done b k kept ordered entries updates = record {
  ordered = ordered;
  named = subst (λ (es : List (ℕ × Known)). AreNamed es) (sym entries) (named_removed k m.entries kept.named);
  covers = λ h. covers_without (get nat_cmp m) (get nat_cmp n) done k (kept.covers h) (λ q far. ap (λ o. is_done_in o) (updates.2 q (other_number k q far))) (ap (λ o. is_done_in o) updates.1);
}

-- the number of a message without a file was put among the others before it
abbrev pub more_done : Known → List ℕ → List ℕ
more_done k done = cond (is_done k) (done ++ k.n ∷ []) done

pub kept_learned : (m n : BTreeMap ℕ Known) (done more : List ℕ) (k : Known) → IsKept m done true → AreOrdered n → n.entries ≡ insert_entry nat_cmp m.entries k.n k → tree.Updates nat_cmp m n k.n (Some k)
    → more ≡ more_done k done → IsKept n more true
kept_learned m n done more k kept ordered entries updates is = record {
  ordered = ordered;
  named = subst (λ (es : List (ℕ × Known)). AreNamed es) (sym entries) (named_inserted k m.entries kept.named);
  covers = λ h. subst (λ (l : List ℕ). Covers (get nat_cmp n) l) (sym is) (by (is_done k) refl);
}
  where
    keeps : KeepsDone (get nat_cmp m) (get nat_cmp n) k.n
    keeps = keeps_set m n k.n k updates

    by : (b : Bool) → is_done k ≡ b → Covers (get nat_cmp n) (cond b (done ++ k.n ∷ []) done)
    by true passes = covers_more (get nat_cmp m) (get nat_cmp n) done k.n (kept.covers refl) keeps
    by false fails = covers_still (get nat_cmp m) (get nat_cmp n) done k.n (kept.covers refl) keeps (ap (λ o. is_done_in o) updates.1 ∙ fails)

-- it wasn't learned after all
pub kept_unlearned : (m n : BTreeMap ℕ Known) (done more : List ℕ) → IsKept m done true → AreOrdered n → n.entries ≡ m.entries → ((q : ℕ) → Contains done q → Contains more q) → IsKept n more true
kept_unlearned m n done more kept ordered entries has = record {
  ordered = ordered;
  named = subst (λ (es : List (ℕ × Known)). AreNamed es) (sym entries) kept.named;
  covers = λ h q is. has q (kept.covers refl q (sym (ap (λ (es : List (ℕ × Known)). is_done_in (lookup (is_at (nat_cmp q)) es)) entries) ∙ is));
}

-- those that were among the numbers are still among them
pub still_listed : (k : Known) (done more : List ℕ) → more ≡ more_done k done → (q : ℕ) → Contains done q → Contains more q
still_listed k done more is q h = subst (λ (l : List ℕ). Contains l q) (sym is) (by (is_done k))
  where
    by : (b : Bool) → Contains (cond b (done ++ k.n ∷ []) done) q
    by true = Contains-append_left done (k.n ∷ []) q h
    by false = h
