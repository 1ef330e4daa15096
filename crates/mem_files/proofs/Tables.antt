-- Lists of pairs in order of their keys: where a key is, and what an edit there does.
use Rattle.std.proofs.Common.{◌≡◌, ◌≢◌, ⊎_elim, ℕ, zero, suc, ◌+◌, ◌-◌, ◌<◌, ◌≤◌, Bool, true, false, cond, List, [], ◌∷◌, length, get_or, set, Some, None, Result, Ok, Err, Ordering, Less, Equal, Greater, Decides, length-set, get_or-set_same, get_or-set_other, refl, sym, ap, ◌∙◌, arith}
use Rattle.std.specs.List.{insert, remove}
use Rattle.std.specs.List.Sorted.{IsSearchInRange, IsBinarySearchResult, IsNonDecreasingBy}
use Rattle.std.specs.Map.{lookup}
use Rattle.std.specs.Ordering.{ordering_index, ordering_reverse}
use Rattle.std.specs.Cmp.{IsTotalOrder}
use Rattle.std.proofs.lemmas.Cmp.{tied_itself, alike_right}
use Rattle.std.proofs.lemmas.Bool.{cases_lt, cases_eq}
use Rattle.std.proofs.lemmas.List.Edits.{length-insert, get_or-insert_below, get_or-insert_at, get_or-insert_above, length-remove, get_or-remove_below, get_or-remove_above}
use Rattle.mem_files.specs.Tables.{AreKeysInOrder, IsAt, IsGapFor, IsPlace}

-- an entry of a list that isn't empty
abbrev pub some_entry : {X : Type 0} (xs : List X) → 1 ≤ length xs → X
some_entry [] h = absurd (omega arith)
some_entry (x ∷ xs) h = x

-- no key before place i is this one
abbrev pub NoneBefore : {K V : Type 0} → List (K × V) → K → ℕ → Type 0
NoneBefore {K} {V} es k i = (j : ℕ) (d : K × V) → j < i → j < length es → (get_or es j d).0 ≢ k

-- no key after place i is this one
abbrev pub NoneBehind : {K V : Type 0} → List (K × V) → K → ℕ → Type 0
NoneBehind {K} {V} es k i = (j : ℕ) (d : K × V) → i < j → j < length es → (get_or es j d).0 ≢ k

pub hides : {X : Type 0} (b : Bool) (v w x : X) → cond b v x ≡ cond b v (cond b w x)
hides true v w x = refl
hides false v w x = refl

pub swaps : {X : Type 0} (a b : Bool) (v w x : X) → (a ≡ true → b ≡ true → ⊥) → cond a v (cond b w x) ≡ cond b w (cond a v x)
swaps true true v w x apart = absurd (apart refl refl)
swaps true false v w x apart = refl
swaps false b v w x apart = refl

-- ---- by a test that decides whether two keys are the same
module _ {K : Type 0} (same : K → K → Bool) (decides : (x y : K) → Decides (same x y) (x ≡ y)) where
  same_itself : (k : K) → same k k ≡ true
  same_itself k = (decides k k).1 refl

  not_same : (x y : K) → x ≢ y → same x y ≡ false
  not_same x y apart = elim (same x y) as (λ b. same x y ≡ b → b ≡ false) [ true ↦ λ t. absurd (apart ((decides x y).0 t)) | false ↦ λ t. refl ] refl

module _ {K V : Type 0} (same : K → K → Bool) (decides : (x y : K) → Decides (same x y) (x ≡ y)) where
  -- a key that no pair has
  pub lookup-absent : (es : List (K × V)) (k : K) → NoneBefore es k (length es) → lookup (same k) es ≡ None
  lookup-absent [] k none = refl
  lookup-absent (e ∷ es) k none =
      ap (λ b. cond b (Some e.1) (lookup (same k) es)) (not_same same decides k e.0 (λ is. none 0 e (omega arith) (omega arith) (sym is)))
      ∙ lookup-absent es k (λ j d lt within. none (suc j) d (omega arith) (omega arith))

  -- the first pair of a key
  pub lookup-at : (es : List (K × V)) (k : K) (i : ℕ) → IsAt es k i → NoneBefore es k i → (d : K × V) → lookup (same k) es ≡ Some (get_or es i d).1
  lookup-at [] k i at none d = absurd (omega (arith, at.within))
  lookup-at (e ∷ es) k zero at none d = ap (λ b. cond b (Some e.1) (lookup (same k) es)) (ap (same k) (at.has_key e) ∙ same_itself same decides k)
  lookup-at (e ∷ es) k (suc i) at none d =
      ap (λ b. cond b (Some e.1) (lookup (same k) es)) (not_same same decides k e.0 (λ is. none 0 e (omega arith) (omega arith) (sym is)))
      ∙ lookup-at es k i (record { within = omega (arith, at.within); has_key = at.has_key }) (λ j d lt within. none (suc j) d (omega arith) (omega arith)) d

  -- a new pair before all others of its key
  pub lookup-insert : (es : List (K × V)) (k : K) (v : V) (i : ℕ) → NoneBefore es k i → (q : K) → lookup (same q) (insert es i (k, v)) ≡ cond (same q k) (Some v) (lookup (same q) es)
  lookup-insert es k v zero none q = refl
  lookup-insert [] k v (suc i) none q = refl
  lookup-insert (e ∷ es) k v (suc i) none q =
      ap (cond (same q e.0) (Some e.1)) (lookup-insert es k v i (λ j d lt within. none (suc j) d (omega arith) (omega arith)) q)
      ∙ swaps (same q e.0) (same q k) (Some e.1) (Some v) (lookup (same q) es)
      (λ a b. none 0 e (omega arith) (omega arith) (sym ((decides q e.0).0 a) ∙ (decides q k).0 b))

  -- another value at the first pair of a key
  pub lookup-set : (es : List (K × V)) (k : K) (v : V) (i : ℕ) → IsAt es k i → NoneBefore es k i → (q : K) → lookup (same q) (set es i (k, v)) ≡ cond (same q k) (Some v) (lookup (same q) es)
  lookup-set [] k v i at none q = absurd (omega (arith, at.within))
  lookup-set (e ∷ es) k v zero at none q =
      hides (same q k) (Some v) (Some e.1) (lookup (same q) es)
      ∙ ap (λ n. cond (same q k) (Some v) (cond (same q n) (Some e.1) (lookup (same q) es))) (sym (at.has_key e))
  lookup-set (e ∷ es) k v (suc i) at none q =
      ap (cond (same q e.0) (Some e.1)) (lookup-set es k v i (record { within = omega (arith, at.within); has_key = at.has_key }) (λ j d lt within. none (suc j) d (omega arith) (omega arith)) q)
      ∙ swaps (same q e.0) (same q k) (Some e.1) (Some v) (lookup (same q) es)
      (λ a b. none 0 e (omega arith) (omega arith) (sym ((decides q e.0).0 a) ∙ (decides q k).0 b))

  -- without the only pair of a key
  pub lookup-remove : (es : List (K × V)) (k : K) (i : ℕ) → IsAt es k i → NoneBefore es k i → NoneBehind es k i → (q : K) → lookup (same q) (remove es i) ≡ cond (same q k) None (lookup (same q) es)
  lookup-remove [] k i at none behind q = absurd (omega (arith, at.within))
  lookup-remove (e ∷ es) k zero at none behind q =
      elim (same q k) as (λ b. same q k ≡ b → lookup (same q) es ≡ cond b None (cond (same q e.0) (Some e.1) (lookup (same q) es))) [
        | true ↦ λ t. lookup-absent es q (λ j d lt within is. behind (suc j) d (omega arith) (omega arith) (is ∙ (decides q k).0 t))
        | false ↦ λ t. sym (ap (λ b. cond b (Some e.1) (lookup (same q) es)) (ap (same q) (at.has_key e) ∙ t))
      ] refl
  lookup-remove (e ∷ es) k (suc i) at none behind q =
      ap (cond (same q e.0) (Some e.1)) (lookup-remove es k i (record { within = omega (arith, at.within); has_key = at.has_key }) (λ j d lt within. none (suc j) d (omega arith) (omega arith)) (λ j d lt within. behind (suc j) d (omega arith) (omega arith)) q)
      ∙ swaps (same q e.0) (same q k) (Some e.1) None (lookup (same q) es)
      (λ a b. none 0 e (omega arith) (omega arith) (sym ((decides q e.0).0 a) ∙ (decides q k).0 b))

  -- what is found stands somewhere
  pub place_of_found : (es : List (K × V)) (k : K) (v : V) → lookup (same k) es ≡ Some v → (i : ℕ) × (i < length es) × ((d : K × V) → get_or es i d ≡ (k, v))
  place_of_found [] k v found = absurd cc
  place_of_found (e ∷ es) k v found =
      elim (same k e.0) as (λ b. same k e.0 ≡ b → cond b (Some e.1) (lookup (same k) es) ≡ Some v → (i : ℕ) × (i < suc (length es)) × ((d : K × V) → get_or (e ∷ es) i d ≡ (k, v))) [
        | true ↦ λ t s. let key : k ≡ e.0 = (decides k e.0).0 t in let value : e.1 ≡ v = cc in (0, omega arith, λ d. ap (λ (x : K). (x, e.1)) (sym key) ∙ ap (λ (y : V). (k, y)) value)
        | false ↦ λ t s. let deeper = place_of_found es k v s in (suc deeper.0, omega (arith, deeper.1), deeper.2)
      ] refl found

-- ---- by an order that tells keys apart
lower_differs : {K : Type 0} (R : K → K → Ordering) → IsTotalOrder R → (x y : K) → R x y ≡ Less → x ≢ y
lower_differs R total x y less is = let self : R x y ≡ Equal = ap (R x) (sym is) ∙ tied_itself total x in absurd cc

module _ {K V : Type 0} (R : K → K → Ordering) (total : IsTotalOrder R) (exact : (x y : K) → R x y ≡ Equal → x ≡ y) where
  comparisons_rise : (es : List (K × V)) → AreKeysInOrder R es → (k : K) → IsNonDecreasingBy (λ e. ordering_index (R e.0 k)) es
  comparisons_rise es in_order k i j d le within =
      ⊎_elim
      (λ lt. rise (get_or es i d).0 (get_or es j d).0 (in_order i j d lt within))
      (λ ge. let is : i ≡ j = omega arith in let e = ap (λ n. ordering_index (R (get_or es n d).0 k)) is in omega (arith, e))
      (cases_lt i j)
    where
      rise : (x y : K) → R x y ≡ Less → ordering_index (R x k) ≤ ordering_index (R y k)
      rise x y less = elim (R y k) as (λ r. R y k ≡ r → ordering_index (R x k) ≤ ordering_index r) [
        | Less ↦ λ t. let e = ap ordering_index (total.trans x y k less t) in omega (arith, e)
        | Equal ↦ λ t. let e = ap ordering_index (sym (alike_right total y k x t) ∙ less) in omega (arith, e)
        | Greater ↦ λ t. elim (R x k) as (λ r. ordering_index r ≤ 2) [ Less ↦ omega arith | Equal ↦ omega arith | Greater ↦ omega arith ]
      ] refl

  -- where a binary search ends
  pub searched : (es : List (K × V)) → AreKeysInOrder R es → (k : K) (r : Result ℕ ℕ) → IsSearchInRange r (length es) → IsBinarySearchResult (λ e. R e.0 k) es r → IsPlace R es k r
  searched es in_order k (Ok i) within equal = record { within = within; has_key = λ d. exact _ _ (equal d) }
  searched es in_order k (Err i) within parted = record {
    within = within;
    before = λ j d lt. (parted (comparisons_rise es in_order k)).0 j d (omega arith) lt;
    after = λ j d le lt. total.antisymm k (get_or es j d).0 ∙ ap ordering_reverse ((parted (comparisons_rise es in_order k)).1 j d le lt);
  }

  pub none_before_at : (es : List (K × V)) → AreKeysInOrder R es → (k : K) (i : ℕ) → IsAt es k i → NoneBefore es k i
  none_before_at es in_order k i at j d lt within is = lower_differs R total _ _ (in_order j i d lt at.within) (is ∙ sym (at.has_key d))

  pub none_behind_at : (es : List (K × V)) → AreKeysInOrder R es → (k : K) (i : ℕ) → IsAt es k i → NoneBehind es k i
  none_behind_at es in_order k i at j d lt within is = lower_differs R total _ _ (in_order i j d lt within) (at.has_key d ∙ sym is)

  pub none_in_gap : (es : List (K × V)) (k : K) (i : ℕ) → IsGapFor R es k i → NoneBefore es k (length es)
  none_in_gap es k i gap j d lt within is =
      ⊎_elim
      (λ low. lower_differs R total _ _ (gap.before j d low) is)
      (λ high. lower_differs R total _ _ (gap.after j d high within) (sym is))
      (cases_lt j i)

-- ---- what keeps the order
module _ {K V : Type 0} (R : K → K → Ordering) where
  join : {x y a b : K × V} → x ≡ a → y ≡ b → R a.0 b.0 ≡ Less → R x.0 y.0 ≡ Less
  join {x} {y} {a} {b} p q h = ap (λ (z : K × V). R z.0 y.0) p ∙ ap (λ (z : K × V). R a.0 z.0) q ∙ h

  pub in_order-insert : (es : List (K × V)) → AreKeysInOrder R es → (k : K) (v : V) (i : ℕ) → IsGapFor R es k i → AreKeysInOrder R (insert es i (k, v))
  in_order-insert es in_order k v at gap i j d lt within =
      let size = length-insert es at (k, v) gap.within in
      let below : (n : ℕ) → n < at → get_or (insert es at (k, v)) n d ≡ get_or es n d = λ n low. get_or-insert_below es at (k, v) d n low gap.within in
      let here : get_or (insert es at (k, v)) at d ≡ (k, v) = get_or-insert_at es at (k, v) d gap.within in
      let above : (n : ℕ) → at ≤ n → get_or (insert es at (k, v)) (n + 1) d ≡ get_or es n d = λ n high. get_or-insert_above es at (k, v) d n high gap.within in
      ⊎_elim
      (λ j_low. join (below i (omega arith)) (below j j_low) (in_order i j d lt (omega (arith, gap.within))))
      (λ j_high. ⊎_elim
      (λ (is : j ≡ at). join (below i (omega arith)) (ap (λ n. get_or (insert es at (k, v)) n d) is ∙ here) (gap.before i d (omega arith)))
      (λ differs.
      let jj : j ≡ j - 1 + 1 = omega arith in
      let at_j : get_or (insert es at (k, v)) j d ≡ get_or es (j - 1) d = ap (λ n. get_or (insert es at (k, v)) n d) jj ∙ above (j - 1) (omega arith) in
      ⊎_elim
      (λ i_low. join (below i i_low) at_j (in_order i (j - 1) d (omega arith) (omega arith)))
      (λ i_high. ⊎_elim
      (λ (is : i ≡ at). join (ap (λ n. get_or (insert es at (k, v)) n d) is ∙ here) at_j (gap.after (j - 1) d (omega arith) (omega arith)))
      (λ i_differs.
      let ii : i ≡ i - 1 + 1 = omega arith in
      join (ap (λ n. get_or (insert es at (k, v)) n d) ii ∙ above (i - 1) (omega arith)) at_j (in_order (i - 1) (j - 1) d (omega arith) (omega arith)))
      (cases_eq i at))
      (cases_lt i at))
      (cases_eq j at))
      (cases_lt j at)

  pub key-set : (es : List (K × V)) (k : K) (v : V) (at : ℕ) → IsAt es k at → (i : ℕ) (d : K × V) → (get_or (set es at (k, v)) i d).0 ≡ (get_or es i d).0
  key-set es k v at is i d =
      ⊎_elim
      (λ (here : i ≡ at). ap (λ n. (get_or (set es at (k, v)) n d).0) here ∙ ap (λ (e : K × V). e.0) (get_or-set_same es at (k, v) d is.within) ∙ sym (is.has_key d) ∙ ap (λ n. (get_or es n d).0) (sym here))
      (λ differs. ap (λ (e : K × V). e.0) (get_or-set_other es at i (k, v) d differs))
      (cases_eq i at)

  pub in_order-set : (es : List (K × V)) → AreKeysInOrder R es → (k : K) (v : V) (at : ℕ) → IsAt es k at → AreKeysInOrder R (set es at (k, v))
  in_order-set es in_order k v at is i j d lt within =
      let size = length-set es at (k, v) in
      ap (λ (x : K). R x (get_or (set es at (k, v)) j d).0) (key-set es k v at is i d)
      ∙ ap (R (get_or es i d).0) (key-set es k v at is j d)
      ∙ in_order i j d lt (omega arith)

  pub in_order-remove : (es : List (K × V)) → AreKeysInOrder R es → (at : ℕ) → at < length es → AreKeysInOrder R (remove es at)
  in_order-remove es in_order at within i j d lt bound =
      let size = length-remove es at within in
      let below : (n : ℕ) → n < at → get_or (remove es at) n d ≡ get_or es n d = λ n low. get_or-remove_below es at d n low within in
      let above : (n : ℕ) → at ≤ n → get_or (remove es at) n d ≡ get_or es (n + 1) d = λ n high. get_or-remove_above es at d n high within in
      ⊎_elim
      (λ j_low. join (below i (omega arith)) (below j j_low) (in_order i j d lt (omega arith)))
      (λ j_high. ⊎_elim
      (λ i_low. join (below i i_low) (above j j_high) (in_order i (j + 1) d (omega arith) (omega arith)))
      (λ i_high. join (above i i_high) (above j j_high) (in_order (i + 1) (j + 1) d (omega arith) (omega arith)))
      (cases_lt i at))
      (cases_lt j at)
