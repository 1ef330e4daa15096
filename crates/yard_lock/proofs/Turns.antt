-- Lists of turns: prefixes, the turns of one pass, chains of states, and sums.
use Rattle.std.proofs.Common.{◌≡◌, ◌≢◌, ◌⊎◌, ℕ, zero, suc, ◌+◌, ◌<◌, ◌≤◌, ltb, ltb-true, ltb-false, Bool, true, false, cond, List, [], ◌∷◌, ◌++◌, length, set, Result, Option, Some, sym, refl, ap, ◌∙◌, subst, inl, inr, arith, append_assoc, append-nil, length-append, eq-eqb, ne_eqb}
use Rattle.std.proofs.lemmas.List.Elements.{filter-append}
use mathlib.Core.Option.{some, some-injective, some-ne-none}
use lib.ListN.{get_elem?}
use Rattle.yard_lock.specs.declared.turn.Turn.{Turn}
use Rattle.std.specs.declared.alloc.AllocError.{AllocError as Memory}
use Rattle.yard_lock.specs.Turns.{turn, turns_of, IsPrefix, Moved, Replay, Took, longer}
use Rattle.yard_lock.specs.Rule.{total}

module _ {A : Type 0} where
  pub total-set : (f : A → ℕ) (l : List A) (i : ℕ) (v w : A) → get_elem? l i ≡ some v → total f (set l i w) + f v ≡ total f l + f w
  total-set f [] i v w e = absurd (some-ne-none v (sym e))
  total-set f (x ∷ xs) zero v w e = let is : f x ≡ f v = ap f (some-injective x v e) in omega arith
  total-set f (x ∷ xs) (suc i) v w e = let r = total-set f xs i v w e in omega arith

  pub total-snoc : (f : A → ℕ) (l : List A) (v : A) → total f (l ++ v ∷ []) ≡ total f l + f v
  total-snoc f [] v = omega arith
  total-snoc f (x ∷ xs) v = let r = total-snoc f xs v in omega arith

  pub total-below : (f g : A → ℕ) (l : List A) → ((k : ℕ) (v : A) → get_elem? l k ≡ some v → f v ≤ g v) → total f l ≤ total g l
  total-below f g [] h = omega arith
  total-below f g (x ∷ xs) h = let a : f x ≤ g x = h 0 x refl in let r = total-below f g xs (λ k v e. h (suc k) v e) in omega arith

  pub total-none : (f : A → ℕ) (l : List A) → ((k : ℕ) (v : A) → get_elem? l k ≡ some v → f v ≡ 0) → total f l ≡ 0
  total-none f [] h = refl
  total-none f (x ∷ xs) h = let a : f x ≡ 0 = h 0 x refl in let r = total-none f xs (λ k v e. h (suc k) v e) in omega arith

  pub at_in : (l : List A) (i : ℕ) (v : A) → get_elem? l i ≡ some v → i < length l
  at_in [] i v e = absurd (some-ne-none v (sym e))
  at_in (x ∷ xs) zero v e = omega arith
  at_in (x ∷ xs) (suc i) v e = let r = at_in xs i v e in omega arith

  pub set_there : (l : List A) (i : ℕ) (v w : A) → get_elem? l i ≡ some v → get_elem? (set l i w) i ≡ some w
  set_there [] i v w e = absurd (some-ne-none v (sym e))
  set_there (x ∷ xs) zero v w e = refl
  set_there (x ∷ xs) (suc i) v w e = set_there xs i v w e

  pub at_end : (l : List A) (a b : A) (j : ℕ) → get_elem? (l ++ a ∷ []) j ≡ some b → (get_elem? l j ≡ some b) ⊎ ((j ≡ length l) × (a ≡ b))
  at_end [] a b zero e = inr (refl, some-injective a b e)
  at_end [] a b (suc j) e = absurd (some-ne-none b (sym e))
  at_end (x ∷ xs) a b zero e = inl e
  at_end (x ∷ xs) a b (suc j) e = elim (at_end xs a b j e) [ inl t ↦ inl t | inr t ↦ inr (ap suc t.0, t.1) ]

  none_first : (xs ys : List A) → xs ++ ys ≡ [] → xs ≡ []
  none_first [] ys e = refl
  none_first (x ∷ xs) ys e = cc

module _ {I O : Type 0} where
  pub prefix-all : (xs : List (Turn I O)) → IsPrefix xs xs
  prefix-all xs = ([], append-nil xs)

  pub prefix-more : (xs ys zs : List (Turn I O)) → IsPrefix xs ys → IsPrefix xs (ys ++ zs)
  prefix-more xs ys zs b = (b.0 ++ zs, sym (append_assoc xs b.0 zs) ∙ ap (λ l. l ++ zs) b.1)

  pub prefix-trans : (xs ys zs : List (Turn I O)) → IsPrefix xs ys → IsPrefix ys zs → IsPrefix xs zs
  prefix-trans xs ys zs a b = (a.0 ++ b.0, sym (append_assoc xs a.0 b.0) ∙ (ap (λ l. l ++ b.0) a.1 ∙ b.1))

  pub prefix-shorter : (xs ys zs : List (Turn I O)) → IsPrefix xs zs → IsPrefix ys zs → length xs ≤ length ys → IsPrefix xs ys
  prefix-shorter [] ys zs a b l = (ys, refl)
  prefix-shorter (x ∷ xs) [] zs a b l = absurd (omega arith)
  prefix-shorter (x ∷ xs) (y ∷ ys) [] a b l = absurd (cc (a.1))
  prefix-shorter (x ∷ xs) (y ∷ ys) (z ∷ zs) a b l =
      let ea : x ∷ (xs ++ a.0) ≡ z ∷ zs = a.1 in
      let eb : y ∷ (ys ++ b.0) ≡ z ∷ zs = b.1 in
      let ta : xs ++ a.0 ≡ zs = cc in
      let tb : ys ++ b.0 ≡ zs = cc in
      let h : x ≡ y = cc in
      let r = prefix-shorter xs ys zs (a.0, ta) (b.0, tb) (omega arith) in
      let e : xs ++ r.0 ≡ ys = r.1 in
      (r.0, cc)

  pub prefix-length : (xs ys : List (Turn I O)) → IsPrefix xs ys → length xs ≤ length ys
  prefix-length xs ys b = omega (arith, length-append xs b.0, ap length b.1)

  pub turns-none : (k : ℕ) (xs ys : List (Turn I O)) → IsPrefix xs ys → turns_of k ys ≡ [] → turns_of k xs ≡ []
  turns-none k xs ys b e = none_first (turns_of k xs) (turns_of k b.0) (sym (filter-append _ xs b.0) ∙ (ap (turns_of k) b.1 ∙ e))

  pub turns-own : (k : ℕ) (x : I) (r : Result O Memory) (ts : List (Turn I O)) → turns_of k (ts ++ turn k x r ∷ []) ≡ turns_of k ts ++ turn k x r ∷ []
  turns-own k x r ts = filter-append _ ts (turn k x r ∷ []) ∙ ap (λ (b : Bool). turns_of k ts ++ cond b (turn k x r ∷ []) []) (eq-eqb k k refl)

  pub turns-other : (k j : ℕ) (x : I) (r : Result O Memory) (ts : List (Turn I O)) → k ≢ j → turns_of j (ts ++ turn k x r ∷ []) ≡ turns_of j ts
  turns-other k j x r ts n = filter-append _ ts (turn k x r ∷ []) ∙ (ap (λ (b : Bool). turns_of j ts ++ cond b (turn k x r ∷ []) []) (ne_eqb k j n) ∙ append-nil (turns_of j ts))

module _ {I O Y : Type 0} (moves : Y → I → Result O Memory → Y → Type 0) where
  pub replay-more : (old : Y) (ts : List (Turn I O)) (mid : Y) (t : Turn I O) (new : Y) → Replay moves old ts mid → Moved moves mid t new → Replay moves old (ts ++ t ∷ []) new
  replay-more old [] mid t new r m = (new, subst (λ y. Moved moves y t new) (sym r) m, refl)
  replay-more old (u ∷ us) mid t new r m = (r.0, r.1, replay-more r.0 us mid t new r.2 m)

  pub took : (old : Y) (k : ℕ) (x : I) (a : Result O Memory) (before mid after : List (Turn I O)) (now : Y) → IsPrefix before mid → turns_of k mid ≡ turns_of k before → after ≡ mid ++ turn k x a ∷ [] → Replay moves old after now
      → Took moves old k (turn k x a) before after
  took old k x a before mid after now b own is replay = record {
    between = b.0;
    seen = is ∙ ap (λ l. l ++ turn k x a ∷ []) (sym b.1);
    own = ap (turns_of k) is ∙ (turns-own k x a mid ∙ ap (λ l. l ++ turn k x a ∷ []) own);
    now = now;
    replay = replay;
  }

first_or : {Y : Type 0} → List (ℕ × Option Y) → Option Y → Option Y
first_or [] d = d
first_or (x ∷ xs) d = x.1

pub the_state : {Y : Type 0} (a b : Y) (xs ys : List (ℕ × Option Y)) → (0, Some a) ∷ xs ≡ (0, Some b) ∷ ys → a ≡ b
unfolding first_or
the_state {Y} a b xs ys e =
    cc (ap (λ (z : List (ℕ × Option Y)). first_or z (Some a)) e)

module _ {A : Type 0} where
  none_left : (xs ys : List A) → length (xs ++ ys) ≤ length xs → ys ≡ []
  none_left xs [] l = refl
  none_left xs (y ∷ ys) l = let e = length-append xs (y ∷ ys) in absurd (omega arith)

  pub total-one : (f : A → ℕ) (l : List A) (i : ℕ) (v : A) → get_elem? l i ≡ some v → f v ≤ total f l
  total-one f [] i v e = absurd (some-ne-none v (sym e))
  total-one f (x ∷ xs) zero v e = let is : f x ≡ f v = ap f (some-injective x v e) in omega arith
  total-one f (x ∷ xs) (suc i) v e = let r = total-one f xs i v e in omega arith

  pub total-two : (f : A → ℕ) (l : List A) (i j : ℕ) (v u : A) → get_elem? l i ≡ some v → get_elem? l j ≡ some u → i ≢ j → f v + f u ≤ total f l
  total-two f [] i j v u a b n = absurd (some-ne-none v (sym a))
  total-two f (x ∷ xs) zero zero v u a b n = absurd (n refl)
  total-two f (x ∷ xs) zero (suc j) v u a b n = let is : f x ≡ f v = ap f (some-injective x v a) in let r = total-one f xs j u b in omega arith
  total-two f (x ∷ xs) (suc i) zero v u a b n = let is : f x ≡ f u = ap f (some-injective x u b) in let r = total-one f xs i v a in omega arith
  total-two f (x ∷ xs) (suc i) (suc j) v u a b n = let r = total-two f xs i j v u a b (λ e. n (ap suc e)) in omega arith

module _ {I O : Type 0} where
  pub prefix-whole : (xs ys : List (Turn I O)) → IsPrefix xs ys → length ys ≤ length xs → xs ≡ ys
  prefix-whole xs ys b l =
      let none : b.0 ≡ [] = none_left xs b.0 (omega (arith, ap length b.1)) in
      sym (append-nil xs) ∙ (ap (λ (r : List (Turn I O)). xs ++ r) (sym none) ∙ b.1)

  pub turns-squeezed : (k : ℕ) (xs ys turns : List (Turn I O)) → IsPrefix xs ys → IsPrefix ys turns → turns_of k turns ≡ turns_of k xs → turns_of k ys ≡ turns_of k xs
  turns-squeezed k xs ys turns a b e =
      let p : turns_of k ys ≡ turns_of k xs ++ turns_of k a.0 = ap (turns_of k) (sym a.1) ∙ filter-append _ xs a.0 in
      let q : turns_of k turns ≡ turns_of k ys ++ turns_of k b.0 = ap (turns_of k) (sym b.1) ∙ filter-append _ ys b.0 in
      let lp : length (turns_of k ys) ≡ length (turns_of k xs) + length (turns_of k a.0) = ap length p ∙ length-append (turns_of k xs) (turns_of k a.0) in
      let lq : length (turns_of k turns) ≡ length (turns_of k ys) + length (turns_of k b.0) = ap length q ∙ length-append (turns_of k ys) (turns_of k b.0) in
      let le = ap length e in
      let none : turns_of k a.0 ≡ [] = none_left (turns_of k xs) (turns_of k a.0) (omega (arith, length-append (turns_of k xs) (turns_of k a.0))) in
      p ∙ (ap (λ (r : List (Turn I O)). turns_of k xs ++ r) none ∙ append-nil (turns_of k xs))

  -- what the longer of two prefixes of one list is
  pub record Longer (k j : ℕ) (turns xs ys zs : List (Turn I O)) : Type 0 where
    pub prefix : IsPrefix zs turns
    pub this : IsPrefix xs zs
    pub that : IsPrefix ys zs
    pub own : turns_of k zs ≡ turns_of k xs
    pub others : turns_of j zs ≡ turns_of j ys

  longer-at : (k j : ℕ) (turns xs ys : List (Turn I O)) → IsPrefix xs turns → IsPrefix ys turns → turns_of k turns ≡ turns_of k xs → turns_of j turns ≡ turns_of j ys
      → (b : Bool) → ltb (length xs) (length ys) ≡ b → Longer k j turns xs ys (cond b ys xs)
  longer-at k j turns xs ys a b e d true is = let l = ltb-true (length xs) (length ys) is in let p = prefix-shorter xs ys turns a b (omega arith) in
      record { prefix = b; this = p; that = prefix-all ys; own = turns-squeezed k xs ys turns p b e; others = refl }
  longer-at k j turns xs ys a b e d false is = let l = ltb-false (length xs) (length ys) is in let p = prefix-shorter ys xs turns b a l in
      record { prefix = a; this = prefix-all xs; that = p; own = refl; others = turns-squeezed j ys xs turns p a d }

  pub longer_is : (k j : ℕ) (turns xs ys : List (Turn I O)) → IsPrefix xs turns → IsPrefix ys turns → turns_of k turns ≡ turns_of k xs → turns_of j turns ≡ turns_of j ys → Longer k j turns xs ys (longer xs ys)
  longer_is k j turns xs ys a b e d = longer-at k j turns xs ys a b e d (ltb (length xs) (length ys)) refl

  -- of two prefixes of one list one begins the other
  agree-at : (turns xs ys : List (Turn I O)) → IsPrefix xs turns → IsPrefix ys turns → (b : Bool) → ltb (length xs) (length ys) ≡ b → IsPrefix xs ys ⊎ IsPrefix ys xs
  agree-at turns xs ys a b true is = let l = ltb-true (length xs) (length ys) is in inl (prefix-shorter xs ys turns a b (omega arith))
  agree-at turns xs ys a b false is = let l = ltb-false (length xs) (length ys) is in inr (prefix-shorter ys xs turns b a l)

  pub prefixes-agree : (turns xs ys : List (Turn I O)) → IsPrefix xs turns → IsPrefix ys turns → IsPrefix xs ys ⊎ IsPrefix ys xs
  prefixes-agree turns xs ys a b = agree-at turns xs ys a b (ltb (length xs) (length ys)) refl
