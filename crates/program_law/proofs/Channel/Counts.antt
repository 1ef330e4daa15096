-- How many elements of a list pass.
use Rattle.std.proofs.Common.{◌≡◌, ◌⊎◌, inl, inr, ℕ, zero, suc, ◌+◌, ◌≤◌, ◌<◌, List, [], ◌∷◌, ◌++◌, length, set, drop, get_or, Bool, true, false, cond, Some, refl, sym, ap, ◌∙◌, subst, ⊎_elim, arith, count_by}
use Rattle.std.specs.Prelude.{◌||◌, All, Contains, map, slice_get}
use Rattle.std.specs.List.{list_any}
use Rattle.std.proofs.lemmas.Bool.{cases_Bool}
use Rattle.std.proofs.lemmas.List.Elements.{All-contains, All-contains_itself, All-cons, All-nil, All-weaker, Contains-append_right}
use Rattle.std.proofs.lemmas.List.Sums.{get_or-le-sum_by, sum_by-append, sum_by-cons, sum_by-set}

-- Membership

pub at_head : {A : Type 0} (x : A) (xs : List A) → Contains (x ∷ xs) x
at_head x xs = (0, omega arith, refl)

pub in_tail : {A : Type 0} (y x : A) (xs : List A) → Contains xs x → Contains (y ∷ xs) x
in_tail y x xs h = Contains-append_right (y ∷ []) xs x h

pub head_or_tail : {A : Type 0} (y x : A) (xs : List A) → Contains (y ∷ xs) x → (y ≡ x) ⊎ Contains xs x
head_or_tail y x xs (zero, lt, e) = inl e
head_or_tail y x xs (suc k, lt, e) = inr (k, omega arith, e)

pub not_in_none : {A : Type 0} (x : A) → Contains [] x → ⊥
not_in_none x (k, lt, e) = absurd (omega arith)

pub contained_map : {A B : Type 0} (f : A → B) (xs : List A) (x : A) → Contains xs x → Contains (map f xs) (f x)
contained_map f [] x h = absurd (not_in_none x h)
contained_map f (y ∷ xs) x h = ⊎_elim
    (λ e. subst (λ z. Contains (f y ∷ map f xs) (f z)) e (at_head (f y) (map f xs)))
    (λ w. in_tail (f y) (f x) (map f xs) (contained_map f xs x w))
    (head_or_tail y x xs h)

pub in_drop : {A : Type 0} (xs : List A) (x : A) → Contains (drop 1 xs) x → Contains xs x
in_drop [] x h = absurd (not_in_none x h)
in_drop (y ∷ xs) x h = in_tail y x xs h

-- of each element by what holds of it as one of the list
pub all_where : {A : Type 0} (P Q : A → Type 0) (xs : List A) → ((x : A) → Contains xs x → P x → Q x) → All P xs → All Q xs
all_where P Q xs f h = All-weaker (Contains xs) Q (λ x w. f x w (All-contains P xs x h w)) xs (All-contains_itself xs)

-- Counts

module _ {A : Type 0} (p : A → Bool) where
  pub counted_cons : (x : A) (xs : List A) → count_by p (x ∷ xs) ≡ cond (p x) 1 0 + count_by p xs
  counted_cons x xs = sum_by-cons (λ y. cond (p y) 1 0) x xs

  pub counted_push : (xs : List A) (x : A) → count_by p (xs ++ x ∷ []) ≡ count_by p xs + cond (p x) 1 0
  counted_push xs x = let e = sum_by-append (λ y. cond (p y) 1 0) xs (x ∷ []) in let one = counted_cons x [] in let none : count_by p [] ≡ 0 = refl in omega (arith, e, one, none)

  pub counted_set : (xs : List A) (i : ℕ) (y d : A) → i < length xs → count_by p (set xs i y) + cond (p (get_or xs i d)) 1 0 ≡ count_by p xs + cond (p y) 1 0
  counted_set xs i y d lt = sum_by-set (λ z. cond (p z) 1 0) xs i y d lt

  pub contained_counts : (xs : List A) (x : A) → Contains xs x → p x ≡ true → 1 ≤ count_by p xs
  contained_counts xs x h e =
      let le = get_or-le-sum_by (λ y. cond (p y) 1 0) xs h.0 x h.1 in
      let one : ◌≡◌ {A = ℕ} (cond (p (get_or xs h.0 x)) 1 0) 1 = ap (λ y. cond (p y) 1 0) h.2 ∙ ap (λ b. cond b 1 0) e in
      omega (arith, le, one)

  -- the first and the others
  pub counted_first : (xs : List A) (x : A) → slice_get xs 0 ≡ Some x → count_by p xs ≡ cond (p x) 1 0 + count_by p (drop 1 xs)
  counted_first [] x e = absurd (cc)
  counted_first (y ∷ xs) x e = let same : y ≡ x = cc in counted_cons y xs ∙ ap (λ z. cond (p z) 1 0 + count_by p xs) same

  pub counted_drop : (xs : List A) → count_by p (drop 1 xs) ≤ count_by p xs
  counted_drop [] = omega arith
  counted_drop (x ∷ xs) = let e = counted_cons x xs in omega (arith, e)

  pub counted_none : (xs : List A) → All (λ x. p x ≡ false) xs → count_by p xs ≡ 0
  counted_none [] h = refl
  counted_none (x ∷ xs) h =
      let here : ◌≡◌ {A = ℕ} (cond (p x) 1 0) 0 = ap (λ b. cond b 1 0) (h 0 x (omega arith)) in
      let rest = counted_none xs (λ k d lt. h (suc k) d (omega arith)) in
      let sum = counted_cons x xs in
      omega (arith, here, rest, sum)

  pub all_fail : (xs : List A) → list_any p xs ≡ false → All (λ x. p x ≡ false) xs
  all_fail [] h = All-nil (λ x. p x ≡ false)
  all_fail (x ∷ xs) h = ⊎_elim
      (λ yes. absurd (let t : (true || list_any p xs) ≡ false = sym (ap (λ b. b || list_any p xs) yes) ∙ h in cc))
      (λ no. All-cons (λ y. p y ≡ false) x xs no (all_fail xs (sym (ap (λ b. b || list_any p xs) no) ∙ h)))
      (cases_Bool (p x))
