-- Lists by their places.
use Rattle.std.proofs.Common.{◌≡◌, ◌≢◌, ◌⊎◌, inl, inr, ℕ, zero, suc, List, [], ◌∷◌, ◌++◌, ◌+◌, ◌<◌, ◌≤◌, length, take, drop, set, Option, Some, None, IsSomeAnd, refl, sym, ap, ◌∙◌, append-nil, subst, ⊎_elim, arith}
use Rattle.std.proofs.lemmas.List.{drop_all, take_all}
use Rattle.std.specs.List.{slice_get}

-- what stands at a place after one item was changed
pub get_set : {X : Type 0} (xs : List X) (i : ℕ) (y : X) (j : ℕ) (z : X) → slice_get (set xs i y) j ≡ Some z → ((j ≡ i) × (y ≡ z)) ⊎ ((j ≢ i) × (slice_get xs j ≡ Some z))
get_set [] i y j z h = absurd cc
get_set (x ∷ xs) zero y zero z h = inl (refl, cc)
get_set (x ∷ xs) zero y (suc j) z h = inr ((λ e. absurd (omega arith)), h)
get_set (x ∷ xs) (suc i) y zero z h = inr ((λ e. absurd (omega arith)), h)
get_set (x ∷ xs) (suc i) y (suc j) z h = ⊎_elim
    (λ f. inl (ap suc f.0, f.1))
    (λ f. inr ((λ e. f.0 (omega arith)), f.1))
    (get_set xs i y j z h)

-- what holds of each item and of the new one
pub each_set : {X : Type 0} (P : ℕ → X → Type 0) (xs : List X) (i : ℕ) (y : X) → P i y → ((j : ℕ) (z : X) → j ≢ i → slice_get xs j ≡ Some z → P j z)
    → (j : ℕ) (z : X) → slice_get (set xs i y) j ≡ Some z → P j z
each_set P xs i y new old j z h = ⊎_elim
    (λ f. subst (P j) f.1 (subst (λ (j : ℕ). P j y) (sym f.0) new))
    (λ f. old j z f.0 f.1)
    (get_set xs i y j z h)

-- what holds of an item holds of the one that took its place
pub some_set : {X : Type 0} (P : X → Type 0) (xs : List X) (i : ℕ) (x y : X) (j : ℕ) → slice_get xs i ≡ Some x → (P x → P y) → IsSomeAnd (slice_get xs j) P → IsSomeAnd (slice_get (set xs i y) j) P
some_set P [] i x y j is f h = absurd h
some_set P (z ∷ zs) zero x y zero is f h = let same : z ≡ x = cc in f (subst P same h)
some_set P (z ∷ zs) zero x y (suc j) is f h = h
some_set P (z ∷ zs) (suc i) x y zero is f h = h
some_set P (z ∷ zs) (suc i) x y (suc j) is f h = some_set P zs i x y j is f h

-- what stands at a place after one item was added
pub get_push : {X : Type 0} (xs : List X) (y : X) (j : ℕ) (z : X) → slice_get (xs ++ y ∷ []) j ≡ Some z → ((j ≡ length xs) × (y ≡ z)) ⊎ (slice_get xs j ≡ Some z)
get_push [] y zero z h = inl (refl, cc)
get_push [] y (suc j) z h = absurd cc
get_push (x ∷ xs) y zero z h = inr h
get_push (x ∷ xs) y (suc j) z h = ⊎_elim (λ f. inl (ap suc f.0, f.1)) (λ f. inr f) (get_push xs y j z h)

pub each_push : {X : Type 0} (P : ℕ → X → Type 0) (xs : List X) (y : X) → P (length xs) y → ((j : ℕ) (z : X) → slice_get xs j ≡ Some z → P j z)
    → (j : ℕ) (z : X) → slice_get (xs ++ y ∷ []) j ≡ Some z → P j z
each_push P xs y new old j z h = ⊎_elim
    (λ f. subst (P j) f.1 (subst (λ (j : ℕ). P j y) (sym f.0) new))
    (λ f. old j z f)
    (get_push xs y j z h)

pub some_push : {X : Type 0} (P : X → Type 0) (xs : List X) (y : X) (j : ℕ) → IsSomeAnd (slice_get xs j) P → IsSomeAnd (slice_get (xs ++ y ∷ []) j) P
some_push P [] y j h = absurd h
some_push P (x ∷ xs) y zero h = h
some_push P (x ∷ xs) y (suc j) h = some_push P xs y j h

pub some_last : {X : Type 0} (P : X → Type 0) (xs : List X) (y : X) → P y → IsSomeAnd (slice_get (xs ++ y ∷ []) (length xs)) P
some_last P [] y h = h
some_last P (x ∷ xs) y h = some_last P xs y h

-- and back
pub some_pushed : {X : Type 0} (P : X → Type 0) (xs : List X) (y : X) (j : ℕ) → IsSomeAnd (slice_get (xs ++ y ∷ []) j) P → ((j ≡ length xs) × P y) ⊎ IsSomeAnd (slice_get xs j) P
some_pushed P [] y zero h = inl (refl, h)
some_pushed P [] y (suc j) h = absurd h
some_pushed P (x ∷ xs) y zero h = inr h
some_pushed P (x ∷ xs) y (suc j) h = ⊎_elim (λ f. inl (ap suc f.0, f.1)) (λ f. inr f) (some_pushed P xs y j h)

-- the item itself
pub some_at : {X : Type 0} (P : X → Type 0) (o : Option X) → IsSomeAnd o P → (x : X) × (o ≡ Some x) × P x
some_at P None h = absurd h
some_at P (Some x) h = (x, refl, h)

pub some_within : {X : Type 0} (xs : List X) (i : ℕ) → i < length xs → (x : X) × (slice_get xs i ≡ Some x)
some_within [] i h = absurd (omega arith)
some_within (x ∷ xs) zero h = (x, refl)
some_within (x ∷ xs) (suc i) h = some_within xs i (omega arith)

-- an item that was changed twice, and one that wasn't
pub set_again : {X : Type 0} (xs : List X) (i : ℕ) (x y : X) → set (set xs i x) i y ≡ set xs i y
set_again [] i x y = refl
set_again (z ∷ zs) zero x y = refl
set_again {X} (z ∷ zs) (suc i) x y = ap (λ (l : List X). z ∷ l) (set_again zs i x y)

pub set_same : {X : Type 0} (xs : List X) (i : ℕ) (x : X) → slice_get xs i ≡ Some x → set xs i x ≡ xs
set_same [] i x is = absurd cc
set_same {X} (z ∷ zs) zero x is = let same : z ≡ x = cc in ap (λ (y : X). y ∷ zs) (sym same)
set_same {X} (z ∷ zs) (suc i) x is = ap (λ (l : List X). z ∷ l) (set_same zs i x is)

-- a whole list that was written over another one of its length
pub written_back : {X : Type 0} (n : ℕ) (old new : List X) → length new ≡ length old → n ≡ length old → take n (new ++ drop (length new) old) ≡ new
written_back {X} n old new same is =
    ap (λ (rest : List X). take n (new ++ rest)) (drop_all (length new) old (omega arith)) ∙ ap (take n) (append-nil new) ∙ take_all n new (omega arith)

pub get_still : {X : Type 0} (xs : List X) (y : X) (j : ℕ) (z : X) → slice_get xs j ≡ Some z → slice_get (xs ++ y ∷ []) j ≡ Some z
get_still [] y j z h = absurd cc
get_still (x ∷ xs) y zero z h = h
get_still (x ∷ xs) y (suc j) z h = get_still xs y j z h

pub get_last : {X : Type 0} (xs : List X) (y : X) → slice_get (xs ++ y ∷ []) (length xs) ≡ Some y
get_last [] y = refl
get_last (x ∷ xs) y = get_last xs y

-- what stands in the rest of a list
pub get_drop : {X : Type 0} (n : ℕ) (xs : List X) (j : ℕ) → slice_get (drop n xs) j ≡ slice_get xs (n + j)
get_drop zero xs j = let e : j ≡ 0 + j = omega arith in ap (slice_get xs) e
get_drop (suc n) [] j = refl
get_drop (suc n) (x ∷ xs) j = let e : suc (n + j) ≡ suc n + j = omega arith in get_drop n xs j ∙ ap (slice_get (x ∷ xs)) e

-- a change within it, and one before it
pub drop_set : {X : Type 0} (n : ℕ) (xs : List X) (j : ℕ) (y : X) → drop n (set xs (n + j) y) ≡ set (drop n xs) j y
drop_set zero xs j y = let e : 0 + j ≡ j = omega arith in ap (λ (k : ℕ). set xs k y) e
drop_set (suc n) [] j y = refl
drop_set {X} (suc n) (x ∷ xs) j y =
    let e : suc n + j ≡ suc (n + j) = omega arith in ap (λ (k : ℕ). drop (suc n) (set {A = X} (x ∷ xs) k y)) e ∙ drop_set n xs j y

pub drop_before : {X : Type 0} (n : ℕ) (xs : List X) (i : ℕ) (y : X) → i < n → drop n (set xs i y) ≡ drop n xs
drop_before zero xs i y lt = absurd (omega arith)
drop_before (suc n) [] i y lt = refl
drop_before (suc n) (x ∷ xs) zero y lt = refl
drop_before (suc n) (x ∷ xs) (suc i) y lt = drop_before n xs i y (omega arith)

pub drop_push : {X : Type 0} (n : ℕ) (xs : List X) (y : X) → n ≤ length xs → drop n (xs ++ y ∷ []) ≡ drop n xs ++ y ∷ []
drop_push zero xs y le = refl
drop_push (suc n) [] y le = absurd (omega arith)
drop_push (suc n) (x ∷ xs) y le = drop_push n xs y (omega arith)

-- a list is what comes before an item, the item, and the rest
pub split_at : {X : Type 0} (xs : List X) (i : ℕ) (x : X) → slice_get xs i ≡ Some x → xs ≡ take i xs ++ x ∷ drop (suc i) xs
split_at [] i x is = absurd cc
split_at {X} (y ∷ ys) zero x is = let same : y ≡ x = cc in ap (λ (z : X). z ∷ ys) same
split_at {X} (y ∷ ys) (suc i) x is = ap (λ (rest : List X). y ∷ rest) (split_at ys i x is)
