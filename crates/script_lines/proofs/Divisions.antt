-- A script's texts, divided into those of its entries and those of its lines.
use Rattle.std.proofs.Common.{◌≡◌, ◌⊎◌, List, [], ◌∷◌, ◌++◌, length, true, refl, sym, ◌∙◌, ap, inl, inr, arith}
use Rattle.std.specs.Prelude.{◌==◌}
use Rattle.std.specs.List.{AllZip}
use Rattle.std.proofs.lemmas.Bool.{eqb-true}

-- a list is empty, or has a last element
pub record HasLast {A : Type 0} (xs : List A) : Type 0 where
  pub front : List A
  pub last : A
  pub is : xs ≡ front ++ last ∷ []

pub empty_or_last : {A : Type 0} (xs : List A) → (xs ≡ []) ⊎ HasLast xs
empty_or_last [] = inl refl
empty_or_last (x ∷ xs) = inr (by x xs (empty_or_last xs))
  where
    by : {A : Type 0} (x : A) (xs : List A) → (xs ≡ []) ⊎ HasLast xs → HasLast (x ∷ xs)
    by x xs (inl none) = record { front = []; last = x; is = ap (λ l. x ∷ l) none }
    by x xs (inr some) = record { front = x ∷ some.front; last = some.last; is = ap (λ l. x ∷ l) some.is }

-- the last elements of two lists, and those before them
pub no_push : {A : Type 0} (xs : List A) (x : A) → xs ++ x ∷ [] ≡ [] → ⊥
no_push [] x e = absurd (cc)
no_push (y ∷ xs) x e = absurd (cc)

pub same_push : {A : Type 0} (xs ys : List A) (x y : A) → xs ++ x ∷ [] ≡ ys ++ y ∷ [] → (xs ≡ ys) × (x ≡ y)
same_push [] [] x y e = (refl, cc)
same_push [] (z ∷ ys) x y e = absurd (no_push ys y (let tail : [] ≡ ys ++ y ∷ [] = cc in sym tail))
same_push (z ∷ xs) [] x y e = absurd (no_push xs x (let tail : xs ++ x ∷ [] ≡ [] = cc in tail))
same_push (z ∷ xs) (w ∷ ys) x y e =
    let tail : xs ++ x ∷ [] ≡ ys ++ y ∷ [] = cc in
    let same = same_push xs ys x y tail in
    let head : z ≡ w = cc in
    (ap (λ l. z ∷ l) same.0 ∙ ap (λ h. h ∷ ys) head, same.1)

-- a list of length 0
pub empty_by_length : {A : Type 0} (xs : List A) → (length xs == 0) ≡ true → xs ≡ []
empty_by_length [] e = refl
empty_by_length (x ∷ xs) e = let none = eqb-true (length (x ∷ xs)) 0 e in absurd (omega arith)

-- lists beside each other, and one more of both
pub zip_push : {A B : Type 0} (R : A → B → Type 0) (xs : List A) (ys : List B) (x : A) (y : B) → AllZip R xs ys → R x y → AllZip R (xs ++ x ∷ []) (ys ++ y ∷ [])
zip_push R [] [] x y h is = (is, tt)
zip_push R [] (z ∷ ys) x y h is = absurd h
zip_push R (w ∷ xs) [] x y h is = absurd h
zip_push R (w ∷ xs) (z ∷ ys) x y h is = (h.0, zip_push R xs ys x y h.1 is)

-- what stands beside a list with a last element
pub record Popped {A B : Type 0} (R : A → B → Type 0) (xs : List A) (x : A) (ys : List B) : Type 0 where
  pub front : List B
  pub last : B
  pub is : ys ≡ front ++ last ∷ []
  pub beside : AllZip R xs front
  pub last_beside : R x last

pub zip_pop : {A B : Type 0} (R : A → B → Type 0) (xs : List A) (x : A) (ys : List B) → AllZip R (xs ++ x ∷ []) ys → Popped R xs x ys
zip_pop R [] x [] h = absurd h
zip_pop R [] x (y ∷ []) h = record { front = []; last = y; is = refl; beside = tt; last_beside = h.0 }
zip_pop R [] x (y ∷ z ∷ ys) h = absurd h.1
zip_pop R (w ∷ xs) x [] h = absurd h
zip_pop R (w ∷ xs) x (y ∷ ys) h =
    let p = zip_pop R xs x ys h.1 in
    record { front = y ∷ p.front; last = p.last; is = ap (λ l. y ∷ l) p.is; beside = (h.0, p.beside); last_beside = p.last_beside }

pub zip_none : {A B : Type 0} (R : A → B → Type 0) (xs : List A) (ys : List B) → AllZip R xs ys → ys ≡ [] → xs ≡ []
zip_none R [] ys h e = refl
zip_none R (x ∷ xs) [] h e = absurd h
zip_none R (x ∷ xs) (y ∷ ys) h e = absurd (cc)

pub zip_of_none : {A B : Type 0} (R : A → B → Type 0) (ys : List B) → AllZip R [] ys → ys ≡ []
zip_of_none R [] h = refl
zip_of_none R (y ∷ ys) h = absurd h
