-- Texts cut at a byte.
use Rattle.std.proofs.Common.{◌≡◌, ℕ, List, [], ◌∷◌, ◌++◌, Contains, true, refl, sym, ◌∙◌, ap, subst, arith}
use Rattle.std.specs.Prelude.{◌==◌, not, slice_index_or}
use Rattle.std.proofs.lemmas.Bool.{eq-eqb, false≢true}
use Rattle.std.proofs.lemmas.List.Sums.{AllPass-from_list_all}
use Rattle.std.specs.List.{list_all}
use Rattle.std.proofs.lemmas.List.Elements.{Contains-append_right}

-- the first of a list is one of it
pub contains-head : (x : ℕ) (xs : List ℕ) (s : ℕ) → x ≡ s → Contains (x ∷ xs) s
contains-head x xs s e = (0, omega arith, e)

pub contains-tail : (x : ℕ) (xs : List ℕ) (s : ℕ) → Contains xs s → Contains (x ∷ xs) s
contains-tail x xs s here = Contains-append_right (x ∷ []) xs s here

-- a byte stands in what it is put into
pub contains-cut : (a b : List ℕ) (s : ℕ) → Contains (a ++ s ∷ b) s
contains-cut a b s = Contains-append_right a (s ∷ b) s (contains-head s b s refl)

-- a text without the byte isn't cut at it
pub not-cut : (a b w : List ℕ) (s : ℕ) → ¬ (Contains w s) → a ++ s ∷ b ≡ w → ⊥
not-cut a b w s without e = without (let P : List ℕ → Type 0 = λ t. Contains t s in subst P e (contains-cut a b s))

-- what stands before and after the first such byte is one pair
pub same-cut : (a b w r : List ℕ) (s : ℕ) → ¬ (Contains a s) → ¬ (Contains w s) → a ++ s ∷ b ≡ w ++ s ∷ r → (a ≡ w) × (b ≡ r)
same-cut [] b [] r s p q e = (refl, cc)
same-cut [] b (y ∷ w) r s p q e = absurd (q (contains-head y w s (cc)))
same-cut (x ∷ a) b [] r s p q e = absurd (p (contains-head x a s (cc)))
same-cut (x ∷ a) b (y ∷ w) r s p q e =
    let rest : a ++ s ∷ b ≡ w ++ s ∷ r = cc in
    let tail = same-cut a b w r s (λ h. p (contains-tail x a s h)) (λ h. q (contains-tail y w s h)) rest in
    let head : x ≡ y = cc in
    let same : a ≡ w = tail.0 in
    ((cc), tail.1)

-- a byte that no element is doesn't stand in a list
pub lacks : (xs : List ℕ) (s : ℕ) → list_all (λ b. not (b == s)) xs ≡ true → ¬ (Contains xs s)
lacks xs s none here =
    let other : not (slice_index_or xs here.0 s == s) ≡ true = AllPass-from_list_all (λ b. not (b == s)) xs none here.0 s here.1 in
    let same : (slice_index_or xs here.0 s == s) ≡ true = eq-eqb (slice_index_or xs here.0 s) s here.2 in
    false≢true (ap not (sym same) ∙ other)

-- the first and the rest of equal lists
pub head-same : {a b : ℕ} {xs ys : List ℕ} → a ∷ xs ≡ b ∷ ys → a ≡ b
head-same e = cc

pub tail-same : {a b : ℕ} {xs ys : List ℕ} → a ∷ xs ≡ b ∷ ys → xs ≡ ys
tail-same e = cc
