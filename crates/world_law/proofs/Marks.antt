-- Texts that end at a mark, which none of their own bytes is.
use Rattle.std.proofs.Common.{◌≡◌, ℕ, List, [], ◌∷◌, ◌++◌, refl, sym}
use Rattle.std.specs.List.{AllByRecursion}

pub both : (x y : ℕ) (xs ys : List ℕ) → ◌≡◌ {A = List ℕ} (x ∷ xs) (y ∷ ys) → (x ≡ y) × (xs ≡ ys)
both x y xs ys e = (cc, cc)

-- Two of them that begin the same bytes are one.
module _ (IsPlain : ℕ → Type 0) (mark : ℕ) (apart : (b : ℕ) → IsPlain b → b ≡ mark → ⊥) where
  pub ends_alike : (text other xs ys : List ℕ) → AllByRecursion IsPlain text → AllByRecursion IsPlain other → text ++ mark ∷ xs ≡ other ++ mark ∷ ys → (text ≡ other) × (xs ≡ ys)
  ends_alike [] [] xs ys h k e = (refl, (both mark mark xs ys e).1)
  ends_alike [] (y ∷ other) xs ys h k e = absurd (apart y k.0 (sym (both mark y xs (other ++ mark ∷ ys) e).0))
  ends_alike (x ∷ text) [] xs ys h k e = absurd (apart x h.0 (both x mark (text ++ mark ∷ xs) ys e).0)
  ends_alike (x ∷ text) (y ∷ other) xs ys h k e =
      let w = both x y (text ++ mark ∷ xs) (other ++ mark ∷ ys) e in
      let v = ends_alike text other xs ys h.1 k.1 w.1 in
      ((λ p. w.0 p ∷ v.0 p), v.1)
