-- Lists in one strict order with the same members are one.
use Rattle.std.proofs.Common.{◌≡◌, suc, zero, List, [], ◌∷◌, Contains, refl, sym, ap, ◌∙◌, subst, ⊎_elim, ◌⊎◌, inl, inr, arith}
use Rattle.std.specs.Prelude.{◌↔◌}
use Rattle.std.specs.List.{AllPairs}

-- a member is the first one, or one of the rest
split-member : {X : Type 0} (x : X) (xs : List X) (z : X) → Contains (x ∷ xs) z → (x ≡ z) ⊎ Contains xs z
split-member x xs z (zero, below, is) = inl is
split-member x xs z (suc i, below, is) = inr (i, omega arith, is)

first-member : {X : Type 0} (x : X) (xs : List X) → Contains (x ∷ xs) x
first-member x xs = (0, omega arith, refl)

later-member : {X : Type 0} (x : X) (xs : List X) (z : X) → Contains xs z → Contains (x ∷ xs) z
later-member x xs z h = let within = h.1 in (suc h.0, omega arith, h.2)

no-member : {X : Type 0} (z : X) → Contains [] z → ⊥
no-member z h = let within = h.1 in omega arith

-- the first is before each of the rest
first-before : {X : Type 0} (R : X → X → Type 0) (x : X) (xs : List X) (z : X) → AllPairs R (x ∷ xs) → Contains xs z → R x z
first-before R x xs z rising h = let within = h.1 in subst (R x) h.2 (rising 0 (suc h.0) z (omega arith) (omega arith))

rest-rises : {X : Type 0} (R : X → X → Type 0) (x : X) (xs : List X) → AllPairs R (x ∷ xs) → AllPairs R xs
rest-rises R x xs rising i j d less within = rising (suc i) (suc j) d (omega arith) (omega arith)

module _ {X : Type 0} (R : X → X → Type 0) (asymmetric : (x y : X) → R x y → R y x → ⊥) where
  same-first : (x y : X) (xs ys : List X) → AllPairs R (x ∷ xs) → AllPairs R (y ∷ ys) → ((z : X) → Contains (x ∷ xs) z ↔ Contains (y ∷ ys) z) → x ≡ y
  same-first x y xs ys p q each =
      ⊎_elim (λ e. sym e)
      (λ behind. ⊎_elim (λ e. e) (λ after. absurd (asymmetric x y (first-before R x xs y p after) (first-before R y ys x q behind)))
      (split-member x xs y ((each y).1 (first-member y ys))))
      (split-member y ys x ((each x).0 (first-member x xs)))

  -- what is after the first of one list is after the first of the other
  behind : (x y : X) (xs ys : List X) (z : X) → x ≡ y → AllPairs R (x ∷ xs) → (Contains (x ∷ xs) z → Contains (y ∷ ys) z) → Contains xs z → Contains ys z
  behind x y xs ys z same p other h =
      ⊎_elim
      (λ e. let before : R x x = subst (R x) (sym (same ∙ e)) (first-before R x xs z p h) in absurd (asymmetric x x before before))
      (λ there. there)
      (split-member y ys z (other (later-member x xs z h)))

  pub one_order : (xs ys : List X) → AllPairs R xs → AllPairs R ys → ((z : X) → Contains xs z ↔ Contains ys z) → xs ≡ ys
  one_order [] [] p q each = refl
  one_order [] (y ∷ ys) p q each = absurd (no-member y ((each y).1 (first-member y ys)))
  one_order (x ∷ xs) [] p q each = absurd (no-member x ((each x).0 (first-member x xs)))
  one_order (x ∷ xs) (y ∷ ys) p q each =
      let same = same-first x y xs ys p q each in
      let rest = one_order xs ys (rest-rises R x xs p) (rest-rises R y ys q)
      (λ z. (behind x y xs ys z same p (each z).0, behind y x ys xs z (sym same) q (each z).1)) in
      ap (λ (b : X). b ∷ xs) same ∙ ap (λ (l : List X). y ∷ l) rest
