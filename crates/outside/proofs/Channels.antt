-- The channels from 1 on.
use Rattle.std.proofs.Common.{◌≡◌, ℕ, zero, suc, ◌+◌, ◌<◌, ◌≤◌, [], ◌∷◌, ◌++◌, refl, subst, sym, arith}
use Rattle.std.specs.Prelude.{All, Contains}
use Rattle.std.proofs.lemmas.List.Elements.{All-nil, All-push, All-contains}
use Rattle.outside.specs.Forms.{channels}

-- none is above their number
low : (n most : ℕ) → n ≤ most → All (λ chan. chan ≤ most) (channels n)
low zero most h = All-nil (λ chan. chan ≤ most)
low (suc n) most h = All-push (λ chan. chan ≤ most) (channels n) (suc n) (low n most (omega arith)) h

pub channels_more : (n chan : ℕ) → chan ≡ n + 1 → (0 < chan) × (¬ (Contains (channels n) chan)) × (channels (n + 1) ≡ channels n ++ chan ∷ [])
channels_more n chan e =
    let on : n + 1 ≡ suc n = omega arith in
    let is : chan ≡ suc n = omega arith in (
      omega arith,
      (λ h. let most = All-contains (λ c. c ≤ n) (channels n) chan (low n n (omega arith)) h in omega arith),
      subst (λ m. channels (n + 1) ≡ channels n ++ m ∷ []) (sym is) (subst (λ m. channels m ≡ channels n ++ suc n ∷ []) (sym on) refl),
    )
