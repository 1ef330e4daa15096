-- Tests of texts, numbers and names: each says yes or no, and what that tells.
use Rattle.std.proofs.Common.{◌≡◌, ◌≢◌, ◌⊎◌, inl, inr, ℕ, List, Bool, true, false, Option, Some, None, refl, ap, ⊎_elim, bytes_eq, Decides}
use Rattle.std.proofs.lemmas.Bool.Decides.{eqb_tells}
use Rattle.std.proofs.lemmas.Slice.Eq.{bytes_eq-Decides}
use Rattle.std.specs.Prelude.{if◌then◌else◌}
use Rattle.queue_paths.specs.Names.{Name, path}
use Rattle.queue_paths.proofs.Paths.{path_injective}

pub off : false ≡ true → ⊥
off e = cc

choose : (b : Bool) {P : Type 0} → Decides b P → (P × (b ≡ true)) ⊎ ((P → ⊥) × (b ≡ false))
choose true h = inl (h.0 refl, refl)
choose false h = inr ((λ p. absurd (cc (h.1 p))), refl)

-- whether a text is another one
pub text_cases : (q k : List ℕ) → ((q ≡ k) × (bytes_eq q k ≡ true)) ⊎ ((q ≢ k) × (bytes_eq q k ≡ false))
text_cases q k = choose (bytes_eq q k) (bytes_eq-Decides q k)

pub same_text : (p : List ℕ) → bytes_eq p p ≡ true
same_text p = (bytes_eq-Decides p p).1 refl

pub other_text : (q k : List ℕ) → q ≢ k → bytes_eq q k ≡ false
other_text q k apart = ⊎_elim (λ h. absurd (apart h.0)) (λ h. h.1) (text_cases q k)

pub unless_same : {V : Type 0} (p q : List ℕ) (v w : V) → p ≢ q → (if bytes_eq p q then v else w) ≡ w
unless_same p q v w apart = ap (λ (b : Bool). if b then v else w) (other_text p q apart)

-- whether an optional number is this one
pub tells_number : (m : Option ℕ) (n : ℕ) → (m ≡ Some n) ⊎ (m ≢ Some n)
tells_number None n = inr (λ h. cc)
tells_number (Some k) n = ⊎_elim (λ w. inl (ap Some w.1)) (λ w. inr (λ h. w.1 (cc))) (eqb_tells k n)

-- whether a name is another one, by their texts
pub tells_name : (x y : Name) → (y ≡ x) ⊎ (y ≢ x)
tells_name x y = ⊎_elim (λ h. inl (path_injective y x h.0)) (λ h. inr (λ e. h.0 (ap path e))) (text_cases (path y) (path x))
