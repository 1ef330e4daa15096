-- A map whose keys are texts, as a function of the text.
use Rattle.std.proofs.Common.{◌≡◌, ◌≢◌, ◌⊎◌, inl, inr, ℕ, List, Bool, true, false, Option, Some, refl, sym, ap, ◌∙◌, ⊎_elim, bytes_eq, nat_cmp, Decides}
use Rattle.std.proofs.lemmas.Map.Text.{is_eq-slice_cmp}
use Rattle.std.specs.BTreeMap.{BTreeMap, UpdatesBy, get_by, is_at}
use Rattle.std.specs.Map.{KeepsOthers, IsKeyTest, AreApart}
use Rattle.std.specs.Ordering.{eq_by_cmp}
use Rattle.std.specs.Cmp.Lexicographic.{slice_cmp}
use Rattle.call_fs.specs.Maps.{put_at}
use Rattle.call_fs.proofs.Maps.{put_at_same, put_at_other, bytes_eq-decides}

choose : (b : Bool) {P : Type 0} → Decides b P → (P × (b ≡ true)) ⊎ ((P → ⊥) × (b ≡ false))
choose true h = inl (h.0 refl, refl)
choose false h = inr ((λ p. absurd (cc (h.1 p))), refl)

-- whether a text is another one
text_cases : (q k : List ℕ) → ((q ≡ k) × (bytes_eq q k ≡ true)) ⊎ ((q ≢ k) × (bytes_eq q k ≡ false))
text_cases q k = choose (bytes_eq q k) (bytes_eq-decides q k)

other_text : (q k : List ℕ) → q ≢ k → bytes_eq q k ≡ false
other_text q k apart = ⊎_elim (λ h. absurd (apart h.0)) (λ h. h.1) (text_cases q k)

-- by their texts
by_text : {K : Type 0} → (K → List ℕ) → BTreeMap K ℕ → List ℕ → Option ℕ
by_text text m q = get_by (λ k. slice_cmp nat_cmp q (text k)) m

-- two equal texts
same_texts : (q k : List ℕ) → bytes_eq q k ≡ true → q ≡ k
same_texts q k h = ⊎_elim (λ f. f.0) (λ f. absurd (cc (sym h ∙ f.1))) (text_cases q k)

pub text_put : {K : Type 0} (text : K → List ℕ) (m n : BTreeMap K ℕ) (key : K) (name : List ℕ) (v : ℕ)
    → UpdatesBy (λ x y. slice_cmp nat_cmp (text x) (text y)) (λ k. slice_cmp nat_cmp (text key) (text k)) m n (Some v)
    → text key ≡ name → (q : List ℕ)
    → get_by (λ k. slice_cmp nat_cmp q (text k)) n ≡ put_at (λ a. get_by (λ k. slice_cmp nat_cmp a (text k)) m) name (Some v) q
unfolding KeepsOthers
text_put {K} text m n key name v updates is q = ⊎_elim
    (λ f. ap (λ (a : List ℕ). get_by (λ k. slice_cmp nat_cmp a (text k)) n) (f.0 ∙ sym is) ∙ updates.1 ∙ sym (ap (put_at (λ a. get_by (λ k. slice_cmp nat_cmp a (text k)) m) name (Some v)) f.0 ∙ put_at_same (λ a. get_by (λ k. slice_cmp nat_cmp a (text k)) m) name (Some v)))
    (λ f. updates.3 (is_at (λ k. slice_cmp nat_cmp q (text k))) tests (apart f.0) ∙ sym (put_at_other (λ a. get_by (λ k. slice_cmp nat_cmp a (text k)) m) name (Some v) q f.0))
    (text_cases q name) where
      tests : IsKeyTest (eq_by_cmp (λ x y. slice_cmp nat_cmp (text x) (text y))) (is_at (λ k. slice_cmp nat_cmp q (text k)))
      tests x y h = ap (λ (a : List ℕ). is_at (λ k. slice_cmp nat_cmp a (text k)) y) (same_texts q (text x) (sym (is_eq-slice_cmp q (text x)) ∙ h))

      apart : q ≢ name → AreApart (is_at (λ k. slice_cmp nat_cmp (text key) (text k))) (is_at (λ k. slice_cmp nat_cmp q (text k)))
      apart other k h = is_eq-slice_cmp q (text k) ∙ other_text q (text k) (λ e. other (e ∙ sym (same_texts (text key) (text k) (sym (is_eq-slice_cmp (text key) (text k)) ∙ h)) ∙ is))
