-- A reader fed byte by byte, whatever it reads: what it gives on the way, and what it holds at the end.
use Rattle.std.proofs.Common.{◌≡◌, ℕ, List, [], ◌∷◌, ◌++◌, sym, ap, ◌∙◌, subst}
use Rattle.std.proofs.lemmas.List.{append-nil, append_assoc}

abbrev pub run : {I R : Type 0} → (R → ℕ → List I × R) → R → List ℕ → List I × R
run step r [] = ([], r)
run step r (b ∷ bs) = ((step r b).0 ++ (run step (step r b).1 bs).0, (run step (step r b).1 bs).1)

module _ {I R : Type 0} (step : R → ℕ → List I × R) where
  -- a byte at which nothing is given
  pub run_quiet : (r next : R) (b : ℕ) (bs : List ℕ) → step r b ≡ ([], next) → run step r (b ∷ bs) ≡ run step next bs
  run_quiet r next b bs e = ap (λ (s : List I × R). let t : List I × R = (s.0 ++ (run step s.1 bs).0, (run step s.1 bs).1) in t) e

  module _ (Has : List ℕ → List I → R → Type 0) (begin : R) (base : Has [] [] begin)
      (more : (bytes : List ℕ) (its : List I) (r : R) (b : ℕ) → Has bytes its r → Has (bytes ++ b ∷ []) (its ++ (step r b).0) (step r b).1)
      (runs : (bytes : List ℕ) (its : List I) (r : R) → Has bytes its r → run step begin bytes ≡ (its, r)) where
    grows : (bytes bs : List ℕ) (its : List I) (r : R) → Has bytes its r → Has (bytes ++ bs) (its ++ (run step r bs).0) (run step r bs).1
    grows bytes [] its r h =
        subst (λ t. Has t (its ++ []) r) (sym (append-nil bytes)) (subst (λ t. Has bytes t r) (sym (append-nil its)) h)
    grows bytes (b ∷ bs) its r h =
        subst (λ t. Has t (its ++ (run step r (b ∷ bs)).0) (run step r (b ∷ bs)).1) (append_assoc bytes (b ∷ []) bs)
        (subst (λ t. Has ((bytes ++ b ∷ []) ++ bs) t (run step r (b ∷ bs)).1) (append_assoc its (step r b).0 (run step (step r b).1 bs).0)
        (grows (bytes ++ b ∷ []) bs (its ++ (step r b).0) (step r b).1 (more bytes its r b h)))

    pub run_some : (bytes : List ℕ) → (its : List I) × (r : R) × Has bytes its r
    run_some bytes = ((run step begin bytes).0, (run step begin bytes).1, grows [] bytes [] begin base)

    pub run_one : (bytes : List ℕ) (its others : List I) (r other : R) → Has bytes its r → Has bytes others other → (its ≡ others) × (r ≡ other)
    run_one bytes its others r other h k =
        let e : (let t : List I × R = (its, r) in t) ≡ (others, other) = sym (runs bytes its r h) ∙ runs bytes others other k in
        (ap (λ (s : List I × R). s.0) e, ap (λ (s : List I × R). s.1) e)
