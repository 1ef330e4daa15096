-- A text that is put together piece by piece.
use Rattle.std.proofs.Common.{◌≡◌, ℕ, List, [], ◌∷◌, ◌++◌, sym, ap, ◌∙◌, append_assoc}
use Rattle.std.specs.List.{concat}
use Rattle.std.proofs.lemmas.List.{append-nil}

-- one piece, and then the rest
and_then : (old piece rest text last : List ℕ) → text ≡ old ++ piece → last ≡ text ++ rest → last ≡ old ++ (piece ++ rest)
and_then old piece rest text last e f = f ∙ ap (λ t. t ++ rest) e ∙ append_assoc old piece rest

one : (old a text : List ℕ) → text ≡ old ++ a → text ≡ old ++ concat (a ∷ [])
one old a text e = e ∙ ap (λ t. old ++ t) (sym (append-nil a))

pub two : (old a b : List ℕ) {t u : List ℕ} → t ≡ old ++ a → u ≡ t ++ b → u ≡ old ++ concat (a ∷ b ∷ [])
two old a b {t} {u} e f = and_then old a (concat (b ∷ [])) t u e (one t b u f)

pub three : (old a b c : List ℕ) {t u v : List ℕ} → t ≡ old ++ a → u ≡ t ++ b → v ≡ u ++ c → v ≡ old ++ concat (a ∷ b ∷ c ∷ [])
three old a b c {t} {u} {v} e f g = and_then old a (concat (b ∷ c ∷ [])) t v e (two t b c f g)

pub six : (old a b c d e f : List ℕ) {t u v w x y : List ℕ} → t ≡ old ++ a → u ≡ t ++ b → v ≡ u ++ c → w ≡ v ++ d → x ≡ w ++ e → y ≡ x ++ f
    → y ≡ old ++ concat (a ∷ b ∷ c ∷ d ∷ e ∷ f ∷ [])
six old a b c d e f {t} {u} {v} {w} {x} {y} ta tb tc td te tf =
    and_then old a (concat (b ∷ c ∷ d ∷ e ∷ f ∷ [])) t y ta
    (and_then t b (concat (c ∷ d ∷ e ∷ f ∷ [])) u y tb
    (and_then u c (concat (d ∷ e ∷ f ∷ [])) v y tc (three v d e f td te tf)))
