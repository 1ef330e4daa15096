-- The parts of an output.
use Rattle.std.proofs.Common.{◌≡◌, ◌≢◌, ℕ, ◌+◌, ◌-◌, ◌<◌, ◌≤◌, List, [], ◌∷◌, ◌++◌, length, get_or, take, drop, false, Option, Some, None, eqb, ltb, ⊎_elim, refl, sym, ap, ◌∙◌, arith, add-one}
use Rattle.std.specs.List.{AllByRecursion, position, position_or_len}
use Rattle.std.proofs.Math.Seq.{split_at}
use Rattle.std.proofs.lemmas.Bool.{cases_Bool, cond-true, cond-false, ne_eqb, eqb-true, eqb-false, ltb-false}
use Rattle.std.proofs.lemmas.List.{get_or-take, length-take, length-drop, take_all}
use Rattle.std.proofs.lemmas.List.Elements.{All-from_get_or, recursion_from_All}
use Rattle.std.proofs.lemmas.List.Quantifiers.{position-Some}
use Rattle.std.proofs.lemmas.List.Sums.{fails_before_first}
use Rattle.remote_spawn.specs.Parts.{parts, put_on_first}

abbrev pub Lacks : List ℕ → Type 0
Lacks text = AllByRecursion (λ b. b ≢ 0) text

-- a part and its NUL
pub one_part : (part rest : List ℕ) → Lacks part → parts (part ++ 0 ∷ rest) ≡ part ∷ parts rest
one_part [] rest h = refl
one_part (b ∷ part) rest h =
    cond-false (eqb b 0) ([] ∷ parts (part ++ 0 ∷ rest)) (put_on_first b (parts (part ++ 0 ∷ rest))) (ne_eqb b 0 h.0)
    ∙ ap (put_on_first b) (one_part part rest h.1)

pub no_part : (rest : List ℕ) → Lacks rest → parts rest ≡ []
no_part [] h = refl
no_part (b ∷ rest) h =
    cond-false (eqb b 0) ([] ∷ parts rest) (put_on_first b (parts rest)) (ne_eqb b 0 h.0) ∙ ap (put_on_first b) (no_part rest h.1)

pub cut_at_nul : (bytes : List ℕ) (at : ℕ) → position (λ b. eqb b 0) bytes ≡ Some at → parts bytes ≡ take at bytes ∷ parts (drop (at + 1) bytes)
cut_at_nul bytes at e =
    let found = position-Some (λ b. eqb b 0) bytes at 0 e in
    let inside = found.0 in
    let here : get_or bytes at 0 ≡ 0 = eqb-true (get_or bytes at 0) 0 found.1 in
    let whole : bytes ≡ take at bytes ++ 0 ∷ drop (at + 1) bytes = rw (add-one, ← here) (split_at bytes at 0 inside) in
    ap parts whole ∙ one_part (take at bytes) (drop (at + 1) bytes) (before found.2 inside)
  where
    before : ((k : ℕ) → k < at → eqb (get_or bytes k 0) 0 ≡ false) → at < length bytes → Lacks (take at bytes)
    before none inside =
        recursion_from_All (λ b. b ≢ 0) (take at bytes)
        (All-from_get_or (λ b. b ≢ 0) (take at bytes) 0
        (λ k lt same. let near : k < at = omega (arith, length-take at bytes) in
        eqb-false (get_or bytes k 0) 0 (none k near) (sym (get_or-take at bytes k 0 near) ∙ same)))

-- the same, as code cuts it
pub cut_by : (bytes : List ℕ) (at : ℕ) → position (λ b. eqb b 0) bytes ≡ Some at → parts bytes ≡ take at bytes ∷ parts (take (length bytes - (at + 1)) (drop (at + 1) bytes))
cut_by bytes at e = rw all_after (cut_at_nul bytes at e)
  where
    all_after : take (length bytes - (at + 1)) (drop (at + 1) bytes) ≡ drop (at + 1) bytes
    all_after = take_all (length bytes - (at + 1)) (drop (at + 1) bytes) (omega (arith, length-drop (at + 1) bytes))

-- no NUL at all
pub uncut : (bytes : List ℕ) → position (λ b. eqb b 0) bytes ≡ None → parts bytes ≡ []
uncut bytes e =
    no_part bytes (recursion_from_All (λ b. b ≢ 0) bytes
    (All-from_get_or (λ b. b ≢ 0) bytes 0 (λ k lt. eqb-false (get_or bytes k 0) 0 (fails_before_first (λ b. eqb b 0) bytes k 0 (omega (arith, past))))))
  where
    none_some : (n : ℕ) → ◌≡◌ {A = Option ℕ} (Some n) None → ⊥
    none_some n f = absurd (cc)

    past : length bytes ≤ position_or_len (λ b. eqb b 0) bytes
    past = ⊎_elim
        (λ inside. absurd (none_some (position_or_len (λ b. eqb b 0) bytes)
        (sym (cond-true (ltb (position_or_len (λ b. eqb b 0) bytes) (length bytes)) (Some (position_or_len (λ b. eqb b 0) bytes)) None inside) ∙ e)))
        (λ out. ltb-false (position_or_len (λ b. eqb b 0) bytes) (length bytes) out)
        (cases_Bool (ltb (position_or_len (λ b. eqb b 0) bytes) (length bytes)))
