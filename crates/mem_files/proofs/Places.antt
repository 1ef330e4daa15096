-- Places with the values that they were given.
use Rattle.std.proofs.Common.{◌≡◌, ℕ, ◌+◌, ◌<◌, List, [], ◌∷◌, ◌++◌, length, get_or, take, suc, ap, ◌∙◌, append_assoc, sym, arith}
use Rattle.std.proofs.lemmas.List.{length-take-le}
use Rattle.std.proofs.Math.Seq.{take-suc}
use Rattle.std.specs.List.{enumerate_from}

-- one place more
enumerated-more : (at : ℕ) (xs : List ℕ) (x : ℕ) → enumerate_from at (xs ++ x ∷ []) ≡ enumerate_from at xs ++ (at + length xs, x) ∷ []
enumerated-more at [] x = let e : at ≡ at + 0 = omega arith in ap (λ (n : ℕ). (n, x) ∷ []) e
enumerated-more at (y ∷ xs) x =
    let e : at + 1 + length xs ≡ at + length (y ∷ xs) = omega arith in
    ap (λ (ps : List (ℕ × ℕ)). (at, y) ∷ ps) (enumerated-more (at + 1) xs x ∙ ap (λ (n : ℕ). enumerate_from (at + 1) xs ++ (n, x) ∷ []) e)

-- the next byte is given to the next place
pub next_place : (given : List (ℕ × ℕ)) (at : ℕ) (bytes : List ℕ) (index d : ℕ) → index < length bytes
    → (given ++ enumerate_from at (take index bytes)) ++ (at + index, get_or bytes index d) ∷ [] ≡ given ++ enumerate_from at (take (index + 1) bytes)
next_place given at bytes index d within =
    let b = get_or bytes index d in
    let size : length (take index bytes) ≡ index = length-take-le index bytes (omega arith) in
    let count : suc index ≡ index + 1 = omega arith in
    append_assoc given (enumerate_from at (take index bytes)) ((at + index, b) ∷ [])
    ∙ ap (λ (ps : List (ℕ × ℕ)). given ++ ps)
    (ap (λ (n : ℕ). enumerate_from at (take index bytes) ++ (at + n, b) ∷ []) (sym size)
    ∙ sym (enumerated-more at (take index bytes) b)
    ∙ ap (enumerate_from at) (sym (take-suc bytes index d within) ∙ ap (λ (n : ℕ). take n bytes) count))
