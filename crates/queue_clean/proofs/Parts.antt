-- Parts of lists.
use Rattle.std.proofs.Common.{◌≡◌, ℕ, ◌+◌, ◌-◌, ◌≤◌, min, List, ◌++◌, length, take, drop, sym, ap, ◌∙◌, ⊎_elim, arith, length-take, length-append}
use Rattle.std.proofs.Math.Seq.{take-append-add}
use Rattle.std.proofs.lemmas.Bool.{cases_lt}
use Rattle.std.proofs.lemmas.List.{take_all, take-take, drop-drop, drop-take}

-- the first of what stands between two places were read
pub passed : (bytes old : List ℕ) (from to count : ℕ) → take (to - from) (drop from bytes) ≡ old → from ≤ to → count ≤ length old
    → take (to - (from + count)) (drop (from + count) bytes) ≡ drop count old
passed bytes old from to count e order within =
    let rest : List ℕ = drop from bytes in
    let long : length old ≡ min (to - from) (length rest) = ap length (sym e) ∙ length-take (to - from) rest in
    let left : ℕ = to - (from + count) in
    let whole : count + left ≡ to - from = omega arith in
    ap (take left) (sym (drop-drop count from bytes)) ∙ sym (drop-take count left rest) ∙ ap (λ n. drop count (take n rest)) whole ∙ ap (drop count) e

-- a word and what fits of more bytes are the first 100 of both
pub kept_is : (word pending : List ℕ) (count room : ℕ) → length word ≤ 100 → room ≡ min count (100 - length word) → word ++ take room pending ≡ take 100 (word ++ take count pending)
kept_is word pending count room short e =
    let more : List ℕ = take count pending in
    let size : length more ≡ min count (length pending) = length-take count pending in
    let all : length (word ++ more) ≡ length word + length more = length-append word more in
    ⊎_elim
    (λ long.
    let left : ℕ = 100 - length word in
    let cut : room ≡ left = omega arith in
    let hundred : length word + left ≡ 100 = omega arith in
    ap (λ n. word ++ take n pending) cut
    ∙ ap (λ (p : List ℕ). word ++ p) (sym (take-take left count pending (omega arith)))
    ∙ sym (take-append-add word more left)
    ∙ ap (λ n. take n (word ++ more)) hundred)
    (λ fits.
    let same : room ≡ count = omega arith in
    ap (λ n. word ++ take n pending) same ∙ sym (take_all 100 (word ++ more) (omega arith)))
    (cases_lt 100 (length word + count))
