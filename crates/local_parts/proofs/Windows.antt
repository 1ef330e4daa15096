-- Parts of bytes that come one after the other.
use Rattle.std.proofs.Common.{◌≡◌, ℕ, ◌+◌, ◌-◌, ◌≤◌, List, ◌++◌, length, take, drop, sym, ap, ◌∙◌, ⊎_elim, arith, length-append, length-take}
use Rattle.std.proofs.lemmas.Bool.{cases_lt}
use Rattle.std.proofs.lemmas.List.{append-nil, take_all, drop_all, take-append-le, drop-append-le}
use Rattle.std.proofs.Math.Seq.{take-append-add, drop-append-add}

-- what is left of a number that was passed
over : (n m : ℕ) → m ≤ n → n ≡ m + (n - m)
over n m le = omega arith

pub take_append : (n : ℕ) (a b : List ℕ) → take n (a ++ b) ≡ take n a ++ take (n - length a) b
take_append n a b = ⊎_elim
    (λ lt.
    let le : n ≤ length a = omega arith in
    let none : n - length a ≡ 0 = omega arith in
    take-append-le n a b le ∙ sym (append-nil (take n a)) ∙ ap (λ k. take n a ++ take k b) (sym none))
    (λ ge.
    ap (λ k. take k (a ++ b)) (over n (length a) ge) ∙ take-append-add a b (n - length a) ∙ ap (λ t. t ++ take (n - length a) b) (sym (take_all n a ge)))
    (cases_lt n (length a))

pub drop_append : (n : ℕ) (a b : List ℕ) → drop n (a ++ b) ≡ drop n a ++ drop (n - length a) b
drop_append n a b = ⊎_elim
    (λ lt.
    let le : n ≤ length a = omega arith in
    let none : n - length a ≡ 0 = omega arith in
    drop-append-le n a b le ∙ ap (λ k. drop n a ++ drop k b) (sym none))
    (λ ge.
    ap (λ k. drop k (a ++ b)) (over n (length a) ge) ∙ drop-append-add a b (n - length a) ∙ ap (λ t. t ++ drop (n - length a) b) (sym (drop_all n a ge)))
    (cases_lt n (length a))

-- the part of two texts is the part of the first, and then what is wanted of the second
pub window_more : (from count : ℕ) (a b : List ℕ)
    → take count (drop from (a ++ b)) ≡ take count (drop from a) ++ take (count - length (take count (drop from a))) (drop (from - length a) b)
window_more from count a b =
    let x = drop from a in
    let y = drop (from - length a) b in
    let short = length-take count x in
    let same : count - length x ≡ count - length (take count x) = omega (arith, short) in
    ap (take count) (drop_append from a b) ∙ take_append count x y ∙ ap (λ k. take count x ++ take k y) same

-- the same for what was taken of the first, and what is still to be passed over and to be taken
pub cut_more : (from count : ℕ) (a b whole taken more : List ℕ) (skip left later rest : ℕ) → taken ≡ take count (drop from a) → skip ≡ from - length a
    → left ≡ count - length (take count (drop from a)) → whole ≡ a ++ b → more ≡ take left (drop skip b) → later ≡ skip - length b → rest ≡ left - length more
    → (taken ++ more ≡ take count (drop from whole)) × (later ≡ from - length whole) × (rest ≡ count - length (take count (drop from whole)))
cut_more from count a b whole taken more skip left later rest is s l w m p r =
    let here = take count (drop from a) in
    let next : more ≡ take (count - length here) (drop (from - length a) b) = m ∙ ap (λ n. take n (drop skip b)) l ∙ ap (λ n. take (count - length here) (drop n b)) s in
    let all : take count (drop from whole) ≡ here ++ more = ap (λ t. take count (drop from t)) w ∙ window_more from count a b ∙ ap (λ t. here ++ t) (sym next) in
    let size = ap length w ∙ length-append a b in
    let sum = ap length all ∙ length-append here more in
    (ap (λ t. t ++ more) is ∙ sym all, omega (arith, s, p, size), omega (arith, l, r, sum))
