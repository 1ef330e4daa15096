-- The names of a directory come to an end.
use Rattle.std.proofs.Common.{◌≡◌, ℕ, ◌+◌, ◌<◌, ◌≤◌, List, [], ◌∷◌, ◌++◌, Some, IsSome, Bool, true, false, cond, bytes_eq, nat_cmp, Ordering, Less, Equal, Greater, refl, sym, ◌∙◌, ap, arith}
use Rattle.std.specs.Cmp.Lexicographic.{slice_cmp}
use Rattle.std.specs.Ordering.{is_lt}
use Rattle.std.proofs.lemmas.Cmp.{nat_list_cmp_total, tied_itself}
use Rattle.std.proofs.lemmas.Bool.{false≢true}
use Rattle.std.proofs.lemmas.Slice.Eq.{bytes_eq-Decides}
use Rattle.mem_fs.specs.Tables.{at_name}
use Rattle.mem_fs.proofs.Parts.{slice_cmp-prefix}

-- an entry stands after this name
abbrev pub is_after : List ℕ → List ℕ × ℕ → Bool
is_after limit entry = is_lt (slice_cmp nat_cmp limit entry.0)

-- how many do
abbrev pub count_after : List ℕ → List (List ℕ × ℕ) → ℕ
count_after limit [] = 0
count_after limit (entry ∷ names) = cond (is_after limit entry) 1 0 + count_after limit names

-- no text stands after itself
not-after-itself : (text : List ℕ) → is_lt (slice_cmp nat_cmp text text) ≡ false
not-after-itself text = ap is_lt (tied_itself nat_list_cmp_total text)

less-from : (o : Ordering) → is_lt o ≡ true → o ≡ Less
less-from Less h = refl
less-from Equal h = absurd (false≢true h)
less-from Greater h = absurd (false≢true h)

-- what stands after a name stands after each one before it
after-both : (low high text : List ℕ) → slice_cmp nat_cmp low high ≡ Less → is_lt (slice_cmp nat_cmp high text) ≡ true → is_lt (slice_cmp nat_cmp low text) ≡ true
after-both low high text less h = ap is_lt (nat_list_cmp_total.trans low high text less (less-from (slice_cmp nat_cmp high text) h))

at-most : (a b : Bool) (m n : ℕ) → (a ≡ true → b ≡ true) → m ≤ n → cond a 1 0 + m ≤ cond b 1 0 + n
at-most true true m n h le = omega arith
at-most true false m n h le = absurd (false≢true (h refl))
at-most false true m n h le = omega arith
at-most false false m n h le = omega arith

fewer-by : (a b : Bool) (m n : ℕ) → (a ≡ true → b ≡ true) → m < n → cond a 1 0 + m < cond b 1 0 + n
fewer-by true true m n h le = omega arith
fewer-by true false m n h le = absurd (false≢true (h refl))
fewer-by false true m n h le = omega arith
fewer-by false false m n h le = omega arith

no-more : (low high : List ℕ) (names : List (List ℕ × ℕ)) → slice_cmp nat_cmp low high ≡ Less → count_after high names ≤ count_after low names
no-more low high [] less = omega arith
no-more low high (e ∷ names) less =
    at-most (is_after high e) (is_after low e) (count_after high names) (count_after low names) (after-both low high e.0 less) (no-more low high names less)

-- after a name that is there fewer stand than after one before it
fewer-here : (low high : List ℕ) (e : List ℕ × ℕ) (names : List (List ℕ × ℕ)) → slice_cmp nat_cmp low high ≡ Less → high ≡ e.0 → count_after high (e ∷ names) < count_after low (e ∷ names)
fewer-here low high e names less here =
    let not_after : is_after high e ≡ false = ap (λ t. is_lt (slice_cmp nat_cmp t e.0)) here ∙ not-after-itself e.0 in
    let after : is_after low e ≡ true = ap (λ t. is_lt (slice_cmp nat_cmp low t)) (sym here) ∙ ap is_lt less in
    let rest = no-more low high names less in
    rw (not_after, after) (omega arith)

fewer-by-case : (b : Bool) (low high : List ℕ) (e : List ℕ × ℕ) (names : List (List ℕ × ℕ)) → bytes_eq high e.0 ≡ b → slice_cmp nat_cmp low high ≡ Less → IsSome (cond b (Some e.1) (at_name names high)) → (IsSome (at_name names high) → count_after high names < count_after low names) → count_after high (e ∷ names) < count_after low (e ∷ names)
fewer-by-case true low high e names same less there more = fewer-here low high e names less ((bytes_eq-Decides high e.0).0 same)
fewer-by-case false low high e names same less there more =
    fewer-by (is_after high e) (is_after low e) (count_after high names) (count_after low names) (after-both low high e.0 less) (more there)

fewer : (low high : List ℕ) (names : List (List ℕ × ℕ)) → slice_cmp nat_cmp low high ≡ Less → IsSome (at_name names high) → count_after high names < count_after low names
fewer low high [] less there = absurd (false≢true there)
fewer low high (e ∷ names) less there = fewer-by-case (bytes_eq high e.0) low high e names refl less there (λ rest. fewer low high names less rest)

-- so the names of a directory come to an end
pub fewer_names : (dir last name : List ℕ) (names : List (List ℕ × ℕ)) → slice_cmp nat_cmp last name ≡ Less → IsSome (at_name names (dir ++ 47 ∷ name)) → count_after (dir ++ 47 ∷ name) names < count_after (dir ++ 47 ∷ last) names
fewer_names dir last name names less there = fewer (dir ++ 47 ∷ last) (dir ++ 47 ∷ name) names (slice_cmp-prefix dir (47 ∷ last) (47 ∷ name) ∙ slice_cmp-prefix (47 ∷ []) last name ∙ less) there
