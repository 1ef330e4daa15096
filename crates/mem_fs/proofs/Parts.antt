-- A name as a directory, a `/` and a part, and the order of such names.
use Rattle.std.proofs.Common.{◌≡◌, ℕ, ◌+◌, true, false, nat_eq, Some, List, [], ◌∷◌, ◌++◌, length, drop, take, get_or, min, bytes_eq, nat_cmp, Ordering, Less, Equal, Greater, refl, sym, ap, ◌∙◌, take-append-drop, arith}
use Rattle.std.proofs.lemmas.Bool.Decides.{Decides-eqb}
use Rattle.std.proofs.lemmas.List.{take_min, drop_min, drop_more}
use Rattle.std.proofs.lemmas.List.Quantifiers.{position-Some}
use Rattle.std.specs.Prelude.{position}
use Rattle.std.specs.Cmp.Lexicographic.{slice_cmp}
use Rattle.std.specs.Ordering.{ordering_then}
use Rattle.std.proofs.lemmas.Cmp.{nat_list_eq_equiv, nat_cmp_total, tied_itself}
use Rattle.std.proofs.Math.Seq.{take-append_seam, drop-append_seam}
use Rattle.call_fs.proofs.Maps.{bytes_eq-decides}

pub same_part : (dir p q : List ℕ) → dir ++ 47 ∷ p ≡ dir ++ 47 ∷ q → p ≡ q
same_part dir p q e = let rest : 47 ∷ p ≡ 47 ∷ q = sym (drop-append_seam dir (47 ∷ p)) ∙ ap (drop (length dir)) e ∙ drop-append_seam dir (47 ∷ q) in cc

pub not_prefix : (dir name part : List ℕ) → bytes_eq (take (length dir) name) dir ≡ false → name ≡ dir ++ 47 ∷ part → ⊥
not_prefix dir name part differs e =
    let yes : bytes_eq (take (length dir) name) dir ≡ true = ap (λ n. bytes_eq (take (length dir) n) dir) e ∙ ap (λ x. bytes_eq x dir) (take-append_seam dir (47 ∷ part)) ∙ nat_list_eq_equiv.refl dir in
    cc

pub prefix_is : (dir name part : List ℕ) → bytes_eq (take (length dir) name) dir ≡ true → drop (length dir) name ≡ 47 ∷ part → name ≡ dir ++ 47 ∷ part
prefix_is dir name part front rest =
    sym (take-append-drop (length dir) name)
    ∙ ap (λ (x : List ℕ). x ++ drop (length dir) name) ((bytes_eq-decides (take (length dir) name) dir).0 front)
    ∙ ap (λ (x : List ℕ). dir ++ x) rest

-- what stands before the first `/`, and after it
pub at_slash : (text : List ℕ) (at : ℕ) → position (λ b. nat_eq b 47) text ≡ Some at → text ≡ take at text ++ 47 ∷ drop (at + 1) text
at_slash text at found =
    let place = position-Some (λ b. nat_eq b 47) text at 47 found in
    sym (take-append-drop at text)
    ∙ ap (λ (x : List ℕ). take at text ++ x) (drop_more text at 47 place.0 ∙ ap (λ (b : ℕ). b ∷ drop (at + 1) text) ((Decides-eqb (get_or text at 47) 47).0 place.1))

then_assoc : (a b c : Ordering) → ordering_then a (ordering_then b c) ≡ ordering_then (ordering_then a b) c
then_assoc Less b c = refl
then_assoc Equal b c = refl
then_assoc Greater b c = refl

-- a text compares with two texts in a row as its prefix does with the first, and then its rest with the second
pub slice_cmp-append : (name front rest : List ℕ) → slice_cmp nat_cmp name (front ++ rest) ≡ ordering_then (slice_cmp nat_cmp (take (length front) name) front) (slice_cmp nat_cmp (drop (length front) name) rest)
slice_cmp-append name [] rest = refl
slice_cmp-append [] (y ∷ front) rest = refl
slice_cmp-append (x ∷ name) (y ∷ front) rest =
    ap (ordering_then (nat_cmp x y)) (slice_cmp-append name front rest)
    ∙ then_assoc (nat_cmp x y) (slice_cmp nat_cmp (take (length front) name) front) (slice_cmp nat_cmp (drop (length front) name) rest)

-- parts of one directory compare as their names do
pub slice_cmp-prefix : (front p q : List ℕ) → slice_cmp nat_cmp (front ++ p) (front ++ q) ≡ slice_cmp nat_cmp p q
slice_cmp-prefix [] p q = refl
slice_cmp-prefix (x ∷ front) p q =
    ap (λ r. ordering_then r (slice_cmp nat_cmp (front ++ p) (front ++ q))) (tied_itself nat_cmp_total x) ∙ slice_cmp-prefix front p q

pub take_least : (xs ys : List ℕ) → take (min (length xs) (length ys)) xs ≡ take (length ys) xs
take_least xs ys = ap (λ n. take n xs) (omega arith) ∙ take_min (length ys) xs

pub drop_least : (xs ys : List ℕ) → drop (min (length xs) (length ys)) xs ≡ drop (length ys) xs
drop_least xs ys = ap (λ n. drop n xs) (omega arith) ∙ drop_min (length ys) xs
