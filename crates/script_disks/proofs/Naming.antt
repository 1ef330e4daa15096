-- The names of which a file has notes.
use Rattle.std.proofs.Common.{◌≡◌, ℕ, ◌+◌, List, [], ◌∷◌, cond, Bool, true, false, refl, sym, ap, ◌∙◌, arith, count_by}
use Rattle.std.specs.Prelude.{◌||◌, bytes_eq, nat_lt}
use Rattle.std.specs.List.{list_any}
use Rattle.std.proofs.lemmas.Bool.{lt-ltb}
use Rattle.std.proofs.lemmas.List.Sums.{sum_by-cons}
use Rattle.bounce_record.specs.Notes.{count, notes_of}
use Rattle.bounce_record.proofs.Counting.{count_is}

any_counted : (p : List ℕ → Bool) (xs : List (List ℕ)) → nat_lt 0 (count_by p xs) ≡ list_any p xs
any_counted p [] = refl
any_counted p (x ∷ xs) = ap (nat_lt 0) (sum_by-cons (λ x. cond (p x) 1 0) x xs) ∙ by (p x) (any_counted p xs) where
  by : (b : Bool) → nat_lt 0 (count_by p xs) ≡ list_any p xs → nat_lt 0 (cond b 1 0 + count_by p xs) ≡ (b || list_any p xs)
  by true h = lt-ltb 0 (1 + count_by p xs) (omega arith)
  by false h = ap (nat_lt 0) (let same : 0 + count_by p xs ≡ count_by p xs = omega arith in same) ∙ h

pub named_in : (bytes name : List ℕ) → list_any (λ one. bytes_eq one name) (notes_of bytes) ≡ nat_lt 0 (count bytes name)
named_in bytes name = sym (ap (nat_lt 0) (count_is bytes name) ∙ any_counted (λ one. bytes_eq one name) (notes_of bytes))
