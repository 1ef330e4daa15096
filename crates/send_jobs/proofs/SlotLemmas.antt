-- The lowest free slot.
use Rattle.std.proofs.Common.{◌≡◌, ℕ, ◌≤◌, List, length, set, true, false, Option, Some, None, refl, sym, ap, ◌∙◌, subst, ⊎_elim, arith}
use Rattle.std.specs.Prelude.{IsSome}
use Rattle.std.specs.List.{position_or_len}
use Rattle.std.proofs.lemmas.Bool.{cases_lt, cond-true, cond-false, lt-ltb, le-ltb}
use Rattle.std.proofs.lemmas.List.{set-get_or}
use Rattle.std.proofs.lemmas.List.Sums.{fails_before_first, passes_at_first}
use Rattle.send_jobs.specs.declared.attempts.Attempt.{Attempt}
use Rattle.send_jobs.specs.Slots.{attempt_in, is_free, lowest, IsLeastFree}

free_is : (slot : Option Attempt) → is_free slot ≡ true → slot ≡ None
free_is None h = refl
free_is (Some a) h = cc

taken_is : (slot : Option Attempt) → is_free slot ≡ false → IsSome slot
taken_is None h = cc
taken_is (Some a) h = refl

pub lowest_is_least : (slots : List (Option Attempt)) → IsLeastFree slots (lowest slots)
lowest_is_least slots = ⊎_elim
    (λ lt. subst (IsLeastFree slots) (sym (cond-true _ (Some (position_or_len is_free slots)) None (lt-ltb _ _ lt)))
    (lt, free_is _ (passes_at_first is_free slots None lt), λ k h. taken_is _ (fails_before_first is_free slots k None h)))
    (λ ge. subst (IsLeastFree slots) (sym (cond-false _ (Some (position_or_len is_free slots)) None (le-ltb _ _ ge)))
    (λ k d h. taken_is _ (fails_before_first is_free slots k d (omega arith))))
    (cases_lt (position_or_len is_free slots) (length slots))

-- a free slot that is set free stays as it is
pub set_free : (slots : List (Option Attempt)) (slot : ℕ) → attempt_in slots slot ≡ None → set slots slot None ≡ slots
set_free slots slot h = ap (set slots slot) (sym h) ∙ set-get_or slots slot None

some_none : (slot : Option Attempt) → IsSome slot → slot ≡ None → ⊥
some_none None h e = cc
some_none (Some a) h e = cc

least_below : (slots : List (Option Attempt)) (a b : ℕ) → IsLeastFree slots (Some a) → IsLeastFree slots (Some b) → b ≤ a
least_below slots a b h k = ⊎_elim (λ lt. absurd (some_none (attempt_in slots a) (k.2 a lt) h.1)) (λ le. le) (cases_lt a b)

-- if each slot is taken none is free
all_taken : (slots : List (Option Attempt)) (b : ℕ) → IsLeastFree slots None → IsLeastFree slots (Some b) → ⊥
all_taken slots b h k = some_none (attempt_in slots b) (h b None k.0) k.1

pub one_least : (slots : List (Option Attempt)) (a b : Option ℕ) → IsLeastFree slots a → IsLeastFree slots b → a ≡ b
one_least slots None None h k = refl
one_least slots None (Some b) h k = absurd (all_taken slots b h k)
one_least slots (Some a) None h k = absurd (all_taken slots a k h)
one_least slots (Some a) (Some b) h k =
    let up = least_below slots a b h k in
    let down = least_below slots b a k h in
    ap (λ (i : ℕ). let o : Option ℕ = Some i in o) (omega arith)
