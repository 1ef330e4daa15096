-- How many programs of a slot run.
use Rattle.std.proofs.Common.{◌≡◌, ◌≢◌, ℕ, ◌+◌, ◌≤◌, List, length, cond, set, Bool, true, false, sym, ap, ◌∙◌, subst, ⊎_elim, arith}
use Rattle.std.proofs.lemmas.Bool.{cases_eq, cases_lt, ne_eqb}
use Rattle.std.proofs.lemmas.List.{get_or_past, get_or-set_other, get_or-set_same, length-set}
use Rattle.spawner_parts.specs.Asked.{runs_in}
use Rattle.spawner_parts.specs.Counts.{one, runs}
use Rattle.spawner_parts.proofs.Tallies.{same_one}

pub other_one : (k slot : ℕ) → k ≢ slot → one k slot ≡ 0
other_one k slot apart = ap (λ b. cond b 1 0) (ne_eqb slot k (λ e. apart (sym e)))

pub own_one : (k slot : ℕ) → k ≡ slot → one k slot ≡ 1
own_one k slot e = ap (one k) (sym e) ∙ same_one k

-- Programs

most_by : (b : Bool) → cond b 1 0 ≤ 1
most_by true = omega arith
most_by false = omega arith

more_sum : (now before first : ℕ) → now ≤ 1 → first ≡ 1 → now ≤ first + before
more_sum now before first w v = omega arith

same_sum : (now before first : ℕ) → now ≡ before → now ≤ first + before
same_sum now before first w = omega arith

-- whether or not the list has such a slot
pub runs_more : (k slot : ℕ) (running : List Bool) → runs k (set running slot true) ≤ one k slot + runs k running
runs_more k slot running = ⊎_elim
    (λ (e : k ≡ slot). more_sum (runs k (set running slot true)) (runs k running) (one k slot) (most_by (runs_in (set running slot true) k)) (own_one k slot e))
    (λ (apart : k ≢ slot). same_sum (runs k (set running slot true)) (runs k running) (one k slot) (ap (λ b. cond b 1 0) (get_or-set_other running slot k true false apart)))
    (cases_eq k slot)

pub not_running : (running : List Bool) (slot : ℕ) → runs_in (set running slot false) slot ≡ false
not_running running slot = ⊎_elim
    (λ lt. get_or-set_same running slot false false lt)
    (λ past. get_or_past (set running slot false) slot false (subst (λ n. n ≤ slot) (sym (length-set running slot false)) past))
    (cases_lt slot (length running))
