-- Lists of pairs in order of their numbers.
use Rattle.std.proofs.Common.{◌≡◌, ⊎_elim, ℕ, ◌+◌, ◌-◌, ◌<◌, ◌≤◌, Bool, cond, List, length, get_or, set, Some, None, IsSome, Result, Ok, Err, IsOk, nat_eq, nat_cmp, count_by, length-set, refl, sym, ap, ◌∙◌, arith}
use Rattle.std.specs.List.{insert, remove}
use Rattle.std.specs.Cmp.{nat_cmp_total}
use Rattle.std.proofs.lemmas.Bool.Decides.{Decides-eqb}
use Rattle.std.proofs.lemmas.Bool.{cases_lt, cases_eq}
use Rattle.std.proofs.lemmas.Map.Lookups.{exact_unsigned}
use Rattle.std.proofs.lemmas.List.Sums.{sum_by-insert, sum_by-remove}
use Rattle.std.proofs.lemmas.List.Edits.{length-insert, get_or-insert_below, get_or-insert_at, get_or-insert_above, length-remove, get_or-remove_below, get_or-remove_above}
use Rattle.call_fs.specs.Maps.{put}
use Rattle.mem_files.specs.Tables.{at_number, AreNumbersInOrder, IsAt, IsGapFor, IsPlace}
use Rattle.call_fs.proofs.Maps.{is_put}
use Rattle.mem_files.proofs.Tables.{NoneBefore, NoneBehind, lookup-absent, lookup-at, lookup-insert, lookup-set, lookup-remove, none_before_at, none_behind_at, none_in_gap, in_order-insert, in_order-set, in_order-remove, key-set}

module _ {V : Type 0} (es : List (ℕ × V)) (ordered : AreNumbersInOrder es) (k : ℕ) where
  none_before : (i : ℕ) → IsAt es k i → NoneBefore es k i
  none_before i at = none_before_at nat_cmp nat_cmp_total exact_unsigned es ordered.in_order k i at

  none_behind : (i : ℕ) → IsAt es k i → NoneBehind es k i
  none_behind i at = none_behind_at nat_cmp nat_cmp_total exact_unsigned es ordered.in_order k i at

  pub number-at : (i : ℕ) → IsAt es k i → (d : ℕ × V) → at_number es k ≡ Some (get_or es i d).1
  number-at i at d = lookup-at nat_eq Decides-eqb es k i at (none_before i at) d

  pub numbers-set : (i : ℕ) → IsAt es k i → (v : V) → AreNumbersInOrder (set es i (k, v))
  numbers-set i at v = record {
    in_order = in_order-set nat_cmp es ordered.in_order k v i at;
    positive = λ j d lt. let same = key-set nat_cmp es k v i at j d in let size = length-set es i (k, v) in omega (arith, ordered.positive j d (omega arith));
  }

  pub number-set : (i : ℕ) → IsAt es k i → (v : V) → at_number (set es i (k, v)) ≡ put (at_number es) k (Some v)
  number-set i at v = is_put (at_number es) (at_number (set es i (k, v))) k (Some v) (lookup-set nat_eq Decides-eqb es k v i at (none_before i at))

  pub numbers-remove : (i : ℕ) → i < length es → AreNumbersInOrder (remove es i)
  numbers-remove i within = record {
    in_order = in_order-remove nat_cmp es ordered.in_order i within;
    positive = λ j d lt.
        let size = length-remove es i within in
        let key : ℕ × V → ℕ = λ e. e.0 in
        ⊎_elim
        (λ low. let same = ap key (get_or-remove_below es i d j low within) in omega (arith, ordered.positive j d (omega arith)))
        (λ high. let same = ap key (get_or-remove_above es i d j high within) in omega (arith, ordered.positive (j + 1) d (omega arith)))
        (cases_lt j i);
  }

  pub number-remove : (i : ℕ) → IsAt es k i → at_number (remove es i) ≡ put (at_number es) k None
  number-remove i at = is_put (at_number es) (at_number (remove es i)) k None (lookup-remove nat_eq Decides-eqb es k i at (none_before i at) (none_behind i at))

  pub count-remove : (test : ℕ × V → Bool) (i : ℕ) → IsAt es k i → (v : V) → at_number es k ≡ Some v → count_by test es ≡ count_by test (remove es i) + cond (test (k, v)) 1 0
  count-remove test i at v found =
      let item : get_or es i (k, v) ≡ (k, v) = pair_is (get_or es i (k, v)) (at.has_key (k, v)) (let e = number-at i at (k, v) in cc) in
      sym (sum_by-remove (λ x. cond (test x) 1 0) es i (k, v) at.within) ∙ ap (λ x. count_by test (remove es i) + cond (test x) 1 0) item
    where
      pair_is : (x : ℕ × V) {v : V} → x.0 ≡ k → x.1 ≡ v → x ≡ (k, v)
      pair_is x {v} p q = ap (λ (n : ℕ). (n, x.1)) p ∙ ap (λ (w : V). (k, w)) q

  pub number-gap : (i : ℕ) → IsGapFor nat_cmp es k i → at_number es k ≡ None
  number-gap i gap = lookup-absent nat_eq Decides-eqb es k (none_in_gap nat_cmp nat_cmp_total exact_unsigned es k i gap)

  pub numbers-insert : (i : ℕ) → IsGapFor nat_cmp es k i → 1 ≤ k → (v : V) → AreNumbersInOrder (insert es i (k, v))
  numbers-insert i gap positive v = record {
    in_order = in_order-insert nat_cmp es ordered.in_order k v i gap;
    positive = λ j d lt.
        let size = length-insert es i (k, v) gap.within in
        let key : ℕ × V → ℕ = λ e. e.0 in
        ⊎_elim
        (λ low. let same = ap key (get_or-insert_below es i (k, v) d j low gap.within) in omega (arith, ordered.positive j d (omega (arith, gap.within))))
        (λ high. ⊎_elim
        (λ (is : j ≡ i). let same = ap (λ n. (get_or (insert es i (k, v)) n d).0) is ∙ ap key (get_or-insert_at es i (k, v) d gap.within) in omega arith)
        (λ differs. let up : j ≡ j - 1 + 1 = omega arith in
        let same = ap (λ n. (get_or (insert es i (k, v)) n d).0) up ∙ ap key (get_or-insert_above es i (k, v) d (j - 1) (omega arith) gap.within) in
        omega (arith, ordered.positive (j - 1) d (omega arith)))
        (cases_eq j i))
        (cases_lt j i);
  }

  pub number-insert : (i : ℕ) → IsGapFor nat_cmp es k i → (v : V) → at_number (insert es i (k, v)) ≡ put (at_number es) k (Some v)
  number-insert i gap v = is_put (at_number es) (at_number (insert es i (k, v))) k (Some v)
      (lookup-insert nat_eq Decides-eqb es k v i (λ j d lt within. none_in_gap nat_cmp nat_cmp_total exact_unsigned es k i gap j d within within))

  pub count-insert : (test : ℕ × V → Bool) (i : ℕ) (v : V) → count_by test (insert es i (k, v)) ≡ count_by test es + cond (test (k, v)) 1 0
  count-insert test i v = sum_by-insert (λ x. cond (test x) 1 0) es i (k, v)

  -- a number that has a value is found
  pub found_number : (r : Result ℕ ℕ) → IsPlace nat_cmp es k r → IsSome (at_number es k) → IsOk r
  found_number (Ok i) place there = refl
  found_number (Err i) place there = let none = number-gap i place in absurd cc
