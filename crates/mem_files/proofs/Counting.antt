-- The least number that is missing from a list in order, and the greatest.
use Rattle.std.proofs.Common.{◌≡◌, ◌≢◌, ⊎_elim, ℕ, ◌+◌, ◌-◌, ◌<◌, ◌≤◌, List, length, get_or, Option, Some, None, Less, nat_eq, sym, ap, ◌∙◌, subst, arith}
use Rattle.std.proofs.lemmas.Bool.Decides.{Decides-eqb}
use Rattle.std.proofs.lemmas.Bool.{cases_lt, cases_eq}
use Rattle.std.proofs.lemmas.Cmp.{ranked}
use Rattle.std.proofs.lemmas.List.{get_or_default}
use Rattle.std.specs.Option.{SomeIff, IfSome}
use Rattle.mem_files.specs.Tables.{at_number, AreNumbersInOrder}
use Rattle.mem_files.proofs.Tables.{some_entry, lookup-absent}
use Rattle.mem_files.proofs.NumberTable.{number-at}

-- the first i numbers are those from 1 on
abbrev pub AreFrom1 : {V : Type 0} → List (ℕ × V) → ℕ → Type 0
AreFrom1 {V} es i = (j : ℕ) (d : ℕ × V) → j < i → (get_or es j d).0 ≡ j + 1

-- the numbers from place i on are the last ones below this end
abbrev pub AreUpTo : {V : Type 0} → ℕ → List (ℕ × V) → ℕ → Type 0
AreUpTo {V} end es i = (j : ℕ) (d : ℕ × V) → i ≤ j → j < length es → (get_or es j d).0 + (length es - j) ≡ end

module _ {V : Type 0} (es : List (ℕ × V)) (ordered : AreNumbersInOrder es) where
  pub rise : (i j : ℕ) (d : ℕ × V) → i < j → j < length es → (get_or es i d).0 < (get_or es j d).0
  rise i j d lt within = ranked _ _ Less (sym (ordered.in_order i j d lt within))

  -- the number at place i is i + 1 or above
  at_least : (i : ℕ) (d : ℕ × V) → AreFrom1 es i → i < length es → i + 1 ≤ (get_or es i d).0
  at_least i d from within =
      ⊎_elim
      (λ (first : i ≡ 0). omega (arith, ordered.positive i d within))
      (λ later. let up = rise (i - 1) i d (omega arith) within in let before = from (i - 1) d (omega arith) in omega (arith, up, before))
      (cases_eq i 0)

  pub next_missing : (i : ℕ) → AreFrom1 es i → ((d : ℕ × V) → i < length es → (get_or es i d).0 ≢ i + 1) → at_number es (i + 1) ≡ None
  next_missing i from differs = lookup-absent nat_eq Decides-eqb es (i + 1) (λ j d lt within is.
      ⊎_elim
      (λ low. let same = from j d low in omega (arith, same, is))
      (λ high. ⊎_elim
      (λ (here : j ≡ i). differs d (omega arith) (ap (λ n. (get_or es n d).0) (sym here) ∙ is))
      (λ above. let up = rise i j d (omega arith) within in let least = at_least i d from (omega arith) in omega (arith, up, least, is))
      (cases_eq j i))
      (cases_lt j i))

  pub lower_there : (i : ℕ) → i ≤ length es → AreFrom1 es i → (m : ℕ) → 1 ≤ m → m < i + 1 → (d : ℕ × V) → at_number es m ≡ Some (get_or es (m - 1) d).1
  lower_there i le from m positive lt d = number-at es ordered m (m - 1) (record { within = omega arith; has_key = λ e. let same = from (m - 1) e (omega arith) in omega (arith, same) }) d

  -- downwards: the candidate stands below all numbers from place i on
  pub candidate_missing : (end i n : ℕ) → i ≤ length es → n + (length es - i) + 1 ≡ end → AreUpTo end es i
      → ((d : ℕ × V) → 1 ≤ i → ((get_or es (i - 1) d).0 ≢ n) × ((get_or es (i - 1) d).0 < end)) → at_number es n ≡ None
  candidate_missing end i n le sum up_to differs = lookup-absent nat_eq Decides-eqb es n (λ j d lt within is.
      ⊎_elim
      (λ low. ⊎_elim
      (λ (here : j ≡ i - 1). (differs d (omega arith)).0 (ap (λ m. (get_or es m d).0) (sym here) ∙ is))
      (λ below.
      let up = rise j (i - 1) d (omega arith) (omega arith) in
      let least = below_candidate d (omega arith) in
      let other = (differs d (omega arith)).0 in
      omega (arith, up, least, is))
      (cases_eq j (i - 1)))
      (λ high. let same = up_to j d high within in omega (arith, same, is, within))
      (cases_lt j i))
    where
      below_candidate : (d : ℕ × V) → 1 ≤ i → (get_or es (i - 1) d).0 ≤ n
      below_candidate d positive =
          ⊎_elim
          (λ inside. let up = rise (i - 1) i d (omega arith) inside in let same = up_to i d (omega arith) inside in omega (arith, up, same))
          (λ outside. let bound = (differs d positive).1 in omega (arith, bound))
          (cases_lt i (length es))

  pub higher_there : (end i n : ℕ) → i ≤ length es → n + (length es - i) + 1 ≡ end → AreUpTo end es i
      → (m : ℕ) → n < m → m < end → (d : ℕ × V) → at_number es m ≡ Some (get_or es (length es - (end - m)) d).1
  higher_there end i n le sum up_to m above below d = number-at es ordered m (length es - (end - m)) (record {
    within = omega arith;
    has_key = λ e. let same = up_to (length es - (end - m)) e (omega arith) (omega arith) in omega (arith, same);
  }) d

pub lower_not_missing : {V : Type 0} (es : List (ℕ × V)) → AreNumbersInOrder es → (i : ℕ) → i ≤ length es → AreFrom1 es i → (m : ℕ) → 1 ≤ m → m < i + 1 → at_number es m ≢ None
lower_not_missing es ordered i le from m positive lt none =
    let there = lower_there es ordered i le from m positive lt (some_entry es (omega arith)) in absurd cc

-- one more number
pub from_1_more : {V : Type 0} (es : List (ℕ × V)) (i : ℕ) (e : ℕ × V) → i < length es → e ≡ get_or es i e → e.0 ≡ i + 1 → AreFrom1 es i → AreFrom1 es (i + 1)
from_1_more {V} es i e within read is from j d lt =
    ⊎_elim
    (λ low. from j d low)
    (λ high. let here : j ≡ i = omega arith in ap (λ n. (get_or es n d).0) here ∙ ap (λ (x : ℕ × V). x.0) (get_or_default es i d e within ∙ sym read) ∙ is ∙ ap (λ n. n + 1) (sym here))
    (cases_lt j i)

pub if_some_from : (P : Type 0) (o : Option ℕ) (v : ℕ) (Q : ℕ → Type 0) → SomeIff o P v → Q v → IfSome o Q
if_some_from P None v Q h q = tt
if_some_from P (Some x) v Q h q = subst Q (sym h.1) q
