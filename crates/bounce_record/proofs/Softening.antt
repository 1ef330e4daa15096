-- Newlines that become `/`.
use Rattle.std.proofs.Common.{◌≡◌, ◌≢◌, ℕ, ◌+◌, ◌-◌, ◌<◌, ◌≤◌, List, [], ◌∷◌, ◌++◌, length, get_or, set, take, drop, Bool, true, refl, sym, ap, ◌∙◌, subst, inl, inr, ⊎_elim, arith, add-one, length-set}
use Rattle.std.specs.Prelude.{◌⊎◌, ◌↔◌, ◌&&◌, ◌==◌, nat_lt}
use Rattle.std.specs.Bool.{Decides}
use Rattle.std.proofs.lemmas.Bool.{cases_Bool, cases_eq, cases_lt, cond-true, cond-false, eqb-true}
use Rattle.std.proofs.lemmas.Bool.Decides.{Decides-and, Decides-ltb, Decides-eqb, not_from_Decides}
use Rattle.std.proofs.lemmas.List.{get_or-set_same, get_or-set_other, take_at}
use Rattle.std.proofs.lemmas.List.FromFn.{length-map-range_with_len, get_or-map-range_with_len, fill_by_all}
use Rattle.bounce_record.specs.Notes.{IsDoubled, IsSoftened, is_doubled, softened_at, softened}

doubled_decides : (text : List ℕ) (i : ℕ) → Decides (is_doubled text i) (((0 < i) × (i + 1 < length text)) × ((get_or text (i - 1) 0 ≡ 10) × (get_or text i 0 ≡ 10)))
doubled_decides text i =
    Decides-and (nat_lt 0 i && nat_lt (i + 1) (length text)) ((get_or text (i - 1) 0 == 10) && (get_or text i 0 == 10))
    (Decides-and (nat_lt 0 i) (nat_lt (i + 1) (length text)) (Decides-ltb 0 i) (Decides-ltb (i + 1) (length text)))
    (Decides-and (get_or text (i - 1) 0 == 10) (get_or text i 0 == 10) (Decides-eqb (get_or text (i - 1) 0) 10) (Decides-eqb (get_or text i 0) 10))

slash : (text : List ℕ) (i : ℕ) → IsDoubled text i → softened_at text i ≡ 47
slash text i h = cond-true (is_doubled text i) 47 (get_or text i 0) ((doubled_decides text i).1 ((h.first, h.last), (h.before, h.here)))

pub plain_at : (text : List ℕ) (i : ℕ) → (IsDoubled text i → ⊥) → softened_at text i ≡ get_or text i 0
plain_at text i h =
    ⊎_elim
    (λ is_so. let w = (doubled_decides text i).0 is_so in absurd (h (record { first = w.0.0; last = w.0.1; before = w.1.0; here = w.1.1 })))
    (λ no. cond-false (is_doubled text i) 47 (get_or text i 0) no)
    (cases_Bool (is_doubled text i))

-- what stands at a place of the softened text
pub softened_reads : (text : List ℕ) (i : ℕ) → i < length text → get_or (softened text) i 0 ≡ softened_at text i
unfolding softened
softened_reads text i lt = get_or-map-range_with_len (softened_at text) 0 (length text) i i 0 lt (omega arith)

pub length-softened : (text : List ℕ) → length (softened text) ≡ length text
unfolding softened
length-softened text = length-map-range_with_len (softened_at text) 0 (length text)

-- The loop, which goes from the end to the beginning: from a place on the text is softened, before it as it was.

pub record IsAt (old text : List ℕ) (i : ℕ) : Type 0 where
  pub long : length text ≡ length old
  pub done : (k : ℕ) → i ≤ k → k < length old → get_or text k 0 ≡ softened_at old k
  pub left : (k : ℕ) → k < i → get_or text k 0 ≡ get_or old k 0

pub begins : (old : List ℕ) → IsAt old old (length old - 1)
begins old = record {
  long = refl;
  done = λ k low lt. sym (plain_at old k (λ d. let last = d.last in absurd (omega arith)));
  left = λ k lt. refl;
}

pub softens : (old text : List ℕ) (i : ℕ) → 1 < i → i < length old → IsAt old text i → get_or text (i - 1) 0 ≡ 10 → get_or text (i - 1 - 1) 0 ≡ 10
    → IsAt old (set text (i - 1) 47) (i - 1)
softens old text i low high h here before =
    let long = h.long in
    let inside : i - 1 < length text = omega arith in
    let two : i - 1 - 1 < i = omega arith in
    let one : i - 1 < i = omega arith in
    let doubled : IsDoubled old (i - 1) = record { first = omega arith; last = omega arith; before = sym (h.left (i - 1 - 1) two) ∙ before; here = sym (h.left (i - 1) one) ∙ here } in
    record {
      long = length-set text (i - 1) 47 ∙ h.long;
      done = λ k at lt. ⊎_elim
          (λ same. ap (λ j. get_or (set text (i - 1) 47) j 0) same ∙ get_or-set_same text (i - 1) 47 0 inside ∙ sym (slash old (i - 1) doubled) ∙ ap (softened_at old) (sym same))
          (λ apart. get_or-set_other text (i - 1) k 47 0 apart ∙ h.done k (above k at apart) lt)
          (cases_eq k (i - 1));
      left = λ k lt. get_or-set_other text (i - 1) k 47 0 (λ same. absurd (omega arith)) ∙ h.left k (omega arith);
    }
  where
    above : (k : ℕ) → i - 1 ≤ k → (k ≡ i - 1 → ⊥) → i ≤ k
    above k at apart = omega arith

pub passes : (old text : List ℕ) (i : ℕ) → 1 < i → i < length old → IsAt old text i → (get_or text (i - 1) 0 ≡ 10 → get_or text (i - 1 - 1) 0 ≡ 10 → ⊥)
    → IsAt old text (i - 1)
passes old text i low high h not_both =
    let two : i - 1 - 1 < i = omega arith in
    let one : i - 1 < i = omega arith in
    record {
      long = h.long;
      done = λ k at lt. ⊎_elim
          (λ same. ap (λ j. get_or text j 0) same ∙ h.left (i - 1) one
          ∙ sym (plain_at old (i - 1) (λ d. not_both (h.left (i - 1) one ∙ d.here) (h.left (i - 1 - 1) two ∙ d.before))) ∙ ap (softened_at old) (sym same))
          (λ apart. h.done k (above k at apart) lt)
          (cases_eq k (i - 1));
      left = λ k lt. h.left k (omega arith);
    }
  where
    above : (k : ℕ) → i - 1 ≤ k → (k ≡ i - 1 → ⊥) → i ≤ k
    above k at apart = omega arith

pub ends : (old text : List ℕ) (i : ℕ) → i ≤ 1 → IsAt old text i → text ≡ softened old
unfolding softened
ends old text i low h = fill_by_all (softened_at old) text (length old) 0 h.long
    (λ k lt. ⊎_elim (λ at. h.done k at lt) (λ below. h.left k below ∙ sym (plain_at old k (λ d. let first = d.first in absurd (omega arith)))) (at_or_below i k))
  where
    at_or_below : (i k : ℕ) → (i ≤ k) ⊎ (k < i)
    at_or_below i k = ⊎_elim (λ lt. inr lt) (λ le. inl le) (cases_lt k i)

-- No empty line is left in a softened text, except at its end.

-- p: a newline comes before the text
abbrev pub IsSoft : Bool → List ℕ → Type 0
IsSoft p [] = Unit {0}
IsSoft p (b ∷ []) = Unit {0}
IsSoft p (b ∷ c ∷ rest) = (p ≡ true → b ≢ 10) × IsSoft (b == 10) (c ∷ rest)

pub soft_from : (p : Bool) (text : List ℕ) → (p ≡ true → 1 < length text → get_or text 0 0 ≢ 10)
    → ((k : ℕ) → k + 2 < length text → get_or text k 0 ≡ 10 → get_or text (k + 1) 0 ≢ 10) → IsSoft p text
soft_from p [] first pairs = tt
soft_from p (b ∷ []) first pairs = tt
soft_from p (b ∷ c ∷ rest) first pairs = (
  λ e. first e (omega arith),
  soft_from (b == 10) (c ∷ rest)
      (λ e more. pairs 0 (omega (arith, more)) (eqb-true b 10 e))
      (λ k lt e. shifted k lt e),
)
  where
    one_more : (k : ℕ) → get_or (b ∷ c ∷ rest) (k + 1) 0 ≡ get_or (c ∷ rest) k 0
    one_more k = rw add-one refl

    shifted : (k : ℕ) → k + 2 < length (c ∷ rest) → get_or (c ∷ rest) k 0 ≡ 10 → get_or (c ∷ rest) (k + 1) 0 ≢ 10
    shifted k lt e f = pairs (k + 1) (omega arith) (one_more k ∙ e) (one_more (k + 1) ∙ f)

-- of two newlines that are left the second is the last byte
pub pair_ends : (text : List ℕ) (k : ℕ) → k + 2 < length text → get_or (softened text) k 0 ≡ 10 → get_or (softened text) (k + 1) 0 ≢ 10
pair_ends text k lt e f =
    let here = sym (softened_reads text (k + 1) (omega arith)) ∙ f in
    let before = sym (softened_reads text k (omega arith)) ∙ e in
    not_slash (sym (slash text (k + 1) (record { first = omega arith; last = omega arith; before = was text (k + 1 - 1) (at_before before); here = was text (k + 1) here })) ∙ here)
  where
    not_slash : ◌≡◌ {A = ℕ} 47 10 → ⊥
    not_slash e = absurd (omega arith)

    was : (text : List ℕ) (i : ℕ) → softened_at text i ≡ 10 → get_or text i 0 ≡ 10
    was text i e = ⊎_elim
        (λ is_so. absurd (not_slash (sym (cond-true (is_doubled text i) 47 (get_or text i 0) is_so) ∙ e)))
        (λ no. sym (cond-false (is_doubled text i) 47 (get_or text i 0) no) ∙ e)
        (cases_Bool (is_doubled text i))

    at_before : softened_at text k ≡ 10 → softened_at text (k + 1 - 1) ≡ 10
    at_before e = let back : k + 1 - 1 ≡ k = omega arith in ap (softened_at text) back ∙ e

-- what a text that was softened in place holds
pub written_over : (len : ℕ) (old new lent : List ℕ) → lent ≡ old → len ≡ length old → new ≡ softened lent → take len (new ++ drop (length new) old) ≡ softened old
written_over len old new lent e long soft =
    let same : new ≡ softened old = soft ∙ ap softened e in
    let short = ap length same ∙ length-softened old in
    take_at new (drop (length new) old) len (short ∙ sym long) ∙ same

-- The relation is the function.

is_softened : (text : List ℕ) → IsSoftened text (softened text)
is_softened text = record {
  long = length-softened text;
  doubled = λ i d. softened_reads text i (within i d) ∙ slash text i d;
  other = λ i lt h. softened_reads text i lt ∙ plain_at text i h;
}
  where
    within : (i : ℕ) → IsDoubled text i → i < length text
    within i d = let last = d.last in omega arith

softened_by : (plain text : List ℕ) → IsSoftened plain text → text ≡ softened plain
unfolding softened
softened_by plain text h = fill_by_all (softened_at plain) text (length plain) 0 h.long
    (λ k lt. ⊎_elim
    (λ is_so. let w = (doubled_decides plain k).0 is_so in let d : IsDoubled plain k = record { first = w.0.0; last = w.0.1; before = w.1.0; here = w.1.1 } in h.doubled k d ∙ sym (slash plain k d))
    (λ no. let not_so = not_from_Decides (is_doubled plain k) (doubled_decides plain k) no in
    let apart : IsDoubled plain k → ⊥ = λ d. not_so ((d.first, d.last), (d.before, d.here)) in h.other k lt apart ∙ sym (plain_at plain k apart))
    (cases_Bool (is_doubled plain k)))

pub softened_is : (plain text : List ℕ) → IsSoftened plain text ↔ (text ≡ softened plain)
softened_is plain text = (softened_by plain text, λ e. subst (IsSoftened plain) (sym e) (is_softened plain))
