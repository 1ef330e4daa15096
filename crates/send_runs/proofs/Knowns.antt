-- What is so of each known message, as the list of them changes.
use Rattle.std.proofs.Common.{◌≡◌, ℕ, zero, suc, ◌+◌, ◌<◌, ◌≤◌, List, [], ◌∷◌, ◌++◌, length, get_or, set, insert, filter, position, cond, Bool, true, false, if◌then◌else◌, Option, Some, None, refl, sym, ◌∙◌, arith, eqb-true, eq-eqb}
use Rattle.std.specs.Prelude.{All}
use Rattle.std.proofs.lemmas.Bool.{leb-false, leb-true, or_left, or_right}
use Rattle.std.proofs.lemmas.List.Elements.{All-cons, All-nil}
use Rattle.std.proofs.lemmas.List.Quantifiers.{position-Some}
use Rattle.std.specs.List.{list_any}
use Rattle.send_core.proofs.Lists.{none_passes}
use Rattle.send_known.specs.Known as known
use Rattle.send_known.specs.declared.known.Known.{Known}
use Rattle.send_runs.proofs.Rising.{RiseFrom}

abbrev pub EachOf : (Known → Type 0) → List Known → Type 0
EachOf F [] = Unit {0}
EachOf F (k ∷ ks) = F k × EachOf F ks

pub of_same : (F G : Known → Type 0) (ks : List Known) → ((k : Known) → F k → G k) → EachOf F ks → EachOf G ks
of_same F G [] to h = tt
of_same F G (k ∷ ks) to h = (to k h.0, of_same F G ks to h.1)

pub of_kept : (F : Known → Type 0) (p : Known → Bool) (ks : List Known) → EachOf F ks → EachOf F (filter p ks)
of_kept F p [] h = tt
of_kept F p (k ∷ ks) h = by (p k) (of_kept F p ks h.1) where
  by : (b : Bool) → EachOf F (filter p ks) → EachOf F (cond b (k ∷ filter p ks) (filter p ks))
  by true rest = (h.0, rest)
  by false rest = rest

-- one is changed so that it stays so
pub of_changed : (F : Known → Type 0) (to : Known → Known) → ((k : Known) → F k → F (to k)) → (ks : List Known) (i : ℕ) (d : Known) → EachOf F ks → EachOf F (set ks i (to (get_or ks i d)))
of_changed F to keep [] i d h = tt
of_changed F to keep (k ∷ ks) zero d h = (keep k h.0, h.1)
of_changed F to keep (k ∷ ks) (suc i) d h = (h.0, of_changed F to keep ks i d h.1)

pub of_put_off : (F : Known → Type 0) (n moment : ℕ) → ((k : Known) → F k → F (record k { finish_at = moment })) → (ks : List Known) → EachOf F ks → EachOf F (known.put_off n moment ks)
of_put_off F n moment keep ks h = by (position (known.is_of n) ks) where
  by : (o : Option ℕ) → EachOf F (known.put_off_at o moment ks)
  by None = h
  by (Some i) = of_changed F (λ (k : Known). record k { finish_at = moment }) keep ks i known.nobody h

-- One is learnt: no other has its number, as the numbers rise

module _ (was F : Known → Type 0) (k : Known) (new : F k) (old : (y : Known) → (y.n ≡ k.n → ⊥) → was y → F y) where
  of_above : (low : ℕ) (ks : List Known) → k.n + 1 ≤ low → RiseFrom low ks → EachOf was ks → EachOf F ks
  of_above low [] le rise h = tt
  of_above low (y ∷ ks) le rise h =
      let above : low ≤ y.n = rise.0 in
      (old y (λ same. omega (arith, same)) h.0, of_above (y.n + 1) ks (omega arith) rise.1 h.1)

  of_end : (ks : List Known) → (list_any (known.is_from k.n) ks ≡ true → ⊥) → EachOf was ks → EachOf F (ks ++ k ∷ [])
  of_end [] none h = (new, tt)
  of_end (y ∷ ks) none h =
      let below : y.n < k.n = leb-false k.n y.n (by (known.is_from k.n y) refl) in
      (old y (λ same. omega (arith, same)) h.0, of_end ks (λ some. none (or_right (known.is_from k.n y) (list_any (known.is_from k.n) ks) some)) h.1)
    where
      by : (b : Bool) → known.is_from k.n y ≡ b → known.is_from k.n y ≡ false
      by true is = absurd (none (or_left (known.is_from k.n y) (list_any (known.is_from k.n) ks) is))
      by false is = is

  of_put : (b : Bool) (low : ℕ) (ks : List Known) (i : ℕ) → i < length ks → known.is_from k.n (get_or ks i k) ≡ true → ((j : ℕ) → j < i → known.is_from k.n (get_or ks j k) ≡ false)
      → known.is_of k.n (get_or ks i k) ≡ b → RiseFrom low ks → EachOf was ks → EachOf F (if b then set ks i k else insert ks i k)
  of_put b low [] i lt from below is rise h = absurd (omega arith)
  of_put true low (y ∷ ks) zero lt from below is rise h =
      let same : y.n ≡ k.n = eqb-true y.n k.n is in (new, of_above (y.n + 1) ks (omega (arith, same)) rise.1 h.1)
  of_put false low (y ∷ ks) zero lt from below is rise h =
      let le : k.n ≤ y.n = leb-true k.n y.n from in
      (new, (old y (λ same. let bad : known.is_of k.n y ≡ true = eq-eqb y.n k.n same in absurd (cc (sym is ∙ bad))) h.0, of_above (y.n + 1) ks (omega arith) rise.1 h.1))
  of_put true low (y ∷ ks) (suc i) lt from below is rise h =
      let less : y.n < k.n = leb-false k.n y.n (below 0 (omega arith)) in
      (old y (λ same. omega (arith, same)) h.0, of_put true (y.n + 1) ks i (omega arith) from (λ j lt. below (suc j) (omega arith)) is rise.1 h.1)
  of_put false low (y ∷ ks) (suc i) lt from below is rise h =
      let less : y.n < k.n = leb-false k.n y.n (below 0 (omega arith)) in
      (old y (λ same. omega (arith, same)) h.0, of_put false (y.n + 1) ks i (omega arith) from (λ j lt. below (suc j) (omega arith)) is rise.1 h.1)

  pub of_learned : (ks : List Known) → RiseFrom 0 ks → EachOf was ks → EachOf F (known.learned k ks)
  of_learned ks rise h = by (position (known.is_from k.n) ks) refl where
    by : (o : Option ℕ) → position (known.is_from k.n) ks ≡ o → EachOf F (known.learned_at o k ks)
    by None e = of_end ks (λ some. none_passes (known.is_from k.n) ks e some) h
    by (Some i) e = let w = position-Some (known.is_from k.n) ks i k e in of_put (known.is_of k.n (get_or ks i k)) 0 ks i w.0 w.1 w.2 refl rise h

-- One is changed, and no other has its number

rises_at : (low : ℕ) (ks : List Known) (i : ℕ) (d : Known) → i < length ks → RiseFrom low ks → low ≤ (get_or ks i d).n
rises_at low [] i d lt rise = absurd (omega arith)
rises_at low (y ∷ ks) zero d lt rise = rise.0
rises_at low (y ∷ ks) (suc i) d lt rise = let above : low ≤ y.n = rise.0 in let more : y.n + 1 ≤ (get_or ks i d).n = rises_at (y.n + 1) ks i d (omega arith) rise.1 in omega arith

module _ (was F : Known → Type 0) (to : Known → Known) (n : ℕ) (new : (k : Known) → k.n ≡ n → was k → F (to k)) (old : (k : Known) → (k.n ≡ n → ⊥) → was k → F k) where
  none_changed : (ks : List Known) → (list_any (known.is_of n) ks ≡ true → ⊥) → EachOf was ks → EachOf F ks
  none_changed [] none h = tt
  none_changed (y ∷ ks) none h = (
    old y (λ same. none (or_left (known.is_of n y) (list_any (known.is_of n) ks) (eq-eqb y.n n same))) h.0,
    none_changed ks (λ some. none (or_right (known.is_of n y) (list_any (known.is_of n) ks) some)) h.1,
  )

  above_changed : (low : ℕ) (ks : List Known) → n + 1 ≤ low → RiseFrom low ks → EachOf was ks → EachOf F ks
  above_changed low [] le rise h = tt
  above_changed low (y ∷ ks) le rise h =
      let above : low ≤ y.n = rise.0 in
      (old y (λ same. omega (arith, same)) h.0, above_changed (y.n + 1) ks (omega arith) rise.1 h.1)

  one_changed : (low : ℕ) (ks : List Known) (i : ℕ) (d : Known) → i < length ks → known.is_of n (get_or ks i d) ≡ true → RiseFrom low ks → EachOf was ks → EachOf F (set ks i (to (get_or ks i d)))
  one_changed low [] i d lt is rise h = absurd (omega arith)
  one_changed low (y ∷ ks) zero d lt is rise h =
      let same : y.n ≡ n = eqb-true y.n n is in (new y same h.0, above_changed (y.n + 1) ks (omega (arith, same)) rise.1 h.1)
  one_changed low (y ∷ ks) (suc i) d lt is rise h =
      let same : (get_or ks i d).n ≡ n = eqb-true (get_or ks i d).n n is in
      let more : y.n + 1 ≤ (get_or ks i d).n = rises_at (y.n + 1) ks i d (omega arith) rise.1 in
      (old y (λ e. omega (arith, same, e)) h.0, one_changed (y.n + 1) ks i d (omega arith) is rise.1 h.1)

pub of_local_gone : (was F : Known → Type 0) (n : ℕ) → ((k : Known) → k.n ≡ n → was k → F (record k { local = false })) → ((k : Known) → (k.n ≡ n → ⊥) → was k → F k) → (ks : List Known) → RiseFrom 0 ks
    → EachOf was ks → EachOf F (known.local_gone n ks)
of_local_gone was F n new old ks rise h = by (position (known.is_of n) ks) refl where
  by : (o : Option ℕ) → position (known.is_of n) ks ≡ o → EachOf F (known.local_gone_at o ks)
  by None e = none_changed was F (λ (k : Known). record k { local = false }) n new old ks (λ some. none_passes (known.is_of n) ks e some) h
  by (Some i) e = let w = position-Some (known.is_of n) ks i known.nobody e in one_changed was F (λ (k : Known). record k { local = false }) n new old 0 ks i known.nobody w.0 w.1 rise h

pub of_remote_gone : (was F : Known → Type 0) (n : ℕ) → ((k : Known) → k.n ≡ n → was k → F (record k { remote = false })) → ((k : Known) → (k.n ≡ n → ⊥) → was k → F k) → (ks : List Known) → RiseFrom 0 ks
    → EachOf was ks → EachOf F (known.remote_gone n ks)
of_remote_gone was F n new old ks rise h = by (position (known.is_of n) ks) refl where
  by : (o : Option ℕ) → position (known.is_of n) ks ≡ o → EachOf F (known.remote_gone_at o ks)
  by None e = none_changed was F (λ (k : Known). record k { remote = false }) n new old ks (λ some. none_passes (known.is_of n) ks e some) h
  by (Some i) e = let w = position-Some (known.is_of n) ks i known.nobody e in one_changed was F (λ (k : Known). record k { remote = false }) n new old 0 ks i known.nobody w.0 w.1 rise h

pub of_delayed : (was F : Known → Type 0) (n moment : ℕ) → ((k : Known) → k.n ≡ n → was k → F (record k { finish_at = moment })) → ((k : Known) → (k.n ≡ n → ⊥) → was k → F k) → (ks : List Known) → RiseFrom 0 ks
    → EachOf was ks → EachOf F (known.put_off n moment ks)
of_delayed was F n moment new old ks rise h = by (position (known.is_of n) ks) refl where
  by : (o : Option ℕ) → position (known.is_of n) ks ≡ o → EachOf F (known.put_off_at o moment ks)
  by None e = none_changed was F (λ (k : Known). record k { finish_at = moment }) n new old ks (λ some. none_passes (known.is_of n) ks e some) h
  by (Some i) e = let w = position-Some (known.is_of n) ks i known.nobody e in one_changed was F (λ (k : Known). record k { finish_at = moment }) n new old 0 ks i known.nobody w.0 w.1 rise h

pub all_of : (F : Known → Type 0) (ks : List Known) → EachOf F ks → All F ks
all_of F [] h = All-nil F
all_of F (k ∷ ks) h = All-cons F k ks h.0 (all_of F ks h.1)
