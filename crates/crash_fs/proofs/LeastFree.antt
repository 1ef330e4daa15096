-- A disk with finitely many names and open descriptors has a least free number and a least free descriptor.
use Rattle.std.proofs.Common.{◌≡◌, ◌≢◌, ◌⊎◌, inl, inr, ⊎_elim, ℕ, zero, suc, ◌+◌, ◌<◌, ◌≤◌, List, [], ◌∷◌, Option, Some, None, refl, sym, ap, ◌∙◌, subst, arith}
use Rattle.std.proofs.lemmas.Bool.{cases_eq}
use Rattle.call_fs.specs.Disk.{Disk, Open, Among, IsUnused}
use Rattle.call_fs.specs.Free.{IsFree, IsLeastFree, IsNextDescriptor}
use Rattle.crash_fs.specs.Answers.{IsFinite}
use Rattle.crash_fs.proofs.Decided.{Decided, both, up_to, is_none, is_number}

-- the least number with a property
record Least (P : ℕ → Type 0) (n : ℕ) : Type 0 where
  has : P n
  least : (m : ℕ) → m < n → ¬ (P m)

below_or_none : (P : ℕ → Type 0) → ((n : ℕ) → Decided (P n)) → (k : ℕ)
    → ((n : ℕ) × Least P n) ⊎ ((m : ℕ) → m < k → ¬ (P m))
below_or_none P tells zero = inr (λ m low. absurd (omega arith))
below_or_none P tells (suc k) = ⊎_elim
    (λ found. inl found)
    (λ none. ⊎_elim
    (λ here. inl (k, record { has = here; least = none }))
    (λ fails. inr (λ m low p. ⊎_elim (λ e. fails (subst P e p)) (λ far. none m (omega arith) p) (cases_eq m k)))
    (tells k))
    (below_or_none P tells k)

least_of : (P : ℕ → Type 0) → ((n : ℕ) → Decided (P n)) → (bound : ℕ) → P bound → (n : ℕ) × Least P n
least_of P tells bound here =
    ⊎_elim (λ found. found) (λ none. absurd (none bound (omega arith) here)) (below_or_none P tells (suc bound))

pub next_descriptor : (d : Disk) → IsFinite d → (fd : ℕ) × IsNextDescriptor d fd
next_descriptor d f =
    let top = suc f.descriptors in
    let found = least_of (λ fd. (1 ≤ fd) × (d.opens fd ≡ None)) (λ fd. both (up_to 1 fd) (is_none (d.opens fd)))
    top (omega arith, unopened (d.opens top) (λ o is. let low = f.within top o is in omega arith)) in (
      found.0,
      record {
        positive = found.1.has.0;
        not_open = found.1.has.1;
        least = λ lower some low none. found.1.least lower low (some, none);
      },
    )
  where
    unopened : (o : Option Open) → ((x : Open) → o ≡ Some x → ⊥) → o ≡ None
    unopened None never = refl
    unopened (Some x) never = absurd (never x refl)

-- one of these texts names the number, or none does
named_or_not : (d : Disk) (n : ℕ) (texts : List (List ℕ))
    → ((name : List ℕ) × (d.names name ≡ Some n)) ⊎ ((name : List ℕ) → Among name texts → d.names name ≢ Some n)
named_or_not d n [] = inr (λ name here. absurd here)
named_or_not d n (text ∷ texts) = ⊎_elim
    (λ is. inl (text, is))
    (λ differs. ⊎_elim
    (λ found. inl found)
    (λ none. inr (λ name here is. ⊎_elim (λ e. differs (ap d.names (sym e) ∙ is)) (λ later. none name later is) here))
    (named_or_not d n texts))
    (is_number (d.names text) n)

-- a descriptor below this one is of the number, or none is
held_or_not : (d : Disk) (n k : ℕ)
    → ((fd : ℕ) × (o : Open) × (d.opens fd ≡ Some o) × (o.number ≡ n))
    ⊎ ((fd : ℕ) → fd < k → (o : Open) → d.opens fd ≡ Some o → o.number ≢ n)
held_or_not d n zero = inr (λ fd low. absurd (omega arith))
held_or_not d n (suc k) = ⊎_elim
    (λ found. inl found)
    (λ none. ⊎_elim
    (λ found. inl (k, found.0, found.1, found.2))
    (λ fails. inr (λ fd low o is same. ⊎_elim
    (λ e. fails (o, ap d.opens (sym e) ∙ is, same))
    (λ far. none fd (omega arith) o is same)
    (cases_eq fd k)))
    (holds (d.opens k)))
    (held_or_not d n k)
  where
    holds : (m : Option Open) → Decided ((o : Open) × (m ≡ Some o) × (o.number ≡ n))
    holds None = inr (λ h. let e = h.1 in absurd (cc))
    holds (Some x) = ⊎_elim
        (λ e. inl (x, refl, e))
        (λ far. inr (λ h. far (let same : x ≡ h.0 = (let e = h.1 in cc) in ap (λ (o : Open). o.number) same ∙ h.2)))
        (cases_eq x.number n)

pub is_unused : (d : Disk) → IsFinite d → (n : ℕ) → Decided (IsUnused d n)
is_unused d f n = ⊎_elim
    (λ found. inr (λ u. u.unnamed found.0 found.1))
    (λ unnamed. ⊎_elim
    (λ found. inr (λ u. u.unopened found.0 found.1 found.2 found.3))
    (λ unopened. inl (record {
      unnamed = λ name is. unnamed name (f.named name n is) is;
      unopened = λ fd o is. unopened fd (f.within fd o is) o is;
    }))
    (held_or_not d n f.descriptors))
    (named_or_not d n f.texts)

-- more than the numbers of these texts
abbrev above_name : Option ℕ → ℕ
above_name None = 0
above_name (Some n) = suc n

abbrev above_names : Disk → List (List ℕ) → ℕ
above_names d [] = 0
above_names d (text ∷ texts) = above_name (d.names text) + above_names d texts

names_below : (d : Disk) (texts : List (List ℕ)) (name : List ℕ) (n : ℕ) → Among name texts → d.names name ≡ Some n → n < above_names d texts
names_below d [] name n here is = absurd here
names_below d (text ∷ texts) name n here is = ⊎_elim
    (λ e. let one : above_name (d.names text) ≡ suc n = ap above_name (ap d.names (sym e) ∙ is) in omega arith)
    (λ later. let rest = names_below d texts name n later is in omega arith)
    here

-- more than the numbers of these descriptors
abbrev above_open : Option Open → ℕ
above_open None = 0
above_open (Some o) = suc o.number

abbrev above_opens : Disk → ℕ → ℕ
above_opens d zero = 0
above_opens d (suc k) = above_open (d.opens k) + above_opens d k

opens_below : (d : Disk) (k fd : ℕ) (o : Open) → fd < k → d.opens fd ≡ Some o → o.number < above_opens d k
opens_below d zero fd o low is = absurd (omega arith)
opens_below d (suc k) fd o low is = ⊎_elim
    (λ e. let one : above_open (d.opens k) ≡ suc o.number = ap above_open (ap d.opens (sym e) ∙ is) in omega arith)
    (λ far. let rest = opens_below d k fd o (omega arith) is in omega arith)
    (cases_eq fd k)

pub least_free : (d : Disk) → IsFinite d → (n : ℕ) × IsLeastFree d n
least_free d f =
    let top = suc (above_names d f.texts + above_opens d f.descriptors) in
    let found = least_of (IsFree d) (λ n. both (up_to 1 n) (is_unused d f n))
    top (
      omega arith,
      record {
        unnamed = λ name is. let low = names_below d f.texts name top (f.named name top is) is in omega arith;
        unopened = λ fd o is same. let low = opens_below d f.descriptors fd o (f.within fd o is) is in omega arith;
      },
    ) in
    (found.0, record { free = found.1.has; least = found.1.least })
