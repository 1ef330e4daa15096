-- When known messages were born: what is learned, forgotten and put off changes none of the others.
use Rattle.std.proofs.Common.{◌≡◌, ◌⊎◌, ℕ, zero, suc, ◌<◌, List, [], ◌∷◌, ◌++◌, length, get_or, set, insert, position, cond, Bool, true, false, not, Option, Some, None, refl, sym, ap, ◌∙◌, inl, inr, ⊎_elim, arith, eqb-true, eq-eqb}
use Rattle.std.specs.Prelude.{◌==◌, if◌then◌else◌}
use Rattle.std.specs.List.{list_any}
use Rattle.std.proofs.lemmas.Bool.{le-leb, or_left, or_right}
use Rattle.std.proofs.lemmas.List.Quantifiers.{position-Some}
use Rattle.std.proofs.lemmas.Option.{slice_get-get_or}
use Rattle.call_fs.specs.Maps.{put}
use Rattle.call_fs.proofs.Maps.{put_cases}
use Rattle.send_known.specs.declared.known.Known.{Known}
use Rattle.send_known.specs.Known as known
use Rattle.send_core.proofs.Lists.{none_passes}

-- the birth of the first of them with this number
abbrev pub first_birth : ℕ → List Known → Option ℕ
first_birth m [] = None
first_birth m (k ∷ ks) = if k.n == m then Some k.birth else first_birth m ks

-- each has this birth
abbrev pub Born : (ℕ → ℕ) → List Known → Type 0
Born of ks = (m x : ℕ) → first_birth m ks ≡ Some x → x ≡ of m

same_some : (x y : ℕ) → ◌≡◌ {A = Option ℕ} (Some x) (Some y) → x ≡ y
same_some x y e = cc

-- One is learned

abbrev Either : Known → List Known → ℕ → ℕ → Type 0
Either k ks m x = ((m ≡ k.n) × (x ≡ k.birth)) ⊎ ((m ≡ k.n → ⊥) × (first_birth m ks ≡ Some x))

-- it is the first
at_head : (k : Known) (ks others : List Known) (m x : ℕ) → ((m ≡ k.n → ⊥) → first_birth m others ≡ Some x → first_birth m ks ≡ Some x)
    → first_birth m (k ∷ others) ≡ Some x → Either k ks m x
at_head k ks others m x rest e = by (k.n == m) refl e where
  by : (b : Bool) → (k.n == m) ≡ b → (if b then Some k.birth else first_birth m others) ≡ Some x → Either k ks m x
  by true is e = inl (sym (eqb-true k.n m is), sym (same_some k.birth x e))
  by false is e =
      let other : m ≡ k.n → ⊥ = (λ same. let bad : (k.n == m) ≡ true = eq-eqb k.n m (sym same) in absurd (cc (sym is ∙ bad))) in
      inr (other, rest other e)

-- one that is smaller comes before it
after_smaller : (k y : Known) (ks others : List Known) (m x : ℕ) → known.is_from k.n y ≡ false → (first_birth m others ≡ Some x → Either k ks m x)
    → first_birth m (y ∷ others) ≡ Some x → Either k (y ∷ ks) m x
after_smaller k y ks others m x smaller rest e = by (y.n == m) refl e where
  differs : y.n ≡ m → m ≡ k.n → ⊥
  differs is same =
      let n : y.n ≡ k.n = is ∙ same in
      let bad : known.is_from k.n y ≡ true = le-leb k.n y.n (omega (arith, n)) in
      absurd (cc (sym smaller ∙ bad))

  by : (b : Bool) → (y.n == m) ≡ b → (if b then Some y.birth else first_birth m others) ≡ Some x → ((m ≡ k.n) × (x ≡ k.birth)) ⊎ ((m ≡ k.n → ⊥) × ((if b then Some y.birth else first_birth m ks) ≡ Some x))
  by true is e = inr (differs (eqb-true y.n m is), e)
  by false is e = rest e

at_end : (k : Known) (ks : List Known) (m x : ℕ) → (list_any (known.is_from k.n) ks ≡ true → ⊥) → first_birth m (ks ++ k ∷ []) ≡ Some x → Either k ks m x
at_end k [] m x none e = at_head k [] [] m x (λ other e. e) e
at_end k (y ∷ ks) m x none e = after_smaller k y ks (ks ++ k ∷ []) m x (by (known.is_from k.n y) refl)
    (λ e. at_end k ks m x (λ some. none (or_right (known.is_from k.n y) (list_any (known.is_from k.n) ks) some)) e) e
  where
    by : (b : Bool) → known.is_from k.n y ≡ b → known.is_from k.n y ≡ false
    by false is = is
    by true is = absurd (none (or_left (known.is_from k.n y) (list_any (known.is_from k.n) ks) is))

put_in : (b : Bool) (k : Known) (ks : List Known) (i m x : ℕ) → i < length ks → ((j : ℕ) → j < i → known.is_from k.n (get_or ks j k) ≡ false)
    → known.is_of k.n (get_or ks i k) ≡ b → first_birth m (if b then set ks i k else insert ks i k) ≡ Some x → Either k ks m x
put_in b k [] i m x lt below is e = absurd (omega arith)
put_in true k (y ∷ ks) zero m x lt below is e = at_head k (y ∷ ks) ks m x (λ other e. by (y.n == m) refl other e) e where
  by : (c : Bool) → (y.n == m) ≡ c → (m ≡ k.n → ⊥) → first_birth m ks ≡ Some x → (if c then Some y.birth else first_birth m ks) ≡ Some x
  by true at other e = absurd (other (sym (eqb-true y.n m at) ∙ eqb-true y.n k.n is))
  by false at other e = e
put_in false k (y ∷ ks) zero m x lt below is e = at_head k (y ∷ ks) (y ∷ ks) m x (λ other e. e) e
put_in true k (y ∷ ks) (suc i) m x lt below is e = after_smaller k y ks (set ks i k) m x (below 0 (omega arith))
    (λ e. put_in true k ks i m x (omega arith) (λ j lt. below (suc j) (omega arith)) is e) e
put_in false k (y ∷ ks) (suc i) m x lt below is e = after_smaller k y ks (insert ks i k) m x (below 0 (omega arith))
    (λ e. put_in false k ks i m x (omega arith) (λ j lt. below (suc j) (omega arith)) is e) e

learned_first : (k : Known) (ks : List Known) (m x : ℕ) (o : Option ℕ) → position (known.is_from k.n) ks ≡ o → first_birth m (known.learned_at o k ks) ≡ Some x → Either k ks m x
learned_first k ks m x None at e = at_end k ks m x (λ some. none_passes (known.is_from k.n) ks at some) e
learned_first k ks m x (Some i) at e =
    let w = position-Some (known.is_from k.n) ks i k at in
    put_in (known.is_of k.n (get_or ks i k)) k ks i m x w.0 w.2 refl e

pub born_learned : (of : ℕ → ℕ) (k : Known) (ks : List Known) → Born of ks → Born (put of k.n k.birth) (known.learned k ks)
born_learned of k ks h m x e = ⊎_elim
    (λ new. new.1 ∙ ⊎_elim (λ it. sym it.1) (λ it. absurd (it.0 new.0)) (put_cases of k.n k.birth m))
    (λ old. h m x old.1 ∙ ⊎_elim (λ it. absurd (old.0 it.0)) (λ it. sym it.1) (put_cases of k.n k.birth m))
    (learned_first k ks m x (position (known.is_from k.n) ks) refl e)

-- One is forgotten

forgotten_first : (m n x : ℕ) (ks : List Known) → first_birth m (known.forgotten n ks) ≡ Some x → ((m ≡ n → ⊥) × (first_birth m ks ≡ Some x))
forgotten_first m n x [] e = absurd (cc)
forgotten_first m n x (k ∷ ks) e = by (k.n == n) refl e (forgotten_first m n x ks) where
  by : (b : Bool) → (k.n == n) ≡ b → first_birth m (cond (not b) (k ∷ known.forgotten n ks) (known.forgotten n ks)) ≡ Some x
      → (first_birth m (known.forgotten n ks) ≡ Some x → (m ≡ n → ⊥) × (first_birth m ks ≡ Some x)) → (m ≡ n → ⊥) × (first_birth m (k ∷ ks) ≡ Some x)
  by true is e more =
      let w = more e in
      let other : (k.n == m) ≡ false = not_same (k.n == m) (λ same. w.0 (sym (eqb-true k.n m same) ∙ eqb-true k.n n is)) in
      (w.0, ap (λ (b : Bool). if b then Some k.birth else first_birth m ks) other ∙ w.1)
    where
      not_same : (b : Bool) → (b ≡ true → ⊥) → b ≡ false
      not_same true h = absurd (h refl)
      not_same false h = refl
  by false is e more = here (k.n == m) refl e where
    here : (c : Bool) → (k.n == m) ≡ c → (if c then Some k.birth else first_birth m (known.forgotten n ks)) ≡ Some x → (m ≡ n → ⊥) × ((if c then Some k.birth else first_birth m ks) ≡ Some x)
    here true at e = ((λ same. let bad : (k.n == n) ≡ true = eq-eqb k.n n (eqb-true k.n m at ∙ same) in absurd (cc (sym is ∙ bad))), e)
    here false at e = more e

pub born_forgotten : (of : ℕ → ℕ) (n : ℕ) (ks : List Known) → Born of ks → Born of (known.forgotten n ks)
born_forgotten of n ks h m x e = h m x (forgotten_first m n x ks e).1

-- What changes nothing in number and birth

set_first : (m i : ℕ) (ks : List Known) (y d : Known) → y.n ≡ (get_or ks i d).n → y.birth ≡ (get_or ks i d).birth → first_birth m (set ks i y) ≡ first_birth m ks
set_first m i [] y d n b = refl
set_first m zero (k ∷ ks) y d n b = ap (λ (j : ℕ). if j == m then Some y.birth else first_birth m ks) n ∙ ap (λ (j : ℕ). if k.n == m then Some j else first_birth m ks) b
set_first m (suc i) (k ∷ ks) y d n b = ap (λ (o : Option ℕ). if k.n == m then Some k.birth else o) (set_first m i ks y d n b)

local_first : (m : ℕ) (ks : List Known) (o : Option ℕ) → first_birth m (known.local_gone_at o ks) ≡ first_birth m ks
local_first m ks None = refl
local_first m ks (Some i) = set_first m i ks (record (get_or ks i known.nobody) { local = false }) known.nobody refl refl

remote_first : (m : ℕ) (ks : List Known) (o : Option ℕ) → first_birth m (known.remote_gone_at o ks) ≡ first_birth m ks
remote_first m ks None = refl
remote_first m ks (Some i) = set_first m i ks (record (get_or ks i known.nobody) { remote = false }) known.nobody refl refl

put_off_first : (m moment : ℕ) (ks : List Known) (o : Option ℕ) → first_birth m (known.put_off_at o moment ks) ≡ first_birth m ks
put_off_first m moment ks None = refl
put_off_first m moment ks (Some i) = set_first m i ks (record (get_or ks i known.nobody) { finish_at = moment }) known.nobody refl refl

pub born_local : (of : ℕ → ℕ) (n : ℕ) (ks : List Known) → Born of ks → Born of (known.local_gone n ks)
born_local of n ks h m x e = h m x (sym (local_first m ks (position (known.is_of n) ks)) ∙ e)

pub born_remote : (of : ℕ → ℕ) (n : ℕ) (ks : List Known) → Born of ks → Born of (known.remote_gone n ks)
born_remote of n ks h m x e = h m x (sym (remote_first m ks (position (known.is_of n) ks)) ∙ e)

pub born_put_off : (of : ℕ → ℕ) (n moment : ℕ) (ks : List Known) → Born of ks → Born of (known.put_off n moment ks)
born_put_off of n moment ks h m x e = h m x (sym (put_off_first m moment ks (position (known.is_of n) ks)) ∙ e)

-- A known message has the birth that is told of it

first_at : (n : ℕ) (ks : List Known) (i : ℕ) (d : Known) → i < length ks → known.is_of n (get_or ks i d) ≡ true → ((j : ℕ) → j < i → known.is_of n (get_or ks j d) ≡ false)
    → first_birth n ks ≡ Some (get_or ks i d).birth
first_at n [] i d lt is below = absurd (omega arith)
first_at n (k ∷ ks) zero d lt is below = ap (λ (b : Bool). if b then Some k.birth else first_birth n ks) is
first_at n (k ∷ ks) (suc i) d lt is below =
    ap (λ (b : Bool). if b then Some k.birth else first_birth n ks) (below 0 (omega arith))
    ∙ first_at n ks i d (omega arith) is (λ j lt. below (suc j) (omega arith))

pub birth_told : (of : ℕ → ℕ) (n : ℕ) (ks : List Known) → known.is_known n ks ≡ true → Born of ks → known.birth_of n ks ≡ of n
birth_told of n ks is h = by (position (known.is_of n) ks) refl where
  by : (o : Option ℕ) → position (known.is_of n) ks ≡ o → known.birth_in (known.known_at o ks) ≡ of n
  by None e = absurd (none_passes (known.is_of n) ks e is)
  by (Some i) e =
      let w = position-Some (known.is_of n) ks i known.nobody e in
      ap known.birth_in (slice_get-get_or ks i known.nobody w.0) ∙ h n (get_or ks i known.nobody).birth (first_at n ks i known.nobody w.0 w.1 w.2)
