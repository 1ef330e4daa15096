-- Lists of pairs in any order: the first pair of a key gives its value.
use Rattle.std.proofs.Common.{◌≡◌, ⊎_elim, ℕ, ◌+◌, ◌<◌, ◌≤◌, Bool, true, false, cond, not, List, [], ◌∷◌, ◌++◌, length, get_or, set, filter, position, Some, None, Decides, eqb, bytes_eq, nat_eq, nat_lt, refl, sym, ap, ◌∙◌, subst, arith}
use Rattle.std.specs.List.{position_or_len}
use Rattle.std.specs.Map.{lookup}
use Rattle.std.proofs.lemmas.Bool.{cases_lt, ltb-false}
use Rattle.std.proofs.lemmas.Bool.Decides.{Decides-eqb}
use Rattle.std.proofs.lemmas.List.{get_or_default}
use Rattle.std.proofs.lemmas.List.Quantifiers.{position-Some}
use Rattle.std.proofs.lemmas.List.Sums.{fails_before_first}
use Rattle.std.proofs.lemmas.Map.Entries.{lookup-filter-keys}
use Rattle.call_fs.specs.Maps.{put, put_at}
use Rattle.call_fs.proofs.Maps.{bytes_eq-decides, is_put, is_put_at}
use Rattle.mem_files.specs.Tables.{at_number, IsAt}
use Rattle.mem_fs.specs.Tables.{at_name}
use Rattle.mem_files.proofs.Tables.{NoneBefore, lookup-absent, lookup-at, lookup-set, swaps}

-- no place fits: each place before the first one that fits doesn't
past_all : {X : Type 0} (p : X → Bool) (xs : List X) → position p xs ≡ None → length xs ≤ position_or_len p xs
past_all p xs e = ltb-false (position_or_len p xs) (length xs) (elim (nat_lt (position_or_len p xs) (length xs)) as (λ b. cond b (Some (position_or_len p xs)) None ≡ None → b ≡ false) [ true ↦ λ h. absurd (cc) | false ↦ λ h. refl ] e)

-- ---- by a test that decides whether two keys are the same
module _ {K V : Type 0} (same : K → K → Bool) (decides : (x y : K) → Decides (same x y) (x ≡ y)) where
  at_place : (es : List (K × V)) (k : K) (i : ℕ) → position (λ e. same k e.0) es ≡ Some i → IsAt es k i
  at_place [] k i at = absurd (cc)
  at_place (e ∷ es) k i at = record {
    within = (position-Some (λ (x : K × V). same k x.0) (e ∷ es) i e at).0;
    has_key = λ d. sym ((decides k (get_or (e ∷ es) i d).0).0 (position-Some (λ (x : K × V). same k x.0) (e ∷ es) i d at).1);
  }

  none_before : (es : List (K × V)) (k : K) (i : ℕ) → position (λ e. same k e.0) es ≡ Some i → NoneBefore es k i
  none_before es k i at j d lt within is =
      let no = (position-Some (λ (x : K × V). same k x.0) es i d at).2 j lt in
      let yes : same k (get_or es j d).0 ≡ true = (decides k (get_or es j d).0).1 (sym is) in
      absurd (cc)

  there : (es : List (K × V)) (k : K) (i : ℕ) → position (λ e. same k e.0) es ≡ Some i → (d : K × V) → lookup (same k) es ≡ Some (get_or es i d).1
  there es k i at d = lookup-at same decides es k i (at_place es k i at) (none_before es k i at) d

  missing : (es : List (K × V)) (k : K) → position (λ e. same k e.0) es ≡ None → lookup (same k) es ≡ None
  missing es k none = lookup-absent same decides es k (λ j d lt within is.
      let no = fails_before_first (λ (x : K × V). same k x.0) es j d (omega (arith, past_all (λ (x : K × V). same k x.0) es none, lt)) in
      let yes : same k (get_or es j d).0 ≡ true = (decides k (get_or es j d).0).1 (sym is) in
      absurd (cc))

  changed : (es : List (K × V)) (k : K) (v : V) (i : ℕ) → position (λ e. same k e.0) es ≡ Some i → (q : K) → lookup (same q) (set es i (k, v)) ≡ cond (same q k) (Some v) (lookup (same q) es)
  changed es k v i at q = lookup-set same decides es k v i (at_place es k i at) (none_before es k i at) q

  pushed : (es : List (K × V)) (k : K) (v : V) → lookup (same k) es ≡ None → (q : K) → lookup (same q) (es ++ (k, v) ∷ []) ≡ cond (same q k) (Some v) (lookup (same q) es)
  pushed [] k v none q = refl
  pushed (e ∷ es) k v none q =
      elim (same k e.0) as (λ b. same k e.0 ≡ b → cond b (Some e.1) (lookup (same k) es) ≡ None → cond (same q e.0) (Some e.1) (lookup (same q) (es ++ (k, v) ∷ [])) ≡ cond (same q k) (Some v) (cond (same q e.0) (Some e.1) (lookup (same q) es))) [
        | true ↦ λ t n. absurd (cc)
        | false ↦ λ f n.
            ap (cond (same q e.0) (Some e.1)) (pushed es k v n q)
            ∙ swaps (same q e.0) (same q k) (Some e.1) (Some v) (lookup (same q) es)
            (λ a b. let yes : same k e.0 ≡ true = (decides k e.0).1 (sym ((decides q k).0 b) ∙ (decides q e.0).0 a) in absurd (cc))
      ] refl none

  removed : (es : List (K × V)) (k q : K) → lookup (same q) (filter (λ e. not (same k e.0)) es) ≡ cond (same q k) None (lookup (same q) es)
  removed es k q =
      elim (same q k) as (λ b. same q k ≡ b → lookup (same q) (filter (λ e. not (same k e.0)) es) ≡ cond b None (lookup (same q) es)) [
        | true ↦ λ t. lookup-filter-keys (same q) (λ x. not (same k x)) false (λ x h. ap not ((decides k x).1 (sym ((decides q k).0 t) ∙ (decides q x).0 h))) es
        | false ↦ λ f. lookup-filter-keys (same q) (λ x. not (same k x)) true (λ x h. ap not (apart x h f)) es
      ] refl
    where
      apart : (x : K) → same q x ≡ true → same q k ≡ false → same k x ≡ false
      apart x h f = elim (same k x) as (λ b. same k x ≡ b → b ≡ false) [
        | true ↦ λ t. let yes : same q k ≡ true = (decides q k).1 ((decides q x).0 h ∙ sym ((decides k x).0 t)) in absurd (cc)
        | false ↦ λ t. refl
      ] refl

-- ---- by numbers
module _ {V : Type 0} (es : List (ℕ × V)) (k : ℕ) where
  pub number_there : (i : ℕ) → position (λ e. eqb k e.0) es ≡ Some i → (d : ℕ × V) → at_number es k ≡ Some (get_or es i d).1
  number_there i at d = there nat_eq Decides-eqb es k i at d

  pub number_missing : position (λ e. eqb k e.0) es ≡ None → at_number es k ≡ None
  number_missing none = missing nat_eq Decides-eqb es k none

  pub number_changed : (v : V) (i : ℕ) → position (λ e. eqb k e.0) es ≡ Some i → at_number (set es i (k, v)) ≡ put (at_number es) k (Some v)
  number_changed v i at = is_put (at_number es) (at_number (set es i (k, v))) k (Some v) (changed nat_eq Decides-eqb es k v i at)

  pub number_pushed : (v : V) → at_number es k ≡ None → at_number (es ++ (k, v) ∷ []) ≡ put (at_number es) k (Some v)
  number_pushed v none = is_put (at_number es) (at_number (es ++ (k, v) ∷ [])) k (Some v) (pushed nat_eq Decides-eqb es k v none)

  pub number_removed : at_number (filter (λ e. not (eqb k e.0)) es) ≡ put (at_number es) k None
  number_removed = is_put (at_number es) (at_number (filter (λ e. not (eqb k e.0)) es)) k None (removed nat_eq Decides-eqb es k)

  pub number_place : (i : ℕ) → position (λ e. eqb k e.0) es ≡ Some i → IsAt es k i
  number_place i at = at_place nat_eq Decides-eqb es k i at

-- ---- by names
module _ {V : Type 0} (es : List (List ℕ × V)) (k : List ℕ) where
  pub name_there : (i : ℕ) → position (λ e. bytes_eq k e.0) es ≡ Some i → (d : List ℕ × V) → at_name es k ≡ Some (get_or es i d).1
  name_there i at d = there bytes_eq bytes_eq-decides es k i at d

  pub name_missing : position (λ e. bytes_eq k e.0) es ≡ None → at_name es k ≡ None
  name_missing none = missing bytes_eq bytes_eq-decides es k none

  pub name_pushed : (v : V) → at_name es k ≡ None → at_name (es ++ (k, v) ∷ []) ≡ put_at (at_name es) k (Some v)
  name_pushed v none = is_put_at (at_name es) (at_name (es ++ (k, v) ∷ [])) k (Some v) (pushed bytes_eq bytes_eq-decides es k v none)

  pub name_removed : at_name (filter (λ e. not (bytes_eq k e.0)) es) ≡ put_at (at_name es) k None
  name_removed = is_put_at (at_name es) (at_name (filter (λ e. not (bytes_eq k e.0)) es)) k None (removed bytes_eq bytes_eq-decides es k)

-- ---- one after the other

-- what isn't so of the first ones and of the next isn't so of one more
pub none_more : {X : Type 0} (P : X → Type 0) (xs : List X) (i : ℕ) (x : X) → i < length xs → x ≡ get_or xs i x → ¬ (P x) → ((j : ℕ) (d : X) → j < i → j < length xs → ¬ (P (get_or xs j d)))
    → (j : ℕ) (d : X) → j < i + 1 → j < length xs → ¬ (P (get_or xs j d))
none_more P xs i x within is never before j d lt inside =
    ⊎_elim
    (λ low. before j d low inside)
    (λ high. let here : j ≡ i = omega (arith, high, lt) in λ p. never (subst P (sym (is ∙ get_or_default xs i x d within)) (subst (λ (n : ℕ). P (get_or xs n d)) here p)))
    (cases_lt j i)
