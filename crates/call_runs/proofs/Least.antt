-- The least part in a directory after another one, looked for among names in any order.
use Rattle.std.proofs.Common.{◌≡◌, ◌⊎◌, ⊎_elim, ℕ, zero, suc, ◌+◌, ◌<◌, ◌≤◌, Bool, true, false, cond, List, [], ◌∷◌, ◌++◌, length, get_or, Option, Some, None, IsSome, is_some, IfSome, IfNone, Bor, bytes_eq, nat_cmp, is_gt, Ordering, Less, Equal, Greater, refl, sym, ap, ◌∙◌, subst, arith}
use Rattle.std.specs.Cmp.Lexicographic.{slice_cmp}
use Rattle.std.specs.Map.{lookup}
use Rattle.std.specs.Option.{option_copied}
use Rattle.std.specs.Ordering.{is_le, ordering_reverse}
use Rattle.std.proofs.lemmas.Bool.{cases_lt}
use Rattle.std.proofs.lemmas.Cmp.{nat_list_cmp_total, tied_itself}
use Rattle.std.proofs.lemmas.List.{get_or_default}
use Rattle.call_fs.specs.Apply.{IsLastName, IsLater, IsNextName}
use Rattle.call_fs.specs.Disk.{Disk}
use Rattle.call_fs.proofs.Maps.{bytes_eq-decides}
use Rattle.mem_fs.specs.Tables.{at_name}
use Rattle.mem_fs.proofs.Parts.{same_part}
use Rattle.mem_files.proofs.Tables.{place_of_found}
use Rattle.call_runs.specs.Lists.{IsLeastPart}

-- none is above the one that isn't above it
not_above : (a b c : List ℕ) → is_gt (slice_cmp nat_cmp a b) ≡ false → is_gt (slice_cmp nat_cmp b c) ≡ false → is_gt (slice_cmp nat_cmp a c) ≡ false
not_above a b c low high = by (slice_cmp nat_cmp a b) (slice_cmp nat_cmp b c) refl refl low high
  where
    by : (r s : Ordering) → slice_cmp nat_cmp a b ≡ r → slice_cmp nat_cmp b c ≡ s → is_gt r ≡ false → is_gt s ≡ false → is_gt (slice_cmp nat_cmp a c) ≡ false
    by Greater s is js l h = absurd (cc)
    by Equal s is js l h = ap is_gt (nat_list_cmp_total.congr a b c is ∙ js) ∙ h
    by Less Less is js l h = ap is_gt (nat_list_cmp_total.trans a b c is js)
    by Less Greater is js l h = absurd (cc)
    by Less Equal is js l h =
        let cb : slice_cmp nat_cmp c b ≡ Equal = nat_list_cmp_total.antisymm c b ∙ ap ordering_reverse js in
        let ba : slice_cmp nat_cmp b a ≡ Greater = nat_list_cmp_total.antisymm b a ∙ ap ordering_reverse is in
        let ca : slice_cmp nat_cmp c a ≡ Greater = nat_list_cmp_total.congr c b a cb ∙ ba in
        ap is_gt (nat_list_cmp_total.antisymm a c ∙ ap ordering_reverse ca)

-- a name that stands in the list has a number
some_at : (names : List (List ℕ × ℕ)) (k : List ℕ) (j : ℕ) → j < length names → ((d : List ℕ × ℕ) → (get_or names j d).0 ≡ k) → IsSome (at_name names k)
some_at [] k j lt is = absurd (omega arith)
some_at (e ∷ es) k zero lt here = let yes : bytes_eq k e.0 ≡ true = (bytes_eq-decides k e.0).1 (sym (here e)) in ap (λ (b : Bool). is_some (cond b (Some e.1) (lookup (bytes_eq k) es))) yes
some_at (e ∷ es) k (suc i) lt here =
    elim (bytes_eq k e.0) as (λ b. IsSome (cond b (Some e.1) (lookup (bytes_eq k) es))) [
      | true ↦ refl
      | false ↦ some_at es k i (omega arith) here
    ]

-- The least of the first names: it stands somewhere in the list, and none of the first ones is below it.
pub record IsLeastOf (names : List (List ℕ × ℕ)) (dir after : List ℕ) (i : ℕ) (least : Option (List ℕ)) : Type 0 where
  pub found : (p : List ℕ) → least ≡ Some p → IsLater after p × (j : ℕ) × (j < length names) × ((d : List ℕ × ℕ) → (get_or names j d).0 ≡ dir ++ 47 ∷ p)
  pub none_below : (j : ℕ) (d : List ℕ × ℕ) → j < i → j < length names → (q : List ℕ) → (get_or names j d).0 ≡ dir ++ 47 ∷ q → IsLater after q → (p : List ℕ) × (least ≡ Some p) × (is_gt (slice_cmp nat_cmp p q) ≡ false)

pub least_none : (names : List (List ℕ × ℕ)) (dir after : List ℕ) → IsLeastOf names dir after 0 None
least_none names dir after = record { found = λ p is. absurd (cc); none_below = λ j d lt. absurd (omega arith) }

module _ (names : List (List ℕ × ℕ)) (dir after : List ℕ) (i : ℕ) (least : Option (List ℕ)) (so : IsLeastOf names dir after i least) (e : List ℕ × ℕ) (within : i < length names) (read : e ≡ get_or names i e)
  where
    here : (j : ℕ) (d : List ℕ × ℕ) → i ≤ j → j < i + 1 → e.0 ≡ (get_or names j d).0
    here j d high lt =
        let is : i ≡ j = omega (arith, high, lt) in
        ap (λ (x : List ℕ × ℕ). x.0) (read ∙ get_or_default names i e d within) ∙ ap (λ (n : ℕ). (get_or names n d).0) is

    -- the next name isn't a later one of the directory
    pub least_past : ((part : List ℕ) → e.0 ≡ dir ++ 47 ∷ part → ¬ (IsLater after part)) → IsLeastOf names dir after (i + 1) least
    least_past never = record {
      found = so.found;
      none_below = λ j d lt inside q is later. ⊎_elim (λ low. so.none_below j d low inside q is later) (λ high. absurd (never q (here j d high lt ∙ is) later)) (cases_lt j i);
    }

    -- it is
    pub least_more : (part lesser : List ℕ) → e.0 ≡ dir ++ 47 ∷ part → IsLater after part → (lesser ≡ part) ⊎ (least ≡ Some lesser) → is_gt (slice_cmp nat_cmp lesser part) ≡ false
        → IfSome least (λ p. is_gt (slice_cmp nat_cmp lesser p) ≡ false) → IsLeastOf names dir after (i + 1) (Some lesser)
    least_more part lesser stands late one low lows = record {
      found = λ p is. let same : lesser ≡ p = cc in subst (λ (x : List ℕ). IsLater after x × (j : ℕ) × (j < length names) × ((d : List ℕ × ℕ) → (get_or names j d).0 ≡ dir ++ 47 ∷ x)) same first;
      none_below = λ j d lt inside q is later. (
        lesser,
        refl,
        ⊎_elim
            (λ early. let old = so.none_below j d early inside q is later in
            not_above lesser old.0 q (subst (λ (o : Option (List ℕ)). IfSome o (λ p. is_gt (slice_cmp nat_cmp lesser p) ≡ false)) old.1 lows) old.2)
            (λ high. subst (λ (x : List ℕ). is_gt (slice_cmp nat_cmp lesser x) ≡ false) (same_part dir part q (sym stands ∙ here j d high lt ∙ is)) low)
            (cases_lt j i),
      );
    }
      where
        first : IsLater after lesser × (j : ℕ) × (j < length names) × ((d : List ℕ × ℕ) → (get_or names j d).0 ≡ dir ++ 47 ∷ lesser)
        first = ⊎_elim
            (λ same. subst (λ (x : List ℕ). IsLater after x × (j : ℕ) × (j < length names) × ((d : List ℕ × ℕ) → (get_or names j d).0 ≡ dir ++ 47 ∷ x)) (sym same)
            (late, i, within, λ d. sym (here i d (omega arith) (omega arith)) ∙ stands))
            (λ had. so.found lesser had)
            one

-- what is found stands somewhere
found_at : (es : List (List ℕ × ℕ)) (k : List ℕ) → IsSome (at_name es k) → (n : ℕ) × (j : ℕ) × (j < length es) × ((d : List ℕ × ℕ) → (get_or es j d).0 ≡ k)
found_at es k some = elim (at_name es k) as (λ o. at_name es k ≡ o → IsSome o → (n : ℕ) × (j : ℕ) × (j < length es) × ((d : List ℕ × ℕ) → (get_or es j d).0 ≡ k)) [
  | None ↦ λ e h. absurd (cc)
  | Some n ↦ λ e h. let w = place_of_found bytes_eq bytes_eq-decides es k n e in (n, w.0, w.1, λ d. ap (λ (x : List ℕ × ℕ). x.0) (w.2 d))
] refl some

pub least_is : (names : List (List ℕ × ℕ)) (dir after : List ℕ) (i : ℕ) (least : Option (List ℕ)) → length names ≤ i → IsLeastOf names dir after i least → IsLeastPart names dir after least
least_is names dir after i None all so = λ d same other there.
    let w = found_at names (dir ++ 47 ∷ other) (subst (λ (m : List ℕ → Option ℕ). IsSome (m (dir ++ 47 ∷ other))) same there.0) in
    let below = so.none_below w.1 (dir ++ 47 ∷ other, w.0) (omega (arith, w.2, all)) w.2 other (w.3 (dir ++ 47 ∷ other, w.0)) there.1 in
    absurd (let no = below.1 in cc)
least_is names dir after i (Some part) all so = λ d same.
    let at = so.found part refl in
    record {
      stands = (subst (λ (m : List ℕ → Option ℕ). IsSome (m (dir ++ 47 ∷ part))) (sym same) (some_at names (dir ++ 47 ∷ part) at.1 at.2 at.3), at.0);
      least = λ other there.
          let w = found_at names (dir ++ 47 ∷ other) (subst (λ (m : List ℕ → Option ℕ). IsSome (m (dir ++ 47 ∷ other))) same there.0) in
          let below = so.none_below w.1 (dir ++ 47 ∷ other, w.0) (omega (arith, w.2, all)) w.2 other (w.3 (dir ++ 47 ∷ other, w.0)) there.1 in
          let is : below.0 ≡ part = let e = below.1 in cc in
          subst (λ (x : List ℕ). is_gt (slice_cmp nat_cmp x other) ≡ false) is below.2;
    }

-- the lesser of two, by how they compare
pub le_flips : (a b : List ℕ) → is_le (slice_cmp nat_cmp a b) ≡ false → is_gt (slice_cmp nat_cmp b a) ≡ false
le_flips a b high = by (slice_cmp nat_cmp a b) refl high
  where
    by : (r : Ordering) → slice_cmp nat_cmp a b ≡ r → is_le r ≡ false → is_gt (slice_cmp nat_cmp b a) ≡ false
    by Less is h = absurd (cc)
    by Equal is h = absurd (cc)
    by Greater is h = ap is_gt (nat_list_cmp_total.antisymm b a ∙ ap ordering_reverse is)

pub not_above_itself : (a : List ℕ) → is_gt (slice_cmp nat_cmp a a) ≡ false
not_above_itself a = ap is_gt (tied_itself nat_list_cmp_total a)

pub le_not_gt : (r : Ordering) → is_le r ≡ true → is_gt r ≡ false
le_not_gt Less h = refl
le_not_gt Equal h = refl
le_not_gt Greater h = absurd (cc)

-- what is lent, as a value
pub if_copied : (o : Option (Bor (List ℕ))) (P : List ℕ → Type 0) → IfSome o (λ b. P b.now) → IfSome (option_copied o) P
if_copied None P h = tt
if_copied (Some b) P h = h

pub next_some : (names : List (List ℕ × ℕ)) (dir after : List ℕ) (r : Option (Bor (List ℕ))) (d : Disk) → d.names ≡ at_name names → IsLeastPart names dir after (option_copied r) → IfSome r (λ name. IsNextName d dir after name.now)
next_some names dir after None d same h = tt
next_some names dir after (Some part) d same h = h d same

pub next_none : (names : List (List ℕ × ℕ)) (dir after : List ℕ) (r : Option (Bor (List ℕ))) (d : Disk) → d.names ≡ at_name names → IsLeastPart names dir after (option_copied r) → IfNone r (IsLastName d dir after)
next_none names dir after None d same h = h d same
next_none names dir after (Some part) d same h = tt
