-- The map by number, and the index.
use Rattle.std.proofs.Common.{◌≡◌, ◌≢◌, ℕ, List, [], ◌∷◌, Bool, true, false, cond, refl, sym, ap, ◌∙◌, subst, inl, inr, ⊎_elim, arith, nat_cmp, is_eq, Equal, Greater, Less, Ordering, get_or, length, ◌<◌, BTreeMap, BTreeSet}
use Rattle.std.specs.Prelude.{◌⊎◌, ◌↔◌, Option, Some, None, Contains, IsTrue, is_some}
use Rattle.std.specs.Map.{keys_of, lookup}
use Rattle.std.specs.Ordering.{ordering_then}
use Rattle.std.specs.BTreeMap as tree
use Rattle.std.specs.BTreeMap.{get, is_at}
use Rattle.std.specs.BTreeSet as sorted
use Rattle.std.specs.BTreeSet.{contains}
use Rattle.std.specs.Cmp.{IsTotalOrder}
use Rattle.std.specs.List.{AllByRecursion, list_any}
use Rattle.std.specs.List.Sorted.{IsStrictlySortedBy}
use Rattle.std.proofs.lemmas.Bool.{cases_eq}
use Rattle.std.proofs.lemmas.Cmp.{by_ranked, nat_cmp_total, on_total, ranked, then_total, tied_itself}
use Rattle.std.proofs.lemmas.Map.Keys.{Less-from_sorted, sorted_head, sorted_tail}
use Rattle.std.proofs.lemmas.Map.Lookups.{CmpEqualImpliesEq, exact_pairs, exact_unsigned}
use Rattle.std.proofs.lemmas.Map.Views.{btree_map_get_iff, btree_set_contains_iff, tells_apart}
use Rattle.retry_schedule.specs.Due.{IsBefore, IsInOrder, IsSchedule, IsDueOf, IsFirst, HasNoEntry, first_due, is_due, moved, put, removed}
use Rattle.retry_schedule.specs.Index.{AreByMoment, AreByNumber, IsAt, IsKept, Sets, SetsEntry, Tells, entry, entry_cmp, listed}
use Rattle.retry_schedule.proofs.Entries.{all_by, contains_cases, contains_head, contains_tail, due_none, due_there, first_is, in_added, in_removed, not_true, one_first, same_entry, same_in_order, schedule_added, schedule_put, schedule_removed}

-- ---- std's order of entries

pub entry_total : IsTotalOrder entry_cmp
entry_total = then_total (on_total (λ (e : ℕ × ℕ). e.0) nat_cmp_total) (on_total (λ (e : ℕ × ℕ). e.1) nat_cmp_total)

pub entry_exact : CmpEqualImpliesEq entry_cmp
entry_exact = exact_pairs nat_cmp nat_cmp exact_unsigned exact_unsigned

other_number : (n m : ℕ) → m ≢ n → is_eq (nat_cmp n m) ≡ false
other_number n m far = not_true (is_eq (nat_cmp n m)) (λ t. far (sym (tells_apart exact_unsigned n m t)))

other_entry : (a b : ℕ × ℕ) → b ≢ a → is_eq (entry_cmp a b) ≡ false
other_entry a b far = not_true (is_eq (entry_cmp a b)) (λ t. far (sym (tells_apart entry_exact a b t)))

less_number : (x y : ℕ) → nat_cmp x y ≡ Less → x < y
less_number x y h = by_ranked (x < y) (x ≡ y) (y < x) (nat_cmp x y) (ranked x y (nat_cmp x y) refl) (λ _ lt. lt) (λ e _. absurd (cc)) (λ e _. absurd (cc))

before_from_less : (a b : ℕ × ℕ) → entry_cmp a b ≡ Less → IsBefore a b
before_from_less a b h = by_ranked (a.0 < b.0) (a.0 ≡ b.0) (b.0 < a.0) (nat_cmp a.0 b.0) (ranked a.0 b.0 (nat_cmp a.0 b.0) refl)
    (λ _ lt. inl lt)
    (λ e same. inr (same, less_number a.1 b.1 (sym (ap (λ (o : Ordering). ordering_then o (nat_cmp a.1 b.1)) e) ∙ h)))
    (λ e _. let greater : entry_cmp a b ≡ Greater = ap (λ (o : Ordering). ordering_then o (nat_cmp a.1 b.1)) e in absurd (cc))

in_order : (es : List (ℕ × ℕ)) → IsStrictlySortedBy entry_cmp es → IsInOrder es
in_order es ordered i j d lt high = before_from_less (get_or es i d) (get_or es j d) (Less-from_sorted entry_cmp es i j d ordered lt high)

-- ---- what std's calls do

-- to the map
pub sets_from : (old new : BTreeMap ℕ ℕ) (n : ℕ) (due : Option ℕ) → AreByNumber new → tree.Updates nat_cmp old new n due → Sets old new n due
sets_from old new n due ordered updates = record {
  ordered = ordered;
  here = updates.1;
  others = λ m far. updates.2 m (other_number n m far);
}

-- entries that are the same
same_get : (old new : BTreeMap ℕ ℕ) → new.entries ≡ old.entries → (m : ℕ) → get nat_cmp new m ≡ get nat_cmp old m
same_get old new same m = ap (λ (es : List (ℕ × ℕ)). lookup (is_at (nat_cmp m)) es) same

pub sets_nothing : (old new : BTreeMap ℕ ℕ) (n : ℕ) → AreByNumber new → new.entries ≡ old.entries → get nat_cmp old n ≡ None → Sets old new n None
sets_nothing old new n ordered same none = record {
  ordered = ordered;
  here = same_get old new same n ∙ none;
  others = λ m far. same_get old new same m;
}

-- to the index: it has an entry from now on, or hasn't
pub record Puts (old new : BTreeSet (ℕ × ℕ)) (e : ℕ × ℕ) (is : Bool) : Type 0 where
  pub here : contains entry_cmp new e ≡ is
  pub others : (o : ℕ × ℕ) → o ≢ e → contains entry_cmp new o ≡ contains entry_cmp old o

pub puts_from : (old new : BTreeSet (ℕ × ℕ)) (e : ℕ × ℕ) (is : Bool) → sorted.Updates entry_cmp old new e is → Puts old new e is
puts_from old new e is updates = record { here = updates.1; others = λ o far. updates.2 o (other_entry e o far) }

-- ---- the entries of one number in the index

of_other : (n d : ℕ) (e : ℕ × ℕ) → e.1 ≢ n → e ≢ entry d n
of_other n d e far same = far (ap (λ (x : ℕ × ℕ). x.1) same)

at_other : (n d c : ℕ) → c ≢ d → entry c n ≢ entry d n
at_other n d c far same = far (ap (λ (x : ℕ × ℕ). x.0) same)

-- what it has there, after another moment was put in
module _ (s t : BTreeSet (ℕ × ℕ)) (n due : ℕ) (enters : Puts s t (entry due n) true) where
  enters_here : (moment : ℕ) → moment ≡ due → contains entry_cmp t (entry moment n) ≡ true
  enters_here moment same = subst (λ (m : ℕ). contains entry_cmp t (entry m n) ≡ true) (sym same) enters.here

  enters_else : (moment : ℕ) → moment ≢ due → contains entry_cmp t (entry moment n) ≡ contains entry_cmp s (entry moment n)
  enters_else moment far = enters.others (entry moment n) (at_other n due moment far)

  -- where it had none
  pub enters_none : IsAt s n None → SetsEntry s t n (Some due)
  enters_none stands = record {
    here = λ moment. ⊎_elim
        (λ same. (λ h. ap Some (sym same), λ h. enters_here moment same))
        (λ far. (λ h. let none : ◌≡◌ {A = Option ℕ} None (Some moment) = (stands moment).0 (sym (enters_else moment far) ∙ h) in absurd (cc), λ h. let same : due ≡ moment = cc in absurd (far (sym same))))
        (cases_eq moment due);
    others = λ e far. enters.others e (of_other n due e far);
  }

  -- where it had the same
  pub enters_same : IsAt s n (Some due) → SetsEntry s t n (Some due)
  enters_same stands = record {
    here = λ moment. ⊎_elim
        (λ same. (λ h. ap Some (sym same), λ h. enters_here moment same))
        (λ far. (λ h. (stands moment).0 (sym (enters_else moment far) ∙ h), λ h. let same : due ≡ moment = cc in absurd (far (sym same))))
        (cases_eq moment due);
    others = λ e far. enters.others e (of_other n due e far);
  }

-- what it has there, after a moment was taken out
module _ (s t : BTreeSet (ℕ × ℕ)) (n old : ℕ) (leaves : Puts s t (entry old n) false) where
  leaves_here : (moment : ℕ) → moment ≡ old → contains entry_cmp t (entry moment n) ≡ false
  leaves_here moment same = subst (λ (m : ℕ). contains entry_cmp t (entry m n) ≡ false) (sym same) leaves.here

  leaves_else : (moment : ℕ) → moment ≢ old → contains entry_cmp t (entry moment n) ≡ contains entry_cmp s (entry moment n)
  leaves_else moment far = leaves.others (entry moment n) (at_other n old moment far)

  -- the only one that it had
  pub leaves_one : IsAt s n (Some old) → SetsEntry s t n None
  leaves_one stands = record {
    here = λ moment. (
      λ h. ⊎_elim
          (λ same. let none : contains entry_cmp t (entry moment n) ≡ false = leaves_here moment same in absurd (cc))
          (λ far. let was : ◌≡◌ {A = Option ℕ} (Some old) (Some moment) = (stands moment).0 (sym (leaves_else moment far) ∙ h) in let is : old ≡ moment = cc in absurd (far (sym is)))
          (cases_eq moment old),
      λ h. absurd (cc),
    );
    others = λ e far. leaves.others e (of_other n old e far);
  }

-- another moment put in, and then the old one taken out
module _ (s mid t : BTreeSet (ℕ × ℕ)) (n old due : ℕ) (stands : IsAt s n (Some old)) (enters : Puts s mid (entry due n) true) (leaves : Puts mid t (entry old n) false) (apart : old ≢ due) where
  shifts_to : (moment : ℕ) → contains entry_cmp t (entry moment n) ≡ true → ◌≡◌ {A = Option ℕ} (Some due) (Some moment)
  shifts_to moment h = ⊎_elim
      (λ same. ap Some (sym same))
      (λ far. ⊎_elim
      (λ same. let none : contains entry_cmp t (entry moment n) ≡ false = leaves_here mid t n old leaves moment same in absurd (cc))
      (λ other.
      let was : ◌≡◌ {A = Option ℕ} (Some old) (Some moment) = (stands moment).0 (sym (enters_else s mid n due enters moment far) ∙ sym (leaves_else mid t n old leaves moment other) ∙ h) in
      let is : old ≡ moment = cc in
      absurd (other (sym is)))
      (cases_eq moment old))
      (cases_eq moment due)

  shifts_from : (moment : ℕ) → ◌≡◌ {A = Option ℕ} (Some due) (Some moment) → contains entry_cmp t (entry moment n) ≡ true
  shifts_from moment h =
      let is : due ≡ moment = cc in
      let far : moment ≢ old = λ e. apart (sym e ∙ sym is) in
      leaves_else mid t n old leaves moment far ∙ enters_here s mid n due enters moment (sym is)

  pub shifts : SetsEntry s t n (Some due)
  shifts = record {
    here = λ moment. (shifts_to moment, shifts_from moment);
    others = λ e far. leaves.others e (of_other n old e far) ∙ enters.others e (of_other n due e far);
  }

-- put in and taken out again, where there was none
module _ (s mid t : BTreeSet (ℕ × ℕ)) (n due : ℕ) (stands : IsAt s n None) (enters : Puts s mid (entry due n) true) (leaves : Puts mid t (entry due n) false) where
  pub undoes : SetsEntry s t n None
  undoes = record {
    here = λ moment. (
      λ h. ⊎_elim
          (λ same. let none : contains entry_cmp t (entry moment n) ≡ false = leaves_here mid t n due leaves moment same in absurd (cc))
          (λ far. (stands moment).0 (sym (enters_else s mid n due enters moment far) ∙ sym (leaves_else mid t n due leaves moment far) ∙ h))
          (cases_eq moment due),
      λ h. absurd (cc),
    );
    others = λ e far. leaves.others e (of_other n due e far) ∙ enters.others e (of_other n due e far);
  }

-- ---- an index that tells the entries

pub stands_at : (m : BTreeMap ℕ ℕ) (s : BTreeSet (ℕ × ℕ)) (n : ℕ) (due : Option ℕ) → Tells m s → get nat_cmp m n ≡ due → IsAt s n due
stands_at m s n due tells is = subst (λ (o : Option ℕ). IsAt s n o) is (λ moment. tells (entry moment n))

pub tells_set : (m n : BTreeMap ℕ ℕ) (s t : BTreeSet (ℕ × ℕ)) (k : ℕ) (due : Option ℕ) → Tells m s → Sets m n k due → SetsEntry s t k due → Tells n t
tells_set m n s t k due tells sets puts e = ⊎_elim
    (λ same.
    subst (λ (j : ℕ). IsTrue (contains entry_cmp t (entry e.0 j)) ↔ (get nat_cmp n j ≡ Some e.0)) (sym same)
    (λ h. sets.here ∙ (puts.here e.0).0 h, λ h. (puts.here e.0).1 (sym sets.here ∙ h)))
    (λ far. (
      λ h. sets.others e.1 far ∙ (tells e).0 (sym (puts.others e far) ∙ h),
      λ h. puts.others e far ∙ (tells e).1 (sym (sets.others e.1 far) ∙ h),
    ))
    (cases_eq e.1 k)

-- ---- the entries of the map

pub in_listed : (ms : List (ℕ × ℕ)) (e : ℕ × ℕ) → Contains (listed ms) e ↔ Contains ms (entry e.1 e.0)
in_listed [] e = (λ h. let low = h.1 in absurd (omega arith), λ h. let low = h.1 in absurd (omega arith))
in_listed (m ∷ ms) e = (
  λ h. ⊎_elim
      (λ same. subst (λ (x : ℕ × ℕ). Contains (m ∷ ms) x) (sym (ap (λ (x : ℕ × ℕ). entry x.1 x.0) same)) (contains_head m ms))
      (λ more. contains_tail m ms (entry e.1 e.0) ((in_listed ms e).0 more))
      ((in_added (entry m.1 m.0) e (listed ms)).0 h),
  λ h. (in_added (entry m.1 m.0) e (listed ms)).1
      (⊎_elim
      (λ same. inl (ap (λ (x : ℕ × ℕ). entry x.1 x.0) same))
      (λ more. inr ((in_listed ms e).1 more))
      (contains_cases m ms (entry e.1 e.0) h)),
)

not_less : (k y : ℕ) → nat_cmp k y ≡ Less → y ≡ k → ⊥
not_less k y less same = let tied : nat_cmp k y ≡ Equal = ap (λ (x : ℕ). nat_cmp k x) same ∙ tied_itself nat_cmp_total k in absurd (cc)

-- no later number is the first one
none_again : (k : ℕ) (ms : List (ℕ × ℕ)) → AllByRecursion (λ y. nat_cmp k y ≡ Less) (keys_of ms) → (o : ℕ × ℕ) → Contains ms o → o.0 ≢ k
none_again k [] above o h = let low = h.1 in absurd (omega arith)
none_again k (m ∷ ms) above o h = ⊎_elim
    (λ same is. not_less k m.0 above.0 (sym (ap (λ (x : ℕ × ℕ). x.0) same) ∙ is))
    (λ more. none_again k ms above.1 o more)
    (contains_cases m ms o h)

pub schedule_listed : (ms : List (ℕ × ℕ)) → IsStrictlySortedBy nat_cmp (keys_of ms) → IsSchedule (listed ms)
schedule_listed [] h = record {
  order = λ i j d lt high. absurd (omega arith);
  one = λ i j d lt high. absurd (omega arith);
}
schedule_listed (m ∷ ms) h =
    schedule_added (entry m.1 m.0) (listed ms) (schedule_listed ms (sorted_tail nat_cmp m.0 (keys_of ms) h))
    (all_by (λ e. e.1 ≢ m.0) (listed ms) (λ o w. none_again m.0 ms (sorted_head nat_cmp m.0 (keys_of ms) h) (entry o.1 o.0) ((in_listed ms o).0 w)))

module _ (m : BTreeMap ℕ ℕ) (ordered : AreByNumber m) where
  pub in_view : (e : ℕ × ℕ) → Contains (listed m.entries) e ↔ (get nat_cmp m e.1 ≡ Some e.0)
  in_view e =
      let found = btree_map_get_iff nat_cmp_total exact_unsigned m ordered e.1 e.0 in
      let has = in_listed m.entries e in
      (λ h. found.1 (has.0 h), λ h. has.1 (found.0 h))

  pub schedule_view : IsSchedule (listed m.entries)
  schedule_view = schedule_listed m.entries ordered

  -- a number that isn't in the map has no entry
  pub none_view : (n : ℕ) → get nat_cmp m n ≡ None → HasNoEntry n (listed m.entries)
  none_view n none = all_by (λ e. e.1 ≢ n) (listed m.entries) (λ o h same.
      let had : get nat_cmp m n ≡ Some o.0 = subst (λ (j : ℕ). get nat_cmp m j ≡ Some o.0) same ((in_view o).0 h) in
      absurd (cc))

  pub due_of_view : (n : ℕ) (due : Option ℕ) → due ≡ get nat_cmp m n → IsDueOf n (listed m.entries) due
  due_of_view n None is = none_view n (sym is)
  due_of_view n (Some due) is = (in_view (entry due n)).1 (sym is)

  pub is_due_view : (n : ℕ) (due : Option ℕ) → due ≡ get nat_cmp m n → is_some due ≡ is_due n (listed m.entries)
  is_due_view n None is = sym (due_none n (listed m.entries) (none_view n (sym is)))
  is_due_view n (Some due) is = sym (due_there n (listed m.entries) (entry due n) ((in_view (entry due n)).1 (sym is)) refl)

  -- what was found in the index is what the list has
  pub index_is : (s : BTreeSet (ℕ × ℕ)) → AreByMoment s → Tells m s → s.keys ≡ listed m.entries
  index_is s by_moment tells = same_in_order s.keys (listed m.entries) (in_order s.keys by_moment) schedule_view.order (λ e.
      let has = btree_set_contains_iff entry_total entry_exact s e in
      (λ h. (in_view e).1 ((tells e).0 (has.1 h)), λ h. has.0 ((tells e).1 ((in_view e).0 h))))

  -- a number that is due then from now on
  pub view_set : (n : BTreeMap ℕ ℕ) (k due : ℕ) → Sets m n k (Some due) → listed n.entries ≡ put (entry due k) (listed m.entries)
  view_set n k due sets =
      same_in_order (listed n.entries) (put (entry due k) (listed m.entries)) (schedule_listed n.entries sets.ordered).order (schedule_put (entry due k) (listed m.entries) schedule_view).order (λ e. (onward e, backward e))
    where
      seen : (e : ℕ × ℕ) → Contains (listed n.entries) e ↔ (get nat_cmp n e.1 ≡ Some e.0)
      seen e =
          let found = btree_map_get_iff nat_cmp_total exact_unsigned n sets.ordered e.1 e.0 in
          let has = in_listed n.entries e in
          (λ h. found.1 (has.0 h), λ h. has.1 (found.0 h))

      onward : (e : ℕ × ℕ) → Contains (listed n.entries) e → Contains (put (entry due k) (listed m.entries)) e
      onward e h =
          let is : get nat_cmp n e.1 ≡ Some e.0 = (seen e).0 h in
          (in_added (entry due k) e (removed k (listed m.entries))).1
          (⊎_elim
          (λ same.
          let here : get nat_cmp n e.1 ≡ Some due = subst (λ (j : ℕ). get nat_cmp n j ≡ Some due) (sym same) sets.here in
          let moment : e.0 ≡ due = cc in
          inl (same_entry e (entry due k) moment same))
          (λ far. inr ((in_removed k e (listed m.entries)).1 ((in_view e).1 (sym (sets.others e.1 far) ∙ is), far)))
          (cases_eq e.1 k))

      backward : (e : ℕ × ℕ) → Contains (put (entry due k) (listed m.entries)) e → Contains (listed n.entries) e
      backward e h = (seen e).1
          (⊎_elim
          (λ same. subst (λ (x : ℕ × ℕ). get nat_cmp n x.1 ≡ Some x.0) (sym same) sets.here)
          (λ old. let kept = (in_removed k e (listed m.entries)).0 old in sets.others e.1 kept.1 ∙ (in_view e).0 kept.0)
          ((in_added (entry due k) e (removed k (listed m.entries))).0 h))

  -- a number that isn't due from now on
  pub view_gone : (n : BTreeMap ℕ ℕ) (k : ℕ) → Sets m n k None → listed n.entries ≡ removed k (listed m.entries)
  view_gone n k sets =
      same_in_order (listed n.entries) (removed k (listed m.entries)) (schedule_listed n.entries sets.ordered).order (schedule_removed k (listed m.entries) schedule_view).order (λ e. (onward e, backward e))
    where
      seen : (e : ℕ × ℕ) → Contains (listed n.entries) e ↔ (get nat_cmp n e.1 ≡ Some e.0)
      seen e =
          let found = btree_map_get_iff nat_cmp_total exact_unsigned n sets.ordered e.1 e.0 in
          let has = in_listed n.entries e in
          (λ h. found.1 (has.0 h), λ h. has.1 (found.0 h))

      onward : (e : ℕ × ℕ) → Contains (listed n.entries) e → Contains (removed k (listed m.entries)) e
      onward e h =
          let is : get nat_cmp n e.1 ≡ Some e.0 = (seen e).0 h in
          ⊎_elim
          (λ same.
          let here : get nat_cmp n e.1 ≡ None = subst (λ (j : ℕ). get nat_cmp n j ≡ None) (sym same) sets.here in
          absurd (cc))
          (λ far. (in_removed k e (listed m.entries)).1 ((in_view e).1 (sym (sets.others e.1 far) ∙ is), far))
          (cases_eq e.1 k)

      backward : (e : ℕ × ℕ) → Contains (removed k (listed m.entries)) e → Contains (listed n.entries) e
      backward e h = let kept = (in_removed k e (listed m.entries)).0 h in (seen e).1 (sets.others e.1 kept.1 ∙ (in_view e).0 kept.0)

  -- a number that had a due moment has another one from now on
  pub view_moved : (n : BTreeMap ℕ ℕ) (k old due : ℕ) → get nat_cmp m k ≡ Some old → Sets m n k (Some due) → listed n.entries ≡ moved (entry due k) (listed m.entries)
  view_moved n k old due had sets =
      view_set n k due sets
      ∙ sym (ap (λ b. cond b (put (entry due k) (listed m.entries)) (listed m.entries)) (due_there k (listed m.entries) (entry old k) ((in_view (entry old k)).1 had) refl))

  -- one that had none has none
  pub view_unmoved : (k due : ℕ) → get nat_cmp m k ≡ None → listed m.entries ≡ moved (entry due k) (listed m.entries)
  view_unmoved k due none = sym (ap (λ b. cond b (put (entry due k) (listed m.entries)) (listed m.entries)) (due_none k (listed m.entries) (none_view k none)))

-- ---- both together

pub kept_anew : (m : BTreeMap ℕ ℕ) (s : BTreeSet (ℕ × ℕ)) (b : Bool) → AreByNumber m → AreByMoment s → (b ≡ true → Tells m s) → IsKept m s b
kept_anew m s b by_number by_moment tells = record { by_number = by_number; by_moment = by_moment; tells = tells }

pub kept_told : (m : BTreeMap ℕ ℕ) (s : BTreeSet (ℕ × ℕ)) (b c : Bool) → IsKept m s b → Tells m s → IsKept m s c
kept_told m s b c kept tells = record { by_number = kept.by_number; by_moment = kept.by_moment; tells = λ _. tells }

-- after one number's entry changed in both, or in the map alone
pub kept_set : (m n : BTreeMap ℕ ℕ) (s t : BTreeSet (ℕ × ℕ)) (k : ℕ) (due : Option ℕ) (b c : Bool) → IsKept m s b → AreByMoment t → Sets m n k due → (c ≡ true → (b ≡ true) × SetsEntry s t k due) → IsKept n t c
kept_set m n s t k due b c kept by_moment sets puts = record {
  by_number = sets.ordered;
  by_moment = by_moment;
  tells = λ h. let both = puts h in tells_set m n s t k due (kept.tells both.0) sets both.1;
}

-- an index of the same entries, beside a map of the same entries
pub kept_same : (m n : BTreeMap ℕ ℕ) (s t : BTreeSet (ℕ × ℕ)) (b : Bool) → IsKept m s b → AreByNumber n → n.entries ≡ m.entries → AreByMoment t → t.keys ≡ s.keys → IsKept n t b
kept_same m n s t b kept by_number entries by_moment keys = record {
  by_number = by_number;
  by_moment = by_moment;
  tells = λ h e.
      let was = kept.tells h e in
      let found : get nat_cmp n e.1 ≡ get nat_cmp m e.1 = same_get m n entries e.1 in
      let has : contains entry_cmp t e ≡ contains entry_cmp s e = ap (λ (ks : List (ℕ × ℕ)). list_any (is_at (entry_cmp e)) ks) keys in
      (λ w. found ∙ was.0 (sym has ∙ w), λ w. has ∙ was.1 (sym found ∙ w));
}

-- a map beside an index that isn't said to tell its entries
pub kept_untold : (m : BTreeMap ℕ ℕ) (s : BTreeSet (ℕ × ℕ)) → AreByNumber m → AreByMoment s → IsKept m s false
kept_untold m s by_number by_moment = record { by_number = by_number; by_moment = by_moment; tells = λ h. absurd (cc) }

pub kept_nothing : (m : BTreeMap ℕ ℕ) (s : BTreeSet (ℕ × ℕ)) → AreByNumber m → AreByMoment s → m.entries ≡ [] → s.keys ≡ [] → IsKept m s true
kept_nothing m s by_number by_moment empty none = record {
  by_number = by_number;
  by_moment = by_moment;
  tells = λ h e.
      let found : get nat_cmp m e.1 ≡ None = ap (λ (es : List (ℕ × ℕ)). lookup (is_at (nat_cmp e.1)) es) empty in
      let has : contains entry_cmp s e ≡ false = ap (λ (ks : List (ℕ × ℕ)). list_any (is_at (entry_cmp e)) ks) none in
      (λ w. absurd (cc), λ w. absurd (cc));
}

-- none of no entries is due
pub none_due : (now : ℕ) (es : List (ℕ × ℕ)) → (0 < length es → ⊥) → ◌≡◌ {A = Option (ℕ × ℕ)} None (first_due now es)
none_due now [] empty = refl
none_due now (e ∷ es) empty = absurd (empty (omega arith))

-- the first by either way is the first
pub first_by_index : (m : BTreeMap ℕ ℕ) (s : BTreeSet (ℕ × ℕ)) (b : Bool) (now : ℕ) (r : Option (ℕ × ℕ)) → IsKept m s b → b ≡ true → r ≡ first_due now s.keys → r ≡ first_due now (listed m.entries)
first_by_index m s b now r kept told is = is ∙ ap (λ (es : List (ℕ × ℕ)). first_due now es) (index_is m kept.by_number s kept.by_moment (kept.tells told))

pub first_by_walk : (m : BTreeMap ℕ ℕ) (now : ℕ) (r : Option (ℕ × ℕ)) → AreByNumber m → IsFirst now (listed m.entries) r → r ≡ first_due now (listed m.entries)
first_by_walk m now r by_number first = one_first now (listed m.entries) r (first_due now (listed m.entries)) first (first_is now (listed m.entries) (schedule_view m by_number).order)

pub is_first : (m : BTreeMap ℕ ℕ) (now : ℕ) (r : Option (ℕ × ℕ)) → AreByNumber m → r ≡ first_due now (listed m.entries) → IsFirst now (listed m.entries) r
is_first m now r by_number is = subst (λ (o : Option (ℕ × ℕ)). IsFirst now (listed m.entries) o) (sym is) (first_is now (listed m.entries) (schedule_view m by_number).order)
