-- A walk over the map: into the index, and for the least entry.
use Rattle.std.proofs.Common.{◌≡◌, ℕ, ◌<◌, ◌≤◌, List, [], ◌∷◌, ◌++◌, true, false, cond, refl, sym, ap, ◌∙◌, subst, inl, inr, ⊎_elim, arith, append_assoc, append-nil, BTreeMap, BTreeSet}
use Rattle.std.specs.Prelude.{◌⊎◌, ◌↔◌, Option, Some, None, Contains, IsTrue}
use Rattle.std.specs.BTreeMap.{is_at}
use Rattle.std.specs.BTreeSet.{contains}
use Rattle.std.specs.List.{list_any}
use Rattle.std.proofs.lemmas.Bool.{cond_both}
use Rattle.std.proofs.lemmas.Bool.Decides.{leb_tells, not_from_Decides}
use Rattle.std.proofs.lemmas.List.Elements.{All-nil, All-cons, All-weaker, All-contains, Contains-append_left, Contains-append_right, Contains-append_cases}
use Rattle.std.proofs.lemmas.Map.Lookups.{exact_unsigned}
use Rattle.std.proofs.lemmas.Map.Views.{btree_map_get_iff}
use Rattle.std.proofs.lemmas.Cmp.{nat_cmp_total}
use Rattle.retry_schedule.specs.Due.{IsBefore, IsFirst, before}
use Rattle.retry_schedule.specs.Index.{AreByMoment, AreByNumber, Tells, entry, entry_cmp, lesser, listed}
use Rattle.retry_schedule.proofs.Entries.{all_by, before_decides, before_trans, contains_cases, contains_head, contains_tail, same_or_not, which}
use Rattle.retry_schedule.proofs.Kept.{Puts, in_listed}

-- ---- into the index

-- the index has the entries of the map but those that the walk has still to come to
pub record Filling (all rest : List (ℕ × ℕ)) (index : BTreeSet (ℕ × ℕ)) : Type 0 where
  pub ordered : AreByMoment index
  pub only : (e : ℕ × ℕ) → IsTrue (contains entry_cmp index e) → Contains all (entry e.1 e.0)
  pub there : (e : ℕ × ℕ) → Contains all (entry e.1 e.0) → IsTrue (contains entry_cmp index e) ⊎ Contains rest (entry e.1 e.0)
  pub part : (m : ℕ × ℕ) → Contains rest m → Contains all m

pub filling_none : (all rest : List (ℕ × ℕ)) (index : BTreeSet (ℕ × ℕ)) → rest ≡ all → AreByMoment index → index.keys ≡ [] → Filling all rest index
filling_none all rest index is ordered empty = record {
  ordered = ordered;
  only = λ e h.
      let none : contains entry_cmp index e ≡ false = ap (λ (ks : List (ℕ × ℕ)). list_any (is_at (entry_cmp e)) ks) empty in
      absurd (cc);
  there = λ e h. inr (subst (λ (es : List (ℕ × ℕ)). Contains es (entry e.1 e.0)) (sym is) h);
  part = λ m h. subst (λ (es : List (ℕ × ℕ)). Contains es m) is h;
}

module _ (all rest : List (ℕ × ℕ)) (m : ℕ × ℕ) (old new : BTreeSet (ℕ × ℕ)) (f : Filling all (m ∷ rest) old) (puts : Puts old new (entry m.1 m.0) true) where
  same_there : (e : ℕ × ℕ) → e ≡ entry m.1 m.0 → contains entry_cmp new e ≡ true
  same_there e same = subst (λ (x : ℕ × ℕ). contains entry_cmp new x ≡ true) (sym same) puts.here

  still_there : (e : ℕ × ℕ) → contains entry_cmp old e ≡ true → contains entry_cmp new e ≡ true
  still_there e h = ⊎_elim (λ same. same_there e same) (λ far. puts.others e far ∙ h) (same_or_not e (entry m.1 m.0))

  only_those : (e : ℕ × ℕ) → contains entry_cmp new e ≡ true → Contains all (entry e.1 e.0)
  only_those e h = ⊎_elim
      (λ same. subst (λ (x : ℕ × ℕ). Contains all x) (sym (ap (λ (x : ℕ × ℕ). entry x.1 x.0) same)) (f.part m (contains_head m rest)))
      (λ far. f.only e (sym (puts.others e far) ∙ h))
      (same_or_not e (entry m.1 m.0))

  all_there : (e : ℕ × ℕ) → Contains all (entry e.1 e.0) → IsTrue (contains entry_cmp new e) ⊎ Contains rest (entry e.1 e.0)
  all_there e h = ⊎_elim
      (λ was. inl (still_there e was))
      (λ left. ⊎_elim
      (λ same. inl (same_there e (ap (λ (x : ℕ × ℕ). entry x.1 x.0) same)))
      (λ more. inr more)
      (contains_cases m rest (entry e.1 e.0) left))
      (f.there e h)

  pub filling_more : AreByMoment new → Filling all rest new
  filling_more ordered = record {
    ordered = ordered;
    only = only_those;
    there = all_there;
    part = λ o h. f.part o (contains_tail m rest o h);
  }

pub filling_over : (m : BTreeMap ℕ ℕ) (rest : List (ℕ × ℕ)) (index : BTreeSet (ℕ × ℕ)) → AreByNumber m → rest ≡ [] → Filling m.entries rest index → Tells m index
filling_over m rest index ordered none f e =
    let found = btree_map_get_iff nat_cmp_total exact_unsigned m ordered e.1 e.0 in (
      λ h. found.1 (f.only e h),
      λ h. ⊎_elim
          (λ is. is)
          (λ left. let low = (subst (λ (es : List (ℕ × ℕ)). Contains es (entry e.1 e.0)) none left).1 in absurd (omega arith))
          (f.there e (found.0 h)),
    )

-- ---- for the least entry

-- one entry more
pub first_more : (now : ℕ) (es : List (ℕ × ℕ)) (least : Option (ℕ × ℕ)) (e : ℕ × ℕ) → IsFirst now es least → IsFirst now (e ∷ es) (lesser now least e)
first_more now es None e late = ⊎_elim
    (λ w. subst (λ b. IsFirst now (e ∷ es) (cond b (Some e) None)) (sym w.0) (
      contains_head e es,
      w.1,
      All-cons (λ o. o.0 ≤ now → (e ≡ o) ⊎ IsBefore e o) e es (λ _. inl refl)
          (All-weaker (λ o. now < o.0) (λ o. o.0 ≤ now → (e ≡ o) ⊎ IsBefore e o) (λ o lt le. absurd (omega (arith, lt, le))) es late),
    ))
    (λ w. subst (λ b. IsFirst now (e ∷ es) (cond b (Some e) None)) (sym w.0) (All-cons (λ o. now < o.0) e es w.1 late))
    (leb_tells e.0 now)
first_more now es (Some least) e first =
    cond_both (before e least) (Some e) (Some least) (λ r. IsFirst now (e ∷ es) r)
    (λ t. let low : IsBefore e least = (before_decides e least).0 t in (
      contains_head e es,
      (let due = first.1 in ⊎_elim (λ lt. omega (arith, lt, due)) (λ same. omega (arith, same.0, due)) low),
      All-cons (λ o. o.0 ≤ now → (e ≡ o) ⊎ IsBefore e o) e es (λ _. inl refl)
          (All-weaker (λ o. o.0 ≤ now → (least ≡ o) ⊎ IsBefore least o) (λ o. o.0 ≤ now → (e ≡ o) ⊎ IsBefore e o)
          (λ o h le. ⊎_elim (λ same. inr (subst (λ (x : ℕ × ℕ). IsBefore e x) same low)) (λ later. inr (before_trans e least o low later)) (h le)) es first.2),
    ))
    (λ f. (
      contains_tail e es least first.0,
      first.1,
      All-cons (λ o. o.0 ≤ now → (least ≡ o) ⊎ IsBefore least o) e es (λ _. not_earlier e least f) first.2,
    ))
  where
    not_earlier : (e least : ℕ × ℕ) → before e least ≡ false → (least ≡ e) ⊎ IsBefore least e
    not_earlier e least f = ⊎_elim
        (λ same. inl same)
        (λ w. ⊎_elim (λ later. inr later) (λ earlier. absurd (not_from_Decides (before e least) (before_decides e least) f earlier)) w)
        (which least e)

-- what is first depends on which entries there are
pub first_same : (now : ℕ) (xs ys : List (ℕ × ℕ)) → ((o : ℕ × ℕ) → Contains xs o ↔ Contains ys o) → (r : Option (ℕ × ℕ)) → IsFirst now xs r → IsFirst now ys r
first_same now xs ys same None late = all_by (λ o. now < o.0) ys (λ o h. All-contains (λ o. now < o.0) xs o late ((same o).1 h))
first_same now xs ys same (Some e) first = (
  (same e).0 first.0,
  first.1,
  all_by (λ o. o.0 ≤ now → (e ≡ o) ⊎ IsBefore e o) ys (λ o h. All-contains (λ o. o.0 ≤ now → (e ≡ o) ⊎ IsBefore e o) xs o first.2 ((same o).1 h)),
)

-- of the entries that the walk came to it is the first one
pub record Looking (now : ℕ) (all rest : List (ℕ × ℕ)) (least : Option (ℕ × ℕ)) : Type 0 where
  pub seen : List (ℕ × ℕ)
  pub parts : all ≡ seen ++ rest
  pub first : IsFirst now (listed seen) least

pub looking_none : (now : ℕ) (all rest : List (ℕ × ℕ)) → rest ≡ all → Looking now all rest None
looking_none now all rest is = record { seen = []; parts = sym is; first = All-nil (λ e. now < e.0) }

-- the entries of one number more
more_entries : (seen : List (ℕ × ℕ)) (m o : ℕ × ℕ) → Contains (entry m.1 m.0 ∷ listed seen) o ↔ Contains (listed (seen ++ m ∷ [])) o
more_entries seen m o = (
  λ h. (in_listed (seen ++ m ∷ []) o).1
      (⊎_elim
      (λ same.
      Contains-append_right seen (m ∷ []) (entry o.1 o.0)
      (subst (λ (x : ℕ × ℕ). Contains (m ∷ []) x) (sym (ap (λ (x : ℕ × ℕ). entry x.1 x.0) same)) (contains_head m [])))
      (λ more. Contains-append_left seen (m ∷ []) (entry o.1 o.0) ((in_listed seen o).0 more))
      (contains_cases (entry m.1 m.0) (listed seen) o h)),
  λ h. ⊎_elim
      (λ was. contains_tail (entry m.1 m.0) (listed seen) o ((in_listed seen o).1 was))
      (λ one. ⊎_elim
      (λ same. subst (λ (x : ℕ × ℕ). Contains (entry m.1 m.0 ∷ listed seen) x) (sym (ap (λ (x : ℕ × ℕ). entry x.1 x.0) same)) (contains_head (entry m.1 m.0) (listed seen)))
      (λ none. let low = none.1 in absurd (omega arith))
      (contains_cases m [] (entry o.1 o.0) one))
      (Contains-append_cases seen (m ∷ []) (entry o.1 o.0) ((in_listed (seen ++ m ∷ []) o).0 h)),
)

pub looking_more : (now : ℕ) (all rest : List (ℕ × ℕ)) (m : ℕ × ℕ) (least r : Option (ℕ × ℕ)) → Looking now all (m ∷ rest) least → r ≡ lesser now least (entry m.1 m.0) → Looking now all rest r
looking_more now all rest m least r l is = record {
  seen = l.seen ++ m ∷ [];
  parts = l.parts ∙ sym (append_assoc l.seen (m ∷ []) rest);
  first =
      subst (λ (o : Option (ℕ × ℕ)). IsFirst now (listed (l.seen ++ m ∷ [])) o) (sym is)
      (first_same now (entry m.1 m.0 ∷ listed l.seen) (listed (l.seen ++ m ∷ [])) (more_entries l.seen m) (lesser now least (entry m.1 m.0)) (first_more now (listed l.seen) least (entry m.1 m.0) l.first));
}

pub looking_over : (now : ℕ) (all rest : List (ℕ × ℕ)) (least : Option (ℕ × ℕ)) → rest ≡ [] → Looking now all rest least → IsFirst now (listed all) least
looking_over now all rest least none l =
    subst (λ (es : List (ℕ × ℕ)). IsFirst now (listed es) least) (sym (l.parts ∙ ap (λ (es : List (ℕ × ℕ)). l.seen ++ es) none ∙ append-nil l.seen)) l.first
