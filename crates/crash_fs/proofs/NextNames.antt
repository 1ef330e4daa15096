-- A disk with finitely many names has the list of a directory's names after another name, in order, so it has the next one.
use Rattle.std.proofs.Common.{◌≡◌, ◌⊎◌, ◌↔◌, inl, inr, ⊎_elim, ℕ, zero, suc, List, [], ◌∷◌, ◌++◌, length, drop, Contains, AllPairs, nat_cmp, is_gt, false, Less, Option, Some, None, IsSome, refl, sym, ap, ◌∙◌, subst, arith}
use Rattle.std.specs.Cmp.Lexicographic.{slice_cmp}
use Rattle.std.proofs.lemmas.Cmp.{nat_list_cmp_total, tied_itself}
use Rattle.std.proofs.lemmas.Map.Lookups.{exact_bytes}
use Rattle.call_fs.specs.Disk.{Disk, Among}
use Rattle.call_fs.specs.Apply.{StandsAfter, IsLater, IsNextName, IsLastName}
use Rattle.crash_fs.specs.Answers.{IsFinite}
use Rattle.crash_fs.proofs.Decided.{Decided, both, neither, up_to, is_some, is_less, listed, same_number}
use Rattle.crash_fs.proofs.InOrder.{contains_among, among_contains, passing, ordered, rises_pairs}

pub some_of : (o : Option ℕ) → IsSome o → (n : ℕ) × (o ≡ Some n)
some_of None there = absurd (cc)
some_of (Some n) there = (n, refl)

-- what the texts have after a directory and a slash
abbrev parts_of : List ℕ → List (List ℕ) → List (List ℕ)
parts_of dir [] = []
parts_of dir (text ∷ texts) = drop (suc (length dir)) text ∷ parts_of dir texts

part_among : (dir part : List ℕ) (texts : List (List ℕ)) → Among (dir ++ 47 ∷ part) texts
    → Among part (parts_of dir texts)
part_among dir part [] here = here
part_among dir part (text ∷ texts) here = ⊎_elim
    (λ e. inl (sym (ap (drop (suc (length dir))) (sym e) ∙ behind dir part)))
    (λ later. inr (part_among dir part texts later))
    here
  where
    behind : (dir part : List ℕ) → drop (suc (length dir)) (dir ++ 47 ∷ part) ≡ part
    behind [] part = refl
    behind (b ∷ dir) part = behind dir part

-- a text is a part after another one, or not
is_later : (last text : List ℕ) → Decided (IsLater last text)
is_later last text = ⊎_elim
    (λ h. inl (record { whole = h.0; short = h.1.0; later = h.1.1 }))
    (λ fails. inr (λ h. fails (h.whole, (h.short, h.later))))
    (both (neither (listed same_number text 47)) (both (up_to (length text) 255) (is_less (slice_cmp nat_cmp last text))))

stands : (d : Disk) (dir last text : List ℕ) → Decided (StandsAfter d dir last text)
stands d dir last text = both (is_some (d.names (dir ++ 47 ∷ text))) (is_later last text)

-- the names of a directory after one, in order
pub record NamesAfter (d : Disk) (dir last : List ℕ) : Type 0 where
  pub names : List (List ℕ)
  pub each : (name : List ℕ) → Contains names name ↔ StandsAfter d dir last name
  pub rising : AllPairs (λ low high. slice_cmp nat_cmp low high ≡ Less) names

pub names_after : (d : Disk) → IsFinite d → (dir last : List ℕ) → NamesAfter d dir last
names_after d f dir last =
    let some = passing (StandsAfter d dir last) (stands d dir last) (parts_of dir f.texts) in
    let in_order = ordered (slice_cmp nat_cmp) nat_list_cmp_total exact_bytes some.items in
    record {
      names = in_order.items;
      each = λ name. (
        λ here. (some.on name (in_order.on name (contains_among in_order.items name here))).1,
        λ behind.
            let there = some_of (d.names (dir ++ 47 ∷ name)) behind.0 in
            among_contains in_order.items name
            (in_order.all name (some.all name
            (part_among dir name f.texts (f.named (dir ++ 47 ∷ name) there.0 there.1)) behind)),
      );
      rising = rises_pairs (slice_cmp nat_cmp) nat_list_cmp_total exact_bytes in_order.items in_order.rises;
    }

-- the first of names in order is above none of them
not_above : (first : List ℕ) (names : List (List ℕ)) → AllPairs (λ low high. slice_cmp nat_cmp low high ≡ Less) (first ∷ names)
    → (other : List ℕ) → Contains (first ∷ names) other → is_gt (slice_cmp nat_cmp first other) ≡ false
not_above first names rising other (zero, within, is) =
    subst (λ (t : List ℕ). is_gt (slice_cmp nat_cmp first t) ≡ false) is (ap is_gt (tied_itself nat_list_cmp_total first))
not_above first names rising other (suc k, within, is) =
    subst (λ (t : List ℕ). is_gt (slice_cmp nat_cmp first t) ≡ false) is (ap is_gt (rising 0 (suc k) other (omega arith) (omega arith)))

next_among : (d : Disk) (dir last : List ℕ) (names : List (List ℕ))
    → ((name : List ℕ) → Contains names name ↔ StandsAfter d dir last name)
    → AllPairs (λ low high. slice_cmp nat_cmp low high ≡ Less) names
    → ((name : List ℕ) × IsNextName d dir last name) ⊎ IsLastName d dir last
next_among d dir last [] each rising = inr (λ other behind. let here = (each other).1 behind in let within = here.1 in absurd (omega arith))
next_among d dir last (name ∷ names) each rising = inl (
  name,
  record {
    stands = (each name).0 (0, omega arith, refl);
    least = λ other behind. not_above name names rising other ((each other).1 behind);
  },
)

-- a directory has a next name, or none
pub next_name : (d : Disk) → IsFinite d → (dir last : List ℕ) → ((name : List ℕ) × IsNextName d dir last name) ⊎ IsLastName d dir last
next_name d f dir last = let after = names_after d f dir last in next_among d dir last after.names after.each after.rising
