-- What is kept of the numbers that nothing uses, and how changes of the files keep it.
use Rattle.std.proofs.Common.{◌≡◌, ◌≢◌, ◌⊎◌, ⊎_elim, inl, inr, ℕ, ◌+◌, ◌^◌, ◌<◌, ◌≤◌, true, false, List, [], ◌∷◌, length, Option, Some, None, IsSome, unwrap_or, Result, Ok, Err, OnOk, OnErr, nat_eq, nat_cmp, is_eq, refl, sym, ap, ◌∙◌, subst, arith, ne_eqb, BTreeSet}
use Rattle.std.specs.Prelude.{IsTrue, IfNone}
use Rattle.std.specs.Option.{option_map}
use Rattle.std.specs.List.{list_any}
use Rattle.std.specs.BTreeMap.{is_at}
use Rattle.std.specs.BTreeSet as sorted
use Rattle.std.specs.BTreeSet.{contains}
use Rattle.std.specs.Cmp.{unsigned_ties}
use Rattle.std.proofs.lemmas.Bool.{cases_eq, cases_lt}
use Rattle.std.proofs.lemmas.Bool.Decides.{Decides-eqb}
use Rattle.mem_files.specs.declared.file.Inode.{Inode}
use Rattle.call_fs.specs.Maps.{put}
use Rattle.call_fs.specs.Disk.{File}
use Rattle.mem_files.specs.Tables.{at_number, AreNumbersInOrder}
use Rattle.mem_files.specs.MemFiles.{IsIdle, Changes, holds_of, links_of, on_file}
use Rattle.mem_fs.specs.MemDisk.{IsIndexed, IsIndexedBeside, IsIndexedWith}
use Rattle.call_fs.proofs.Maps.{put_cases}
use Rattle.mem_files.proofs.Tables.{place_of_found}
use Rattle.mem_files.proofs.FileTable.{idle-there, busy-there}
use Rattle.mem_fs.proofs.Steps.{some_of}

-- a number that has an entry is from 1
pub entry_positive : (files : List (ℕ × Inode)) → AreNumbersInOrder files → (n : ℕ) → IsSome (at_number files n) → 1 ≤ n
entry_positive files ordered n there =
    let entry = some_of (at_number files n) there in
    let place = place_of_found nat_eq Decides-eqb files n entry.0 entry.1 in
    omega (arith, ordered.positive place.0 (n, entry.0) place.1, ap (λ (e : ℕ × Inode). e.0) (place.2 (n, entry.0)))

-- a number that a name or a descriptor counts is used
pub linked_used : (files : List (ℕ × Inode)) (n : ℕ) → 1 ≤ links_of files n → ¬ (IsIdle files n)
linked_used files n links idle = omega (arith, links, idle.0)

pub held_used : (files : List (ℕ × Inode)) (n : ℕ) → 1 ≤ holds_of files n → ¬ (IsIdle files n)
held_used files n holds idle = omega (arith, holds, idle.1)

-- ---- one entry changes

module _ (old new : List (ℕ × Inode)) (n : ℕ) (i : Inode) (is : at_number new ≡ put (at_number old) n (Some i)) where
  idle_put : (m : ℕ) → IsIdle new m → ((m ≡ n) × (i.links ≡ 0) × (i.opens ≡ 0)) ⊎ ((m ≢ n) × IsIdle old m)
  idle_put m idle =
      let at : at_number new m ≡ put (at_number old) n (Some i) m = ap (λ (f : ℕ → Option Inode). f m) is in
      ⊎_elim
      (λ h. let none = busy-there new m i (at ∙ h.1) idle in inl (h.0, none.0, none.1))
      (λ h.
      let same : at_number old m ≡ at_number new m = sym (at ∙ h.1) in
      inr (h.0, (ap (λ (o : Option Inode). unwrap_or (option_map (λ (e : Inode). e.links) o) 0) same ∙ idle.0, ap (λ (o : Option Inode). unwrap_or (option_map (λ (e : Inode). e.opens) o) 0) same ∙ idle.1)))
      (put_cases (at_number old) n (Some i) m)

  -- another number's entry is the same
  idle_kept : (m : ℕ) → m ≢ n → IsIdle old m → IsIdle new m
  idle_kept m far idle =
      let at : at_number new m ≡ put (at_number old) n (Some i) m = ap (λ (f : ℕ → Option Inode). f m) is in
      ⊎_elim
      (λ h. absurd (far h.0))
      (λ h.
      let same : at_number new m ≡ at_number old m = at ∙ h.1 in
      (ap (λ (o : Option Inode). unwrap_or (option_map (λ (e : Inode). e.links) o) 0) same ∙ idle.0, ap (λ (o : Option Inode). unwrap_or (option_map (λ (e : Inode). e.opens) o) 0) same ∙ idle.1))
      (put_cases (at_number old) n (Some i) m)

  here : at_number new n ≡ Some i
  here = ⊎_elim (λ h. ap (λ (f : ℕ → Option Inode). f n) is ∙ h.1) (λ h. absurd (h.0 refl)) (put_cases (at_number old) n (Some i) n)

  -- whatever the entry was, it is used now
  pub with_put : (free : BTreeSet ℕ) (low : ℕ) → IsIndexed old free low → ¬ ((i.links ≡ 0) × (i.opens ≡ 0)) → IsIndexedWith new free low n
  with_put free low x busy = record {
    positive = x.positive;
    used = λ idle. busy (busy-there new n i here idle);
    listed = λ m positive lt idle. ⊎_elim (λ h. absurd (busy (h.1, h.2))) (λ h. x.listed m positive lt h.1) (idle_put m idle);
    idle = λ m has. let was = x.idle m has in (was.0, λ far. idle_kept m far was.1);
  }

  -- the entry was used before, and may be idle now
  pub beside_put : (free : BTreeSet ℕ) (low : ℕ) → IsIndexed old free low → 1 ≤ n → ¬ (IsIdle old n) → IsIndexedBeside new free low n
  beside_put free low x positive used = record {
    positive = (x.positive, positive);
    listed = λ m from_one lt far idle. ⊎_elim (λ h. absurd (far h.0)) (λ h. x.listed m from_one lt h.1) (idle_put m idle);
    idle = λ m has.
        let was = x.idle m has in
        let far : m ≢ n = λ e. used (subst (λ (k : ℕ). IsIdle old k) e was.1) in
        (was.0, far, idle_kept m far was.1);
  }

  -- the entry was used before, and is used now
  pub used_put : (free : BTreeSet ℕ) (low : ℕ) → IsIndexed old free low → ¬ (IsIdle old n) → ¬ ((i.links ≡ 0) × (i.opens ≡ 0)) → IsIndexed new free low
  used_put free low x used busy = record {
    positive = x.positive;
    listed = λ m positive lt idle. ⊎_elim (λ h. absurd (busy (h.1, h.2))) (λ h. x.listed m positive lt h.1) (idle_put m idle);
    idle = λ m has.
        let was = x.idle m has in
        let far : m ≢ n = λ e. used (subst (λ (k : ℕ). IsIdle old k) e was.1) in
        (was.0, idle_kept m far was.1);
  }

  -- what counts the entry's uses is the same
  pub same_put : (free : BTreeSet ℕ) (low : ℕ) → IsIndexed old free low → (j : Inode) → at_number old n ≡ Some j → j.links ≡ i.links → j.opens ≡ i.opens → IsIndexed new free low
  same_put free low x j had links opens = record {
    positive = x.positive;
    listed = λ m positive lt idle. ⊎_elim
        (λ h. x.listed m positive lt (idle-there old m j (ap (at_number old) h.0 ∙ had) (links ∙ h.1, opens ∙ h.2)))
        (λ h. x.listed m positive lt h.1)
        (idle_put m idle);
    idle = λ m has.
        let was = x.idle m has in (
          was.0,
          ⊎_elim
              (λ same.
              let none = busy-there old n j had (subst (λ (k : ℕ). IsIdle old k) same was.1) in
              subst (λ (k : ℕ). IsIdle new k) (sym same) (idle-there new n i here (sym links ∙ none.0, sym opens ∙ none.1)))
              (λ far. idle_kept m far was.1)
              (cases_eq m n),
        );
  }

module _ (old new : List (ℕ × Inode)) (n : ℕ) (change : Inode → Inode) (there : IsSome (at_number old n)) (changes : Changes old new n change) (free : BTreeSet ℕ) (low : ℕ) (x : IsIndexed old free low) where
  pub beside_change : 1 ≤ n → ¬ (IsIdle old n) → IsIndexedBeside new free low n
  beside_change = let entry = some_of (at_number old n) there in beside_put old new n (change entry.0) (changes.value entry.0 entry.1) free low x

  pub used_change : ¬ (IsIdle old n) → ((i : Inode) → ¬ (((change i).links ≡ 0) × ((change i).opens ≡ 0)) ⊎ ((i.links ≤ (change i).links) × (i.opens ≤ (change i).opens))) → IsIndexed new free low
  used_change used rises =
      let entry = some_of (at_number old n) there in
      used_put old new n (change entry.0) (changes.value entry.0 entry.1) free low x used
      (λ none. ⊎_elim (λ busy. busy none) (λ more. used (idle-there old n entry.0 entry.1 (omega (arith, more.0, none.0), omega (arith, more.1, none.1)))) (rises entry.0))

-- only the file changes, and it may fail
pub file_indexed : (old new : List (ℕ × Inode)) (n : ℕ) (change : File → File) → IsSome (at_number old n) → Changes old new n (on_file change) → (free : BTreeSet ℕ) (low : ℕ) → IsIndexed old free low → IsIndexed new free low
file_indexed old new n change there changes free low x =
    let entry = some_of (at_number old n) there in
    same_put old new n (on_file change entry.0) (changes.value entry.0 entry.1) free low x entry.0 entry.1 refl refl

pub file_indexed_or : {E : Type 0} (old new : List (ℕ × Inode)) (n : ℕ) (change : File → File) (r : Result (Unit {0}) E) → IsSome (at_number old n)
    → OnOk r (Changes old new n (on_file change)) → OnErr r (new ≡ old) → (free : BTreeSet ℕ) (low : ℕ) → IsIndexed old free low → IsIndexed new free low
file_indexed_or old new n change (Ok u) there ok err free low x = file_indexed old new n change there ok free low x
file_indexed_or old new n change (Err e) there ok err free low x = subst (λ (fs : List (ℕ × Inode)). IsIndexed fs free low) (sym err) x

-- ---- the numbers themselves

other_number : (n m : ℕ) → m ≢ n → is_eq (nat_cmp n m) ≡ false
other_number n m far = sym (unsigned_ties n m) ∙ ne_eqb n m (λ e. far (sym e))

-- nothing is listed
pub indexed_none : (files : List (ℕ × Inode)) (free : BTreeSet ℕ) → free.keys ≡ [] → IsIndexed files free 1
indexed_none files free empty = record {
  positive = omega arith;
  listed = λ n positive lt. absurd (omega (arith, positive, lt));
  idle = λ n has. let none : contains nat_cmp free n ≡ false = ap (λ (ks : List ℕ). list_any (is_at (nat_cmp n)) ks) empty in absurd (cc);
}

-- a number is taken
module _ (files : List (ℕ × Inode)) (free left : BTreeSet ℕ) (low number : ℕ) (x : IsIndexedWith files free low number) (updates : sorted.Updates nat_cmp free left number false) where
  far_from : (n : ℕ) → IsTrue (contains nat_cmp left n) → n ≢ number
  far_from n has same = let none : contains nat_cmp left n ≡ false = ap (λ (k : ℕ). contains nat_cmp left k) same ∙ updates.1 in absurd (cc)

  still_in : (n : ℕ) → IsIdle files n → IsTrue (contains nat_cmp free n) → IsTrue (contains nat_cmp left n)
  still_in n idle has = updates.2 n (other_number number n (λ same. x.used (subst (λ (k : ℕ). IsIdle files k) same idle))) ∙ has

  idle_in : (n : ℕ) → IsTrue (contains nat_cmp left n) → (1 ≤ n) × IsIdle files n
  idle_in n has =
      let far = far_from n has in
      let was = x.idle n (sym (updates.2 n (other_number number n far)) ∙ has) in
      (was.0, was.1 far)

  pub taken_below : IsIndexed files left low
  taken_below = record { positive = x.positive; listed = λ n positive lt idle. still_in n idle (x.listed n positive lt idle); idle = idle_in }

  -- the number itself is used, so the next one may be the first that isn't listed
  pub taken_at : (next : ℕ) → number ≡ low → 1 ≤ next → next ≤ low + 1 → IsIndexed files left next
  taken_at next same positive within = record {
    positive = positive;
    listed = λ n from_one lt idle. ⊎_elim
        (λ below. still_in n idle (x.listed n from_one below idle))
        (λ high. absurd (x.used (subst (λ (k : ℕ). IsIdle files k) (let e : n ≡ number = omega (arith, same, within, lt, high) in e) idle)))
        (cases_lt n low);
    idle = idle_in;
  }

-- what uses a number became less
module _ (files : List (ℕ × Inode)) (free : BTreeSet ℕ) (low number : ℕ) (x : IsIndexedBeside files free low number) where
  -- it is still used, or stands from `low` on
  pub returned_as_was : (low ≤ number) ⊎ (¬ (IsIdle files number)) → IsIndexed files free low
  returned_as_was why = record {
    positive = x.positive.0;
    listed = λ n positive lt idle. x.listed n positive lt (λ same. ⊎_elim (λ high. absurd (omega (arith, same, lt, high))) (λ used. used (subst (λ (k : ℕ). IsIdle files k) same idle)) why) idle;
    idle = λ n has. let was = x.idle n has in (was.0, was.2);
  }

  -- it is listed
  pub returned_in : (more : BTreeSet ℕ) → IsIdle files number → sorted.Updates nat_cmp free more number true → IsIndexed files more low
  returned_in more is_idle updates = record {
    positive = x.positive.0;
    listed = λ n positive lt idle. ⊎_elim
        (λ same. ap (λ (k : ℕ). contains nat_cmp more k) same ∙ updates.1)
        (λ far. updates.2 n (other_number number n far) ∙ x.listed n positive lt far idle)
        (cases_eq n number);
    idle = λ n has. ⊎_elim
        (λ same. subst (λ (k : ℕ). (1 ≤ k) × IsIdle files k) (sym same) (x.positive.1, is_idle))
        (λ far. let was = x.idle n (sym (updates.2 n (other_number number n far)) ∙ has) in (was.0, was.2))
        (cases_eq n number);
  }

  -- there was no memory for that: those below it are listed
  pub returned_below : (more : BTreeSet ℕ) → number < low → more.keys ≡ free.keys → IsIndexed files more number
  returned_below more lt same = record {
    positive = x.positive.1;
    listed = λ n positive below idle.
        ap (λ (ks : List ℕ). list_any (is_at (nat_cmp n)) ks) same ∙ x.listed n positive (omega (arith, lt, below)) (λ e. absurd (omega (arith, e, below))) idle;
    idle = λ n has. let was = x.idle n (sym (ap (λ (ks : List ℕ). list_any (is_at (nat_cmp n)) ks) same) ∙ has) in (was.0, was.2);
  }

-- ---- the least one

module _ (files : List (ℕ × Inode)) (free : BTreeSet ℕ) (low : ℕ) (x : IsIndexed files free low) where
  pub least_listed : (n : ℕ) → IsTrue (contains nat_cmp free n) → n < low → ((m : ℕ) → IsTrue (contains nat_cmp free m) → n ≤ m) → (1 ≤ n) × IsIdle files n × ((lower : ℕ) → 1 ≤ lower → lower < n → ¬ (IsIdle files lower))
  least_listed n has lt least =
      let is = x.idle n has in
      (is.0, is.1, λ lower positive below idle. let le = least lower (x.listed lower positive (omega (arith, below, lt)) idle) in omega (arith, le, below))

  -- none is listed below `low`
  none_below : ((m : ℕ) → IsTrue (contains nat_cmp free m) → low ≤ m) → (n : ℕ) → 1 ≤ n → n < low → ¬ (IsIdle files n)
  none_below none n positive lt idle = let le = none n (x.listed n positive lt idle) in omega (arith, le, lt)

  pub least_from : ((m : ℕ) → IsTrue (contains nat_cmp free m) → low ≤ m) → (n : ℕ) → low ≤ n → IsIdle files n → ((lower : ℕ) → low ≤ lower → lower < n → ¬ (IsIdle files lower))
      → (1 ≤ n) × IsIdle files n × ((lower : ℕ) → 1 ≤ lower → lower < n → ¬ (IsIdle files lower))
  least_from none n le idle least =
      (omega (arith, x.positive, le), idle, λ lower positive below. ⊎_elim (λ lt. none_below none lower positive lt) (λ ge. least lower ge below) (cases_lt lower low))

  pub none_from : ((m : ℕ) → IsTrue (contains nat_cmp free m) → low ≤ m) → ((n : ℕ) → low ≤ n → n < 2 ^ 64 → ¬ (IsIdle files n)) → (n : ℕ) → 1 ≤ n → n < 2 ^ 64 → ¬ (IsIdle files n)
  none_from none all n positive fits = ⊎_elim (λ lt. none_below none n positive lt) (λ ge. all n ge fits) (cases_lt n low)

-- none of no numbers
pub none_in : (free : BTreeSet ℕ) → (0 < length free.keys → ⊥) → (n : ℕ) → IsTrue (contains nat_cmp free n) → ⊥
none_in free empty n has = by free.keys empty has
  where
    by : (ks : List ℕ) → (0 < length ks → ⊥) → list_any (is_at (nat_cmp n)) ks ≡ true → ⊥
    by [] none h = absurd (cc)
    by (k ∷ ks) none h = none (omega arith)

-- a fact holds where there is nothing
pub if_none : {T P : Type 0} (o : Option T) → P → IfNone o P
if_none None p = p
if_none (Some t) p = tt

-- where each number from `low` up to this one is used, and so is this one, each up to the next is
pub rest_used : (files : List (ℕ × Inode)) (number low : ℕ) → ((n : ℕ) → low ≤ n → n < number → ¬ (IsIdle files n)) → ¬ (IsIdle files number) → (next : ℕ) → next ≡ number + 1 → (n : ℕ) → low ≤ n → n < next → ¬ (IsIdle files n)
rest_used files number low used here next is n from_low lt = ⊎_elim
    (λ below. used n from_low below)
    (λ high. subst (λ (k : ℕ). ¬ (IsIdle files k)) (let e : number ≡ n = omega (arith, high, lt, is) in e) here)
    (cases_lt n number)
