-- Entries make a disk, if they are fewer than the numbers: each new file takes the greatest number that none before
-- it took.
use Rattle.std.proofs.Common.{◌≡◌, inl, inr, ⊎_elim, ℕ, ◌+◌, ◌-◌, ◌<◌, ◌≤◌, ◌^◌, List, [], ◌∷◌, ◌++◌, length, Option, Some, None, refl, sym, ap, ◌∙◌, arith}
use Rattle.std.proofs.lemmas.Bool.{cases_eq}
use Rattle.call_fs.specs.Apply.{empty_file}
use Rattle.call_fs.specs.Disk.{Disk}
use Rattle.call_fs.specs.Maps.{put, put_at}
use Rattle.call_fs.proofs.Maps.{put_at_cases, put_at_same, put_at_other}
use Rattle.call_fs.specs.Free.{IsGreatestFree}
use Rattle.call_fs.specs.Placing.{with_dir, with_file, HasMade}
use Rattle.mem_fs.specs.MemDisk.{Places}
use Rattle.mem_files.specs.MemFile.{settled_file}
use Rattle.script_words.specs.declared.entry.Entry.{Entry}
use Rattle.script_words.specs.declared.entry.Entry.TheVariants.{File as FileOf, Dir}
use Rattle.script_words.specs.Entries.{dirs_above}
use Rattle.script_disks.specs.FirstDisk.{bare_dirs, AreMade, Enters, EntersAll, IsFirstDisk}
use Rattle.crash_fs.proofs.Decided.{listed, same_text}

-- Nothing is open, and of the numbers just so many of the greatest are named.
record HasTaken (d : Disk) (count : ℕ) : Type 0 where
  shut : (fd : ℕ) → d.opens fd ≡ None
  below : (name : List ℕ) (n : ℕ) → d.names name ≡ Some n → 2 ^ 64 ≤ n + count
  taken : (n : ℕ) → n < 2 ^ 64 → 2 ^ 64 ≤ n + count → (name : List ℕ) × (d.names name ≡ Some n)

-- a disk that comes of another one, with one file more at most
record Follows (count : ℕ) (Comes : Disk → Type 0) : Type 0 where
  new : Disk
  comes : Comes new
  next : ℕ
  has_taken : HasTaken new next
  few : next ≤ count + 1

-- Directories

dir_taken : (d : Disk) (dir : List ℕ) (count : ℕ) → HasTaken d count → HasTaken (with_dir d dir) count
dir_taken d dir count has = record { shut = has.shut; below = has.below; taken = has.taken }

made : (d : Disk) (dir : List ℕ) (count : ℕ) → HasTaken d count → (new : Disk) × HasMade d dir new × HasTaken new count
made d dir count has = ⊎_elim
    (λ there. (d, inl (there, refl), has))
    (λ missing. (with_dir d dir, inr (missing, refl), dir_taken d dir count has))
    (listed same_text d.dirs dir)

all_made : (d : Disk) (dirs : List (List ℕ)) (count : ℕ) → HasTaken d count → (new : Disk) × AreMade d dirs new × HasTaken new count
all_made d [] count has = (d, refl, has)
all_made d (dir ∷ dirs) count has =
    let one = made d dir count has in
    let rest = all_made one.0 dirs count one.2 in
    (rest.0, (one.0, one.1, rest.1), rest.2)

-- Files

-- the greatest number that isn't named
abbrev free_below : ℕ → ℕ
free_below count = 2 ^ 64 - 1 - count

greatest : (d : Disk) (count : ℕ) → count + 1 < 2 ^ 64 → HasTaken d count → IsGreatestFree d (free_below count)
greatest d count room has = record {
  free = (
    omega arith,
    record {
      unnamed = λ name is. let high = has.below name (free_below count) is in omega arith;
      unopened = λ fd o is. let none = sym (has.shut fd) ∙ is in absurd (cc);
    },
  );
  in_range = omega arith;
  greatest = λ m high within free. let named = has.taken m within (omega arith) in free.1.unnamed named.0 named.1;
}

abbrev placed : Disk → ℕ → List ℕ → List ℕ → Disk
placed d n path bytes =
    record { dirs = d.dirs; names = put_at d.names path (Some n); files = put d.files n (settled_file bytes); opens = d.opens }

placed_taken : (d : Disk) (path bytes : List ℕ) (count : ℕ) → count + 1 < 2 ^ 64 → HasTaken d count → d.names path ≡ None
    → HasTaken (placed d (free_below count) path bytes) (count + 1)
placed_taken d path bytes count room has missing = record {
  shut = has.shut;
  below = λ name n is. ⊎_elim
      (λ h. let same : free_below count ≡ n = number_of (free_below count) n (sym h.1 ∙ is) in omega arith)
      (λ h. let high = has.below name n (sym h.1 ∙ is) in omega arith)
      (put_at_cases d.names path (Some (free_below count)) name);
  taken = λ n within high. ⊎_elim
      (λ same. (path, put_at_same d.names path (Some (free_below count)) ∙ ap (λ (m : ℕ). Some m) (sym same)))
      (λ other.
      let named = has.taken n within (omega (arith, other)) in
      (named.0, put_at_other d.names path (Some (free_below count)) named.0 (λ e. let none = sym missing ∙ ap d.names (sym e) ∙ named.1 in absurd (cc)) ∙ named.1))
      (cases_eq n (free_below count));
}
  where
    number_of : (m n : ℕ) → ◌≡◌ {A = Option ℕ} (Some m) (Some n) → m ≡ n
    number_of m n e = cc

placed_by : (d : Disk) (path bytes : List ℕ) (count : ℕ) (number : Option ℕ) → d.names path ≡ number → count + 1 < 2 ^ 64 → HasTaken d count
    → Follows count (Places d path bytes)
placed_by d path bytes count None missing room has = record {
  new = placed d (free_below count) path bytes;
  comes = record {
    there = λ n is. let none = sym missing ∙ is in absurd (cc);
    missing = λ _. record { number = free_below count; greatest = greatest d count room has; is = refl };
  };
  next = count + 1;
  has_taken = placed_taken d path bytes count room has missing;
  few = omega arith;
}
placed_by d path bytes count (Some m) there room has = record {
  new = with_file d m (settled_file bytes);
  comes = record {
    there = λ n is. let same : m ≡ n = number_of m n (sym there ∙ is) in ap (λ (k : ℕ). with_file d k (settled_file bytes)) same;
    missing = λ none. let some = sym there ∙ none in absurd (cc);
  };
  next = count;
  has_taken = record { shut = has.shut; below = has.below; taken = has.taken };
  few = omega arith;
}
  where
    number_of : (m n : ℕ) → ◌≡◌ {A = Option ℕ} (Some m) (Some n) → m ≡ n
    number_of m n e = cc

-- Entries

entered : (d : Disk) (entry : Entry) (count : ℕ) → count + 1 < 2 ^ 64 → HasTaken d count → Follows count (Enters d entry)
entered d (FileOf path bytes) count room has =
    let mid = all_made d (dirs_above path) count has in
    let last = placed_by mid.0 path bytes count (mid.0.names path) refl room mid.2 in
    record { new = last.new; comes = (mid.0, mid.1, last.comes); next = last.next; has_taken = last.has_taken; few = last.few }
entered d (Dir path) count room has =
    let last = all_made d (dirs_above path ++ path ∷ []) count has in
    record { new = last.0; comes = last.1; next = count; has_taken = last.2; few = omega arith }

all_entered : (d : Disk) (entries : List Entry) (count : ℕ) → count + length entries < 2 ^ 64 → HasTaken d count → (new : Disk) × EntersAll d entries new
all_entered d [] count room has = (d, refl)
all_entered d (entry ∷ later) count room has =
    let one = entered d entry count (omega arith) has in
    let few = one.few in
    let rest = all_entered one.new later one.next (omega arith) one.has_taken in
    (rest.0, (one.new, one.comes, rest.1))

abbrev bare : Disk
bare = record { dirs = bare_dirs; names = λ name. None; files = λ n. empty_file 0; opens = λ fd. None }

pub first_disk : (opening : List Entry) → length opening < 2 ^ 64 → (d : Disk) × IsFirstDisk opening d
first_disk opening few =
    let has : HasTaken bare 0 = record { shut = λ fd. refl; below = λ name n is. absurd (cc); taken = λ n low high. absurd (omega arith) } in
    let all = all_entered bare opening 0 (omega arith) has in (
      all.0,
      record {
        bare = bare;
        is_bare = record { dirs = refl; empty = λ name. refl; fresh = λ n. refl; shut = λ fd. refl };
        entered = all.1;
      },
    )
