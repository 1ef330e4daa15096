-- The disk that the settled entries stand for.
use Rattle.std.proofs.Common.{◌≡◌, ℕ, zero, suc, ◌+◌, ◌<◌, ◌≤◌, Bool, true, false, cond, not, List, [], ◌∷◌, length, map, filter, get_or, Contains, Option, Some, None, unwrap_or, nat_eq, nat_cmp, refl, sym, ap, subst, ◌∙◌, arith}
use Rattle.std.specs.Option.{option_map}
use Rattle.std.proofs.lemmas.Bool.Decides.{Decides-eqb}
use Rattle.std.proofs.lemmas.List.{get_or_default, length-map, get_or-map}
use Rattle.std.specs.List.{All}
use Rattle.std.proofs.lemmas.List.Kept.{IsStrictlyIncreasing-filter}
use Rattle.std.specs.List.Sorted.{IsStrictlyIncreasing}
use Rattle.call_fs.specs.declared.crash_file_system.Survival.{Survival}
use Rattle.call_fs.specs.declared.crash_file_system.Survival.TheVariants.{Keep, Lose, Junk}
use Rattle.call_fs.specs.Disk.{File, Open}
use Rattle.call_fs.specs.Survival.{Survives, AllSurvive, settled}
use Rattle.call_fs.specs.Choices.{junked, junk_contents, contents_by, AreNamed, Halts}
use Rattle.mem_files.specs.declared.file.Inode.{Inode}
use Rattle.mem_files.specs.MemFile.{no_file, IsSurvivor}
use Rattle.mem_files.specs.Tables.{at_number, AreNumbersInOrder}
use Rattle.mem_fs.specs.Tables.{at_name}
use Rattle.mem_files.specs.MemFiles.{file_at, links_of}
use Rattle.mem_fs.specs.MemDisk.{Held, disk_of, IsSound}
use Rattle.mem_files.specs.MemHalt.{seed_of, left_of, settled_entry, settled_entries}
use Rattle.mem_files.proofs.Tables.{lookup-absent, place_of_found}
use Rattle.mem_files.proofs.NumberTable.{number-at}
use Rattle.mem_files.proofs.Counting.{rise}
use Rattle.mem_files.proofs.FileTable.{links-there}
use Rattle.mem_fs.proofs.Changes.{file_of}
use Rattle.mem_fs.proofs.Uses.{linked_name, named_links, named_entry}
use Rattle.mem_fs.proofs.Steps.{some_of}
use mathlib.Core.Path.{fun_ext}
use Rattle.mem_files.proofs.Chosen.{read_survives, kept_survives, junk_survives}
use Rattle.mem_files.proofs.Survivors.{lasts}

-- the numbers of the entries that pass a test
abbrev pub numbers_by : (ℕ → Bool) → List (ℕ × Inode) → List ℕ
numbers_by test es = filter test (map (λ e. e.0) es)

-- the contents that a choice leaves, where these numbers have a name
abbrev pub left_by : Survival → (ℕ → File) → ℕ → List ℕ → ℕ → List ℕ
left_by Keep files x numbers n = (files n).bytes
left_by Lose files x numbers n = (files n).kept
left_by (Junk seed) files x numbers n = junk_contents files x numbers n

-- each entry has its file, the test says whether it has a name, and its number comes once
abbrev pub AreEntries : (ℕ → File) → (ℕ → Bool) → List (ℕ × Inode) → Type 0
AreEntries files test [] = Unit {0}
AreEntries files test (e ∷ es) = (files e.0 ≡ e.1.file) × (test e.0 ≡ not (nat_eq e.1.links 0)) × (at_number es e.0 ≡ None) × AreEntries files test es

same : (n : ℕ) → nat_eq n n ≡ true
same n = (Decides-eqb n n).1 refl

-- of a number without an entry the bytes stay
pub junk_absent : (files : ℕ → File) (test : ℕ → Bool) (x : ℕ) (es : List (ℕ × Inode)) (n : ℕ) → at_number es n ≡ None → junk_contents files x (numbers_by test es) n ≡ (files n).bytes
junk_absent files test x [] n none = refl
junk_absent files test x (e ∷ es) n none =
    elim (nat_eq n e.0) as (λ b. nat_eq n e.0 ≡ b → cond b (Some e.1) (at_number es n) ≡ None → junk_contents files x (numbers_by test (e ∷ es)) n ≡ (files n).bytes) [
      | true ↦ λ is t. absurd cc
      | false ↦ λ is rest.
          elim (test e.0) as (λ t. junk_contents files x (cond t (e.0 ∷ numbers_by test es) (numbers_by test es)) n ≡ (files n).bytes) [
            | true ↦ ap (λ b. cond b (junked (files e.0) x).0 (junk_contents files (junked (files e.0) x).1 (numbers_by test es) n)) is ∙ junk_absent files test (junked (files e.0) x).1 es n rest
            | false ↦ junk_absent files test x es n rest
          ]
    ] refl none

-- the first entry has what is drawn first, if it has a name
module _ (files : ℕ → File) (test : ℕ → Bool) (e : ℕ × Inode) (es : List (ℕ × Inode)) (file : files e.0 ≡ e.1.file) (named : test e.0 ≡ not (nat_eq e.1.links 0)) where
  left_here : (how : Survival) (x : ℕ) → at_number es e.0 ≡ None → (left_of how e.1 x).0 ≡ left_by how files x (numbers_by test (e ∷ es)) e.0
  left_here Keep x none = ap (λ (f : File). f.bytes) (sym file)
  left_here Lose x none = ap (λ (f : File). f.kept) (sym file)
  left_here (Junk seed) x none =
      elim (nat_eq e.1.links 0) as (λ z. nat_eq e.1.links 0 ≡ z → (cond z (e.1.file.bytes, x) (junked e.1.file x)).0 ≡ junk_contents files x (numbers_by test (e ∷ es)) e.0) [
        | true ↦ λ is.
            ap (λ (f : File). f.bytes) (sym file) ∙ sym (junk_absent files test x es e.0 none)
            ∙ ap (λ t. junk_contents files x (cond t (e.0 ∷ numbers_by test es) (numbers_by test es)) e.0) (sym (named ∙ ap not is))
        | false ↦ λ is.
            ap (λ (f : File). (junked f x).0) (sym file)
            ∙ ap (λ b. cond b (junked (files e.0) x).0 (junk_contents files (junked (files e.0) x).1 (numbers_by test es) e.0)) (sym (same e.0))
            ∙ ap (λ t. junk_contents files x (cond t (e.0 ∷ numbers_by test es) (numbers_by test es)) e.0) (sym (named ∙ ap not is))
      ] refl

  left_behind : (how : Survival) (x n : ℕ) → nat_eq n e.0 ≡ false → left_by how files (left_of how e.1 x).1 (numbers_by test es) n ≡ left_by how files x (numbers_by test (e ∷ es)) n
  left_behind Keep x n other = refl
  left_behind Lose x n other = refl
  left_behind (Junk seed) x n other =
      elim (nat_eq e.1.links 0) as (λ z. nat_eq e.1.links 0 ≡ z → junk_contents files (cond z (e.1.file.bytes, x) (junked e.1.file x)).1 (numbers_by test es) n ≡ junk_contents files x (numbers_by test (e ∷ es)) n) [
        | true ↦ λ is. ap (λ t. junk_contents files x (cond t (e.0 ∷ numbers_by test es) (numbers_by test es)) n) (sym (named ∙ ap not is))
        | false ↦ λ is.
            ap (λ (f : File). junk_contents files (junked f x).1 (numbers_by test es) n) (sym file)
            ∙ ap (λ b. cond b (junked (files e.0) x).0 (junk_contents files (junked (files e.0) x).1 (numbers_by test es) n)) (sym other)
            ∙ ap (λ t. junk_contents files x (cond t (e.0 ∷ numbers_by test es) (numbers_by test es)) n) (sym (named ∙ ap not is))
      ] refl

-- each number has its entry, with the contents that the choice leaves
pub settled-at : (how : Survival) (files : ℕ → File) (test : ℕ → Bool) (x : ℕ) (es : List (ℕ × Inode)) → AreEntries files test es → (n : ℕ)
    → at_number (settled_entries how x es) n ≡ option_map (settled_entry (left_by how files x (numbers_by test es) n)) (at_number es n)
settled-at how files test x [] are n = refl
settled-at how files test x (e ∷ es) are n =
    let next = (left_of how e.1 x).1 in
    let entry = settled_entry (left_of how e.1 x).0 e.1 in
    let left = left_by how files x (numbers_by test (e ∷ es)) in
    elim (nat_eq n e.0) as (λ b. nat_eq n e.0 ≡ b → cond b (Some entry) (at_number (settled_entries how next es) n) ≡ option_map (settled_entry (left n)) (cond b (Some e.1) (at_number es n))) [
      | true ↦ λ is.
          ap (λ (bytes : List ℕ). Some (settled_entry bytes e.1)) (left_here files test e es are.0 are.1 how x are.2)
          ∙ ap (λ m. Some (settled_entry (left m) e.1)) (sym ((Decides-eqb n e.0).0 is))
      | false ↦ λ is.
          settled-at how files test next es are.3 n
          ∙ ap (λ (bytes : List ℕ). option_map (settled_entry bytes) (at_number es n)) (left_behind files test e es are.0 are.1 how x n is)
    ] refl

-- ---- the numbers stay in order

pub length-settled : (how : Survival) (x : ℕ) (es : List (ℕ × Inode)) → length (settled_entries how x es) ≡ length es
length-settled how x [] = refl
length-settled how x (e ∷ es) = ap suc (length-settled how (left_of how e.1 x).1 es)

pub key-settled : (how : Survival) (x : ℕ) (es : List (ℕ × Inode)) (i : ℕ) (d : ℕ × Inode) → (get_or (settled_entries how x es) i d).0 ≡ (get_or es i d).0
key-settled how x [] i d = refl
key-settled how x (e ∷ es) zero d = refl
key-settled how x (e ∷ es) (suc i) d = key-settled how (left_of how e.1 x).1 es i d

pub numbers-settled : (how : Survival) (x : ℕ) (es : List (ℕ × Inode)) → AreNumbersInOrder es → AreNumbersInOrder (settled_entries how x es)
numbers-settled how x es ordered =
    let size = length-settled how x es in
    record {
      in_order = λ i j d lt within.
          ap (λ n. nat_cmp n (get_or (settled_entries how x es) j d).0) (key-settled how x es i d)
          ∙ ap (λ n. nat_cmp (get_or es i d).0 n) (key-settled how x es j d)
          ∙ ordered.in_order i j d lt (omega (arith, size, within));
      positive = λ i d within. let same = key-settled how x es i d in omega (arith, same, ordered.positive i d (omega (arith, size, within)));
    }

-- ---- the whole table

abbrev pub has_name : List (ℕ × Inode) → ℕ → Bool
has_name files n = not (nat_eq (links_of files n) 0)

entries_among : (all es : List (ℕ × Inode)) → ((i : ℕ) (d : ℕ × Inode) → i < length es → at_number all (get_or es i d).0 ≡ Some (get_or es i d).1)
    → ((i j : ℕ) (d : ℕ × Inode) → i < j → j < length es → (get_or es i d).0 < (get_or es j d).0) → AreEntries (file_at all) (has_name all) es
entries_among all [] there rises = tt
entries_among all (e ∷ es) there rises =
    let here = there 0 e (omega arith) in (
      ap file_of here,
      ap (λ n. not (nat_eq n 0)) (links-there all e.0 e.1 here),
      lookup-absent nat_eq Decides-eqb es e.0 (λ j d lt within is. let up = rises 0 (suc j) d (omega arith) (omega arith) in omega (arith, up, is)),
      entries_among all es (λ i d within. there (suc i) d (omega arith)) (λ i j d lt within. rises (suc i) (suc j) d (omega arith) (omega arith)),
    )

module _ (files : List (ℕ × Inode)) (ordered : AreNumbersInOrder files) where
  pub entry-at : (i : ℕ) (d : ℕ × Inode) → i < length files → at_number files (get_or files i d).0 ≡ Some (get_or files i d).1
  entry-at i d within = number-at files ordered (get_or files i d).0 i (record { within = within; has_key = λ e. ap (λ (x : ℕ × Inode). x.0) (get_or_default files i e d within) }) d

  pub are_entries : AreEntries (file_at files) (has_name files) files
  are_entries = entries_among files files entry-at (rise files ordered)

  keys_rise : IsStrictlyIncreasing (map (λ (e : ℕ × Inode). e.0) files)
  keys_rise k within =
      let size = length-map files (λ (e : ℕ × Inode). e.0) in
      let entry : 1 ≤ length files → ℕ × Inode = λ h. first files h in
      let d = entry (omega (arith, size, within)) in
      let low = get_or-map (λ (e : ℕ × Inode). e.0) files k d 0 (omega (arith, size, within)) in
      let high = get_or-map (λ (e : ℕ × Inode). e.0) files (k + 1) d 0 (omega (arith, size, within)) in
      let up = rise files ordered k (k + 1) d (omega arith) (omega (arith, size, within)) in
      omega (arith, low, high, up)
    where
      first : (es : List (ℕ × Inode)) → 1 ≤ length es → ℕ × Inode
      first [] h = absurd (omega arith)
      first (e ∷ es) h = e

-- ---- which numbers have a name

filter_passes : (test : ℕ → Bool) (ns : List ℕ) (n : ℕ) → Contains (filter test ns) n → test n ≡ true
filter_passes test [] n h = absurd (omega (arith, h.1))
filter_passes test (m ∷ ms) n h =
    elim (test m) as (λ b. test m ≡ b → Contains (cond b (m ∷ filter test ms) (filter test ms)) n → test n ≡ true) [
      | true ↦ λ is found. at_head is (filter_passes test ms n) found.0 found.1 found.2
      | false ↦ λ is found. filter_passes test ms n found
    ] refl h
  where
    at_head : test m ≡ true → (Contains (filter test ms) n → test n ≡ true) → (k : ℕ) → k < length (m ∷ filter test ms) → get_or (m ∷ filter test ms) k n ≡ n → test n ≡ true
    at_head is rest zero within read = ap test (sym read) ∙ is
    at_head is rest (suc k) within read = rest (k, omega arith, read)

filter_keeps : (test : ℕ → Bool) (ns : List ℕ) (n : ℕ) → Contains ns n → test n ≡ true → Contains (filter test ns) n
filter_keeps test [] n h passes = absurd (omega (arith, h.1))
filter_keeps test (m ∷ ms) n h passes = at (λ found. filter_keeps test ms n found passes) h.0 h.1 h.2
  where
    keep_rest : (b : Bool) → Contains (filter test ms) n → Contains (cond b (m ∷ filter test ms) (filter test ms)) n
    keep_rest true found = (suc found.0, omega (arith, found.1), found.2)
    keep_rest false found = found

    at : (Contains ms n → Contains (filter test ms) n) → (k : ℕ) → k < length (m ∷ ms) → get_or (m ∷ ms) k n ≡ n → Contains (filter test (m ∷ ms)) n
    at rest zero within read = subst (λ b. Contains (cond b (m ∷ filter test ms) (filter test ms)) n) (sym (ap test read ∙ passes)) (0, omega arith, read)
    at rest (suc k) within read = keep_rest (test m) (rest (k, omega arith, read))

some_links : (n : ℕ) → not (nat_eq n 0) ≡ true → 1 ≤ n
some_links zero h = absurd cc
some_links (suc n) h = omega arith

no_zero : (n : ℕ) → 1 ≤ n → not (nat_eq n 0) ≡ true
no_zero n h = elim (nat_eq n 0) as (λ b. nat_eq n 0 ≡ b → not b ≡ true) [ true ↦ λ is. absurd (let zero_is = (Decides-eqb n 0).0 is in omega arith) | false ↦ λ is. refl ] refl

module _ (h : Held) (sound : IsSound h) where
  abbrev pub named_numbers : List ℕ
  named_numbers = numbers_by (has_name h.files) h.files

  pub are_named : AreNamed (disk_of h) named_numbers
  are_named = record {
    rising = IsStrictlyIncreasing-filter (has_name h.files) (map (λ (e : ℕ × Inode). e.0) h.files) (keys_rise h.files sound.files);
    named = λ n found. linked_name h sound n (some_links (links_of h.files n) (filter_passes (has_name h.files) (map (λ (e : ℕ × Inode). e.0) h.files) n found));
    all = λ name n found.
        let entry = some_of (at_number h.files n) (named_entry h sound name n found) in
        let place = place_of_found nat_eq Decides-eqb h.files n entry.0 entry.1 in
        filter_keeps (has_name h.files) (map (λ (e : ℕ × Inode). e.0) h.files) n
        (place.0, rw (length-map h.files (λ (e : ℕ × Inode). e.0)) place.1, get_or-map (λ (e : ℕ × Inode). e.0) h.files place.0 (n, entry.0) n place.1 ∙ ap (λ (e : ℕ × Inode). e.0) (place.2 (n, entry.0)))
        (no_zero (links_of h.files n) (named_links h sound name n found));
  }

-- ---- the disk

links_kept : (bytes : List ℕ) (o : Option Inode) → unwrap_or (option_map (λ (i : Inode). i.links) (option_map (settled_entry bytes) o)) 0 ≡ unwrap_or (option_map (λ (i : Inode). i.links) o) 0
links_kept bytes None = refl
links_kept bytes (Some i) = refl

none_open : (bytes : List ℕ) (o : Option Inode) → unwrap_or (option_map (λ (i : Inode). i.opens) (option_map (settled_entry bytes) o)) 0 ≡ 0
none_open bytes None = refl
none_open bytes (Some i) = refl

file_settled : (bytes : List ℕ) (o : Option Inode) → (o ≡ None → bytes ≡ []) → file_of (option_map (settled_entry bytes) o) ≡ settled bytes (file_of o)
file_settled bytes None empty = ap (λ (b : List ℕ). settled b no_file) (sym (empty refl))
file_settled bytes (Some i) empty = refl

abbrev pub with_settled : Survival → Held → Held
with_settled how h = record { dirs = h.dirs; names = h.names; files = settled_entries how (seed_of how) h.files; opens = [] }

module _ (how : Survival) (h : Held) (sound : IsSound h) where
  abbrev pub left : ℕ → List ℕ
  left = left_by how (file_at h.files) (seed_of how) (named_numbers h sound)

  at : (n : ℕ) → at_number (settled_entries how (seed_of how) h.files) n ≡ option_map (settled_entry (left n)) (at_number h.files n)
  at n = settled-at how (file_at h.files) (has_name h.files) (seed_of how) h.files (are_entries h.files sound.files) n

  pub sound-halted : IsSound (with_settled how h)
  sound-halted = record {
    names = sound.names;
    files = numbers-settled how (seed_of how) h.files sound.files;
    opens = record { in_order = λ i j d lt within. absurd (omega arith); positive = λ i d within. absurd (omega arith) };
    links = λ n. ap (λ (o : Option Inode). unwrap_or (option_map (λ (i : Inode). i.links) o) 0) (at n) ∙ links_kept (left n) (at_number h.files n) ∙ sound.links n;
    holds = λ n. ap (λ (o : Option Inode). unwrap_or (option_map (λ (i : Inode). i.opens) o) 0) (at n) ∙ none_open (left n) (at_number h.files n);
  }

  left_of_none : (n : ℕ) → at_number h.files n ≡ None → left n ≡ []
  left_of_none n none = by_choice how
    where
      by_choice : (how : Survival) → left_by how (file_at h.files) (seed_of how) (named_numbers h sound) n ≡ []
      by_choice Keep = ap (λ (o : Option Inode). (file_of o).bytes) none
      by_choice Lose = ap (λ (o : Option Inode). (file_of o).kept) none
      by_choice (Junk seed) = junk_absent (file_at h.files) (has_name h.files) seed h.files n none ∙ ap (λ (o : Option Inode). (file_of o).bytes) none

  pub files_settled : file_at (settled_entries how (seed_of how) h.files) ≡ (λ n. settled (left n) (file_at h.files n))
  files_settled = fun_ext (λ n. ap file_of (at n) ∙ file_settled (left n) (at_number h.files n) (left_of_none n))

  pub left_is : left ≡ contents_by how (disk_of h) (named_numbers h sound)
  left_is = by_choice how
    where
      by_choice : (how : Survival) → left_by how (file_at h.files) (seed_of how) (named_numbers h sound) ≡ contents_by how (disk_of h) (named_numbers h sound)
      by_choice Keep = refl
      by_choice Lose = refl
      by_choice (Junk seed) = refl

  pub survives : All (λ (e : ℕ × Inode). IsSurvivor e.1.file) h.files → AllSurvive (disk_of h) (contents_by how (disk_of h) (named_numbers h sound))
  survives all name n found = by_choice how
    where
      is : IsSurvivor (file_at h.files n)
      is =
          let entry = some_of (at_number h.files n) (named_entry h sound name n found) in
          let place = place_of_found nat_eq Decides-eqb h.files n entry.0 entry.1 in
          subst IsSurvivor (ap (λ (e : ℕ × Inode). e.1.file) (place.2 (n, entry.0)) ∙ sym (ap file_of entry.1)) (all place.0 (n, entry.0) place.1)

      by_choice : (how : Survival) → Survives (file_at h.files n) (contents_by how (disk_of h) (named_numbers h sound) n)
      by_choice Keep = read_survives (file_at h.files n) (lasts (file_at h.files n) is)
      by_choice Lose = kept_survives (file_at h.files n) (lasts (file_at h.files n) is)
      by_choice (Junk seed) = junk_survives (file_at h.files) seed (named_numbers h sound) n (lasts (file_at h.files n) is)

  abbrev pub disk-halted : All (λ (e : ℕ × Inode). IsSurvivor e.1.file) h.files → Halts how (disk_of h) (disk_of (with_settled how h))
  disk-halted all = record {
    numbers = named_numbers h sound;
    are_named = are_named h sound;
    survive = survives all;
    left =
        let shut : ℕ → Option Open = λ fd. None in
        ap (λ (fs : ℕ → File). record { dirs = h.dirs; names = at_name h.names; files = fs; opens = shut }) (files_settled ∙ ap (λ (c : ℕ → List ℕ). λ n. settled (c n) (file_at h.files n)) left_is);
  }
