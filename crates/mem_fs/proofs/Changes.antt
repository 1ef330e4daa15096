-- What a change of the lists does to the disk that they stand for, and that it keeps them sound.
use Rattle.std.proofs.Common.{◌≡◌, ◌≢◌, ◌⊎◌, ⊎_elim, inl, inr, ℕ, ◌+◌, Bool, true, false, cond, List, [], Option, Some, unwrap_or, nat_eq, refl, sym, ap, ◌∙◌, subst, arith}
use Rattle.std.specs.List.Sorted.{IsStrictlySortedBy}
use Rattle.std.specs.Option.{option_map}
use Rattle.std.proofs.lemmas.Bool.Decides.{Decides-eqb}
use Rattle.mem_files.specs.declared.file.Inode.{Inode}
use Rattle.call_fs.specs.Maps.{put}
use Rattle.call_fs.specs.Disk.{File, Open}
use Rattle.mem_files.specs.MemFile.{no_file}
use Rattle.mem_files.specs.Tables.{at_number, AreNumbersInOrder}
use Rattle.mem_fs.specs.Tables.{AreNamesInOrder}
use Rattle.mem_files.specs.MemFiles.{file_at, links_of, holds_of}
use Rattle.mem_fs.specs.MemDisk.{Held, count_of, names_of, opens_counted, IsSound}
use Rattle.call_fs.proofs.Maps.{put_cases, put-there, after_put}

abbrev pub file_of : Option Inode → File
file_of o = unwrap_or (option_map (λ i. i.file) o) no_file

-- ---- the disk

pub file_at-put : (old new : List (ℕ × Inode)) (n : ℕ) (i : Inode) → at_number new ≡ put (at_number old) n (Some i) → file_at new ≡ put (file_at old) n i.file
file_at-put old new n i is = ap (λ (m : ℕ → Option Inode). λ q. file_of (m q)) is ∙ after_put file_of (at_number old) n (Some i)

-- a change that leaves the file leaves all files
pub file_at-same : (old new : List (ℕ × Inode)) (n : ℕ) (i j : Inode) → at_number old n ≡ Some i → j.file ≡ i.file → at_number new ≡ put (at_number old) n (Some j) → file_at new ≡ file_at old
file_at-same old new n i j there same is =
    file_at-put old new n j is ∙ put-there (file_at old) n j.file (ap file_of there ∙ sym same)

-- ---- soundness

links_put : (old new : List (ℕ × Inode)) (n : ℕ) (i : Inode) → at_number new ≡ put (at_number old) n (Some i) → (m : ℕ) → ((m ≡ n) × (links_of new m ≡ i.links)) ⊎ ((m ≢ n) × (links_of new m ≡ links_of old m))
links_put old new n i is m =
    let read : Option Inode → ℕ = λ o. unwrap_or (option_map (λ (e : Inode). e.links) o) 0 in
    let step : links_of new m ≡ read (put (at_number old) n (Some i) m) = ap (λ (f : ℕ → Option Inode). read (f m)) is in
    ⊎_elim (λ h. inl (h.0, step ∙ ap read h.1)) (λ h. inr (h.0, step ∙ ap read h.1)) (put_cases (at_number old) n (Some i) m)

holds_put : (old new : List (ℕ × Inode)) (n : ℕ) (i : Inode) → at_number new ≡ put (at_number old) n (Some i) → (m : ℕ) → ((m ≡ n) × (holds_of new m ≡ i.opens)) ⊎ ((m ≢ n) × (holds_of new m ≡ holds_of old m))
holds_put old new n i is m =
    let read : Option Inode → ℕ = λ o. unwrap_or (option_map (λ (e : Inode). e.opens) o) 0 in
    let step : holds_of new m ≡ read (put (at_number old) n (Some i) m) = ap (λ (f : ℕ → Option Inode). read (f m)) is in
    ⊎_elim (λ h. inl (h.0, step ∙ ap read h.1)) (λ h. inr (h.0, step ∙ ap read h.1)) (put_cases (at_number old) n (Some i) m)

-- nothing at all
pub sound-nothing : (h : Held) → h.names ≡ [] → h.files ≡ [] → h.opens ≡ [] → IsSound h
unfolding IsStrictlySortedBy
sound-nothing h names files opens = record {
  names = subst (λ (es : List (List ℕ × ℕ)). AreNamesInOrder es) (sym names) tt;
  files = subst (λ (es : List (ℕ × Inode)). AreNumbersInOrder es) (sym files) (record { in_order = λ i j d lt within. absurd (omega arith); positive = λ i d within. absurd (omega arith) });
  opens = subst (λ (es : List (ℕ × Open)). AreNumbersInOrder es) (sym opens) (record { in_order = λ i j d lt within. absurd (omega arith); positive = λ i d within. absurd (omega arith) });
  links = λ n. ap (λ (es : List (ℕ × Inode)). links_of es n) files ∙ sym (ap (λ (es : List (List ℕ × ℕ)). names_of es n) names);
  holds = λ n. ap (λ (es : List (ℕ × Inode)). holds_of es n) files ∙ sym (ap (λ (es : List (ℕ × Open)). opens_counted es n) opens);
}

-- the entry of one number counts what uses it now, and the uses of the others stay
pub sound-put : {h : Held} → IsSound h → (k : Held) (n : ℕ) (i : Inode)
    → AreNamesInOrder k.names → AreNumbersInOrder k.files → AreNumbersInOrder k.opens
    → at_number k.files ≡ put (at_number h.files) n (Some i)
    → i.links ≡ names_of k.names n → ((m : ℕ) → m ≢ n → names_of k.names m ≡ names_of h.names m)
    → i.opens ≡ opens_counted k.opens n → ((m : ℕ) → m ≢ n → opens_counted k.opens m ≡ opens_counted h.opens m)
    → IsSound k
sound-put {h} sound k n i names files opens is links other_links holds other_holds = record {
  names = names;
  files = files;
  opens = opens;
  links = λ m. ⊎_elim (λ s. s.1 ∙ links ∙ ap (names_of k.names) (sym s.0)) (λ s. s.1 ∙ sound.links m ∙ sym (other_links m s.0)) (links_put h.files k.files n i is m);
  holds = λ m. ⊎_elim (λ s. s.1 ∙ holds ∙ ap (opens_counted k.opens) (sym s.0)) (λ s. s.1 ∙ sound.holds m ∙ sym (other_holds m s.0)) (holds_put h.files k.files n i is m);
}

-- one more of a number, and none of another
one_here : (n : ℕ) → ◌≡◌ {A = ℕ} (cond (nat_eq n n) 1 0) 1
one_here n = ap (λ (b : Bool). cond b 1 0) ((Decides-eqb n n).1 refl)

none_there : (n m : ℕ) → m ≢ n → ◌≡◌ {A = ℕ} (cond (nat_eq n m) 1 0) 0
none_there n m apart = elim (nat_eq n m) as (λ b. nat_eq n m ≡ b → ◌≡◌ {A = ℕ} (cond b 1 0) 0) [ true ↦ λ t. absurd (apart (sym ((Decides-eqb n m).0 t))) | false ↦ λ t. refl ] refl

-- a list has one entry more of the number n
abbrev pub Gains : {K V : Type 0} → (V → ℕ) → List (K × V) → List (K × V) → ℕ → Type 0
Gains number old new n = (m : ℕ) → count_of number new m ≡ count_of number old m + cond (nat_eq n m) 1 0

abbrev pub NamesGain : List (List ℕ × ℕ) → List (List ℕ × ℕ) → ℕ → Type 0
NamesGain old new n = Gains (λ (k : ℕ). k) old new n

abbrev pub OpensGain : List (ℕ × Open) → List (ℕ × Open) → ℕ → Type 0
OpensGain old new n = Gains (λ (o : Open). o.number) old new n

module _ {K V : Type 0} (number : V → ℕ) (old new : List (K × V)) (n : ℕ) (gains : Gains number old new n) where
  pub gain_here : count_of number new n ≡ count_of number old n + 1
  gain_here = gains n ∙ ap (λ k. count_of number old n + k) (one_here n)

  pub gain_there : (m : ℕ) → m ≢ n → count_of number new m ≡ count_of number old m
  gain_there m apart = gains m ∙ ap (λ k. count_of number old m + k) (none_there n m apart) ∙ omega arith
