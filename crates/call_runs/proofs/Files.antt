-- The files of the lists, by number.
use Rattle.std.proofs.Common.{◌≡◌, ◌↔◌, ⊎_elim, ℕ, zero, suc, ◌+◌, ◌<◌, ◌≤◌, eqb, Bool, true, false, not, cond, IsTrue, List, [], ◌∷◌, ◌++◌, length, take, drop, min, get_or, set, position, Option, Some, None, IsSome, unwrap_or, nat_eq, refl, sym, ap, ◌∙◌, subst, arith}
use mathlib.Core.Path.{fun_ext}
use Rattle.std.specs.Map.{lookup}
use Rattle.std.specs.Option.{option_map}
use Rattle.mem_files.specs.declared.file.Inode.{Inode}
use Rattle.std.proofs.lemmas.Bool.{cases_lt}
use Rattle.call_fs.specs.Apply.{changed, cut, empty_file, from_place, synced}
use Rattle.call_fs.specs.Columns.{IsRead}
use Rattle.call_fs.specs.Free.{IsFree}
use Rattle.call_fs.specs.Disk.{Disk, File, Open}
use Rattle.call_fs.specs.Maps.{put, put_at}
use Rattle.call_fs.proofs.Maps.{after_put, put-there, put_at_cases}
use Rattle.mem_files.specs.MemFiles.{file_at}
use Rattle.mem_fs.specs.MemDisk.{Held, disk_of}
use Rattle.mem_fs.proofs.Steps.{open_on}
use Rattle.mem_files.specs.MemFile.{no_file}
use Rattle.mem_files.specs.Tables.{at_number}
use Rattle.call_runs.specs.Lists.{Changes, IsNamed, IsOpened, uncounted}
use Rattle.call_runs.proofs.Lookups.{number_changed, number_place, number_pushed, number_there}

abbrev inode_of : File → Inode
inode_of f = record { links = 0; opens = 0; file = f }

abbrev file_or : Option File → File
file_or o = unwrap_or o no_file

uncounted_at : (files : List (ℕ × File)) (n : ℕ) → at_number (uncounted files) n ≡ option_map inode_of (at_number files n)
uncounted_at [] n = refl
uncounted_at (e ∷ es) n =
    elim (nat_eq n e.0) as (λ b. cond b (Some (inode_of e.1)) (lookup (nat_eq n) (uncounted es)) ≡ option_map inode_of (cond b (Some e.1) (lookup (nat_eq n) es))) [
      | true ↦ refl
      | false ↦ uncounted_at es n
    ]

file_is : (files : List (ℕ × File)) (n : ℕ) → file_at (uncounted files) n ≡ file_or (at_number files n)
file_is files n =
    ap (λ (o : Option Inode). unwrap_or (option_map (λ (i : Inode). i.file) o) no_file) (uncounted_at files n)
    ∙ elim (at_number files n) as (λ (o : Option File). unwrap_or (option_map (λ (i : Inode). i.file) (option_map inode_of o)) no_file ≡ file_or o) [ None ↦ refl | Some f ↦ refl ]

pub file_there : (files : List (ℕ × File)) (n : ℕ) (f : File) → at_number files n ≡ Some f → file_at (uncounted files) n ≡ f
file_there files n f found = file_is files n ∙ ap file_or found

pub file_missing : (files : List (ℕ × File)) (n : ℕ) → at_number files n ≡ None → file_at (uncounted files) n ≡ empty_file 0
file_missing files n none = file_is files n ∙ ap file_or none

-- a number has this file now, and each other number what it had
pub filed : (old new : List (ℕ × File)) (n : ℕ) (f : File) → at_number new ≡ put (at_number old) n (Some f) → file_at (uncounted new) ≡ put (file_at (uncounted old)) n f
filed old new n f is =
    fun_ext (file_is new)
    ∙ ap (λ (m : ℕ → Option File). λ (q : ℕ). file_or (m q)) is
    ∙ after_put file_or (at_number old) n (Some f)
    ∙ ap (λ (m : ℕ → File). put m n f) (sym (fun_ext (file_is old)))

-- to write over the file of a number is to change it
pub file_changed : (files : List (ℕ × File)) (n at : ℕ) → position (λ e. eqb n e.0) files ≡ Some at → (item : ℕ × File) → item ≡ get_or files at item → (change : File → File) (file : File) → file ≡ change item.1
    → Changes files (set files at (item.0, file)) n change
file_changed files n at is item read change file made =
    let key : item.0 ≡ n = ap (λ (e : ℕ × File). e.0) read ∙ (number_place files n at is).has_key item in
    let found : at_number files n ≡ Some item.1 = number_there files n at is item ∙ ap (λ (e : ℕ × File). Some e.1) (sym read) in
    filed files (set files at (item.0, file)) n file (ap (λ (k : ℕ). at_number (set files at (k, file))) key ∙ number_changed files n file at is)
    ∙ ap (λ (f : File). put (file_at (uncounted files)) n f) (made ∙ ap change (sym (file_there files n item.1 found)))

-- a number that had none has one
pub file_new : (files : List (ℕ × File)) (n : ℕ) → at_number files n ≡ None → (change : File → File) (file : File) → file ≡ change (empty_file 0) → Changes files (files ++ (n, file) ∷ []) n change
file_new files n none change file made =
    filed files (files ++ (n, file) ∷ []) n file (number_pushed files n file none)
    ∙ ap (λ (f : File). put (file_at (uncounted files)) n f) (made ∙ ap change (sym (file_missing files n none)))

-- a change that leaves an empty file needs none
pub file_stays : (files : List (ℕ × File)) (n : ℕ) → at_number files n ≡ None → (change : File → File) → change (empty_file 0) ≡ empty_file 0 → Changes files files n change
file_stays files n none change same =
    let empty = file_missing files n none in
    sym (put-there (file_at (uncounted files)) n (change (file_at (uncounted files) n)) (empty ∙ sym (ap change empty ∙ same)))

pub cut_empty : (len : ℕ) → cut len (empty_file 0) ≡ empty_file 0
cut_empty zero = refl
cut_empty (suc n) = refl

pub synced_empty : synced (empty_file 0) ≡ empty_file 0
synced_empty = refl

-- ---- what the lists hold, by the maps that they stand for
pub disk_is : (dirs : List (List ℕ)) {n m : List ℕ → Option ℕ} {f g : ℕ → File} {o p : ℕ → Option Open} → n ≡ m → f ≡ g → o ≡ p
    → ◌≡◌ {A = Disk} (record { dirs = dirs; names = n; files = f; opens = o }) (record { dirs = dirs; names = m; files = g; opens = p })
disk_is dirs {n} {m} {f} {g} {o} {p} names files opens =
    ap (λ (x : List ℕ → Option ℕ). record { dirs = dirs; names = x; files = f; opens = o }) names
    ∙ ap (λ (x : ℕ → File). record { dirs = dirs; names = m; files = x; opens = o }) files
    ∙ ap (λ (x : ℕ → Option Open). record { dirs = dirs; names = m; files = g; opens = x }) opens

-- to put what isn't there changes nothing
pub put_none : (m : List ℕ → Option ℕ) (k : List ℕ) (v : Option ℕ) → m k ≡ v → put_at m k v ≡ m
put_none m k v is = fun_ext (λ q. ⊎_elim (λ h. h.1 ∙ sym is ∙ ap m (sym h.0)) (λ h. h.1) (put_at_cases m k v q))

-- the file of an open descriptor changed
pub disk_changed : (dirs : List (List ℕ)) (names : List ℕ → Option ℕ) (files new : List (ℕ × File)) (opens : List (ℕ × Open)) (fd n : ℕ) (change : File → File) → option_map (λ (o : Open). o.number) (at_number opens fd) ≡ Some n
    → Changes files new n change
    → ◌≡◌ {A = Disk} (record { dirs = dirs; names = names; files = file_at (uncounted new); opens = at_number opens })
    (changed (record { dirs = dirs; names = names; files = file_at (uncounted files); opens = at_number opens }) (at_number opens fd) change)
disk_changed dirs names files new opens fd n change is changes =
    let at = open_on (at_number opens fd) n is in
    let with : (ℕ → File) → Disk = λ fs. record { dirs = dirs; names = names; files = fs; opens = at_number opens } in
    ap with changes
    ∙ ap (λ (k : ℕ). with (put (file_at (uncounted files)) k (change (file_at (uncounted files) k)))) (sym at.2)
    ∙ ap (λ (o : Option Open). changed (with (file_at (uncounted files))) o change) (sym at.1)

-- none is open: nothing changed
pub disk_unopened : (d : Disk) (o : Option Open) (change : File → File) → option_map (λ (x : Open). x.number) o ≡ None → changed d o change ≡ d
disk_unopened d None change is = refl
disk_unopened d (Some o) change is = absurd (cc)

-- ---- which numbers are free
one_or_more : (n : ℕ) → (n ≡ 0 → ⊥) → 1 ≤ n
one_or_more zero never = absurd (never refl)
one_or_more (suc n) never = omega arith

pub free_unless : (h : Held) (n : ℕ) (b : Bool) → (n ≡ 0 → ⊥) → ¬ (IsNamed h.names n) → IsTrue b ↔ IsOpened h.opens n → IsTrue (not b) ↔ IsFree (disk_of h) n
free_unless h n true positive unnamed opened = (
  λ f. absurd (cc),
  λ free. let o = opened.0 refl in let at = open_on (at_number h.opens o.0) n o.1 in absurd (free.1.unopened o.0 at.0 at.1 at.2),
)
free_unless h n false positive unnamed opened = (
  λ t. (
    one_or_more n positive,
    record {
      unnamed = λ name is. unnamed (name, is);
      unopened = λ fd o is same. let yes = opened.1 (fd, ap (option_map (λ (x : Open). x.number)) is ∙ ap Some same) in absurd (cc);
    },
  ),
  λ free. refl,
)

-- what isn't so below a number, and not of it, isn't so below the next one
pub none_to : (P : ℕ → Type 0) (k next : ℕ) → ((m : ℕ) → m < k → ¬ (P m)) → ¬ (P k) → next ≡ k + 1 → (m : ℕ) → m < next → ¬ (P m)
none_to P k next below here is m lt = ⊎_elim (λ low. below m low) (λ high. let same : m ≡ k = omega (arith, lt, high, is) in λ p. here (subst P same p)) (cases_lt m k)

pub unsome : {X : Type 0} (o : Option X) → IsSome o → o ≡ None → ⊥
unsome None some none = absurd (cc)
unsome (Some x) some none = absurd (cc)

-- ---- what is read
pub from_there : (d : Disk) (o : Option Open) (n : ℕ) (f : File) (at : ℕ) → option_map (λ (x : Open). x.number) o ≡ Some n → d.files n ≡ f → from_place d o at ≡ drop at f.bytes
from_there d None n f at is file = absurd (cc)
from_there d (Some o) n f at is file = let same : o.number ≡ n = cc in ap (λ (k : ℕ). drop at (d.files k).bytes) same ∙ ap (λ (g : File). drop at g.bytes) file

pub read_there : (d : Disk) (fd at len count : ℕ) (into rest : List ℕ) → from_place d (d.opens fd) at ≡ rest → count ≡ min len (length rest) → take count into ≡ take count rest → IsRead d fd at len count into
read_there d fd at len count into rest is counts bytes = record {
  count_is = counts ∙ ap (λ (r : List ℕ). min len (length r)) (sym is);
  bytes_are = bytes ∙ ap (λ (r : List ℕ). take count r) (sym is);
}

pub drop_nothing : (at : ℕ) → ◌≡◌ {A = List ℕ} (drop at []) []
drop_nothing zero = refl
drop_nothing (suc n) = refl

pub least_zero : (len : ℕ) → 0 ≡ min len 0
least_zero len = omega arith
