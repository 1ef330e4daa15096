-- Each change of a disk in memory, by the lists that it leaves.
use Rattle.std.proofs.Common.{◌≡◌, ℕ, ◌≤◌, List, [], ◌∷◌, ◌++◌, inr, Option, Some, None, IsSome, is_some, false, Result, Ok, Err, OnOk, OnErr, Bor, refl, sym, ap, ◌∙◌, subst, arith}
use Rattle.std.specs.Prelude.{Contains}
use Rattle.std.specs.Option.{option_map, option_copied, IfSome, IfNone}
use Rattle.mem_files.specs.declared.file.Inode.{Inode}
use Rattle.call_fs.specs.Maps.{put, put_at}
use Rattle.call_fs.specs.Disk.{File, Open as OpenFile, Disk, dir_of}
use Rattle.call_fs.specs.declared.modes.Mode.{Mode}
use Rattle.call_fs.specs.declared.calls.Fd.{Fd}
use Rattle.call_fs.specs.declared.calls.How.{How}
use Rattle.call_fs.specs.declared.calls.CallData.TheVariants.{CreateExcl, Open, Close, Link, Unlink}
use Rattle.call_fs.specs.declared.calls.Answer.TheVariants as answer
use Rattle.call_fs.specs.Apply.{changed, effect, empty_file}
use Rattle.mem_files.specs.Tables.{at_number, AreNumbersInOrder}
use Rattle.mem_fs.specs.Tables.{at_name, AreNamesInOrder}
use Rattle.mem_files.specs.MemFiles.{file_at, holds_of, IsIdle, Changes, on_file, linked_inode, unlinked_inode, opened_inode, closed_inode}
use Rattle.call_fs.specs.Free.{IsGreatestFree}
use Rattle.call_fs.specs.Placing.{HasMade, with_dir, with_file, PlacesNew, replaced, Replaces}
use Rattle.mem_fs.specs.MemDisk.{Held, disk_of, IsOpenOn, IsSound, Places}
use Rattle.mem_files.specs.MemFile.{settled_file}
use Rattle.call_fs.proofs.Maps.{put-there}
use Rattle.mem_files.proofs.FileTable.{links-there, holds-there}
use Rattle.mem_fs.proofs.Changes.{file_of, file_at-put, file_at-same, sound-put, NamesGain, OpensGain, gain_here, gain_there}
use Rattle.mem_fs.proofs.Uses.{opened_holds, opened_entry}

pub none_of : {X : Type 0} (o : Option X) → is_some o ≡ false → o ≡ None
none_of None e = refl
none_of (Some x) e = absurd cc

pub some_of : {X : Type 0} (o : Option X) → IsSome o → (x : X) × (o ≡ Some x)
some_of None h = absurd cc
some_of (Some x) h = (x, refl)

-- the descriptor that is open on a number
pub open_on : (o : Option OpenFile) (n : ℕ) → option_map (λ (x : OpenFile). x.number) o ≡ Some n → (x : OpenFile) × (o ≡ Some x) × (x.number ≡ n)
open_on None n is = absurd cc
open_on (Some x) n is = (x, refl, cc)

pub open_entry : {h : Held} → IsSound h → (fd n : ℕ) → IsOpenOn (disk_of h) fd n → IsSome (at_number h.files n)
open_entry {h} sound fd n is = let at = open_on (at_number h.opens fd) n is in subst (λ (k : ℕ). IsSome (at_number h.files k)) at.2 (opened_entry h sound fd at.0 at.1)

pub open_holds : {h : Held} → IsSound h → (fd n : ℕ) → IsOpenOn (disk_of h) fd n → 1 ≤ holds_of h.files n
open_holds {h} sound fd n is = let at = open_on (at_number h.opens fd) n is in subst (λ (k : ℕ). 1 ≤ holds_of h.files k) at.2 (opened_holds h sound fd at.0 at.1)

abbrev pub with_files : Held → List (ℕ × Inode) → Held
with_files h files = record { dirs = h.dirs; names = h.names; files = files; opens = h.opens }

-- ---- a file changes

pub sound-file : {h : Held} → IsSound h → (files : List (ℕ × Inode)) (n : ℕ) (change : File → File) → IsSome (at_number h.files n) → Changes h.files files n (on_file change) → IsSound (with_files h files)
sound-file {h} sound files n change there changes =
    let entry = some_of (at_number h.files n) there in
    let i = entry.0 in
    sound-put sound (with_files h files) n (on_file change i) sound.names changes.in_order sound.opens (changes.value i entry.1)
    (sym (links-there h.files n i entry.1) ∙ sound.links n) (λ m apart. refl)
    (sym (holds-there h.files n i entry.1) ∙ sound.holds n) (λ m apart. refl)

pub file-changed : (h : Held) (files : List (ℕ × Inode)) (n : ℕ) (change : File → File) → IsSome (at_number h.files n) → Changes h.files files n (on_file change)
    → file_at files ≡ put (file_at h.files) n (change (file_at h.files n))
file-changed h files n change there changes =
    let entry = some_of (at_number h.files n) there in
    file_at-put h.files files n (on_file change entry.0) (changes.value entry.0 entry.1) ∙ ap (λ (o : Option Inode). put (file_at h.files) n (change (file_of o))) (sym entry.1)

pub disk-changed : {h : Held} → IsSound h → (files : List (ℕ × Inode)) (fd n : ℕ) (change : File → File) → IsOpenOn (disk_of h) fd n → Changes h.files files n (on_file change)
    → disk_of (with_files h files) ≡ changed (disk_of h) (at_number h.opens fd) change
disk-changed {h} sound files fd n change is changes =
    let at = open_on (at_number h.opens fd) n is in
    let with : (ℕ → File) → Disk = λ fs. record { dirs = h.dirs; names = at_name h.names; files = fs; opens = at_number h.opens } in
    ap with (file-changed h files n change (open_entry sound fd n is) changes)
    ∙ ap (λ (k : ℕ). with (put (file_at h.files) k (change (file_at h.files k)))) (sym at.2)
    ∙ ap (λ (o : Option OpenFile). changed (disk_of h) o change) (sym at.1)

pub sound-file_or : {h : Held} {E : Type 0} → IsSound h → (files : List (ℕ × Inode)) (n : ℕ) (change : File → File) (r : Result (Unit {0}) E) → IsSome (at_number h.files n)
    → OnOk r (Changes h.files files n (on_file change)) → OnErr r (files ≡ h.files) → IsSound (with_files h files)
sound-file_or sound files n change (Ok u) there ok err = sound-file sound files n change there ok
sound-file_or {h} sound files n change (Err e) there ok err = subst (λ (fs : List (ℕ × Inode)). IsSound (with_files h fs)) (sym err) sound

-- ---- a new file

pub sound-created : {h : Held} → IsSound h → (names : List (List ℕ × ℕ)) (files : List (ℕ × Inode)) (opens : List (ℕ × OpenFile)) (n : ℕ) (o : OpenFile) (file : File) → IsIdle h.files n
    → AreNamesInOrder names → NamesGain h.names names n
    → AreNumbersInOrder files → at_number files ≡ put (at_number h.files) n (Some (record { links = 1; opens = 1; file = file }))
    → AreNumbersInOrder opens → OpensGain h.opens opens o.number → o.number ≡ n
    → IsSound (record { dirs = h.dirs; names = names; files = files; opens = opens })
sound-created {h} sound names files opens n o file idle names_in named files_in made opens_in opened_on is =
    let held = subst (λ (k : ℕ). OpensGain h.opens opens k) is opened_on in
    sound-put sound (record { dirs = h.dirs; names = names; files = files; opens = opens }) n (record { links = 1; opens = 1; file = file }) names_in files_in opens_in made
    (omega (arith, gain_here (λ (k : ℕ). k) h.names names n named, sound.links n, idle.0)) (gain_there (λ (k : ℕ). k) h.names names n named)
    (omega (arith, gain_here (λ (x : OpenFile). x.number) h.opens opens n held, sound.holds n, idle.1)) (gain_there (λ (x : OpenFile). x.number) h.opens opens n held)

pub sound-placed : {h : Held} → IsSound h → (names : List (List ℕ × ℕ)) (files : List (ℕ × Inode)) (n : ℕ) (file : File) → IsIdle h.files n
    → AreNamesInOrder names → NamesGain h.names names n
    → AreNumbersInOrder files → at_number files ≡ put (at_number h.files) n (Some (record { links = 1; opens = 0; file = file }))
    → IsSound (record { dirs = h.dirs; names = names; files = files; opens = h.opens })
sound-placed {h} sound names files n file idle names_in named files_in made =
    sound-put sound (record { dirs = h.dirs; names = names; files = files; opens = h.opens }) n (record { links = 1; opens = 0; file = file }) names_in files_in sound.opens made
    (omega (arith, gain_here (λ (k : ℕ). k) h.names names n named, sound.links n, idle.0)) (gain_there (λ (k : ℕ). k) h.names names n named)
    (omega (arith, sound.holds n, idle.1)) (λ m apart. refl)

-- ---- a name or a descriptor more or less

pub sound-linked : {h : Held} → IsSound h → (names : List (List ℕ × ℕ)) (files : List (ℕ × Inode)) (n : ℕ) → IsSome (at_number h.files n)
    → AreNamesInOrder names → NamesGain h.names names n → Changes h.files files n linked_inode
    → IsSound (record { dirs = h.dirs; names = names; files = files; opens = h.opens })
sound-linked {h} sound names files n there names_in named changes =
    let entry = some_of (at_number h.files n) there in
    let i = entry.0 in
    sound-put sound (record { dirs = h.dirs; names = names; files = files; opens = h.opens }) n (linked_inode i) names_in changes.in_order sound.opens (changes.value i entry.1)
    (omega (arith, gain_here (λ (k : ℕ). k) h.names names n named, sound.links n, links-there h.files n i entry.1)) (gain_there (λ (k : ℕ). k) h.names names n named)
    (sym (holds-there h.files n i entry.1) ∙ sound.holds n) (λ m apart. refl)

pub sound-unlinked : {h : Held} → IsSound h → (names : List (List ℕ × ℕ)) (files : List (ℕ × Inode)) (n : ℕ) → IsSome (at_number h.files n)
    → AreNamesInOrder names → NamesGain names h.names n → Changes h.files files n unlinked_inode
    → IsSound (record { dirs = h.dirs; names = names; files = files; opens = h.opens })
sound-unlinked {h} sound names files n there names_in named changes =
    let entry = some_of (at_number h.files n) there in
    let i = entry.0 in
    sound-put sound (record { dirs = h.dirs; names = names; files = files; opens = h.opens }) n (unlinked_inode i) names_in changes.in_order sound.opens (changes.value i entry.1)
    (omega (arith, gain_here (λ (k : ℕ). k) names h.names n named, sound.links n, links-there h.files n i entry.1)) (λ m apart. sym (gain_there (λ (k : ℕ). k) names h.names n named m apart))
    (sym (holds-there h.files n i entry.1) ∙ sound.holds n) (λ m apart. refl)

pub sound-closed : {h : Held} → IsSound h → (files : List (ℕ × Inode)) (opens : List (ℕ × OpenFile)) (n : ℕ) → IsSome (at_number h.files n)
    → AreNumbersInOrder opens → OpensGain opens h.opens n → Changes h.files files n closed_inode
    → IsSound (record { dirs = h.dirs; names = h.names; files = files; opens = opens })
sound-closed {h} sound files opens n there opens_in held changes =
    let entry = some_of (at_number h.files n) there in
    let i = entry.0 in
    sound-put sound (record { dirs = h.dirs; names = h.names; files = files; opens = opens }) n (closed_inode i) sound.names changes.in_order opens_in (changes.value i entry.1)
    (sym (links-there h.files n i entry.1) ∙ sound.links n) (λ m apart. refl)
    (omega (arith, gain_here (λ (x : OpenFile). x.number) opens h.opens n held, sound.holds n, holds-there h.files n i entry.1)) (λ m apart. sym (gain_there (λ (x : OpenFile). x.number) opens h.opens n held m apart))

pub sound-opened : {h : Held} → IsSound h → (files : List (ℕ × Inode)) (opens : List (ℕ × OpenFile)) (n : ℕ) (o : OpenFile) → IsSome (at_number h.files n)
    → AreNumbersInOrder opens → OpensGain h.opens opens o.number → o.number ≡ n → Changes h.files files n opened_inode
    → IsSound (record { dirs = h.dirs; names = h.names; files = files; opens = opens })
sound-opened {h} sound files opens n o there opens_in opened_on is changes =
    let held = subst (λ (k : ℕ). OpensGain h.opens opens k) is opened_on in
    let entry = some_of (at_number h.files n) there in
    let i = entry.0 in
    sound-put sound (record { dirs = h.dirs; names = h.names; files = files; opens = opens }) n (opened_inode i) sound.names changes.in_order opens_in (changes.value i entry.1)
    (sym (links-there h.files n i entry.1) ∙ sound.links n) (λ m apart. refl)
    (omega (arith, gain_here (λ (x : OpenFile). x.number) h.opens opens n held, sound.holds n, holds-there h.files n i entry.1)) (gain_there (λ (x : OpenFile). x.number) h.opens opens n held)

-- a change of the counts leaves the files
pub files-same : (old new : List (ℕ × Inode)) (n : ℕ) (change : Inode → Inode) → ((i : Inode) → (change i).file ≡ i.file) → IsSome (at_number old n) → Changes old new n change → file_at new ≡ file_at old
files-same old new n change same there changes =
    let entry = some_of (at_number old n) there in
    file_at-same old new n entry.0 (change entry.0) entry.1 (same entry.0) (changes.value entry.0 entry.1)

-- ---- the disk after a call

disk_is : (dirs : List (List ℕ)) {n m : List ℕ → Option ℕ} {f g : ℕ → File} {o p : ℕ → Option OpenFile} → n ≡ m → f ≡ g → o ≡ p
    → ◌≡◌ {A = Disk} (record { dirs = dirs; names = n; files = f; opens = o }) (record { dirs = dirs; names = m; files = g; opens = p })
disk_is dirs {n} {m} {f} {g} {o} {p} names files opens =
    ap (λ (x : List ℕ → Option ℕ). record { dirs = dirs; names = x; files = f; opens = o }) names
    ∙ ap (λ (x : ℕ → File). record { dirs = dirs; names = m; files = x; opens = o }) files
    ∙ ap (λ (x : ℕ → Option OpenFile). record { dirs = dirs; names = m; files = g; opens = x }) opens

pub disk-created : (h : Held) (names : List (List ℕ × ℕ)) (files : List (ℕ × Inode)) (opens : List (ℕ × OpenFile)) (now : ℕ) (name : List ℕ) (fd : Fd) (n : ℕ) (i : Inode) (o : OpenFile)
    → at_name names ≡ put_at (at_name h.names) name (Some n) → at_number files ≡ put (at_number h.files) n (Some i) → i.file ≡ empty_file now
    → at_number opens ≡ put (at_number h.opens) fd.0 (Some o) → o ≡ record { number = n; mode = Mode.Created }
    → disk_of (record { dirs = h.dirs; names = names; files = files; opens = opens }) ≡ effect (disk_of h) now (CreateExcl name) (answer.Created fd n) 0
disk-created h names files opens now name fd n i o named made is held how =
    disk_is h.dirs named (file_at-put h.files files n i made ∙ ap (put (file_at h.files) n) is) (held ∙ ap (λ (x : OpenFile). put (at_number h.opens) fd.0 (Some x)) how)

pub disk-opened : (h : Held) (files : List (ℕ × Inode)) (opens : List (ℕ × OpenFile)) (name : List ℕ) (how : How) (fd : Fd) (n : ℕ) (o : OpenFile)
    → at_name h.names name ≡ Some n → file_at files ≡ file_at h.files → at_number opens ≡ put (at_number h.opens) fd.0 (Some o) → o ≡ record { number = n; mode = Mode.Opened how }
    → disk_of (record { dirs = h.dirs; names = h.names; files = files; opens = opens }) ≡ effect (disk_of h) 0 (Open name how) (answer.Opened fd) 0
disk-opened h files opens name how fd n o there same held is =
    let mode : ℕ → OpenFile = λ k. record { number = k; mode = Mode.Opened how } in
    disk_is h.dirs refl same (held ∙ ap (λ (x : OpenFile). put (at_number h.opens) fd.0 (Some x)) is ∙ ap (λ (k : Option ℕ). put (at_number h.opens) fd.0 (option_map mode k)) (sym there))

pub disk-closed : (h : Held) (files : List (ℕ × Inode)) (opens : List (ℕ × OpenFile)) (fd : Fd) → file_at files ≡ file_at h.files → at_number opens ≡ put (at_number h.opens) fd.0 None
    → disk_of (record { dirs = h.dirs; names = h.names; files = files; opens = opens }) ≡ effect (disk_of h) 0 (Close fd) answer.Done 0
disk-closed h files opens fd same held = disk_is h.dirs refl same held

pub disk-linked : (h : Held) (names : List (List ℕ × ℕ)) (files : List (ℕ × Inode)) (old new : List ℕ) (n : ℕ) → at_name h.names old ≡ Some n → at_name names ≡ put_at (at_name h.names) new (Some n) → file_at files ≡ file_at h.files
    → disk_of (record { dirs = h.dirs; names = names; files = files; opens = h.opens }) ≡ effect (disk_of h) 0 (Link old new) answer.Done 0
disk-linked h names files old new n there named same = disk_is h.dirs (named ∙ ap (put_at (at_name h.names) new) (sym there)) same refl

pub disk-unlinked : (h : Held) (names : List (List ℕ × ℕ)) (files : List (ℕ × Inode)) (name : List ℕ) → at_name names ≡ put_at (at_name h.names) name None → file_at files ≡ file_at h.files
    → disk_of (record { dirs = h.dirs; names = names; files = files; opens = h.opens }) ≡ effect (disk_of h) 0 (Unlink name) answer.Done 0
disk-unlinked h names files name named same = disk_is h.dirs named same refl

-- ---- options

pub if_some_weaker : {X : Type 0} (o : Option X) {P Q : X → Type 0} → ((x : X) → P x → Q x) → IfSome o P → IfSome o Q
if_some_weaker None f h = tt
if_some_weaker (Some x) f h = f x h

pub if_none_weaker : {X : Type 0} (o : Option X) {P Q : Type 0} → (P → Q) → IfNone o P → IfNone o Q
if_none_weaker None f h = f h
if_none_weaker (Some x) f h = tt

pub some_copied : {X : Type 0} (o : Option (Bor X)) → IsSome (option_copied o) → IsSome o
some_copied None h = h
some_copied (Some x) h = refl

-- ---- opening contents

pub disk-placed : (h : Held) (names : List (List ℕ × ℕ)) (files : List (ℕ × Inode)) (name : List ℕ) (n : ℕ) (file : File)
    → at_name names ≡ put_at (at_name h.names) name (Some n) → at_number files ≡ put (at_number h.files) n (Some (record { links = 1; opens = 0; file = file })) → IsGreatestFree (disk_of h) n
    → PlacesNew (disk_of h) name file (disk_of (record { dirs = h.dirs; names = names; files = files; opens = h.opens }))
disk-placed h names files name n file named made greatest = record {
  number = n;
  greatest = greatest;
  is = disk_is h.dirs named (file_at-put h.files files n (record { links = 1; opens = 0; file = file }) made) refl;
}

pub disk-replaced : (h : Held) (files : List (ℕ × Inode)) (n : ℕ) (file : File) → IsSome (at_number h.files n) → Changes h.files files n (on_file (λ _. file))
    → disk_of (with_files h files) ≡ with_file (disk_of h) n file
disk-replaced h files n file there changes = disk_is h.dirs refl (file-changed h files n (λ _. file) there changes) refl

pub replaced-place : (d : Disk) (name bytes : List ℕ) (n : ℕ) (new : Disk) → d.names name ≡ Some n → new ≡ with_file d n (settled_file bytes) → Places d name bytes new
replaced-place d name bytes n new named is = record {
  there = λ m found. let same : n ≡ m = cc in is ∙ ap (λ k. with_file d k (settled_file bytes)) same;
  missing = λ none. absurd cc;
}

pub replaced-there : (now : ℕ) (d : Disk) (name bytes : List ℕ) (n : ℕ) (new : Disk) → d.names name ≡ Some n → new ≡ with_file d n (replaced now bytes)
    → Replaces now name bytes d new
replaced-there now d name bytes n new named is = record {
  there = λ m found. let same : n ≡ m = cc in is ∙ ap (λ k. with_file d k (replaced now bytes)) same;
  missing = λ none. absurd cc;
}

pub replaced-below : (now : ℕ) (d : Disk) (name bytes : List ℕ) (file : File) (new : Disk) → d.names name ≡ None → file ≡ replaced now bytes
    → (mid : Disk) × HasMade d (dir_of name) mid × PlacesNew mid name file new → Replaces now name bytes d new
replaced-below now d name bytes file new none is below = record {
  there = λ m found. absurd cc;
  missing = λ _. (below.0, below.1, subst (λ (f : File). PlacesNew below.0 name f new) is below.2);
}

-- a file under a new name, in a directory that was made for it
pub made-below : {h k : Held} → h ≡ k → (dir name : List ℕ) (dirs : List (List ℕ)) (file : File) (new : Disk) → dir ≡ dir_of name → ¬ (Contains k.dirs (dir_of name)) → dirs ≡ h.dirs ++ dir ∷ []
    → PlacesNew (disk_of (record { dirs = dirs; names = h.names; files = h.files; opens = h.opens })) name file new
    → (mid : Disk) × HasMade (disk_of k) (dir_of name) mid × PlacesNew mid name file new
made-below {h} {k} same dir name dirs file new is none grown places =
    let with : List (List ℕ) → Disk = λ ds. disk_of (record { dirs = ds; names = h.names; files = h.files; opens = h.opens }) in
    let made : with dirs ≡ with_dir (disk_of k) (dir_of name) =
    ap with (grown ∙ ap (λ (t : List ℕ). h.dirs ++ t ∷ []) is) ∙ ap (λ (x : Held). with_dir (disk_of x) (dir_of name)) same in
    (with_dir (disk_of k) (dir_of name), inr (none, refl), subst (λ (d : Disk). PlacesNew d name file new) made places)

-- a call that wrote nothing changed nothing
pub changed-nothing : (d : Disk) (o : Option OpenFile) → changed d o (λ f. f) ≡ d
changed-nothing d None = refl
changed-nothing d (Some o) = ap (λ (fs : ℕ → File). record { dirs = d.dirs; names = d.names; files = fs; opens = d.opens }) (put-there d.files o.number (d.files o.number) refl)
