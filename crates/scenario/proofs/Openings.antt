-- The disk that a script begins with is one that a history may begin with: no entry is a message's file.
use Rattle.std.proofs.Common.{◌≡◌, ◌≢◌, ◌⊎◌, inl, inr, ⊎_elim, ℕ, List, [], ◌∷◌, ◌++◌, Contains, Option, Some, None, refl, sym, ap, ◌∙◌, subst, arith}
use Rattle.std.specs.Prelude.{codes}
use Rattle.std.proofs.lemmas.List.Elements.{All-head, All-tail, Contains-append_left, Contains-append_right}
use Rattle.call_fs.specs.Apply.{empty_file}
use Rattle.call_fs.specs.Disk.{Disk, File, Among, IsSynced}
use Rattle.call_fs.specs.Maps.{put, put_at}
use Rattle.call_fs.proofs.Maps.{put_cases, put_at_cases}
use Rattle.call_fs.specs.Placing.{with_dir, with_file, HasMade}
use Rattle.mem_fs.specs.MemDisk.{Places}
use Rattle.mem_files.specs.MemFile.{settled_file}
use Rattle.mem_files.proofs.Survivors.{Lasts, lasts-settled}
use Rattle.mail_world.specs.History.{Opening}
use Rattle.queue_paths.specs.Dirs.{queue_dirs}
use Rattle.queue_paths.specs.Names.{Part, path}
use Rattle.queue_paths.specs.Names.Part.{Mess, Intd, Todo, Info, Local, Remote, Bounce, SplitIntd, SplitTodo}
use Rattle.queue_paths.specs.Names.Name.{Of}
use Rattle.script_words.specs.declared.entry.Entry.{Entry}
use Rattle.script_words.specs.declared.entry.Entry.TheVariants.{File as FileOf, Dir}
use Rattle.script_words.specs.Entries.{IsEntryPath, dirs_above, entry_dirs, path_of}
use Rattle.script_lines.specs.Contents.{HaveEntryPaths}
use Rattle.script_disks.specs.FirstDisk.{IsBareDisk, AreMade, Enters, EntersAll, IsFirstDisk}
use Rattle.crash_fs.specs.Answers.{IsFinite}
use Rattle.crash_fs.proofs.FiniteDisks.{finite_empty, finite_placed}
use Rattle.crash_fs.proofs.InOrder.{contains_among}
use Rattle.scenario.proofs.LastingFiles.{AreLasting, lasting_empty, lasting_put}

-- Paths

-- the first byte of a path
abbrev pub first : List ℕ → ℕ
first [] = 0
first (b ∷ text) = b

first_of_dir : (dir rest : List ℕ) → Among dir entry_dirs
    → (first (dir ++ rest) ≡ 99) ⊎ ((first (dir ++ rest) ≡ 117) ⊎ ((first (dir ++ rest) ≡ 104) ⊎ (first (dir ++ rest) ≡ 112)))
first_of_dir dir rest (inl e) = inl (ap (λ d. first (d ++ rest)) e)
first_of_dir dir rest (inr (inl e)) = inr (inl (ap (λ d. first (d ++ rest)) e))
first_of_dir dir rest (inr (inr (inl e))) = inr (inr (inl (ap (λ d. first (d ++ rest)) e)))
first_of_dir dir rest (inr (inr (inr (inl e)))) = inr (inr (inr (ap (λ d. first (d ++ rest)) e)))
first_of_dir dir rest (inr (inr (inr (inr none)))) = absurd none

-- that of an entry is one of four
entry_first : (text : List ℕ) → IsEntryPath text → (first text ≡ 99) ⊎ ((first text ≡ 117) ⊎ ((first text ≡ 104) ⊎ (first text ≡ 112)))
entry_first text is =
    subst (λ t. (first t ≡ 99) ⊎ ((first t ≡ 117) ⊎ ((first t ≡ 104) ⊎ (first t ≡ 112)))) (sym is.path_is)
    (first_of_dir is.dir (47 ∷ is.below) (contains_among entry_dirs is.dir is.is_dir))

pub none_of : (b : ℕ) (text : List ℕ) → first text ≡ b → b ≢ 99 → b ≢ 117 → b ≢ 104 → b ≢ 112 → ¬ (IsEntryPath text)
none_of b text is c u h p entry =
    ⊎_elim (λ e. c (sym is ∙ e)) (λ more. ⊎_elim (λ e. u (sym is ∙ e)) (λ more. ⊎_elim (λ e. h (sym is ∙ e)) (λ e. p (sym is ∙ e)) more) more) (entry_first text entry)

-- and that of a message's file none of them
no_part : (part : Part) (n : ℕ) → ¬ (IsEntryPath (path (Of part n)))
unfolding path
no_part Mess n = none_of 109 (path (Of Mess n)) refl (λ e. omega arith) (λ e. omega arith) (λ e. omega arith) (λ e. omega arith)
no_part Intd n = none_of 105 (path (Of Intd n)) refl (λ e. omega arith) (λ e. omega arith) (λ e. omega arith) (λ e. omega arith)
no_part Todo n = none_of 116 (path (Of Todo n)) refl (λ e. omega arith) (λ e. omega arith) (λ e. omega arith) (λ e. omega arith)
no_part Info n = none_of 105 (path (Of Info n)) refl (λ e. omega arith) (λ e. omega arith) (λ e. omega arith) (λ e. omega arith)
no_part Local n = none_of 108 (path (Of Local n)) refl (λ e. omega arith) (λ e. omega arith) (λ e. omega arith) (λ e. omega arith)
no_part Remote n = none_of 114 (path (Of Remote n)) refl (λ e. omega arith) (λ e. omega arith) (λ e. omega arith) (λ e. omega arith)
no_part SplitIntd n = none_of 105 (path (Of SplitIntd n)) refl (λ e. omega arith) (λ e. omega arith) (λ e. omega arith) (λ e. omega arith)
no_part SplitTodo n = none_of 116 (path (Of SplitTodo n)) refl (λ e. omega arith) (λ e. omega arith) (λ e. omega arith) (λ e. omega arith)
no_part Bounce n = none_of 98 (path (Of Bounce n)) refl (λ e. omega arith) (λ e. omega arith) (λ e. omega arith) (λ e. omega arith)

-- What entries keep

-- each name has a file of its own
abbrev pub HaveOwn : (List ℕ → Option ℕ) → Type 0
HaveOwn names = (a b : List ℕ) (n : ℕ) → names a ≡ Some n → names b ≡ Some n → a ≡ b

own_put : (names : List ℕ → Option ℕ) (name : List ℕ) (m : ℕ) → ((other : List ℕ) → names other ≢ Some m) → HaveOwn names → HaveOwn (put_at names name (Some m))
own_put names name m free own a b n p q = ⊎_elim
    (λ h. ⊎_elim
    (λ k. h.0 ∙ sym k.0)
    (λ k. absurd (free b (sym k.1 ∙ q ∙ sym p ∙ h.1)))
    (put_at_cases names name (Some m) b))
    (λ h. ⊎_elim
    (λ k. absurd (free a (sym h.1 ∙ p ∙ sym q ∙ k.1)))
    (λ k. own a b n (sym h.1 ∙ p) (sym k.1 ∙ q))
    (put_at_cases names name (Some m) b))
    (put_at_cases names name (Some m) a)

-- all that a play needs of the disk that it begins with
pub record IsReady (d : Disk) : Type 0 where
  pub dirs : (dir : List ℕ) → Contains queue_dirs dir → Contains d.dirs dir
  pub entries : (name : List ℕ) (n : ℕ) → d.names name ≡ Some n → IsEntryPath name
  pub own : HaveOwn d.names
  pub shut : (fd : ℕ) → d.opens fd ≡ None
  pub synced : (n : ℕ) → IsSynced (d.files n) (d.files n).bytes
  pub lasting : AreLasting d
  pub finite : IsFinite d

synced_file : (bytes : List ℕ) → IsSynced (settled_file bytes) bytes
synced_file bytes = record { holds = refl; all = refl; none_given = refl; no_shorter = refl; no_longer = refl }

abbrev IsWhole : File → Type 0
IsWhole f = IsSynced f f.bytes

synced_put : (files : ℕ → File) (m : ℕ) (bytes : List ℕ) → ((n : ℕ) → IsWhole (files n)) → (n : ℕ) → IsWhole (put files m (settled_file bytes) n)
synced_put files m bytes all n = ⊎_elim
    (λ h. subst IsWhole (sym h.1) (synced_file bytes))
    (λ h. subst IsWhole (sym h.1) (all n))
    (put_cases files m (settled_file bytes) n)

ready_bare : (d : Disk) → IsBareDisk d → IsReady d
ready_bare d is = record {
  dirs = λ dir there. subst (λ (l : List (List ℕ)). Contains l dir) (sym is.dirs) (Contains-append_right (codes "control" ∷ codes "users" ∷ codes "home" ∷ []) queue_dirs dir there);
  entries = λ name n named. let none = sym (is.empty name) ∙ named in absurd (cc);
  own = λ a b n named other. let none = sym (is.empty a) ∙ named in absurd (cc);
  shut = is.shut;
  synced = λ n. subst IsWhole (sym (is.fresh n)) (synced_file []);
  lasting = λ n. subst Lasts (sym (is.fresh n)) (lasting_empty 0);
  finite = finite_empty d is.empty is.shut;
}

ready_dir : (d : Disk) (dir : List ℕ) → IsReady d → IsReady (with_dir d dir)
ready_dir d dir is = record {
  dirs = λ other there. Contains-append_left d.dirs (dir ∷ []) other (is.dirs other there);
  entries = is.entries;
  own = is.own;
  shut = is.shut;
  synced = is.synced;
  lasting = is.lasting;
  finite =
      let f = is.finite in
      record { texts = f.texts; named = f.named; descriptors = f.descriptors; within = f.within };
}

ready_made : (old : Disk) (dir : List ℕ) (new : Disk) → HasMade old dir new → IsReady old → IsReady new
ready_made old dir new made is =
    ⊎_elim (λ h. subst IsReady (sym h.1) is) (λ h. subst IsReady (sym h.1) (ready_dir old dir is)) made

ready_all_made : (old : Disk) (dirs : List (List ℕ)) (new : Disk) → AreMade old dirs new → IsReady old → IsReady new
ready_all_made old [] new made is = subst IsReady (sym made) is
ready_all_made old (dir ∷ dirs) new made is = ready_all_made made.0 dirs new made.2 (ready_made old dir made.0 made.1 is)

ready_file : (d : Disk) (m : ℕ) (bytes : List ℕ) → IsReady d → IsReady (with_file d m (settled_file bytes))
ready_file d m bytes is = record {
  dirs = is.dirs;
  entries = is.entries;
  own = is.own;
  shut = is.shut;
  synced = synced_put d.files m bytes is.synced;
  lasting = lasting_put d.files m (settled_file bytes) is.lasting (lasts-settled bytes (empty_file 0));
  finite =
      let f = is.finite in
      record { texts = f.texts; named = f.named; descriptors = f.descriptors; within = f.within };
}

ready_new : (d : Disk) (name bytes : List ℕ) (m : ℕ) → IsEntryPath name → ((other : List ℕ) → d.names other ≢ Some m) → IsReady d
    → IsReady (record { dirs = d.dirs; names = put_at d.names name (Some m); files = put d.files m (settled_file bytes); opens = d.opens })
ready_new d name bytes m entry free is = record {
  dirs = is.dirs;
  entries = λ other n named. ⊎_elim
      (λ h. subst IsEntryPath (sym h.0) entry)
      (λ h. is.entries other n (sym h.1 ∙ named))
      (put_at_cases d.names name (Some m) other);
  own = own_put d.names name m free is.own;
  shut = is.shut;
  synced = synced_put d.files m bytes is.synced;
  lasting = lasting_put d.files m (settled_file bytes) is.lasting (lasts-settled bytes (empty_file 0));
  finite = finite_placed d (put d.files m (settled_file bytes)) name m is.finite;
}

ready_placed : (old : Disk) (name bytes : List ℕ) (new : Disk) (number : Option ℕ) → old.names name ≡ number → IsEntryPath name → Places old name bytes new → IsReady old
    → IsReady new
ready_placed old name bytes new None missing entry places is =
    let made = places.missing missing in subst IsReady (sym made.is) (ready_new old name bytes made.number entry made.greatest.free.1.unnamed is)
ready_placed old name bytes new (Some m) there entry places is = subst IsReady (sym (places.there m there)) (ready_file old m bytes is)

ready_entered : (old : Disk) (entry : Entry) (new : Disk) → IsEntryPath (path_of entry) → Enters old entry new → IsReady old → IsReady new
ready_entered old (FileOf path bytes) new entry enters is =
    ready_placed enters.0 path bytes new (enters.0.names path) refl entry enters.2 (ready_all_made old (dirs_above path) enters.0 enters.1 is)
ready_entered old (Dir path) new entry enters is = ready_all_made old (dirs_above path ++ path ∷ []) new enters is

ready_all : (old : Disk) (entries : List Entry) (new : Disk) → HaveEntryPaths entries → EntersAll old entries new → IsReady old → IsReady new
ready_all old [] new paths enters is = subst IsReady (sym enters) is
ready_all old (entry ∷ later) new paths enters is =
    ready_all enters.0 later new (All-tail (λ e. IsEntryPath (path_of e)) entry later paths) enters.2
    (ready_entered old entry enters.0 (All-head (λ e. IsEntryPath (path_of e)) entry later paths) enters.1 is)

pub is_ready : (opening : List Entry) (d : Disk) → HaveEntryPaths opening → IsFirstDisk opening d → IsReady d
is_ready opening d paths first = ready_all first.bare opening d paths first.entered (ready_bare first.bare first.is_bare)

no_name : (d : Disk) (part : Part) (n : ℕ) (number : Option ℕ) → IsReady d → d.names (path (Of part n)) ≡ number → number ≡ None
no_name d part n None is named = refl
no_name d part n (Some m) is named = absurd (no_part part n (is.entries (path (Of part n)) m named))

pub first_opens : (opening : List Entry) (d : Disk) → HaveEntryPaths opening → IsFirstDisk opening d → Opening d
first_opens opening d paths first =
    let is = is_ready opening d paths first in
    record {
      dirs = is.dirs;
      empty = λ part n. no_name d part n (d.names (path (Of part n))) is refl;
      shut = is.shut;
      settled = λ name n named. is.synced n;
    }
