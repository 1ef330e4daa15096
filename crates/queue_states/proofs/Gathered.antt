-- What was found of a queue.
use Rattle.std.proofs.Common.{◌≡◌, ◌≢◌, ◌⊎◌, ℕ, zero, suc, ◌+◌, ◌<◌, ◌^◌, length, take, get_or, List, [], ◌∷◌, ◌++◌, Option, Some, None, Bool, true, false, refl, sym, ◌∙◌, ap, subst, inl, inr, ⊎_elim, arith, nat_cmp}
use Rattle.std.specs.Prelude.{◌↔◌, IsTrue, IsSome, All, Contains, unwrap_or}
use Rattle.std.specs.BTreeMap.{BTreeMap, get}
use Rattle.std.proofs.lemmas.Bool.{cases_eq, false≢true}
use Rattle.std.proofs.lemmas.List.{take_more}
use Rattle.std.proofs.lemmas.List.Elements.{All-nil, All-push, All-weaker, All-contains, Contains-append_cases}
use Rattle.mail_bytes.specs.Decimal.{digits}
use Rattle.mail_bytes.specs.Told.{OnTold}
use Rattle.call_fs.specs.Disk.{Disk}
use Rattle.call_fs.specs.Apply.{StandsAfter, IsNextName, IsLastName}
use Rattle.queue_paths.specs.Names.{Name, Part, path, is_number, used_name}
use Rattle.queue_paths.specs.Names.Name.{Pid, Of}
use Rattle.queue_paths.specs.Names.Part.{Mess, Intd, Todo, Info, Local, Remote, Bounce, SplitIntd, SplitTodo}
use Rattle.queue_paths.proofs.Paths.{used_name-path, is_number_tells}
use Rattle.queue_states.specs.declared.files.Files.{Files}
use Rattle.queue_states.specs.States.{is_there}
use Rattle.queue_states.specs.Listing.{AreNamesIn}
use Rattle.queue_states.specs.Found.{has, has_in, with_part, with_name, number_of, no_files, is_found, EachHasFile, Puts, Notes, Gathers}
use Rattle.queue_states.proofs.Listed.{Found, found_none, found_more, found_all}
use Rattle.queue_states.proofs.MessageFiles.{is_part, is_file}
use Rattle.queue_states.proofs.Searches.{told_both, only_one}

-- one file more

same_or_kept : (a b : Part) (files : Files) → (a ≡ b) ⊎ (has (with_part a files) b ≡ has files b)
same_or_kept Mess Mess files = inl refl
same_or_kept Intd Intd files = inl refl
same_or_kept Todo Todo files = inl refl
same_or_kept Info Info files = inl refl
same_or_kept Local Local files = inl refl
same_or_kept Remote Remote files = inl refl
same_or_kept Bounce Bounce files = inl refl
same_or_kept SplitIntd SplitIntd files = inl refl
same_or_kept SplitTodo SplitTodo files = inl refl
same_or_kept a b files = inr refl

has_own : (part : Part) (files : Files) → has (with_part part files) part ≡ true
has_own Mess files = refl
has_own part files = refl

has_none : (part : Part) → has no_files part ≡ false
has_none Mess = refl
has_none part = refl

-- what was found of a number, as its files
has_files : (o : Option Files) (part : Part) → has_in o part ≡ has (unwrap_or o no_files) part
has_files None part = sym (has_none part)
has_files (Some files) part = refl

-- nothing was found yet
pub none_found : (found : BTreeMap ℕ Files) → found.entries ≡ [] → (part : Part) (n : ℕ) → is_found found part n ≡ true → ⊥
none_found found empty part n h = false≢true (sym (none part n) ∙ h)
  where
    none : (part : Part) (n : ℕ) → is_found found part n ≡ false
    none part n = let e : get nat_cmp found n ≡ None = rw empty refl in ap (λ o. has_in o part) e

-- a name with this number
numbered : (name : Name) (n : ℕ) → number_of name ≡ Some n → (part : Part) × (name ≡ Of part n)
numbered (Pid pid start seq) n e = absurd (cc)
numbered (Of part m) n e = let same : m ≡ n = cc in (part, ap (Of part) same)

-- a name without one
pub noted_none : (name : Name) (found : BTreeMap ℕ Files) → number_of name ≡ None → Notes (Some name) found found
noted_none (Pid pid start seq) found none = record {
  found = λ part n. (λ h. inr h, λ w. ⊎_elim (λ e. absurd (cc)) (λ h. h) w);
  some = λ each. each;
}
noted_none (Of part n) found none = absurd (cc)

-- the file of a name was noted
module _ (part : Part) (n : ℕ) (files : Files) (old new : BTreeMap ℕ Files) (are : files ≡ unwrap_or (get nat_cmp old n) no_files) (puts : Puts n (with_part part files) old new) where
  found_here : (q : Part) → is_found new q n ≡ has (with_part part files) q
  found_here q = ap (λ o. has_in o q) puts.here

  was_here : (q : Part) → is_found old q n ≡ has files q
  was_here q = has_files (get nat_cmp old n) q ∙ ap (λ f. has f q) (sym are)

  found_else : (q : Part) (m : ℕ) → m ≢ n → is_found new q m ≡ is_found old q m
  found_else q m far = ap (λ o. has_in o q) (puts.others m far)

  found_then : (q : Part) (m : ℕ) → is_found new q m ≡ true → (Some (Of part n) ≡ Some (Of q m)) ⊎ (is_found old q m ≡ true)
  found_then q m h = ⊎_elim
      (λ w.
      let same : m ≡ n = w in
      let here : is_found new q n ≡ true = subst (λ k. is_found new q k ≡ true) same h in
      ⊎_elim
      (λ e. inl (ap (λ p. Some (Of p n)) e ∙ ap (λ k. Some (Of q k)) (sym same)))
      (λ kept. inr (subst (λ k. is_found old q k ≡ true) (sym same) (was_here q ∙ sym kept ∙ sym (found_here q) ∙ here)))
      (same_or_kept part q files))
      (λ far. inr (sym (found_else q m far) ∙ h))
      (cases_eq m n)

  found_own : (q : Part) (m : ℕ) → Some (Of part n) ≡ Some (Of q m) → is_found new q m ≡ true
  found_own q m e =
      let same_part : part ≡ q = cc in
      let same : n ≡ m = cc in
      subst (λ k. is_found new q k ≡ true) same (found_here q ∙ subst (λ p. has (with_part part files) p ≡ true) same_part (has_own part files))

  found_still : (q : Part) (m : ℕ) → is_found old q m ≡ true → is_found new q m ≡ true
  found_still q m h = ⊎_elim
      (λ w.
      let same : m ≡ n = w in
      ⊎_elim
      (λ e. found_own q m (ap (λ p. Some (Of p n)) e ∙ ap (λ k. Some (Of q k)) (sym same)))
      (λ kept.
      subst (λ k. is_found new q k ≡ true) (sym same)
      (found_here q ∙ kept ∙ sym (was_here q) ∙ subst (λ k. is_found old q k ≡ true) same h))
      (same_or_kept part q files))
      (λ far. found_else q m far ∙ h)
      (cases_eq m n)

  some_still : EachHasFile old → EachHasFile new
  some_still each m f e = ⊎_elim
      (λ w.
      let here : get nat_cmp new n ≡ Some f = subst (λ k. get nat_cmp new k ≡ Some f) w e in
      let is : with_part part files ≡ f = let at = puts.here in cc in
      (part, ap (λ g. has g part) (sym is) ∙ has_own part files))
      (λ far. each m f (sym (puts.others m far) ∙ e))
      (cases_eq m n)

  noted_part : Notes (Some (Of part n)) old new
  noted_part = record {
    found = λ q m. (found_then q m, λ w. ⊎_elim (found_own q m) (found_still q m) w);
    some = some_still;
  }

pub noted_one : (name : Name) (n : ℕ) (files more : Files) (old new : BTreeMap ℕ Files) → number_of name ≡ Some n → files ≡ unwrap_or (get nat_cmp old n) no_files → more ≡ with_name name files → Puts n more old new
    → Notes (Some name) old new
noted_one name n files more old new e are is puts =
    let w = numbered name n e in
    let more_is : more ≡ with_part w.0 files = is ∙ ap (λ x. with_name x files) w.1 in
    subst (λ x. Notes (Some x) old new) (sym w.1) (noted_part w.0 n files old new are (subst (λ f. Puts n f old new) more_is puts))

-- a text that is no name
pub noted_nothing : (found : BTreeMap ℕ Files) → Notes None found found
noted_nothing found = record {
  found = λ part n. (λ h. inr h, λ w. ⊎_elim (λ e. absurd (cc)) (λ h. h) w);
  some = λ each. each;
}

-- The names of a directory

-- the file of this name of a directory was noted, if it is one
abbrev pub IsNoted : List ℕ → BTreeMap ℕ Files → List ℕ → Type 0
IsNoted dir found name = (part : Part) (n : ℕ) → used_name (dir ++ 47 ∷ name) ≡ Some (Of part n) → is_found found part n ≡ true

-- the names up to this one were noted
pub record Noting (d : Disk) (dir last : List ℕ) (old new : BTreeMap ℕ Files) : Type 0 where
  pub names : List (List ℕ)
  pub found : Found d dir names last
  pub noted : All (IsNoted dir new) names
  pub kept : (part : Part) (n : ℕ) → is_found old part n ≡ true → is_found new part n ≡ true
  pub only : (part : Part) (n : ℕ) → is_found new part n ≡ true → (is_found old part n ≡ true) ⊎ (IsTrue (is_number n) × IsTrue (is_there d part n))
  pub some : EachHasFile old → EachHasFile new

pub noting_none : (d : Disk) (dir : List ℕ) (found : BTreeMap ℕ Files) → Noting d dir [] found found
noting_none d dir found = record {
  names = [];
  found = found_none d dir;
  noted = All-nil (IsNoted dir found);
  kept = λ part n h. h;
  only = λ part n h. inl h;
  some = λ each. each;
}

pub noting_more : (d : Disk) (dir last name : List ℕ) (old mid new : BTreeMap ℕ Files) → Noting d dir last old mid → IsNextName d dir last name → Notes (used_name (dir ++ 47 ∷ name)) mid new
    → Noting d dir name old new
noting_more d dir last name old mid new noting next notes =
    let still : (part : Part) (n : ℕ) → is_found mid part n ≡ true → is_found new part n ≡ true = λ part n h. (notes.found part n).1 (inr h) in
    record {
      names = noting.names ++ name ∷ [];
      found = found_more d dir noting.names last name noting.found next;
      noted = All-push (IsNoted dir new) noting.names name
          (All-weaker (IsNoted dir mid) (IsNoted dir new) (λ other is part n e. still part n (is part n e)) noting.names noting.noted)
          (λ part n e. (notes.found part n).1 (inl e));
      kept = λ part n h. still part n (noting.kept part n h);
      only = λ part n h. ⊎_elim
          (λ e. inr (is_file d (dir ++ 47 ∷ name) part n next.stands.0 e))
          (λ was. noting.only part n was)
          ((notes.found part n).0 h);
      some = λ each. notes.some (noting.some each);
    }

-- all of a directory's names were
pub noting_all : (d : Disk) (dir last : List ℕ) (old new : BTreeMap ℕ Files) → Noting d dir last old new → IsLastName d dir last → Gathers d (dir ∷ []) old new
noting_all d dir last old new noting none =
    let are = found_all d dir noting.names last noting.found none in
    record {
      kept = noting.kept;
      only = noting.only;
      all = λ other part n one number is there.
          let same : dir ≡ other = only_one dir other one in
          let path_is : path (Of part n) ≡ dir ++ 47 ∷ digits n = is ∙ ap (λ t. t ++ 47 ∷ digits n) (sym same) in
          let fits = is_number_tells n number in
          let stands : StandsAfter d dir [] (digits n) = (subst (λ t. IsSome (d.names t)) path_is there, is_part n fits.1) in
          All-contains (IsNoted dir new) noting.names (digits n) noting.noted ((are.each (digits n)).1 stands) part n
          (used_name-path (dir ++ 47 ∷ digits n) (Of part n) number (sym path_is));
      some = noting.some;
    }

-- Directories, one after the other

pub gathers_none : (d : Disk) (found : BTreeMap ℕ Files) → Gathers d [] found found
gathers_none d found = record {
  kept = λ part n h. h;
  only = λ part n h. inl h;
  all = λ dir part n here. let low = here.1 in absurd (omega arith);
  some = λ each. each;
}

pub gathers_then : (d : Disk) (dirs more : List (List ℕ)) (old mid new : BTreeMap ℕ Files) → Gathers d dirs old mid → Gathers d more mid new → Gathers d (dirs ++ more) old new
gathers_then d dirs more old mid new first second = record {
  kept = λ part n h. second.kept part n (first.kept part n h);
  only = λ part n h. ⊎_elim (λ was. first.only part n was) (λ file. inr file) (second.only part n h);
  all = λ dir part n one number is there. ⊎_elim
      (λ here. second.kept part n (first.all dir part n here number is there))
      (λ here. second.all dir part n here number is there)
      (Contains-append_cases dirs more dir one);
  some = λ each. second.some (first.some each);
}

-- one directory more of a list
pub gathers_more : (old_disk now : Option Disk) (dirs : List (List ℕ)) (i : ℕ) (dir at : List ℕ) (old mid new : BTreeMap ℕ Files) → now ≡ old_disk → i < length dirs → dir ≡ get_or dirs i dir → at ≡ dir
    → OnTold old_disk (λ d. Gathers d (take i dirs) old mid) → OnTold now (λ d. Gathers d (at ∷ []) mid new) → OnTold old_disk (λ d. Gathers d (take (i + 1) dirs) old new)
gathers_more old_disk now dirs i dir at old mid new same within is read gathered told =
    let longer : take (i + 1) dirs ≡ take i dirs ++ dir ∷ [] = take_more dirs i dir within ∙ ap (λ x. take i dirs ++ x ∷ []) (sym is) in
    let one : OnTold old_disk (λ d. Gathers d (dir ∷ []) mid new) =
    subst (λ x. OnTold old_disk (λ d. Gathers d (x ∷ []) mid new)) read (subst (λ (o : Option Disk). OnTold o (λ d. Gathers d (at ∷ []) mid new)) same told) in
    subst (λ l. OnTold old_disk (λ d. Gathers d l old new)) (sym longer) (told_both old_disk (λ d a b. gathers_then d (take i dirs) (dir ∷ []) old mid new a b) gathered one)
