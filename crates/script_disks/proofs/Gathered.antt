-- The message numbers of the files in directories, gathered name by name.
use Rattle.std.proofs.Common.{Bor, map, take, get_or, take_all, append_assoc, ◌≡◌, ◌⊎◌, ℕ, ◌+◌, ◌<◌, ◌≤◌, List, [], ◌∷◌, ◌++◌, length, Option, Some, None, IsSome, refl, sym, ◌∙◌, ap, subst, inl, inr, ⊎_elim, arith}
use Rattle.std.specs.Prelude.{◌↔◌, IsTrue, All, Contains, option_map, codes}
use Rattle.std.proofs.lemmas.Bool.{cases_lt}
use Rattle.std.proofs.lemmas.List.Elements.{All-nil, All-push, All-weaker, All-contains, Contains-push, Contains-push_cases, Contains-append_left, Contains-get_or}
use Rattle.std.proofs.lemmas.List.{length-map, take_more, map_push, get_or-map}
use Rattle.mail_bytes.specs.Decimal.{digits}
use Rattle.call_fs.specs.Disk.{Disk}
use Rattle.call_fs.specs.Apply.{StandsAfter}
use Rattle.queue_paths.specs.declared.names.Name.{Name as Owned}
use Rattle.queue_paths.specs.declared.names.Name.TheVariants as owned
use Rattle.queue_paths.specs.Names.{Part, name_of, path, split, split_text, is_number, used_name}
use Rattle.queue_paths.specs.Names.Part.{Mess, Intd, Todo, Info, Local, Remote, Bounce, SplitIntd, SplitTodo}
use Rattle.queue_paths.specs.Names.Name.{Of}
use Rattle.queue_paths.proofs.Paths.{used_name-path, is_number_tells}
use Rattle.queue_states.specs.States.{is_there}
use Rattle.queue_states.proofs.MessageFiles.{is_part, is_file}
use Rattle.queue_states.specs.Listing.{AreNamesIn}

-- a name has one number
same_number : (part other : Part) (m n : ℕ) → Some (Of part m) ≡ Some (Of other n) → m ≡ n
same_number part other m n e = cc

-- one of the names with this number
abbrev pub IsNumbered : Owned → ℕ → Type 0
IsNumbered name m =
    (name ≡ owned.Mess m) ⊎ ((name ≡ owned.Intd m) ⊎ ((name ≡ owned.Todo m) ⊎ ((name ≡ owned.Info m) ⊎ ((name ≡ owned.Local m) ⊎ ((name ≡ owned.Remote m)
    ⊎ ((name ≡ owned.Bounce m) ⊎ ((name ≡ owned.SplitIntd m) ⊎ (name ≡ owned.SplitTodo m))))))))

part_of : (name : Owned) (m : ℕ) → IsNumbered name m → (part : Part) × (name_of name ≡ Of part m)
part_of name m is =
    ⊎_elim (λ e. (Mess, ap name_of e))
    (⊎_elim (λ e. (Intd, ap name_of e))
    (⊎_elim (λ e. (Todo, ap name_of e))
    (⊎_elim (λ e. (Info, ap name_of e))
    (⊎_elim (λ e. (Local, ap name_of e))
    (⊎_elim (λ e. (Remote, ap name_of e))
    (⊎_elim (λ e. (Bounce, ap name_of e))
    (⊎_elim (λ e. (SplitIntd, ap name_of e)) (λ e. (SplitTodo, ap name_of e))))))))) is

-- a name with a number has that
pub number_is : (o : Option Owned) (name : Owned) (m : ℕ) → o ≡ Some name → IsNumbered name m → (n : ℕ) → (Some m ≡ Some n) ↔ ((part : Part) × (option_map name_of o ≡ Some (Of part n)))
number_is o name m there is n =
    let w = part_of name m is in
    let named : option_map name_of o ≡ Some (Of w.0 m) = ap (option_map name_of) there ∙ ap Some w.1 in (
      λ e. let same : m ≡ n = cc in (w.0, named ∙ ap (λ k. Some (Of w.0 k)) same),
      λ v. ap Some (same_number w.0 v.0 m n (sym named ∙ v.1)),
    )

-- a number has a file
abbrev pub HasFile : Disk → ℕ → Type 0
HasFile d n = IsTrue (is_number n) × (part : Part) × IsTrue (is_there d part n)

-- the number of the name with this text, if it has one
abbrev pub IsNumberOf : Option ℕ → List ℕ → Type 0
IsNumberOf o text = (n : ℕ) → (o ≡ Some n) ↔ ((part : Part) × (used_name text ≡ Some (Of part n)))

-- no number was lost
abbrev pub Keeps : List ℕ → List ℕ → Type 0
Keeps old new = (n : ℕ) → Contains old n → Contains new n

-- none was added but those that have a file
abbrev pub AddsOnlyFiles : Disk → List ℕ → List ℕ → Type 0
AddsOnlyFiles d old new = (n : ℕ) → Contains new n → Contains old n ⊎ HasFile d n

-- Each number with a file of this directory is among the numbers; `tail` is how a number's file is called there.
abbrev pub FoundIn : Disk → (ℕ → List ℕ) → List ℕ → List ℕ → Type 0
FoundIn d tail numbers dir = (part : Part) (n : ℕ) → IsTrue (is_number n) → path (Of part n) ≡ dir ++ 47 ∷ tail n → IsTrue (is_there d part n) → Contains numbers n

-- the number of this name of a directory, if it has one, is among the numbers
abbrev pub IsListed : List ℕ → List ℕ → List ℕ → Type 0
IsListed dir numbers name = (part : Part) (n : ℕ) → used_name (dir ++ 47 ∷ name) ≡ Some (Of part n) → Contains numbers n

-- the numbers of these names of a directory were added
pub record Gathering (d : Disk) (dir : List ℕ) (seen : List (List ℕ)) (old new : List ℕ) : Type 0 where
  pub kept : Keeps old new
  pub only : AddsOnlyFiles d old new
  pub each : All (IsListed dir new) seen

pub gathering_none : (d : Disk) (dir old : List ℕ) → Gathering d dir [] old old
gathering_none d dir old = record {
  kept = λ n here. here;
  only = λ n here. inl here;
  each = All-nil (IsListed dir old);
}

-- a name without a number adds none
gathering_passed : (d : Disk) (dir : List ℕ) (seen : List (List ℕ)) (name old new : List ℕ) → Gathering d dir seen old new
    → IsNumberOf None (dir ++ 47 ∷ name) → Gathering d dir (seen ++ name ∷ []) old new
gathering_passed d dir seen name old new g is = record {
  kept = g.kept;
  only = g.only;
  each = All-push (IsListed dir new) seen name g.each (λ part n e. let none = (is n).1 (part, e) in absurd (cc));
}

-- a name in use that stands on the disk shows that its number has a file
has_file : (d : Disk) (text : List ℕ) (part : Part) (n : ℕ) → IsSome (d.names text) → used_name text ≡ Some (Of part n) → HasFile d n
has_file d text part n there e = let file = is_file d text part n there e in (file.0, part, file.1)

-- a name with a number adds that
gathering_more : (d : Disk) (dir : List ℕ) (seen : List (List ℕ)) (name old new : List ℕ) (m : ℕ) → Gathering d dir seen old new
    → IsSome (d.names (dir ++ 47 ∷ name))
    → IsNumberOf (Some m) (dir ++ 47 ∷ name) → Gathering d dir (seen ++ name ∷ []) old (new ++ m ∷ [])
gathering_more d dir seen name old new m g there is =
    let w = (is m).0 refl in
    let file : HasFile d m = has_file d (dir ++ 47 ∷ name) w.0 m there w.1 in
    record {
      kept = λ n here. Contains-append_left new (m ∷ []) n (g.kept n here);
      only = λ n here. ⊎_elim (g.only n) (λ e. inr (subst (HasFile d) e file)) (Contains-push_cases new m n here);
      each = All-push (IsListed dir (new ++ m ∷ [])) seen name
          (All-weaker (IsListed dir new) (IsListed dir (new ++ m ∷ [])) (λ other listed part n e. Contains-append_left new (m ∷ []) n (listed part n e)) seen g.each)
          (λ part n e. let same : m ≡ n = let some = (is n).1 (part, e) in cc in subst (Contains (new ++ m ∷ [])) same (Contains-push new m));
    }

-- every number with a file in this directory was added
pub gathered_all : (d : Disk) (dir : List ℕ) (names : List (List ℕ)) (old new : List ℕ) → Gathering d dir names old new → AreNamesIn d dir names
    → FoundIn d digits new dir
gathered_all d dir names old new g are part n number is there =
    let fits = is_number_tells n number in
    let stands : StandsAfter d dir [] (digits n) = (subst (λ t. IsSome (d.names t)) is there, is_part n fits.1) in
    let listed = All-contains (IsListed dir new) names (digits n) g.each ((are.each (digits n)).1 stands) in
    listed part n (used_name-path (dir ++ 47 ∷ digits n) (Of part n) number (sym is))

-- what borrowed texts are
abbrev pub texts : List (Bor (List ℕ)) → List (List ℕ)
texts names = map (λ name. name.now) names

one_more : (names : List (Bor (List ℕ))) (i : ℕ) (b : Bor (List ℕ)) → i < length names → texts (take (i + 1) names) ≡ texts (take i names) ++ (get_or names i b).now ∷ []
one_more names i b within = ap texts (take_more names i b within) ∙ map_push (λ name. name.now) (take i names) (get_or names i b)

-- the name at a place of a list was seen
pub passed_at : (d : Disk) (dir : List ℕ) (names : List (Bor (List ℕ))) (i : ℕ) (b : Bor (List ℕ)) (old new : List ℕ) (o : Option ℕ)
    → Gathering d dir (texts (take i names)) old new → i < length names
    → IsNumberOf o (dir ++ 47 ∷ (get_or names i b).now) → o ≡ None
    → Gathering d dir (texts (take (i + 1) names)) old new
passed_at d dir names i b old new o g within is none =
    subst (λ seen. Gathering d dir seen old new) (sym (one_more names i b within))
    (gathering_passed d dir (texts (take i names)) (get_or names i b).now old new g
    (subst (λ t. IsNumberOf t (dir ++ 47 ∷ (get_or names i b).now)) none is))

stands_at : (d : Disk) (dir : List ℕ) (names : List (Bor (List ℕ))) (i : ℕ) (b : Bor (List ℕ)) → AreNamesIn d dir (texts names) → i < length names
    → IsSome (d.names (dir ++ 47 ∷ (get_or names i b).now))
stands_at d dir names i b are within =
    let long : length (texts names) ≡ length names = length-map names (λ name. name.now) in
    let here : Contains (texts names) (get_or (texts names) i []) = Contains-get_or (texts names) i [] (omega arith) in
    let there : IsSome (d.names (dir ++ 47 ∷ get_or (texts names) i [])) = ((are.each (get_or (texts names) i [])).0 here).0 in
    subst (λ t. IsSome (d.names (dir ++ 47 ∷ t))) (get_or-map (λ name. name.now) names i b [] within) there

pub more_at : (d : Disk) (dir : List ℕ) (names : List (Bor (List ℕ))) (i : ℕ) (b : Bor (List ℕ)) (old new more : List ℕ) (o : Option ℕ) (m : ℕ)
    → AreNamesIn d dir (texts names) → Gathering d dir (texts (take i names)) old new → i < length names
    → IsNumberOf o (dir ++ 47 ∷ (get_or names i b).now) → o ≡ Some m → more ≡ new ++ m ∷ []
    → Gathering d dir (texts (take (i + 1) names)) old more
more_at d dir names i b old new more o m are g within is some grown =
    let is_some : IsNumberOf (Some m) (dir ++ 47 ∷ (get_or names i b).now) = subst (λ t. IsNumberOf t (dir ++ 47 ∷ (get_or names i b).now)) some is in
    let next = gathering_more d dir (texts (take i names)) (get_or names i b).now old new m g (stands_at d dir names i b are within) is_some in
    subst (λ seen. Gathering d dir seen old more) (sym (one_more names i b within))
    (subst (Gathering d dir (texts (take i names) ++ (get_or names i b).now ∷ []) old) (sym grown) next)

-- at the end every name was
pub seen_all : (names : List (Bor (List ℕ))) (i : ℕ) → length names ≤ i → texts (take i names) ≡ texts names
seen_all names i past = ap texts (take_all i names past)

-- the numbers of the first splits of a directory were added
pub record Splitting (d : Disk) (dir : List ℕ) (count : ℕ) (old new : List ℕ) : Type 0 where
  pub kept : Keeps old new
  pub only : AddsOnlyFiles d old new
  pub each : (part : Part) (n : ℕ) → IsTrue (is_number n) → split n < count → path (Of part n) ≡ dir ++ 47 ∷ split_text n → IsTrue (is_there d part n) → Contains new n

pub splitting_none : (d : Disk) (dir old : List ℕ) → Splitting d dir 0 old old
splitting_none d dir old = record {
  kept = λ n here. here;
  only = λ n here. inl here;
  each = λ part n number low. absurd (omega arith);
}

-- the path of a number's file, by the directory of its split
in_split : (dir at text : List ℕ) (count n : ℕ) → at ≡ dir ++ 47 ∷ digits count → split n ≡ count → text ≡ dir ++ 47 ∷ split_text n → text ≡ at ++ 47 ∷ digits n
in_split dir at text count n is same whole =
    whole ∙ ap (λ s. dir ++ 47 ∷ (digits s ++ 47 ∷ digits n)) same ∙ sym (ap (λ t. t ++ 47 ∷ digits n) is ∙ append_assoc dir (47 ∷ digits count) (47 ∷ digits n))

pub splitting_more : (d : Disk) (dir at : List ℕ) (count : ℕ) (old new more : List ℕ) → Splitting d dir count old new → at ≡ dir ++ 47 ∷ digits count
    → Keeps new more → AddsOnlyFiles d new more → FoundIn d digits more at
    → Splitting d dir (count + 1) old more
splitting_more d dir at count old new more s is kept only all = record {
  kept = λ n here. kept n (s.kept n here);
  only = λ n here. ⊎_elim (s.only n) inr (only n here);
  each = λ part n number low whole there. ⊎_elim
      (λ below. kept n (s.each part n number below whole there))
      (λ past. let same : split n ≡ count = omega arith in all part n number (in_split dir at (path (Of part n)) count n is same whole) there)
      (cases_lt (split n) count);
}

pub splitting_all : (d : Disk) (dir : List ℕ) (count : ℕ) (old new : List ℕ) → Splitting d dir count old new → 23 ≤ count → FoundIn d split_text new dir
splitting_all d dir count old new s past part n number whole there = s.each part n number (omega arith) whole there

-- The numbers of these directories were gathered: of those that hold files themselves, and of those that have splits.
pub record Gathered (d : Disk) (flats deeps : List (List ℕ)) (numbers : List ℕ) : Type 0 where
  pub only : (n : ℕ) → Contains numbers n → HasFile d n
  pub flat : All (FoundIn d digits numbers) flats
  pub deep : All (FoundIn d split_text numbers) deeps

not-in-none : (n : ℕ) → ¬ (Contains [] n)
not-in-none n here = let low = here.1 in omega arith

pub gathered_none : (d : Disk) → Gathered d [] [] []
gathered_none d = record {
  only = λ n here. absurd (not-in-none n here);
  flat = All-nil (FoundIn d digits []);
  deep = All-nil (FoundIn d split_text []);
}

-- what was found stays found
still : (d : Disk) (tail : ℕ → List ℕ) (old new : List ℕ) (dirs : List (List ℕ)) → Keeps old new
    → All (FoundIn d tail old) dirs → All (FoundIn d tail new) dirs
still d tail old new dirs kept all =
    All-weaker (FoundIn d tail old) (FoundIn d tail new) (λ dir found part n number is there. kept n (found part n number is there)) dirs all

-- one directory more
gathered_flat : (d : Disk) (flats deeps : List (List ℕ)) (dir old new : List ℕ) → Gathered d flats deeps old
    → Keeps old new → AddsOnlyFiles d old new → FoundIn d digits new dir
    → Gathered d (flats ++ dir ∷ []) deeps new
gathered_flat d flats deeps dir old new g kept only all = record {
  only = λ n here. ⊎_elim (g.only n) (λ file. file) (only n here);
  flat = All-push (FoundIn d digits new) flats dir (still d digits old new flats kept g.flat) all;
  deep = still d split_text old new deeps kept g.deep;
}

gathered_deep : (d : Disk) (flats deeps : List (List ℕ)) (dir old new : List ℕ) → Gathered d flats deeps old
    → Keeps old new → AddsOnlyFiles d old new → FoundIn d split_text new dir
    → Gathered d flats (deeps ++ dir ∷ []) new
gathered_deep d flats deeps dir old new g kept only all = record {
  only = λ n here. ⊎_elim (g.only n) (λ file. file) (only n here);
  flat = still d digits old new flats kept g.flat;
  deep = All-push (FoundIn d split_text new) deeps dir (still d split_text old new deeps kept g.deep) all;
}

-- the directories of the parts
abbrev pub flat_dirs : List (List ℕ)
flat_dirs = codes "intd" ∷ codes "todo" ∷ codes "bounce" ∷ []

-- the numbers of the directories without splits were gathered, and no others yet
pub flats_gathered : (d : Disk) (numbers : List ℕ) → ((n : ℕ) → Contains numbers n → HasFile d n) → All (FoundIn d digits numbers) flat_dirs
    → Gathered d flat_dirs [] numbers
flats_gathered d numbers only all = record {
  only = only;
  flat = all;
  deep = All-nil (FoundIn d split_text numbers);
}

abbrev pub split_dirs : List (List ℕ)
split_dirs = codes "mess" ∷ codes "info" ∷ codes "local" ∷ codes "remote" ∷ codes "intdx" ∷ codes "todox" ∷ []

pub found_part : (d : Disk) (numbers : List ℕ) → Gathered d flat_dirs split_dirs numbers → (part : Part) (n : ℕ) → IsTrue (is_number n) → IsTrue (is_there d part n) → Contains numbers n
unfolding path
found_part d numbers g Mess n number there = g.deep 0 [] (omega arith) Mess n number refl there
found_part d numbers g Intd n number there = g.flat 0 [] (omega arith) Intd n number refl there
found_part d numbers g Todo n number there = g.flat 1 [] (omega arith) Todo n number refl there
found_part d numbers g Info n number there = g.deep 1 [] (omega arith) Info n number refl there
found_part d numbers g Local n number there = g.deep 2 [] (omega arith) Local n number refl there
found_part d numbers g Remote n number there = g.deep 3 [] (omega arith) Remote n number refl there
found_part d numbers g Bounce n number there = g.flat 2 [] (omega arith) Bounce n number refl there
found_part d numbers g SplitIntd n number there = g.deep 4 [] (omega arith) SplitIntd n number refl there
found_part d numbers g SplitTodo n number there = g.deep 5 [] (omega arith) SplitTodo n number refl there

-- the directory at a place of a list was seen
pub flat_at : (d : Disk) (dirs : List (Bor (List ℕ))) (i : ℕ) (b : Bor (List ℕ)) (deeps : List (List ℕ)) (old new : List ℕ) → Gathered d (texts (take i dirs)) deeps old → i < length dirs
    → Keeps old new → AddsOnlyFiles d old new → FoundIn d digits new (get_or dirs i b).now
    → Gathered d (texts (take (i + 1) dirs)) deeps new
flat_at d dirs i b deeps old new g within kept only all =
    subst (λ flats. Gathered d flats deeps new) (sym (one_more dirs i b within)) (gathered_flat d (texts (take i dirs)) deeps (get_or dirs i b).now old new g kept only all)

pub deep_at : (d : Disk) (dirs : List (Bor (List ℕ))) (i : ℕ) (b : Bor (List ℕ)) (flats : List (List ℕ)) (old new : List ℕ) → Gathered d flats (texts (take i dirs)) old → i < length dirs
    → Keeps old new → AddsOnlyFiles d old new → FoundIn d split_text new (get_or dirs i b).now
    → Gathered d flats (texts (take (i + 1) dirs)) new
deep_at d dirs i b flats old new g within kept only all =
    subst (λ deeps. Gathered d flats deeps new) (sym (one_more dirs i b within)) (gathered_deep d flats (texts (take i dirs)) (get_or dirs i b).now old new g kept only all)
