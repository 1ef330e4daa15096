-- Searches of a disk that may tell what it holds.
use Rattle.std.proofs.Common.{◌≡◌, ℕ, zero, suc, ◌+◌, ◌<◌, ◌≤◌, length, take, get_or, List, [], ◌∷◌, ◌++◌, Option, Some, None, Bool, true, false, Result, Ok, Err, refl, sym, ◌∙◌, ap, subst, inl, inr, arith, append_assoc}
use Rattle.std.specs.Prelude.{IfOk, IfErr, All, Contains}
use Rattle.std.specs.Result.{IsErrAnd}
use Rattle.std.proofs.lemmas.List.{append-nil, take_more}
use Rattle.std.proofs.lemmas.List.Elements.{All-nil, All-cons, All-append, Contains-get_or}
use Rattle.mail_bytes.specs.Told.{Meets, OnTold, Records, Rose}
use Rattle.call_fs.specs.declared.calls.FsError.{FsError}
use Rattle.call_fs.specs.declared.calls.FsError.TheVariants as failed
use Rattle.call_fs.specs.declared.calls.CallData.TheVariants.{NextName}
use Rattle.call_fs.specs.declared.calls.Answer.{Answer}
use Rattle.call_fs.specs.declared.calls.Recorded.{Recorded}
use Rattle.call_fs.specs.Disk.{Disk}
use Rattle.call_fs.specs.Calls.{entry, next_found}
use Rattle.call_fs.specs.Apply.{Apply, Fits}
use Rattle.call_fs.specs.Columns.{IsFound}
use Rattle.call_fs.specs.Told.{AnswerHasCause}
use Rattle.call_fs.proofs.Meanings.{means_look}
use Rattle.queue_states.specs.declared.outcome.AuditError.{AuditError}
use Rattle.queue_states.specs.declared.outcome.AuditError.TheVariants.{Fault, Missing, Memory}
use Rattle.queue_states.specs.Searches.{DiskTold, IsSearch, AreSearches, IsSearched, IsWhy, HasSearched, IsWhyOf}

-- what is told holds of it, if both do
pub told_both : {X : Type 0} (o : Option X) {P Q R : X → Type 0} → ((x : X) → P x → Q x → R x) → OnTold o P → OnTold o Q → OnTold o R
told_both None f p q = tt
told_both (Some x) f p q = f x p q

pub told_each : {X : Type 0} (o : Option X) {P Q : X → Type 0} → ((x : X) → P x → Q x) → OnTold o P → OnTold o Q
told_each None f p = tt
told_each (Some x) f p = f x p

pub told_all : {X : Type 0} (o : Option X) {P : X → Type 0} → ((x : X) → P x) → OnTold o P
told_all None f = tt
told_all (Some x) f = f x

-- Calls that are kept

pub searches_none : (o : Option (List Recorded)) → AreSearches o o
searches_none None = tt
searches_none (Some calls) = ([], sym (append-nil calls), All-nil IsSearch)

one_search : (old new : Option (List Recorded)) (e : Recorded) → IsSearch e → Records old new e → AreSearches old new
one_search old None e is kept = tt
one_search None (Some new) e is kept = absurd kept
one_search (Some old) (Some new) e is kept = (e ∷ [], kept, All-cons IsSearch e [] is (All-nil IsSearch))

searches_then : (a b c : Option (List Recorded)) → AreSearches a b → AreSearches b c → AreSearches a c
searches_then a b None first second = tt
searches_then None None (Some z) first second = absurd second
searches_then None (Some y) (Some z) first second = absurd first
searches_then (Some x) None (Some z) first second = absurd second
searches_then (Some x) (Some y) (Some z) first second = (
  first.0 ++ second.0,
  second.1 ∙ ap (λ t. t ++ second.0) first.1 ∙ append_assoc x first.0 second.0,
  All-append IsSearch first.0 second.0 first.2 second.2,
)

-- Searches in a row

pub searched_none : (a : DiskTold) → IsSearched a a
searched_none a = record { same = refl; asked = searches_none a.calls; later = omega arith }

pub searched_then : (a b c : DiskTold) → IsSearched a b → IsSearched b c → IsSearched a c
searched_then a b c first second = record {
  same = second.same ∙ first.same;
  asked = searches_then a.calls b.calls c.calls first.asked second.asked;
  later = let one = first.later in let two = second.later in omega arith;
}

-- a reason stays one, seen from an earlier moment, and among more directories
pub why_since : (dirs more : List (List ℕ)) (a b c : DiskTold) (why : AuditError) → IsSearched a b → ((dir : List ℕ) → Contains dirs dir → Contains more dir) → IsWhy dirs b c why → IsWhy more a c why
why_since dirs more a b c Fault searched wider why = let earlier = searched.later in omega (arith, why)
why_since dirs more a b c (Missing dir) searched wider why =
    (wider dir why.0, subst (λ (o : Option Disk). OnTold o (λ d. ¬ (Contains d.dirs dir))) searched.same why.1)
why_since dirs more a b c Memory searched wider why = tt

-- A search that came after others failed, and its reason is handed on.
pub failed_since : {T U : Type 0} (dirs more : List (List ℕ)) (a b c : DiskTold) (why : AuditError) (result : Result U AuditError) → IsErrAnd result (λ e. e ≡ why) → IsSearched a b → ((dir : List ℕ) → Contains dirs dir → Contains more dir)
    → HasSearched {T = T} dirs b c (Err why) → HasSearched more a c result
failed_since dirs more a b c why (Ok x) is searched wider has = absurd is
failed_since dirs more a b c why (Err e) is searched wider has = record {
  only = searched_then a b c searched has.only;
  there = tt;
  why = subst (IsWhy more a c) (sym is) (why_since dirs more a b c why searched wider has.why);
}

-- there was no memory for what came of a search
pub lacks_memory : {U : Type 0} (dirs : List (List ℕ)) (a b : DiskTold) (result : Result U AuditError) → IsErrAnd result (λ e. e ≡ Memory) → IsSearched a b → HasSearched dirs a b result
lacks_memory dirs a b (Ok x) is searched = absurd is
lacks_memory dirs a b (Err e) is searched = record { only = searched; there = tt; why = subst (IsWhy dirs a b) (sym is) tt }

-- it was the last one
pub done_since : {T U : Type 0} (dirs : List (List ℕ)) (a b c : DiskTold) (x : T) (y : U) → IsSearched a b → HasSearched dirs b c (Ok x) → HasSearched dirs a c (Ok y)
done_since dirs a b c x y searched has = record {
  only = searched_then a b c searched has.only;
  there = subst (λ (o : Option Disk). OnTold o (λ d. All (Contains d.dirs) dirs)) searched.same has.there;
  why = tt;
}

-- the only one of a list
pub only_one : (x y : List ℕ) → Contains (x ∷ []) y → x ≡ y
only_one x y (zero, within, is) = is
only_one x y (suc k, within, is) = absurd (omega arith)

-- the directory at a place is one of them
pub one_of : (dirs : List (List ℕ)) (i : ℕ) (item at : List ℕ) → i < length dirs → item ≡ get_or dirs i item → at ≡ item → (dir : List ℕ) → Contains (at ∷ []) dir → Contains dirs dir
one_of dirs i item at within is read dir here = subst (Contains dirs) (sym is ∙ sym read ∙ only_one at dir here) (Contains-get_or dirs i item within)

-- one directory more
pub dir_more : (old now : Option Disk) (dirs : List (List ℕ)) (i : ℕ) (dir at : List ℕ) → now ≡ old → i < length dirs → dir ≡ get_or dirs i dir → at ≡ dir
    → OnTold old (λ d. All (Contains d.dirs) (take i dirs)) → OnTold now (λ d. All (Contains d.dirs) (at ∷ [])) → OnTold old (λ d. All (Contains d.dirs) (take (i + 1) dirs))
dir_more old now dirs i dir at same within is read there told =
    let longer : take (i + 1) dirs ≡ take i dirs ++ dir ∷ [] = take_more dirs i dir within ∙ ap (λ x. take i dirs ++ x ∷ []) (sym is) in
    let one_there : OnTold old (λ d. All (Contains d.dirs) (dir ∷ [])) =
    subst (λ x. OnTold old (λ d. All (Contains d.dirs) (x ∷ []))) read (subst (λ (o : Option Disk). OnTold o (λ d. All (Contains d.dirs) (at ∷ []))) same told) in
    subst (λ l. OnTold old (λ d. All (Contains d.dirs) l)) (sym longer) (told_both old (λ d a b. All-append (Contains d.dirs) (take i dirs) (dir ∷ []) a b) there one_there)

-- One search

-- it changes nothing
same_disk : (old new : Option Disk) (dir after : List ℕ) (answer : Answer) → Meets old new (λ before later. Apply before 0 (NextName dir after) answer later) → new ≡ old
same_disk None None dir after answer h = refl
same_disk None (Some y) dir after answer h = absurd h
same_disk (Some x) None dir after answer h = absurd h
same_disk (Some x) (Some y) dir after answer h = ap Some (means_look x y 0 (NextName dir after) answer h tt)

-- what it found
found_fits : (d : Disk) (dir after name : List ℕ) (found : Bool) (wrote : ℕ) → Fits d (NextName dir after) (next_found (Ok found) name) wrote → IsFound d dir after found name
found_fits d dir after name true wrote fits = fits.1
found_fits d dir after name false wrote fits = fits.1

told_found : (old new : Option Disk) (dir after name : List ℕ) (found : Bool) → Meets old new (λ before later. Apply before 0 (NextName dir after) (next_found (Ok found) name) later)
    → OnTold old (λ d. IsFound d dir after found name)
told_found None new dir after name found told = tt
told_found (Some d) None dir after name found told = absurd told
told_found (Some d) (Some e) dir after name found told = found_fits d dir after name found told.0 told.1

pub has_found : (old new : Option Disk) (dir after name : List ℕ) (answer : Result Bool FsError) → Meets old new (λ before later. Apply before 0 (NextName dir after) (next_found answer name) later)
    → (result : Result Bool AuditError) → IfOk result (λ found. answer ≡ Ok found) → IfOk result (λ found. OnTold old (λ d. IsFound d dir after found name))
has_found old new dir after name answer told (Ok found) is =
    told_found old new dir after name found (subst (λ (a : Result Bool FsError). Meets old new (λ before later. Apply before 0 (NextName dir after) (next_found a name) later)) is told)
has_found old new dir after name answer told (Err why) is = tt

-- what an answer says of its directory
dir_there : (d : Disk) (dir after name : List ℕ) (found : Bool) (wrote : ℕ) → Fits d (NextName dir after) (next_found (Ok found) name) wrote → Contains d.dirs dir
dir_there d dir after name true wrote fits = fits.0
dir_there d dir after name false wrote fits = fits.0

told_there : (old new : Option Disk) (dir after name : List ℕ) (found : Bool) → Meets old new (λ before later. Apply before 0 (NextName dir after) (next_found (Ok found) name) later)
    → OnTold old (λ d. All (Contains d.dirs) (dir ∷ []))
told_there None new dir after name found told = tt
told_there (Some d) None dir after name found told = absurd told
told_there (Some d) (Some e) dir after name found told = All-cons (Contains d.dirs) dir [] (dir_there d dir after name found told.0 told.1) (All-nil (Contains d.dirs))

told_missing : (old new : Option Disk) (dir after name : List ℕ) → Meets old new (λ before later. Apply before 0 (NextName dir after) (next_found (Err failed.NotThere) name) later)
    → OnTold old (λ d. ¬ (Contains d.dirs dir))
told_missing None new dir after name told = tt
told_missing (Some d) None dir after name told = absurd told
told_missing (Some d) (Some e) dir after name told = told.1

one : (x : List ℕ) → Contains (x ∷ []) x
one x = (0, omega arith, refl)

module _ (dir after name : List ℕ) (old new : DiskTold) (answer : Result Bool FsError) (told : Meets old.disk new.disk (λ before later. Apply before 0 (NextName dir after) (next_found answer name) later)) (cause : AnswerHasCause old.faults new.faults (next_found answer name)) where
  there_by : (result : Result Bool AuditError) → IfOk result (λ found. answer ≡ Ok found) → IfOk result (λ _. OnTold old.disk (λ d. All (Contains d.dirs) (dir ∷ [])))
  there_by (Ok found) is =
      told_there old.disk new.disk dir after name found
      (subst (λ (a : Result Bool FsError). Meets old.disk new.disk (λ before later. Apply before 0 (NextName dir after) (next_found a name) later)) is told)
  there_by (Err why) is = tt

  why_by : (why : AuditError) → IsWhyOf dir answer why → IsWhy (dir ∷ []) old new why
  why_by Fault is = cause.rose (ap (λ (a : Result Bool FsError). next_found a name) is)
  why_by (Missing missing) is = (
    subst (Contains (dir ∷ [])) (sym is.1) (one dir),
    subst (λ (t : List ℕ). OnTold old.disk (λ d. ¬ (Contains d.dirs t))) (sym is.1)
        (told_missing old.disk new.disk dir after name
        (subst (λ (a : Result Bool FsError). Meets old.disk new.disk (λ before later. Apply before 0 (NextName dir after) (next_found a name) later)) is.0 told)),
  )
  why_by Memory is = tt

  why_of : (result : Result Bool AuditError) → IfErr result (IsWhyOf dir answer) → IfErr result (IsWhy (dir ∷ []) old new)
  why_of (Ok found) is = tt
  why_of (Err why) is = why_by why is

  pub has_searched : (result : Result Bool AuditError) → Records old.calls new.calls (entry (NextName dir after) (next_found answer name))
      → IfOk result (λ found. answer ≡ Ok found) → IfErr result (IsWhyOf dir answer) → HasSearched (dir ∷ []) old new result
  has_searched result kept ok why = record {
    only = record {
      same = same_disk old.disk new.disk dir after (next_found answer name) told;
      asked = one_search old.calls new.calls _ (dir, after, refl) kept;
      later = cause.later;
    };
    there = there_by result ok;
    why = why_of result why;
  }
