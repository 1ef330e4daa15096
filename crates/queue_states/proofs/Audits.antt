-- A whole audit.
use Rattle.std.proofs.Common.{◌≡◌, ◌≢◌, ◌⊎◌, ℕ, ◌<◌, ◌-◌, List, [], ◌∷◌, length, Option, Some, None, Bool, true, false, codes, map, take, drop, get_or, nat_cmp, refl, sym, ◌∙◌, ap, subst, ⊎_elim, arith}
use Rattle.std.specs.Prelude.{◌||◌, ◌↔◌, IsTrue, All, Contains}
use Rattle.std.specs.BTreeMap.{BTreeMap, IsOrdered, get}
use Rattle.std.specs.List.Sorted.{IsStrictlyIncreasing}
use Rattle.std.proofs.lemmas.Bool.{false≢true}
use Rattle.std.proofs.lemmas.Cmp.{nat_cmp_total}
use Rattle.std.proofs.lemmas.List.{length-drop, length-map, get_or-map, take_all}
use Rattle.std.proofs.lemmas.List.Elements.{All-append, Contains-append_right, Contains-get_or}
use Rattle.std.proofs.lemmas.Map.Keys.{IsStrictlyIncreasing-from_sorted}
use Rattle.std.proofs.lemmas.Map.Lookups.{exact_unsigned}
use Rattle.std.proofs.lemmas.Map.Views.{btree_map_get_iff}
use Rattle.mail_bytes.specs.Told.{OnTold}
use Rattle.call_fs.specs.Disk.{Disk}
use Rattle.queue_paths.specs.Dirs.{queue_dirs}
use Rattle.queue_paths.specs.Names.{Part, is_number}
use Rattle.queue_paths.specs.Names.Part.{Mess, Intd, Todo, Info, Local, Remote, Bounce, SplitIntd, SplitTodo}
use Rattle.queue_states.specs.declared.state.State.{State}
use Rattle.queue_states.specs.declared.files.Files.{Files}
use Rattle.queue_states.specs.States.{state_by, state_of, is_there}
use Rattle.queue_states.specs.Found.{has, has_in, state_with, entry_of, is_found, EachHasFile, Gathers}
use Rattle.queue_states.specs.Audit.{HasFile, HasQueueDirs, IsAscending, IsAuditOf, IsNameCount, AreStates}
use Rattle.queue_states.proofs.Gathered.{none_found}
use Rattle.queue_states.proofs.MessageFiles.{lies_in}
use Rattle.queue_states.proofs.States.{state_named}
use Rattle.queue_states.proofs.Searches.{told_both, told_each}

-- the state of files that are there just if these tests say so
state_same : (files : Files) (test : Part → Bool) → ((part : Part) → has files part ≡ test part)
    → state_with files ≡ state_by (test Mess) (test Intd || test SplitIntd) (test Todo || test SplitTodo) (test Info) (test Local) (test Remote) (test Bounce)
state_same files test same =
    let either = λ (a b : Part) (i : has files a ≡ test a) (j : has files b ≡ test b). ap (λ x. x || has files b) i ∙ ap (λ x. test a || x) j in
    ap (λ x. state_by x (files.intd || files.split_intd) (files.todo || files.split_todo) files.info files.local files.remote files.bounce) (same Mess)
    ∙ ap (λ x. state_by (test Mess) x (files.todo || files.split_todo) files.info files.local files.remote files.bounce) (either Intd SplitIntd (same Intd) (same SplitIntd))
    ∙ ap (λ x. state_by (test Mess) (test Intd || test SplitIntd) x files.info files.local files.remote files.bounce) (either Todo SplitTodo (same Todo) (same SplitTodo))
    ∙ ap (λ x. state_by (test Mess) (test Intd || test SplitIntd) (test Todo || test SplitTodo) x files.local files.remote files.bounce) (same Info)
    ∙ ap (λ x. state_by (test Mess) (test Intd || test SplitIntd) (test Todo || test SplitTodo) (test Info) x files.remote files.bounce) (same Local)
    ∙ ap (λ x. state_by (test Mess) (test Intd || test SplitIntd) (test Todo || test SplitTodo) (test Info) (test Local) x files.bounce) (same Remote)
    ∙ ap (λ x. state_by (test Mess) (test Intd || test SplitIntd) (test Todo || test SplitTodo) (test Info) (test Local) (test Remote) x) (same Bounce)

-- two truths that follow from each other
same_truth : (a b : Bool) → (a ≡ true → b ≡ true) → (b ≡ true → a ≡ true) → a ≡ b
same_truth true b f g = sym (f refl)
same_truth false true f g = g refl
same_truth false false f g = refl

-- the entries of a list that was mapped

contains_mapped : {X Y : Type 0} (f : X → Y) (xs : List X) (x : X) → Contains xs x → Contains (map f xs) (f x)
contains_mapped f xs x (k, within, is) = (k, let long = length-map xs f in omega arith, get_or-map f xs k x (f x) within ∙ ap f is)

contains_origin : {X Y : Type 0} (f : X → Y) (xs : List X) (y : Y) → Contains (map f xs) y → (x : X) × Contains xs x × (f x ≡ y)
contains_origin f [] y (k, within, is) = absurd (omega arith)
contains_origin f (x ∷ xs) y (k, within, is) =
    let inside : k < length (x ∷ xs) = let long = length-map (x ∷ xs) f in omega arith in
    (get_or (x ∷ xs) k x, Contains-get_or (x ∷ xs) k x inside, sym (get_or-map f (x ∷ xs) k x y inside) ∙ is)

map_twice : {X Y Z : Type 0} (f : X → Y) (g : Y → Z) (xs : List X) → map g (map f xs) ≡ map (λ x. g (f x)) xs
map_twice f g [] = refl
map_twice f g (x ∷ xs) = ap (λ zs. g (f x) ∷ zs) (map_twice f g xs)

pub ascending : (found : BTreeMap ℕ Files) (states : List (ℕ × State)) → IsOrdered nat_cmp found → states ≡ map entry_of found.entries → IsAscending states
ascending found states ordered is =
    subst IsStrictlyIncreasing (sym (ap (map (λ entry. entry.0)) is ∙ map_twice entry_of (λ entry. entry.0) found.entries))
    (IsStrictlyIncreasing-from_sorted (map (λ entry. entry.0) found.entries) ordered)

-- all message files were found, and nothing else
module _ (d : Disk) (none found : BTreeMap ℕ Files) (empty : none.entries ≡ []) (gathers : Gathers d (drop 1 queue_dirs) none found) where
  is_file : (part : Part) (n : ℕ) → is_found found part n ≡ true → IsTrue (is_number n) × IsTrue (is_there d part n)
  is_file part n h = ⊎_elim (λ was. absurd (none_found none empty part n was)) (λ file. file) (gathers.only part n h)

  file_found : (part : Part) (n : ℕ) → IsTrue (is_number n) → IsTrue (is_there d part n) → is_found found part n ≡ true
  file_found part n number there = let lies = lies_in part n in gathers.all lies.dir part n lies.one number lies.path_is there

  exact : (part : Part) (n : ℕ) → IsTrue (is_number n) → is_found found part n ≡ is_there d part n
  exact part n number = same_truth (is_found found part n) (is_there d part n) (λ h. (is_file part n h).1) (λ there. file_found part n number there)

  nothing_empty : EachHasFile found
  nothing_empty = gathers.some (λ n files e. absurd (no_entry n files e))
    where
      no_entry : (n : ℕ) (files : Files) → get nat_cmp none n ≡ Some files → ⊥
      no_entry n files e = let gone : get nat_cmp none n ≡ None = rw empty refl in cc

  state_is : (n : ℕ) (files : Files) → IsTrue (is_number n) → get nat_cmp found n ≡ Some files → state_with files ≡ state_of d n
  state_is n files number at = state_same files (λ part. is_there d part n) (λ part. sym (ap (λ o. has_in o part) at) ∙ exact part n number) ∙ sym (state_named d n)

  known : (n : ℕ) (files : Files) → get nat_cmp found n ≡ Some files → IsTrue (is_number n) × HasFile d n
  known n files at =
      let some = nothing_empty n files at in
      let file = is_file some.0 n (ap (λ o. has_in o some.0) at ∙ some.1) in
      (file.0, (some.0, file.1))

  has_entry : (o : Option Files) (part : Part) → has_in o part ≡ true → (files : Files) × (o ≡ Some files)
  has_entry None part h = absurd (false≢true h)
  has_entry (Some files) part h = (files, refl)

  module _ (states : List (ℕ × State)) (ordered : IsOrdered nat_cmp found) (are : states ≡ map entry_of found.entries) where
    listed_is : (n : ℕ) (state : State) → Contains states (n, state) → IsTrue (is_number n) × HasFile d n × (state ≡ state_of d n)
    listed_is n state here =
        let w = contains_origin entry_of found.entries (n, state) (subst (λ l. Contains l (n, state)) are here) in
        let at_own : get nat_cmp found w.0.0 ≡ Some w.0.1 = (btree_map_get_iff nat_cmp_total exact_unsigned found ordered w.0.0 w.0.1).1 w.1 in
        let same : w.0.0 ≡ n = ap (λ p. p.0) w.2 in
        let at : get nat_cmp found n ≡ Some w.0.1 = subst (λ k. get nat_cmp found k ≡ Some w.0.1) same at_own in
        let own = known n w.0.1 at in
        let state_same_as : state_with w.0.1 ≡ state = ap (λ p. p.1) w.2 in
        (own.0, own.1, sym state_same_as ∙ state_is n w.0.1 own.0 at)

    is_listed : (n : ℕ) (state : State) → IsTrue (is_number n) × HasFile d n × (state ≡ state_of d n) → Contains states (n, state)
    is_listed n state (number, file, is) =
        let w = has_entry (get nat_cmp found n) file.0 (file_found file.0 n number file.1) in
        let here = (btree_map_get_iff nat_cmp_total exact_unsigned found ordered n w.0).0 w.1 in
        let mapped = contains_mapped entry_of found.entries (n, w.0) here in
        let state_same_as : state_with w.0 ≡ state = state_is n w.0 number w.1 ∙ sym is in
        subst (λ l. Contains l (n, state)) (sym are) (subst (λ s. Contains (map entry_of found.entries) (n, s)) state_same_as mapped)

    pub are_states : AreStates d states
    are_states = λ n state. (listed_is n state, is_listed n state)

-- The directories of the queue but the first

pub others : (dirs items : List (List ℕ)) → dirs ≡ items → items ≡ queue_dirs → take (length dirs - 1) (drop 1 dirs) ≡ drop 1 queue_dirs
others dirs items is all = ap (λ (l : List (List ℕ)). take (length l - 1) (drop 1 l)) (is ∙ all) ∙ whole queue_dirs
  where
    whole : (l : List (List ℕ)) → take (length l - 1) (drop 1 l) ≡ drop 1 l
    whole l = take_all (length l - 1) (drop 1 l) (let short = length-drop 1 l in omega arith)

-- one of them is one of all
pub other_one : (rest : List (List ℕ)) → rest ≡ drop 1 queue_dirs → (dir : List ℕ) → Contains rest dir → Contains queue_dirs dir
other_one rest is dir here = Contains-append_right (codes "pid" ∷ []) (drop 1 queue_dirs) dir (subst (λ l. Contains l dir) is here)

-- all are there
pub all_there : (old now : Option Disk) → now ≡ old → (rest : List (List ℕ)) → rest ≡ drop 1 queue_dirs
    → OnTold old (λ d. All (Contains d.dirs) (codes "pid" ∷ [])) → OnTold now (λ d. All (Contains d.dirs) rest) → OnTold old HasQueueDirs
all_there old now same rest is first told =
    told_both old (λ d a b. All-append (Contains d.dirs) (codes "pid" ∷ []) (drop 1 queue_dirs) a (subst (All (Contains d.dirs)) is b)) first
    (subst (λ (o : Option Disk). OnTold o (λ d. All (Contains d.dirs) rest)) same told)

-- what was found is an audit
pub told_states : (old now : Option Disk) → now ≡ old → (rest : List (List ℕ)) → rest ≡ drop 1 queue_dirs → (pids : ℕ) (none found : BTreeMap ℕ Files) (states : List (ℕ × State))
    → none.entries ≡ [] → IsOrdered nat_cmp found → states ≡ map entry_of found.entries → OnTold old (λ d. IsNameCount d (codes "pid") pids)
    → OnTold old (λ d. All (Contains d.dirs) (codes "pid" ∷ [])) → OnTold now (λ d. Gathers d rest none found) → OnTold now (λ d. All (Contains d.dirs) rest)
    → IsAuditOf old (record { pids = pids; states = states })
told_states old now same rest is pids none found states empty ordered are counted first gathered there = record {
  ascending = ascending found states ordered are;
  states =
      told_each old (λ d gathers. are_states d none found empty (subst (λ l. Gathers d l none found) is gathers) states ordered are)
      (subst (λ (o : Option Disk). OnTold o (λ d. Gathers d rest none found)) same gathered);
  dirs = all_there old now same rest is first there;
  pids = counted;
}
