-- The files that preprocessing makes have names of the right form, in directories of the queue.
use Rattle.std.proofs.Common.{◌≡◌, ⊎_elim, ℕ, ◌+◌, ◌-◌, ◌<◌, ◌≤◌, ◌^◌, List, [], ◌∷◌, ◌++◌, length, drop, take, length-append, append_assoc, All, Contains, false, not, refl, sym, ap, ◌∙◌, subst, arith, codes}
use Rattle.std.specs.Prelude.{◌==◌, get_or}
use Rattle.std.specs.List.{slice_split, suffix_len}
use Rattle.std.proofs.lemmas.Bool.Decides.{eqb_tells}
use Rattle.std.proofs.Math.Seq.{take-append_seam}
use Rattle.std.proofs.lemmas.List.{get_or-append_right}
use Rattle.std.proofs.lemmas.List.Elements.{All-contains, All-cons, All-from_recursion, All-nil, All-weaker, Contains-append_right}
use Rattle.std.proofs.lemmas.List.Splits.{slice_split_at, slice_split_none}
use Rattle.std.proofs.lemmas.List.Sums.{suffix_len_is}
use Rattle.call_fs.specs.Disk.{Disk, HasDir, dir_of}
use Rattle.call_fs.specs.Names.{IsName, IsPart}
use Rattle.mail_bytes.proofs.Digits.{digits_all, number-digits}
use Rattle.mail_bytes.specs.Decimal.{IsDigit, digits}
use Rattle.queue_paths.specs.Dirs.{queue_dirs}
use Rattle.queue_paths.specs.Names.{Part, path, split}
use Rattle.queue_paths.specs.Names.Name.{Of}
use Rattle.queue_paths.specs.Names.Part.{Info, Local, Remote, Todo}
use Rattle.queue_states.proofs.MessageFiles.{is_part, lies_in}
use Rattle.todo_pass.specs.declared.part.Target.{Target}
use Rattle.todo_pass.specs.declared.part.Target.TheVariants as target
use Rattle.todo_pass.specs.Parts.{part_of, path_in}

-- A number as a part of a name

no_slash : (b : ℕ) → IsDigit b → (b == 47) ≡ false
no_slash b digit = ⊎_elim (λ w. let is = w.1 in absurd (omega (arith, is, digit))) (λ w. w.0) (eqb_tells b 47)

pub plain : (n : ℕ) → All (λ b. (b == 47) ≡ false) (digits n)
plain n = All-weaker IsDigit (λ b. (b == 47) ≡ false) no_slash (digits n) (digits_all n)

pub number_part : (n : ℕ) → n < 2 ^ 64 → IsPart (digits n)
number_part n small = record {
  positive = (number-digits n small).some;
  short = (is_part n small).short;
  no_nul = λ here. let digit = All-contains IsDigit (digits n) 0 (digits_all n) here in absurd (omega (arith, digit));
}

-- What stands before the last slash

before_slash : (front rest : List ℕ) → All (λ b. (b == 47) ≡ false) rest → dir_of (front ++ 47 ∷ rest) ≡ front
before_slash front rest none =
    let name : List ℕ = front ++ 47 ∷ rest in
    let whole : (front ++ 47 ∷ []) ++ rest ≡ name = append_assoc front (47 ∷ []) rest in
    let long = length-append front (47 ∷ rest) in
    let short = length-append front (47 ∷ []) in
    let nought : length front - length front ≡ 0 = omega arith in
    let one_less : length front + 1 - 1 ≡ length front = omega arith in
    let slash : get_or name (length front) 0 ≡ 47 =
    get_or-append_right front (47 ∷ rest) (length front) (length front) 0 refl (omega arith)
    ∙ ap (λ (k : ℕ). get_or (47 ∷ rest) k 0) nought in
    let after : suffix_len (λ b. not (b == 47)) name ≡ length name - (length front + 1) =
    suffix_len_is (λ b. not (b == 47)) name (length front + 1) 0 (omega (arith, long))
    (λ k from to.
    ap (λ (bs : List ℕ). not (get_or bs k 0 == 47)) (sym whole)
    ∙ ap (λ (b : ℕ). not (b == 47)) (get_or-append_right (front ++ 47 ∷ []) rest (length front + 1) k 0 (omega (arith, short)) from)
    ∙ ap not (none (k - (length front + 1)) 0 (omega (arith, from, to, long))))
    (λ some. ap (λ (k : ℕ). not (get_or name k 0 == 47)) one_less ∙ ap (λ (b : ℕ). not (b == 47)) slash) in
    let at : length name - suffix_len (λ b. not (b == 47)) name - 1 ≡ length front = omega (arith, after, long) in
    ap (λ (k : ℕ). take k name) at ∙ take-append_seam front (47 ∷ rest)

-- Three parts

pub word_part : (word : List ℕ) → 1 ≤ length word → length word ≤ 255 → All (λ b. 0 < b) word → IsPart word
word_part word some short above = record {
  positive = some;
  short = short;
  no_nul = λ here. let low = All-contains (λ b. 0 < b) word 0 above here in absurd (omega (arith, low));
}

pub three_parts : (word : List ℕ) (n : ℕ) → n < 2 ^ 64 → IsPart word → All (λ b. (b == 47) ≡ false) word → All IsPart (slice_split (λ b. b == 47) (word ++ 47 ∷ (digits (split n) ++ 47 ∷ digits n)))
three_parts word n small part none =
    let s : List ℕ = digits (split n) in
    let parts : slice_split (λ b. b == 47) (word ++ 47 ∷ (s ++ 47 ∷ digits n)) ≡ word ∷ (s ∷ (digits n ∷ [])) =
    slice_split_at (λ b. b == 47) word 47 (s ++ 47 ∷ digits n) none refl
    ∙ ap (λ (last : List (List ℕ)). word ∷ last)
    (slice_split_at (λ b. b == 47) s 47 (digits n) (plain (split n)) refl ∙ ap (λ (last : List (List ℕ)). s ∷ last) (slice_split_none (λ b. b == 47) (digits n) (plain n))) in
    subst (λ (all : List (List ℕ)). All IsPart all) (sym parts)
    (All-cons IsPart word (s ∷ (digits n ∷ [])) part
    (All-cons IsPart s (digits n ∷ []) (number_part (split n) (omega arith)) (All-cons IsPart (digits n) [] (number_part n small) (All-nil IsPart))))

info_name : (n : ℕ) → n < 2 ^ 64 → IsName (path_in (part_of target.Info) n)
unfolding path
info_name n small = three_parts (codes "info") n small
    (word_part (codes "info") (omega arith) (omega arith) (All-from_recursion (λ b. 0 < b) (codes "info") (omega arith, (omega arith, (omega arith, (omega arith, tt))))))
    (All-from_recursion (λ b. (b == 47) ≡ false) (codes "info") (refl, (refl, (refl, (refl, tt)))))

local_name : (n : ℕ) → n < 2 ^ 64 → IsName (path_in (part_of target.Local) n)
unfolding path
local_name n small = three_parts (codes "local") n small
    (word_part (codes "local") (omega arith) (omega arith) (All-from_recursion (λ b. 0 < b) (codes "local") (omega arith, (omega arith, (omega arith, (omega arith, (omega arith, tt)))))))
    (All-from_recursion (λ b. (b == 47) ≡ false) (codes "local") (refl, (refl, (refl, (refl, (refl, tt))))))

remote_name : (n : ℕ) → n < 2 ^ 64 → IsName (path_in (part_of target.Remote) n)
unfolding path
remote_name n small = three_parts (codes "remote") n small
    (word_part (codes "remote") (omega arith) (omega arith) (All-from_recursion (λ b. 0 < b) (codes "remote") (omega arith, (omega arith, (omega arith, (omega arith, (omega arith, (omega arith, tt))))))))
    (All-from_recursion (λ b. (b == 47) ≡ false) (codes "remote") (refl, (refl, (refl, (refl, (refl, (refl, tt)))))))

-- The directory of a part

pub lies_there : (d : Disk) (part : Part) (n : ℕ) → ((dir : List ℕ) → Contains queue_dirs dir → Contains d.dirs dir) → IsName (path (Of part n)) → HasDir d (path (Of part n))
lies_there d part n dirs name =
    let w = lies_in part n in
    let dir : dir_of (path (Of part n)) ≡ w.dir = ap dir_of w.path_is ∙ before_slash w.dir (digits n) (plain n) in
    (name, subst (λ (l : List ℕ). Contains d.dirs l) (sym dir) (dirs w.dir (Contains-append_right (codes "pid" ∷ []) (drop 1 queue_dirs) w.dir w.one)))

pub has_dir : (d : Disk) (t : Target) (n : ℕ) → ((dir : List ℕ) → Contains queue_dirs dir → Contains d.dirs dir) → n < 2 ^ 64 → HasDir d (path_in (part_of t) n)
has_dir d target.Info n dirs small = lies_there d Info n dirs (info_name n small)
has_dir d target.Local n dirs small = lies_there d Local n dirs (local_name n small)
has_dir d target.Remote n dirs small = lies_there d Remote n dirs (remote_name n small)

-- The todo file has two parts

todo_name : (n : ℕ) → n < 2 ^ 64 → IsName (path (Of Todo n))
unfolding path
todo_name n small =
    let word : List ℕ = codes "todo" in
    let none : All (λ b. (b == 47) ≡ false) word = All-from_recursion (λ b. (b == 47) ≡ false) word (refl, (refl, (refl, (refl, tt)))) in
    let parts : slice_split (λ b. b == 47) (word ++ 47 ∷ digits n) ≡ word ∷ (digits n ∷ []) =
    slice_split_at (λ b. b == 47) word 47 (digits n) none refl ∙ ap (λ (last : List (List ℕ)). word ∷ last) (slice_split_none (λ b. b == 47) (digits n) (plain n)) in
    subst (λ (all : List (List ℕ)). All IsPart all) (sym parts)
    (All-cons IsPart word (digits n ∷ [])
    (word_part word (omega arith) (omega arith) (All-from_recursion (λ b. 0 < b) word (omega arith, (omega arith, (omega arith, (omega arith, tt))))))
    (All-cons IsPart (digits n) [] (number_part n small) (All-nil IsPart)))

pub has_todo_dir : (d : Disk) (n : ℕ) → ((dir : List ℕ) → Contains queue_dirs dir → Contains d.dirs dir) → n < 2 ^ 64 → HasDir d (path (Of Todo n))
has_todo_dir d n dirs small = lies_there d Todo n dirs (todo_name n small)
