-- The names of message files in the queue's directories.
use Rattle.std.proofs.Common.{◌≡◌, ◌⊎◌, ℕ, zero, suc, ◌%◌, ◌^◌, ◌<◌, ◌≤◌, List, [], ◌∷◌, ◌++◌, length, drop, Option, Some, None, IsSome, Bool, true, false, nat_cmp, Less, refl, sym, ◌∙◌, ap, subst, inl, inr, ⊎_elim, arith}
use Rattle.std.specs.Prelude.{IsTrue, All, Contains, codes, if◌then◌else◌}
use Rattle.std.specs.Cmp.Lexicographic.{slice_cmp}
use Rattle.std.proofs.lemmas.Bool.{cases_lt}
use Rattle.std.proofs.lemmas.Fmt.{length-decimal-le}
use Rattle.std.proofs.lemmas.List.Elements.{All-contains, Contains-append_left, Contains-append_right}
use Rattle.mail_bytes.specs.Decimal.{digits, IsDigit}
use Rattle.mail_bytes.proofs.Digits.{decimal-digits, digits_all, number-digits}
use Rattle.call_fs.specs.Disk.{Disk}
use Rattle.call_fs.specs.Apply.{StandsAfter, IsLater}
use Rattle.queue_paths.specs.Dirs.{queue_dirs, splits_of}
use Rattle.queue_paths.specs.Names.{Name, Part, path, split, parse, is_number, is_used, used, used_name}
use Rattle.queue_paths.specs.Names.Name.{Of}
use Rattle.queue_paths.specs.Names.Part.{Mess, Intd, Todo, Info, Local, Remote, Bounce, SplitIntd, SplitTodo}
use Rattle.queue_paths.proofs.Paths.{path-parse, is_number_tells}
use Rattle.queue_states.specs.States.{is_there}

-- the digits of a number may stand as a name

no_slash : (text : List ℕ) → All IsDigit text → ¬ (Contains text 47)
no_slash text only here = let digit = All-contains IsDigit text 47 only here in omega arith

later : (text : List ℕ) → 0 < length text → slice_cmp nat_cmp [] text ≡ Less
later [] some = absurd (omega arith)
later (b ∷ text) some = refl

pub is_part : (n : ℕ) → n < 2 ^ 64 → IsLater [] (digits n)
is_part n small =
    let low : n < 10 ^ 20 = omega arith in
    let len = ap length (decimal-digits n small) in
    let short = length-decimal-le 20 n (omega arith) low small in
    record {
      whole = no_slash (digits n) (digits_all n);
      short = omega arith;
      later = later (digits n) (number-digits n small).some;
    }

-- a name in use is one of a message number
pub used_tells : (o : Option Name) (part : Part) (n : ℕ) → used o ≡ Some (Of part n) → (o ≡ Some (Of part n)) × IsTrue (is_number n)
used_tells None part n e = absurd (cc)
used_tells (Some x) part n e = used_by (is_used x) x refl e
  where
    used_by : (b : Bool) (x : Name) → is_used x ≡ b → (if b then Some x else None) ≡ Some (Of part n) → (Some x ≡ Some (Of part n)) × IsTrue (is_number n)
    used_by true x h e = (e, let same : x ≡ Of part n = cc in subst (λ y. is_used y ≡ true) same h)
    used_by false x h e = absurd (cc)

-- a name in use that stands on the disk is a file of its number
pub is_file : (d : Disk) (text : List ℕ) (part : Part) (n : ℕ) → IsSome (d.names text) → used_name text ≡ Some (Of part n) → IsTrue (is_number n) × IsTrue (is_there d part n)
is_file d text part n there e =
    let w = used_tells (parse text) part n e in
    (w.1, subst (λ t. IsSome (d.names t)) (path-parse text (Of part n) w.0) there)

-- the directory of a file

among_splits : (dir : List ℕ) (count s : ℕ) → s < count → Contains (splits_of dir count) (dir ++ 47 ∷ digits s)
among_splits dir zero s low = absurd (omega arith)
among_splits dir (suc count) s low = ⊎_elim
    (λ below.
    let rest = among_splits dir count s below in
    (suc rest.0, let within = rest.1 in omega arith, rest.2))
    (λ past. let same : s ≡ count = omega arith in (0, omega arith, ap (λ n. dir ++ 47 ∷ digits n) (sym same)))
    (cases_lt s count)

-- where a file lies, among the directories of the queue but `pid/`
pub record LiesIn (part : Part) (n : ℕ) : Type 0 where
  pub dir : List ℕ
  pub one : Contains (drop 1 queue_dirs) dir
  pub path_is : path (Of part n) ≡ dir ++ 47 ∷ digits n

split_low : (n : ℕ) → split n < 23
split_low n = omega arith

abbrev flats : List (List ℕ)
flats = codes "intd" ∷ codes "todo" ∷ codes "bounce" ∷ []

-- those of the splits, from each directory on
abbrev from_intdx : List (List ℕ)
from_intdx = splits_of (codes "intdx") 23 ++ splits_of (codes "todox") 23

abbrev from_remote : List (List ℕ)
from_remote = splits_of (codes "remote") 23 ++ from_intdx

abbrev from_local : List (List ℕ)
from_local = splits_of (codes "local") 23 ++ from_remote

abbrev from_info : List (List ℕ)
from_info = splits_of (codes "info") 23 ++ from_local

abbrev from_mess : List (List ℕ)
from_mess = splits_of (codes "mess") 23 ++ from_info

flat_one : (dir : List ℕ) → Contains flats dir → Contains (drop 1 queue_dirs) dir
flat_one dir here = Contains-append_left flats from_mess dir here

mess_one : (dir : List ℕ) → Contains from_mess dir → Contains (drop 1 queue_dirs) dir
mess_one dir here = Contains-append_right flats from_mess dir here

info_one : (dir : List ℕ) → Contains from_info dir → Contains (drop 1 queue_dirs) dir
info_one dir here = mess_one dir (Contains-append_right (splits_of (codes "mess") 23) from_info dir here)

local_one : (dir : List ℕ) → Contains from_local dir → Contains (drop 1 queue_dirs) dir
local_one dir here = info_one dir (Contains-append_right (splits_of (codes "info") 23) from_local dir here)

remote_one : (dir : List ℕ) → Contains from_remote dir → Contains (drop 1 queue_dirs) dir
remote_one dir here = local_one dir (Contains-append_right (splits_of (codes "local") 23) from_remote dir here)

intdx_one : (dir : List ℕ) → Contains from_intdx dir → Contains (drop 1 queue_dirs) dir
intdx_one dir here = remote_one dir (Contains-append_right (splits_of (codes "remote") 23) from_intdx dir here)

-- a number's own split
own : (dir : List ℕ) (n : ℕ) → Contains (splits_of dir 23) (dir ++ 47 ∷ digits (split n))
own dir n = among_splits dir 23 (split n) (split_low n)

pub lies_in : (part : Part) (n : ℕ) → LiesIn part n
unfolding path
lies_in Intd n = record { dir = codes "intd"; one = flat_one (codes "intd") (0, omega arith, refl); path_is = refl }
lies_in Todo n = record { dir = codes "todo"; one = flat_one (codes "todo") (1, omega arith, refl); path_is = refl }
lies_in Bounce n = record { dir = codes "bounce"; one = flat_one (codes "bounce") (2, omega arith, refl); path_is = refl }
lies_in Mess n =
    let at = codes "mess" ++ 47 ∷ digits (split n) in
    record { dir = at; one = mess_one at (Contains-append_left (splits_of (codes "mess") 23) from_info at (own (codes "mess") n)); path_is = refl }
lies_in Info n =
    let at = codes "info" ++ 47 ∷ digits (split n) in
    record { dir = at; one = info_one at (Contains-append_left (splits_of (codes "info") 23) from_local at (own (codes "info") n)); path_is = refl }
lies_in Local n =
    let at = codes "local" ++ 47 ∷ digits (split n) in
    record { dir = at; one = local_one at (Contains-append_left (splits_of (codes "local") 23) from_remote at (own (codes "local") n)); path_is = refl }
lies_in Remote n =
    let at = codes "remote" ++ 47 ∷ digits (split n) in
    record { dir = at; one = remote_one at (Contains-append_left (splits_of (codes "remote") 23) from_intdx at (own (codes "remote") n)); path_is = refl }
lies_in SplitIntd n =
    let at = codes "intdx" ++ 47 ∷ digits (split n) in
    record { dir = at; one = intdx_one at (Contains-append_left (splits_of (codes "intdx") 23) (splits_of (codes "todox") 23) at (own (codes "intdx") n)); path_is = refl }
lies_in SplitTodo n =
    let at = codes "todox" ++ 47 ∷ digits (split n) in
    record { dir = at; one = intdx_one at (Contains-append_right (splits_of (codes "intdx") 23) (splits_of (codes "todox") 23) at (own (codes "todox") n)); path_is = refl }
