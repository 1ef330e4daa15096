-- Pid names: they have the form of a name, and lie in one directory.
use Rattle.std.proofs.Common.{◌≡◌, ◌≢◌, ⊎_elim, ℕ, ◌+◌, ◌-◌, ◌^◌, ◌<◌, ◌≤◌, List, [], ◌∷◌, ◌++◌, length, map, take, length-append, All, Contains, Bool, true, false, not, refl, sym, ap, ◌∙◌, subst, arith}
use Rattle.std.specs.Prelude.{◌==◌, codes}
use Rattle.std.specs.List.{AllByRecursion, suffix_len, slice_split}
use Rattle.std.specs.Int.Digits.{digits_of}
use Rattle.std.proofs.lemmas.Bool.Decides.{eqb_tells}
use Rattle.std.proofs.lemmas.Int.Digits.{length-digits_of-le}
use Rattle.std.proofs.lemmas.List.{get_or-append_right, length-map}
use Rattle.std.proofs.lemmas.List.Elements.{All-from_recursion, All-cons, All-nil, All-contains}
use Rattle.std.proofs.lemmas.List.Splits.{slice_split_at, slice_split_none}
use Rattle.std.proofs.lemmas.List.Sums.{suffix_len_is}
use Rattle.mail_bytes.specs.Decimal.{digits, IsDigit}
use Rattle.mail_bytes.proofs.Digits.{digits_only, digits_zero, digits_more}
use Rattle.call_fs.specs.Names.{IsPart, AreParts, IsName}
use Rattle.call_fs.specs.Disk.{dir_of}
use Rattle.queue_paths.specs.Names.{path}
use Rattle.queue_inject.specs.declared.injection.Arguments.{Arguments}
use Rattle.queue_inject.specs.Causes.{pid_name, IsTry}

-- a byte that is neither `/` nor NUL
abbrev IsPlain : ℕ → Type 0
IsPlain b = ((b == 47) ≡ false) × (0 < b)

abbrev ArePlain : List ℕ → Type 0
ArePlain text = AllByRecursion IsPlain text

plain-digits : (text : List ℕ) → AllByRecursion IsDigit text → ArePlain text
plain-digits [] only = tt
plain-digits (b ∷ text) only =
    let first = only.0 in
    ((⊎_elim (λ w. let is = w.1 in absurd (omega arith)) (λ w. w.0) (eqb_tells b 47), omega arith), plain-digits text only.1)

plain-append : (first last : List ℕ) → ArePlain first → ArePlain last → ArePlain (first ++ last)
plain-append [] last h k = k
plain-append (b ∷ first) last h k = (h.0, plain-append first last h.1 k)

no_slash : (text : List ℕ) → ArePlain text → AllByRecursion (λ b. not (b == 47) ≡ true) text
no_slash [] h = tt
no_slash (b ∷ text) h = (ap not h.0.0, no_slash text h.1)

no_separator : (text : List ℕ) → ArePlain text → AllByRecursion (λ b. (b == 47) ≡ false) text
no_separator [] h = tt
no_separator (b ∷ text) h = (h.0.0, no_separator text h.1)

positive : (text : List ℕ) → ArePlain text → AllByRecursion (λ b. 0 < b) text
positive [] h = tt
positive (b ∷ text) h = (h.0.1, positive text h.1)

-- a number of so many decimal digits at most
short-digits : (n k : ℕ) → 1 ≤ k → n < 10 ^ k → length (digits n) ≤ k
short-digits n k one below = ⊎_elim
    (λ w. subst (λ t. length t ≤ k) (sym (digits_zero n w.1)) one)
    (λ w. let far = w.1 in
    subst (λ t. length t ≤ k) (sym (digits_more n (omega arith)))
    (subst (λ l. l ≤ k) (sym (length-map (digits_of 10 n) (λ d. 48 + d))) (length-digits_of-le 10 k n (omega arith) below)))
    (eqb_tells n 0)

-- Directories and parts

dir_pid : (rest : List ℕ) → ArePlain rest → dir_of (codes "pid/" ++ rest) ≡ codes "pid"
dir_pid rest plain =
    let name : List ℕ = codes "pid/" ++ rest in
    let long = length-append (codes "pid/") rest in
    let after : suffix_len (λ b. not (b == 47)) name ≡ length name - 4 =
    suffix_len_is (λ b. not (b == 47)) name 4 0 (omega arith)
    (λ k from to. ap (λ b. not (b == 47)) (get_or-append_right (codes "pid/") rest 4 k 0 refl from) ∙ All-from_recursion (λ b. not (b == 47) ≡ true) rest (no_slash rest plain) (k - 4) 0 (omega arith))
    (λ some. refl) in
    let at : length name - suffix_len (λ b. not (b == 47)) name - 1 ≡ 3 = omega arith in
    ap (λ n. take n name) at

is_part : (text : List ℕ) → ArePlain text → 1 ≤ length text → length text ≤ 255 → IsPart text
is_part text plain some short = record {
  positive = some;
  short = short;
  no_nul = λ here. let above : 0 < 0 = All-contains (λ b. 0 < b) text 0 (All-from_recursion (λ b. 0 < b) text (positive text plain)) here in absurd (omega arith);
}

is_name_pid : (rest : List ℕ) → ArePlain rest → 1 ≤ length rest → length rest ≤ 255 → IsName (codes "pid/" ++ rest)
is_name_pid rest plain some short =
    let parts : slice_split (λ b. b == 47) (codes "pid/" ++ rest) ≡ codes "pid" ∷ (rest ∷ []) =
    slice_split_at (λ b. b == 47) (codes "pid") 47 rest (All-from_recursion (λ b. (b == 47) ≡ false) (codes "pid") (refl, (refl, (refl, tt)))) refl
    ∙ ap (λ (last : List (List ℕ)). codes "pid" ∷ last) (slice_split_none (λ b. b == 47) rest (All-from_recursion (λ b. (b == 47) ≡ false) rest (no_separator rest plain))) in
    subst (λ (all : List (List ℕ)). All IsPart all) (sym parts)
    (All-cons IsPart (codes "pid") (rest ∷ [])
    (is_part (codes "pid") ((refl, omega arith), ((refl, omega arith), ((refl, omega arith), tt))) (omega arith) (omega arith))
    (All-cons IsPart rest [] (is_part rest plain some short) (All-nil IsPart)))

-- what follows `pid/`
abbrev numbers : Arguments → ℕ → List ℕ
numbers args k = digits args.pid ++ 46 ∷ (digits args.start ++ 46 ∷ digits k)

plain-numbers : (args : Arguments) (k : ℕ) → ArePlain (numbers args k)
plain-numbers args k =
    let plain : (n : ℕ) → ArePlain (digits n) = λ n. plain-digits (digits n) (digits_only n) in
    plain-append (digits args.pid) (46 ∷ (digits args.start ++ 46 ∷ digits k)) (plain args.pid)
    ((refl, omega arith), plain-append (digits args.start) (46 ∷ digits k) (plain args.start) ((refl, omega arith), plain k))

pub dir_pid_name : (args : Arguments) (k : ℕ) → dir_of (pid_name args k) ≡ codes "pid"
unfolding path
dir_pid_name args k = dir_pid (numbers args k) (plain-numbers args k)

pub pid_name_is_name : (args : Arguments) (k : ℕ) → args.pid < 2 ^ 32 → args.start < 2 ^ 64 → IsTry k → IsName (pid_name args k)
unfolding path
pid_name_is_name args k low soon try =
    let last = try.1 in
    let p = short-digits args.pid 20 (omega arith) (omega arith) in
    let s = short-digits args.start 20 (omega arith) (omega arith) in
    let t = short-digits k 20 (omega arith) (omega arith) in
    let long = length-append (digits args.pid) (46 ∷ (digits args.start ++ 46 ∷ digits k)) in
    let longer = length-append (digits args.start) (46 ∷ digits k) in
    is_name_pid (numbers args k) (plain-numbers args k) (omega arith) (omega arith)
