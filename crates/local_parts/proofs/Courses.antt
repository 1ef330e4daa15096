-- Instructions, line by line.
use Rattle.std.proofs.Common.{◌≡◌, ℕ, suc, ◌+◌, ◌-◌, ◌<◌, ◌≤◌, List, [], ◌∷◌, ◌++◌, length, take, drop, get_or, Option, Some, None, refl, sym, ap, ◌∙◌, subst, append_assoc, arith, length-take, length-drop}
use Rattle.std.proofs.lemmas.List.{append-nil, drop-drop, drop_all, take_all}
use Rattle.std.proofs.lemmas.List.Sums.{prefix_len-le-length}
use Rattle.std.proofs.lemmas.Option.{slice_get-get_or, slice_get_past}
use Rattle.std.proofs.Math.Seq.{take-add}
use Rattle.std.specs.Prelude.{slice_get}
use Rattle.std.specs.List.{prefix_len}
use Rattle.dot_qmail.specs.declared.line.Line.{Line}
use Rattle.dot_qmail.specs.declared.line.Line.TheVariants as line
use Rattle.local_parts.specs.Course.{Course, Work, after_work, cut, lines_of, passed, up_to_work, work_at, work_of}
use Rattle.local_parts.specs.Course.Work.{Nothing}
use Rattle.local_parts.specs.Tally.{is_forward}

-- the lines up to the next one that is no forward, with it, and those after it are all lines
pub split : (lines : List Line) → up_to_work lines ++ after_work lines ≡ lines
split [] = refl
split (line.Forward address ∷ more) = ap (λ t. line.Forward address ∷ t) (split more)
split (line.Command text ∷ more) = refl
split (line.Maildir path ∷ more) = refl
split (line.Mailbox path ∷ more) = refl

-- a line that is done is one of all lines still
pub lines_stay : (c : Course) → lines_of (passed c) ≡ lines_of c
lines_stay c = append_assoc c.done (up_to_work c.ahead) (after_work c.ahead) ∙ ap (λ t. c.done ++ t) (split c.ahead)

-- By how many forwards the lines begin with

abbrev count : List Line → ℕ
count lines = prefix_len is_forward lines

abbrev pub work_by : Option Line → Work
work_by None = Nothing
work_by (Some line) = work_at line

pub work_is : (lines : List Line) → work_by (slice_get lines (count lines)) ≡ work_of lines
work_is [] = refl
work_is (line.Forward address ∷ more) =
    let one : 1 + count more ≡ suc (count more) = omega arith in
    ap (λ k. work_by (slice_get (line.Forward address ∷ more) k)) one ∙ work_is more
work_is (line.Command text ∷ more) = refl
work_is (line.Maildir path ∷ more) = refl
work_is (line.Mailbox path ∷ more) = refl

-- that many lines, and one more if there is one
abbrev through : List Line → ℕ
through [] = 0
through (line.Forward address ∷ more) = suc (through more)
through (line.Command text ∷ more) = 1
through (line.Maildir path ∷ more) = 1
through (line.Mailbox path ∷ more) = 1

pub upto_is : (lines : List Line) → take (through lines) lines ≡ up_to_work lines
upto_is [] = refl
upto_is (line.Forward address ∷ more) = ap (λ t. line.Forward address ∷ t) (upto_is more)
upto_is (line.Command text ∷ more) = refl
upto_is (line.Maildir path ∷ more) = refl
upto_is (line.Mailbox path ∷ more) = refl

pub after_is : (lines : List Line) → drop (through lines) lines ≡ after_work lines
after_is [] = refl
after_is (line.Forward address ∷ more) = after_is more
after_is (line.Command text ∷ more) = refl
after_is (line.Maildir path ∷ more) = refl
after_is (line.Mailbox path ∷ more) = refl

pub through_short : (lines : List Line) → through lines ≤ length lines
through_short [] = omega arith
through_short (line.Forward address ∷ more) = let h = through_short more in omega arith
through_short (line.Command text ∷ more) = omega arith
through_short (line.Maildir path ∷ more) = omega arith
through_short (line.Mailbox path ∷ more) = omega arith

pub through_more : (lines : List Line) → count lines < length lines → through lines ≡ count lines + 1
through_more [] lt = absurd (omega arith)
through_more (line.Forward address ∷ more) lt = let h = through_more more (omega arith) in omega arith
through_more (line.Command text ∷ more) lt = refl
through_more (line.Maildir path ∷ more) lt = refl
through_more (line.Mailbox path ∷ more) lt = refl

pub through_all : (lines : List Line) → length lines ≤ count lines → through lines ≡ count lines
through_all [] le = refl
through_all (line.Forward address ∷ more) le = let h = through_all more (omega arith) in omega arith
through_all (line.Command text ∷ more) le = absurd (omega arith)
through_all (line.Maildir path ∷ more) le = absurd (omega arith)
through_all (line.Mailbox path ∷ more) le = absurd (omega arith)

-- By how many lines a caller found there

pub upto_then : (lines : List Line) (k : ℕ) → k ≡ prefix_len is_forward lines → k < length lines → take (k + 1) lines ≡ up_to_work lines
upto_then lines k e lt =
    let same : k + 1 ≡ through lines = ap (λ n. n + 1) e ∙ sym (through_more lines (subst (λ n. n < length lines) e lt)) in
    ap (λ n. take n lines) same ∙ upto_is lines

pub after_then : (lines : List Line) (k : ℕ) → k ≡ prefix_len is_forward lines → k < length lines → drop (k + 1) lines ≡ after_work lines
after_then lines k e lt =
    let same : k + 1 ≡ through lines = ap (λ n. n + 1) e ∙ sym (through_more lines (subst (λ n. n < length lines) e lt)) in
    ap (λ n. drop n lines) same ∙ after_is lines

pub upto_else : (lines : List Line) (k : ℕ) → k ≡ prefix_len is_forward lines → length lines ≤ k → take k lines ≡ up_to_work lines
upto_else lines k e le =
    let same : k ≡ through lines = e ∙ sym (through_all lines (subst (λ n. length lines ≤ n) e le)) in
    ap (λ n. take n lines) same ∙ upto_is lines

pub after_else : (lines : List Line) (k : ℕ) → k ≡ prefix_len is_forward lines → length lines ≤ k → drop k lines ≡ after_work lines
after_else lines k e le =
    let same : k ≡ through lines = e ∙ sym (through_all lines (subst (λ n. length lines ≤ n) e le)) in
    ap (λ n. drop n lines) same ∙ after_is lines

pub within_else : (lines : List Line) (k : ℕ) → k ≡ prefix_len is_forward lines → k ≤ length lines
within_else lines k e = subst (λ n. n ≤ length lines) (sym e) (prefix_len-le-length is_forward lines)

-- By how many lines are done

pub rest_is : (next : ℕ) (lines : List Line) → take (length lines - next) (drop next lines) ≡ drop next lines
rest_is next lines = let size = length-drop next lines in take_all (length lines - next) (drop next lines) (omega (arith, size))

pub done_more : (lines : List Line) (next k : ℕ) → take k (drop next lines) ≡ up_to_work (drop next lines) → take (next + k) lines ≡ take next lines ++ up_to_work (drop next lines)
done_more lines next k e = take-add next k lines ∙ ap (λ t. take next lines ++ t) e

course_is : (done more ahead later : List Line) → done ≡ more → ahead ≡ later → ◌≡◌ {A = Course} (record { done = done; ahead = ahead }) (record { done = more; ahead = later })
course_is done more ahead later d a = ap (λ t. record { done = t; ahead = ahead }) d ∙ ap (λ t. record { done = more; ahead = t }) a

abbrev pub at_line : List Line → ℕ → Course
at_line lines next = record { done = take next lines; ahead = drop next lines }

pub so_far : (lines : List Line) (next k : ℕ) → take k (drop next lines) ≡ up_to_work (drop next lines) → take (next + k) lines ≡ lines_of (cut (at_line lines next))
so_far lines next k e = done_more lines next k e ∙ sym (append-nil (take next lines ++ up_to_work (drop next lines)))

pub passed_is : (lines : List Line) (next k : ℕ) → take k (drop next lines) ≡ up_to_work (drop next lines) → drop k (drop next lines) ≡ after_work (drop next lines)
    → at_line lines (next + k) ≡ passed (at_line lines next)
passed_is lines next k u a =
    course_is (take (next + k) lines) (take next lines ++ up_to_work (drop next lines)) (drop (next + k) lines) (after_work (drop next lines))
    (done_more lines next k u) (sym (drop-drop k next lines) ∙ a)

pub cut_is : (lines : List Line) (next k : ℕ) → take k (drop next lines) ≡ up_to_work (drop next lines) → at_line (take (next + k) lines) (next + k) ≡ cut (at_line lines next)
cut_is lines next k u =
    let short = length-take (next + k) lines in
    course_is (take (next + k) (take (next + k) lines)) (take next lines ++ up_to_work (drop next lines)) (drop (next + k) (take (next + k) lines)) []
    (take_all (next + k) (take (next + k) lines) (omega (arith, short)) ∙ done_more lines next k u)
    (drop_all (next + k) (take (next + k) lines) (omega (arith, short)))

pub work_there : (lines : List Line) (k : ℕ) (it : Line) → k ≡ prefix_len is_forward lines → k < length lines → it ≡ get_or lines k it → work_at it ≡ work_of lines
work_there lines k it e lt is = ap work_by (ap Some is ∙ sym (slice_get-get_or lines k it lt) ∙ ap (slice_get lines) e) ∙ work_is lines

pub work_none : (lines : List Line) (k : ℕ) → k ≡ prefix_len is_forward lines → length lines ≤ k → Nothing ≡ work_of lines
work_none lines k e le = ap work_by (sym (slice_get_past lines k le) ∙ ap (slice_get lines) e) ∙ work_is lines
