-- The lines of a control file.
use Rattle.std.proofs.Common.{◌≡◌, ℕ, ◌+◌, ◌*◌, ◌^◌, ◌<◌, ◌≤◌, List, [], ◌∷◌, ◌++◌, ◌&&◌, length, Some, None, true, refl, ap, ◌∙◌, arith}
use Rattle.std.specs.Prelude.{Contains, if◌then◌else◌}
use Rattle.std.specs.List.{list_all, onto_first}
use Rattle.std.proofs.lemmas.List.{length-append}
use Rattle.std.specs.Prelude.{nat_le}
use Rattle.std.specs.Char.{is_ascii_digit}
use Rattle.std.proofs.lemmas.Bool.{lt-ltb, le-leb}
use Rattle.std.proofs.Math.Numerals.{add-one}
use Rattle.std.proofs.Math.Nat.{pow-le-pow_right, pow-suc}
use Rattle.mail_bytes.specs.Decimal.{value}
use Rattle.address_rules.specs.Cuts.{first_cut}
use Rattle.address_rules.specs.Lines.{lines, short_number}
use Rattle.address_rules.proofs.ByteCuts.{first_cut_is, first_cut_lacks, head_differs, tail_lacks, differs_eqb}

line_then : (line after : List ℕ) → ¬ (Contains line 10) → lines (line ++ 10 ∷ after) ≡ line ∷ lines after
line_then [] after lacks = refl
line_then (b ∷ line) after lacks =
    ap (λ t. if t then [] ∷ lines (line ++ 10 ∷ after) else onto_first b (lines (line ++ 10 ∷ after))) (differs_eqb b 10 (head_differs b 10 line lacks))
    ∙ ap (onto_first b) (line_then line after (tail_lacks b 10 line lacks))

last_line : (b : ℕ) (line : List ℕ) → ¬ (Contains (b ∷ line) 10) → lines (b ∷ line) ≡ (b ∷ line) ∷ []
last_line b [] lacks = ap (λ t. if t then [] ∷ [] else (b ∷ []) ∷ []) (differs_eqb b 10 (head_differs b 10 [] lacks))
last_line b (x ∷ line) lacks =
    ap (λ t. if t then [] ∷ lines (x ∷ line) else onto_first b (lines (x ∷ line))) (differs_eqb b 10 (head_differs b 10 (x ∷ line) lacks))
    ∙ ap (onto_first b) (last_line x line (tail_lacks b 10 (x ∷ line) lacks))

pub lines_cut : (text line after : List ℕ) → first_cut 10 text ≡ Some (line, after) → lines text ≡ line ∷ lines after
lines_cut text line after e =
    let cut = first_cut_is 10 text (line, after) e in
    ap lines cut.split ∙ line_then line after cut.first

pub lines_shorter : (text line after : List ℕ) → first_cut 10 text ≡ Some (line, after) → length after < length text
lines_shorter text line after e =
    let cut = first_cut_is 10 text (line, after) e in
    let total = ap length cut.split ∙ length-append line (10 ∷ after) in
    omega arith

pub lines_uncut : (text : List ℕ) → 0 < length text → first_cut 10 text ≡ None → lines text ≡ text ∷ []
lines_uncut [] some e = absurd (omega arith)
lines_uncut (b ∷ rest) some e = last_line b rest (first_cut_lacks 10 (b ∷ rest) e)

-- A number of at most nine digits.

small_power : (i : ℕ) → i < 9 → 10 ^ i ≤ 100000000
small_power i h = pow-le-pow_right {n = 10} (omega arith) {i = i} {j = 8} (omega arith)

-- one digit more
pub number_fits : (i number : ℕ) → i < 9 → number < 10 ^ i → number * 10 + 9 < 1000000000
number_fits i number h small = let power = small_power i h in omega arith

pub number_more : (i number digit : ℕ) → digit ≤ 9 → number < 10 ^ i → number * 10 + digit < 10 ^ (i + 1)
number_more i number digit h small = rw (add-one, pow-suc) (omega arith)

pub short_is : (text : List ℕ) → 0 < length text → length text ≤ 9 → list_all is_ascii_digit text ≡ true → short_number text ≡ Some (value text)
short_is text some short only =
    ap (λ t. if t then Some (value text) else None)
    (ap (λ t. (t && nat_le (length text) 9) && list_all is_ascii_digit text) (lt-ltb 0 (length text) some)
    ∙ ap (λ t. t && list_all is_ascii_digit text) (le-leb (length text) 9 short)
    ∙ only)
