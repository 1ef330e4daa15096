-- The loop over the lines of a file.
use Rattle.std.proofs.Common.{◌≡◌, ℕ, ◌+◌, ◌<◌, List, ◌∷◌, ◌++◌, length, take, drop, get_or, Bool, true, false, cond, nat_lt, refl, sym, ap, ◌∙◌, append_assoc, arith, Option, Some, None}
use Rattle.std.specs.Prelude.{position}
use Rattle.std.specs.List.{filter_map, cons_option, before_first, position_or_len}
use Rattle.std.specs.Option.{option_to_list}
use Rattle.std.proofs.lemmas.List.{append-nil, drop_more, drop_all, take_all}
use Rattle.std.proofs.lemmas.Bool.{cond-true, cond-false, ltb-false}
use Rattle.dot_qmail.specs.declared.line.Line.{Line}
use Rattle.dot_qmail.specs.Lines.{line_of, lines, begins_blank, plan_of}

consed : (o : Option Line) (xs : List Line) → cons_option o xs ≡ option_to_list o ++ xs
consed None xs = refl
consed (Some x) xs = refl

-- what was told so far, and what is left tells
pub goes_on : (told more all : List Line) (line : List ℕ) (ls : List (List ℕ)) (i next : ℕ) → i < length ls → line ≡ get_or ls i line → next ≡ i + 1
    → more ≡ told ++ option_to_list (line_of line) → told ++ filter_map line_of (drop i ls) ≡ all
    → more ++ filter_map line_of (drop next ls) ≡ all
goes_on told more all line ls i next lt e n grown h =
    let here = option_to_list (line_of line) in
    let rest = filter_map line_of (drop (i + 1) ls) in
    ap (λ k. more ++ filter_map line_of (drop k ls)) n
    ∙ ap (λ t. t ++ rest) grown
    ∙ append_assoc told here rest
    ∙ ap (λ t. told ++ t) (sym (ap (filter_map line_of) (drop_more ls i line lt ∙ ap (λ x. x ∷ drop (i + 1) ls) (sym e)) ∙ consed (line_of line) rest))
    ∙ h

pub all_told : (told all : List Line) (ls : List (List ℕ)) (i : ℕ) → i ≡ length ls → told ++ filter_map line_of (drop i ls) ≡ all → told ≡ all
all_told told all ls i e h = sym (append-nil told) ∙ ap (λ t. told ++ filter_map line_of t) (sym (drop_all i ls (omega arith))) ∙ h

-- What stands before a place

pub before_place : (p : ℕ → Bool) (text : List ℕ) (at : ℕ) → position p text ≡ Some at → take at text ≡ before_first p text
before_place p text at e = ap (λ n. take n text) (sym (by (nat_lt (position_or_len p text) (length text)) e))
  where
    by : (b : Bool) → cond b (Some (position_or_len p text)) None ≡ Some at → position_or_len p text ≡ at
    by true e = cc
    by false e = absurd (cc)

pub before_none : (p : ℕ → Bool) (text : List ℕ) → position p text ≡ None → text ≡ before_first p text
before_none p text e = sym (take_all (position_or_len p text) text (ltb-false (position_or_len p text) (length text) (by (nat_lt (position_or_len p text) (length text)) e)))
  where
    by : (b : Bool) → ◌≡◌ {A = Option ℕ} (cond b (Some (position_or_len p text)) None) None → b ≡ false
    by true e = absurd (cc)
    by false e = refl

-- The plan of a file whose first line isn't blank

pub planned : (bytes : List ℕ) (told : List Line) → begins_blank bytes ≡ false → told ≡ filter_map line_of (lines bytes) → plan_of bytes ≡ Some told
unfolding plan_of
planned bytes told goes e = cond-false (begins_blank bytes) None (Some (filter_map line_of (lines bytes))) goes ∙ ap Some (sym e)

pub unplanned : (bytes : List ℕ) → begins_blank bytes ≡ true → plan_of bytes ≡ None
unfolding plan_of
unplanned bytes blank = cond-true (begins_blank bytes) None (Some (filter_map line_of (lines bytes))) blank
