-- The users of a file as a function are those of the grammar.
use Rattle.std.proofs.Common.{◌≡◌, ◌≢◌, ℕ, List, [], ◌∷◌, ◌++◌, Bool, true, false, Option, Some, None, cond, eqb, refl, sym, ap, ◌∙◌, ⊎_elim, append-nil, append_assoc}
use Rattle.std.specs.Prelude.{All}
use Rattle.std.specs.List.{AllByRecursion, onto_first, slice_split}
use Rattle.std.specs.Option.{option_map}
use Rattle.std.proofs.lemmas.Bool.{ne_eqb}
use Rattle.std.proofs.lemmas.List.Elements.{All-from_recursion, All-head, All-tail, recursion_from_All}
use Rattle.std.proofs.lemmas.List.Splits.{slice_split_at, slice_split_none}
use Rattle.std.proofs.lemmas.Slice.Eq.{bytes_eq-Decides}
use Rattle.local_spawn.specs.declared.assign.Assignment.{Assignment}
use Rattle.local_spawn.specs.Assign.{HasNoDot, HasNoNewline, IsBadLine, IsFile, IsFirstLine, full_line, lines_of}
use Rattle.local_spawn.specs.Assign.IsFirstLine.{IsEnded, IsLast}
use Rattle.local_spawn.specs.Fields.{IsAssignment, line_of, parsed}
use Rattle.local_spawn.specs.Users.{is_dot, users_in, users_of, with_line}
use Rattle.local_spawn.proofs.FieldLemmas.{line_lacks, parsed_is, parsed_of}

abbrev is_newline : ℕ → Bool
is_newline b = eqb b 10

no_newline : (line : List ℕ) → AllByRecursion (λ b. b ≢ 10) line → AllByRecursion (λ b. is_newline b ≡ false) line
no_newline [] h = tt
no_newline (b ∷ line) h = (ne_eqb b 10 h.0, no_newline line h.1)

all_pass : (line : List ℕ) → AllByRecursion (λ b. b ≢ 10) line → All (λ b. is_newline b ≡ false) line
all_pass line h = All-from_recursion (λ b. is_newline b ≡ false) line (no_newline line h)

-- a line and its newline are the first piece
first_of : (line more : List ℕ) → AllByRecursion (λ b. b ≢ 10) line → users_in (line ++ 10 ∷ more) ≡ with_line (parsed line) (is_dot line) (users_in more)
first_of line more h = ap users_of (slice_split_at is_newline line 10 more (all_pass line h) refl)

last_of : (line : List ℕ) → AllByRecursion (λ b. b ≢ 10) line → users_in line ≡ with_line (parsed line) (is_dot line) None
last_of line h = ap users_of (slice_split_none is_newline line (all_pass line h))

-- the assignments of these lines, before those of later ones
abbrev before : List Assignment → Option (List Assignment) → Option (List Assignment)
before [] others = others
before (a ∷ lines) others = option_map (λ later. a ∷ later) (before lines others)

before_some : (lines : List Assignment) → before lines (Some []) ≡ Some lines
before_some [] = refl
before_some (a ∷ lines) = ap (λ o. option_map (λ later. a ∷ later) o) (before_some lines)

before_none : (lines : List Assignment) → before lines None ≡ None
before_none [] = refl
before_none (a ∷ lines) = ap (λ o. option_map (λ later. a ∷ later) o) (before_none lines)

after_lines : (lines : List Assignment) (rest : List ℕ) → All IsAssignment lines → users_in (lines_of lines ++ rest) ≡ before lines (users_in rest)
after_lines [] rest h = refl
after_lines (a ∷ lines) rest h =
    let good = All-head IsAssignment a lines h in
    ap users_in (append_assoc (full_line a) (lines_of lines) rest ∙ append_assoc (line_of a) (10 ∷ []) (lines_of lines ++ rest))
    ∙ first_of (line_of a) (lines_of lines ++ rest) (line_lacks a good)
    ∙ ap (λ o. with_line o (is_dot (line_of a)) (users_in (lines_of lines ++ rest))) (parsed_of a good)
    ∙ ap (λ o. option_map (λ later. a ∷ later) o) (after_lines lines rest (All-tail IsAssignment a lines h))

plain : (text : List ℕ) → HasNoNewline text → AllByRecursion (λ b. b ≢ 10) text
plain text h = recursion_from_All (λ b. b ≢ 10) text h

-- A line that assigns nothing

no_truth : (b : Bool) → (b ≡ true → ⊥) → b ≡ false
no_truth true isnt = absurd (isnt refl)
no_truth false isnt = refl

unread : (line : List ℕ) → HasNoNewline line → ((a : Assignment) → IsAssignment a → line ≢ line_of a) → parsed line ≡ None
unread line h isnt = by (parsed line) refl where
  by : (o : Option Assignment) → parsed line ≡ o → parsed line ≡ None
  by None e = e
  by (Some a) e = let is = parsed_is line a h e in absurd (isnt a is.1 is.0)

stops : (rest line after : List ℕ) (dot : Bool) → IsFirstLine rest line after → parsed line ≡ None → is_dot line ≡ dot → users_in rest ≡ with_line None dot None
stops rest line after dot (IsEnded h e) none is =
    ap users_in e ∙ first_of line after (plain line h) ∙ ap (λ o. with_line o (is_dot line) (users_in after)) none ∙ by dot is
  where
    by : (d : Bool) → is_dot line ≡ d → with_line None (is_dot line) (users_in after) ≡ with_line None d None
    by true f = ap (λ x. with_line None x (users_in after)) f
    by false f = ap (λ x. with_line None x (users_in after)) f
stops rest line after dot (IsLast h some e end) none is =
    ap users_in e ∙ last_of line (plain line h) ∙ ap (λ o. with_line o (is_dot line) None) none ∙ ap (λ x. with_line None x None) is

line_plain : (rest line after : List ℕ) → IsFirstLine rest line after → HasNoNewline line
line_plain rest line after (IsEnded h e) = h
line_plain rest line after (IsLast h some e end) = h

pub read_is : (bytes : List ℕ) (lines : List Assignment) → IsFile bytes lines → users_in bytes ≡ Some lines
read_is bytes lines c =
    ap users_in c.text ∙ after_lines lines c.rest c.good ∙ ap (before lines) (stops c.rest (46 ∷ []) c.after true c.next refl refl) ∙ before_some lines

pub bad_is : (bytes : List ℕ) (number : ℕ) → IsBadLine bytes number → users_in bytes ≡ None
bad_is bytes number bad =
    let c = bad.comes in
    let none = unread bad.line (line_plain c.rest bad.line c.after c.next) bad.bad in
    let other : is_dot bad.line ≡ false = no_truth (is_dot bad.line) (λ e. bad.no_dot ((bytes_eq-Decides bad.line (46 ∷ [])).0 e)) in
    ap users_in c.text ∙ after_lines bad.assignments c.rest c.good ∙ ap (before bad.assignments) (stops c.rest bad.line c.after false c.next none other) ∙ before_none bad.assignments

-- No `.`

-- an empty line at the end adds nothing
more_empty : (pieces : List (List ℕ)) → users_of (pieces ++ [] ∷ []) ≡ users_of pieces
more_empty [] = refl
more_empty (line ∷ later) = ap (λ o. with_line (parsed line) (is_dot line) o) (more_empty later)

onto_more : (b : ℕ) (pieces more : List (List ℕ)) → pieces ≢ [] → onto_first b (pieces ++ more) ≡ onto_first b pieces ++ more
onto_more b [] more some = absurd (some refl)
onto_more b (piece ∷ pieces) more some = refl

cons_some : (piece : List ℕ) (pieces : List (List ℕ)) → ◌≢◌ {A = List (List ℕ)} (piece ∷ pieces) []
cons_some piece pieces e = absurd (cc)

some_pieces : (text : List ℕ) → slice_split is_newline text ≢ []
some_pieces [] = cons_some [] []
some_pieces (b ∷ text) = by (is_newline b) (slice_split is_newline text) where
  by : (t : Bool) (pieces : List (List ℕ)) → cond t ([] ∷ pieces) (onto_first b pieces) ≢ []
  by true pieces = cons_some [] pieces
  by false [] = cons_some (b ∷ []) []
  by false (piece ∷ pieces) = cons_some (b ∷ piece) pieces

split_more : (text : List ℕ) → slice_split is_newline (text ++ 10 ∷ []) ≡ slice_split is_newline text ++ [] ∷ []
split_more [] = refl
split_more (b ∷ text) =
    ap (λ pieces. cond (is_newline b) ([] ∷ pieces) (onto_first b pieces)) (split_more text)
    ∙ by (is_newline b)
  where
    by : (t : Bool) → cond t ([] ∷ (slice_split is_newline text ++ [] ∷ [])) (onto_first b (slice_split is_newline text ++ [] ∷ []))
        ≡ cond t ([] ∷ slice_split is_newline text) (onto_first b (slice_split is_newline text)) ++ [] ∷ []
    by true = refl
    by false = onto_more b (slice_split is_newline text) ([] ∷ []) (some_pieces text)

pub no_dot_is : (bytes : List ℕ) → HasNoDot bytes → users_in bytes ≡ None
no_dot_is bytes h = ⊎_elim (λ whole. ap users_in whole ∙ no_lines) (λ cut_off. sym (ap users_of (split_more bytes) ∙ more_empty (slice_split is_newline bytes)) ∙ ap users_in cut_off ∙ no_lines) h.text
  where
    no_lines : users_in (lines_of h.assignments) ≡ None
    no_lines = ap users_in (sym (append-nil (lines_of h.assignments))) ∙ after_lines h.assignments [] h.good ∙ before_none h.assignments
