-- Which addresses a file names, line by line.
use Rattle.std.proofs.Common.{◌≡◌, ◌≢◌, ℕ, ◌+◌, ◌-◌, ◌<◌, ◌≤◌, List, [], ◌∷◌, ◌++◌, length, get_or, drop, Bool, true, false, cond, eqb, Option, Some, None, refl, sym, ap, ◌∙◌, subst, ⊎_elim, arith, append_assoc, length-append, length-drop, zero-add, count_by, nat_eq, bytes_eq}
use Rattle.std.specs.Prelude.{◌||◌, if◌then◌else◌}
use Rattle.std.specs.List.{All, filter_map, cons_option, onto_first, ends_with}
use Rattle.std.specs.Cmp.Lexicographic.{pointwise}
use Rattle.std.specs.Option.{option_and_then, option_to_list}
use Rattle.std.proofs.lemmas.Bool.{cases_Bool, cases_eq, cases_lt, cond_both, false_from_ne_true, cond-true, cond-false, eqb-true, eqb-false, eq-eqb, ne_eqb}
use Rattle.std.proofs.lemmas.Bool.Decides.{Decides-eqb, same_from_decides}
use Rattle.std.proofs.lemmas.List.{append-nil, drop_more, drop_all, length_push, get_or_append_left, get_or-drop, get_or_at}
use Rattle.std.proofs.lemmas.List.Sums.{sum_by-cons, sum_by-append, sum_by_push}
use Rattle.std.proofs.lemmas.List.Elements.{All-nil, All-cons, All-head, All-tail, All-append, All-get_or}
use Rattle.std.proofs.lemmas.List.Prefix.{front_from_reads}
use Rattle.std.proofs.lemmas.Slice.Eq.{bytes_eq-Decides, ends_is}
use Rattle.bounce_record.specs.Notes.{note_name, heading, missing_newline, softened, note_text, lines, is_empty, first_line, first_lines, headings, named, notes_of, count, parting, with_note}
use Rattle.bounce_record.proofs.Naming.{named_heading, heading_named}
use Rattle.bounce_record.proofs.Softening.{IsSoft, soft_from, pair_ends, softened_reads, length-softened, plain_at}

-- The loop over the lines

consed : {A : Type 0} (o : Option A) (xs : List A) → cons_option o xs ≡ option_to_list o ++ xs
consed None xs = refl
consed (Some x) xs = refl

named_first : (o : Option (List ℕ)) (xs : List (List ℕ)) → filter_map named (cons_option o xs) ≡ option_to_list (option_and_then named o) ++ filter_map named xs
named_first None xs = refl
named_first (Some line) xs = consed (named line) (filter_map named xs)

one_line_more : (before : List ℕ) (ls : List (List ℕ)) (i : ℕ) (line : List ℕ) → i < length ls → line ≡ get_or ls i line
    → filter_map named (first_lines before (drop i ls)) ≡ option_to_list (option_and_then named (first_line (before, line))) ++ filter_map named (first_lines line (drop (i + 1) ls))
one_line_more before ls i line lt e =
    ap (λ t. filter_map named (first_lines before t)) (drop_more ls i line lt ∙ ap (λ x. x ∷ drop (i + 1) ls) (sym e))
    ∙ named_first (first_line (before, line)) (first_lines line (drop (i + 1) ls))

-- the addresses found so far, and those in what is left
pub goes_on : (found more all : List (List ℕ)) (before line : List ℕ) (ls : List (List ℕ)) (i next : ℕ) → i < length ls → line ≡ get_or ls i line → next ≡ i + 1
    → more ≡ found ++ option_to_list (option_and_then named (first_line (before, line))) → found ++ filter_map named (first_lines before (drop i ls)) ≡ all
    → more ++ filter_map named (first_lines line (drop next ls)) ≡ all
goes_on found more all before line ls i next lt e n grown h =
    let here = option_to_list (option_and_then named (first_line (before, line))) in
    let rest = filter_map named (first_lines line (drop (i + 1) ls)) in
    ap (λ k. more ++ filter_map named (first_lines line (drop k ls))) n
    ∙ ap (λ t. t ++ rest) grown
    ∙ append_assoc found here rest
    ∙ ap (λ t. found ++ t) (sym (one_line_more before ls i line lt e))
    ∙ h

pub all_found : (found all : List (List ℕ)) (before : List ℕ) (ls : List (List ℕ)) (i : ℕ) → i ≡ length ls → found ++ filter_map named (first_lines before (drop i ls)) ≡ all → found ≡ all
all_found found all before ls i e h =
    sym (append-nil found) ∙ ap (λ t. found ++ filter_map named (first_lines before t)) (sym (drop_all i ls (omega arith))) ∙ h

-- The addresses, byte by byte. first: the line begins a paragraph; line: its bytes so far

abbrev named_if : Bool → List ℕ → List (List ℕ)
named_if true line = option_to_list (named line)
named_if false line = []

abbrev scan : Bool → List ℕ → List ℕ → List (List ℕ)
scan first line [] = named_if first line
scan first line (b ∷ bytes) = cond (eqb b 10) (named_if first line ++ scan (is_empty line) [] bytes) (scan first (line ++ b ∷ []) bytes)

-- of the lines after these bytes of the first one
abbrev of_lines : Bool → List ℕ → List (List ℕ) → List (List ℕ)
of_lines first line [] = named_if first line
of_lines first line (l ∷ ls) = named_if first (line ++ l) ++ filter_map named (first_lines (line ++ l) ls)

-- an empty line names nothing
nothing : (first : Bool) → named_if first [] ≡ []
nothing true = refl
nothing false = refl

first_of : (before line : List ℕ) → option_to_list (option_and_then named (first_line (before, line))) ≡ named_if (is_empty before) line
first_of [] line = refl
first_of (b ∷ before) line = refl

after_line : (before : List ℕ) (ls : List (List ℕ)) → of_lines (is_empty before) [] ls ≡ filter_map named (first_lines before ls)
after_line before [] = nothing (is_empty before)
after_line before (l ∷ ls) = sym (named_first (first_line (before, l)) (first_lines l ls) ∙ ap (λ t. t ++ filter_map named (first_lines l ls)) (first_of before l))

more_of_line : (first : Bool) (line : List ℕ) (b : ℕ) (ls : List (List ℕ)) → of_lines first (line ++ b ∷ []) ls ≡ of_lines first line (onto_first b ls)
more_of_line first line b [] = sym (append-nil (named_if first (line ++ b ∷ [])))
more_of_line first line b (l ∷ ls) = ap (λ t. named_if first t ++ filter_map named (first_lines t ls)) (append_assoc line (b ∷ []) l)

scan_is : (first : Bool) (line bytes : List ℕ) → scan first line bytes ≡ of_lines first line (lines bytes)
scan_is first line [] = ap (named_if first) (sym (append-nil line)) ∙ sym (append-nil (named_if first (line ++ [])))
scan_is first line (b ∷ bytes) = ⊎_elim
    (λ is_so.
    cond-true (eqb b 10) (named_if first line ++ scan (is_empty line) [] bytes) (scan first (line ++ b ∷ []) bytes) is_so
    ∙ ap (λ t. named_if first line ++ t) (scan_is (is_empty line) [] bytes ∙ after_line line (lines bytes))
    ∙ ap (λ t. named_if first t ++ filter_map named (first_lines t (lines bytes))) (sym (append-nil line))
    ∙ ap (of_lines first line) (sym (cond-true (eqb b 10) ([] ∷ lines bytes) (onto_first b (lines bytes)) is_so)))
    (λ no.
    cond-false (eqb b 10) (named_if first line ++ scan (is_empty line) [] bytes) (scan first (line ++ b ∷ []) bytes) no
    ∙ scan_is first (line ++ b ∷ []) bytes
    ∙ more_of_line first line b (lines bytes)
    ∙ ap (of_lines first line) (sym (cond-false (eqb b 10) ([] ∷ lines bytes) (onto_first b (lines bytes)) no)))
    (cases_Bool (eqb b 10))

scanned : (bytes : List ℕ) → notes_of bytes ≡ scan true [] bytes
unfolding notes_of
scanned bytes = sym (scan_is true [] bytes ∙ after_line [] (lines bytes))

-- what holds if the line ends, and if it goes on, holds
at_byte : (R : List (List ℕ) → Type 0) (first : Bool) (line : List ℕ) (b : ℕ) (bytes : List ℕ)
    → (b ≡ 10 → R (named_if first line ++ scan (is_empty line) [] bytes)) → (b ≢ 10 → R (scan first (line ++ b ∷ []) bytes)) → R (scan first line (b ∷ bytes))
at_byte R first line b bytes over goes = ⊎_elim
    (λ is_so. subst R (sym (cond-true (eqb b 10) (named_if first line ++ scan (is_empty line) [] bytes) (scan first (line ++ b ∷ []) bytes) is_so)) (over (eqb-true b 10 is_so)))
    (λ no. subst R (sym (cond-false (eqb b 10) (named_if first line ++ scan (is_empty line) [] bytes) (scan first (line ++ b ∷ []) bytes) no)) (goes (eqb-false b 10 no)))
    (cases_Bool (eqb b 10))

-- a byte that is no newline
no_newline : (first : Bool) (line : List ℕ) (b : ℕ) (bytes : List ℕ) → b ≢ 10 → scan first line (b ∷ bytes) ≡ scan first (line ++ b ∷ []) bytes
no_newline first line b bytes h = cond-false (eqb b 10) (named_if first line ++ scan (is_empty line) [] bytes) (scan first (line ++ b ∷ []) bytes) (ne_eqb b 10 h)

-- a newline
newline : (first : Bool) (line : List ℕ) (b : ℕ) (bytes : List ℕ) → b ≡ 10 → scan first line (b ∷ bytes) ≡ named_if first line ++ scan (is_empty line) [] bytes
newline first line b bytes h = cond-true (eqb b 10) (named_if first line ++ scan (is_empty line) [] bytes) (scan first (line ++ b ∷ []) bytes) (eq-eqb b 10 h)

not_empty : (line : List ℕ) (b : ℕ) → is_empty (line ++ b ∷ []) ≡ false
not_empty [] b = refl
not_empty (c ∷ line) b = refl

-- after an empty line a paragraph begins
parted : (first : Bool) (line bytes more : List ℕ) → scan first line (bytes ++ 10 ∷ 10 ∷ more) ≡ scan first line bytes ++ scan true [] more
parted first line [] more = ap (λ t. named_if first line ++ (t ++ scan true [] more)) (nothing (is_empty line))
parted first line (b ∷ bytes) more = ⊎_elim
    (λ is_so.
    newline first line b (bytes ++ 10 ∷ 10 ∷ more) is_so
    ∙ ap (λ t. named_if first line ++ t) (parted (is_empty line) [] bytes more)
    ∙ sym (append_assoc (named_if first line) (scan (is_empty line) [] bytes) (scan true [] more))
    ∙ ap (λ t. t ++ scan true [] more) (sym (newline first line b bytes is_so)))
    (λ no.
    no_newline first line b (bytes ++ 10 ∷ 10 ∷ more) no
    ∙ parted first (line ++ b ∷ []) bytes more
    ∙ ap (λ t. t ++ scan true [] more) (sym (no_newline first line b bytes no)))
    (cases_eq b 10)

-- what a text that ends with a newline names, it names still when more comes after it
goes_further : (first : Bool) (line bytes more : List ℕ) → (rest : List (List ℕ)) × (scan first line (bytes ++ 10 ∷ more) ≡ scan first line (bytes ++ 10 ∷ []) ++ rest)
goes_further first line [] more =
    (scan (is_empty line) [] more, ap (λ t. t ++ scan (is_empty line) [] more) (sym (ap (λ t. named_if first line ++ t) (nothing (is_empty line)) ∙ append-nil (named_if first line))))
goes_further first line (b ∷ bytes) more = ⊎_elim
    (λ is_so. let w = goes_further (is_empty line) [] bytes more in (
      w.0,
      newline first line b (bytes ++ 10 ∷ more) is_so ∙ ap (λ t. named_if first line ++ t) w.1
          ∙ sym (append_assoc (named_if first line) (scan (is_empty line) [] (bytes ++ 10 ∷ [])) w.0)
          ∙ ap (λ t. t ++ w.0) (sym (newline first line b (bytes ++ 10 ∷ []) is_so)),
    ))
    (λ no. let w = goes_further first (line ++ b ∷ []) bytes more in
    (w.0, no_newline first line b (bytes ++ 10 ∷ more) no ∙ w.1 ∙ ap (λ t. t ++ w.0) (sym (no_newline first line b (bytes ++ 10 ∷ []) no))))
    (cases_eq b 10)

-- a line, and its newline
over_line : (first : Bool) (line text more : List ℕ) → All (λ b. b ≢ 10) text → scan first line (text ++ 10 ∷ more) ≡ named_if first (line ++ text) ++ scan (is_empty (line ++ text)) [] more
over_line first line [] more h = ap (λ t. named_if first t ++ scan (is_empty t) [] more) (sym (append-nil line))
over_line first line (b ∷ text) more h =
    no_newline first line b (text ++ 10 ∷ more) (All-head (λ b. b ≢ 10) b text h)
    ∙ over_line first (line ++ b ∷ []) text more (All-tail (λ b. b ≢ 10) b text h)
    ∙ ap (λ t. named_if first t ++ scan (is_empty t) [] more) (append_assoc line (b ∷ []) text)

-- a text with no empty line before its end names nothing, within a paragraph
soft_names_none : (line text : List ℕ) → IsSoft (is_empty line) text → scan false line (text ++ 10 ∷ []) ≡ []
soft_names_none line [] h = nothing (is_empty line)
soft_names_none line (b ∷ []) h = ⊎_elim
    (λ is_so. newline false line b (10 ∷ []) is_so ∙ ap (λ t. t ++ []) (nothing (is_empty line)))
    (λ no. no_newline false line b (10 ∷ []) no ∙ nothing (is_empty (line ++ b ∷ [])))
    (cases_eq b 10)
soft_names_none line (b ∷ c ∷ rest) h = ⊎_elim
    (λ is_so.
    let within : is_empty line ≡ false = false_from_ne_true (is_empty line) (λ e. h.0 e is_so) in
    newline false line b ((c ∷ rest) ++ 10 ∷ []) is_so
    ∙ ap (λ t. scan t [] ((c ∷ rest) ++ 10 ∷ [])) within
    ∙ soft_names_none [] (c ∷ rest) (subst (λ t. IsSoft t (c ∷ rest)) (eq-eqb b 10 is_so) h.1))
    (λ no.
    no_newline false line b ((c ∷ rest) ++ 10 ∷ []) no
    ∙ soft_names_none (line ++ b ∷ []) (c ∷ rest) (subst (λ t. IsSoft t (c ∷ rest)) (ne_eqb b 10 no ∙ sym (not_empty line b)) h.1))
    (cases_eq b 10)

-- A note

name_byte : (b : ℕ) → cond (eqb b 10) 95 b ≢ 10
name_byte b = cond_both (eqb b 10) 95 b (λ x. x ≢ 10) (λ _ e. absurd (omega arith)) (λ no. eqb-false b 10 no)

name_plain : (address : List ℕ) → All (λ b. b ≢ 10) (note_name address)
name_plain [] = All-nil (λ b. b ≢ 10)
name_plain (b ∷ address) = All-cons (λ b. b ≢ 10) (cond (eqb b 10) 95 b) (note_name address) (name_byte b) (name_plain address)

heading_plain : (address : List ℕ) → All (λ b. b ≢ 10) (heading (note_name address))
heading_plain address =
    All-cons (λ b. b ≢ 10) 60 (note_name address ++ 62 ∷ 58 ∷ []) (λ e. absurd (omega arith))
    (All-append (λ b. b ≢ 10) (note_name address) (62 ∷ 58 ∷ []) (name_plain address)
    (All-cons (λ b. b ≢ 10) 62 (58 ∷ []) (λ e. absurd (omega arith)) (All-cons (λ b. b ≢ 10) 58 [] (λ e. absurd (omega arith)) (All-nil (λ b. b ≢ 10)))))

-- The first line of a softened text, and its newline, stay as they are; after them no empty line comes before the end.
record Begins (line text : List ℕ) : Type 0 where
  rest : List ℕ
  is : text ≡ (line ++ 10 ∷ []) ++ rest
  soft : IsSoft true rest

softened_begins : (line rest : List ℕ) → All (λ b. b ≢ 10) line → Begins line (softened (line ++ 10 ∷ rest))
softened_begins line rest h = record {
  rest = drop (length (line ++ 10 ∷ [])) (softened whole);
  is = front_from_reads 0 (softened whole) (line ++ 10 ∷ []) (omega (arith, length-softened whole, length-append line (10 ∷ rest), length-append line (10 ∷ []))) reads;
  soft = soft_from true (drop (length (line ++ 10 ∷ [])) (softened whole)) first pairs;
}
  where
    whole : List ℕ
    whole = line ++ 10 ∷ rest

    at_line : (i : ℕ) → i < length line → get_or whole i 0 ≢ 10
    at_line i lt e = All-get_or (λ b. b ≢ 10) line i 0 lt h (sym (get_or_append_left line (10 ∷ rest) 0 i lt) ∙ e)

    at_end : get_or (softened whole) (length line) 0 ≡ 10
    at_end =
        let inside : length line < length whole = omega (arith, length-append line (10 ∷ rest)) in
        softened_reads whole (length line) inside
        ∙ plain_at whole (length line) (λ d. let some = d.first in at_line (length line - 1) (omega arith) d.before)
        ∙ get_or_at line 10 rest 0 (length line) refl

    reads : (i : ℕ) → i < length (line ++ 10 ∷ []) → get_or (softened whole) i 0 ≡ get_or (line ++ 10 ∷ []) i 0
    reads i lt = ⊎_elim
        (λ before.
        let inside : i < length whole = omega (arith, length-append line (10 ∷ rest)) in
        softened_reads whole i inside ∙ plain_at whole i (λ d. at_line i before d.here)
        ∙ get_or_append_left line (10 ∷ rest) 0 i before ∙ sym (get_or_append_left line (10 ∷ []) 0 i before))
        (λ past.
        let same : i ≡ length line = omega (arith, length-append line (10 ∷ [])) in
        ap (λ k. get_or (softened whole) k 0) same ∙ at_end ∙ sym (get_or_at line 10 [] 0 (length line) refl) ∙ ap (λ k. get_or (line ++ 10 ∷ []) k 0) (sym same))
        (cases_lt i (length line))

    long : length (line ++ 10 ∷ []) ≡ length line + 1
    long = length_push line 10

    dropped : (k : ℕ) → get_or (drop (length (line ++ 10 ∷ [])) (softened whole)) k 0 ≡ get_or (softened whole) (length line + 1 + k) 0
    dropped k = get_or-drop (length (line ++ 10 ∷ [])) (softened whole) k 0 ∙ ap (λ m. get_or (softened whole) (m + k) 0) long

    left : length (drop (length (line ++ 10 ∷ [])) (softened whole)) ≡ length whole - (length line + 1)
    left = length-drop (length (line ++ 10 ∷ [])) (softened whole) ∙ ap (λ m. m - length (line ++ 10 ∷ [])) (length-softened whole) ∙ ap (λ m. length whole - m) long

    first : true ≡ true → 1 < length (drop (length (line ++ 10 ∷ [])) (softened whole)) → get_or (drop (length (line ++ 10 ∷ [])) (softened whole)) 0 0 ≢ 10
    first _ more e = pair_ends whole (length line) (omega (arith, left)) at_end (sym (dropped 0 ∙ ap (λ m. get_or (softened whole) m 0) (omega arith)) ∙ e)

    pairs : (k : ℕ) → k + 2 < length (drop (length (line ++ 10 ∷ [])) (softened whole)) → get_or (drop (length (line ++ 10 ∷ [])) (softened whole)) k 0 ≡ 10
        → get_or (drop (length (line ++ 10 ∷ [])) (softened whole)) (k + 1) 0 ≢ 10
    pairs k more e f =
        let next : length line + 1 + (k + 1) ≡ length line + 1 + k + 1 = omega arith in
        pair_ends whole (length line + 1 + k) (omega (arith, left)) (sym (dropped k) ∙ e) (sym (dropped (k + 1) ∙ ap (λ m. get_or (softened whole) m 0) next) ∙ f)

note_scanned : (address report : List ℕ) → scan true [] (note_text address report) ≡ note_name address ∷ []
unfolding note_text
note_scanned address report =
    let line = heading (note_name address) in
    let w = softened_begins line (report ++ missing_newline report) (heading_plain address) in
    ap (λ t. scan true [] (t ++ 10 ∷ [])) w.is
    ∙ ap (scan true []) (append_assoc (line ++ 10 ∷ []) w.rest (10 ∷ []) ∙ append_assoc line (10 ∷ []) (w.rest ++ 10 ∷ []))
    ∙ over_line true [] line (w.rest ++ 10 ∷ []) (heading_plain address)
    ∙ ap (λ o. option_to_list o ++ scan false [] (w.rest ++ 10 ∷ [])) (named_heading line (note_name address) refl)
    ∙ ap (λ t. note_name address ∷ t) (soft_names_none [] w.rest w.soft)

-- A file with one more note

-- before a note stand either two newlines, or nothing
data Parted (file : List ℕ) : Type 0 where
  Empty : file ≡ [] → parting file ≡ [] → Parted file
  Ended : (front : List ℕ) → file ≡ front ++ 10 ∷ 10 ∷ [] → parting file ≡ [] → Parted file
  Open : parting file ≡ 10 ∷ 10 ∷ [] → Parted file

how_parted : (file : List ℕ) → Parted file
how_parted [] = Empty refl refl
how_parted (b ∷ bytes) = ⊎_elim
    (λ is_so. Ended _ ((ends_is Decides-eqb (b ∷ bytes) (10 ∷ 10 ∷ []) (ends_with nat_eq (b ∷ bytes) (10 ∷ 10 ∷ [])) refl).0 is_so)
    (cond-true (ends_with nat_eq (b ∷ bytes) (10 ∷ 10 ∷ [])) [] (10 ∷ 10 ∷ []) is_so))
    (λ no. Open (cond-false (ends_with nat_eq (b ∷ bytes) (10 ∷ 10 ∷ [])) [] (10 ∷ 10 ∷ []) no))
    (cases_Bool (ends_with nat_eq (b ∷ bytes) (10 ∷ 10 ∷ [])))

added_by : (file note : List ℕ) → Parted file → scan true [] (file ++ (parting file ++ note)) ≡ scan true [] file ++ scan true [] note
added_by file note (Empty e p) =
    ap (λ t. scan true [] (file ++ (t ++ note))) p ∙ ap (λ t. scan true [] (t ++ note)) e ∙ ap (λ t. scan true [] t ++ scan true [] note) (sym e)
added_by file note (Ended front e p) =
    ap (λ t. scan true [] (file ++ (t ++ note))) p
    ∙ ap (λ t. scan true [] (t ++ note)) e
    ∙ ap (scan true []) (append_assoc front (10 ∷ 10 ∷ []) note)
    ∙ parted true [] front note
    ∙ ap (λ t. t ++ scan true [] note) (sym (append-nil (scan true [] front)) ∙ sym (parted true [] front []) ∙ ap (scan true []) (sym e))
added_by file note (Open p) = ap (λ t. scan true [] (file ++ (t ++ note))) p ∙ parted true [] file note

pub note_added : (file address report : List ℕ) → notes_of (with_note file address report) ≡ notes_of file ++ note_name address ∷ []
note_added file address report =
    scanned (with_note file address report)
    ∙ added_by file (note_text address report) (how_parted file)
    ∙ ap (λ t. t ++ scan true [] (note_text address report)) (sym (scanned file))
    ∙ ap (λ t. notes_of file ++ t) (note_scanned address report)

-- How often an address is named

abbrev times : List ℕ → List (List ℕ) → ℕ
times r addresses = count_by (λ address. bytes_eq address r) addresses

same_heading : (line name r : List ℕ) → named line ≡ Some name → bytes_eq line (heading r) ≡ bytes_eq name r
same_heading line name r e =
    let line_is = bytes_eq-Decides line (heading r) in
    let name_is = bytes_eq-Decides name r in
    same_from_decides {P = name ≡ r} (bytes_eq line (heading r)) (bytes_eq name r)
    (λ t. same_some name r (sym e ∙ named_heading line r (line_is.0 t)), λ same. line_is.1 (heading_named line name e ∙ ap heading same))
    name_is
  where
    same_some : (a b : List ℕ) → ◌≡◌ {A = Option (List ℕ)} (Some a) (Some b) → a ≡ b
    same_some a b e = cc

no_heading : (line r : List ℕ) → named line ≡ None → bytes_eq line (heading r) ≡ false
no_heading line r e = false_from_ne_true (bytes_eq line (heading r)) (λ t. none_some r (sym e ∙ named_heading line r ((bytes_eq-Decides line (heading r)).0 t)))
  where
    none_some : (a : List ℕ) → ◌≡◌ {A = Option (List ℕ)} None (Some a) → ⊥
    none_some a e = absurd (cc)

abbrev one_if : Bool → ℕ
one_if t = cond t 1 0

counted_first : (line r : List ℕ) (addresses : List (List ℕ)) (o : Option (List ℕ)) → named line ≡ o → one_if (bytes_eq line (heading r)) + times r addresses ≡ times r (cons_option o addresses)
counted_first line r addresses None e = let none = ap one_if (no_heading line r e) in ap (λ k. k + times r addresses) none ∙ zero-add (times r addresses)
counted_first line r addresses (Some name) e = ap (λ t. one_if t + times r addresses) (same_heading line name r e) ∙ sym (sum_by-cons (λ address. one_if (bytes_eq address r)) name addresses)

counted_in : (firsts : List (List ℕ)) (r : List ℕ) → count_by (λ line. bytes_eq line (heading r)) firsts ≡ times r (filter_map named firsts)
counted_in [] r = refl
counted_in (line ∷ firsts) r =
    sum_by-cons (λ line. one_if (bytes_eq line (heading r))) line firsts
    ∙ ap (λ k. one_if (bytes_eq line (heading r)) + k) (counted_in firsts r)
    ∙ counted_first line r (filter_map named firsts) (named line) refl

pub count_is : (bytes r : List ℕ) → count bytes r ≡ times r (notes_of bytes)
unfolding count notes_of
count_is bytes r = counted_in (headings bytes) r

pub count_more : (file address report r : List ℕ) → count (with_note file address report) r ≡ count file r + (if bytes_eq (note_name address) r then 1 else 0)
count_more file address report r =
    count_is (with_note file address report) r
    ∙ ap (times r) (note_added file address report)
    ∙ sum_by_push (λ address. one_if (bytes_eq address r)) (notes_of file) (note_name address)
    ∙ ap (λ k. k + one_if (bytes_eq (note_name address) r)) (sym (count_is file r))

pub count_stays : (bytes rest r : List ℕ) → count (bytes ++ 10 ∷ []) r ≤ count (bytes ++ 10 ∷ rest) r
count_stays bytes rest r =
    let w = goes_further true [] bytes rest in
    let all = count_is (bytes ++ 10 ∷ rest) r ∙ ap (times r) (scanned (bytes ++ 10 ∷ rest) ∙ w.1) ∙ sum_by-append (λ address. one_if (bytes_eq address r)) (scan true [] (bytes ++ 10 ∷ [])) w.0 in
    let some = count_is (bytes ++ 10 ∷ []) r ∙ ap (times r) (scanned (bytes ++ 10 ∷ [])) in
    omega (arith, all, some)

-- The last two bytes say whether newlines go before a note.

empty_by : (text : List ℕ) → 0 < length text → is_empty text ≡ false
empty_by [] lt = absurd (omega arith)
empty_by (b ∷ text) lt = refl

pub parting_tail : (file : List ℕ) → parting file ≡ parting (drop (length file - 2) file)
parting_tail [] = refl
parting_tail (b ∷ bytes) =
    let file = b ∷ bytes in
    let tail = drop (length file - 2) file in
    let long = length-drop (length file - 2) file in
    let short : length tail - 2 ≡ 0 = omega arith in
    let same : drop (length tail - 2) tail ≡ tail = ap (λ k. drop k tail) short in
    ap (λ t. if is_empty file || t then [] else 10 ∷ 10 ∷ []) (ap (pointwise nat_eq (10 ∷ 10 ∷ [])) (sym same))
    ∙ ap (λ e. if e || ends_with nat_eq tail (10 ∷ 10 ∷ []) then [] else 10 ∷ 10 ∷ []) (sym (empty_by tail (omega arith)))
