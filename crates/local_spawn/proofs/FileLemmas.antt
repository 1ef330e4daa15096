-- A file, line by line.
use Rattle.std.proofs.Common.{◌≡◌, ◌≢◌, ℕ, ◌+◌, ◌-◌, ◌<◌, ◌≤◌, List, [], ◌∷◌, ◌++◌, length, get_or, take, drop, false, Option, Some, None, eqb, ltb, refl, sym, ap, ◌∙◌, subst, inl, inr, ⊎_elim, arith, add-one, append_assoc, append-nil}
use Rattle.std.specs.Prelude.{All}
use Rattle.std.specs.List.{position, position_or_len}
use Rattle.std.proofs.Math.Seq.{split_at}
use Rattle.std.proofs.lemmas.Bool.{cases_Bool, cond-true, eqb-true, eqb-false, ltb-false}
use Rattle.std.proofs.lemmas.List.{get_or-take, length-drop, length-take, take_all, flat_map_more}
use Rattle.std.proofs.lemmas.List.Elements.{All-from_get_or, All-nil, All-push}
use Rattle.std.proofs.lemmas.List.Quantifiers.{position-Some}
use Rattle.std.proofs.lemmas.List.Sums.{fails_before_first}
use Rattle.local_spawn.specs.declared.assign.Assignment.{Assignment}
use Rattle.local_spawn.specs.Fields.{IsAssignment, line_of, parsed}
use Rattle.local_spawn.specs.declared.reading.AssignError.{AssignError}
use Rattle.local_spawn.specs.declared.reading.AssignError.TheVariants.{Line, NoDot, Memory}
use Rattle.local_spawn.specs.Assign.{Comes, HasNoDot, HasNoNewline, IsAdded, IsBadLine, IsCause, IsFile, IsFirstLine, IsRefused, full_line, lines_of}
use Rattle.local_spawn.specs.Assign.IsFirstLine.{IsEnded, IsLast}
use Rattle.local_spawn.proofs.FieldLemmas.{parsed_is, unparsed}

-- The first line of a text

pub cut_at_newline : (text : List ℕ) (at : ℕ) → position (λ b. eqb b 10) text ≡ Some at → IsFirstLine text (take at text) (drop (at + 1) text)
cut_at_newline text at e =
    let found = position-Some (λ b. eqb b 10) text at 0 e in
    let inside = found.0 in
    let here : get_or text at 0 ≡ 10 = eqb-true (get_or text at 0) 10 found.1 in
    let whole : text ≡ take at text ++ 10 ∷ drop (at + 1) text = rw (add-one, ← here) (split_at text at 0 inside) in
    IsEnded (before found.2 inside) whole
  where
    before : ((k : ℕ) → k < at → eqb (get_or text k 0) 10 ≡ false) → at < length text → HasNoNewline (take at text)
    before none inside =
        All-from_get_or (λ b. b ≢ 10) (take at text) 0
        (λ k lt same. let near : k < at = omega (arith, length-take at text) in
        eqb-false (get_or text k 0) 10 (none k near) (sym (get_or-take at text k 0 near) ∙ same))

-- the same, as code cuts it
pub cut_by : (text : List ℕ) (at : ℕ) → position (λ b. eqb b 10) text ≡ Some at → IsFirstLine text (take at text) (take (length text - (at + 1)) (drop (at + 1) text))
cut_by text at e = rw all_after (cut_at_newline text at e)
  where
    all_after : take (length text - (at + 1)) (drop (at + 1) text) ≡ drop (at + 1) text
    all_after = take_all (length text - (at + 1)) (drop (at + 1) text) (omega (arith, length-drop (at + 1) text))

-- no newline at all
pub uncut : (text : List ℕ) → 0 < length text → position (λ b. eqb b 10) text ≡ None → IsFirstLine text text []
uncut text some e =
    IsLast
    (All-from_get_or (λ b. b ≢ 10) text 0 (λ k lt. eqb-false (get_or text k 0) 10 (fails_before_first (λ b. eqb b 10) text k 0 (omega (arith, past)))))
    (λ none. let zero = ap length none in absurd (omega arith)) refl refl
  where
    none_some : (n : ℕ) → ◌≡◌ {A = Option ℕ} (Some n) None → ⊥
    none_some n f = absurd (cc)

    past : length text ≤ position_or_len (λ b. eqb b 10) text
    past = ⊎_elim
        (λ inside. absurd (none_some (position_or_len (λ b. eqb b 10) text)
        (sym (cond-true (ltb (position_or_len (λ b. eqb b 10) text) (length text)) (Some (position_or_len (λ b. eqb b 10) text)) None inside) ∙ e)))
        (λ out. ltb-false (position_or_len (λ b. eqb b 10) text) (length text) out)
        (cases_Bool (ltb (position_or_len (λ b. eqb b 10) text) (length text)))

-- The lines so far, and what is left; the last one may have lacked its newline.

pub data Stands (bytes : List ℕ) (assignments : List Assignment) (rest : List ℕ) : Type 0 where
  AtLine : All IsAssignment assignments → bytes ≡ lines_of assignments ++ rest → Stands bytes assignments rest
  AtEnd : All IsAssignment assignments → rest ≡ [] → bytes ++ 10 ∷ [] ≡ lines_of assignments → Stands bytes assignments rest

pub begins : (bytes : List ℕ) (assignments : List Assignment) → assignments ≡ [] → Stands bytes assignments bytes
begins bytes assignments e = subst (λ a. Stands bytes a bytes) (sym e) (AtLine (All-nil IsAssignment) refl)

-- while something is left, a line comes
pub comes : (bytes : List ℕ) (assignments : List Assignment) (rest line after : List ℕ) → Stands bytes assignments rest → 0 < length rest → IsFirstLine rest line after → Comes bytes assignments line
comes bytes assignments rest line after (AtLine good text) some next = record { rest = rest; after = after; text = text; good = good; next = next }
comes bytes assignments rest line after (AtEnd good none text) some next = let none_left = ap length none in absurd (omega arith)

-- one line more
pub one_more : (bytes : List ℕ) (assignments : List Assignment) (rest line after : List ℕ) (a : Assignment) → Stands bytes assignments rest → 0 < length rest → IsFirstLine rest line after
    → parsed line ≡ Some a → Stands bytes (assignments ++ a ∷ []) after
one_more bytes assignments rest line after a (AtEnd good none text) some next read = let none_left = ap length none in absurd (omega arith)
one_more bytes assignments rest line after a (AtLine good text) some (IsEnded plain split) read =
    let is = parsed_is line a plain read in
    AtLine (All-push IsAssignment assignments a good is.1)
    (text
    ∙ ap (λ t. lines_of assignments ++ t) (split ∙ ap (λ l. l ++ 10 ∷ after) is.0 ∙ sym (append_assoc (line_of a) (10 ∷ []) after))
    ∙ sym (append_assoc (lines_of assignments) (full_line a) after)
    ∙ ap (λ t. t ++ after) (flat_map_more full_line [] assignments a))
one_more bytes assignments rest line after a (AtLine good text) some (IsLast plain there whole end) read =
    let is = parsed_is line a plain read in
    AtEnd (All-push IsAssignment assignments a good is.1) end
    (ap (λ t. t ++ 10 ∷ []) (text ∙ ap (λ t. lines_of assignments ++ t) (whole ∙ is.0))
    ∙ append_assoc (lines_of assignments) (line_of a) (10 ∷ [])
    ∙ flat_map_more full_line [] assignments a)

-- a bad line
pub bad_line : (bytes : List ℕ) (assignments : List Assignment) (rest line after : List ℕ) (number : ℕ) → Stands bytes assignments rest → 0 < length rest → IsFirstLine rest line after
    → line ≢ 46 ∷ [] → parsed line ≡ None → number ≡ length assignments + 1 → IsBadLine bytes number
bad_line bytes assignments rest line after number h some next apart read place = record {
  assignments = assignments;
  line = line;
  comes = comes bytes assignments rest line after h some next;
  no_dot = apart;
  bad = unparsed line read;
  place = place;
}

-- what a line that was taken leaves
pub added : (bytes : List ℕ) (assignments more : List Assignment) (rest line after : List ℕ) → Stands bytes assignments rest → 0 < length rest → IsFirstLine rest line after
    → IsAdded line assignments more → Stands bytes more after
added bytes assignments more rest line after h some next w = subst (λ a. Stands bytes a after) (sym w.1.1) (one_more bytes assignments rest line after w.0 h some next w.1.0)

pub refused : (bytes : List ℕ) (assignments : List Assignment) (rest line after : List ℕ) (why : AssignError) → Stands bytes assignments rest → 0 < length rest → IsFirstLine rest line after
    → line ≢ 46 ∷ [] → IsRefused line (length assignments) why → IsCause bytes why
refused bytes assignments rest line after (Line number) h some next apart w = bad_line bytes assignments rest line after number h some next apart w.0 w.1
refused bytes assignments rest line after NoDot h some next apart w = absurd w
refused bytes assignments rest line after Memory h some next apart w = tt

-- the line `.`
pub dot_comes : (bytes : List ℕ) (assignments : List Assignment) (rest line after : List ℕ) → Stands bytes assignments rest → 0 < length rest → IsFirstLine rest line after
    → line ≡ 46 ∷ [] → IsFile bytes assignments
dot_comes bytes assignments rest line after h some next e = comes bytes assignments rest (46 ∷ []) after h some (subst (λ l. IsFirstLine rest l after) e next)

-- the end
empty_by : (rest : List ℕ) → length rest ≡ 0 → rest ≡ []
empty_by [] e = refl
empty_by (b ∷ rest) e = absurd (omega arith)

pub no_dot : (bytes : List ℕ) (assignments : List Assignment) (rest : List ℕ) → Stands bytes assignments rest → length rest ≡ 0 → HasNoDot bytes
no_dot bytes assignments rest (AtLine good text) none = record {
  assignments = assignments;
  good = good;
  text = inl (text ∙ ap (λ t. lines_of assignments ++ t) (empty_by rest none) ∙ append-nil (lines_of assignments));
}
no_dot bytes assignments rest (AtEnd good end text) none = record { assignments = assignments; good = good; text = inr text }
