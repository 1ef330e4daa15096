-- The head of an input stands in its first bytes.
use Rattle.std.proofs.Common.{◌≡◌, ℕ, ◌+◌, ◌-◌, ◌<◌, ◌≤◌, ◌^◌, List, [], ◌∷◌, length, take, drop, get_or, Bool, true, false, Option, Some, None, refl, sym, ap, ◌∙◌, subst, ⊎_elim, inl, inr, arith, length-take, length-drop, cond}
use Rattle.std.specs.Prelude.{◌⊎◌, position, ◌==◌, not, bytes_eq, if◌then◌else◌}
use Rattle.std.specs.List.{position_or_len}
use Rattle.std.specs.Int.Digits.{digits_of}
use Rattle.std.specs.Option.{option_map, option_and_then}
use Rattle.std.proofs.lemmas.Bool.{cases_lt, false≢true, lt-ltb}
use Rattle.std.proofs.lemmas.Int.Digits.{length-digits_of-le}
use Rattle.std.proofs.lemmas.List.{take_all, drop_all, get_or-take, take-take, length-map, drop-drop, length-take-le}
use Rattle.std.proofs.lemmas.List.Quantifiers.{position-Some}
use Rattle.std.proofs.lemmas.List.Sums.{position_or_len_is, prefix_len_stops, fails_before_first}
use Rattle.std.proofs.lemmas.Slice.Eq.{bytes_eq-Decides}
use Rattle.mail_bytes.specs.Decimal.{digits, number_of}
use Rattle.mail_bytes.proofs.Digits.{digits_zero, digits_more, number_of_some}
use Rattle.local_parts.specs.declared.inputs.Head.{Head}
use Rattle.local_parts.specs.inside.Heads.{head_with, head_at, head_of}
use Rattle.local_parts.specs.Inputs.{length_text, sized, message_in}

-- Tests

pub either : (b : Bool) → (b ≡ true) ⊎ (b ≡ false)
either true = inl refl
either false = inr refl

pub not_false : (b : Bool) → not b ≡ false → b ≡ true
not_false true e = refl
not_false false e = absurd (false≢true (sym e))

pub none_some : {X : Type 0} (x : X) → ◌≡◌ {A = Option X} None (Some x) → ⊥
none_some x e = absurd (cc)

-- Decimal texts

-- a u64 has at most 20 digits
short_digits : (n : ℕ) → n < 2 ^ 64 → length (digits n) ≤ 20
short_digits n lt = ⊎_elim
    (λ (some : 0 < n).
    let most : length (digits_of 10 n) ≤ 20 = length-digits_of-le 10 20 n (omega arith) (omega arith) in
    let same = ap length (digits_more n some) ∙ length-map (digits_of 10 n) (λ d. 48 + d) in
    omega arith)
    (λ none. let one = ap length (digits_zero n (omega arith)) in omega arith)
    (cases_lt 0 n)

long_none : (text : List ℕ) → 20 < length text → number_of text ≡ None
long_none text long = by (number_of text) refl
  where
    by : (o : Option ℕ) → number_of text ≡ o → o ≡ None
    by None e = refl
    by (Some n) e =
        let is = number_of_some text n e in
        let short = short_digits n is.1 in
        let same = ap length is.0 in
        absurd (omega arith)

-- The first colon

abbrev pub is_colon : ℕ → Bool
is_colon b = b == 58

abbrev pub colon : List ℕ → ℕ
colon input = position_or_len is_colon input

abbrev pub front : List ℕ → List ℕ
front input = take 21 input

-- a colon in the first bytes is the first one of all
record First (input : List ℕ) (at : ℕ) : Type 0 where
  below : at < 21
  within : at < length input
  is : colon input ≡ at

first : (input : List ℕ) (at : ℕ) → position is_colon (front input) ≡ Some at → First input at
first input at e =
    let h = position-Some is_colon (front input) at 0 e in
    let lt = h.0 in
    let size = length-take 21 input in
    let below : at < 21 = omega arith in
    let within : at < length input = omega arith in
    let inside : (k : ℕ) → k < 21 → is_colon (get_or (front input) k 0) ≡ is_colon (get_or input k 0) = λ k l. ap is_colon (get_or-take 21 input k 0 l) in
    record {
      below = below;
      within = within;
      is = position_or_len_is is_colon input at 0 (omega arith) (λ k l. sym (inside k (omega arith)) ∙ h.2 k l) (λ l. sym (inside at below) ∙ h.1);
    }

headed : (input : List ℕ) (at : ℕ) → position is_colon (front input) ≡ Some at → message_in input ≡ sized (number_of (take at (front input))) (drop (at + 1) input)
unfolding message_in
headed input at e =
    let f = first input at e in
    let text : length_text input ≡ take at (front input) = ap (λ k. take k input) f.is ∙ sym (take-take at 21 input (omega (arith, f.below))) in
    let size : length (length_text input) ≡ at = ap (λ k. length (take k input)) f.is ∙ length-take-le at input (omega (arith, f.within)) in
    ap (λ t. sized (number_of t) (drop (length (length_text input) + 1) input)) text ∙ ap (λ k. sized (number_of (take at (front input))) (drop (k + 1) input)) size

-- without one there, there is no message

sized_empty : (o : Option ℕ) (rest : List ℕ) → rest ≡ [] → sized o rest ≡ None
sized_empty None rest e = refl
sized_empty (Some n) rest e =
    ap (λ t. if bytes_eq t (44 ∷ []) then Some (take n rest) else None) (ap (drop n) e ∙ drop_all n [] (omega arith))

no_colon : (bytes : List ℕ) → position is_colon bytes ≡ None → length bytes ≤ colon bytes
no_colon bytes e = ⊎_elim
    (λ lt. absurd (none_some (colon bytes) (sym e ∙ ap (λ t. cond t (Some (colon bytes)) None) (lt-ltb (colon bytes) (length bytes) lt))))
    (λ ge. ge)
    (cases_lt (colon bytes) (length bytes))

far : (input : List ℕ) → 21 < length input → 21 ≤ colon (front input) → 21 ≤ colon input
far input long le = ⊎_elim
    (λ lt.
    let k = colon input in
    let yes : is_colon (get_or input k 0) ≡ true = not_false (is_colon (get_or input k 0)) (prefix_len_stops (λ b. not (is_colon b)) input 0 (omega arith)) in
    let no : is_colon (get_or (front input) k 0) ≡ false = fails_before_first is_colon (front input) k 0 (omega arith) in
    absurd (false≢true (sym no ∙ ap is_colon (get_or-take 21 input k 0 lt) ∙ yes)))
    (λ ge. ge)
    (cases_lt (colon input) 21)

unheaded : (input : List ℕ) → position is_colon (front input) ≡ None → message_in input ≡ None
unfolding message_in
unheaded input e =
    let none = no_colon (front input) e in
    let size = length-take 21 input in
    ⊎_elim
    (λ (long : 21 < length input).
    let le : 21 ≤ colon input = far input long (omega arith) in
    let most = length-take (colon input) input in
    ap (λ o. sized o (drop (length (length_text input) + 1) input)) (long_none (length_text input) (omega arith)))
    (λ (short : length input ≤ 21).
    let whole : front input ≡ input = take_all 21 input short in
    let none : length input ≤ colon input = no_colon input (ap (position is_colon) (sym whole) ∙ e) in
    let most = length-take (colon input) input in
    sized_empty (number_of (length_text input)) (drop (length (length_text input) + 1) input) (drop_all (length (length_text input) + 1) input (omega arith)))
    (cases_lt 21 (length input))

-- by its head

pub no_head : (input : List ℕ) → head_of (front input) ≡ None → message_in input ≡ None
no_head input e = by (position is_colon (front input)) refl
  where
    told : (at : ℕ) (o : Option ℕ) → number_of (take at (front input)) ≡ o → option_map (head_with at) o ≡ None → sized o (drop (at + 1) input) ≡ None
    told at None n is = refl
    told at (Some n) f is = absurd (none_some (head_with at n) (sym is))

    by : (o : Option ℕ) → position is_colon (front input) ≡ o → message_in input ≡ None
    by None p = unheaded input p
    by (Some at) p =
        let is : head_at (front input) at ≡ None = sym (ap (option_and_then (head_at (front input))) p) ∙ e in
        headed input at p ∙ told at (number_of (take at (front input))) refl is

-- the input has the bytes of its head, and its message is of so many after them
pub record HasHead (input : List ℕ) (h : Head) : Type 0 where
  pub within : h.used ≤ length input
  pub is : message_in input ≡ sized (Some h.length) (drop h.used input)

pub has_head : (input : List ℕ) (h : Head) → head_of (front input) ≡ Some h → HasHead input h
has_head input h e = by (position is_colon (front input)) refl
  where
    told : (at : ℕ) (o : Option ℕ) → number_of (take at (front input)) ≡ o → option_map (head_with at) o ≡ Some h → First input at
        → message_in input ≡ sized o (drop (at + 1) input) → HasHead input h
    told at None n is f m = absurd (none_some h is)
    told at (Some n) s is f m =
        let same : head_with at n ≡ h = cc in
        subst (HasHead input) same (record { within = omega (arith, f.within); is = m })

    by : (o : Option ℕ) → position is_colon (front input) ≡ o → HasHead input h
    by None p = absurd (none_some h (sym (ap (option_and_then (head_at (front input))) p) ∙ e))
    by (Some at) p =
        let is : head_at (front input) at ≡ Some h = sym (ap (option_and_then (head_at (front input))) p) ∙ e in
        told at (number_of (take at (front input))) refl is (first input at p) (headed input at p)

-- The rest of an input

-- it hasn't just one byte more than its message
pub sized_wrong : (n used : ℕ) (input : List ℕ) → (length input ≡ used + n + 1 → ⊥) → used ≤ length input → sized (Some n) (drop used input) ≡ None
sized_wrong n used input wrong within = by (either (bytes_eq (drop n (drop used input)) (44 ∷ [])))
  where
    by : (bytes_eq (drop n (drop used input)) (44 ∷ []) ≡ true) ⊎ (bytes_eq (drop n (drop used input)) (44 ∷ []) ≡ false) → sized (Some n) (drop used input) ≡ None
    by (inl t) =
        let e = ap length (sym (drop-drop n used input) ∙ (bytes_eq-Decides (drop n (drop used input)) (44 ∷ [])).0 t) in
        let size = length-drop (used + n) input in
        absurd (wrong (omega arith))
    by (inr f) = ap (λ t. if t then Some (take n (drop used input)) else None) f

-- it has, and the byte is a comma or isn't
pub sized_right : (n used : ℕ) (input : List ℕ) (t : Bool) → length input ≡ used + n + 1 → t ≡ bytes_eq (drop (length input - 1) input) (44 ∷ [])
    → sized (Some n) (drop used input) ≡ (if t then Some (take n (drop used input)) else None)
sized_right n used input t size is =
    let at : used + n ≡ length input - 1 = omega arith in
    let last : drop n (drop used input) ≡ drop (length input - 1) input = drop-drop n used input ∙ ap (λ k. drop k input) at in
    ap (λ x. if bytes_eq x (44 ∷ []) then Some (take n (drop used input)) else None) last ∙ ap (λ b. if b then Some (take n (drop used input)) else None) (sym is)
