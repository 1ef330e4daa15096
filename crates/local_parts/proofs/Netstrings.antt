-- An input is that of a message exactly if it is the netstring of it.
use Rattle.std.proofs.Common.{◌≡◌, ℕ, ◌+◌, ◌<◌, ◌^◌, List, [], ◌∷◌, ◌++◌, length, take, drop, get_or, true, false, cond, Option, Some, None, refl, sym, ap, ◌∙◌, subst, inl, inr, arith, append_assoc, length-append, length-take, length-drop}
use Rattle.std.specs.Prelude.{◌⊎◌, not, bytes_eq, if◌then◌else◌}
use Rattle.std.specs.List.{AllByRecursion}
use Rattle.std.proofs.lemmas.Bool.{false_from_ne_true}
use Rattle.std.proofs.lemmas.Bool.Decides.{Decides-eqb}
use Rattle.std.proofs.lemmas.List.{take-append-drop}
use Rattle.std.proofs.lemmas.List.Sums.{split_at_first, prefix_len-le-length, prefix_len_stops}
use Rattle.std.proofs.lemmas.Slice.Eq.{bytes_eq-Decides}
use Rattle.std.proofs.Math.Seq.{take-append_seam, drop-append_seam, drop-append-add}
use Rattle.mail_bytes.specs.Decimal.{IsDigit, digits, number_of}
use Rattle.mail_bytes.specs.Netstring.{head}
use Rattle.mail_bytes.proofs.Digits.{digits_only, number_of-digits, number_of_some}
use Rattle.local_parts.specs.Inputs.{IsNetstring, length_text, message_in, sized}
use Rattle.local_parts.proofs.Heads.{either, is_colon, colon, not_false, none_some}

-- The first colon comes just after the digits.

no_colon : (b : ℕ) → IsDigit b → is_colon b ≡ false
no_colon b digit = false_from_ne_true (is_colon b) (λ t. let e = (Decides-eqb b 58).0 t in absurd (omega (arith, digit)))

colon_after : (text rest : List ℕ) → AllByRecursion IsDigit text → colon (text ++ 58 ∷ rest) ≡ length text
colon_after [] rest all = refl
colon_after (b ∷ text) rest all =
    let one : 1 + length text ≡ length (b ∷ text) = omega arith in
    ap (λ t. cond (not t) (1 + colon (text ++ 58 ∷ rest)) 0) (no_colon b all.0) ∙ ap (λ k. 1 + k) (colon_after text rest all.1) ∙ one

told : (n : ℕ) (rest : List ℕ) → n < 2 ^ 64 → message_in (digits n ++ 58 ∷ rest) ≡ sized (Some n) rest
unfolding message_in
told n rest lt =
    let input = digits n ++ 58 ∷ rest in
    let text : length_text input ≡ digits n = ap (λ k. take k input) (colon_after (digits n) rest (digits_only n)) ∙ take-append_seam (digits n) (58 ∷ rest) in
    ap (λ t. sized (number_of t) (drop (length t + 1) input)) text ∙ ap (λ o. sized o (drop (length (digits n) + 1) input)) (number_of-digits n lt)
    ∙ ap (sized (Some n)) (drop-append-add (digits n) (58 ∷ rest) 1)

pub read : (input message : List ℕ) → IsNetstring input message → message_in input ≡ Some message
read input message h =
    let n = length message in
    let rest = message ++ 44 ∷ [] in
    ap message_in (h.text ∙ append_assoc (digits n) (58 ∷ []) rest) ∙ told n rest h.fits
    ∙ ap (λ t. if bytes_eq t (44 ∷ []) then Some (take n rest) else None) (drop-append_seam message (44 ∷ []))
    ∙ ap Some (take-append_seam message (44 ∷ []))

-- and back

record Cut (n : ℕ) (rest message : List ℕ) : Type 0 where
  size : length message ≡ n
  text : rest ≡ message ++ 44 ∷ []

cut : (n : ℕ) (rest message : List ℕ) → sized (Some n) rest ≡ Some message → Cut n rest message
cut n rest message e = by (either (bytes_eq (drop n rest) (44 ∷ [])))
  where
    by : (bytes_eq (drop n rest) (44 ∷ []) ≡ true) ⊎ (bytes_eq (drop n rest) (44 ∷ []) ≡ false) → Cut n rest message
    by (inl t) =
        let last = (bytes_eq-Decides (drop n rest) (44 ∷ [])).0 t in
        let is : Some (take n rest) ≡ Some message = ap (λ b. if b then Some (take n rest) else None) (sym t) ∙ e in
        let front : take n rest ≡ message = cc in
        let one = ap length last in
        let long = length-drop n rest in
        let short = length-take n rest in
        let same = ap length front in
        record {
          size = omega arith;
          text = sym (take-append-drop n rest) ∙ ap (λ x. x ++ drop n rest) front ∙ ap (λ x. message ++ x) last;
        }
    by (inr f) = absurd (none_some message (ap (λ b. if b then Some (take n rest) else None) (sym f) ∙ e))

pub written : (input message : List ℕ) → message_in input ≡ Some message → IsNetstring input message
unfolding message_in
written input message e = by (number_of (length_text input)) refl e
  where
    by : (o : Option ℕ) → number_of (length_text input) ≡ o → sized o (drop (length (length_text input) + 1) input) ≡ Some message → IsNetstring input message
    by None n s = absurd (none_some message s)
    by (Some n) is s =
        let rest = drop (length (length_text input) + 1) input in
        let h = cut n rest message s in
        let number = number_of_some (length_text input) n is in
        let some = ap length h.text in
        let size = length-drop (length (length_text input) + 1) input in
        let text = length-take (colon input) input in
        let most = prefix_len-le-length (λ b. not (is_colon b)) input in
        let plus = length-append message (44 ∷ []) in
        let lt : colon input < length input = omega arith in
        let at : length (length_text input) ≡ colon input = omega arith in
        let yes = not_false (is_colon (get_or input (colon input) 0)) (prefix_len_stops (λ b. not (is_colon b)) input 0 lt) in
        let it : get_or input (colon input) 0 ≡ 58 = (Decides-eqb (get_or input (colon input) 0) 58).0 yes in
        let after : drop (colon input + 1) input ≡ message ++ 44 ∷ [] = ap (λ k. drop (k + 1) input) (sym at) ∙ h.text in
        let whole : input ≡ digits n ++ 58 ∷ (message ++ 44 ∷ []) =
        split_at_first is_colon input 0 lt ∙ ap (λ b. length_text input ++ b ∷ drop (colon input + 1) input) it
        ∙ ap (λ t. length_text input ++ 58 ∷ t) after ∙ ap (λ t. t ++ 58 ∷ (message ++ 44 ∷ [])) number.0 in
        record {
          fits = subst (λ k. k < 2 ^ 64) (sym h.size) number.1;
          text = whole ∙ sym (append_assoc (digits n) (58 ∷ []) (message ++ 44 ∷ [])) ∙ ap (λ k. head k ++ (message ++ 44 ∷ [])) (sym h.size);
        }
