-- Texts of commands, one after another.
use Rattle.std.proofs.Common.{◌≡◌, ◌≢◌, ◌⊎◌, inl, inr, ℕ, zero, suc, List, [], ◌∷◌, ◌++◌, length, ◌≤◌, take, drop, Some, Bool, true, false, refl, sym, ap, ◌∙◌, subst, ⊎_elim, arith, append_assoc}
use Rattle.std.specs.Prelude.{if◌then◌else◌, ◌==◌, flat_map, slice_get}
use Rattle.std.specs.List.{AllByRecursion}
use Rattle.std.proofs.lemmas.List.{append-nil}
use Rattle.std.proofs.lemmas.List.Elements.{All-from_recursion}
use Rattle.mail_bytes.specs.Decimal.{digits, IsDigit}
use Rattle.mail_bytes.proofs.Digits.{digits_injective, digits_only}
use Rattle.queue_clean.specs.declared.command.Command.{Command}
use Rattle.queue_clean.specs.declared.command.Command.TheVariants.{Foop, Todo}
use Rattle.queue_clean.specs.Commands.{commands, put_before, ended, text_of, command_of}
use Rattle.mail_bytes.specs.Texts.{HasNoNul}
use Rattle.queue_clean.proofs.Cuts.{cut_of, commands_before, commands_ended, commands_plain}
use Rattle.queue_clean.proofs.Texts.{exact}

-- Plain texts

abbrev pub Plain : List ℕ → Type 0
Plain bytes = AllByRecursion (λ b. b ≢ 0) bytes

digits_plain : (ds : List ℕ) → AllByRecursion IsDigit ds → Plain ds
digits_plain [] h = tt
digits_plain (d ∷ ds) h = let low = h.0.0 in ((λ e. omega (arith, low, e)), digits_plain ds h.1)

no : (k : ℕ) → suc k ≢ 0
no k e = omega (arith, e)

pub text_plain : (c : Command) → Plain (text_of c)
text_plain (Foop n) = (no 101, (no 110, (no 110, (no 111, (no 46, digits_plain (digits n) (digits_only n))))))
text_plain (Todo n) = (no 115, (no 110, (no 99, (no 110, (no 46, digits_plain (digits n) (digits_only n))))))

pub is_plain : (bytes : List ℕ) → Plain bytes → HasNoNul bytes
is_plain bytes h = All-from_recursion (λ b. b ≢ 0) bytes h

-- More after whole commands

pub commands_after : (bytes more : List ℕ) → bytes ≡ flat_map ended (commands bytes) → commands (bytes ++ more) ≡ commands bytes ++ commands more
commands_after bytes more whole =
    ap (λ (t : List ℕ). commands (t ++ more)) whole ∙ commands_before (commands bytes) more (cut_of bytes (commands bytes) refl).each

pub one_more : (bytes text : List ℕ) → bytes ≡ flat_map ended (commands bytes) → Plain text → commands (bytes ++ ended text) ≡ commands bytes ++ text ∷ []
one_more bytes text whole plain =
    commands_after bytes (ended text) whole ∙ ap (λ (cs : List (List ℕ)). commands bytes ++ cs) (commands_ended text [] (is_plain text plain))

flat_more : (cs : List (List ℕ)) (text : List ℕ) → flat_map ended (cs ++ text ∷ []) ≡ flat_map ended cs ++ ended text
flat_more [] text = append-nil (ended text)
flat_more (c ∷ cs) text = ap (λ (t : List ℕ). ended c ++ t) (flat_more cs text) ∙ sym (append_assoc (ended c) (flat_map ended cs) (ended text))

pub whole_more : (bytes text : List ℕ) → bytes ≡ flat_map ended (commands bytes) → Plain text
    → bytes ++ ended text ≡ flat_map ended (commands (bytes ++ ended text))
whole_more bytes text whole plain =
    ap (λ (t : List ℕ). t ++ ended text) whole ∙ sym (flat_more (commands bytes) text) ∙ sym (ap (flat_map ended) (one_more bytes text whole plain))

-- a part of a command's text is all of it, or plain
pub part_cases : (text : List ℕ) (k : ℕ) → Plain text → (take k (ended text) ≡ ended text) ⊎ Plain (take k (ended text))
part_cases [] zero h = inr tt
part_cases [] (suc zero) h = inl refl
part_cases [] (suc (suc k)) h = inl refl
part_cases (b ∷ text) zero h = inr tt
part_cases (b ∷ text) (suc k) h = ⊎_elim (λ same. inl (ap (λ (t : List ℕ). b ∷ t) same)) (λ plain. inr (h.0, plain)) (part_cases text k h.1)

pub none_more : (bytes part : List ℕ) → bytes ≡ flat_map ended (commands bytes) → Plain part → commands (bytes ++ part) ≡ commands bytes
none_more bytes part whole plain =
    commands_after bytes part whole ∙ ap (λ (cs : List (List ℕ)). commands bytes ++ cs) (commands_plain part (is_plain part plain)) ∙ append-nil (commands bytes)

-- More after any bytes

before_more : (b : ℕ) (cs more : List (List ℕ)) → (rest : List (List ℕ)) × (put_before b (cs ++ more) ≡ put_before b cs ++ rest)
before_more b [] more = (put_before b more, refl)
before_more b (c ∷ cs) more = (more, refl)

grows_by : (b : ℕ) (at : Bool) (xs ys : List ℕ) → (more : List (List ℕ)) × (commands (xs ++ ys) ≡ commands xs ++ more)
    → (more : List (List ℕ)) × ((if at then [] ∷ commands (xs ++ ys) else put_before b (commands (xs ++ ys))) ≡ (if at then [] ∷ commands xs else put_before b (commands xs)) ++ more)
grows_by b true xs ys w = (w.0, ap (λ (cs : List (List ℕ)). [] ∷ cs) w.1)
grows_by b false xs ys w = let v = before_more b (commands xs) w.0 in (v.0, ap (put_before b) w.1 ∙ v.1)

pub commands_grow : (xs ys : List ℕ) → (more : List (List ℕ)) × (commands (xs ++ ys) ≡ commands xs ++ more)
commands_grow [] ys = (commands ys, refl)
commands_grow (b ∷ xs) ys = grows_by b (b == 0) xs ys (commands_grow xs ys)

get_more : (xs more : List (List ℕ)) (k : ℕ) (t : List ℕ) → slice_get xs k ≡ Some t → slice_get (xs ++ more) k ≡ Some t
get_more [] more k t e = absurd (cc)
get_more (x ∷ xs) more zero t e = e
get_more (x ∷ xs) more (suc k) t e = get_more xs more k t e

-- one that was heard is heard still
pub get_grows : (xs ys : List ℕ) (k : ℕ) (t : List ℕ) → slice_get (commands xs) k ≡ Some t → slice_get (commands (xs ++ ys)) k ≡ Some t
get_grows xs ys k t e =
    let w = commands_grow xs ys in
    ap (λ (cs : List (List ℕ)). slice_get cs k) w.1 ∙ get_more (commands xs) w.0 k t e

pub drop_get : (xs : List (List ℕ)) (k : ℕ) (t : List ℕ) → slice_get xs k ≡ Some t → drop k xs ≡ t ∷ drop (suc k) xs
drop_get [] k t e = absurd (cc)
drop_get (x ∷ xs) zero t e = let same : x ≡ t = cc in ap (λ (z : List ℕ). z ∷ xs) same
drop_get (x ∷ xs) (suc k) t e = drop_get xs k t e

pub drop_within : (xs ys : List (List ℕ)) (k : ℕ) → k ≤ length xs → drop k (xs ++ ys) ≡ drop k xs ++ ys
drop_within xs ys zero low = refl
drop_within [] ys (suc k) low = absurd (omega arith)
drop_within (x ∷ xs) ys (suc k) low = drop_within xs ys k (omega arith)

pub get_within : (xs : List (List ℕ)) (k : ℕ) (t : List ℕ) → slice_get xs k ≡ Some t → suc k ≤ length xs
get_within [] k t e = absurd (cc)
get_within (x ∷ xs) zero t e = omega arith
get_within (x ∷ xs) (suc k) t e = let w = get_within xs k t e in omega (arith, w)

longer : (xs ys : List (List ℕ)) → length xs ≤ length (xs ++ ys)
longer [] ys = omega arith
longer (x ∷ xs) ys = let w = longer xs ys in omega (arith, w)

pub heard_longer : (xs ys : List ℕ) → length (commands xs) ≤ length (commands (xs ++ ys))
heard_longer xs ys =
    let w = commands_grow xs ys in
    subst (λ (cs : List (List ℕ)). length (commands xs) ≤ length cs) (sym w.1) (longer (commands xs) w.0)

-- One text, one command

abbrev first : List ℕ → ℕ
first [] = 0
first (b ∷ bs) = b

pub same_text : (c d : Command) → text_of c ≡ text_of d → c ≡ d
same_text (Foop n) (Foop m) e = ap Foop (digits_injective n m (ap (drop 5) e))
same_text (Todo n) (Todo m) e = ap Todo (digits_injective n m (ap (drop 5) e))
same_text (Foop n) (Todo m) e = let w : 102 ≡ 116 = ap first e in absurd (omega (arith, w))
same_text (Todo n) (Foop m) e = let w : 116 ≡ 102 = ap first e in absurd (omega (arith, w))

pub read_text : (c d : Command) (text : List ℕ) → text ≡ text_of c → command_of text ≡ Some d → d ≡ c
read_text c d text is read = same_text d c (sym ((exact.one text d).0 read).text_is ∙ is)
