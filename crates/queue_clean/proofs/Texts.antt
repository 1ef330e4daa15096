-- Each command and its text.
use Rattle.std.proofs.Common.{◌≡◌, ◌≢◌, ◌⊎◌, ℕ, ◌+◌, ◌^◌, ◌≤◌, ◌<◌, List, ◌++◌, length, take, drop, Option, Some, None, Bool, true, false, refl, sym, ap, ◌∙◌, subst, ⊎_elim, inl, inr, arith, bytes_eq, take-append-drop}
use Rattle.std.specs.Prelude.{if◌then◌else◌, ◌==◌, codes}
use Rattle.std.specs.Int.Digits.{digits_of}
use Rattle.std.proofs.lemmas.Bool.{cases_lt, le-leb, lt-leb, and_from, and_right, ne_eqb, eqb-false}
use Rattle.std.proofs.lemmas.Int.Digits.{length-digits_of-le}
use Rattle.std.proofs.lemmas.List.{take_all, length-map, length-take-le}
use Rattle.std.proofs.lemmas.Slice.Eq.{bytes_eq-Decides}
use Rattle.mail_bytes.specs.Decimal.{digits, number_of}
use Rattle.mail_bytes.proofs.Digits.{digits_more, number-digits, number_of-digits, number_of_some}
use Rattle.queue_clean.specs.declared.command.Command.{Command}
use Rattle.queue_clean.specs.declared.command.Command.TheVariants.{Foop, Todo}
use Rattle.queue_clean.specs.Commands.{text_of, message_of, is_sized, named, command_by, command_of, IsCommand, CommandsAreExact}
use Rattle.queue_clean.proofs.Cuts.{cut_of, commands_of}

-- A text that is too long

long_none : (text : List ℕ) → 100 ≤ length text → command_of text ≡ None
unfolding command_of
long_none text long =
    ap (λ t. if t then command_by (take 5 text) (number_of (drop 5 text)) else None) (and_right _ _ (lt-leb (length text + 1) 100 (omega arith)))

-- the first 100 bytes tell what command a text is
pub command-clipped : (text : List ℕ) → command_of (take 100 text) ≡ command_of text
command-clipped text = ⊎_elim
    (λ long. long_none (take 100 text) (let same = length-take-le 100 text (omega arith) in omega arith) ∙ sym (long_none text (omega arith)))
    (λ short. ap command_of (take_all 100 text short))
    (cases_lt 100 (length text))

-- The text of a command is read

digits_sized : (n : ℕ) → 1 ≤ n → n < 2 ^ 64 → (1 ≤ length (digits n)) × (length (digits n) ≤ 20)
digits_sized n positive small =
    let is = number-digits n small in
    let some = is.some in
    let short : length (digits_of 10 n) ≤ 20 = length-digits_of-le 10 20 n (omega arith) (omega arith) in
    let same : length (digits n) ≡ length (digits_of 10 n) = ap length (digits_more n (omega arith)) ∙ length-map (digits_of 10 n) (λ d. 48 + d) in
    (omega arith, omega arith)

sized_at : (text : List ℕ) → 6 ≤ length text → length text ≤ 99 → is_sized text ≡ true
sized_at text low high = and_from _ _ (le-leb 7 (length text + 1) (omega arith)) (le-leb (length text + 1) 100 (omega arith))

by_sized : (t : Bool) (o : Option Command) → t ≡ true → (if t then o else None) ≡ o
by_sized true o e = refl
by_sized false o e = absurd (cc)

by_digits : (word : List ℕ) (n : ℕ) → 1 ≤ n → n < 2 ^ 64 → command_by word (number_of (digits n)) ≡ named word n
by_digits word n positive small =
    ap (command_by word) (number_of-digits n small)
    ∙ ap (λ t. if t then None else named word n) (ne_eqb n 0 (λ e. omega arith))

pub text_read : (command : Command) → 1 ≤ message_of command → message_of command < 2 ^ 64 → command_of (text_of command) ≡ Some command
unfolding command_of
text_read (Foop n) positive small =
    let size = digits_sized n positive small in
    let low = size.0 in
    let high = size.1 in
    by_sized (is_sized (codes "foop/" ++ digits n)) _ (sized_at (codes "foop/" ++ digits n) (omega arith) (omega arith)) ∙ by_digits (codes "foop/") n positive small
text_read (Todo n) positive small =
    let size = digits_sized n positive small in
    let low = size.0 in
    let high = size.1 in
    by_sized (is_sized (codes "todo/" ++ digits n)) _ (sized_at (codes "todo/" ++ digits n) (omega arith) (omega arith)) ∙ by_digits (codes "todo/") n positive small

-- What is read is the text of that command

read_sized : (t : Bool) (o : Option Command) (command : Command) → (if t then o else None) ≡ Some command → o ≡ Some command
read_sized true o command e = e
read_sized false o command e = absurd (cc)

-- a number that is read, from 1
record IsNumbered (o : Option ℕ) (word : List ℕ) (command : Command) : Type 0 where
  n : ℕ
  is : o ≡ Some n
  positive : n ≢ 0
  read : named word n ≡ Some command

numbered_at : (t : Bool) (n : ℕ) (word : List ℕ) (command : Command) → (n == 0) ≡ t → (if t then None else named word n) ≡ Some command → IsNumbered (Some n) word command
numbered_at true n word command is e = absurd (cc)
numbered_at false n word command is e = record { n = n; is = refl; positive = eqb-false n 0 is; read = e }

numbered : (o : Option ℕ) (word : List ℕ) (command : Command) → command_by word o ≡ Some command → IsNumbered o word command
numbered None word command e = absurd (cc)
numbered (Some n) word command e = numbered_at (n == 0) n word command refl e

worded : (foop todo : Bool) (n : ℕ) (command : Command) → (if foop then Some (Foop n) else (if todo then Some (Todo n) else None)) ≡ Some command
    → ((foop ≡ true) × (Foop n ≡ command)) ⊎ ((todo ≡ true) × (Todo n ≡ command))
worded true todo n command e = inl (refl, cc)
worded false true n command e = inr (refl, cc)
worded false false n command e = absurd (cc)

same_word : (word other : List ℕ) → bytes_eq word other ≡ true → word ≡ other
same_word word other e = (bytes_eq-Decides word other).0 e

of_word : (text word : List ℕ) (n : ℕ) → take 5 text ≡ word → number_of (drop 5 text) ≡ Some n → (text ≡ word ++ digits n) × (n < 2 ^ 64)
of_word text word n e number =
    let w = number_of_some (drop 5 text) n number in
    (sym (take-append-drop 5 text) ∙ ap (λ (r : List ℕ). take 5 text ++ r) w.0 ∙ ap (λ (r : List ℕ). r ++ digits n) e, w.1)

foop_is : (text : List ℕ) (n : ℕ) → n ≢ 0 → (text ≡ codes "foop/" ++ digits n) × (n < 2 ^ 64) → IsCommand text (Foop n)
foop_is text n positive w = record { positive = omega arith; fits = w.1; text_is = w.0 }

todo_is : (text : List ℕ) (n : ℕ) → n ≢ 0 → (text ≡ codes "todo/" ++ digits n) × (n < 2 ^ 64) → IsCommand text (Todo n)
todo_is text n positive w = record { positive = omega arith; fits = w.1; text_is = w.0 }

read_is : (text : List ℕ) (command : Command) → command_of text ≡ Some command → IsCommand text command
unfolding command_of
read_is text command e =
    let w = numbered (number_of (drop 5 text)) (take 5 text) command (read_sized (is_sized text) _ command e) in
    ⊎_elim
    (λ f. subst (IsCommand text) f.1 (foop_is text w.n w.positive (of_word text (codes "foop/") w.n (same_word _ _ f.0) w.is)))
    (λ t. subst (IsCommand text) t.1 (todo_is text w.n w.positive (of_word text (codes "todo/") w.n (same_word _ _ t.0) w.is)))
    (worded (bytes_eq (take 5 text) (codes "foop/")) (bytes_eq (take 5 text) (codes "todo/")) w.n command w.read)

pub exact : CommandsAreExact
exact = record {
  one = λ text command. (read_is text command, λ w. ap command_of w.text_is ∙ text_read command w.positive w.fits);
  all = λ text cut. (cut_of text cut, commands_of text cut);
}
