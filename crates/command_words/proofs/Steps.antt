-- A parse by a simple clap command, word by word.
use Rattle.std.proofs.Common.{◌≡◌, ◌≢◌, ◌==◌, ◌&&◌, ℕ, Bool, true, false, List, [], ◌∷◌, Some, None, Decides, bytes_eq, cond, codes, fold, slice_get, option_and_then, is_some, refl, ap, ◌∙◌}
use Rattle.std.specs.Option.{option_map_or}
use Rattle.std.proofs.lemmas.Bool.Decides.{Decides-eqb}
use Rattle.clap.specs.Lexer.{long_of, long_of_rest, short_of, short_of_rest, strip_byte}
use Rattle.clap.specs.Kinds.{Kinds, or_else}
use Rattle.clap.specs.Walk.{Held, Row, Rule, Step, Text, Waiting, Walk, after_step, finished, long_or_other, nothing_held, plain_word, settled, short_or_plain, subcommand_met, subcommand_or_other, walk_from, walked}
use Rattle.clap.specs.Walk.Step.{trailing}
use Rattle.clap.specs.Simple.{App, Shape, built, entered}
use Rattle.clap.specs.Faults.{bundle_fault, check_fault, defaults_fault, entered_fault, flag_word_fault, other_fault, settle_fault, step_fault, turn_fault, walk_fault}
use Rattle.clap.specs.declared.parser.matches.ValueSource.TheVariants.{CommandLine}
use Rattle.clap.specs.declared.builder.value_parser.Reading.TheVariants.{AsWritten}

-- where a parse stands before the first word
abbrev pub start : Walk
start = walk_from nothing_held

-- a word that clap takes for no option
pub record IsPlain (word : Text) : Type 0 where
  pub dashes : bytes_eq word (45 ∷ 45 ∷ []) ≡ false
  pub long : long_of word ≡ None
  pub short : short_of word ≡ None

-- a word without a hyphen before it
pub plain_from : (word : Text) → slice_get word 0 ≢ Some 45 → IsPlain word
plain_from [] other = record { dashes = refl; long = refl; short = refl }
plain_from (x ∷ xs) other =
    let off : (x == 45) ≡ false = unlike (x == 45) x (Decides-eqb x 45) other in
    record {
      dashes = ap (λ b. b && bytes_eq xs (45 ∷ [])) off;
      long = ap (λ b. option_and_then long_of_rest (option_and_then (strip_byte 45) (cond b (Some xs) None))) off;
      short = ap (λ b. option_and_then short_of_rest (cond b (Some xs) None)) off;
    }
  where
    unlike : (b : Bool) (y : ℕ) → Decides b (y ≡ 45) → Some y ≢ Some 45 → b ≡ false
    unlike true y is apart = absurd (apart (ap (λ z. Some z) (is.0 refl)))
    unlike false y is apart = refl

pub dash_is_plain : IsPlain (codes "-")
dash_is_plain = record { dashes = refl; long = refl; short = refl }

-- what such a word is, before it goes to a positional
met_plain : (c : List Rule) (waiting : Waiting) (position : ℕ) (word : Text) (h : Held) → IsPlain word → subcommand_or_other c None waiting position word h ≡ plain_word c waiting word h
met_plain c waiting position word h plain =
    let other : Held × Step = (h, trailing position) in
    ap (λ b. cond b other (long_or_other c waiting word (long_of word) h)) plain.dashes
    ∙ ap (λ o. long_or_other c waiting word o h) plain.long
    ∙ ap (λ o. short_or_plain c waiting word o h) plain.short

fault_plain : (line : Shape) (word : Text) (h : Held) → IsPlain word → other_fault line None word h ≡ []
fault_plain line word h plain =
    let none : Kinds = [] in
    ap (λ b. cond b none (flag_word_fault line.rules line.args_override_self (long_of word) word h)) plain.dashes
    ∙ ap (λ o. flag_word_fault line.rules line.args_override_self o word h) plain.long
    ∙ ap (λ o. option_map_or (λ flags. bundle_fault line.rules line.args_override_self flags h) o none) plain.short

-- between two words, if no `--` stood
abbrev pub at : Held → Waiting → ℕ → Walk
at h waiting position = record { held = h; waiting = waiting; position = position; is_trailing = false; stopped = None }

-- a parse goes over these words, from one place to another, and nothing fails
pub record Goes (line : Shape) (from : Walk) (words : List Text) (to : Walk) : Type 0 where
  pub ends : fold (walked line.rules []) from words ≡ to
  pub fine : walk_fault line [] from words ≡ []

pub goes_nowhere : (line : Shape) (w : Walk) → Goes line w [] w
unfolding walk_fault
goes_nowhere line w = record { ends = refl; fine = refl }

pub goes_on : (line : Shape) (from next to : Walk) (word : Text) (words : List Text) → walked line.rules [] from word ≡ next → turn_fault line [] from word ≡ [] → Goes line next words to → Goes line from (word ∷ words) to
unfolding walk_fault
goes_on line from next to word words step fine rest = record {
  ends = ap (λ w. fold (walked line.rules []) w words) step ∙ rest.ends;
  fine = ap (λ kinds. or_else kinds (walk_fault line [] (walked line.rules [] from word) words)) fine ∙ ap (λ w. walk_fault line [] w words) step ∙ rest.fine;
}

-- the step of a plain word
abbrev taken_as : Shape → Held → Waiting → Text → Held × Step
taken_as line h waiting word = plain_word line.rules waiting word h

walked_plain : (line : Shape) (h : Held) (waiting : Waiting) (position : ℕ) (word : Text) → subcommand_met [] waiting word ≡ None → IsPlain word
    → walked line.rules [] (at h waiting position) word ≡ after_step line.rules word (at h waiting position) (taken_as line h waiting word).0 (taken_as line h waiting word).1
unfolding walked
walked_plain line h waiting position word none plain =
    let after : Held × Step → Walk = λ met. after_step line.rules word (at h waiting position) met.0 met.1 in
    ap (λ n. after (subcommand_or_other line.rules n waiting position word h)) none ∙ ap after (met_plain line.rules waiting position word h plain)

turn_plain : (line : Shape) (h : Held) (waiting : Waiting) (position : ℕ) (word : Text) → subcommand_met [] waiting word ≡ None → IsPlain word
    → turn_fault line [] (at h waiting position) word ≡ step_fault line position (taken_as line h waiting word).0 (taken_as line h waiting word).1
turn_plain line h waiting position word none plain =
    let after : Held × Step → Kinds = λ met. step_fault line position met.0 met.1 in
    ap (λ n. or_else (other_fault line n word h) (after (subcommand_or_other line.rules n waiting position word h))) none
    ∙ ap (λ kinds. or_else kinds (after (subcommand_or_other line.rules None waiting position word h))) (fault_plain line word h plain)
    ∙ ap after (met_plain line.rules waiting position word h plain)

-- a plain word is taken
pub goes_plain : (line : Shape) (h : Held) (waiting : Waiting) (position : ℕ) (next to : Walk) (word : Text) (words : List Text) → subcommand_met [] waiting word ≡ None → IsPlain word
    → after_step line.rules word (at h waiting position) (taken_as line h waiting word).0 (taken_as line h waiting word).1 ≡ next
    → step_fault line position (taken_as line h waiting word).0 (taken_as line h waiting word).1 ≡ [] → Goes line next words to → Goes line (at h waiting position) (word ∷ words) to
goes_plain line h waiting position next to word words none plain step fine rest =
    goes_on line (at h waiting position) next to word words (walked_plain line h waiting position word none plain ∙ step) (turn_plain line h waiting position word none plain ∙ fine) rest

-- what fails after the words
abbrev pub ending : App → Kinds → Walk → Kinds
ending app fault w = or_else fault (or_else (entered_fault (built app) w.stopped)
    (or_else (settle_fault (built app).top.rules false w.held)
    (or_else (defaults_fault (settled (built app).top.rules w.held).rows (built app).top.rules)
    (check_fault (built app).top (finished (built app).top.rules w.held) (is_some (entered (built app) w.stopped))))))

-- what is held after a word, with what was read
abbrev pub holding : List Row → Text → Text → Held
holding rows id word = record { rows = rows; pending = Some (id, word ∷ []); skip = 0 }

abbrev pub row : Text → Text → Row
row id word = record { id = id; values = word ∷ []; count = None; source = Some CommandLine; reading = AsWritten }
