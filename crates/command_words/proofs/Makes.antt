-- Words of `make` that aren't written out.
use Rattle.std.proofs.Common.{◌≡◌, ◌<◌, ◌≤◌, ◌^◌, ℕ, List, [], ◌∷◌, Option, Some, None, cond, codes, option_and_then, option_map, refl, ap, ap₂, ◌∙◌, arith}
use Rattle.std.proofs.lemmas.Bool.{lt-ltb}
use Rattle.mail_bytes.specs.Decimal.{digits}
use Rattle.mail_bytes.proofs.Digits.{digits_only, number_of-digits}
use Rattle.clap.specs.Words.{matches_of}
use Rattle.clap.specs.Walk.{Text, Walk, finished, nothing_held}
use Rattle.clap.specs.Walk.Waiting.{idle}
use Rattle.clap.proofs.OnLiterals.{clap_on_literals}
use Rattle.command_words.specs.declared.command.Command.TheVariants.{Make}
use Rattle.command_words.specs.declared.command.MakeWords.{MakeWords}
use Rattle.command_words.specs.Lines.{make_line}
use Rattle.command_words.specs.Numbers.{as_below, number_below}
use Rattle.command_words.specs.Reads.{Reads, command_of, make_words, maker_told, maker_told_by}
use Rattle.command_words.proofs.Members.{Taken, line_of, taken}
use Rattle.command_words.proofs.Steps.{Goes, IsPlain, at, ending, goes_nowhere, goes_plain, holding, plain_from, row, start}
use Rattle.command_words.proofs.Walks.{no_hyphen}

-- What a caller wrote is read

abbrev after_seed : Text → Walk
after_seed seed = at (holding [] (codes "seed") seed) idle 2

abbrev after_both : Text → Text → Walk
after_both seed count = at (holding (row (codes "seed") seed ∷ []) (codes "count") count) idle 3

made_told : (words : List Text) (to : Walk) (told : MakeWords) → Taken make_line words to → maker_told_by (finished (line_of make_line).rules to.held) ≡ Some told → make_words words ≡ Some told
unfolding make_words
made_told words to told t is =
    let none : Option MakeWords = None in
    ap (λ b. cond b (maker_told_by (matches_of make_line words)) none) t.takes ∙ ap maker_told_by t.finds ∙ is

make_taken : (words : List Text) (to : Walk) → Goes (line_of make_line) start words to → ending make_line [] to ≡ [] → Taken make_line (codes "make" ∷ words) to
make_taken words to = taken make_line (codes "make") words to refl refl refl

make_goes : (seed count : Text) → IsPlain seed → IsPlain count → Goes (line_of make_line) start (seed ∷ count ∷ []) (after_both seed count)
unfolding clap_on_literals
make_goes seed count first second =
    goes_plain (line_of make_line) nothing_held idle 1 (after_seed seed) _ seed (count ∷ []) refl first refl refl
    (goes_plain (line_of make_line) (holding [] (codes "seed") seed) idle 2 _ _ count [] refl second refl refl (goes_nowhere (line_of make_line) _))

make_ends : (seed count : Text) → ending make_line [] (after_both seed count) ≡ []
unfolding clap_on_literals
make_ends seed count = refl

digits_plain : (n : ℕ) → IsPlain (digits n)
digits_plain n = plain_from (digits n) (no_hyphen (digits n) (digits_only n))

number_back : (limit n : ℕ) → n < limit → n < 2 ^ 64 → number_below limit (Some (digits n)) ≡ Some n
number_back limit n below fits =
    let none : Option ℕ = None in
    ap (option_and_then (as_below limit)) (number_of-digits n fits) ∙ ap (λ b. cond b (Some n) none) (lt-ltb n limit below)

make_finds : (seed count : ℕ) → seed ≤ 65536 → count ≤ 100000
    → maker_told_by (finished (line_of make_line).rules (after_both (digits seed) (digits count)).held) ≡ Some (record { seed = seed; count = count })
unfolding clap_on_literals
make_finds seed count few fits =
    ap₂ maker_told (number_back 65537 seed (omega (arith, few)) (omega (arith, few))) (number_back 100001 count (omega (arith, fits)) (omega (arith, fits)))

pub make_numbers : (seed count : ℕ) → seed ≤ 65536 → count ≤ 100000 → Reads (codes "make" ∷ digits seed ∷ digits count ∷ []) (Make (record { seed = seed; count = count }))
unfolding command_of
make_numbers seed count few fits =
    let words : List Text = digits seed ∷ digits count ∷ [] in
    let to = after_both (digits seed) (digits count) in
    ap (option_map Make) (made_told (codes "make" ∷ words) to _
    (make_taken words to (make_goes (digits seed) (digits count) (digits_plain seed) (digits_plain count)) (make_ends (digits seed) (digits count))) (make_finds seed count few fits))
