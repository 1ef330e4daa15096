-- With what commands exit.
use Rattle.std.proofs.Common.{◌≡◌, ◌≢◌, ℕ, ◌<◌, List, ◌++◌, drop, Option, Some, None, nat_lt, nat_eq, refl, ap, ◌∙◌, ⊎_elim, arith, codes}
use Rattle.std.specs.Prelude.{if◌then◌else◌}
use Rattle.std.specs.List.{starts_with}
use Rattle.std.proofs.lemmas.Bool.{cases_Bool, lt-ltb, ltb-true}
use Rattle.std.proofs.lemmas.Bool.Decides.{Decides-eqb}
use Rattle.std.proofs.lemmas.Slice.Eq.{starts_is}
use Rattle.mail_bytes.specs.Decimal.{digits, number_of}
use Rattle.mail_bytes.proofs.Digits.{number_of-digits, number_of_some}
use Rattle.world_pipes.specs.Commands.{command_exits, exits_with, not_found}

-- a number below 256 is a status
pub exits_small : (n : ℕ) → n < 256 → exits_with (Some n) ≡ n
exits_small n small = ap (λ t. if t then n else not_found) (lt-ltb n 256 small)

pub exits_by_number : (n : ℕ) → n < 256 → command_exits (codes "exit " ++ digits n) ≡ n
exits_by_number n small = ap exits_with (number_of-digits n (omega (arith, small))) ∙ exits_small n small

-- no other text is one
exits_past : (text : List ℕ) (o : Option ℕ) → number_of text ≡ o → ((n : ℕ) → n < 256 → text ≢ digits n) → exits_with o ≡ not_found
exits_past text None is never = refl
exits_past text (Some n) is never = ⊎_elim
    (λ small. absurd (never n (ltb-true n 256 small) (number_of_some text n is).0))
    (λ past. ap (λ t. if t then n else not_found) past)
    (cases_Bool (nat_lt n 256))

pub exits_otherwise : (command : List ℕ) → ((n : ℕ) → n < 256 → command ≢ codes "exit " ++ digits n) → command_exits command ≡ not_found
exits_otherwise command never =
    let begins = starts_is Decides-eqb command (codes "exit ") (starts_with nat_eq command (codes "exit ")) refl in
    ⊎_elim
    (λ e. ap (λ t. if t then exits_with (number_of (drop 5 command)) else not_found) e
    ∙ exits_past (drop 5 command) (number_of (drop 5 command)) refl (λ n small same. never n small (begins.0 e ∙ ap (λ l. codes "exit " ++ l) same)))
    (λ e. ap (λ t. if t then exits_with (number_of (drop 5 command)) else not_found) e)
    (cases_Bool (starts_with nat_eq command (codes "exit ")))
