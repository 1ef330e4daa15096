-- The head of a netstring, read byte by byte.
use Rattle.std.proofs.Common.{◌≡◌, ℕ, ◌+◌, ◌≤◌, ◌<◌, ◌^◌, List, [], ◌∷◌, ◌++◌, length, take, true, false, nat_le, Option, refl, sym, ap, ◌∙◌, subst, arith, append_assoc, length-append}
use Rattle.std.proofs.lemmas.Bool.{le-leb, leb-true}
use Rattle.std.proofs.lemmas.List.{take_all, take-append-le, take_more_set}
use Rattle.std.proofs.lemmas.Fmt.{length-decimal-le}
use Rattle.std.proofs.Math.ListN.{set}
use Rattle.mail_bytes.specs.Told.{Meets}
use Rattle.mail_bytes.specs.Decimal.{digits}
use Rattle.mail_bytes.specs.Netstring.{head, IsHead, IsPartOfHead, IsNoHead}
use Rattle.mail_bytes.proofs.Digits.{decimal-digits}
use Rattle.program_runner.proofs.Deeds.{meets_then}
use Rattle.queue_command.proofs.Sources.{weaker}
use Rattle.queue_command.specs.inside.Reading.{IsBad}

-- a head that began in a part which has none ends with the next byte
pub whole_head : (part : List ℕ) (byte n used : ℕ) → ((m k : ℕ) → ¬ (IsHead part m k)) → IsHead (part ++ byte ∷ []) n used → part ++ byte ∷ [] ≡ head n
whole_head part byte n used none is =
    elim (nat_le used (length part)) as (λ t. nat_le used (length part) ≡ t → part ++ byte ∷ [] ≡ head n) [
      | true ↦ λ e.
          let within = leb-true used (length part) e in
          absurd (none n used (record { fits = is.fits; within = within; text = sym (take-append-le used part (byte ∷ []) within) ∙ is.text }))
      | false ↦ λ e.
          let past : ¬ (used ≤ length part) = λ h. let yes = le-leb used (length part) h in absurd (cc) in
          let most = is.within in
          let size = length-append part (byte ∷ []) in
          let all : used ≡ length (part ++ byte ∷ []) = omega arith in
          sym (take_all used (part ++ byte ∷ []) (omega arith)) ∙ is.text
    ] refl

-- a part is shorter than the longest head
pub part_short : (part : List ℕ) → IsPartOfHead part → length part ≤ 20
part_short part is =
    let n = is.0 in
    let fits = is.1 in
    let digits_short = length-decimal-le 20 n (omega arith) (omega (arith, fits)) fits in
    let same = ap length (decimal-digits n fits) in
    let size = length-append (digits n) (58 ∷ []) in
    let shorter = is.2.0 in
    omega arith

-- one byte more was read
read_on : (before mid after : Option (List ℕ)) (part : List ℕ) (byte : ℕ) → Meets before mid (λ b a. b ≡ part ++ a) → Meets mid after (λ b a. b ≡ byte ∷ a)
    → Meets before after (λ b a. b ≡ (part ++ byte ∷ []) ++ a)
read_on before mid after part byte took one =
    meets_then (λ b a. b ≡ part ++ a) (λ b a. b ≡ byte ∷ a) (λ b a. b ≡ (part ++ byte ∷ []) ++ a)
    (λ b m a h k. h ∙ ap (λ t. part ++ t) k ∙ sym (append_assoc part (byte ∷ []) a)) before mid after took one

pub head_read : (before mid after : Option (List ℕ)) (text : List ℕ) (len byte n used : ℕ) → len < length text
    → Meets before mid (λ b a. b ≡ take len text ++ a) → Meets mid after (λ b a. b ≡ byte ∷ a)
    → ((m k : ℕ) → ¬ (IsHead (take len text) m k)) → IsHead (take (len + 1) (set text len byte)) n used
    → Meets before after (λ b a. (n < 2 ^ 64) × (b ≡ head n ++ a))
head_read before mid after text len byte n used room took one none is =
    let whole = take_more_set text len byte room in
    let here : IsHead (take len text ++ byte ∷ []) n used = subst (λ (t : List ℕ). IsHead t n used) whole is in
    weaker before after (λ b a h. (is.fits, h ∙ ap (λ t. t ++ a) (whole_head (take len text) byte n used none here)))
    (read_on before mid after (take len text) byte took one)

pub bad_read : (before mid after : Option (List ℕ)) (text : List ℕ) (len byte : ℕ) → len < length text
    → Meets before mid (λ b a. b ≡ take len text ++ a) → Meets mid after (λ b a. b ≡ byte ∷ a)
    → IsPartOfHead (take len text) → IsNoHead (take (len + 1) (set text len byte))
    → Meets before after IsBad
bad_read before mid after text len byte room took one part none =
    let whole = take_more_set text len byte room in
    meets_then (λ b a. b ≡ take len text ++ a) (λ b a. b ≡ byte ∷ a) IsBad
    (λ b m a h k. record {
      part = take len text;
      byte = byte;
      begins = part;
      none = subst IsNoHead whole none;
      text = h ∙ ap (λ t. take len text ++ t) k;
    }) before mid after took one
