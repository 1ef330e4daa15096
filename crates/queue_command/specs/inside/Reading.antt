-- The parts of a netstring, as they are read.
use Rattle.std.specs.Prelude.{◌≡◌, ◌≢◌, ◌⊎◌, ℕ, ◌<◌, ◌^◌, List, [], ◌∷◌, ◌++◌, Option, Some, None}
use Rattle.mail_bytes.specs.Netstring.{head, IsPartOfHead, IsNoHead}
use Rattle.queue_inject.specs.declared.injection.InputEnd.{InputEnd}
use Rattle.queue_inject.specs.declared.injection.InputEnd.TheVariants.{Whole, Unread, Malformed}
use Rattle.queue_command.specs.declared.netstring.Head.{Head}
use Rattle.queue_command.specs.declared.netstring.Head.TheVariants as was

-- a stream has no more, or failed
abbrev pub IsOver : List ℕ → Type 0 → Type 0
IsOver after Failed = (after ≡ []) ⊎ Failed

-- a byte that no head has there was read
pub record IsBad (before after : List ℕ) : Type 0 where
  pub part : List ℕ
  pub byte : ℕ
  pub begins : IsPartOfHead part
  pub none : IsNoHead (part ++ byte ∷ [])
  pub text : before ≡ part ++ byte ∷ after

-- a part of a head was read
abbrev pub IsPart : List ℕ → List ℕ → Type 0
IsPart before after = (part : List ℕ) × IsPartOfHead part × (before ≡ part ++ after)

abbrev pub IsHeadRead : Head → List ℕ → List ℕ → Type 0 → Type 0
IsHeadRead (was.Length n) before after Failed = (n < 2 ^ 64) × (before ≡ head n ++ after)
IsHeadRead was.Bad before after Failed = IsBad before after
IsHeadRead was.Cut before after Failed = IsPart before after × IsOver after Failed

-- one byte was read, or none
abbrev pub IsByteRead : Option ℕ → List ℕ → List ℕ → Type 0 → Type 0
IsByteRead (Some byte) before after Failed = before ≡ byte ∷ after
IsByteRead None before after Failed = (before ≡ after) × IsOver after Failed

abbrev pub IsCommaRead : InputEnd → List ℕ → List ℕ → Type 0 → Type 0
IsCommaRead Whole before after Failed = before ≡ 44 ∷ after
IsCommaRead Malformed before after Failed = (byte : ℕ) × (byte ≢ 44) × (before ≡ byte ∷ after)
IsCommaRead Unread before after Failed = (before ≡ after) × IsOver after Failed
