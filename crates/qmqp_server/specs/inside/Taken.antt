-- The heads and commas that are taken of a source.
use Rattle.std.specs.Prelude.{◌≡◌, ◌≢◌, ℕ, ◌≤◌, ◌<◌, ◌^◌, List, [], ◌∷◌, length, Option, Some, None}
use Rattle.mail_bytes.specs.Netstring.{head, IsPartOfHead}
use Rattle.queue_command.specs.Inputs.{Stream}
use Rattle.qmqp_server.specs.declared.heads.Head.{Head}
use Rattle.qmqp_server.specs.declared.heads.Head.TheVariants as was
use Rattle.qmqp_server.specs.declared.heads.Comma.{Comma}
use Rattle.qmqp_server.specs.declared.heads.Comma.TheVariants as comma
use Rattle.qmqp_server.specs.Faults.{HasBadHead}
use Rattle.qmqp_server.specs.Sources.{Takes, IsDry}

abbrev pub IsByteTaken : Option ℕ → Stream → Type 0
IsByteTaken (Some byte) stream = Takes (byte ∷ []) stream
IsByteTaken None stream = Takes [] stream × IsDry stream

-- a byte other than a comma was taken
pub record TakesOther (stream : Stream) : Type 0 where
  pub byte : ℕ
  pub other : byte ≢ 44
  pub takes : Takes (byte ∷ []) stream

abbrev pub IsCommaTaken : Comma → Stream → Type 0
IsCommaTaken comma.Right stream = Takes (44 ∷ []) stream
IsCommaTaken comma.Wrong stream = TakesOther stream
IsCommaTaken comma.Cut stream = Takes [] stream × IsDry stream

-- what the bytes of a head are that were taken, at most so many
abbrev pub IsHeadOf : Head → ℕ → Stream → List ℕ → Type 0
IsHeadOf (was.Length value used) most stream bytes = (value < 2 ^ 64) × (bytes ≡ head value) × (used ≡ length bytes) × (length bytes ≤ most)
IsHeadOf was.Bad most stream bytes = HasBadHead bytes × (length bytes ≤ most)
IsHeadOf was.Past most stream bytes = IsPartOfHead bytes × (length bytes ≡ most)
IsHeadOf was.Cut most stream bytes = IsPartOfHead bytes × (length bytes < most) × IsDry stream

pub record IsHeadTaken (result : Head) (most : ℕ) (stream : Stream) : Type 0 where
  pub bytes : List ℕ
  pub takes : Takes bytes stream
  pub head_of : IsHeadOf result most stream bytes
