-- Bytes that come in and go out, and the counts of what failed.
use Rattle.std.specs.Prelude.{◌≡◌, ℕ, ◌<◌, ◌≤◌, List, [], ◌++◌, length, take, Bool, true, false}
use Rattle.outside.specs.declared.source.Took.{Took}
use Rattle.outside.specs.declared.source.Took.TheVariants as took
use Rattle.outside.specs.declared.sink.Gave.{Gave}
use Rattle.outside.specs.declared.sink.Gave.TheVariants as gave
use Rattle.mail_bytes.specs.Told.{Rose}

-- The count never falls; it rose, or stands at its last value, if this was a failure, and is as it was if it was none.
pub record CountsFailures (before now : ℕ) (Failure : Type 0) : Type 0 where
  pub later : before ≤ now
  pub rose : Failure → Rose before now
  pub still : ¬ Failure → now ≡ before

-- no more bytes came than there is room for, and some if there is room
abbrev pub FitsInto : Took → ℕ → Type 0
FitsInto (took.Got k) room = (k ≤ room) × (0 < room → 0 < k)
FitsInto took.End room = Unit {0}
FitsInto took.Failed room = Unit {0}

-- a taking put these bytes at the start of `into`: what was left before it, and what is left after it
abbrev pub TakesBytes : Took → List ℕ → List ℕ → List ℕ → Type 0
TakesBytes (took.Got k) into before after = before ≡ take k into ++ after
TakesBytes took.End into before after = (before ≡ []) × (after ≡ [])
TakesBytes took.Failed into before after = after ≡ before

-- a giving of these bytes: what was taken before it, and what is taken after it
abbrev pub Gives : Gave → List ℕ → List ℕ → List ℕ → Type 0
Gives gave.Done bytes before after = after ≡ before ++ bytes
Gives gave.Failed bytes before after = (k : ℕ) × (k ≤ length bytes) × (after ≡ before ++ take k bytes)

-- a taking told the end, or failed
abbrev pub took_end : Took → Bool
took_end took.End = true
took_end other = false

abbrev pub took_failed : Took → Bool
took_failed took.Failed = true
took_failed other = false

abbrev pub gave_failed : Gave → Bool
gave_failed gave.Failed = true
gave_failed other = false
