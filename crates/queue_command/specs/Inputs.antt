-- How a message and its envelope are read: each from a source of its own, or as two netstrings from one source.
use Rattle.std.specs.Prelude.{◌≡◌, ◌≢◌, ◌⊎◌, ℕ, ◌+◌, ◌≤◌, List, [], ◌∷◌, ◌++◌, length, Option, Some, None, Bool, true, false}
use Rattle.mail_bytes.specs.Netstring.{head, IsPartOfHead, IsNoHead}
use Rattle.mail_bytes.specs.Told.{Meets, Rose}
use Rattle.queue_inject.specs.declared.injection.InputEnd.{InputEnd}
use Rattle.queue_inject.specs.declared.injection.InputEnd.TheVariants.{Whole, Unread, Malformed}
use Rattle.queue_inject.specs.Texts.{limit}
use Rattle.queue_command.specs.declared.input.Form.{Form}
use Rattle.queue_command.specs.declared.input.Form.TheVariants.{Beside, Netstrings}
use Rattle.queue_command.specs.declared.netstring.Place.{Place}
use Rattle.queue_command.specs.declared.netstring.Place.TheVariants.{Head, Value}

-- At most so many bytes of an input are taken: one byte past the limit tells that it is too long.
abbrev pub most : ℕ
most = limit + 1

-- What was read of a message, or of an envelope: its bytes so far, and how it ended, once that was found.
pub record Portion : Type 0 where
  pub bytes : List ℕ
  pub end : Option InputEnd

-- What was read of both.
pub record Heard : Type 0 where
  pub message : Portion
  pub envelope : Portion

-- nothing was read yet
abbrev pub unread : Portion
unread = record { bytes = []; end = None }

-- An input that ends so begins with this portion; if the portion has its end, it is all of it.
abbrev pub BeginsBy : Option InputEnd → List ℕ → InputEnd → List ℕ → Type 0
BeginsBy None whole end bytes = (rest : List ℕ) × (whole ≡ bytes ++ rest)
BeginsBy (Some found) whole end bytes = (whole ≡ bytes) × (end ≡ found)

abbrev pub Begins : List ℕ → InputEnd → Portion → Type 0
Begins whole end portion = BeginsBy portion.end whole end portion.bytes

-- A source of its own

-- So much of a source was read, and its end was found, or it failed.
abbrev pub IsReadAlone : Option InputEnd → List ℕ → List ℕ → List ℕ → Type 0 → Type 0
IsReadAlone None before after bytes Failed = before ≡ bytes ++ after
IsReadAlone (Some Whole) before after bytes Failed = (before ≡ bytes ++ after) × (after ≡ [])
IsReadAlone (Some Unread) before after bytes Failed = (before ≡ bytes ++ after) × Failed
IsReadAlone (Some Malformed) before after bytes Failed = ⊥

-- Netstrings (`5:hello,`)

-- the head, the value, and a comma
abbrev pub IsNetstring : List ℕ → List ℕ → List ℕ → Type 0
IsNetstring before after value = before ≡ head (length value) ++ (value ++ 44 ∷ after)

-- a byte that no head has there
pub record HasBadHead (before after value : List ℕ) : Type 0 where
  pub part : List ℕ
  pub byte : ℕ
  pub begins : IsPartOfHead part
  pub none : IsNoHead (part ++ byte ∷ [])
  pub text : before ≡ part ++ byte ∷ after
  pub no_value : value ≡ []

-- another byte in place of the comma
pub record HasBadComma (before after value : List ℕ) : Type 0 where
  pub byte : ℕ
  pub other : byte ≢ 44
  pub text : before ≡ head (length value) ++ (value ++ byte ∷ after)

-- it is cut in its head
abbrev pub IsCutInHead : List ℕ → List ℕ → List ℕ → Type 0
IsCutInHead before after value = (part : List ℕ) × IsPartOfHead part × (before ≡ part ++ after) × (value ≡ [])

-- it is cut in its value, or before its comma
abbrev pub IsCutAfterHead : List ℕ → List ℕ → List ℕ → Type 0
IsCutAfterHead before after value = (promised : ℕ) × (length value ≤ promised) × (before ≡ head promised ++ (value ++ after))

-- A netstring of which no end was found yet: nothing of it was read, or its head and a part of its value.
abbrev pub IsBegun : Place → List ℕ → List ℕ → List ℕ → Type 0
IsBegun Head before after value = (before ≡ after) × (value ≡ [])
IsBegun (Value left) before after value = before ≡ head (left + length value) ++ (value ++ after)

-- A source was read as a netstring, up to this place, with this value so far.
abbrev pub IsReadNet : Place → Option InputEnd → List ℕ → List ℕ → List ℕ → Type 0 → Type 0
IsReadNet place None before after value Failed = IsBegun place before after value
IsReadNet place (Some Whole) before after value Failed = (place ≡ Head) × IsNetstring before after value
IsReadNet place (Some Malformed) before after value Failed = HasBadHead before after value ⊎ HasBadComma before after value
IsReadNet place (Some Unread) before after value Failed =
    (IsCutInHead before after value ⊎ IsCutAfterHead before after value) × ((after ≡ []) ⊎ Failed)

-- in either form
abbrev pub IsReadIn : Form → Place → Option InputEnd → List ℕ → List ℕ → List ℕ → Type 0 → Type 0
IsReadIn Beside place end before after bytes Failed = IsReadAlone end before after bytes Failed
IsReadIn Netstrings place end before after bytes Failed = IsReadNet place end before after bytes Failed

-- Both inputs

-- its end was found, and it could be read up to there
abbrev pub is_whole : Option InputEnd → Bool
is_whole None = false
is_whole (Some Whole) = true
is_whole (Some Unread) = false
is_whole (Some Malformed) = false

-- The envelope's netstring comes after the message's.
abbrev pub AreReadNets : Bool → Place → Heard → List ℕ → List ℕ → Type 0 → Type 0
AreReadNets true place heard before after Failed =
    (mid : List ℕ) × IsNetstring before mid heard.message.bytes × IsReadNet place heard.envelope.end mid after heard.envelope.bytes Failed
AreReadNets false place heard before after Failed = IsReadNet place heard.message.end before after heard.message.bytes Failed

-- A source, before and after: what it has left, if it tells, and how often it failed.
pub record Stream : Type 0 where
  pub old : Option (List ℕ)
  pub new : Option (List ℕ)
  pub faults_old : ℕ
  pub faults_new : ℕ

abbrev pub HasFailed : Stream → Type 0
HasFailed stream = Rose stream.faults_old stream.faults_new

-- Read of a source of its own, an input isn't malformed, and couldn't be read only if the source failed, also if
-- that doesn't tell what it has left.
pub record EndsAlone (end : Option InputEnd) (stream : Stream) : Type 0 where
  pub unread : end ≡ Some Unread → HasFailed stream
  pub not_malformed : end ≢ Some Malformed

-- What was read of both was taken of their sources.
abbrev pub AreTaken : Form → Place → Stream → Stream → Heard → Type 0
AreTaken Beside place from beside heard =
    Meets from.old from.new (λ before after. IsReadAlone heard.message.end before after heard.message.bytes (HasFailed from))
    × Meets beside.old beside.new (λ before after. IsReadAlone heard.envelope.end before after heard.envelope.bytes (HasFailed beside))
    × EndsAlone heard.message.end from × EndsAlone heard.envelope.end beside
AreTaken Netstrings place from beside heard =
    Meets from.old from.new (λ before after. AreReadNets (is_whole heard.message.end) place heard before after (HasFailed from))
    × (beside.new ≡ beside.old)

-- An input whose end was found is within the limit, and of any other one byte more was read at most.
abbrev pub IsBoundedBy : Option InputEnd → ℕ → Type 0
IsBoundedBy None count = count ≤ most
IsBoundedBy (Some end) count = count ≤ limit

abbrev pub IsBounded : Portion → Type 0
IsBounded portion = IsBoundedBy portion.end (length portion.bytes)

-- A message and its envelope were read so far, the envelope only after a whole message; until then its own source stays.
pub record AreRead (form : Form) (place : Place) (from beside : Stream) (heard : Heard) : Type 0 where
  pub taken : AreTaken form place from beside heard
  pub in_turn : is_whole heard.message.end ≡ false → (heard.envelope ≡ unread) × (beside.new ≡ beside.old)
  pub message_short : IsBounded heard.message
  pub envelope_short : IsBounded heard.envelope
