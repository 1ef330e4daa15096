-- Requests (qmail-lspawn(8), qmail-rspawn(8)): what the sender asks of a spawner, as bytes.
use Rattle.std.specs.Prelude.{◌≡◌, ◌≢◌, ℕ, ◌≤◌, List, [], ◌∷◌, ◌++◌, length, All, if◌then◌else◌, ◌==◌, nat_lt, flat_map, Option, Some, None, Result, Ok, Err}
use Rattle.spawn_protocol.specs.declared.request.Request.{Request}
use Rattle.spawn_protocol.specs.declared.request.CodecError.{CodecError}
use Rattle.spawn_protocol.specs.declared.request.CodecError.TheVariants.{TooLong, Memory}
use Rattle.spawn_protocol.specs.declared.request.Place.{Place}
use Rattle.spawn_protocol.specs.declared.request.Place.TheVariants as place
use Rattle.mail_bytes.specs.Texts.{HasNoNul}

-- a field and its NUL
abbrev pub field_text : List ℕ → List ℕ
field_text field = field ++ 0 ∷ []

-- The delivery number, one byte; then the message's file, the sender and the recipient, each with its NUL. Byte 3,
-- `5/28`, NUL, `a@x`, NUL, `b@y`, NUL ask for delivery 3.
abbrev pub request_text : Request → List ℕ
request_text r = r.slot ∷ (field_text r.mess ++ (field_text r.sender ++ field_text r.recipient))

-- at most 4096 bytes, none of them NUL
pub record IsField (field : List ℕ) : Type 0 where
  pub short : length field ≤ 4096
  pub plain : HasNoNul field

-- a request that a reader can give
pub record IsRequest (r : Request) : Type 0 where
  pub mess : IsField r.mess
  pub sender : IsField r.sender
  pub recipient : IsField r.recipient

-- a request as far as it has come: the fields that ended, and what has come of the next
pub data Start : Type 0 where
  NoByte : Start
  InMess : (slot : ℕ) (begun : List ℕ) → Start
  InSender : (slot : ℕ) (mess begun : List ℕ) → Start
  InRecipient : (slot : ℕ) (mess sender begun : List ℕ) → Start

-- its bytes
abbrev pub bytes_to : Start → List ℕ
bytes_to NoByte = []
bytes_to (InMess slot begun) = slot ∷ begun
bytes_to (InSender slot mess begun) = slot ∷ (field_text mess ++ begun)
bytes_to (InRecipient slot mess sender begun) = slot ∷ (field_text mess ++ (field_text sender ++ begun))

-- what has come are fields, or the beginning of one
abbrev pub HasFields : Start → Type 0
HasFields NoByte = Unit {0}
HasFields (InMess slot begun) = IsField begun
HasFields (InSender slot mess begun) = IsField mess × IsField begun
HasFields (InRecipient slot mess sender begun) = IsField mess × IsField sender × IsField begun

-- the bytes are these requests, one after the other, and the start of one more
pub record IsText (bytes : List ℕ) (requests : List Request) (start : Start) : Type 0 where
  pub text : bytes ≡ flat_map request_text requests ++ bytes_to start
  pub whole : All IsRequest requests
  pub begun : HasFields start

-- the field that a start ends in
abbrev pub begun_of : Start → List ℕ
begun_of NoByte = []
begun_of (InMess slot begun) = begun
begun_of (InSender slot mess begun) = begun
begun_of (InRecipient slot mess sender begun) = begun

-- after these requests a field has a 4097th byte
pub record IsTooLong (bytes : List ℕ) (requests : List Request) : Type 0 where
  pub before : List ℕ
  pub start : Start
  pub byte : ℕ
  pub rest : List ℕ
  pub split : bytes ≡ before ++ byte ∷ rest
  pub text : IsText before requests start
  pub full : length (begun_of start) ≡ 4096
  pub plain : byte ≢ 0

-- The reader that takes one byte after the other

-- what a reader holds: the start of a request, or that a field was too long
pub data Reader : Type 0 where
  Reading : Start → Reader
  Refused : Reader

-- a reader that was fed these bytes, and gave these requests
abbrev pub HasRead : List ℕ → List Request → Reader → Type 0
HasRead bytes requests (Reading start) = IsText bytes requests start
HasRead bytes requests Refused = IsTooLong bytes requests

-- what it took when it answered so: nothing when out of memory
abbrev pub eaten : Result (Option Request) CodecError → ℕ → List ℕ
eaten (Ok it) byte = byte ∷ []
eaten (Err TooLong) byte = byte ∷ []
eaten (Err Memory) byte = []

-- what it gave
abbrev pub given : Result (Option Request) CodecError → List Request
given (Ok (Some request)) = request ∷ []
given (Ok None) = []
given (Err why) = []

-- How it takes a byte: what it gives, and what it holds then. NUL ends a field, and a 4097th byte is too much.
abbrev pub in_field : List ℕ → ℕ → List Request × Reader → Start → List Request × Reader
in_field begun b ended more = if b == 0 then ended else (if nat_lt (length begun) 4096 then ([], Reading more) else ([], Refused))

abbrev pub step : Reader → ℕ → List Request × Reader
step (Reading NoByte) b = ([], Reading (InMess b []))
step (Reading (InMess slot begun)) b = in_field begun b ([], Reading (InSender slot begun [])) (InMess slot (begun ++ b ∷ []))
step (Reading (InSender slot mess begun)) b = in_field begun b ([], Reading (InRecipient slot mess begun [])) (InSender slot mess (begun ++ b ∷ []))
step (Reading (InRecipient slot mess sender begun)) b =
    in_field begun b (record { slot = slot; mess = mess; sender = sender; recipient = begun } ∷ [], Reading NoByte) (InRecipient slot mess sender (begun ++ b ∷ []))
step Refused b = ([], Refused)

-- a byte taken with this answer
abbrev pub Takes : Reader → ℕ → Result (Option Request) CodecError → Reader → Type 0
Takes old byte (Ok (Some request)) new = (step old byte ≡ (request ∷ [], new)) × (new ≢ Refused)
Takes old byte (Ok None) new = (step old byte ≡ ([], new)) × (new ≢ Refused)
Takes old byte (Err TooLong) new = (step old byte ≡ ([], new)) × (new ≡ Refused)
Takes old byte (Err Memory) new = (new ≡ old) × (old ≢ Refused)

-- what a reader holds at a place
abbrev pub standing : Place → ℕ → List ℕ → List ℕ → List ℕ → Reader
standing place.Begin slot mess sender begun = Reading NoByte
standing place.InMess slot mess sender begun = Reading (InMess slot begun)
standing place.InSender slot mess sender begun = Reading (InSender slot mess begun)
standing place.InRecipient slot mess sender begun = Reading (InRecipient slot mess sender begun)
standing place.Refused slot mess sender begun = Refused
