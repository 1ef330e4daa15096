-- Where the reading of a package stands: what was read, which texts it has so far, and what an injector is given of them.
use Rattle.std.specs.Prelude.{◌≡◌, ◌⊎◌, ℕ, ◌+◌, ◌≤◌, ◌<◌, List, [], ◌∷◌, ◌++◌, length, take, flat_map, Some, None, Bool, true, false}
use Rattle.mail_bytes.specs.Netstring.{head, netstring, IsPartOfHead}
use Rattle.mail_bytes.specs.Texts.{HasNoNul}
use Rattle.envelope_records.specs.Envelope.{records_of}
use Rattle.queue_inject.specs.declared.injection.InputEnd.TheVariants as ends
use Rattle.queue_inject.specs.declared.injection.Part.{Part}
use Rattle.queue_inject.specs.declared.injection.Part.TheVariants.{Message, Envelope}
use Rattle.queue_command.specs.Inputs.{Portion, Heard, Stream, unread}
use Rattle.qmqp_server.specs.declared.reader.Place.{Place}
use Rattle.qmqp_server.specs.declared.reader.Place.TheVariants as place
use Rattle.qmqp_server.specs.declared.reader.Reader.{Reader}
use Rattle.qmqp_server.specs.declared.reader.PackageFault.{PackageFault}
use Rattle.qmqp_server.specs.declared.reader.PackageFault.TheVariants.{Cut, Malformed}
use Rattle.qmqp_server.specs.declared.reader.Next.{Next}
use Rattle.qmqp_server.specs.declared.reader.Next.TheVariants as next
use Rattle.qmqp_server.specs.declared.reader.Inner.{Inner}
use Rattle.qmqp_server.specs.declared.reader.Inner.TheVariants as inner
use Rattle.qmqp_server.specs.declared.reader.Beginning.{Beginning}
use Rattle.qmqp_server.specs.declared.reader.Beginning.TheVariants as begins
use Rattle.qmqp_server.specs.Package.{IsPackage, IsNulTold, content_of, envelope_of, longest}
use Rattle.qmqp_server.specs.Faults.{HasBadHead, IsTooLong, IsBroken, IsDryIfCut}
use Rattle.qmqp_server.specs.Sources.{Takes}

-- The texts of a package, as far as it was read
pub data Got : Type 0 where
  InMessage : (begun : List ℕ) → Got
  Between : (message : List ℕ) (addresses : List (List ℕ)) → Got
  InAddress : (message : List ℕ) (addresses : List (List ℕ)) (begun : List ℕ) → Got
  Whole : (message sender : List ℕ) (recipients : List (List ℕ)) → Got

-- the addresses, as far as they were read
abbrev pub addresses_of : Got → List (List ℕ)
addresses_of (InMessage begun) = []
addresses_of (Between message addresses) = addresses
addresses_of (InAddress message addresses begun) = addresses ++ begun ∷ []
addresses_of (Whole message sender recipients) = sender ∷ recipients

abbrev pub IsNulIn : Bool → List ℕ → Type 0
IsNulIn false bytes = HasNoNul bytes
IsNulIn true bytes = ¬ (HasNoNul bytes)

-- a NUL was read before these bytes, or is among them
abbrev pub IsSpoiled : Bool → Bool → List ℕ → Type 0
IsSpoiled true had bytes = (had ≡ true) ⊎ (¬ (HasNoNul bytes))
IsSpoiled false had bytes = (had ≡ false) × HasNoNul bytes

-- What an injector is given of them

-- the records of so many addresses, of which the first is the sender
abbrev pub records : List (List ℕ) → List ℕ
records [] = []
records (sender ∷ recipients) = records_of sender recipients

-- the letter of the next record
abbrev pub letter_after : List (List ℕ) → ℕ
letter_after [] = 70
letter_after (sender ∷ recipients) = 84

-- a message, and so much of an envelope
abbrev pub with_envelope : List ℕ → List ℕ → Heard
with_envelope message envelope = record { message = record { bytes = message; end = Some ends.Whole }; envelope = record { bytes = envelope; end = None } }

abbrev pub heard_of : Got → Heard
heard_of (InMessage begun) = record { message = record { bytes = begun; end = None }; envelope = unread }
heard_of (Between message addresses) = with_envelope message (records addresses)
heard_of (InAddress message addresses begun) = with_envelope message (records addresses ++ letter_after addresses ∷ begun)
heard_of (Whole message sender recipients) = with_envelope message (envelope_of sender recipients)

-- the part that is read
abbrev pub part_of : Got → Part
part_of (InMessage begun) = Message
part_of other = Envelope

-- what was heard, and a portion more of this part
abbrev pub heard_on : Part → Heard → Portion → Heard
heard_on Message heard more = record heard { message = record { bytes = heard.message.bytes ++ more.bytes; end = more.end } }
heard_on Envelope heard more = record heard { envelope = record { bytes = heard.envelope.bytes ++ more.bytes; end = more.end } }

-- How much is left

abbrev pub left_at : Place → ℕ → ℕ
left_at (place.Message left) rest = left + (rest + 3)
left_at place.Between rest = rest + 2
left_at (place.Address left) rest = left + (rest + 3)
left_at place.Over rest = 0
left_at (place.Broken fault) rest = 0

abbrev pub left_of : Reader → ℕ
left_of reader = left_at reader.place reader.rest

abbrev pub is_over_at : Place → Bool
is_over_at (place.Message left) = false
is_over_at place.Between = false
is_over_at (place.Address left) = false
is_over_at place.Over = true
is_over_at (place.Broken fault) = true

abbrev pub is_over : Reader → Bool
is_over reader = is_over_at reader.place

-- What was read

-- Whole netstrings of the content, the head of the next one, and a part of its value. So many bytes of that are left, and so many come
-- after its comma.
pub record IsInValue (left rest : ℕ) (texts : List (List ℕ)) (begun read : List ℕ) : Type 0 where
  pub promised : ℕ
  pub text : read ≡ head promised ++ (flat_map netstring texts ++ (head (left + length begun) ++ begun))
  pub size : promised ≡ length (flat_map netstring texts) + (length (head (left + length begun)) + (length begun + (left + (1 + rest))))
  pub short : promised ≤ longest

-- Whole netstrings of the content, of which so many bytes are left.
pub record IsBetween (rest : ℕ) (texts : List (List ℕ)) (read : List ℕ) : Type 0 where
  pub promised : ℕ
  pub text : read ≡ head promised ++ flat_map netstring texts
  pub size : promised ≡ length (flat_map netstring texts) + rest
  pub short : promised ≤ longest

abbrev pub StandsAt : Place → ℕ → ℕ → Got → List ℕ → Type 0
StandsAt (place.Message left) rest letter (InMessage begun) read = IsInValue left rest [] begun read × (letter ≡ 70)
StandsAt place.Between rest letter (Between message addresses) read = IsBetween rest (message ∷ addresses) read × (letter ≡ letter_after addresses)
StandsAt (place.Address left) rest letter (InAddress message addresses begun) read =
    IsInValue left rest (message ∷ addresses) begun read × (letter ≡ letter_after addresses)
StandsAt place.Over rest letter (Whole message sender recipients) read =
    IsPackage read message sender recipients × (length (content_of message sender recipients) ≤ longest)
StandsAt place rest letter got read = ⊥

-- These are the texts of a package that was read so far.
pub record Stands (reader : Reader) (got : Got) (read : List ℕ) : Type 0 where
  pub texts : StandsAt reader.place reader.rest reader.letter got read
  pub nul : IsNulTold reader.has_nul (addresses_of got)

-- The heads

-- why the bytes that were taken are no head of a netstring within a content of which so many bytes were left
abbrev pub IsNoInner : PackageFault → ℕ → List ℕ → Type 0
IsNoInner Cut left bytes = IsPartOfHead bytes × (length bytes < left)
IsNoInner Malformed left bytes =
    (HasBadHead bytes × (length bytes ≤ left))
    ⊎ ((IsPartOfHead bytes × (length bytes ≡ left))
    ⊎ ((value : ℕ) × (bytes ≡ head value) × (length bytes ≤ left) × (left ≤ length bytes + value)))

abbrev pub IsInnerOf : Inner → ℕ → Stream → List ℕ → Type 0
IsInnerOf (inner.Netstring value rest) left stream bytes = (bytes ≡ head value) × (left ≡ length bytes + (value + (1 + rest)))
IsInnerOf (inner.Broken fault) left stream bytes = IsNoInner fault left bytes × IsDryIfCut fault stream

pub record IsInnerTaken (result : Inner) (left : ℕ) (stream : Stream) : Type 0 where
  pub bytes : List ℕ
  pub takes : Takes bytes stream
  pub inner_of : IsInnerOf result left stream bytes

-- A package of which its length and the head of its message were read: these bytes.
abbrev pub heads_at : Place → ℕ → List ℕ
heads_at (place.Message left) rest = head (length (head left) + (left + (1 + rest))) ++ head left
heads_at place rest = []

abbrev pub heads_of : Reader → List ℕ
heads_of reader = heads_at reader.place reader.rest

pub record IsNew (reader : Reader) : Type 0 where
  pub left : ℕ
  pub place : reader.place ≡ place.Message left
  pub letter : reader.letter ≡ 70
  pub nul : reader.has_nul ≡ false
  pub short : length (head left) + (left + (1 + reader.rest)) ≤ longest

abbrev pub BeginsBy : Beginning → Stream → List ℕ → Type 0
BeginsBy (begins.Heads reader) stream read = IsNew reader × (read ≡ heads_of reader)
BeginsBy begins.TooLong stream read = IsTooLong read
BeginsBy (begins.Broken fault) stream read = IsBroken fault read × IsDryIfCut fault stream

pub record Begins (result : Beginning) (stream : Stream) : Type 0 where
  pub read : List ℕ
  pub takes : Takes read stream
  pub begins : BeginsBy result stream read

-- the same after the head of a length
pub record BeginsContent (promised : ℕ) (result : Beginning) (stream : Stream) : Type 0 where
  pub more : List ℕ
  pub takes : Takes more stream
  pub begins : BeginsBy result stream (head promised ++ more)

-- One step

-- what an injector is given of it, or its end
abbrev pub portion_of : Next → List ℕ → Portion
portion_of (next.Bytes count) buffer = record { bytes = take count buffer; end = None }
portion_of next.MessageOver buffer = record { bytes = []; end = Some ends.Whole }
portion_of next.Nothing buffer = unread

-- It went on, and an injector is given this portion of the part that was read.
pub record GoesOn (old new : Reader) (got : Got) (read : List ℕ) (portion : Portion) : Type 0 where
  pub later : Got
  pub stands : Stands new later read
  pub gives : heard_of later ≡ heard_on (part_of got) (heard_of got) portion
  pub nul : new.has_nul ≡ old.has_nul

-- a NUL was read in an address
pub record FindsNul (new : Reader) (got : Got) (read : List ℕ) : Type 0 where
  pub later : Got
  pub stands : Stands new later read
  pub nul : new.has_nul ≡ true

-- it was found to be none
pub record Breaks (new : Reader) (read : List ℕ) (stream : Stream) : Type 0 where
  pub fault : PackageFault
  pub place : new.place ≡ place.Broken fault
  pub broken : IsBroken fault read
  pub dry : IsDryIfCut fault stream

-- so many bytes are given, at least one and no more than were asked for
abbrev pub IsSome : Next → ℕ → Type 0
IsSome (next.Bytes count) most = (0 < count) × (count ≤ most)
IsSome next.MessageOver most = Unit {0}
IsSome next.Nothing most = Unit {0}

abbrev pub IsStepOf : Next → Reader → Reader → Got → List ℕ → Stream → List ℕ → Type 0
IsStepOf (next.Bytes count) old new got read stream buffer = GoesOn old new got read (portion_of (next.Bytes count) buffer)
IsStepOf next.MessageOver old new got read stream buffer = GoesOn old new got read (portion_of next.MessageOver buffer)
IsStepOf next.Nothing old new got read stream buffer = FindsNul new got read ⊎ Breaks new read stream

-- Some bytes more were taken, and whatever was read before, it was read on.
pub record Steps (result : Next) (old new : Reader) (most : ℕ) (stream : Stream) (buffer : List ℕ) : Type 0 where
  pub more : List ℕ
  pub takes : Takes more stream
  pub some : IsSome result most
  pub on : (got : Got) (read : List ℕ) → Stands old got read → IsStepOf result old new got (read ++ more) stream buffer

-- The rest

-- what was heard before is a beginning of that
pub record Suits (heard later : Heard) : Type 0 where
  pub message : (heard.message ≡ later.message) ⊎ ((heard.message.end ≡ None) × (rest : List ℕ) × (later.message.bytes ≡ heard.message.bytes ++ rest))
  pub envelope_end : heard.envelope.end ≡ None
  pub envelope_rest : List ℕ
  pub envelope : later.envelope.bytes ≡ heard.envelope.bytes ++ envelope_rest

-- It was read on to these texts; unless an address has a NUL, what was heard before still begins what an injector is given of them.
pub record ReadsOn (old new : Reader) (got : Got) (read : List ℕ) : Type 0 where
  pub later : Got
  pub stands : Stands new later read
  pub nul : old.has_nul ≡ true → new.has_nul ≡ true
  pub suits : new.has_nul ≡ false → (heard : Heard) → Suits heard (heard_of got) → Suits heard (heard_of later)

-- The rest was taken: nothing if it was over.
pub record PassesOver (old new : Reader) (stream : Stream) : Type 0 where
  pub more : List ℕ
  pub takes : Takes more stream
  pub over : is_over old ≡ true → (new ≡ old) × (more ≡ []) × (stream.new ≡ stream.old) × (stream.faults_new ≡ stream.faults_old)
  pub on : (got : Got) (read : List ℕ) → Stands old got read → ReadsOn old new got (read ++ more) ⊎ Breaks new (read ++ more) stream
