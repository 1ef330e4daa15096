-- Why bytes are no package, by the first fault from the left.
use Rattle.std.specs.Prelude.{◌≡◌, ◌≢◌, ℕ, ◌+◌, ◌≤◌, ◌<◌, ◌^◌, List, [], ◌∷◌, ◌++◌, length, flat_map}
use Rattle.mail_bytes.specs.Netstring.{head, netstring, IsPartOfHead, IsNoHead}
use Rattle.queue_command.specs.Inputs.{Stream}
use Rattle.qmqp_server.specs.declared.reader.PackageFault.{PackageFault}
use Rattle.qmqp_server.specs.declared.reader.PackageFault.TheVariants.{Cut, Malformed}
use Rattle.qmqp_server.specs.Package.{IsPackage, content_of, longest}
use Rattle.qmqp_server.specs.Sources.{IsDry}

-- they end with a byte that no head has there
pub record HasBadHead (bytes : List ℕ) : Type 0 where
  pub part : List ℕ
  pub byte : ℕ
  pub begins : IsPartOfHead part
  pub none : IsNoHead (part ++ byte ∷ [])
  pub text : bytes ≡ part ++ byte ∷ []

-- A length within the limit was read, then whole netstrings of the content, and then these bytes of it.
pub record IsWithin (read : List ℕ) (texts : List (List ℕ)) (more : List ℕ) : Type 0 where
  pub promised : ℕ
  pub text : read ≡ head promised ++ (flat_map netstring texts ++ more)
  pub fits : length (flat_map netstring texts) + length more ≤ promised
  pub short : promised ≤ longest

-- the whole content was read, and then these bytes
pub record IsAfter (read : List ℕ) (texts : List (List ℕ)) (more : List ℕ) : Type 0 where
  pub promised : ℕ
  pub text : read ≡ head promised ++ (flat_map netstring texts ++ more)
  pub size : promised ≡ length (flat_map netstring texts)
  pub short : promised ≤ longest

-- Malformed

-- the content ends within a head, or before it has two netstrings
pub record EndsTooSoon (read : List ℕ) : Type 0 where
  pub texts : List (List ℕ)
  pub part : List ℕ
  pub within : IsWithin read texts part
  pub begins : IsPartOfHead part
  pub over : within.promised ≡ length (flat_map netstring texts) + length part
  pub few : part ≡ [] → length texts < 2

-- a netstring runs past the content
pub record RunsPast (read : List ℕ) : Type 0 where
  pub texts : List (List ℕ)
  pub value : ℕ
  pub within : IsWithin read texts (head value)
  pub past : within.promised ≤ length (flat_map netstring texts) + (length (head value) + value)

-- another byte in place of the comma of a netstring of the content
pub record HasBadComma (read : List ℕ) : Type 0 where
  pub texts : List (List ℕ)
  pub last : List ℕ
  pub byte : ℕ
  pub other : byte ≢ 44
  pub within : IsWithin read texts (head (length last) ++ (last ++ byte ∷ []))

-- another byte in place of the last comma
pub record HasBadLastComma (read : List ℕ) : Type 0 where
  pub texts : List (List ℕ)
  pub byte : ℕ
  pub other : byte ≢ 44
  pub two : 2 ≤ length texts
  pub after : IsAfter read texts (byte ∷ [])

-- a bad head within the content
pub record HasBadInnerHead (read : List ℕ) : Type 0 where
  pub texts : List (List ℕ)
  pub more : List ℕ
  pub bad : HasBadHead more
  pub within : IsWithin read texts more

-- A head or a comma is wrong, the content has fewer than two netstrings, or an inner one runs past it.
pub data IsMalformed (read : List ℕ) : Type 0 where
  BadHead : HasBadHead read → IsMalformed read
  BadInnerHead : HasBadInnerHead read → IsMalformed read
  TooSoon : EndsTooSoon read → IsMalformed read
  Past : RunsPast read → IsMalformed read
  BadComma : HasBadComma read → IsMalformed read
  BadLastComma : HasBadLastComma read → IsMalformed read

-- Malformed bytes begin no package that is within the limit.
abbrev pub FaultsExcludePackages : Type 0
FaultsExcludePackages = (read rest text more message sender : List ℕ) (recipients : List (List ℕ)) → length (content_of message sender recipients) ≤ longest
    → IsPackage text message sender recipients → IsMalformed read → read ++ rest ≡ text ++ more → ⊥

-- Cut

-- the last that was read is a part of a head, and bytes of the content are left
pub record IsInHead (read : List ℕ) : Type 0 where
  pub texts : List (List ℕ)
  pub part : List ℕ
  pub within : IsWithin read texts part
  pub begins : IsPartOfHead part
  pub left : length (flat_map netstring texts) + length part < within.promised

-- it is a head, of which the value and its comma fit into the content, and at most that value
pub record IsInNetstring (read : List ℕ) : Type 0 where
  pub texts : List (List ℕ)
  pub value : ℕ
  pub begun : List ℕ
  pub within : IsWithin read texts (head value ++ begun)
  pub few : length begun ≤ value
  pub fits : length (flat_map netstring texts) + (length (head value) + value) < within.promised

-- it is the whole content, which has two netstrings
pub record IsBeforeLastComma (read : List ℕ) : Type 0 where
  pub texts : List (List ℕ)
  pub two : 2 ≤ length texts
  pub after : IsAfter read texts []

-- Nothing that was read is wrong, and more has to come.
pub data IsCut (read : List ℕ) : Type 0 where
  InFirstHead : IsPartOfHead read → IsCut read
  InHead : IsInHead read → IsCut read
  InNetstring : IsInNetstring read → IsCut read
  BeforeLastComma : IsBeforeLastComma read → IsCut read

-- Bytes that end within a package hold no whole one.
abbrev pub CutsExcludePackages : Type 0
CutsExcludePackages = (read text more message sender : List ℕ) (recipients : List (List ℕ)) → IsPackage text message sender recipients → IsCut read
    → read ≡ text ++ more → ⊥

-- Too long

-- a length over the limit was read
abbrev pub IsTooLong : List ℕ → Type 0
IsTooLong read = (n : ℕ) × (longest < n) × (n < 2 ^ 64) × (read ≡ head n)

-- Which of them

-- The bytes that were read are no package, for this fault.
abbrev pub IsBroken : PackageFault → List ℕ → Type 0
IsBroken Cut read = IsCut read
IsBroken Malformed read = IsMalformed read

-- cut is only what its source gave no more of
abbrev pub IsDryIfCut : PackageFault → Stream → Type 0
IsDryIfCut Cut stream = IsDry stream
IsDryIfCut Malformed stream = Unit {0}
