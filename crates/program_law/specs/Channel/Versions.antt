-- What a channel file reads, now and after a machine stop (INTERNALS, section 6): the text that it was written with, whole and synced,
-- except for marks.
use Rattle.std.specs.Prelude.{◌≡◌, ◌⊎◌, ℕ, ◌<◌, List, [], ◌∷◌, true, length, Option, Some, slice_get}
use Rattle.call_fs.specs.Disk.{Among, File}
use Rattle.call_fs.specs.Survival.{HadAt}
use Rattle.envelope_records.specs.declared.channel.Record.{Record}
use Rattle.envelope_records.specs.Records.{AreRecords}

-- a value that the place has now, or may have after a machine stop
abbrev pub MayRead : File → ℕ → Option ℕ → Type 0
MayRead f place value = (value ≡ slice_get f.bytes place) ⊎ HadAt f place value

-- The file has the length of this text, whatever happens. Each place reads as the text does, or as `D` if it is one of these.
pub record IsMarkedFrom (text : List ℕ) (marks : List ℕ) (f : File) : Type 0 where
  pub least : f.least ≡ length text
  pub greatest : f.greatest ≡ length text
  pub kept : length f.kept ≡ length text
  pub long : length f.bytes ≡ length text
  pub each : (place : ℕ) (value : Option ℕ) → place < length text → MayRead f place value
      → (value ≡ slice_get text place) ⊎ (Among place marks × (value ≡ Some 68))

-- the same recipient at the same place, and the same letter, or `D` at one of the marks
pub record IsVersion (marks : List ℕ) (r was : Record) : Type 0 where
  pub place : r.place ≡ was.place
  pub address : r.address ≡ was.address
  pub letter : (r.done ≡ was.done) ⊎ ((r.done ≡ true) × Among was.place marks)

abbrev pub AreVersions : List ℕ → List Record → List Record → Type 0
AreVersions marks [] [] = Unit {0}
AreVersions marks (r ∷ rs) (was ∷ records) = IsVersion marks r was × AreVersions marks rs records
AreVersions marks rs records = ⊥

-- what it reads are the records, or versions of them
pub record HasVersions (marks : List ℕ) (records : List Record) (bytes : List ℕ) : Type 0 where
  pub now : List Record
  pub are : AreRecords bytes now
  pub versions : AreVersions marks now records
