-- Reports (qmail-lspawn(8), qmail-rspawn(8)): what became of a delivery, as bytes.
use Rattle.std.specs.Prelude.{◌≡◌, ◌≢◌, ℕ, ◌≤◌, List, [], ◌∷◌, ◌++◌, length, take, map, All, ◌||◌, if◌then◌else◌, ◌==◌, nat_lt, flat_map, Option, Some, None, Result, Ok, Err}
use Rattle.std.specs.declared.alloc.AllocError.{AllocError}
use Rattle.spawn_protocol.specs.declared.report.Report.{Report}
use Rattle.spawn_protocol.specs.declared.report.Place.{Place}
use Rattle.spawn_protocol.specs.declared.report.Place.TheVariants as place
use Rattle.mail_bytes.specs.Texts.{HasNoNul}

-- The delivery number, one byte; then a letter, the text and NUL. One without a letter, whose letter is 0, is its number
-- and NUL. Byte 3, `Kok`, NUL says of delivery 3 that it was a success, with the text `ok`.
abbrev pub report_text : Report → List ℕ
report_text r = r.slot ∷ (if r.letter == 0 then 0 ∷ [] else r.letter ∷ (r.text ++ 0 ∷ []))

-- the same with its letter and text as one: `Kok` of delivery 3 is byte 3, `Kok`, NUL
abbrev pub numbered : ℕ → List ℕ → List ℕ
numbered slot report = slot ∷ (report ++ 0 ∷ [])

-- K for success, D for failure; any other letter, and none, counts as Z, for a later try
abbrev pub counted : ℕ → ℕ
counted letter = if letter == 75 || letter == 68 then letter else 90

-- a report as a spawner gives it: no byte of its text is NUL, and without a letter it has no text
pub record IsReport (r : Report) : Type 0 where
  pub plain : HasNoNul r.text
  pub none : r.letter ≡ 0 → r.text ≡ []

-- What a reader keeps of it: the number, the letter and 9,998 bytes of text. What goes past its 10,000th byte is dropped.
abbrev pub kept_text : List ℕ → List ℕ
kept_text text = take 9998 text

abbrev pub kept : Report → Report
kept r = record { slot = r.slot; letter = r.letter; text = kept_text r.text }

-- a report that a reader can give
pub record IsKept (r : Report) : Type 0 where
  pub report : IsReport r
  pub short : length r.text ≤ 9998

-- a report as far as it has come
pub data Start : Type 0 where
  NoByte : Start
  Numbered : (slot : ℕ) → Start
  Lettered : (slot letter : ℕ) (text : List ℕ) → Start

-- its bytes
abbrev pub bytes_to : Start → List ℕ
bytes_to NoByte = []
bytes_to (Numbered slot) = slot ∷ []
bytes_to (Lettered slot letter text) = slot ∷ letter ∷ text

-- its letter and text have no NUL
abbrev pub HasPlainStart : Start → Type 0
HasPlainStart NoByte = Unit {0}
HasPlainStart (Numbered slot) = Unit {0}
HasPlainStart (Lettered slot letter text) = (letter ≢ 0) × HasNoNul text

-- the bytes are these reports, one after the other, and the start of one more
pub record IsText (bytes : List ℕ) (whole : List Report) (start : Start) : Type 0 where
  pub text : bytes ≡ flat_map report_text whole ++ bytes_to start
  pub reports : All IsReport whole
  pub begun : HasPlainStart start

-- The reader that takes one byte after the other

-- what a reader holds of the start of a report
pub data Reader : Type 0 where
  AtBegin : Reader
  AtLetter : (slot : ℕ) → Reader
  InText : (slot letter : ℕ) (kept : List ℕ) → Reader

abbrev pub reader_of : Start → Reader
reader_of NoByte = AtBegin
reader_of (Numbered slot) = AtLetter slot
reader_of (Lettered slot letter text) = InText slot letter (kept_text text)

-- a reader that was fed these bytes, and gave these reports
pub record HasRead (bytes : List ℕ) (reports : List Report) (reader : Reader) : Type 0 where
  pub whole : List Report
  pub start : Start
  pub text : IsText bytes whole start
  pub gave : reports ≡ map kept whole
  pub holds : reader ≡ reader_of start

-- what it took when it answered so: nothing when out of memory
abbrev pub eaten : Result (Option Report) AllocError → ℕ → List ℕ
eaten (Ok it) byte = byte ∷ []
eaten (Err why) byte = []

-- what it gave
abbrev pub given : Result (Option Report) AllocError → List Report
given (Ok (Some report)) = report ∷ []
given (Ok None) = []
given (Err why) = []

-- How it takes a byte: what it gives, and what it holds then. NUL ends a report, and a byte of text is kept while there
-- is room.
abbrev pub more_text : List ℕ → ℕ → List ℕ
more_text text b = if nat_lt (length text) 9998 then text ++ b ∷ [] else text

abbrev pub step : Reader → ℕ → List Report × Reader
step AtBegin b = ([], AtLetter b)
step (AtLetter slot) b = if b == 0 then (record { slot = slot; letter = 0; text = [] } ∷ [], AtBegin) else ([], InText slot b [])
step (InText slot letter text) b = if b == 0 then (record { slot = slot; letter = letter; text = text } ∷ [], AtBegin) else ([], InText slot letter (more_text text b))

-- a byte taken with this answer
abbrev pub Takes : Reader → ℕ → Result (Option Report) AllocError → Reader → Type 0
Takes old byte (Ok (Some report)) new = step old byte ≡ (report ∷ [], new)
Takes old byte (Ok None) new = step old byte ≡ ([], new)
Takes old byte (Err why) new = new ≡ old

-- what a reader holds at a place
abbrev pub standing : Place → ℕ → ℕ → List ℕ → Reader
standing place.Begin slot letter begun = AtBegin
standing place.AtLetter slot letter begun = AtLetter slot
standing place.InText slot letter begun = InText slot letter begun

-- bytes taken one after the other: the reports that they end, and what it holds then
abbrev pub read_on : Reader → List ℕ → List Report × Reader
read_on reader [] = ([], reader)
read_on reader (b ∷ bs) = ((step reader b).0 ++ (read_on (step reader b).1 bs).0, (read_on (step reader b).1 bs).1)
