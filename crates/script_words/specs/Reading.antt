-- Parts of a text, as they are read one after the other.
use Rattle.std.specs.Prelude.{◌≡◌, ◌≢◌, ◌⊎◌, ℕ, List, [], ◌∷◌, ◌++◌, Contains, Option, Some, None, Ok, codes}
use Rattle.std.specs.List.{AllZip}
use Rattle.mail_bytes.specs.Decimal.{digits}
use Rattle.mail_bytes.specs.Escape.{unescaped}
use Rattle.script_words.specs.declared.envelope.Form.{Form}
use Rattle.script_words.specs.declared.envelope.Form.TheVariants as form
use Rattle.script_words.specs.declared.entry_lines.Kind.{Kind}
use Rattle.script_words.specs.declared.entry_lines.Kind.TheVariants as kind
use Rattle.script_words.specs.declared.letter.Letter.{Letter}
use Rattle.script_words.specs.Words.{joined, StandsFor, StandsForText, envelope_bytes, letter_text, IsSlot}

-- The word before the first such byte of a text; and what stands after that byte, if it is there.
abbrev pub CutsAt : List ℕ → ℕ → List ℕ → Option (List ℕ) → Type 0
CutsAt text byte word None = text ≡ word
CutsAt text byte word (Some rest) = text ≡ word ++ byte ∷ rest

pub record IsCut (text : List ℕ) (byte : ℕ) (word : List ℕ) (rest : Option (List ℕ)) : Type 0 where
  pub without : ¬ (Contains word byte)
  pub parts : CutsAt text byte word rest

-- the word for how a line has an envelope
abbrev pub form_text : Form → List ℕ
form_text form.Written = codes "mail"
form_text form.Raw = codes "raw"

-- a word, and the text that it stands for
pub record IsWritten (word text : List ℕ) : Type 0 where
  pub some : word ≢ []
  pub bytes : unescaped word ≡ Ok text

-- a word for a text that may be empty, and that text
abbrev pub IsWrittenText : List ℕ → List ℕ → Type 0
IsWrittenText word text =
    ((word ≡ codes "-") × (text ≡ [])) ⊎ ((word ≢ codes "-") × (word ≢ codes ":") × IsWritten word text)

-- Words for recipients, then `:`, then either nothing or a space and this body, as it is written.
pub record HasRecipients (text : List ℕ) (recipients : List (List ℕ)) (body : List ℕ) : Type 0 where
  pub to : List (List ℕ)
  pub rest : List ℕ
  pub words : text ≡ joined (to ++ codes ":" ∷ []) ++ rest
  pub stand : AllZip StandsFor to recipients
  pub ends : ((rest ≡ []) × (body ≡ [])) ⊎ (rest ≡ 32 ∷ body)

-- A word for a sender, then such words: together this envelope.
pub record BeginsWithEnvelope (text envelope body : List ℕ) : Type 0 where
  pub from : List ℕ
  pub sender : List ℕ
  pub more : List ℕ
  pub recipients : List (List ℕ)
  pub words : text ≡ from ++ 32 ∷ more
  pub stands : StandsForText from sender
  pub follow : HasRecipients more recipients body
  pub envelope_is : envelope ≡ envelope_bytes sender recipients

-- A word for an envelope, then `:` and a body.
pub record HasRawEnvelope (text envelope body : List ℕ) : Type 0 where
  pub word : List ℕ
  pub more : List ℕ
  pub words : text ≡ word ++ 32 ∷ more
  pub stands : StandsForText word envelope
  pub follow : HasRecipients more [] body

-- the one or the other, by the line's first word
abbrev pub HasEnvelopeAs : Form → List ℕ → List ℕ → List ℕ → Type 0
HasEnvelopeAs form.Written text envelope body = BeginsWithEnvelope text envelope body
HasEnvelopeAs form.Raw text envelope body = HasRawEnvelope text envelope body

-- the words for what survives a machine stop that have no seed
abbrev pub survival_words : List (List ℕ)
survival_words = codes "keep" ∷ codes "lose" ∷ []

-- the first word of a line that says what a script's disk holds at its beginning
abbrev pub kind_text : Kind → List ℕ
kind_text kind.File = codes "file"
kind_text kind.Dir = codes "dir"

abbrev pub kind_texts : List (List ℕ)
kind_texts = codes "file" ∷ codes "dir" ∷ []

-- A slot, a letter, and one word for this text.
pub record IsReport (words : List ℕ) (slot : ℕ) (letter : Letter) (text : List ℕ) : Type 0 where
  pub word : List ℕ
  pub words_are : words ≡ joined (digits slot ∷ letter_text letter ∷ word ∷ [])
  pub is_slot : IsSlot slot
  pub stands : StandsFor word text
