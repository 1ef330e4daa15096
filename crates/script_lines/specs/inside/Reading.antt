-- Parts of a line, as they are read one after the other.
use Rattle.std.specs.Prelude.{◌≡◌, ◌⊎◌, ℕ, ◌<◌, List, [], ◌∷◌, ◌++◌, length, All, Option, Some, None, Ok, true, false}
use Rattle.mail_bytes.specs.Decimal.{digits}
use Rattle.mail_bytes.specs.Escape.{unescaped}
use Rattle.mail_bytes.specs.Moments.{IsMoment}
use Rattle.call_fs.specs.declared.crash_file_system.Survival.{Survival}
use Rattle.actor_names.specs.MailNames.{IsMailName}
use Rattle.script_words.specs.declared.envelope.Form.{Form}
use Rattle.script_words.specs.declared.entry.Entry.{Entry}
use Rattle.script_words.specs.declared.letter.Letter.{Letter}
use Rattle.script_words.specs.Words.{StandsFor, IsCounted, survival_text, IsSeeded, letter_text}
use Rattle.script_words.specs.Entries.{IsEntryLine, Agree}
use Rattle.script_words.specs.Reading.{HasEnvelopeAs, IsReport}
use Rattle.script_lines.specs.declared.keyword.Keyword.{Keyword}
use Rattle.script_lines.specs.declared.keyword.Keyword.TheVariants as keyword
use Rattle.script_lines.specs.declared.line.Line.{Line}
use Rattle.script_lines.specs.Contents.{Content}
use Rattle.script_lines.specs.inside.Contents.{with_entry, with_line}
use Rattle.script_lines.specs.Lines.{IsActorName, IsLine, IsShort, is_remark, completed, IsUnbroken}

-- what a mail's line has after `mail` or `raw` and a space
pub record HasMail (form : Form) (words : List ℕ) : Type 0 where
  pub name : List ℕ
  pub rest : List ℕ
  pub envelope : List ℕ
  pub body : List ℕ
  pub message : List ℕ
  pub words_are : words ≡ name ++ 32 ∷ rest
  pub is_name : IsMailName name
  pub has_envelope : HasEnvelopeAs form rest envelope body
  pub message_is : unescaped body ≡ Ok message

-- what may stand after the first word of a line and a space, or that nothing may, by the kind of its argument
abbrev pub CanFollow : Keyword → Option (List ℕ) → Type 0
CanFollow (keyword.Alone first) None = Unit {0}
CanFollow (keyword.Mail form) (Some rest) = HasMail form rest
CanFollow (keyword.Actor first) (Some rest) = IsActorName rest
CanFollow (keyword.Count first) (Some rest) = (n : ℕ) × IsCounted n × (rest ≡ digits n)
CanFollow (keyword.Moment first) (Some rest) = (m : ℕ) × IsMoment m × (rest ≡ digits m)
CanFollow (keyword.Survival first) (Some rest) = (how : Survival) × IsSeeded how × (rest ≡ survival_text how)
CanFollow (keyword.Word first) (Some rest) = (read : List ℕ) × StandsFor rest read
CanFollow (keyword.Letter first) (Some rest) = (letter : Letter) × (rest ≡ letter_text letter)
CanFollow keyword.Report (Some rest) = (slot : ℕ) × (letter : Letter) × (report : List ℕ) × IsReport rest slot letter report
CanFollow other rest = ⊥

-- the first line of some bytes, and what stands after its newline
pub record IsFirstLine (bytes text after : List ℕ) : Type 0 where
  pub whole : completed bytes ≡ (text ++ 10 ∷ []) ++ completed after
  pub unbroken : IsUnbroken text
  pub shorter : length after < length bytes

-- an entry stands before all lines, and agrees with the entries before it
abbrev pub MayFollow : Content → Entry → Type 0
MayFollow before entry = (before.lines ≡ []) × All (λ earlier. Agree earlier entry) before.opening

-- What reading a text makes of what was read before it: nothing if it is passed over, else one entry more, if
-- it may follow, or one line more.
pub record IsTextRead (text : List ℕ) (before after : Content) : Type 0 where
  pub short : IsShort text
  pub says : ((is_remark text ≡ true) × (after ≡ before))
      ⊎ (((is_remark text ≡ false) × (entry : Entry) × IsEntryLine text entry × MayFollow before entry × (after ≡ with_entry before entry))
      ⊎ ((is_remark text ≡ false) × (line : Line) × IsLine text line × (after ≡ with_line before line)))
