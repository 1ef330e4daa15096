-- Which bytes are a script: its lines, and what each says.
use Rattle.std.specs.Prelude.{◌≡◌, ◌⊎◌, ℕ, ◌+◌, ◌<◌, ◌≤◌, List, [], ◌∷◌, ◌++◌, length, All, Contains, codes, flat_map, if◌then◌else◌, ◌==◌, Bool, true, not}
use Rattle.std.specs.List.{AllZip, filter}
use Rattle.mail_bytes.specs.Decimal.{digits}
use Rattle.mail_bytes.specs.Lists.{last_of}
use Rattle.mail_bytes.specs.Moments.{IsMoment}
use Rattle.script_words.specs.declared.letter.Letter.{Letter}
use Rattle.script_words.specs.Words.{joined, StandsFor, StandsForText, HasBody, envelope_bytes, IsCount, IsCounted, survival_text, IsSeeded, letter_text, IsSlot}
use Rattle.actor_names.specs.MailNames.{IsMailName, members}
use Rattle.script_lines.specs.declared.error.ScriptError.{ScriptError}
use Rattle.script_lines.specs.declared.error.ScriptError.TheVariants as fault
use Rattle.script_words.specs.Entries.{IsEntryLine, AllAgree}
use Rattle.script_lines.specs.Contents.{Content}
use Rattle.script_lines.specs.declared.line.Line.{Line}
use Rattle.script_lines.specs.declared.line.Line.TheVariants as line
use Rattle.script_lines.specs.declared.keyword.Keyword.TheVariants as keyword
use Rattle.script_lines.specs.Keywords.{keyword_text}

-- local deliveries, forwards and bounces
abbrev pub child_kinds : List (List ℕ)
child_kinds = codes "l" ∷ codes "f" ∷ codes "b" ∷ []

-- the K-th of a kind, K from 1: `l.K`, `f.K`, `b.K`
pub record IsChildName (word : List ℕ) : Type 0 where
  pub kind : List ℕ
  pub count : List ℕ
  pub is_kind : Contains child_kinds kind
  pub is_count : IsCount count
  pub is_word : word ≡ kind ++ 46 ∷ count

-- a name that an actor may have: that of a mail, of a member of the generation, or of a child
abbrev pub IsActorName : List ℕ → Type 0
IsActorName word = IsMailName word ⊎ (Contains members word ⊎ IsChildName word)

-- `mail NAME SENDER RCPT.. : BODY`
pub record IsMailLine (text name sender : List ℕ) (recipients : List (List ℕ)) (body : List ℕ) : Type 0 where
  pub from : List ℕ
  pub to : List (List ℕ)
  pub rest : List ℕ
  pub words : text ≡ joined (codes "mail" ∷ name ∷ from ∷ (to ++ codes ":" ∷ [])) ++ rest
  pub is_name : IsMailName name
  pub is_sender : StandsForText from sender
  pub are_recipients : AllZip StandsFor to recipients
  pub has_body : HasBody rest body

-- `raw NAME ENVELOPE : BODY`
pub record IsRawLine (text name envelope body : List ℕ) : Type 0 where
  pub word : List ℕ
  pub rest : List ℕ
  pub words : text ≡ joined (codes "raw" ∷ name ∷ word ∷ codes ":" ∷ []) ++ rest
  pub is_name : IsMailName name
  pub is_envelope : StandsForText word envelope
  pub has_body : HasBody rest body

-- `report SLOT LETTER TEXT`
pub record IsReportLine (text : List ℕ) (slot : ℕ) (letter : Letter) (report : List ℕ) : Type 0 where
  pub word : List ℕ
  pub words : text ≡ joined (codes "report" ∷ digits slot ∷ letter_text letter ∷ word ∷ [])
  pub is_slot : IsSlot slot
  pub is_report : StandsFor word report

-- Which text is which line. A mail's message is its body; its envelope is that of its sender and recipients, or the
-- one of a `raw` line. A report has three words. Any other line is its first word and one argument of that word's kind, or
-- none. A number, a moment and a slot are decimal texts without leading zeros.
abbrev pub IsLine : List ℕ → Line → Type 0
IsLine text (line.Mail name message envelope) =
    ((sender : List ℕ) × (recipients : List (List ℕ)) × IsMailLine text name sender recipients message × (envelope ≡ envelope_bytes sender recipients))
    ⊎ IsRawLine text name envelope message
IsLine text (line.Alone first) = text ≡ keyword_text (keyword.Alone first)
IsLine text (line.Actor first actor) = (text ≡ joined (keyword_text (keyword.Actor first) ∷ actor ∷ [])) × IsActorName actor
IsLine text (line.Count first n) = (text ≡ joined (keyword_text (keyword.Count first) ∷ digits n ∷ [])) × IsCounted n
IsLine text (line.Moment first m) = (text ≡ joined (keyword_text (keyword.Moment first) ∷ digits m ∷ [])) × IsMoment m
IsLine text (line.Survival first how) = (text ≡ joined (keyword_text (keyword.Survival first) ∷ survival_text how ∷ [])) × IsSeeded how
IsLine text (line.Word first read) = (word : List ℕ) × (text ≡ joined (keyword_text (keyword.Word first) ∷ word ∷ [])) × StandsFor word read
IsLine text (line.Letter first letter) = text ≡ joined (keyword_text (keyword.Letter first) ∷ letter_text letter ∷ [])
IsLine text (line.Report slot letter report) = IsReportLine text slot letter report

-- the most bytes that a line may have, its newline not counted
abbrev pub most_in_line : ℕ
most_in_line = 65535

-- No text is longer than that, also one that is passed over.
abbrev pub IsShort : List ℕ → Type 0
IsShort text = length text ≤ most_in_line

-- whether a text is passed over: an empty one, or one that begins with `#`
abbrev pub is_remark : List ℕ → Bool
is_remark [] = true
is_remark (first ∷ rest) = first == 35

-- the texts that aren't passed over
abbrev pub kept_texts : List (List ℕ) → List (List ℕ)
kept_texts texts = filter (λ text. not (is_remark text)) texts

-- Texts that are entries and lines of a script: of those that aren't passed over the first are these entries, which may
-- stand on one disk, and the later ones these lines.
pub record AreContent (texts : List (List ℕ)) (content : Content) : Type 0 where
  pub within : All IsShort texts
  pub first : List (List ℕ)
  pub later : List (List ℕ)
  pub split : kept_texts texts ≡ first ++ later
  pub are_entries : AllZip IsEntryLine first content.opening
  pub agree : AllAgree content.opening
  pub are_lines : AllZip IsLine later content.lines

-- the bytes with a newline after a last line that lacks one
abbrev pub completed : List ℕ → List ℕ
completed [] = []
completed (b ∷ bytes) = (b ∷ bytes) ++ (if last_of b bytes == 10 then [] else 10 ∷ [])

-- texts, each ended by a newline
abbrev pub ended : List (List ℕ) → List ℕ
ended texts = flat_map (λ text. text ++ 10 ∷ []) texts

-- no newline in it
abbrev pub IsUnbroken : List ℕ → Type 0
IsUnbroken text = ¬ (Contains text 10)

-- the most bytes that a script may have
abbrev pub most_bytes : ℕ
most_bytes = 16777216

-- The bytes are texts, each ended by a newline, which the last may lack; they say this.
pub record IsScript (bytes : List ℕ) (content : Content) : Type 0 where
  pub short : length bytes ≤ most_bytes
  pub texts : List (List ℕ)
  pub whole : completed bytes ≡ ended texts
  pub each : All IsUnbroken texts
  pub are : AreContent texts content

-- The k-th text, counted from 1, isn't in the grammar after those before it, which are; one that is passed over counts.
pub record HasBadLine (bytes : List ℕ) (k : ℕ) : Type 0 where
  pub before : List (List ℕ)
  pub text : List ℕ
  pub rest : List ℕ
  pub whole : completed bytes ≡ ended (before ++ text ∷ []) ++ rest
  pub each : All IsUnbroken (before ++ text ∷ [])
  pub content : Content
  pub good : AreContent before content
  pub bad : (longer : Content) → ¬ (AreContent (before ++ text ∷ []) longer)
  pub number : k ≡ length before + 1

-- the number that bytes which are no script are refused with: 0 if they are too many, else that of the line
abbrev pub IsBadLine : List ℕ → ℕ → Type 0
IsBadLine bytes k = ((k ≡ 0) × (most_bytes < length bytes)) ⊎ ((length bytes ≤ most_bytes) × HasBadLine bytes k)

-- the bytes aren't a script
abbrev pub IsRefused : List ℕ → Type 0
IsRefused bytes = (k : ℕ) × IsBadLine bytes k

-- why bytes aren't read as a script; that memory ran out has no cause in them
abbrev pub IsScriptFault : List ℕ → ScriptError → Type 0
IsScriptFault bytes (fault.Line k) = IsBadLine bytes k
IsScriptFault bytes fault.Memory = Unit {0}
