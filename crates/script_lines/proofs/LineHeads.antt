-- The first word of a line, and what stands after its space.
use Rattle.std.proofs.Common.{◌≡◌, ℕ, List, [], ◌∷◌, ◌++◌, Contains, Option, Some, None, inl, inr, refl, sym, ap, ◌∙◌, subst}
use Rattle.std.specs.Prelude.{codes}
use Rattle.mail_bytes.specs.Decimal.{digits}
use Rattle.script_words.specs.declared.envelope.Form.TheVariants.{Written, Raw}
use Rattle.script_words.specs.declared.letter.Letter.{Letter as LetterOf}
use Rattle.script_words.specs.declared.entry.Entry.{Entry}
use Rattle.script_words.specs.declared.entry.Entry.TheVariants.{File, Dir}
use Rattle.script_words.specs.Entries.{IsEntryLine}
use Rattle.script_words.specs.Words.{joined, survival_text, letter_text}
use Rattle.script_words.specs.Reading.{CutsAt, IsCut, IsReport}
use Rattle.script_words.proofs.Cuts.{not-cut, same-cut, lacks}
use Rattle.script_lines.specs.declared.keyword.Keyword.{Keyword}
use Rattle.script_lines.specs.declared.keyword.Keyword.TheVariants as keyword
use Rattle.script_lines.specs.declared.line.Line.{Line}
use Rattle.script_lines.specs.declared.line.Line.TheVariants.{Mail, Alone, Actor, Count, Moment, Survival, Word, Letter, Report}
use Rattle.script_lines.specs.Keywords.{keyword_text}
use Rattle.script_lines.specs.inside.Keywords.{keywords, keyword_texts}
use Rattle.script_lines.specs.Lines.{IsLine, IsReportLine}
use Rattle.script_lines.specs.inside.Reading.{CanFollow}
use Rattle.script_lines.proofs.Keywords.{keyword_lacks, one_keyword, is_listed, row_in, no_row}
use Rattle.script_lines.proofs.MailLines.{has_mail, has_raw}

-- the first word of a line
abbrev pub keyword_in : (text : List ℕ) (line : Line) → IsLine text line → Keyword
keyword_in text (Mail name message envelope) (inl h) = keyword.Mail Written
keyword_in text (Mail name message envelope) (inr h) = keyword.Mail Raw
keyword_in text (Alone first) h = keyword.Alone first
keyword_in text (Actor first actor) h = keyword.Actor first
keyword_in text (Count first n) h = keyword.Count first
keyword_in text (Moment first m) h = keyword.Moment first
keyword_in text (Survival first how) h = keyword.Survival first
keyword_in text (Word first read) h = keyword.Word first
keyword_in text (Letter first letter) h = keyword.Letter first
keyword_in text (Report slot letter report) h = keyword.Report

-- what stands after its space
abbrev pub after_in : (text : List ℕ) (line : Line) → IsLine text line → Option (List ℕ)
after_in text (Mail name message envelope) (inl h) = Some ((name ++ 32 ∷ joined (h.2.from ∷ (h.2.to ++ codes ":" ∷ []))) ++ h.2.rest)
after_in text (Mail name message envelope) (inr h) = Some ((name ++ 32 ∷ joined (h.word ∷ codes ":" ∷ [])) ++ h.rest)
after_in text (Alone first) h = None
after_in text (Actor first actor) h = Some actor
after_in text (Count first n) h = Some (digits n)
after_in text (Moment first m) h = Some (digits m)
after_in text (Survival first how) h = Some (survival_text how)
after_in text (Word first read) h = Some h.0
after_in text (Letter first letter) h = Some (letter_text letter)
after_in text (Report slot letter report) h = Some (joined (digits slot ∷ letter_text letter ∷ h.word ∷ []))

pub cuts_in : (text : List ℕ) (line : Line) (h : IsLine text line) → CutsAt text 32 (keyword_text (keyword_in text line h)) (after_in text line h)
cuts_in text (Mail name message envelope) (inl h) = h.2.words
cuts_in text (Mail name message envelope) (inr h) = h.words
cuts_in text (Alone first) h = h
cuts_in text (Actor first actor) h = h.0
cuts_in text (Count first n) h = h.0
cuts_in text (Moment first m) h = h.0
cuts_in text (Survival first how) h = h.0
cuts_in text (Word first read) h = h.1
cuts_in text (Letter first letter) h = h
cuts_in text (Report slot letter report) h = h.words

-- what a report has after its first word
pub words_of : (text : List ℕ) (slot : ℕ) (letter : LetterOf) (report : List ℕ) (h : IsReportLine text slot letter report) → IsReport (joined (digits slot ∷ letter_text letter ∷ h.word ∷ [])) slot letter report
words_of text slot letter report h = record { word = h.word; words_are = refl; is_slot = h.is_slot; stands = h.is_report }

pub report_line : (words : List ℕ) (slot : ℕ) (letter : LetterOf) (report : List ℕ) → IsReport words slot letter report → IsReportLine (codes "report" ++ 32 ∷ words) slot letter report
report_line words slot letter report h = record { word = h.word; words = ap (λ t. codes "report" ++ 32 ∷ t) h.words_are; is_slot = h.is_slot; is_report = h.stands }

-- it is of the kind that the word has
argument_in : (text : List ℕ) (line : Line) (h : IsLine text line) → CanFollow (keyword_in text line h) (after_in text line h)
argument_in text (Mail name message envelope) (inl h) = has_mail text name (h.0) (h.1) message envelope h.2 h.3
argument_in text (Mail name message envelope) (inr h) = has_raw text name envelope message h
argument_in text (Alone first) h = tt
argument_in text (Actor first actor) h = h.1
argument_in text (Count first n) h = (n, h.1, refl)
argument_in text (Moment first m) h = (m, h.1, refl)
argument_in text (Survival first how) h = (how, h.1, refl)
argument_in text (Word first read) h = (read, h.2)
argument_in text (Letter first letter) h = (letter, refl)
argument_in text (Report slot letter report) h = (slot, letter, report, words_of text slot letter report h)

-- a text that is cut at its first space begins with one word
pub same_parts : (text word : List ℕ) (rest : Option (List ℕ)) (k : Keyword) (after : Option (List ℕ)) → IsCut text 32 word rest → CutsAt text 32 (keyword_text k) after → (word ≡ keyword_text k) × (rest ≡ after)
same_parts text word None k None cut h = (sym cut.parts ∙ h, refl)
same_parts text word None k (Some after) cut h = absurd (not-cut (keyword_text k) after word 32 cut.without (sym h ∙ cut.parts))
same_parts text word (Some rest) k None cut h = absurd (not-cut word rest (keyword_text k) 32 (keyword_lacks k) (sym cut.parts ∙ h))
same_parts text word (Some rest) k (Some after) cut h =
    let same = same-cut word rest (keyword_text k) after 32 cut.without (keyword_lacks k) (sym cut.parts ∙ h) in (same.0, ap Some same.1)

pub one_head : (text : List ℕ) (k m : Keyword) (a b : Option (List ℕ)) → CutsAt text 32 (keyword_text k) a → CutsAt text 32 (keyword_text m) b → (k ≡ m) × (a ≡ b)
one_head text k m a b p q =
    let same = same_parts text (keyword_text k) a m b (record { without = keyword_lacks k; parts = p }) q in (one_keyword k m same.0, same.1)

-- a line begins with a word, and has an argument of its kind
pub has_keyword : (text word : List ℕ) (rest : Option (List ℕ)) (line : Line) → IsCut text 32 word rest → IsLine text line → Contains keyword_texts word
has_keyword text word rest line cut h =
    let same = same_parts text word rest (keyword_in text line h) (after_in text line h) cut (cuts_in text line h) in
    subst (Contains keyword_texts) (sym same.0) (is_listed (keyword_in text line h))

pub follows : (text : List ℕ) (k : Keyword) (after : Option (List ℕ)) (line : Line) → CutsAt text 32 (keyword_text k) after → IsLine text line → CanFollow k after
follows text k after line cut h =
    let same = one_head text (keyword_in text line h) k (after_in text line h) after (cuts_in text line h) cut in
    subst (λ (q : Keyword). CanFollow q after) same.0 (subst (λ (r : Option (List ℕ)). CanFollow (keyword_in text line h) r) same.1 (argument_in text line h))

-- a text that begins with another word is no line
no_line : (text word rest : List ℕ) (line : Line) → ¬ (Contains word 32) → row_in keywords word ≡ None → text ≡ word ++ 32 ∷ rest → ¬ (IsLine text line)
no_line text word rest line plain none e h =
    no_row word none (keyword_in text line h)
    (same_parts text word (Some rest) (keyword_in text line h) (after_in text line h) (record { without = plain; parts = e }) (cuts_in text line h)).0

-- a text of an entry is none of a line
pub no_entry_line : (text : List ℕ) (entry : Entry) (line : Line) → IsEntryLine text entry → ¬ (IsLine text line)
no_entry_line text (File path bytes) line h = no_line text (codes "file") ((h.word ++ 32 ∷ codes ":") ++ h.rest) line (lacks (codes "file") 32 refl) refl h.words
no_entry_line text (Dir path) line h = no_line text (codes "dir") h.word line (lacks (codes "dir") 32 refl) refl h.words
