-- A text is one line, and bytes are one list of texts.
use Rattle.std.proofs.Common.{◌≡◌, ℕ, List, [], ◌∷◌, ◌++◌, All, Contains, Some, None, Ok, inl, inr, refl, sym, ap, ◌∙◌, subst, arith, append_assoc}
use Rattle.std.specs.Prelude.{codes, ◌==◌, false}
use Rattle.std.specs.List.{AllZip}
use Rattle.std.proofs.lemmas.Bool.{eq-eqb, false≢true}
use Rattle.std.proofs.lemmas.List.{append_cancel_left}
use Rattle.std.proofs.lemmas.List.Elements.{All-head, All-tail}
use Rattle.mail_bytes.specs.Decimal.{digits}
use Rattle.mail_bytes.specs.Escape.{unescaped}
use Rattle.mail_bytes.proofs.Digits.{digits_injective}
use Rattle.call_fs.specs.declared.crash_file_system.Survival.{Survival as Survives}
use Rattle.call_fs.specs.declared.crash_file_system.Survival.TheVariants.{Keep, Lose, Junk}
use Rattle.script_words.specs.declared.envelope.Form.TheVariants.{Written, Raw}
use Rattle.script_words.specs.Reading.{IsReport}
use Rattle.script_words.specs.Words.{joined, StandsFor, StandsForText, HasBody, envelope_bytes, survival_text, letter_text}
use Rattle.script_words.proofs.Cuts.{same-cut, not-cut}
use Rattle.script_words.proofs.WordLists.{front, joined-front, joined-more, colon-alone, Ends}
use Rattle.script_words.proofs.Envelopes.{text_lacks, body-ends}
use Rattle.script_words.proofs.EntryTexts.{read_one, one_message, other_first}
use Rattle.script_words.proofs.Reports.{one_letter, one_report}
use Rattle.script_lines.specs.declared.keyword.Keyword.{Keyword}
use Rattle.script_lines.specs.declared.keyword.Keyword.TheVariants as keyword
use Rattle.script_lines.specs.declared.line.Line.{Line}
use Rattle.script_lines.specs.declared.line.Line.TheVariants.{Mail, Alone, Actor, Count, Moment, Survival, Word, Letter, Report}
use Rattle.script_lines.specs.Lines.{IsMailLine, IsRawLine, IsLine, IsUnbroken, ended}
use Rattle.script_lines.proofs.LineHeads.{keyword_in, after_in, cuts_in, one_head, words_of}
use Rattle.script_lines.proofs.MailLines.{name_lacks}

-- What words and a rest stand for

one_sender : (word a b : List ℕ) → StandsForText word a → StandsForText word b → a ≡ b
one_sender word a b (inl p) (inl q) = p.1 ∙ sym q.1
one_sender word a b (inl p) (inr q) = absurd (q.0 p.0)
one_sender word a b (inr p) (inl q) = absurd (p.0 q.0)
one_sender word a b (inr p) (inr q) = read_one word a b p.1.bytes q.1.bytes

-- words before `:` are one list, and stand for one list
one_list : (to xs to' ys : List (List ℕ)) (tail tail' body body' : List ℕ) → AllZip StandsFor to xs → AllZip StandsFor to' ys → Ends tail body → Ends tail' body'
    → front to ++ (codes ":" ++ tail) ≡ front to' ++ (codes ":" ++ tail') → (xs ≡ ys) × (tail ≡ tail')
one_list [] [] [] [] tail tail' body body' p q ends ends' e = (refl, append_cancel_left (codes ":") tail tail' e)
one_list [] [] (v ∷ to') (y ∷ ys) tail tail' body body' p q ends ends' e =
    absurd (colon-alone v (front to' ++ (codes ":" ++ tail')) tail body q.0.no_end q.0.is_word.whole ends
    (sym (append_assoc v (32 ∷ front to') (codes ":" ++ tail')) ∙ sym e))
one_list (w ∷ to) (x ∷ xs) [] [] tail tail' body body' p q ends ends' e =
    absurd (colon-alone w (front to ++ (codes ":" ++ tail)) tail' body' p.0.no_end p.0.is_word.whole ends'
    (sym (append_assoc w (32 ∷ front to) (codes ":" ++ tail)) ∙ e))
one_list (w ∷ to) (x ∷ xs) (v ∷ to') (y ∷ ys) tail tail' body body' p q ends ends' e =
    let same = same-cut w (front to ++ (codes ":" ++ tail)) v (front to' ++ (codes ":" ++ tail')) 32 p.0.is_word.whole q.0.is_word.whole
    (sym (append_assoc w (32 ∷ front to) (codes ":" ++ tail)) ∙ e ∙ append_assoc v (32 ∷ front to') (codes ":" ++ tail')) in
    let first : x ≡ y = read_one w x y p.0.bytes (subst (λ (word : List ℕ). unescaped word ≡ Ok y) (sym same.0) q.0.bytes) in
    let rest = one_list to xs to' ys tail tail' body body' p.1 q.1 ends ends' same.1 in
    (ap (λ (b : List ℕ). b ∷ xs) first ∙ ap (λ (l : List (List ℕ)). y ∷ l) rest.0, rest.1)
one_list [] (x ∷ xs) to' ys tail tail' body body' p q ends ends' e = absurd p
one_list (w ∷ to) [] to' ys tail tail' body body' p q ends ends' e = absurd p
one_list [] [] [] (y ∷ ys) tail tail' body body' p q ends ends' e = absurd q
one_list [] [] (v ∷ to') [] tail tail' body body' p q ends ends' e = absurd q
one_list (w ∷ to) (x ∷ xs) [] (y ∷ ys) tail tail' body body' p q ends ends' e = absurd q
one_list (w ∷ to) (x ∷ xs) (v ∷ to') [] tail tail' body body' p q ends ends' e = absurd q

-- Lines that start a mail

-- a name, a word, more words and a rest
spaced : (name from rest : List ℕ) (to : List (List ℕ)) → (name ++ 32 ∷ joined (from ∷ (to ++ codes ":" ∷ []))) ++ rest ≡ name ++ 32 ∷ (from ++ 32 ∷ (front to ++ (codes ":" ++ rest)))
spaced name from rest to =
    append_assoc name (32 ∷ joined (from ∷ (to ++ codes ":" ∷ []))) rest
    ∙ ap (λ t. name ++ 32 ∷ t) (joined-more from to (codes ":") rest)
    ∙ ap (λ t. name ++ 32 ∷ (from ++ 32 ∷ t)) (ap (λ t. t ++ rest) (joined-front to (codes ":")) ∙ append_assoc (front to) (codes ":") rest)

-- their parts are the same
record Alike (name name' from from' rest rest' : List ℕ) (xs ys : List (List ℕ)) : Type 0 where
  pub names : name ≡ name'
  pub words : from ≡ from'
  pub lists : xs ≡ ys
  pub rests : rest ≡ rest'

alike : (key name name' from from' rest rest' a b body body' : List ℕ) (to to' xs ys : List (List ℕ))
    → ¬ (Contains name 32) → ¬ (Contains name' 32) → StandsForText from a → StandsForText from' b → AllZip StandsFor to xs → AllZip StandsFor to' ys → HasBody rest body → HasBody rest' body'
    → key ++ ((name ++ 32 ∷ joined (from ∷ (to ++ codes ":" ∷ []))) ++ rest) ≡ key ++ ((name' ++ 32 ∷ joined (from' ∷ (to' ++ codes ":" ∷ []))) ++ rest')
    → Alike name name' from from' rest rest' xs ys
alike key name name' from from' rest rest' a b body body' to to' xs ys plain plain' stands stands' p q has has' e =
    let behind = sym (spaced name from rest to) ∙ append_cancel_left key _ _ e ∙ spaced name' from' rest' to' in
    let named = same-cut name (from ++ 32 ∷ (front to ++ (codes ":" ++ rest))) name' (from' ++ 32 ∷ (front to' ++ (codes ":" ++ rest'))) 32 plain plain' behind in
    let worded = same-cut from (front to ++ (codes ":" ++ rest)) from' (front to' ++ (codes ":" ++ rest')) 32 (text_lacks from a stands) (text_lacks from' b stands') named.1 in
    let ends = body-ends rest body has in
    let ends' = body-ends rest' body' has' in
    let listed = one_list to xs to' ys rest rest' ends.0 ends'.0 p q ends.1 ends'.1 worded.1 in
    record { names = named.0; words = worded.0; lists = listed.0; rests = listed.1 }

one_mail : (text name name' s s' m m' : List ℕ) (rs rs' : List (List ℕ)) → IsMailLine text name s rs m → IsMailLine text name' s' rs' m' → Mail name m (envelope_bytes s rs) ≡ Mail name' m' (envelope_bytes s' rs')
one_mail text name name' s s' m m' rs rs' p q =
    let same = alike (codes "mail ") name name' p.from q.from p.rest q.rest s s' m m' p.to q.to rs rs' (name_lacks name p.is_name) (name_lacks name' q.is_name)
    p.is_sender q.is_sender p.are_recipients q.are_recipients p.has_body q.has_body (sym p.words ∙ q.words) in
    let sender = one_sender q.from s s' (subst (λ (w : List ℕ). StandsForText w s) same.words p.is_sender) q.is_sender in
    let body = one_message q.rest m m' (subst (λ (w : List ℕ). HasBody w m) same.rests p.has_body) q.has_body in
    ap (λ (n : List ℕ). Mail n m (envelope_bytes s rs)) same.names
    ∙ ap (λ (b : List ℕ). Mail name' b (envelope_bytes s rs)) body
    ∙ ap (λ (x : List ℕ). Mail name' m' (envelope_bytes x rs)) sender
    ∙ ap (λ (l : List (List ℕ)). Mail name' m' (envelope_bytes s' l)) same.lists

one_raw : (text name name' v v' m m' : List ℕ) → IsRawLine text name v m → IsRawLine text name' v' m' → Mail name m v ≡ Mail name' m' v'
one_raw text name name' v v' m m' p q =
    let same = alike (codes "raw ") name name' p.word q.word p.rest q.rest v v' m m' [] [] [] [] (name_lacks name p.is_name) (name_lacks name' q.is_name)
    p.is_envelope q.is_envelope tt tt p.has_body q.has_body (sym p.words ∙ q.words) in
    let envelope = one_sender q.word v v' (subst (λ (w : List ℕ). StandsForText w v) same.words p.is_envelope) q.is_envelope in
    let body = one_message q.rest m m' (subst (λ (w : List ℕ). HasBody w m) same.rests p.has_body) q.has_body in
    ap (λ (n : List ℕ). Mail n m v) same.names ∙ ap (λ (b : List ℕ). Mail name' b v) body ∙ ap (λ (x : List ℕ). Mail name' m' x) envelope

-- Arguments

one_survival : (a b : Survives) → survival_text a ≡ survival_text b → a ≡ b
one_survival Keep Keep e = refl
one_survival Keep Lose e = absurd (other_first (survival_text Keep) (survival_text Lose) 107 108 refl refl (λ e. omega arith) e)
one_survival Keep (Junk seed) e = absurd (other_first (survival_text Keep) (survival_text (Junk seed)) 107 106 refl refl (λ e. omega arith) e)
one_survival Lose Keep e = absurd (other_first (survival_text Lose) (survival_text Keep) 108 107 refl refl (λ e. omega arith) e)
one_survival Lose Lose e = refl
one_survival Lose (Junk seed) e = absurd (other_first (survival_text Lose) (survival_text (Junk seed)) 108 106 refl refl (λ e. omega arith) e)
one_survival (Junk seed) Keep e = absurd (other_first (survival_text (Junk seed)) (survival_text Keep) 106 107 refl refl (λ e. omega arith) e)
one_survival (Junk seed) Lose e = absurd (other_first (survival_text (Junk seed)) (survival_text Lose) 106 108 refl refl (λ e. omega arith) e)
one_survival (Junk seed) (Junk other) e = ap Junk (digits_injective seed other (append_cancel_left (codes "junk ") (digits seed) (digits other) e))

some_same : {A : Type 0} {x y : A} → Some x ≡ Some y → x ≡ y
some_same e = cc

-- Lines differ where the kinds of their first words do

abbrev kind_of : Keyword → ℕ
kind_of (keyword.Mail Written) = 0
kind_of (keyword.Mail Raw) = 1
kind_of (keyword.Alone first) = 2
kind_of (keyword.Actor first) = 3
kind_of (keyword.Count first) = 4
kind_of (keyword.Moment first) = 5
kind_of (keyword.Survival first) = 6
kind_of (keyword.Word first) = 7
kind_of (keyword.Letter first) = 8
kind_of keyword.Report = 9

other_kind : (text : List ℕ) (l m : Line) (h : IsLine text l) (k : IsLine text m) → (kind_of (keyword_in text l h) == kind_of (keyword_in text m k)) ≡ false → ⊥
other_kind text l m h k apart =
    let same = (one_head text (keyword_in text l h) (keyword_in text m k) (after_in text l h) (after_in text m k) (cuts_in text l h) (cuts_in text m k)).0 in
    false≢true (sym apart ∙ eq-eqb (kind_of (keyword_in text l h)) (kind_of (keyword_in text m k)) (ap kind_of same))

pub one_line : (text : List ℕ) (l m : Line) → IsLine text l → IsLine text m → l ≡ m
one_line text (Mail name message envelope) (Mail name' message' envelope') (inl h) (inl k) =
    ap (Mail name message) h.3 ∙ one_mail text name name' h.0 k.0 message message' h.1 k.1 h.2 k.2 ∙ ap (Mail name' message') (sym k.3)
one_line text (Mail name message envelope) (Mail name' message' envelope') (inr h) (inr k) = one_raw text name name' envelope envelope' message message' h k
one_line text (Alone first) (Alone first') h k =
    let same : keyword.Alone first ≡ keyword.Alone first' = (one_head text (keyword.Alone first) (keyword.Alone first') None None h k).0 in cc
one_line text (Actor first actor) (Actor first' actor') h k =
    let same = one_head text (keyword.Actor first) (keyword.Actor first') (Some actor) (Some actor') h.0 k.0 in
    let word : keyword.Actor first ≡ keyword.Actor first' = same.0 in
    let argument : actor ≡ actor' = some_same same.1 in cc
one_line text (Count first n) (Count first' n') h k =
    let same = one_head text (keyword.Count first) (keyword.Count first') (Some (digits n)) (Some (digits n')) h.0 k.0 in
    let word : keyword.Count first ≡ keyword.Count first' = same.0 in
    let argument : n ≡ n' = digits_injective n n' (some_same same.1) in cc
one_line text (Moment first m) (Moment first' m') h k =
    let same = one_head text (keyword.Moment first) (keyword.Moment first') (Some (digits m)) (Some (digits m')) h.0 k.0 in
    let word : keyword.Moment first ≡ keyword.Moment first' = same.0 in
    let argument : m ≡ m' = digits_injective m m' (some_same same.1) in cc
one_line text (Survival first how) (Survival first' how') h k =
    let same = one_head text (keyword.Survival first) (keyword.Survival first') (Some (survival_text how)) (Some (survival_text how')) h.0 k.0 in
    let word : keyword.Survival first ≡ keyword.Survival first' = same.0 in
    let argument : how ≡ how' = one_survival how how' (some_same same.1) in cc
one_line text (Word first read) (Word first' read') h k =
    let same = one_head text (keyword.Word first) (keyword.Word first') (Some h.0) (Some k.0) h.1 k.1 in
    let word : keyword.Word first ≡ keyword.Word first' = same.0 in
    let argument : read ≡ read' = read_one k.0 read read' (subst (λ (w : List ℕ). unescaped w ≡ Ok read) (some_same same.1) h.2.bytes) k.2.bytes in cc
one_line text (Letter first letter) (Letter first' letter') h k =
    let same = one_head text (keyword.Letter first) (keyword.Letter first') (Some (letter_text letter)) (Some (letter_text letter')) h k in
    let word : keyword.Letter first ≡ keyword.Letter first' = same.0 in
    let argument : letter ≡ letter' = one_letter letter letter' (some_same same.1) in cc
one_line text (Report slot letter report) (Report slot' letter' report') h k =
    let words = joined (digits slot ∷ letter_text letter ∷ h.word ∷ []) in
    let others = joined (digits slot' ∷ letter_text letter' ∷ k.word ∷ []) in
    let rest : words ≡ others = some_same (one_head text keyword.Report keyword.Report (Some words) (Some others) h.words k.words).1 in
    let same = one_report others report report' slot slot' letter letter' (subst (λ (t : List ℕ). IsReport t slot letter report) rest (words_of text slot letter report h)) (words_of text slot' letter' report' k) in
    let slots : slot ≡ slot' = same.0 in
    let letters : letter ≡ letter' = same.1 in
    let reports : report ≡ report' = same.2 in cc
one_line text (Mail name message envelope) m (inl h) k = absurd (other_kind text (Mail name message envelope) m (inl h) k refl)
one_line text (Mail name message envelope) m (inr h) k = absurd (other_kind text (Mail name message envelope) m (inr h) k refl)
one_line text l (Mail name message envelope) h (inl k) = absurd (other_kind text l (Mail name message envelope) h (inl k) refl)
one_line text l (Mail name message envelope) h (inr k) = absurd (other_kind text l (Mail name message envelope) h (inr k) refl)
one_line text l m h k = absurd (other_kind text l m h k refl)

-- The lines of a script

pub one_zip : (texts : List (List ℕ)) (ls ms : List Line) → AllZip IsLine texts ls → AllZip IsLine texts ms → ls ≡ ms
one_zip [] [] [] p q = refl
one_zip [] (l ∷ ls) ms p q = absurd p
one_zip [] [] (m ∷ ms) p q = absurd q
one_zip (t ∷ texts) [] ms p q = absurd p
one_zip (t ∷ texts) (l ∷ ls) [] p q = absurd q
one_zip (t ∷ texts) (l ∷ ls) (m ∷ ms) p q =
    ap (λ (x : Line). x ∷ ls) (one_line t l m p.0 q.0) ∙ ap (λ (xs : List Line). m ∷ xs) (one_zip texts ls ms p.1 q.1)

-- a text with its newline is some bytes
no-end : (t texts : List ℕ) → t ++ 10 ∷ texts ≡ [] → ⊥
no-end t texts e = not-cut t texts [] 10 (λ here. let within = here.1 in omega arith) e

pub one_ended : (ts us : List (List ℕ)) → All IsUnbroken ts → All IsUnbroken us → ended ts ≡ ended us → ts ≡ us
one_ended [] [] p q e = refl
one_ended [] (u ∷ us) p q e = absurd (no-end u (ended us) (sym (append_assoc u (10 ∷ []) (ended us)) ∙ sym e))
one_ended (t ∷ ts) [] p q e = absurd (no-end t (ended ts) (sym (append_assoc t (10 ∷ []) (ended ts)) ∙ e))
one_ended (t ∷ ts) (u ∷ us) p q e =
    let same = same-cut t (ended ts) u (ended us) 10 (All-head IsUnbroken t ts p) (All-head IsUnbroken u us q)
    (sym (append_assoc t (10 ∷ []) (ended ts)) ∙ e ∙ append_assoc u (10 ∷ []) (ended us)) in
    ap (λ (x : List ℕ). x ∷ ts) same.0 ∙ ap (λ (l : List (List ℕ)). u ∷ l) (one_ended ts us (All-tail IsUnbroken t ts p) (All-tail IsUnbroken u us q) same.1)
