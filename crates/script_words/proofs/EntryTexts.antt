-- The texts of entries.
use Rattle.std.proofs.Common.{◌≡◌, ◌≢◌, ℕ, List, [], ◌∷◌, ◌++◌, Contains, Some, Ok, get_or, refl, sym, ◌∙◌, ap, subst, append_assoc, arith}
use Rattle.std.specs.Prelude.{codes}
use Rattle.std.specs.List.{AllZip}
use Rattle.std.proofs.lemmas.List.{append_cancel_left}
use Rattle.mail_bytes.specs.Escape.{unescaped}
use Rattle.script_words.specs.declared.entry.Entry.{Entry}
use Rattle.script_words.specs.declared.entry.Entry.TheVariants.{File, Dir}
use Rattle.script_words.specs.Words.{joined, StandsFor, HasBody}
use Rattle.script_words.specs.Entries.{IsEntryPath, IsFileLine, IsDirLine, IsEntryLine, path_of}
use Rattle.script_words.specs.Reading.{IsCut, HasRecipients, kind_texts}
use Rattle.script_words.proofs.Cuts.{same-cut, lacks, contains-cut}
use Rattle.script_words.proofs.WordLists.{Ends}
use Rattle.script_words.proofs.Envelopes.{has-body, body-ends}

-- a path, `:` and a body
pub file_line : (words word more path body bytes : List ℕ) → IsCut words 32 word (Some more) → StandsFor word path → IsEntryPath path → HasRecipients more [] body → unescaped body ≡ Ok bytes
    → IsFileLine (codes "file" ++ 32 ∷ words) path bytes
file_line words word more path body bytes cut stands is_path ends is = by ends.to ends.rest ends.words ends.stand ends.ends
  where
    by : (to : List (List ℕ)) (rest : List ℕ) → more ≡ joined (to ++ codes ":" ∷ []) ++ rest → AllZip StandsFor to [] → Ends rest body → IsFileLine (codes "file" ++ 32 ∷ words) path bytes
    by [] rest e stand end = record {
      word = word;
      rest = rest;
      words = ap (λ t. codes "file" ++ 32 ∷ t) (cut.parts ∙ ap (λ t. word ++ 32 ∷ t) e ∙ sym (append_assoc word (32 ∷ codes ":") rest));
      is_path = stands;
      is_entry_path = is_path;
      has_body = has-body rest body bytes end is;
    }
    by (v ∷ to) rest e stand end = absurd stand

-- what is after the word `file`
file_words : (words path bytes : List ℕ) (h : IsFileLine (codes "file" ++ 32 ∷ words) path bytes) → words ≡ h.word ++ 32 ∷ (codes ":" ++ h.rest)
file_words words path bytes h =
    append_cancel_left (codes "file ") words ((h.word ++ 32 ∷ codes ":") ++ h.rest) h.words ∙ append_assoc h.word (32 ∷ codes ":") h.rest

pub record FileParts (word more path bytes : List ℕ) : Type 0 where
  pub stands : StandsFor word path
  pub is_path : IsEntryPath path
  pub body : List ℕ
  pub ends : HasRecipients more [] body
  pub is : unescaped body ≡ Ok bytes

pub file_parts : (words word more path bytes : List ℕ) → IsCut words 32 word (Some more) → IsFileLine (codes "file" ++ 32 ∷ words) path bytes → FileParts word more path bytes
file_parts words word more path bytes cut h =
    let same = same-cut h.word (codes ":" ++ h.rest) word more 32 h.is_path.is_word.whole cut.without (sym (file_words words path bytes h) ∙ cut.parts) in
    let ends = body-ends h.rest bytes h.has_body in
    record {
      stands = subst (λ (w : List ℕ). StandsFor w path) same.0 h.is_path;
      is_path = h.is_entry_path;
      body = ends.0;
      ends = record { to = []; rest = h.rest; words = sym same.1; stand = tt; ends = ends.1 };
      is = ends.2;
    }

pub file_has_space : (words path bytes : List ℕ) → IsFileLine (codes "file" ++ 32 ∷ words) path bytes → Contains words 32
file_has_space words path bytes h = subst (λ (t : List ℕ). Contains t 32) (sym (file_words words path bytes h)) (contains-cut h.word (codes ":" ++ h.rest) 32)

-- the path after the word `dir`
pub dir_word : (words path : List ℕ) (h : IsDirLine (codes "dir" ++ 32 ∷ words) path) → h.word ≡ words
dir_word words path h = sym (append_cancel_left (codes "dir ") words h.word h.words)

-- how the text of an entry begins
pub entry_kind : (text word rest : List ℕ) (entry : Entry) → IsCut text 32 word (Some rest) → IsEntryLine text entry → Contains kind_texts word
entry_kind text word rest (File path bytes) cut h =
    (0, omega arith, (same-cut (codes "file") ((h.word ++ 32 ∷ codes ":") ++ h.rest) word rest 32 (lacks (codes "file") 32 refl) cut.without (sym h.words ∙ cut.parts)).0)
entry_kind text word rest (Dir path) cut h =
    (1, omega arith, (same-cut (codes "dir") h.word word rest 32 (lacks (codes "dir") 32 refl) cut.without (sym h.words ∙ cut.parts)).0)

pub entry_has_space : (text : List ℕ) (entry : Entry) → IsEntryLine text entry → Contains text 32
entry_has_space text (File path bytes) h = subst (λ (t : List ℕ). Contains t 32) (sym h.words) (contains-cut (codes "file") ((h.word ++ 32 ∷ codes ":") ++ h.rest) 32)
entry_has_space text (Dir path) h = subst (λ (t : List ℕ). Contains t 32) (sym h.words) (contains-cut (codes "dir") h.word 32)

pub entry_path : (text : List ℕ) (entry : Entry) → IsEntryLine text entry → IsEntryPath (path_of entry)
entry_path text (File path bytes) h = h.is_entry_path
entry_path text (Dir path) h = h.is_entry_path

-- texts that begin otherwise
pub other_first : (a b : List ℕ) (x y : ℕ) → get_or a 0 0 ≡ x → get_or b 0 0 ≡ y → x ≢ y → a ≡ b → ⊥
other_first a b x y p q apart e = apart (sym p ∙ ap (λ t. get_or t 0 0) e ∙ q)

-- a word stands for one text
pub read_one : (word a b : List ℕ) → unescaped word ≡ Ok a → unescaped word ≡ Ok b → a ≡ b
read_one word a b p q = let same = sym p ∙ q in cc

-- what may follow `:` is one body
pub one_message : (rest a b : List ℕ) → HasBody rest a → HasBody rest b → a ≡ b
one_message [] a b p q = p ∙ sym q
one_message (first ∷ text) a b p q = read_one text a b p.1 q.1

-- a text is one entry
one_file : (text path path' bytes bytes' : List ℕ) → IsFileLine text path bytes → IsFileLine text path' bytes' → File path bytes ≡ File path' bytes'
one_file text path path' bytes bytes' h k =
    let whole : (h.word ++ 32 ∷ codes ":") ++ h.rest ≡ (k.word ++ 32 ∷ codes ":") ++ k.rest = append_cancel_left (codes "file ") _ _ (sym h.words ∙ k.words) in
    let same = same-cut h.word (codes ":" ++ h.rest) k.word (codes ":" ++ k.rest) 32 h.is_path.is_word.whole k.is_path.is_word.whole
    (sym (append_assoc h.word (32 ∷ codes ":") h.rest) ∙ whole ∙ append_assoc k.word (32 ∷ codes ":") k.rest) in
    let rests = append_cancel_left (codes ":") h.rest k.rest same.1 in
    ap (λ (p : List ℕ). File p bytes) (read_one k.word path path' (subst (λ (w : List ℕ). unescaped w ≡ Ok path) same.0 h.is_path.bytes) k.is_path.bytes)
    ∙ ap (λ (b : List ℕ). File path' b) (one_message k.rest bytes bytes' (subst (λ (r : List ℕ). HasBody r bytes) rests h.has_body) k.has_body)

pub one_entry : (text : List ℕ) (a b : Entry) → IsEntryLine text a → IsEntryLine text b → a ≡ b
one_entry text (File path bytes) (File path' bytes') h k = one_file text path path' bytes bytes' h k
one_entry text (Dir path) (Dir path') h k =
    let same : h.word ≡ k.word = append_cancel_left (codes "dir ") h.word k.word (sym h.words ∙ k.words) in
    ap Dir (read_one k.word path path' (subst (λ (w : List ℕ). unescaped w ≡ Ok path) same h.is_path.bytes) k.is_path.bytes)
one_entry text (File path bytes) (Dir path') h k = absurd (other_first _ _ 102 100 refl refl (λ e. omega arith) (sym h.words ∙ k.words))
one_entry text (Dir path) (File path' bytes') h k = absurd (other_first _ _ 100 102 refl refl (λ e. omega arith) (sym h.words ∙ k.words))

-- a text that begins so is a file, or a directory
pub only_file : (words : List ℕ) (entry : Entry) → IsEntryLine (codes "file" ++ 32 ∷ words) entry → (path bytes : List ℕ) × IsFileLine (codes "file" ++ 32 ∷ words) path bytes
only_file words (File path bytes) h = (path, bytes, h)
only_file words (Dir path) h = absurd (other_first _ _ 102 100 refl refl (λ e. omega arith) h.words)

pub only_dir : (words : List ℕ) (entry : Entry) → IsEntryLine (codes "dir" ++ 32 ∷ words) entry → (path : List ℕ) × IsDirLine (codes "dir" ++ 32 ∷ words) path
only_dir words (File path bytes) h = absurd (other_first _ _ 100 102 refl refl (λ e. omega arith) h.words)
only_dir words (Dir path) h = (path, h)
