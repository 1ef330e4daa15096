-- What bytes say as a script: one content, whose entries have paths for them and aren't too many.
use Rattle.std.proofs.Common.{◌≡◌, ℕ, ◌+◌, ◌<◌, ◌≤◌, ◌^◌, List, [], ◌∷◌, ◌++◌, length, Bool, true, false, sym, ap, ◌∙◌, subst, arith, length-append}
use Rattle.std.specs.Prelude.{cond, not, if◌then◌else◌, ◌==◌}
use Rattle.std.specs.List.{AllZip}
use Rattle.std.proofs.lemmas.List.Elements.{All-nil, All-cons}
use Rattle.std.proofs.lemmas.Slice.Zip.{AllZip-long}
use Rattle.mail_bytes.specs.Lists.{last_of}
use Rattle.script_words.specs.declared.entry.Entry.{Entry}
use Rattle.script_words.specs.Entries.{IsEntryLine, IsEntryPath, path_of}
use Rattle.script_words.proofs.EntryTexts.{entry_path}
use Rattle.script_lines.specs.Contents.{Content, HaveEntryPaths}
use Rattle.script_lines.specs.Lines.{IsScript, AreContent, kept_texts, is_remark, completed, ended}
use Rattle.script_lines.proofs.OneLine.{one_ended}
use Rattle.script_lines.proofs.ContentTexts.{one_content}

pub one_script : (script : List ℕ) (a b : Content) → IsScript script a → IsScript script b → a ≡ b
one_script script a b p q =
    let same = one_ended p.texts q.texts p.each q.each (sym p.whole ∙ q.whole) in
    one_content q.texts a b (subst (λ (l : List (List ℕ)). AreContent l a) same p.are) q.are

-- the paths of entries that were read
entry_paths : (texts : List (List ℕ)) (entries : List Entry) → AllZip IsEntryLine texts entries → HaveEntryPaths entries
entry_paths [] [] h = All-nil (λ entry. IsEntryPath (path_of entry))
entry_paths [] (entry ∷ entries) h = absurd h
entry_paths (text ∷ texts) [] h = absurd h
entry_paths (text ∷ texts) (entry ∷ entries) h =
    All-cons (λ e. IsEntryPath (path_of e)) entry entries (entry_path text entry h.0) (entry_paths texts entries h.1)

pub said_paths : (script : List ℕ) (content : Content) → IsScript script content → HaveEntryPaths content.opening
said_paths script content says = entry_paths says.are.first content.opening says.are.are_entries

-- there are no more texts than bytes
length_kept : (texts : List (List ℕ)) → length (kept_texts texts) ≤ length texts
length_kept [] = omega arith
length_kept (text ∷ texts) = by (not (is_remark text)) (length_kept texts)
  where
    by : (b : Bool) → length (kept_texts texts) ≤ length texts → length (cond b (text ∷ kept_texts texts) (kept_texts texts)) ≤ length (text ∷ texts)
    by true less = omega arith
    by false less = omega arith

length_ended : (texts : List (List ℕ)) → length texts ≤ length (ended texts)
length_ended [] = omega arith
length_ended (text ∷ texts) =
    let less = length_ended texts in
    let whole : length (ended (text ∷ texts)) ≡ length (text ++ 10 ∷ []) + length (ended texts) = length-append (text ++ 10 ∷ []) (ended texts) in
    let one : length (text ++ 10 ∷ []) ≡ length text + 1 = length-append text (10 ∷ []) in
    omega arith

length_completed : (bytes : List ℕ) → length (completed bytes) ≤ length bytes + 1
length_completed [] = omega arith
length_completed (b ∷ bytes) = by (last_of b bytes == 10)
  where
    by : (whole : Bool) → length ((b ∷ bytes) ++ (if whole then [] else 10 ∷ [])) ≤ length (b ∷ bytes) + 1
    by true = let e = length-append (b ∷ bytes) [] in omega arith
    by false = let e = length-append (b ∷ bytes) (10 ∷ []) in omega arith

-- so there are no more entries than bytes, and one
pub said_short : (script : List ℕ) (content : Content) → IsScript script content → length content.opening ≤ length script + 1
said_short script content says =
    let entries = AllZip-long IsEntryLine says.are.first content.opening says.are.are_entries in
    let split = ap length says.are.split ∙ length-append says.are.first says.are.later in
    let some = length_kept says.texts in
    let texts = length_ended says.texts in
    let whole = ap length says.whole in
    let bytes = length_completed script in
    omega arith

pub said_few : (script : List ℕ) (content : Content) → IsScript script content → length content.opening < 2 ^ 64
said_few script content says =
    let entries = said_short script content says in
    let short = says.short in
    omega arith
