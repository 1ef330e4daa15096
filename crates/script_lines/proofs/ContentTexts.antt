-- Texts that are the entries and lines of a script.
use Rattle.std.proofs.Common.{◌≡◌, ◌⊎◌, ℕ, List, [], ◌∷◌, ◌++◌, All, Bool, true, false, refl, sym, ◌∙◌, ap, subst, inl, inr, append_assoc}
use Rattle.std.specs.Prelude.{if◌then◌else◌, not, cond, Result, Ok, Err, IfErr}
use Rattle.std.proofs.lemmas.Bool.{false≢true}
use Rattle.std.specs.List.{AllZip}
use Rattle.std.proofs.lemmas.List.{append-nil}
use Rattle.std.proofs.lemmas.List.Elements.{All-nil, All-cons, All-push, All-head, All-tail, filter-append}
use Rattle.script_words.specs.declared.entry.Entry.{Entry}
use Rattle.script_words.specs.declared.error.WordError.{WordError}
use Rattle.script_words.specs.declared.error.WordError.TheVariants.{Malformed}
use Rattle.script_words.specs.Entries.{IsEntryLine, Agree, AllAgree}
use Rattle.script_words.proofs.EntryTexts.{one_entry}
use Rattle.script_lines.specs.declared.line.Line.{Line}
use Rattle.script_lines.specs.Contents.{Content}
use Rattle.script_lines.specs.inside.Contents.{with_entry, with_line}
use Rattle.script_lines.specs.Lines.{IsLine, IsShort, is_remark, kept_texts, AreContent}
use Rattle.script_lines.specs.inside.Reading.{MayFollow, IsTextRead}
use Rattle.script_lines.proofs.Divisions.{HasLast, empty_or_last, no_push, same_push, zip_push, zip_pop, zip_none, zip_of_none}
use Rattle.script_lines.proofs.LineHeads.{no_entry_line}
use Rattle.script_lines.proofs.OneLine.{one_zip}

-- one text more, passed over or kept
kept-one : (b : Bool) (text : List ℕ) → is_remark text ≡ b → kept_texts (text ∷ []) ≡ (if b then [] else text ∷ [])
kept-one true text e = ap (λ t. cond (not t) (text ∷ []) []) e
kept-one false text e = ap (λ t. cond (not t) (text ∷ []) []) e

kept-more : (b : Bool) (texts : List (List ℕ)) (text : List ℕ) → is_remark text ≡ b → kept_texts (texts ++ text ∷ []) ≡ kept_texts texts ++ (if b then [] else text ∷ [])
kept-more b texts text e = filter-append (λ t. not (is_remark t)) texts (text ∷ []) ∙ ap (λ t. kept_texts texts ++ t) (kept-one b text e)

-- entries that agree, and one more
agree_push : (entries : List Entry) (entry : Entry) → AllAgree entries → All (λ e. Agree e entry) entries → AllAgree (entries ++ entry ∷ [])
agree_push [] entry agree all = (All-nil (Agree entry), tt)
agree_push (e ∷ entries) entry agree all = (
  All-push (Agree e) entries entry agree.0 (All-head (λ x. Agree x entry) e entries all),
  agree_push entries entry agree.1 (All-tail (λ x. Agree x entry) e entries all),
)

agree_pop : (entries : List Entry) (entry : Entry) → AllAgree (entries ++ entry ∷ []) → AllAgree entries × All (λ e. Agree e entry) entries
agree_pop [] entry agree = (tt, All-nil (λ e. Agree e entry))
agree_pop (e ∷ entries) entry agree =
    let rest = agree_pop entries entry agree.1 in
    let each = all_pop (Agree e) entries entry agree.0 in
    ((each.0, rest.0), All-cons (λ x. Agree x entry) e entries each.1 rest.1)
  where
    all_pop : (P : Entry → Type 0) (xs : List Entry) (x : Entry) → All P (xs ++ x ∷ []) → All P xs × P x
    all_pop P [] x all = (All-nil P, All-head P x [] all)
    all_pop P (y ∷ xs) x all =
        let rest = all_pop P xs x (All-tail P y (xs ++ x ∷ []) all) in
        (All-cons P y xs (All-head P y (xs ++ x ∷ []) all) rest.0, rest.1)

-- one text more is read
pub one_more_read : (texts : List (List ℕ)) (text : List ℕ) (old new : Content) → AreContent texts old → IsTextRead text old new → AreContent (texts ++ text ∷ []) new
one_more_read texts text old new h read = by read.says
  where
    within : All IsShort (texts ++ text ∷ [])
    within = All-push IsShort texts text h.within read.short

    by : ((is_remark text ≡ true) × (new ≡ old)) ⊎ (((is_remark text ≡ false) × (entry : Entry) × IsEntryLine text entry × MayFollow old entry × (new ≡ with_entry old entry)) ⊎ ((is_remark text ≡ false) × (line : Line) × IsLine text line × (new ≡ with_line old line))) → AreContent (texts ++ text ∷ []) new
    by (inl over) = subst (AreContent (texts ++ text ∷ [])) (sym over.1) (record {
      within = within;
      first = h.first;
      later = h.later;
      split = kept-more true texts text over.0 ∙ append-nil (kept_texts texts) ∙ h.split;
      are_entries = h.are_entries;
      agree = h.agree;
      are_lines = h.are_lines;
    })
    by (inr (inl own)) =
        let none = zip_none IsLine h.later old.lines h.are_lines own.3.0 in
        let whole = h.split ∙ ap (λ l. h.first ++ l) none ∙ append-nil h.first in
        subst (AreContent (texts ++ text ∷ [])) (sym own.4) (record {
          within = within;
          first = h.first ++ text ∷ [];
          later = [];
          split = kept-more false texts text own.0 ∙ ap (λ l. l ++ text ∷ []) whole ∙ sym (append-nil (h.first ++ text ∷ []));
          are_entries = zip_push IsEntryLine h.first old.opening text own.1 h.are_entries own.2;
          agree = agree_push old.opening own.1 h.agree own.3.1;
          are_lines = subst (AllZip IsLine []) (sym own.3.0) tt;
        })
    by (inr (inr own)) = subst (AreContent (texts ++ text ∷ [])) (sym own.3) (record {
      within = within;
      first = h.first;
      later = h.later ++ text ∷ [];
      split = kept-more false texts text own.0 ∙ ap (λ l. l ++ text ∷ []) h.split ∙ append_assoc h.first h.later (text ∷ []);
      are_entries = h.are_entries;
      agree = h.agree;
      are_lines = zip_push IsLine h.later old.lines text own.1 h.are_lines own.2;
    })

-- a content of these parts
content_is : (c : Content) (entries : List Entry) (lines : List Line) → c.opening ≡ entries → c.lines ≡ lines → c ≡ record { opening = entries; lines = lines }
content_is c entries lines p q =
    ap (λ (x : List Entry). record { opening = x; lines = c.lines }) p ∙ ap (λ (x : List Line). record { opening = entries; lines = x }) q

-- what was read before the last text
pub record ReadBefore (texts : List (List ℕ)) (text : List ℕ) (new : Content) : Type 0 where
  pub old : Content
  pub are : AreContent texts old
  pub last : IsTextRead text old new

shorts : (texts : List (List ℕ)) (text : List ℕ) → All IsShort (texts ++ text ∷ []) → All IsShort texts × IsShort text
shorts [] text all = (All-nil IsShort, All-head IsShort text [] all)
shorts (t ∷ texts) text all =
    let rest = shorts texts text (All-tail IsShort t (texts ++ text ∷ []) all) in
    (All-cons IsShort t texts (All-head IsShort t (texts ++ text ∷ []) all) rest.0, rest.1)

over_last : (texts : List (List ℕ)) (text : List ℕ) (new : Content) → AreContent (texts ++ text ∷ []) new → is_remark text ≡ true → ReadBefore texts text new
over_last texts text new h e =
    let short = shorts texts text h.within in
    record {
      old = new;
      are = record {
        within = short.0;
        first = h.first;
        later = h.later;
        split = sym (append-nil (kept_texts texts)) ∙ sym (kept-more true texts text e) ∙ h.split;
        are_entries = h.are_entries;
        agree = h.agree;
        are_lines = h.are_lines;
      };
      last = record { short = short.1; says = inl (e, refl) };
    }

entry_last : (texts : List (List ℕ)) (text : List ℕ) (new : Content) → AreContent (texts ++ text ∷ []) new → is_remark text ≡ false
    → (front : List (List ℕ)) → kept_texts texts ++ text ∷ [] ≡ front ++ text ∷ [] → AllZip IsEntryLine (front ++ text ∷ []) new.opening → new.lines ≡ [] → ReadBefore texts text new
entry_last texts text new h e front whole entries none =
    let short = shorts texts text h.within in
    let same = same_push (kept_texts texts) front text text whole in
    let p = zip_pop IsEntryLine front text new.opening entries in
    let agree = agree_pop p.front p.last (subst AllAgree p.is h.agree) in
    record {
      old = record { opening = p.front; lines = [] };
      are = record {
        within = short.0;
        first = front;
        later = [];
        split = same.0 ∙ sym (append-nil front);
        are_entries = p.beside;
        agree = agree.0;
        are_lines = tt;
      };
      last = record {
        short = short.1;
        says = inr (inl (e, p.last, p.last_beside, (refl, agree.1), content_is new (p.front ++ p.last ∷ []) [] p.is none));
      };
    }

line_last : (texts : List (List ℕ)) (text : List ℕ) (new : Content) → AreContent (texts ++ text ∷ []) new → is_remark text ≡ false
    → (first front : List (List ℕ)) → kept_texts texts ++ text ∷ [] ≡ (first ++ front) ++ text ∷ [] → AllZip IsEntryLine first new.opening → AllZip IsLine (front ++ text ∷ []) new.lines → ReadBefore texts text new
line_last texts text new h e first front whole entries lines =
    let short = shorts texts text h.within in
    let same = same_push (kept_texts texts) (first ++ front) text text whole in
    let p = zip_pop IsLine front text new.lines lines in
    record {
      old = record { opening = new.opening; lines = p.front };
      are = record {
        within = short.0;
        first = first;
        later = front;
        split = same.0;
        are_entries = entries;
        agree = h.agree;
        are_lines = p.beside;
      };
      last = record {
        short = short.1;
        says = inr (inr (e, p.last, p.last_beside, content_is new new.opening (p.front ++ p.last ∷ []) refl p.is));
      };
    }

own_last : (texts : List (List ℕ)) (text : List ℕ) (new : Content) (h : AreContent (texts ++ text ∷ []) new) → is_remark text ≡ false
    → (h.later ≡ []) ⊎ HasLast h.later → (h.first ≡ []) ⊎ HasLast h.first → ReadBefore texts text new
own_last texts text new h e (inl none) (inl no_entry) =
    absurd (no_push (kept_texts texts) text (sym (kept-more false texts text e) ∙ h.split ∙ ap (λ l. l ++ h.later) no_entry ∙ none))
own_last texts text new h e (inl none) (inr some) =
    let whole = sym (kept-more false texts text e) ∙ h.split ∙ ap (λ l. h.first ++ l) none ∙ append-nil h.first ∙ some.is in
    let same = same_push (kept_texts texts) some.front text some.last whole in
    entry_last texts text new h e some.front (whole ∙ ap (λ t. some.front ++ t ∷ []) (sym same.1))
    (subst (λ l. AllZip IsEntryLine l new.opening) (some.is ∙ ap (λ t. some.front ++ t ∷ []) (sym same.1)) h.are_entries)
    (zip_of_none IsLine new.lines (subst (λ l. AllZip IsLine l new.lines) none h.are_lines))
own_last texts text new h e (inr some) any =
    let whole = sym (kept-more false texts text e) ∙ h.split ∙ ap (λ l. h.first ++ l) some.is ∙ sym (append_assoc h.first some.front (some.last ∷ [])) in
    let same = same_push (kept_texts texts) (h.first ++ some.front) text some.last whole in
    line_last texts text new h e h.first some.front (whole ∙ ap (λ t. (h.first ++ some.front) ++ t ∷ []) (sym same.1)) h.are_entries
    (subst (λ l. AllZip IsLine l new.lines) (some.is ∙ ap (λ t. some.front ++ t ∷ []) (sym same.1)) h.are_lines)

pub last_read : (texts : List (List ℕ)) (text : List ℕ) (new : Content) → AreContent (texts ++ text ∷ []) new → ReadBefore texts text new
last_read texts text new h = by (is_remark text) refl
  where
    by : (b : Bool) → is_remark text ≡ b → ReadBefore texts text new
    by true e = over_last texts text new h e
    by false e = own_last texts text new h e (empty_or_last h.later) (empty_or_last h.first)

-- the first of the texts of a script
pub front_read : (texts more : List (List ℕ)) (content : Content) → AreContent (texts ++ more) content → (before : Content) × AreContent texts before
front_read texts [] content h = (content, subst (λ l. AreContent l content) (append-nil texts) h)
front_read texts (text ∷ more) content h =
    let longer = front_read (texts ++ text ∷ []) more content (subst (λ l. AreContent l content) (sym (append_assoc texts (text ∷ []) more)) h) in
    let last = last_read texts text longer.0 longer.1 in
    (last.old, last.are)

-- texts are one content
first_line_of : (text : List ℕ) (texts : List (List ℕ)) (lines : List Line) → AllZip IsLine (text ∷ texts) lines → (line : Line) × IsLine text line
first_line_of text texts [] h = absurd h
first_line_of text texts (line ∷ lines) h = (line, h.0)

first_entry_of : (text : List ℕ) (texts : List (List ℕ)) (entries : List Entry) → AllZip IsEntryLine (text ∷ texts) entries → (entry : Entry) × IsEntryLine text entry
first_entry_of text texts [] h = absurd h
first_entry_of text texts (entry ∷ entries) h = (entry, h.0)

no_both : (text : List ℕ) (first later all : List (List ℕ)) (entries : List Entry) (lines : List Line) → all ≡ (text ∷ first) ++ later → AllZip IsEntryLine (text ∷ first) entries → AllZip IsLine all lines → ⊥
no_both text first later all entries lines e p q =
    let entry = first_entry_of text first entries p in
    let line = first_line_of text (first ++ later) lines (subst (λ l. AllZip IsLine l lines) e q) in
    no_entry_line text entry.0 line.0 entry.1 line.1

one_division : (first later first' later' : List (List ℕ)) (entries entries' : List Entry) (lines lines' : List Line) → first ++ later ≡ first' ++ later'
    → AllZip IsEntryLine first entries → AllZip IsLine later lines → AllZip IsEntryLine first' entries' → AllZip IsLine later' lines' → (entries ≡ entries') × (lines ≡ lines')
one_division [] later [] later' es es' ls ls' e p q p' q' =
    (zip_of_none IsEntryLine es p ∙ sym (zip_of_none IsEntryLine es' p'), one_zip later' ls ls' (subst (λ l. AllZip IsLine l ls) e q) q')
one_division [] later (t ∷ first') later' es es' ls ls' e p q p' q' = absurd (no_both t first' later' later es' ls e p' q)
one_division (t ∷ first) later [] later' es es' ls ls' e p q p' q' = absurd (no_both t first later later' es ls' (sym e) p q')
one_division (t ∷ first) later (t' ∷ first') later' [] es' ls ls' e p q p' q' = absurd p
one_division (t ∷ first) later (t' ∷ first') later' (x ∷ es) [] ls ls' e p q p' q' = absurd p'
one_division (t ∷ first) later (t' ∷ first') later' (x ∷ es) (y ∷ es') ls ls' e p q p' q' =
    let tail : first ++ later ≡ first' ++ later' = cc in
    let head : t ≡ t' = cc in
    let rest = one_division first later first' later' es es' ls ls' tail p.1 q p'.1 q' in
    let same = one_entry t x y p.0 (subst (λ s. IsEntryLine s y) (sym head) p'.0) in
    (ap (λ (z : Entry). z ∷ es) same ∙ ap (λ (zs : List Entry). y ∷ zs) rest.0, rest.1)

pub one_content : (texts : List (List ℕ)) (a b : Content) → AreContent texts a → AreContent texts b → a ≡ b
one_content texts a b p q =
    let same = one_division p.first p.later q.first q.later a.opening b.opening a.lines b.lines (sym p.split ∙ q.split) p.are_entries p.are_lines q.are_entries q.are_lines in
    content_is a b.opening b.lines same.0 same.1

-- a text of an entry that may not follow
pub not_read : (text : List ℕ) (content : Content) (entry : Entry) (remark : Bool) (result : Result (Unit {0}) WordError) → IsEntryLine text entry → remark ≡ is_remark text → remark ≡ false
    → IfErr result (λ why. why ≡ Malformed → ¬ (MayFollow content entry)) → IfErr result (λ why. why ≡ Malformed → (longer : Content) → ¬ (IsTextRead text content longer))
not_read text content entry remark (Ok x) is told own refused = tt
not_read text content entry remark (Err why) is told own refused = λ malformed longer read. by malformed read.says
  where
    by : why ≡ Malformed → {longer : Content} → ((is_remark text ≡ true) × (longer ≡ content)) ⊎ (((is_remark text ≡ false) × (e : Entry) × IsEntryLine text e × MayFollow content e × (longer ≡ with_entry content e)) ⊎ ((is_remark text ≡ false) × (line : Line) × IsLine text line × (longer ≡ with_line content line))) → ⊥
    by malformed (inl over) = false≢true (sym own ∙ told ∙ over.0)
    by malformed (inr (inl h)) = refused malformed (subst (MayFollow content) (one_entry text h.1 entry h.2 is) h.3)
    by malformed (inr (inr h)) = no_entry_line text entry h.1 is h.2
