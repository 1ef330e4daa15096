-- The texts of a script.
use Rattle.std.proofs.Common.{◌≡◌, ◌≢◌, ℕ, ◌+◌, ◌≤◌, List, [], ◌∷◌, ◌++◌, length, All, Contains, Some, None, true, refl, sym, ◌∙◌, ap, subst, ⊎_elim, arith, append_assoc, length-append}
use Rattle.std.specs.Prelude.{if◌then◌else◌, ◌==◌}
use Rattle.std.specs.List.{slice_get}
use Rattle.std.proofs.lemmas.Bool.Decides.{eqb_tells}
use Rattle.std.proofs.lemmas.List.{append-nil}
use Rattle.std.proofs.lemmas.List.Elements.{All-push, All-head, All-tail}
use Rattle.std.proofs.lemmas.Grind.{flat_map-append}
use Rattle.script_lines.specs.Contents.{Content}
use Rattle.script_lines.specs.Lines.{is_remark, AreContent, IsScript, IsRefused, HasBadLine, IsUnbroken, completed, ended}
use Rattle.script_lines.specs.inside.Reading.{IsFirstLine, IsTextRead}
use Rattle.script_words.specs.Reading.{IsCut}
use Rattle.script_words.proofs.Cuts.{contains-head, contains-tail, not-cut, same-cut}
use Rattle.script_lines.proofs.ContentTexts.{one_more_read, last_read, front_read, one_content}

-- bytes with a newline in them
completed-cut : (text behind : List ℕ) → completed (text ++ 10 ∷ behind) ≡ (text ++ 10 ∷ []) ++ completed behind
completed-cut [] [] = refl
completed-cut [] (b ∷ behind) = refl
completed-cut (b ∷ []) behind = ap (λ t. b ∷ t) (completed-cut [] behind)
completed-cut (b ∷ c ∷ text) behind = ap (λ t. b ∷ t) (completed-cut (c ∷ text) behind)

-- bytes with none
completed-last : (b : ℕ) (text : List ℕ) → IsUnbroken (b ∷ text) → completed (b ∷ text) ≡ (b ∷ text) ++ 10 ∷ []
completed-last b [] plain =
    ⊎_elim (λ same. absurd (plain (contains-head b [] 10 same.1))) (λ other. ap (λ t. b ∷ (if t then [] else 10 ∷ [])) other.0) (eqb_tells b 10)
completed-last b (c ∷ text) plain = ap (λ t. b ∷ t) (completed-last c text (λ h. plain (contains-tail b (c ∷ text) 10 h)))

pub first_cut : (bytes text behind : List ℕ) → IsCut bytes 10 text (Some behind) → IsFirstLine bytes text behind
first_cut bytes text behind cut = record {
  whole = ap completed cut.parts ∙ completed-cut text behind;
  unbroken = cut.without;
  shorter = let e = ap length cut.parts ∙ length-append text (10 ∷ behind) in omega arith;
}

pub first_last : (bytes text : List ℕ) → bytes ≢ [] → IsCut bytes 10 text None → IsFirstLine bytes text []
first_last [] text some cut = absurd (some refl)
first_last (b ∷ bytes) text some cut = record {
  whole = completed-last b bytes (subst IsUnbroken (sym cut.parts) cut.without) ∙ ap (λ t. t ++ 10 ∷ []) cut.parts ∙ sym (append-nil (text ++ 10 ∷ []));
  unbroken = cut.without;
  shorter = omega arith;
}

-- Some texts were read, and these bytes are left.
pub record HasRead (bytes rest : List ℕ) (content : Content) (number : ℕ) : Type 0 where
  pub texts : List (List ℕ)
  pub whole : completed bytes ≡ ended texts ++ completed rest
  pub each : All IsUnbroken texts
  pub are : AreContent texts content
  pub counted : number ≡ length texts
  pub room : number + length rest ≤ length bytes

-- one text more
pub whole-push : (bytes rest text behind : List ℕ) (texts : List (List ℕ)) → completed bytes ≡ ended texts ++ completed rest → IsFirstLine rest text behind → completed bytes ≡ ended (texts ++ text ∷ []) ++ completed behind
whole-push bytes rest text behind texts whole first =
    whole ∙ ap (λ t. ended texts ++ t) first.whole ∙ sym (append_assoc (ended texts) (text ++ 10 ∷ []) (completed behind))
    ∙ ap (λ t. t ++ completed behind) (ap (λ t. ended texts ++ t) (sym (append-nil (text ++ 10 ∷ []))) ∙ sym (flat_map-append (λ t. t ++ 10 ∷ []) texts (text ∷ [])))

abbrev pub read_more : (bytes rest text behind : List ℕ) (old new : Content) (number : ℕ) → HasRead bytes rest old number → IsFirstLine rest text behind → IsTextRead text old new → HasRead bytes behind new (number + 1)
read_more bytes rest text behind old new number read first is = record {
  texts = read.texts ++ text ∷ [];
  whole = whole-push bytes rest text behind read.texts read.whole first;
  each = All-push IsUnbroken read.texts text read.each first.unbroken;
  are = one_more_read read.texts text old new read.are is;
  counted = ap (λ n. n + 1) read.counted ∙ sym (length-append read.texts (text ∷ []));
  room = let before = read.room in let less = first.shorter in omega arith;
}

-- a text that can't be read after those before it
not_longer : (texts : List (List ℕ)) (text : List ℕ) (content : Content) → AreContent texts content → ((longer : Content) → ¬ (IsTextRead text content longer)) → (longer : Content) → ¬ (AreContent (texts ++ text ∷ []) longer)
not_longer texts text content are bad longer is =
    let last = last_read texts text longer is in
    let same = one_content texts last.old content last.are are in
    bad longer (subst (λ c. IsTextRead text c longer) same last.last)

pub bad_line : (bytes rest text behind : List ℕ) (content : Content) (number : ℕ) → HasRead bytes rest content number → IsFirstLine rest text behind → ((longer : Content) → ¬ (IsTextRead text content longer)) → HasBadLine bytes (number + 1)
bad_line bytes rest text behind content number read first bad = record {
  before = read.texts;
  text = text;
  rest = completed behind;
  whole = whole-push bytes rest text behind read.texts read.whole first;
  each = All-push IsUnbroken read.texts text read.each first.unbroken;
  content = content;
  good = read.are;
  bad = not_longer read.texts text content read.are bad;
  number = ap (λ n. n + 1) read.counted;
}

-- the first byte tells whether a text is passed over
pub remark_first : (text : List ℕ) (first : ℕ) → slice_get text 0 ≡ Some first → (first == 35) ≡ is_remark text
remark_first [] first e = absurd (cc)
remark_first (b ∷ text) first e = let same : b ≡ first = cc in ap (λ n. n == 35) (sym same)

pub remark_none : (text : List ℕ) → slice_get text 0 ≡ None → true ≡ is_remark text
remark_none [] e = refl
remark_none (b ∷ text) e = absurd (cc)

-- texts that begin alike
none-empty : (s : ℕ) → ¬ (Contains [] s)
none-empty s here = let below = here.1 in omega arith

unbroken-head : (text : List ℕ) (texts : List (List ℕ)) → All IsUnbroken (text ∷ texts) → IsUnbroken text
unbroken-head text texts each = All-head IsUnbroken text texts each

flat : (text rest : List ℕ) → ended (text ∷ []) ++ rest ≡ text ++ 10 ∷ rest
flat text rest = ap (λ t. t ++ rest) (append-nil (text ++ 10 ∷ [])) ∙ append_assoc text (10 ∷ []) rest

more : (b : List ℕ) (before : List (List ℕ)) (text rest : List ℕ) → ended (b ∷ (before ++ text ∷ [])) ++ rest ≡ b ++ 10 ∷ (ended (before ++ text ∷ []) ++ rest)
more b before text rest =
    append_assoc (b ++ 10 ∷ []) (ended (before ++ text ∷ [])) rest ∙ append_assoc b (10 ∷ []) (ended (before ++ text ∷ []) ++ rest)

found : (before : List (List ℕ)) (text rest : List ℕ) (texts : List (List ℕ)) → All IsUnbroken (before ++ text ∷ []) → All IsUnbroken texts → ended (before ++ text ∷ []) ++ rest ≡ ended texts
    → (later : List (List ℕ)) × (texts ≡ (before ++ text ∷ []) ++ later)
found [] text rest [] p q e = absurd (not-cut text rest [] 10 (none-empty 10) (sym (flat text rest) ∙ e))
found [] text rest (t ∷ texts) p q e =
    let same = same-cut t (ended texts) text rest 10 (unbroken-head t texts q) (unbroken-head text [] p) (sym (append_assoc t (10 ∷ []) (ended texts)) ∙ sym e ∙ flat text rest) in
    (texts, ap (λ (x : List ℕ). x ∷ texts) same.0)
found (b ∷ before) text rest [] p q e =
    absurd (not-cut b (ended (before ++ text ∷ []) ++ rest) [] 10 (none-empty 10) (sym (more b before text rest) ∙ e))
found (b ∷ before) text rest (t ∷ texts) p q e =
    let same = same-cut b (ended (before ++ text ∷ []) ++ rest) t (ended texts) 10 (unbroken-head b (before ++ text ∷ []) p) (unbroken-head t texts q)
    (sym (more b before text rest) ∙ e ∙ append_assoc t (10 ∷ []) (ended texts)) in
    let later = found before text rest texts (All-tail IsUnbroken b (before ++ text ∷ []) p) (All-tail IsUnbroken t texts q) same.1 in
    (later.0, ap (λ (x : List ℕ). x ∷ texts) (sym same.0) ∙ ap (λ (l : List (List ℕ)). b ∷ l) later.1)

-- bytes that are a script aren't refused
pub no_refusal : (bytes : List ℕ) (content : Content) → IsScript bytes content → ¬ (IsRefused bytes)
no_refusal bytes content script refused = ⊎_elim
    (λ long. let most = script.short in let over = long.1 in omega arith)
    (λ line. let h = line.1 in
    let later = found h.before h.text h.rest script.texts h.each script.each (sym h.whole ∙ script.whole) in
    let front = front_read (h.before ++ h.text ∷ []) later.0 content (subst (λ l. AreContent l content) later.1 script.are) in
    h.bad front.0 front.1)
    refused.1
