-- The words that lines begin with: none has a space, and each is one row.
use Rattle.std.proofs.Common.{◌≡◌, ◌≢◌, ℕ, List, [], ◌∷◌, Contains, Bool, true, false, Option, Some, None, refl, sym, ap, ◌∙◌, arith}
use Rattle.std.specs.Prelude.{map, cond, not, ◌==◌}
use Rattle.std.specs.List.{list_all}
use Rattle.std.specs.Str.{bytes_eq}
use Rattle.std.proofs.lemmas.List.Elements.{Contains-append_right}
use Rattle.std.proofs.lemmas.Slice.Eq.{bytes_eq-Decides}
use Rattle.script_words.specs.declared.envelope.Form.TheVariants.{Written}
use Rattle.script_words.proofs.Cuts.{lacks}
use Rattle.script_lines.specs.declared.keyword.Keyword.{Keyword}
use Rattle.script_lines.specs.declared.keyword.Keyword.TheVariants.{Mail, Alone, Actor, Count, Moment, Survival, Word, Letter, Report}
use Rattle.script_lines.specs.declared.keyword.Alone.TheVariants as alone
use Rattle.script_lines.specs.declared.keyword.OfActor.TheVariants as of_actor
use Rattle.script_lines.specs.declared.keyword.OfCount.TheVariants as of_count
use Rattle.script_lines.specs.declared.keyword.OfMoment.TheVariants as of_moment
use Rattle.script_lines.specs.declared.keyword.OfSurvival.TheVariants as of_survival
use Rattle.script_lines.specs.declared.keyword.OfWord.TheVariants as of_word
use Rattle.script_lines.specs.declared.keyword.OfLetter.TheVariants as of_letter
use Rattle.script_lines.specs.Keywords.{keyword_text}
use Rattle.script_lines.specs.inside.Keywords.{keywords, keyword_texts}

-- Each of the next two is computed for every word; the first of each kind tells the kinds apart.

-- no word has a space
plain : (k : Keyword) → list_all (λ b. not (b == 32)) (keyword_text k) ≡ true
plain (Mail Written) = refl
plain (Alone alone.Trace) = refl
plain (Actor of_actor.Step) = refl
plain (Count of_count.Fault) = refl
plain (Moment of_moment.Moment) = refl
plain (Survival of_survival.Halt) = refl
plain (Word of_word.Cat) = refl
plain (Letter of_letter.Settle) = refl
plain Report = refl
plain k = refl

pub keyword_lacks : (k : Keyword) → ¬ (Contains (keyword_text k) 32)
keyword_lacks k = lacks (keyword_text k) 32 (plain k)

-- the first row of a text
abbrev pub row_in : List Keyword → List ℕ → Option Keyword
row_in [] text = None
row_in (k ∷ rows) text = cond (bytes_eq (keyword_text k) text) (Some k) (row_in rows text)

-- that of a word is its own
own_row : (k : Keyword) → row_in keywords (keyword_text k) ≡ Some k
own_row (Mail Written) = refl
own_row (Alone alone.Trace) = refl
own_row (Actor of_actor.Step) = refl
own_row (Count of_count.Fault) = refl
own_row (Moment of_moment.Moment) = refl
own_row (Survival of_survival.Halt) = refl
own_row (Word of_word.Cat) = refl
own_row (Letter of_letter.Settle) = refl
own_row Report = refl
own_row k = refl

-- so two words have two texts
pub one_keyword : (k m : Keyword) → keyword_text k ≡ keyword_text m → k ≡ m
one_keyword k m e = let same : Some k ≡ Some m = sym (own_row k) ∙ ap (row_in keywords) e ∙ own_row m in cc

-- and each is listed
found : (rows : List Keyword) (text : List ℕ) (k : Keyword) → row_in rows text ≡ Some k → Contains (map keyword_text rows) text
found [] text k e = absurd (cc)
found (row ∷ rows) text k e = by (bytes_eq (keyword_text row) text) refl (found rows text k) e
  where
    by : (b : Bool) → bytes_eq (keyword_text row) text ≡ b → (row_in rows text ≡ Some k → Contains (map keyword_text rows) text) → cond b (Some row) (row_in rows text) ≡ Some k
        → Contains (keyword_text row ∷ map keyword_text rows) text
    by true same later e = (0, omega arith, (bytes_eq-Decides (keyword_text row) text).0 same)
    by false other later e = Contains-append_right (keyword_text row ∷ []) (map keyword_text rows) text (later e)

pub is_listed : (k : Keyword) → Contains keyword_texts (keyword_text k)
is_listed k = found keywords (keyword_text k) k (own_row k)

-- a text without a row is no word
pub no_row : (text : List ℕ) → row_in keywords text ≡ None → (k : Keyword) → text ≢ keyword_text k
no_row text none k e = let some : None ≡ Some k = sym none ∙ ap (row_in keywords) e ∙ own_row k in absurd (cc)
