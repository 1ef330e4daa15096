-- All words that lines begin with.
use Rattle.std.specs.Prelude.{List, [], ◌∷◌, ℕ, map}
use Rattle.script_words.specs.declared.envelope.Form.TheVariants.{Written, Raw}
use Rattle.script_lines.specs.declared.keyword.Keyword.{Keyword}
use Rattle.script_lines.specs.declared.keyword.Keyword.TheVariants.{Mail, Alone, Actor, Count, Moment, Survival, Word, Letter, Report}
use Rattle.script_lines.specs.declared.keyword.Alone.TheVariants as alone
use Rattle.script_lines.specs.declared.keyword.OfActor.TheVariants as of_actor
use Rattle.script_lines.specs.declared.keyword.OfCount.TheVariants as of_count
use Rattle.script_lines.specs.declared.keyword.OfMoment.TheVariants as of_moment
use Rattle.script_lines.specs.declared.keyword.OfSurvival.TheVariants as of_survival
use Rattle.script_lines.specs.declared.keyword.OfWord.TheVariants as of_word
use Rattle.script_lines.specs.declared.keyword.OfLetter.TheVariants as of_letter
use Rattle.script_lines.specs.Keywords.{keyword_text}

-- all of them, a row for each kind
abbrev pub keywords : List Keyword
keywords =
    Mail Written ∷ Mail Raw
    ∷ Alone alone.Trace ∷ Alone alone.Show ∷ Alone alone.Sum ∷ Alone alone.Sender ∷ Alone alone.Turn
    ∷ Actor of_actor.Step ∷ Actor of_actor.Run ∷ Actor of_actor.Stop
    ∷ Count of_count.Fault ∷ Count of_count.Number
    ∷ Moment of_moment.Moment
    ∷ Survival of_survival.Halt
    ∷ Word of_word.Cat
    ∷ Letter of_letter.Settle
    ∷ Report
    ∷ []

abbrev pub keyword_texts : List (List ℕ)
keyword_texts = map keyword_text keywords
