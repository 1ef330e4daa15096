-- The words that lines begin with, by the kind of what follows each.
use Rattle.std.specs.Prelude.{List, ℕ, codes}
use Rattle.script_words.specs.Reading.{form_text}
use Rattle.script_lines.specs.declared.keyword.Keyword.{Keyword}
use Rattle.script_lines.specs.declared.keyword.Keyword.TheVariants.{Mail, Alone, Actor, Count, Moment, Survival, Word, Letter, Report}
use Rattle.script_lines.specs.declared.keyword.Alone.TheVariants as alone
use Rattle.script_lines.specs.declared.keyword.OfActor.TheVariants as of_actor
use Rattle.script_lines.specs.declared.keyword.OfCount.TheVariants as of_count
use Rattle.script_lines.specs.declared.keyword.OfMoment.TheVariants as of_moment
use Rattle.script_lines.specs.declared.keyword.OfSurvival.TheVariants as of_survival
use Rattle.script_lines.specs.declared.keyword.OfWord.TheVariants as of_word
use Rattle.script_lines.specs.declared.keyword.OfLetter.TheVariants as of_letter

-- a row for each word
abbrev pub keyword_text : Keyword → List ℕ
keyword_text (Mail form) = form_text form
keyword_text (Alone alone.Trace) = codes "trace"
keyword_text (Alone alone.Show) = codes "show"
keyword_text (Alone alone.Sum) = codes "sum"
keyword_text (Alone alone.Sender) = codes "sender"
keyword_text (Alone alone.Turn) = codes "turn"
keyword_text (Actor of_actor.Step) = codes "step"
keyword_text (Actor of_actor.Run) = codes "run"
keyword_text (Actor of_actor.Stop) = codes "stop"
keyword_text (Count of_count.Fault) = codes "fault"
keyword_text (Count of_count.Number) = codes "number"
keyword_text (Moment of_moment.Moment) = codes "moment"
keyword_text (Survival of_survival.Halt) = codes "halt"
keyword_text (Word of_word.Cat) = codes "cat"
keyword_text (Letter of_letter.Settle) = codes "settle"
keyword_text Report = codes "report"
