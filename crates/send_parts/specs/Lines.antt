-- Lines of the sender's log (qmail-log(5)): those of the start and of a finish.
use Rattle.std.specs.Prelude.{ℕ, List, [], Bool, true, false, not}
use Rattle.send_log.specs.Lines.{end_message, skipped}
use Rattle.send_parts.specs.declared.reading.Progress.{Progress}
use Rattle.send_parts.specs.declared.reading.Progress.TheVariants.{Goes, Whole, Missing, Failed}
use Rattle.send_parts.specs.declared.reply.Way.{Way}
use Rattle.send_parts.specs.declared.reply.Way.TheVariants as way
use Rattle.send_parts.specs.declared.rows.FinishRow.{FinishRow}
use Rattle.send_parts.specs.declared.rows.FinishRow.TheVariants as finish

-- an info file of the start scan that is missing, or isn't one: it is passed over
abbrev pub is_skipped : Progress → Bool → Bool
is_skipped Whole good = not good
is_skipped Missing good = true
is_skipped (Goes reading) good = false
is_skipped Failed good = false

abbrev pub skipped_if : Bool → ℕ → List ℕ
skipped_if true n = skipped n
skipped_if false n = []

abbrev pub if_fine : Way → List ℕ → List ℕ
if_fine way.Fine lines = lines
if_fine w lines = []

-- the command to remove a finished message was answered
abbrev pub finish_lines : FinishRow → ℕ → Way → List ℕ
finish_lines finish.Take n w = if_fine w (end_message n)
finish_lines row n w = []

-- room for that line is taken then, and a return takes memory
abbrev pub finish_takes_memory : FinishRow → Bool
finish_takes_memory finish.Return = true
finish_takes_memory finish.Take = true
finish_takes_memory row = false
