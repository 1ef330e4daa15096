-- The lines of the sender's log that speak of bounces (qmail-log(5)).
use Rattle.std.specs.Prelude.{ℕ, List, [], Bool, true, false, if◌then◌else◌, ◌==◌}
use Rattle.call_fs.specs.declared.calls.Answer.{Answer}
use Rattle.call_fs.specs.declared.calls.Answer.TheVariants as answer
use Rattle.call_fs.specs.declared.past.GotData.{GotData}
use Rattle.call_fs.specs.declared.past.GotData.TheVariants as came
use Rattle.send_log.specs.Lines.{bounced, triple_bounce}
use Rattle.bounce_record.specs.declared.return_row.ReturnRow.{ReturnRow}
use Rattle.bounce_record.specs.declared.return_row.ReturnRow.TheVariants as at

abbrev pub discarded : ℕ → Answer → List ℕ
discarded n answer.Done = triple_bounce n
discarded n told = []

-- the injector of a bounce ended with 0, or the bounce file of a double bounce that came back was unlinked
abbrev pub return_lines : ReturnRow → ℕ → GotData → List ℕ
return_lines (at.Await pid) n (came.Ended status) = if status == 0 then bounced n pid else []
return_lines at.Discard n (came.Answered told) = discarded n told.answer
return_lines row n got = []

-- room for a line is taken then
abbrev pub lines_take_memory : ReturnRow → Bool
lines_take_memory (at.Await pid) = true
lines_take_memory at.Discard = true
lines_take_memory row = false
