-- The finish of a message whose channel files are gone: where its steps lead from the unlink of its info file on.
use Rattle.send_parts.specs.declared.reply.Way.{Way}
use Rattle.send_parts.specs.declared.reply.Way.TheVariants as way
use Rattle.send_parts.specs.declared.rows.FinishRow.{FinishRow}
use Rattle.send_parts.specs.declared.rows.FinishRow.TheVariants as finish

abbrev pub info_gone : Way → FinishRow
info_gone way.Fine = finish.Give
info_gone w = finish.Later

-- then the cleaner removes the message file, and its number is forgotten, whatever the cleaner answers
abbrev pub remove_given : Way → FinishRow
remove_given way.Fine = finish.Take
remove_given w = finish.Lost

abbrev pub removed : Way → FinishRow
removed way.Fine = finish.Over
removed w = finish.Lost

-- where a step leads that came out so; where the open of the bounce file and the return lead is told by the return
abbrev pub finish_to : FinishRow → Way → FinishRow
finish_to finish.UnlinkInfo w = info_gone w
finish_to finish.Give w = remove_given w
finish_to finish.Take w = removed w
finish_to row w = row
