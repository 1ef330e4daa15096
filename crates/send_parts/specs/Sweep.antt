-- The sweep: of each message file that isn't known and that at the moment of its stat was last written more than 36 hours ago it
-- has the cleaner remove the message, if it has neither a todo file nor an info file. todo is looked at first, since a pass makes info
-- before it takes todo away. A name that is no number is passed over, and a number at a failure.
use Rattle.std.specs.Prelude.{ℕ, ◌+◌, List, [], take, Bool, true, false, Option, Some, None, if◌then◌else◌, nat_le, nat_lt}
use Rattle.queue_limits.specs.declared.times.TheConstants.{PID_NAME_AGE}
use Rattle.send_known.specs.declared.known.Known.{Known}
use Rattle.send_known.specs.Known.{is_known}
use Rattle.send_parts.specs.declared.book.Book.{Book}
use Rattle.send_parts.specs.declared.reply.Way.{Way}
use Rattle.send_parts.specs.declared.reply.Way.TheVariants as way
use Rattle.send_parts.specs.declared.rows.SweepRow.{SweepRow}
use Rattle.send_parts.specs.declared.rows.SweepRow.TheVariants as sweep
use Rattle.send_parts.specs.Files.{message_number}
use Rattle.send_parts.specs.Replies.{Said}

-- it is made in the first turn, and then 76431 seconds after the last one
abbrev pub sweep_due : ℕ → Option ℕ → Bool
sweep_due now None = true
sweep_due now (Some last) = nat_le (last + 76431) now

abbrev pub sweep_row : Option ℕ → ℕ → List Known → SweepRow
sweep_row None split known = sweep.Next split
sweep_row (Some n) split known = if is_known n known then sweep.Next split else sweep.StatMess split n

-- where a search of this directory leads: from the last one out of the sweep
abbrev pub swept : Way → List ℕ → ℕ → Book → SweepRow
swept way.Fine text split b = sweep_row (message_number text) split b.messages.known
swept w text split b = if nat_lt split 22 then sweep.Next (split + 1) else sweep.Over

-- A message file that was last written more than 36 hours before its stat is looked at closer. The moment of the stat itself
-- decides: by a later one the number may have another message.
abbrev pub mess_stated : Way → ℕ → ℕ → ℕ → ℕ → SweepRow
mess_stated way.Fine split n moment now = if nat_lt (moment + PID_NAME_AGE) now then sweep.StatTodo split n else sweep.Next split
mess_stated w split n moment now = sweep.Next split

-- both stats are made, but after one that failed the number is passed over
abbrev pub todo_stated : Way → ℕ → ℕ → SweepRow
todo_stated way.Fine split n = sweep.StatInfo split n true
todo_stated way.Absent split n = sweep.StatInfo split n false
todo_stated w split n = sweep.Next split

abbrev pub info_stated : Way → ℕ → ℕ → Bool → SweepRow
info_stated way.Absent split n false = sweep.Give split n
info_stated w split n todo = sweep.Next split

abbrev pub sweep_given : Way → ℕ → ℕ → SweepRow
sweep_given way.Fine split n = sweep.Take split n
sweep_given w split n = sweep.Lost

abbrev pub sweep_taken : Way → ℕ → SweepRow
sweep_taken way.Fine split = sweep.Next split
sweep_taken w split = sweep.Lost

-- where a step at this moment leads
abbrev pub sweep_to : SweepRow → ℕ → Said → Book → SweepRow
sweep_to sweep.First now s b = swept s.way s.bytes 0 b
sweep_to (sweep.Next split) now s b = swept s.way s.bytes split b
sweep_to (sweep.StatMess split n) now s b = mess_stated s.way split n s.stat.moment now
sweep_to (sweep.StatTodo split n) now s b = todo_stated s.way split n
sweep_to (sweep.StatInfo split n todo) now s b = info_stated s.way split n todo
sweep_to (sweep.Give split n) now s b = sweep_given s.way split n
sweep_to (sweep.Take split n) now s b = sweep_taken s.way split
sweep_to row now s b = row

-- a search goes on after the name that was found, and begins anew in the next directory
abbrev pub named : Way → List ℕ → Book → Book
named way.Fine text b = record b { after = take 255 text }
named w text b = record b { after = [] }

abbrev pub searched : SweepRow → Said → Book → Book
searched sweep.First s b = named s.way s.bytes b
searched (sweep.Next split) s b = named s.way s.bytes b
searched row s b = b
