-- The lines of the sender's log that speak of preprocessing (qmail-log(5)).
use Rattle.std.specs.Prelude.{ℕ, ◌+◌, List, [], ◌++◌, length}
use Rattle.send_log.specs.declared.lines.TheConstants.{LINE_ROOM}
use Rattle.send_log.specs.Lines.{new_message, message_info, left as left_message}
use Rattle.todo_pass.specs.declared.row.Row.{Row}
use Rattle.todo_pass.specs.declared.row.Row.TheVariants as todo
use Rattle.todo_pass.specs.Table.{Pass}

-- a pass was left
abbrev pub left_lines : Row → Pass → List ℕ
left_lines (todo.Left why) p = left_message p.n
left_lines row p = []

-- a pass was done
abbrev pub queued_lines : Pass → List ℕ
queued_lines p = new_message p.n ++ message_info p.n p.size p.sorted.sender p.sorted.pid p.sorted.uid

-- how much room those take at most
abbrev pub queued_room : Pass → ℕ
queued_room p = LINE_ROOM + LINE_ROOM + length p.sorted.sender
