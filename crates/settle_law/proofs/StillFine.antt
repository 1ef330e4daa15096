-- Rows that leave the channels as they are lead to no mark.
use Rattle.std.proofs.Common.{ℕ, ◌-◌, List, [], ◌∷◌, nat_lt, Bool, true, false, Option, Some, None}
use Rattle.std.specs.Prelude.{◌||◌, if◌then◌else◌, is_some}
use Rattle.bounce_record.specs.Returning.{return_begun}
use Rattle.call_fs.specs.declared.past.GotData.{GotData}
use Rattle.mail_bytes.specs.Decimal.{digits}
use Rattle.send_core.specs.declared.desk.Desk.{Desk}
use Rattle.send_parts.specs.declared.row.Point.TheVariants as point
use Rattle.send_parts.specs.declared.row.Row.{Row}
use Rattle.send_parts.specs.declared.row.Row.TheVariants as at
use Rattle.send_core.specs.Desk.{later, next_idle, past_finish, past_todo, stands_at, sweep_due, turn_counted, turn_over}
use Rattle.send_core.specs.Finish.{act_finish, bounce_on, finish_at, forgot, looked_up, put_off_to, returned_to, sweep_at, sweep_begun}
use Rattle.send_core.specs.Start.{start_at, started}
use Rattle.send_core.specs.Table.{act}
use Rattle.send_core.specs.Turn.{is_done, known_of, todo_found, todo_named, todo_none, todo_on, todo_over, todo_went}
use Rattle.send_known.specs.Messages.{learned}
use Rattle.send_parts.specs.declared.reply.Way.{Way}
use Rattle.send_parts.specs.declared.reply.Way.TheVariants as way
use Rattle.send_parts.specs.declared.rows.FinishRow.{FinishRow}
use Rattle.send_parts.specs.declared.rows.FinishRow.TheVariants as finish
use Rattle.send_parts.specs.declared.rows.Search.{Search}
use Rattle.send_parts.specs.declared.rows.StartRow.{StartRow}
use Rattle.send_parts.specs.declared.rows.StartRow.TheVariants as start
use Rattle.send_parts.specs.declared.rows.SweepRow.{SweepRow}
use Rattle.send_parts.specs.declared.rows.SweepRow.TheVariants as sweep
use Rattle.send_parts.specs.Files.{message_number}
use Rattle.send_parts.specs.Finish.{finish_to}
use Rattle.send_parts.specs.Replies.{said}
use Rattle.send_parts.specs.Rows.{is_again}
use Rattle.send_parts.specs.Sweep.{sweep_to}
use Rattle.todo_pass.specs.declared.row.Row.{Row as PassRow}
use Rattle.todo_pass.specs.declared.row.Row.TheVariants as todo
use Rattle.todo_pass.specs.Table.{Pass, answer_row, moved as pass_moved}

abbrev pub IsUnmarked : Row → Type 0
IsUnmarked (at.Mark row m) = ⊥
IsUnmarked row = Unit {0}

abbrev Led : Desk → Type 0
Led d = IsUnmarked d.row

led_if : (b : Bool) (x y : Desk) → Led x → Led y → Led (if b then x else y)
led_if true x y p q = p
led_if false x y p q = q

led_counted : (turns : Option ℕ) (d : Desk) → Led (turn_counted turns d)
led_counted None d = tt
led_counted (Some k) d = led_if (nat_lt 1 k) (record d { turns = Some (k - 1); row = at.Turn point.TakeLocal }) (record d { turns = Some 0; row = at.Ended 0 }) tt tt

led_over : (d : Desk) → Led (turn_over d)
led_over d = led_counted d.turns (record d { busy = false })

led_past_finish : (now : ℕ) (d : Desk) → Led (past_finish now d)
led_past_finish now d = led_if (sweep_due now d.swept) (stands_at d point.Sweep) (turn_over d) tt (led_over d)

led_past_todo : (now : ℕ) (d : Desk) → Led (past_todo now d)
led_past_todo now d = led_if (is_some (next_idle now d) || sweep_due now d.swept) (stands_at d point.Finish) (turn_over d) tt (led_over d)

led_start : (row : StartRow) → IsUnmarked (start_at row)
led_start start.Over = tt
led_start (start.Ended status) = tt
led_start row = tt

-- preprocessing

led_none : (again : Bool) (last : List ℕ) (now : ℕ) (d : Desk) → Led (todo_none again last now d)
led_none false (b ∷ bs) now d = tt
led_none false [] now d = led_past_todo now d
led_none true last now d = led_past_todo now d

led_found : (o : Option ℕ) (text : List ℕ) (search : Search) (d : Desk) → Led (todo_found o text search d)
led_found None text search d = tt
led_found (Some n) text search d = tt

led_named : (w : Way) (text : List ℕ) (search : Search) (now : ℕ) (d : Desk) → Led (todo_named w text search now d)
led_named way.Fine text search now d = led_found (message_number text) text search d
led_named way.Over text search now d = led_none (is_again search) d.last_left now d
led_named way.Absent text search now d = led_none (is_again search) d.last_left now d
led_named way.NoMemory text search now d = led_none (is_again search) d.last_left now d
led_named way.Broken text search now d = led_none (is_again search) d.last_left now d

led_on : (row : PassRow) (p : Pass) (now : ℕ) (d : Desk) → Led (todo_on row p now d)
led_on (todo.Left why) p now d = led_past_todo now (record d { pass = p; last_left = digits p.n })
led_on todo.Lost p now d = tt
led_on row p now d = tt

led_over_pass : (row : PassRow) (p : Pass) (now : ℕ) (d : Desk) → Led (todo_over row p now d)
led_over_pass row p now d =
    let learnt : Desk = record d { pass = p; book = record d.book { messages = learned (known_of p) now d.book.messages } } in
    led_if (is_done row) (past_todo now learnt) (todo_on row p now d) (led_past_todo now learnt) (led_on row p now d)

led_went : (row : PassRow) (came : GotData) (p : Pass) (now : ℕ) (d : Desk) → Led (todo_went row came p now d)
led_went todo.Answer came p now d = led_over_pass (answer_row came) p now d
led_went row came p now d = led_on p.row p now d

-- finish and sweep

led_finish_at : (row : FinishRow) (n now : ℕ) (d : Desk) → Led (finish_at row n now d)
led_finish_at finish.Later n now d = led_past_finish now (put_off_to n (later now) d)
led_finish_at finish.Over n now d = led_past_finish now (forgot n d)
led_finish_at finish.Lost n now d = tt
led_finish_at row n now d = tt

led_finish : (row : FinishRow) (n now : ℕ) (got : GotData) (d : Desk) → Led (act_finish row n now got d)
led_finish finish.OpenBounce n now got d =
    let it = bounce_on n now got (return_begun n) d.book in led_finish_at (returned_to it.row) n now (record d { bounce = it; busy = true })
led_finish finish.Return n now got d = let it = bounce_on n now got d.bounce d.book in led_finish_at (returned_to it.row) n now (record d { bounce = it })
led_finish row n now got d = led_finish_at (finish_to row (said got).way) n now d

led_swept : (row : SweepRow) (d : Desk) → Led (sweep_at row d)
led_swept sweep.Over d = led_over d
led_swept sweep.Lost d = tt
led_swept row d = tt

-- a row of the start, the search of `todo`, a todo pass, a finish or a sweep
abbrev pub IsAside : Row → Type 0
IsAside (at.Start row) = Unit {0}
IsAside (at.FindTodo search) = Unit {0}
IsAside at.InTodo = Unit {0}
IsAside (at.Finish row n) = Unit {0}
IsAside (at.Sweep row) = Unit {0}
IsAside row = ⊥

pub led_aside : (row : Row) (now : ℕ) (got : GotData) (d : Desk) → IsAside row → IsUnmarked (act row now got d).row
led_aside (at.Start row) now got d aside = led_start (started row (said got) d).book.row
led_aside (at.FindTodo search) now got d aside = led_named (said got).way (said got).bytes search now d
led_aside at.InTodo now got d aside = led_went d.pass.row got (pass_moved d.book.controls d.pass now got) now d
led_aside (at.Finish row n) now got d aside = led_finish row n now got d
led_aside (at.Sweep row) now got d aside = led_swept (sweep_to row now (said got) d.book) (looked_up row (said got) (sweep_begun row now d))
led_aside row now got d aside = absurd aside
