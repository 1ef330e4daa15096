-- Rows that leave the channels as they are, and lead to no step of a mark or an unlink.
use Rattle.std.proofs.Common.{◌≡◌, ℕ, ◌-◌, List, [], ◌∷◌, nat_lt, Bool, true, false, Option, Some, None}
use Rattle.std.specs.Prelude.{◌||◌, if◌then◌else◌, is_some}
use Rattle.bounce_record.specs.Returning.{return_begun}
use Rattle.call_fs.specs.declared.past.GotData.{GotData}
use Rattle.mail_bytes.specs.Decimal.{digits}
use Rattle.send_core.specs.declared.desk.Desk.{Desk}
use Rattle.send_parts.specs.declared.row.MarkRow.TheVariants as mark
use Rattle.send_parts.specs.declared.row.Point.TheVariants as point
use Rattle.send_parts.specs.declared.row.Row.{Row}
use Rattle.send_parts.specs.declared.row.Row.TheVariants as at
use Rattle.send_core.specs.Desk.{later, next_idle, past_finish, past_todo, stands_at, sweep_due, turn_counted, turn_over}
use Rattle.send_core.specs.Finish.{act_finish, bounce_on, finish_at, forgot, looked_up, put_off_to, returned_to, sweep_at, sweep_begun}
use Rattle.send_core.specs.Start.{started, start_at}
use Rattle.send_core.specs.Table.{act}
use Rattle.send_core.specs.Turn.{is_done, known_of, todo_found, todo_named, todo_none, todo_on, todo_over, todo_went}
use Rattle.send_jobs.specs.declared.slots.Slots.{Slots}
use Rattle.send_known.specs.Messages.{learned}
use Rattle.send_parts.specs.declared.reply.Way.{Way}
use Rattle.send_parts.specs.declared.reply.Way.TheVariants as way
use Rattle.send_parts.specs.declared.rows.FinishRow.{FinishRow}
use Rattle.send_parts.specs.declared.rows.FinishRow.TheVariants as finish
use Rattle.send_parts.specs.declared.rows.Search.{Search}
use Rattle.send_parts.specs.declared.rows.StartRow.{StartRow}
use Rattle.send_parts.specs.declared.rows.StartRow.TheVariants as start
use Rattle.send_parts.specs.declared.rows.SweepRow.{SweepRow}
use Rattle.send_parts.specs.declared.rows.SweepRow.TheVariants as sweep
use Rattle.send_parts.specs.Files.{message_number}
use Rattle.send_parts.specs.Finish.{finish_to}
use Rattle.send_parts.specs.Replies.{Said, said}
use Rattle.send_parts.specs.Rows.{is_again}
use Rattle.send_parts.specs.Sweep.{sweep_to}
use Rattle.todo_pass.specs.declared.row.Row.{Row as PassRow}
use Rattle.todo_pass.specs.declared.row.Row.TheVariants as todo
use Rattle.todo_pass.specs.Table.{Pass, answer_row, moved as pass_moved}
use Rattle.send_runs.proofs.Calm.{IsFresh}
use Rattle.send_runs.proofs.Slots.{IsPlainStart}

-- it isn't between the open of a file for a mark and the close of that, and unlinks no channel file
abbrev pub IsFree : Row → Type 0
IsFree (at.Mark mark.Note m) = Unit {0}
IsFree (at.Mark mark.Noting m) = Unit {0}
IsFree (at.Mark mark.Open m) = Unit {0}
IsFree (at.Mark row m) = ⊥
IsFree (at.UnlinkFile c n p) = ⊥
IsFree row = Unit {0}

pub fresh_free : (row : Row) → IsFresh row → IsFree row
fresh_free (at.Mark mark.Note m) is = tt
fresh_free (at.Mark mark.Open m) is = tt
fresh_free (at.Mark row m) is = absurd is
fresh_free (at.UnlinkFile c n p) is = absurd is
fresh_free row is = tt

module _ (s : Slots) where
  abbrev pub Kept : Desk → Type 0
  Kept d = (d.slots ≡ s) × IsFree d.row

  kept_if : (b : Bool) (x y : Desk) → Kept x → Kept y → Kept (if b then x else y)
  kept_if true x y p q = p
  kept_if false x y p q = q

  kept_counted : (turns : Option ℕ) (d : Desk) → d.slots ≡ s → Kept (turn_counted turns d)
  kept_counted None d e = (e, tt)
  kept_counted (Some k) d e = kept_if (nat_lt 1 k) (record d { turns = Some (k - 1); row = at.Turn point.TakeLocal }) (record d { turns = Some 0; row = at.Ended 0 }) (e, tt) (e, tt)

  kept_over : (d : Desk) → d.slots ≡ s → Kept (turn_over d)
  kept_over d e = kept_counted d.turns (record d { busy = false }) e

  kept_past_finish : (now : ℕ) (d : Desk) → d.slots ≡ s → Kept (past_finish now d)
  kept_past_finish now d e = kept_if (sweep_due now d.swept) (stands_at d point.Sweep) (turn_over d) (e, tt) (kept_over d e)

  kept_past_todo : (now : ℕ) (d : Desk) → d.slots ≡ s → Kept (past_todo now d)
  kept_past_todo now d e = kept_if (is_some (next_idle now d) || sweep_due now d.swept) (stands_at d point.Finish) (turn_over d) (e, tt) (kept_over d e)

  -- the start

  start_free : (row : StartRow) → IsFree (start_at row)
  start_free start.Over = tt
  start_free (start.Ended status) = tt
  start_free row = tt

  kept_start : (row : StartRow) (x : Said) (d : Desk) → IsPlainStart row → d.slots ≡ s → Kept (started row x d)
  kept_start (start.GreetRemote limit) x d plain e = absurd plain
  kept_start row x d plain e = (e, start_free (started row x d).book.row)

  -- preprocessing

  kept_none : (again : Bool) (last : List ℕ) (now : ℕ) (d : Desk) → d.slots ≡ s → Kept (todo_none again last now d)
  kept_none false (b ∷ bs) now d e = (e, tt)
  kept_none false [] now d e = kept_past_todo now d e
  kept_none true last now d e = kept_past_todo now d e

  kept_found : (o : Option ℕ) (text : List ℕ) (search : Search) (d : Desk) → d.slots ≡ s → Kept (todo_found o text search d)
  kept_found None text search d e = (e, tt)
  kept_found (Some n) text search d e = (e, tt)

  kept_named : (w : Way) (text : List ℕ) (search : Search) (now : ℕ) (d : Desk) → d.slots ≡ s → Kept (todo_named w text search now d)
  kept_named way.Fine text search now d e = kept_found (message_number text) text search d e
  kept_named way.Over text search now d e = kept_none (is_again search) d.last_left now d e
  kept_named way.Absent text search now d e = kept_none (is_again search) d.last_left now d e
  kept_named way.NoMemory text search now d e = kept_none (is_again search) d.last_left now d e
  kept_named way.Broken text search now d e = kept_none (is_again search) d.last_left now d e

  kept_on : (row : PassRow) (p : Pass) (now : ℕ) (d : Desk) → d.slots ≡ s → Kept (todo_on row p now d)
  kept_on (todo.Left why) p now d e = kept_past_todo now (record d { pass = p; last_left = digits p.n }) e
  kept_on todo.Lost p now d e = (e, tt)
  kept_on row p now d e = (e, tt)

  kept_over_pass : (row : PassRow) (p : Pass) (now : ℕ) (d : Desk) → d.slots ≡ s → Kept (todo_over row p now d)
  kept_over_pass row p now d e =
      let learnt : Desk = record d { pass = p; book = record d.book { messages = learned (known_of p) now d.book.messages } } in
      kept_if (is_done row) (past_todo now learnt) (todo_on row p now d) (kept_past_todo now learnt e) (kept_on row p now d e)

  kept_went : (row : PassRow) (came : GotData) (p : Pass) (now : ℕ) (d : Desk) → d.slots ≡ s → Kept (todo_went row came p now d)
  kept_went todo.Answer came p now d e = kept_over_pass (answer_row came) p now d e
  kept_went row came p now d e = kept_on p.row p now d e

  -- finish and sweep

  kept_finish_at : (row : FinishRow) (n now : ℕ) (d : Desk) → d.slots ≡ s → Kept (finish_at row n now d)
  kept_finish_at finish.Later n now d e = kept_past_finish now (put_off_to n (later now) d) e
  kept_finish_at finish.Over n now d e = kept_past_finish now (forgot n d) e
  kept_finish_at finish.Lost n now d e = (e, tt)
  kept_finish_at row n now d e = (e, tt)

  kept_finish : (row : FinishRow) (n now : ℕ) (got : GotData) (d : Desk) → d.slots ≡ s → Kept (act_finish row n now got d)
  kept_finish finish.OpenBounce n now got d e =
      let it = bounce_on n now got (return_begun n) d.book in kept_finish_at (returned_to it.row) n now (record d { bounce = it; busy = true }) e
  kept_finish finish.Return n now got d e = let it = bounce_on n now got d.bounce d.book in kept_finish_at (returned_to it.row) n now (record d { bounce = it }) e
  kept_finish row n now got d e = kept_finish_at (finish_to row (said got).way) n now d e

  kept_swept : (row : SweepRow) (d : Desk) → d.slots ≡ s → Kept (sweep_at row d)
  kept_swept sweep.Over d e = kept_over d e
  kept_swept sweep.Lost d e = (e, tt)
  kept_swept row d e = (e, tt)

  kept_begun_sweep : (row : SweepRow) (now : ℕ) (d : Desk) → d.slots ≡ s → (sweep_begun row now d).slots ≡ s
  kept_begun_sweep sweep.First now d e = e
  kept_begun_sweep row now d e = e

  -- those rows

  abbrev pub IsStill : Row → Type 0
  IsStill (at.Start row) = IsPlainStart row
  IsStill (at.FindTodo search) = Unit {0}
  IsStill at.InTodo = Unit {0}
  IsStill (at.Finish row n) = Unit {0}
  IsStill (at.Sweep row) = Unit {0}
  IsStill row = ⊥

  pub kept_row : (row : Row) (now : ℕ) (got : GotData) (d : Desk) → IsStill row → d.slots ≡ s → Kept (act row now got d)
  kept_row (at.Start row) now got d still e = kept_start row (said got) d still e
  kept_row (at.FindTodo search) now got d still e = kept_named (said got).way (said got).bytes search now d e
  kept_row at.InTodo now got d still e = kept_went d.pass.row got (pass_moved d.book.controls d.pass now got) now d e
  kept_row (at.Finish row n) now got d still e = kept_finish row n now got d e
  kept_row (at.Sweep row) now got d still e = kept_swept (sweep_to row now (said got) d.book) (looked_up row (said got) (sweep_begun row now d)) (kept_begun_sweep row now d e)
  kept_row row now got d still e = absurd still
