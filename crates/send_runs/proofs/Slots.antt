-- What each row but a taking, a giving of a request and a spawner's first byte leaves of the slots: all that is in flight, and how many
-- deliveries were begun.
use Rattle.std.proofs.Common.{◌≡◌, ℕ, ◌-◌, List, [], ◌∷◌, length, nat_lt, Bool, true, false, Option, Some, None}
use Rattle.std.specs.Prelude.{◌||◌, ◌&&◌, if◌then◌else◌, is_some}
use Rattle.address_rules.specs.Files.{place}
use Rattle.bounce_record.specs.declared.note_row.NoteRow.{NoteRow}
use Rattle.bounce_record.specs.declared.note_row.NoteRow.TheVariants as written
use Rattle.bounce_record.specs.Returning.{return_begun}
use Rattle.bounce_record.specs.Writing.{moved as note_moved}
use Rattle.call_fs.specs.declared.calls.Fd.{Fd}
use Rattle.call_fs.specs.declared.past.GotData.{GotData}
use Rattle.envelope_records.specs.declared.channel.Record.{Record}
use Rattle.mail_bytes.specs.Decimal.{digits}
use Rattle.send_core.specs.declared.desk.Desk.{Desk}
use Rattle.send_parts.specs.declared.row.MarkRow.{MarkRow}
use Rattle.send_parts.specs.declared.row.MarkRow.TheVariants as mark
use Rattle.send_parts.specs.declared.row.Marked.{Marked}
use Rattle.send_parts.specs.declared.row.Point.{Point}
use Rattle.send_parts.specs.declared.row.Point.TheVariants as point
use Rattle.send_parts.specs.declared.row.Row.{Row}
use Rattle.send_parts.specs.declared.row.Row.TheVariants as at
use Rattle.send_core.specs.Desk.{closed_by, deferred, due_again, failure_in, goes, has_begun, is_final, is_free_for, later, next_idle, past_finish, past_todo, retried, retried_if, retry_of, settle, stands_at, sweep_due, turn_counted, turn_over, waits}
use Rattle.send_core.specs.Finish.{act_finish, bounce_on, finish_at, forgot, looked_up, put_off_to, returned_to, sweep_at, sweep_begun}
use Rattle.send_core.specs.Start.{started}
use Rattle.send_core.specs.Table.{act, begun}
use Rattle.send_core.specs.Turn.{act_mark, begin_note, file_read, is_done, known_of, mark_opened, mark_over, noted, noted_at, pass_opened, put_later, todo_found, todo_named, todo_none, todo_on, todo_over, todo_went, unlinked, begun_at}
use Rattle.send_jobs.specs.declared.attempts.Attempt.{Attempt}
use Rattle.send_known.specs.declared.channel.Channel.{Channel}
use Rattle.send_known.specs.declared.channel.Channel.TheVariants.{Local, Remote}
use Rattle.send_jobs.specs.declared.jobs.Job.{Job}
use Rattle.send_jobs.specs.declared.slots.Slots.{Slots}
use Rattle.send_jobs.specs.Lanes.{job_over, left_unmarked, mark_settled}
use Rattle.send_jobs.specs.Sending.{at_lane, lane}
use Rattle.send_known.specs.Messages.{learned}
use Rattle.send_parts.specs.declared.reading.Progress.{Progress}
use Rattle.send_parts.specs.declared.reading.Progress.TheVariants.{Goes, Whole, Missing, Failed}
use Rattle.send_parts.specs.declared.reading.Reading.{Reading}
use Rattle.send_parts.specs.declared.reply.Way.{Way}
use Rattle.send_parts.specs.declared.reply.Way.TheVariants as way
use Rattle.send_parts.specs.declared.rows.FinishRow.{FinishRow}
use Rattle.send_parts.specs.declared.rows.FinishRow.TheVariants as finish
use Rattle.send_parts.specs.declared.rows.Search.{Search}
use Rattle.send_parts.specs.declared.rows.StartRow.{StartRow}
use Rattle.send_parts.specs.declared.rows.StartRow.TheVariants as start
use Rattle.send_parts.specs.declared.rows.SweepRow.{SweepRow}
use Rattle.send_parts.specs.declared.rows.SweepRow.TheVariants as sweep
use Rattle.send_links.specs.Records.{records_of}
use Rattle.send_parts.specs.Files.{message_number}
use Rattle.send_parts.specs.Finish.{finish_to}
use Rattle.send_parts.specs.Readings.{read_on}
use Rattle.send_parts.specs.Replies.{Said, said}
use Rattle.send_parts.specs.Rows.{is_again}
use Rattle.send_parts.specs.Sweep.{sweep_to}
use Rattle.spawn_protocol.specs.declared.report.Report.{Report}
use Rattle.spawn_protocol.specs.Report.{counted}
use Rattle.todo_pass.specs.declared.row.Row.{Row as PassRow}
use Rattle.todo_pass.specs.declared.row.Row.TheVariants as todo
use Rattle.todo_pass.specs.Table.{Pass, answer_row, moved as pass_moved}

-- no spawner's first byte comes there; and it takes nothing from a spawner, and gives none a request
abbrev pub IsPlainStart : StartRow → Type 0
IsPlainStart (start.GreetRemote limit) = ⊥
IsPlainStart row = Unit {0}

abbrev pub IsPlain : Row → Type 0
IsPlain (at.Start row) = IsPlainStart row
IsPlain (at.TakeLink c) = ⊥
IsPlain (at.Request c) = ⊥
IsPlain row = Unit {0}

-- the same is in flight, and as many were begun
abbrev pub Same : Slots → Slots → Type 0
Same s t = (t.given ≡ s.given) × (t.local.slots ≡ s.local.slots) × (t.remote.slots ≡ s.remote.slots)

module _ (s : Slots) where
  abbrev pub Of : Desk → Type 0
  Of d = Same s d.slots

  of_if : (b : Bool) (x y : Desk) → Of x → Of y → Of (if b then x else y)
  of_if true x y p q = p
  of_if false x y p q = q

  of_again : (c : Channel) (n due : ℕ) (d : Desk) → Of d → Of (due_again c n due d)
  of_again Local n due d h = h
  of_again Remote n due d h = h

  of_retried : (o : Option Job) (c : Channel) (n : ℕ) (d : Desk) → Of d → Of (retried_if o c n d)
  of_retried None c n d h = h
  of_retried (Some job) c n d h = of_again c n (retry_of c n job.begun d) d h

  of_deferred : (c : Channel) (n : ℕ) (d : Desk) → Of d → Of (deferred c n d)
  of_deferred Local n d h = let after : Desk = record d { slots = at_lane Local (left_unmarked n) d.slots } in of_retried (job_over n (lane Local after.slots)) Local n after h
  of_deferred Remote n d h = let after : Desk = record d { slots = at_lane Remote (left_unmarked n) d.slots } in of_retried (job_over n (lane Remote after.slots)) Remote n after h

  pub of_settle : (r : Report) (c : Channel) (a : Attempt) (d : Desk) → Of d → Of (settle r c a d)
  of_settle r Local a d h = of_if (is_final (counted r.letter) a.dying && nat_lt (length (lane Local d.slots).marks) 120) (waits Local a (failure_in r) d) (deferred Local a.n d) h (of_deferred Local a.n d h)
  of_settle r Remote a d h = of_if (is_final (counted r.letter) a.dying && nat_lt (length (lane Remote d.slots).marks) 120) (waits Remote a (failure_in r) d) (deferred Remote a.n d) h (of_deferred Remote a.n d h)

  -- marks and unlinks

  of_closed : (o : Option Job) (c : Channel) (n : ℕ) (p : Point) (d : Desk) → Of d → Of (closed_by o c n p d)
  of_closed None c n p d h = h
  of_closed (Some job) c n p d h = of_if job.unmarked (retried c n job.begun (stands_at d p)) (goes d (at.UnlinkFile c n p))
      (of_again c n (retry_of c n job.begun (stands_at d p)) (stands_at d p) h) h

  of_marked : (b : Bool) (c : Channel) (n place : ℕ) (d : Desk) → Of d → Of (mark_over b (record { channel = c; n = n; place = place }) d)
  of_marked true Local n place d h = let after : Desk = record d { slots = at_lane Local mark_settled d.slots } in of_closed (job_over n (lane Local after.slots)) Local n point.Reports after h
  of_marked true Remote n place d h = let after : Desk = record d { slots = at_lane Remote mark_settled d.slots } in of_closed (job_over n (lane Remote after.slots)) Remote n point.Reports after h
  of_marked false Local n place d h =
      let after : Desk = record d { slots = at_lane Local (left_unmarked n) (at_lane Local mark_settled d.slots) } in of_closed (job_over n (lane Local after.slots)) Local n point.Reports after h
  of_marked false Remote n place d h =
      let after : Desk = record d { slots = at_lane Remote (left_unmarked n) (at_lane Remote mark_settled d.slots) } in of_closed (job_over n (lane Remote after.slots)) Remote n point.Reports after h

  of_opened : (w : Way) (m : Marked) (fd : Fd) (d : Desk) → Of d → Of (mark_opened w m fd d)
  of_opened way.Fine m fd d h = h
  of_opened way.Over m fd d h = of_marked false m.channel m.n m.place d h
  of_opened way.Absent m fd d h = of_marked false m.channel m.n m.place d h
  of_opened way.NoMemory m fd d h = of_marked false m.channel m.n m.place d h
  of_opened way.Broken m fd d h = of_marked false m.channel m.n m.place d h

  of_noted : (row : NoteRow) (m : Marked) (d : Desk) → Of d → Of (noted_at row m d)
  of_noted written.Written m d h = h
  of_noted written.Failed m d h = of_marked false m.channel m.n m.place d h
  of_noted row m d h = h

  of_note : (m : Marked) (got : GotData) (d : Desk) → Of d → Of (noted m got d)
  of_note m got d h = of_noted (note_moved d.note got).row m (record d { note = note_moved d.note got }) h

  of_mark : (row : MarkRow) (m : Marked) (got : GotData) (d : Desk) → Of d → Of (act_mark row m got d)
  of_mark mark.Note m got d h = of_note m got (begin_note m d) h
  of_mark mark.Noting m got d h = of_note m got d h
  of_mark mark.Open m got d h = of_opened (said got).way m (said got).fd d h
  of_mark (mark.Write fd) m got d h = h
  of_mark (mark.Close fd done) m got d h = of_marked done m.channel m.n m.place d h

  of_unlinked : (w : Way) (c : Channel) (n : ℕ) (p : Point) (now : ℕ) (d : Desk) → Of d → Of (unlinked w c n p now d)
  of_unlinked way.Fine Local n p now d h = h
  of_unlinked way.Fine Remote n p now d h = h
  of_unlinked way.Over c n p now d h = of_again c n (later now) (stands_at d p) h
  of_unlinked way.Absent c n p now d h = of_again c n (later now) (stands_at d p) h
  of_unlinked way.NoMemory c n p now d h = of_again c n (later now) (stands_at d p) h
  of_unlinked way.Broken c n p now d h = of_again c n (later now) (stands_at d p) h

  -- passes

  of_later : (c : Channel) (n now : ℕ) (d : Desk) → Of d → Of (put_later c n now d)
  of_later c n now d h = of_again c n (later now) (stands_at d (point.Pass c false)) h

  of_begun : (c : Channel) (n begun : ℕ) (records : List Record) (d : Desk) → Of d → Of (has_begun c n begun records d)
  of_begun Local n begun records d h = h
  of_begun Remote n begun records d h = h

  of_pass : (o : Option (List Record)) (c : Channel) (n begun now : ℕ) (d : Desk) → Of d → Of (pass_opened o c n begun now d)
  of_pass None c n begun now d h = of_later c n now d h
  of_pass (Some records) c n begun now d h =
      let after : Desk = has_begun c n begun records d in
      of_if (is_free_for n (lane c d.slots)) (closed_by (job_over n (lane c after.slots)) c n (point.Pass c false) after) (put_later c n now d)
      (of_closed (job_over n (lane c after.slots)) c n (point.Pass c false) after (of_begun c n begun records d h)) (of_later c n now d h)

  of_file : (x : Progress) (c : Channel) (n begun : ℕ) (g : Reading) (now : ℕ) (s : Said) (d : Desk) → Of d → Of (file_read x c n begun g now s d)
  of_file (Goes more) c n begun g now s d h = h
  of_file Whole c n begun g now s d h = of_pass (records_of d.book.read) c n begun now d h
  of_file Missing c n begun g now s d h = of_later c n now d h
  of_file Failed c n begun g now s d h = of_later c n now d h

  -- the end of a turn

  of_counted : (turns : Option ℕ) (d : Desk) → Of d → Of (turn_counted turns d)
  of_counted None d h = h
  of_counted (Some k) d h = of_if (nat_lt 1 k) (record d { turns = Some (k - 1); row = at.Turn point.TakeLocal }) (record d { turns = Some 0; row = at.Ended 0 }) h h

  of_over : (d : Desk) → Of d → Of (turn_over d)
  of_over d h = of_counted d.turns (record d { busy = false }) h

  of_past_finish : (now : ℕ) (d : Desk) → Of d → Of (past_finish now d)
  of_past_finish now d h = of_if (sweep_due now d.swept) (stands_at d point.Sweep) (turn_over d) h (of_over d h)

  of_past_todo : (now : ℕ) (d : Desk) → Of d → Of (past_todo now d)
  of_past_todo now d h = of_if (is_some (next_idle now d) || sweep_due now d.swept) (stands_at d point.Finish) (turn_over d) h (of_over d h)

  -- the start

  of_start : (row : StartRow) (x : Said) (d : Desk) → IsPlainStart row → Of d → Of (started row x d)
  of_start (start.GreetRemote limit) x d plain h = absurd plain
  of_start row x d plain h = h

  -- preprocessing

  of_none : (again : Bool) (last : List ℕ) (now : ℕ) (d : Desk) → Of d → Of (todo_none again last now d)
  of_none false (b ∷ bs) now d h = h
  of_none false [] now d h = of_past_todo now d h
  of_none true last now d h = of_past_todo now d h

  of_found : (o : Option ℕ) (text : List ℕ) (search : Search) (d : Desk) → Of d → Of (todo_found o text search d)
  of_found None text search d h = h
  of_found (Some n) text search d h = h

  of_named : (w : Way) (text : List ℕ) (search : Search) (now : ℕ) (d : Desk) → Of d → Of (todo_named w text search now d)
  of_named way.Fine text search now d h = of_found (message_number text) text search d h
  of_named way.Over text search now d h = of_none (is_again search) d.last_left now d h
  of_named way.Absent text search now d h = of_none (is_again search) d.last_left now d h
  of_named way.NoMemory text search now d h = of_none (is_again search) d.last_left now d h
  of_named way.Broken text search now d h = of_none (is_again search) d.last_left now d h

  of_on : (row : PassRow) (p : Pass) (now : ℕ) (d : Desk) → Of d → Of (todo_on row p now d)
  of_on (todo.Left why) p now d h = of_past_todo now (record d { pass = p; last_left = digits p.n }) h
  of_on todo.Lost p now d h = h
  of_on row p now d h = h

  of_over_pass : (row : PassRow) (p : Pass) (now : ℕ) (d : Desk) → Of d → Of (todo_over row p now d)
  of_over_pass row p now d h =
      let learnt : Desk = record d { pass = p; book = record d.book { messages = learned (known_of p) now d.book.messages } } in
      of_if (is_done row) (past_todo now learnt) (todo_on row p now d) (of_past_todo now learnt h) (of_on row p now d h)

  of_went : (row : PassRow) (came : GotData) (p : Pass) (now : ℕ) (d : Desk) → Of d → Of (todo_went row came p now d)
  of_went todo.Answer came p now d h = of_over_pass (answer_row came) p now d h
  of_went row came p now d h = of_on p.row p now d h

  -- finish and sweep

  of_finish_at : (row : FinishRow) (n now : ℕ) (d : Desk) → Of d → Of (finish_at row n now d)
  of_finish_at finish.Later n now d h = of_past_finish now (put_off_to n (later now) d) h
  of_finish_at finish.Over n now d h = of_past_finish now (forgot n d) h
  of_finish_at finish.Lost n now d h = h
  of_finish_at row n now d h = h

  of_finish : (row : FinishRow) (n now : ℕ) (got : GotData) (d : Desk) → Of d → Of (act_finish row n now got d)
  of_finish finish.OpenBounce n now got d h =
      let it = bounce_on n now got (return_begun n) d.book in of_finish_at (returned_to it.row) n now (record d { bounce = it; busy = true }) h
  of_finish finish.Return n now got d h = let it = bounce_on n now got d.bounce d.book in of_finish_at (returned_to it.row) n now (record d { bounce = it }) h
  of_finish row n now got d h = of_finish_at (finish_to row (said got).way) n now d h

  of_swept : (row : SweepRow) (d : Desk) → Of d → Of (sweep_at row d)
  of_swept sweep.Over d h = of_over d h
  of_swept sweep.Lost d h = h
  of_swept row d h = h

  of_begun_sweep : (row : SweepRow) (now : ℕ) (d : Desk) → Of d → Of (sweep_begun row now d)
  of_begun_sweep sweep.First now d h = h
  of_begun_sweep row now d h = h

  of_looked : (row : SweepRow) (x : Said) (now : ℕ) (d : Desk) → Of d → Of (looked_up row x (sweep_begun row now d))
  of_looked row x now d h = of_begun_sweep row now d h

  -- each row

  pub of_row : (row : Row) (now : ℕ) (got : GotData) (d : Desk) → IsPlain row → Of d → Of (act row now got d)
  of_row (at.Start row) now got d plain h = of_start row (said got) d plain h
  of_row (at.Turn p) now got d plain h = h
  of_row (at.TakeLink c) now got d plain h = absurd plain
  of_row (at.Mark row m) now got d plain h = of_mark row m got d h
  of_row (at.UnlinkFile c n p) now got d plain h = of_unlinked (said got).way c n p now d h
  of_row (at.ReadFile c n begun reading) now got d plain h = of_file (read_on reading (said got)) c n (begun_at reading begun now) reading now (said got) d h
  of_row (at.Request c) now got d plain h = absurd plain
  of_row (at.FindTodo search) now got d plain h = of_named (said got).way (said got).bytes search now d h
  of_row at.InTodo now got d plain h = of_went d.pass.row got (pass_moved d.book.controls d.pass now got) now d h
  of_row (at.Finish row n) now got d plain h = of_finish row n now got d h
  of_row (at.Sweep row) now got d plain h = of_swept (sweep_to row now (said got) d.book) (looked_up row (said got) (sweep_begun row now d)) (of_looked row (said got) now d h)
  of_row (at.Ended status) now got d plain h = h
