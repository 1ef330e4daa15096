-- The calls of a sender use what it holds open.
use Rattle.std.proofs.Common.{◌≡◌, ℕ, ◌-◌, List, [], ◌∷◌, length, drop, codes, lit≤, Bool, true, false, if◌then◌else◌, nat_lt, Option, Some, None, refl, sym, subst}
use Rattle.std.specs.Prelude.{◌||◌, is_some, slice_get}
use Rattle.std.specs.Option.{IsSomeAnd}
use Rattle.address_rules.specs.declared.control_file.ControlFile.{ControlFile}
use Rattle.address_rules.specs.Files.{place}
use Rattle.bounce_record.specs.declared.note_row.NoteRow.{NoteRow}
use Rattle.bounce_record.specs.declared.note_row.NoteRow.TheVariants as written
use Rattle.bounce_record.specs.declared.return_row.ReturnRow.{ReturnRow}
use Rattle.bounce_record.specs.declared.return_row.ReturnRow.TheVariants as back
use Rattle.bounce_record.specs.Returning.{Returning, return_begun}
use Rattle.bounce_record.specs.Writing.{Writing, parted_note, moved as note_moved}
use Rattle.bounce_record.proofs.HoldsNote.{HoldsNote, step as note_step, uses_row as uses_note}
use Rattle.bounce_record.proofs.HoldsReturn.{HoldsReturn, step as return_step, uses_row as uses_return}
use Rattle.call_fs.specs.declared.calls.Answer.{Answer}
use Rattle.call_fs.specs.declared.calls.Answer.TheVariants as answer
use Rattle.call_fs.specs.declared.calls.CallData.TheVariants as call
use Rattle.call_fs.specs.declared.calls.Fd.{Fd}
use Rattle.call_fs.specs.declared.calls.FsError.TheVariants as why
use Rattle.call_fs.specs.declared.calls.How.TheVariants as how
use Rattle.call_fs.specs.declared.past.GotData.{GotData}
use Rattle.call_fs.specs.declared.past.Own.{Own}
use Rattle.call_fs.specs.declared.program.Ready.{Ready}
use Rattle.call_fs.specs.Columns.{IsAnswerTo}
use Rattle.call_fs.specs.Disk.{IsForWrite}
use Rattle.call_fs.specs.declared.modes.Mode.{Mode}
use Rattle.call_fs.specs.Past.{IsRunBy, held, held_by, held_after, UsesHeld}
use Rattle.call_fs.specs.Program.{MayCome}
use Rattle.call_fs.proofs.Maps.{put_same}
use Rattle.envelope_records.specs.declared.channel.Record.{Record}
use Rattle.mail_bytes.specs.Decimal.{digits}
use Rattle.queue_paths.specs.declared.names.Name.TheVariants as name
use Rattle.queue_paths.specs.Names.{name_of, path}
use Rattle.queue_paths.specs.Names.Name.{Of}
use Rattle.queue_paths.specs.Names.Part.{Todo as TodoFile, Info as InfoFile, Local as LocalFile, Remote as RemoteFile}
use Rattle.retry_schedule.specs.Due.{first_due}
use Rattle.send_jobs.specs.declared.attempts.Failure.{Failure}
use Rattle.send_jobs.specs.declared.attempts.Mark.{Mark}
use Rattle.send_known.specs.declared.channel.Channel.{Channel}
use Rattle.send_known.specs.declared.channel.Channel.TheVariants.{Local, Remote}
use Rattle.send_jobs.specs.declared.jobs.Job.{Job}
use Rattle.send_jobs.specs.Lanes.{next, job_over, left_unmarked, mark_settled}
use Rattle.send_jobs.specs.Sending.{lane, at_lane, sent_on}
use Rattle.send_jobs.specs.Slots.{lowest}
use Rattle.send_known.specs.Known.{sender_of}
use Rattle.send_known.specs.Messages.{learned}
use Rattle.send_parts.specs.declared.dir.Dir.TheVariants as dir
use Rattle.send_parts.specs.declared.reading.Progress.{Progress}
use Rattle.send_parts.specs.declared.reading.Progress.TheVariants.{Goes, Whole, Missing, Failed}
use Rattle.send_parts.specs.declared.reading.Reading.{Reading}
use Rattle.send_parts.specs.declared.reading.Reading.TheVariants.{Opening, Going, Closing, Shutting}
use Rattle.send_parts.specs.declared.reply.Way.{Way}
use Rattle.send_parts.specs.declared.reply.Way.TheVariants as way
use Rattle.send_parts.specs.declared.step.Step.{Step}
use Rattle.send_parts.specs.declared.step.Step.TheVariants as step_at
use Rattle.send_links.specs.Records.{records_of}
use Rattle.send_parts.specs.Files.{message_number}
use Rattle.send_parts.specs.Readings.{opened, read_more, reading_step}
use Rattle.send_parts.specs.Replies.{Said, said, answered}
use Rattle.send_parts.specs.Steps.{control_text, dir_text, due_by}
use Rattle.todo_pass.specs.declared.row.Row.{Row as PassRow}
use Rattle.todo_pass.specs.declared.row.Row.TheVariants as todo
use Rattle.todo_pass.specs.Table.{Pass, answer_row, due_by as pass_due, moved as pass_moved}
use Rattle.call_fs.proofs.Coming.{by_fit}
use Rattle.todo_pass.proofs.Holds.{HoldsRow, some_held, step as pass_step, uses_row}
use Rattle.send_core.specs.declared.desk.Desk.{Desk}
use Rattle.send_parts.specs.declared.rows.FinishRow.{FinishRow}
use Rattle.send_parts.specs.declared.rows.FinishRow.TheVariants as finish
use Rattle.send_parts.specs.declared.row.MarkRow.{MarkRow}
use Rattle.send_parts.specs.declared.row.MarkRow.TheVariants as mark
use Rattle.send_parts.specs.declared.row.Marked.{Marked}
use Rattle.send_parts.specs.declared.row.Point.{Point}
use Rattle.send_parts.specs.declared.row.Point.TheVariants as point
use Rattle.send_parts.specs.declared.row.Row.{Row}
use Rattle.send_parts.specs.declared.row.Row.TheVariants as at
use Rattle.send_parts.specs.declared.rows.Search.{Search}
use Rattle.send_parts.specs.declared.rows.Search.TheVariants as searches
use Rattle.send_parts.specs.declared.rows.StartRow.{StartRow}
use Rattle.send_parts.specs.declared.rows.StartRow.TheVariants as start
use Rattle.send_parts.specs.declared.rows.SweepRow.{SweepRow}
use Rattle.send_parts.specs.declared.rows.SweepRow.TheVariants as sweep
use Rattle.send_core.specs.Desk.{goes, stands_at, link, with_requests, due_on, later, closed, closed_by, has_begun, request_sent, retried, is_free_for, next_idle, past_finish, past_todo, sweep_due, turn_counted, turn_over}
use Rattle.send_parts.specs.Finish.{finish_to}
use Rattle.send_parts.specs.Rows.{is_again}
use Rattle.send_parts.specs.Sweep.{sweep_to}
use Rattle.send_parts.specs.Start.{act_start}
use Rattle.send_core.specs.Turn.{begin_note, is_done, known_of, lost, note_of, noted_at, put_later, is_fine, file_read, mark_opened, mark_over, told_report, pass_opened, requested, todo_found, todo_named, todo_none, todo_on, todo_over, todo_went, took, unlinked}
use Rattle.send_core.specs.Finish.{bounce_on, finish_at, forgot, returned_to, looked_up, put_off_to, sweep_at, sweep_begun}
use Rattle.send_core.specs.Table.{Next, act, arrive, busy, file_of, search_words, begin_by, beginning, place_after, due_at, finishing_by, from_point, from_local, from_remote, from_reports, from_take, from_begin, from_sweep, going_on, holds, link_of, marking_by, or_else, passing, row_now, sweeping, taking, marking, finishing}
use Rattle.send_core.proofs.HoldsRows.{HoldsReading, HoldsProgress, HoldsStart, Parts, parts, HoldsMark, HoldsFinish, HoldsAt, Holds, failed_holds, filed_holds, control_holds, info_holds, greeted_holds, greeted_too, scanned_holds, by_way_holds, remote_holds, start_holds}

-- Where a row leads that holds nothing open

module _ (h : ℕ → Option Mode) where
  either : (b : Bool) (x y : Desk) → Holds h x → Holds h y → Holds h (if b then x else y)
  either true x y p q = p
  either false x y p q = q

  counted_holds : (turns : Option ℕ) (d : Desk) → Holds h (turn_counted turns d)
  counted_holds None d = tt
  counted_holds (Some k) d =
      either (nat_lt 1 k) (record d { turns = Some (k - 1); row = at.Turn point.TakeLocal }) (record d { turns = Some 0; row = at.Ended 0 }) tt tt

  over_holds : (d : Desk) → Holds h (turn_over d)
  over_holds d = counted_holds d.turns (record d { busy = false })

  finish_holds : (now : ℕ) (d : Desk) → Holds h (past_finish now d)
  finish_holds now d = either (sweep_due now d.swept) (stands_at d point.Sweep) (turn_over d) tt (over_holds d)

  todo_holds : (now : ℕ) (d : Desk) → Holds h (past_todo now d)
  todo_holds now d = either (is_some (next_idle now d) || sweep_due now d.swept) (stands_at d point.Finish) (turn_over d) tt (over_holds d)

  -- a turn

  lost_holds : (c : Channel) (pass : Parts) → HoldsAt h (lost c) pass
  lost_holds Local pass = tt
  lost_holds Remote pass = tt

  took_holds : (w : Way) (bytes : List ℕ) (c : Channel) (d : Desk) → Holds h (busy (took w bytes c d))
  took_holds way.Fine bytes c d = tt
  took_holds way.Over bytes c d = lost_holds c (parts d)
  took_holds way.Absent bytes c d = lost_holds c (parts d)
  took_holds way.Broken bytes c d = lost_holds c (parts d)
  took_holds way.NoMemory bytes c d = lost_holds c (parts d)

  closed_holds : (o : Option Job) (c : Channel) (n : ℕ) (p : Point) (d : Desk) → Holds h (closed_by o c n p d)
  closed_holds None c n p d = tt
  closed_holds (Some job) c n p d = either job.unmarked (retried c n job.begun (stands_at d p)) (goes d (at.UnlinkFile c n p)) tt tt

  mark_holds : (b : Bool) (m : Marked) (d : Desk) → Holds h (mark_over b m d)
  mark_holds true m d =
      let after = record d { slots = at_lane m.channel mark_settled d.slots } in
      closed_holds (job_over m.n (lane m.channel after.slots)) m.channel m.n point.Reports after
  mark_holds false m d =
      let after = record d { slots = at_lane m.channel (left_unmarked m.n) (at_lane m.channel mark_settled d.slots) } in
      closed_holds (job_over m.n (lane m.channel after.slots)) m.channel m.n point.Reports after

  unlinked_holds : (w : Way) (c : Channel) (n : ℕ) (p : Point) (now : ℕ) (d : Desk) → Holds h (unlinked w c n p now d)
  unlinked_holds way.Fine c n p now d = tt
  unlinked_holds way.Over c n p now d = tt
  unlinked_holds way.Absent c n p now d = tt
  unlinked_holds way.Broken c n p now d = tt
  unlinked_holds way.NoMemory c n p now d = tt

  busy_either : (b : Bool) (x y : Desk) → Holds h (busy x) → Holds h (busy y) → Holds h (busy (if b then x else y))
  busy_either true x y p q = p
  busy_either false x y p q = q

  busy_closed : (o : Option Job) (c : Channel) (n : ℕ) (p : Point) (d : Desk) → Holds h (busy (closed_by o c n p d))
  busy_closed None c n p d = tt
  busy_closed (Some job) c n p d = busy_either job.unmarked (retried c n job.begun (stands_at d p)) (goes d (at.UnlinkFile c n p)) tt tt

  opened_holds : (o : Option (List Record)) (c : Channel) (n begun now : ℕ) (d : Desk) → Holds h (busy (pass_opened o c n begun now d))
  opened_holds None c n begun now d = tt
  opened_holds (Some records) c n begun now d =
      let after = has_begun c n begun records d in
      busy_either (is_free_for n (lane c d.slots)) (closed c n (point.Pass c false) after) (put_later c n now d)
      (busy_closed (job_over n (lane c after.slots)) c n (point.Pass c false) after) tt

  file_holds : (p : Progress) (c : Channel) (n begun : ℕ) (reading : Reading) (now : ℕ) (s : Said) (d : Desk) → HoldsProgress h p
      → Holds h (busy (file_read p c n begun reading now s d))
  file_holds (Goes next) c n begun reading now s d own = own
  file_holds Whole c n begun reading now s d own = opened_holds (records_of d.book.read) c n begun now d
  file_holds Missing c n begun reading now s d own = tt
  file_holds Failed c n begun reading now s d own = tt

  sent_holds : (c : Channel) (d : Desk) → Holds h (busy (request_sent c (stands_at d (point.Pass c false))))
  sent_holds Local d =
      let at_pass = stands_at d (point.Pass Local false) in
      busy_either (is_some (next (lane Local d.slots))) (with_requests Local (drop 1 (link Local d).requests) (record at_pass { slots = sent_on Local d.slots })) at_pass tt tt
  sent_holds Remote d =
      let at_pass = stands_at d (point.Pass Remote false) in
      busy_either (is_some (next (lane Remote d.slots))) (with_requests Remote (drop 1 (link Remote d).requests) (record at_pass { slots = sent_on Remote d.slots })) at_pass tt tt

  requested_holds : (w : Way) (c : Channel) (d : Desk) → Holds h (busy (requested w c d))
  requested_holds way.Fine c d = sent_holds c d
  requested_holds way.Over c d = lost_holds c (parts d)
  requested_holds way.Absent c d = lost_holds c (parts d)
  requested_holds way.Broken c d = lost_holds c (parts d)
  requested_holds way.NoMemory c d = lost_holds c (parts d)

  found_holds : (o : Option ℕ) (text : List ℕ) (search : Search) (d : Desk) → Holds h (todo_found o text search d)
  found_holds None text search d = tt
  found_holds (Some n) text search d = tt

  none_holds : (again : Bool) (text : List ℕ) (now : ℕ) (d : Desk) → Holds h (todo_none again text now d)
  none_holds false (b ∷ bs) now d = tt
  none_holds false [] now d = todo_holds now d
  none_holds true text now d = todo_holds now d

  named_holds : (w : Way) (text : List ℕ) (search : Search) (now : ℕ) (d : Desk) → Holds h (todo_named w text search now d)
  named_holds way.Fine text search now d = found_holds (message_number text) text search d
  named_holds way.Over text search now d = none_holds (is_again search) d.last_left now d
  named_holds way.Absent text search now d = none_holds (is_again search) d.last_left now d
  named_holds way.Broken text search now d = none_holds (is_again search) d.last_left now d
  named_holds way.NoMemory text search now d = none_holds (is_again search) d.last_left now d

  on_holds : (row : PassRow) (p : Pass) (now : ℕ) (d : Desk) → HoldsRow h p.row → Holds h (todo_on row p now d)
  on_holds (todo.Left why) p now d own = todo_holds now (record d { pass = p; last_left = digits p.n })
  on_holds todo.Lost p now d own = tt
  on_holds (todo.Clear t) p now d own = own
  on_holds todo.StatMess p now d own = own
  on_holds todo.OpenTodo p now d own = own
  on_holds (todo.ReadTodo fd) p now d own = own
  on_holds (todo.CloseTodo fd) p now d own = own
  on_holds (todo.Create t) p now d own = own
  on_holds (todo.Append t fd done) p now d own = own
  on_holds (todo.Sync t fd) p now d own = own
  on_holds (todo.Close t fd) p now d own = own
  on_holds (todo.Shut fd why) p now d own = own
  on_holds todo.Give p now d own = own
  on_holds todo.Answer p now d own = own
  on_holds todo.Done p now d own = own

  pass_over_holds : (row : PassRow) (p : Pass) (now : ℕ) (d : Desk) → HoldsRow h p.row → Holds h (todo_over row p now d)
  pass_over_holds row p now d own =
      let learnt = record d { pass = p; book = record d.book { messages = learned (known_of p) now d.book.messages } } in
      either (is_done row) (past_todo now learnt) (todo_on row p now d) (todo_holds now learnt) (on_holds row p now d own)

  went_holds : (row : PassRow) (came : GotData) (p : Pass) (now : ℕ) (d : Desk) → HoldsRow h p.row → Holds h (todo_went row came p now d)
  went_holds todo.Answer came p now d own = pass_over_holds (answer_row came) p now d own
  went_holds (todo.Left why) came p now d own = on_holds p.row p now d own
  went_holds todo.Lost came p now d own = on_holds p.row p now d own
  went_holds (todo.Clear t) came p now d own = on_holds p.row p now d own
  went_holds todo.StatMess came p now d own = on_holds p.row p now d own
  went_holds todo.OpenTodo came p now d own = on_holds p.row p now d own
  went_holds (todo.ReadTodo fd) came p now d own = on_holds p.row p now d own
  went_holds (todo.CloseTodo fd) came p now d own = on_holds p.row p now d own
  went_holds (todo.Create t) came p now d own = on_holds p.row p now d own
  went_holds (todo.Append t fd done) came p now d own = on_holds p.row p now d own
  went_holds (todo.Sync t fd) came p now d own = on_holds p.row p now d own
  went_holds (todo.Close t fd) came p now d own = on_holds p.row p now d own
  went_holds (todo.Shut fd why) came p now d own = on_holds p.row p now d own
  went_holds todo.Give came p now d own = on_holds p.row p now d own
  went_holds todo.Done came p now d own = on_holds p.row p now d own

  -- finish and sweep

  finished_holds : (row : FinishRow) (n now : ℕ) (d : Desk) → HoldsFinish h row d.bounce.row → Holds h (finish_at row n now d)
  finished_holds finish.OpenBounce n now d own = tt
  finished_holds finish.Return n now d own = own
  finished_holds finish.UnlinkInfo n now d own = tt
  finished_holds finish.Give n now d own = tt
  finished_holds finish.Take n now d own = tt
  finished_holds finish.Later n now d own = finish_holds now (put_off_to n (later now) d)
  finished_holds finish.Over n now d own = finish_holds now (forgot n d)
  finished_holds finish.Lost n now d own = tt

  returned_holds : (row : ReturnRow) → HoldsReturn h row → HoldsFinish h (returned_to row) row
  returned_holds back.Over own = tt
  returned_holds back.Failed own = tt
  returned_holds back.Open own = own
  returned_holds (back.ReadNotes fd) own = own
  returned_holds (back.CloseNotes fd) own = own
  returned_holds back.OpenMessage own = own
  returned_holds (back.ReadMessage fd) own = own
  returned_holds (back.CloseMessage fd) own = own
  returned_holds (back.Shut fd) own = own
  returned_holds back.Start own = own
  returned_holds (back.Give pid) own = own
  returned_holds (back.Await pid) own = own
  returned_holds back.Unlink own = own
  returned_holds back.Discard own = own

  info_gone_holds : (w : Way) (bounce : ReturnRow) → HoldsFinish h (finish_to finish.UnlinkInfo w) bounce
  info_gone_holds way.Fine bounce = tt
  info_gone_holds way.Over bounce = tt
  info_gone_holds way.Absent bounce = tt
  info_gone_holds way.Broken bounce = tt
  info_gone_holds way.NoMemory bounce = tt

  given_holds : (w : Way) (bounce : ReturnRow) → HoldsFinish h (finish_to finish.Give w) bounce
  given_holds way.Fine bounce = tt
  given_holds way.Over bounce = tt
  given_holds way.Absent bounce = tt
  given_holds way.Broken bounce = tt
  given_holds way.NoMemory bounce = tt

  removed_holds : (w : Way) (bounce : ReturnRow) → HoldsFinish h (finish_to finish.Take w) bounce
  removed_holds way.Fine bounce = tt
  removed_holds way.Over bounce = tt
  removed_holds way.Absent bounce = tt
  removed_holds way.Broken bounce = tt
  removed_holds way.NoMemory bounce = tt

  swept_holds : (row : SweepRow) (d : Desk) → Holds h (sweep_at row d)
  swept_holds sweep.Over d = over_holds d
  swept_holds sweep.Lost d = tt
  swept_holds sweep.First d = tt
  swept_holds (sweep.Next split) d = tt
  swept_holds (sweep.StatMess split n) d = tt
  swept_holds (sweep.StatTodo split n) d = tt
  swept_holds (sweep.StatInfo split n todo) d = tt
  swept_holds (sweep.Give split n) d = tt
  swept_holds (sweep.Take split n) d = tt

-- What an answer opens and what it closes

module _ (h : ℕ → Option Mode) where
  opens : (name : List ℕ) (told : Answer) (bytes : List ℕ) → IsAnswerTo (call.Open name how.Read) told
      → HoldsProgress (held_after h (call.Open name how.Read) told) (opened (answered told bytes).way (answered told bytes).fd)
  opens name (answer.Opened fd) bytes fit = put_same h fd.0 (Some (Mode.Opened how.Read))
  opens name (answer.Refused why.NotThere) bytes fit = tt
  opens name (answer.Refused why.Fault) bytes fit = tt
  opens name (answer.Refused why.Memory) bytes fit = tt
  opens name told bytes fit = absurd fit

  more_holds : (b : Bool) (fd : Fd) → h fd.0 ≡ Some (Mode.Opened how.Read) → HoldsProgress h (if b then Goes (Closing fd) else Goes (Going fd))
  more_holds true fd own = some_held (h fd.0) (Mode.Opened how.Read) own
  more_holds false fd own = own

  reads : (fd : Fd) (from : ℕ) (told : Answer) (bytes : List ℕ) → h fd.0 ≡ Some (Mode.Opened how.Read) → IsAnswerTo (call.ReadAt fd from 8192) told
      → HoldsProgress (held_after h (call.ReadAt fd from 8192) told) (read_more (answered told bytes).way fd (answered told bytes).bytes)
  reads fd from (answer.Count count) bytes own fit = more_holds (nat_lt (length bytes) 8192) fd own
  reads fd from (answer.Refused why.Fault) bytes own fit = some_held (h fd.0) (Mode.Opened how.Read) own
  reads fd from told bytes own fit = absurd fit

-- A step

abbrev StepOf : (ℕ → Option Mode) → Row → ℕ → Desk → GotData → Type 0
StepOf h row now d got = Holds (held_by h (due_at row d) got) (act row now got d)

module _ (h : ℕ → Option Mode) (now : ℕ) (d : Desk) where
  -- a step of the start
  abbrev StartOf : StartRow → GotData → Type 0
  StartOf row got = HoldsStart (held_by h (due_at (at.Start row) d) got) (act_start row (said got) d.book).row

  control_step : (f : ControlFile) (reading : Reading) (got : GotData) → HoldsReading h reading
      → MayCome (due_at (at.Start (start.Control f reading)) d) got → StartOf (start.Control f reading) got
  control_step f Opening got own may =
      by_fit (call.Open (control_text f) how.Read) (StartOf (start.Control f Opening)) got may
      (λ told fit. control_holds (held_after h (call.Open (control_text f) how.Read) told.answer) (opened (answered told.answer told.bytes).way (answered told.answer told.bytes).fd) f Opening (answered told.answer told.bytes) d.book
      (opens h (control_text f) told.answer told.bytes fit))
  control_step f (Going fd) got own may =
      by_fit (call.ReadAt fd (length d.book.read) 8192) (StartOf (start.Control f (Going fd))) got may
      (λ told fit. control_holds (held_after h (call.ReadAt fd (length d.book.read) 8192) told.answer) (read_more (answered told.answer told.bytes).way fd (answered told.answer told.bytes).bytes) f (Going fd) (answered told.answer told.bytes) d.book
      (reads h fd (length d.book.read) told.answer told.bytes own fit))
  control_step f (Closing fd) got own may =
      by_fit (call.Close fd) (StartOf (start.Control f (Closing fd))) got may
      (λ told fit. filed_holds (held_after h (call.Close fd) told.answer) (Some d.book.read) f d.book)
  control_step f (Shutting fd) got own may =
      by_fit (call.Close fd) (StartOf (start.Control f (Shutting fd))) got may
      (λ told fit. failed_holds (held_after h (call.Close fd) told.answer) (answered told.answer told.bytes).way)

  info_step : (split n : ℕ) (reading : Reading) (got : GotData) → HoldsReading h reading
      → MayCome (due_at (at.Start (start.ReadInfo split n reading)) d) got → StartOf (start.ReadInfo split n reading) got
  info_step split n Opening got own may =
      by_fit (call.Open (path (Of InfoFile n)) how.Read) (StartOf (start.ReadInfo split n Opening)) got may
      (λ told fit. info_holds (held_after h (call.Open (path (Of InfoFile n)) how.Read) told.answer) (opened (answered told.answer told.bytes).way (answered told.answer told.bytes).fd) split n Opening (answered told.answer told.bytes) d.book
      (opens h (path (Of InfoFile n)) told.answer told.bytes fit))
  info_step split n (Going fd) got own may =
      by_fit (call.ReadAt fd (length d.book.read) 8192) (StartOf (start.ReadInfo split n (Going fd))) got may
      (λ told fit. info_holds (held_after h (call.ReadAt fd (length d.book.read) 8192) told.answer) (read_more (answered told.answer told.bytes).way fd (answered told.answer told.bytes).bytes) split n (Going fd) (answered told.answer told.bytes) d.book
      (reads h fd (length d.book.read) told.answer told.bytes own fit))
  info_step split n (Closing fd) got own may =
      by_fit (call.Close fd) (StartOf (start.ReadInfo split n (Closing fd))) got may
      (λ told fit. info_holds (held_after h (call.Close fd) told.answer) Whole split n (Closing fd) (answered told.answer told.bytes) d.book tt)
  info_step split n (Shutting fd) got own may =
      by_fit (call.Close fd) (StartOf (start.ReadInfo split n (Shutting fd))) got may
      (λ told fit. failed_holds (held_after h (call.Close fd) told.answer) (answered told.answer told.bytes).way)

  abbrev file_path : Channel → ℕ → List ℕ
  file_path c n = path (name_of (file_of c n))

  pass_file_step : (c : Channel) (n begun : ℕ) (reading : Reading) (got : GotData) → HoldsReading h reading
      → MayCome (due_at (at.ReadFile c n begun reading) d) got → StepOf h (at.ReadFile c n begun reading) now d got
  pass_file_step c n begun Opening got own may =
      by_fit (call.Open (file_path c n) how.Read) (StepOf h (at.ReadFile c n begun Opening) now d) got may
      (λ told fit. file_holds (held_after h (call.Open (file_path c n) how.Read) told.answer) (opened (answered told.answer told.bytes).way (answered told.answer told.bytes).fd) c n now Opening now (answered told.answer told.bytes) d
      (opens h (file_path c n) told.answer told.bytes fit))
  pass_file_step c n begun (Going fd) got own may =
      by_fit (call.ReadAt fd (length d.book.read) 8192) (StepOf h (at.ReadFile c n begun (Going fd)) now d) got may
      (λ told fit. file_holds (held_after h (call.ReadAt fd (length d.book.read) 8192) told.answer) (read_more (answered told.answer told.bytes).way fd (answered told.answer told.bytes).bytes) c n begun (Going fd) now (answered told.answer told.bytes) d
      (reads h fd (length d.book.read) told.answer told.bytes own fit))
  pass_file_step c n begun (Closing fd) got own may =
      by_fit (call.Close fd) (StepOf h (at.ReadFile c n begun (Closing fd)) now d) got may
      (λ told fit. opened_holds (held_after h (call.Close fd) told.answer) (records_of d.book.read) c n begun now d)
  pass_file_step c n begun (Shutting fd) got own may =
      by_fit (call.Close fd) (StepOf h (at.ReadFile c n begun (Shutting fd)) now d) got may (λ told fit. tt)

  start_to_holds : (row : StartRow) (got : GotData) → HoldsStart h row → MayCome (due_at (at.Start row) d) got → StartOf row got
  start_to_holds (start.Control f reading) got own may = control_step f reading got own may
  start_to_holds start.GreetLocal got own may = greeted_holds h (said got).way (said got).bytes d.book
  start_to_holds (start.GreetRemote limit) got own may = greeted_too h (said got).way (said got).bytes d.book
  start_to_holds (start.Scan split) got own may =
      by_fit (call.NextName (dir_text (dir.Info split)) d.book.after) (StartOf (start.Scan split)) got may
      (λ told fit. scanned_holds (held_after h (call.NextName (dir_text (dir.Info split)) d.book.after) told.answer) (answered told.answer told.bytes).way (answered told.answer told.bytes).bytes split d.book)
  start_to_holds (start.StatTodo split n) got own may =
      by_fit (call.Stat (path (Of TodoFile n))) (StartOf (start.StatTodo split n)) got may
      (λ told fit. by_way_holds (held_after h (call.Stat (path (Of TodoFile n))) told.answer) (answered told.answer told.bytes).way (start.Scan split) (start.ReadInfo split n Opening) tt tt)
  start_to_holds (start.ReadInfo split n reading) got own may = info_step split n reading got own may
  start_to_holds (start.StatInfo split n) got own may =
      by_fit (call.Stat (path (Of InfoFile n))) (StartOf (start.StatInfo split n)) got may
      (λ told fit. by_way_holds (held_after h (call.Stat (path (Of InfoFile n))) told.answer) (answered told.answer told.bytes).way (start.StatLocal split n (answered told.answer told.bytes).stat.moment) (start.Scan split) tt tt)
  start_to_holds (start.StatLocal split n birth) got own may =
      by_fit (call.Stat (path (Of LocalFile n))) (StartOf (start.StatLocal split n birth)) got may
      (λ told fit. by_way_holds (held_after h (call.Stat (path (Of LocalFile n))) told.answer) (answered told.answer told.bytes).way (start.StatRemote split n birth true) (start.StatRemote split n birth false) tt tt)
  start_to_holds (start.StatRemote split n birth local) got own may =
      by_fit (call.Stat (path (Of RemoteFile n))) (StartOf (start.StatRemote split n birth local)) got may
      (λ told fit. remote_holds (held_after h (call.Stat (path (Of RemoteFile n))) told.answer) (answered told.answer told.bytes).way split n birth local d.book)
  start_to_holds start.Over got own may = absurd may
  start_to_holds (start.Ended status) got own may = absurd may

  start_step_holds : (row : StartRow) (got : GotData) → HoldsStart h row → MayCome (due_at (at.Start row) d) got → StepOf h (at.Start row) now d got
  start_step_holds row got own may =
      start_holds (held_by h (due_at (at.Start row) d) got) (act_start row (said got) d.book).row (parts d) (start_to_holds row got own may)

  mark_opens : (m : Marked) (told : Answer) (bytes : List ℕ) → IsAnswerTo (call.Open (file_path m.channel m.n) how.Write) told
      → Holds (held_after h (call.Open (file_path m.channel m.n) how.Write) told) (mark_opened (answered told bytes).way m (answered told bytes).fd d)
  mark_opens m (answer.Opened fd) bytes fit = put_same h fd.0 (Some (Mode.Opened how.Write))
  mark_opens m (answer.Refused why.NotThere) bytes fit = mark_holds h false m d
  mark_opens m (answer.Refused why.Fault) bytes fit = mark_holds h false m d
  mark_opens m (answer.Refused why.Memory) bytes fit = mark_holds h false m d
  mark_opens m told bytes fit = absurd fit

  mark_writes : (m : Marked) (fd : Fd) (told : Answer) (bytes : List ℕ) → h fd.0 ≡ Some (Mode.Opened how.Write) → IsAnswerTo (call.WriteAt fd m.place (codes "D")) told
      → HoldsMark (held_after h (call.WriteAt fd m.place (codes "D")) told) (mark.Close fd (is_fine (answered told bytes).way)) d.note.row
  mark_writes m fd answer.Done bytes own fit = some_held (h fd.0) (Mode.Opened how.Write) own
  mark_writes m fd (answer.Refused why.Fault) bytes own fit = some_held (h fd.0) (Mode.Opened how.Write) own
  mark_writes m fd (answer.Refused why.Memory) bytes own fit = some_held (h fd.0) (Mode.Opened how.Write) own
  mark_writes m fd told bytes own fit = absurd fit

  -- a step of a note
  noted_holds : (k : ℕ → Option Mode) (row : NoteRow) (n : ℕ) (text : List ℕ) (m : Marked) (e : Desk) → HoldsNote k row
      → Holds k (noted_at row m (record e { note = record { n = n; row = row; text = text } }))
  noted_holds k written.Written n text m e own = tt
  noted_holds k written.Failed n text m e own = mark_holds k false m (record e { note = record { n = n; row = written.Failed; text = text } })
  noted_holds k written.Open n text m e own = own
  noted_holds k written.Create n text m e own = own
  noted_holds k (written.Stat fd) n text m e own = own
  noted_holds k (written.Read fd place len) n text m e own = own
  noted_holds k (written.Append fd done) n text m e own = own
  noted_holds k (written.Sync fd) n text m e own = own
  noted_holds k (written.Close fd) n text m e own = own
  noted_holds k (written.Shut fd) n text m e own = own

  note_begins : (m : Marked) (o : Option Mark) (got : GotData) → MayCome (due_at (at.Mark mark.Note m) d) got
      → HoldsNote (held_by h (due_at (at.Mark mark.Note m) d) got) (note_moved (note_of o m.n d.book.controls) got).row
  note_begins m None got may = note_step m.n (parted_note d.book.controls [] []) h written.Open got tt may
  note_begins m (Some k) got may = note_step m.n (parted_note d.book.controls k.attempt.address (told_report k.note)) h written.Open got tt may

  mark_step_holds : (row : MarkRow) (m : Marked) (got : GotData) → HoldsMark h row d.note.row → MayCome (due_at (at.Mark row m) d) got → StepOf h (at.Mark row m) now d got
  mark_step_holds mark.Note m got own may =
      let o : Option Mark = slice_get (lane m.channel d.slots).marks 0 in
      let w : Writing = note_moved (note_of o m.n d.book.controls) got in
      noted_holds (held_by h (due_at (at.Mark mark.Note m) d) got) w.row w.n w.text m (begin_note m d) (note_begins m o got may)
  mark_step_holds mark.Noting m got own may =
      let w : Writing = note_moved d.note got in
      noted_holds (held_by h (due_at (at.Mark mark.Noting m) d) got) w.row w.n w.text m d (note_step d.note.n d.note.text h d.note.row got own may)
  mark_step_holds mark.Open m got own may =
      by_fit (call.Open (file_path m.channel m.n) how.Write) (StepOf h (at.Mark mark.Open m) now d) got may (λ told fit. mark_opens m told.answer told.bytes fit)
  mark_step_holds (mark.Write fd) m got own may =
      by_fit (call.WriteAt fd m.place (codes "D")) (StepOf h (at.Mark (mark.Write fd) m) now d) got may (λ told fit. mark_writes m fd told.answer told.bytes own fit)
  mark_step_holds (mark.Close fd done) m got own may =
      by_fit (call.Close fd) (StepOf h (at.Mark (mark.Close fd done) m) now d) got may (λ told fit. mark_holds (held_after h (call.Close fd) told.answer) done m d)

  -- a step of a finish
  finish_step_holds : (row : FinishRow) (n : ℕ) (got : GotData) → HoldsFinish h row d.bounce.row → MayCome (due_at (at.Finish row n) d) got → StepOf h (at.Finish row n) now d got
  finish_step_holds finish.OpenBounce n got own may =
      let k : ℕ → Option Mode = held_by h (due_at (at.Finish finish.OpenBounce n) d) got in
      let r : Returning = bounce_on n now got (return_begun n) d.book in
      finished_holds k (returned_to r.row) n now (record d { bounce = r; busy = true })
      (returned_holds k r.row (return_step d.book.controls (sender_of n d.book.messages.known) (return_begun n) now h back.Open got tt may))
  finish_step_holds finish.Return n got own may =
      let k : ℕ → Option Mode = held_by h (due_at (at.Finish finish.Return n) d) got in
      let r : Returning = bounce_on n now got d.bounce d.book in
      finished_holds k (returned_to r.row) n now (record d { bounce = r })
      (returned_holds k r.row (return_step d.book.controls (sender_of n d.book.messages.known) d.bounce now h d.bounce.row got own may))
  finish_step_holds finish.UnlinkInfo n got own may =
      let k : ℕ → Option Mode = held_by h (due_at (at.Finish finish.UnlinkInfo n) d) got in
      finished_holds k (finish_to finish.UnlinkInfo (said got).way) n now d (info_gone_holds k (said got).way d.bounce.row)
  finish_step_holds finish.Give n got own may =
      let k : ℕ → Option Mode = held_by h (due_at (at.Finish finish.Give n) d) got in
      finished_holds k (finish_to finish.Give (said got).way) n now d (given_holds k (said got).way d.bounce.row)
  finish_step_holds finish.Take n got own may =
      let k : ℕ → Option Mode = held_by h (due_at (at.Finish finish.Take n) d) got in
      finished_holds k (finish_to finish.Take (said got).way) n now d (removed_holds k (said got).way d.bounce.row)
  finish_step_holds finish.Later n got own may = absurd may
  finish_step_holds finish.Over n got own may = absurd may
  finish_step_holds finish.Lost n got own may = absurd may

  step : (row : Row) (got : GotData) → HoldsAt h row (parts d) → MayCome (due_at row d) got → StepOf h row now d got
  step (at.Start row) got own may = start_step_holds row got own may
  step (at.Turn p) got own may = absurd may
  step (at.TakeLink c) got own may = took_holds h (said got).way (said got).bytes c d
  step (at.Mark row m) got own may = mark_step_holds row m got own may
  step (at.UnlinkFile c n p) got own may =
      by_fit (call.Unlink (file_path c n)) (StepOf h (at.UnlinkFile c n p) now d) got may (λ told fit. unlinked_holds (held_after h (call.Unlink (file_path c n)) told.answer) (answered told.answer told.bytes).way c n p now d)
  step (at.ReadFile c n begun reading) got own may = pass_file_step c n begun reading got own may
  step (at.Request c) got own may = requested_holds h (said got).way c d
  step (at.FindTodo search) got own may =
      by_fit (call.NextName (dir_text dir.Todo) (search_words search d)) (StepOf h (at.FindTodo search) now d) got may
      (λ told fit. named_holds (held_after h (call.NextName (dir_text dir.Todo) (search_words search d)) told.answer) (answered told.answer told.bytes).way (answered told.answer told.bytes).bytes search now d)
  step at.InTodo got own may =
      went_holds (held_by h (pass_due d.pass) got) d.pass.row got (pass_moved d.book.controls d.pass now got) now d
      (pass_step d.book.controls d.pass now h d.pass.row got own may)
  step (at.Finish row n) got own may = finish_step_holds row n got own may
  step (at.Sweep row) got own may =
      swept_holds (held_by h (due_at (at.Sweep row) d) got) (sweep_to row now (said got) d.book) (looked_up row (said got) (sweep_begun row now d))
  step (at.Ended status) got own may = absurd may

-- Between two steps nothing is held open but what the row holds

module _ (h : ℕ → Option Mode) (pass : Parts) where
  abbrev HoldsIf : Option Row → Type 0
  HoldsIf None = Unit {0}
  HoldsIf (Some row) = HoldsAt h row pass

  or_holds : (o : Option Row) (row : Row) → HoldsIf o → HoldsAt h row pass → HoldsAt h (or_else o row) pass
  or_holds None row p q = q
  or_holds (Some first) row p q = p

  taking_holds : (c : Channel) (ready : Ready) → HoldsIf (taking c ready)
  taking_holds c ready = by_link (holds (slice_get ready.links (link_of c))) where
    by_link : (b : Bool) → HoldsIf (if b then Some (at.TakeLink c) else None)
    by_link true = tt
    by_link false = tt

  marking_holds : (c : Channel) (o : Option Mark) → HoldsIf (marking_by c o)
  marking_holds c None = tt
  marking_holds c (Some m) = by_note m.note where
    by_note : (o : Option Failure) → HoldsMark h (begin_by o) pass.1
    by_note None = tt
    by_note (Some failure) = tt

  going_holds : (c : Channel) (o : Option ℕ) → HoldsIf (going_on c o)
  going_holds c None = tt
  going_holds c (Some slot) = tt

  beginning_holds : (c : Channel) (may : Bool) (o : Option (ℕ × ℕ)) → HoldsIf (beginning c may o)
  beginning_holds c false o = tt
  beginning_holds c true None = tt
  beginning_holds c true (Some e) = tt

  passing_holds : (c : Channel) (may : Bool) (d : Desk) (now : ℕ) → HoldsIf (passing c may d now)
  passing_holds c may d now = by_open (is_some (next (lane c d.slots))) where
    by_open : (b : Bool) → HoldsIf (if b then going_on c (lowest (lane c d.slots).slots) else beginning c may (first_due now (due_on c d.book.messages)))
    by_open true = going_holds c (lowest (lane c d.slots).slots)
    by_open false = beginning_holds c may (first_due now (due_on c d.book.messages))

  finishing_holds : (o : Option ℕ) → HoldsIf (finishing_by o)
  finishing_holds None = tt
  finishing_holds (Some n) = tt

  sweeping_holds : (d : Desk) (now : ℕ) → HoldsIf (sweeping d now)
  sweeping_holds d now = by_due (sweep_due now d.swept) where
    by_due : (b : Bool) → HoldsIf (if b then Some (at.Sweep sweep.First) else None)
    by_due true = tt
    by_due false = tt

  remote_from : (may : Bool) (d : Desk) (now : ℕ) → HoldsAt h (from_remote may d now) pass
  remote_from may d now = or_holds (passing Remote may d now) (at.FindTodo searches.AfterLeft) (passing_holds Remote may d now) tt

  local_from : (may : Bool) (d : Desk) (now : ℕ) → HoldsAt h (from_local may d now) pass
  local_from may d now = or_holds (passing Local may d now) (from_remote true d now) (passing_holds Local may d now) (remote_from true d now)

  reports_from : (d : Desk) (now : ℕ) → HoldsAt h (from_reports d now) pass
  reports_from d now =
      or_holds (marking Local d) (or_else (marking Remote d) (from_local true d now)) (marking_holds Local (slice_get (lane Local d.slots).marks 0))
      (or_holds (marking Remote d) (from_local true d now) (marking_holds Remote (slice_get (lane Remote d.slots).marks 0)) (local_from true d now))

  take_from : (d : Desk) (now : ℕ) (ready : Ready) → HoldsAt h (from_take d now ready) pass
  take_from d now ready = or_holds (taking Remote ready) (from_reports d now) (taking_holds Remote ready) (reports_from d now)

  begin_from : (d : Desk) (now : ℕ) (ready : Ready) → HoldsAt h (from_begin d now ready) pass
  begin_from d now ready = or_holds (taking Local ready) (from_take d now ready) (taking_holds Local ready) (take_from d now ready)

  sweep_from : (d : Desk) (now : ℕ) (ready : Ready) → HoldsAt h (from_sweep d now ready) pass
  sweep_from d now ready = or_holds (sweeping d now) (from_begin d now ready) (sweeping_holds d now) (begin_from d now ready)

  point_from : (p : Point) (d : Desk) (now : ℕ) (ready : Ready) → HoldsAt h (from_point p d now ready) pass
  point_from point.TakeLocal d now ready = begin_from d now ready
  point_from point.TakeRemote d now ready = take_from d now ready
  point_from point.Reports d now ready = reports_from d now
  point_from (point.Pass Local may) d now ready = local_from may d now
  point_from (point.Pass Remote may) d now ready = remote_from may d now
  point_from point.Finish d now ready = or_holds (finishing d now) (from_sweep d now ready) (finishing_holds (next_idle now d)) (sweep_from d now ready)
  point_from point.Sweep d now ready = sweep_from d now ready

  arrives : (row : Row) (d : Desk) (now : ℕ) (ready : Ready) → HoldsAt h row pass → HoldsAt h (arrive row d now ready) pass
  arrives (at.Turn p) d now ready own = point_from p d now ready
  arrives (at.Sweep row) d now ready own = tt
  arrives (at.Start row) d now ready own = own
  arrives (at.TakeLink c) d now ready own = own
  arrives (at.Mark row m) d now ready own = own
  arrives (at.UnlinkFile c n p) d now ready own = own
  arrives (at.ReadFile c n begun reading) d now ready own = own
  arrives (at.Request c) d now ready own = own
  arrives (at.FindTodo search) d now ready own = own
  arrives at.InTodo d now ready own = own
  arrives (at.Finish row n) d now ready own = own
  arrives (at.Ended status) d now ready own = own

keeps : (turns : Option ℕ) (past : List Own) → IsRunBy (Next turns) past → Holds (held past) (place_after turns past)
keeps turns [] run = tt
keeps turns (event ∷ before) run =
    let d : Desk = place_after turns before in
    let row : Row = row_now d event.read event.ready in
    let own = arrives (held before) (parts d) d.row d event.read event.ready (keeps turns before run.0) in
    let may = subst (λ x. MayCome x event.came) (sym run.1.0) run.1.1 in
    subst (λ x. Holds (held_by (held before) x event.came) (act row event.read event.came d)) run.1.0
    (step (held before) event.read d row event.came own may)

-- What a row holds open is what its call uses

uses_reading : (h : ℕ → Option Mode) (reading : Reading) (opening : Step) (at words : List ℕ) → HoldsReading h reading
    → UsesHeld h (due_by opening words) → UsesHeld h (due_by (reading_step reading opening (length at)) words)
uses_reading h Opening opening at words own free = free
uses_reading h (Going fd) opening at words own free = (some_held (h fd.0) (Mode.Opened how.Read) own, lit≤ tt)
uses_reading h (Closing fd) opening at words own free = own
uses_reading h (Shutting fd) opening at words own free = own

uses_start : (h : ℕ → Option Mode) (d : Desk) (row : StartRow) → HoldsStart h row → UsesHeld h (due_at (at.Start row) d)
uses_start h d (start.Control f reading) own = uses_reading h reading (step_at.OpenControl f) d.book.read [] own tt
uses_start h d start.GreetLocal own = tt
uses_start h d (start.GreetRemote limit) own = tt
uses_start h d (start.Scan split) own = tt
uses_start h d (start.StatTodo split n) own = tt
uses_start h d (start.ReadInfo split n reading) own = uses_reading h reading (step_at.Open (name.Info n) how.Read) d.book.read [] own tt
uses_start h d (start.StatInfo split n) own = tt
uses_start h d (start.StatLocal split n birth) own = tt
uses_start h d (start.StatRemote split n birth local) own = tt
uses_start h d start.Over own = tt
uses_start h d (start.Ended status) own = tt

uses_mark : (h : ℕ → Option Mode) (d : Desk) (row : MarkRow) (m : Marked) → HoldsMark h row d.note.row → UsesHeld h (due_at (at.Mark row m) d)
uses_mark h d mark.Note m own = tt
uses_mark h d mark.Noting m own = uses_note h d.note d.note.row own
uses_mark h d mark.Open m own = tt
uses_mark h d (mark.Write fd) m own = subst (λ o. IsSomeAnd o IsForWrite) (sym own) refl
uses_mark h d (mark.Close fd done) m own = own

uses_finish : (h : ℕ → Option Mode) (d : Desk) (row : FinishRow) (n : ℕ) → HoldsFinish h row d.bounce.row → UsesHeld h (due_at (at.Finish row n) d)
uses_finish h d finish.OpenBounce n own = tt
uses_finish h d finish.Return n own = uses_return h d.bounce d.bounce.row own
uses_finish h d finish.UnlinkInfo n own = tt
uses_finish h d finish.Give n own = tt
uses_finish h d finish.Take n own = tt
uses_finish h d finish.Later n own = tt
uses_finish h d finish.Over n own = tt
uses_finish h d finish.Lost n own = tt

uses_sweep : (h : ℕ → Option Mode) (d : Desk) (row : SweepRow) → UsesHeld h (due_at (at.Sweep row) d)
uses_sweep h d sweep.First = tt
uses_sweep h d (sweep.Next split) = tt
uses_sweep h d (sweep.StatMess split n) = tt
uses_sweep h d (sweep.StatTodo split n) = tt
uses_sweep h d (sweep.StatInfo split n todo) = tt
uses_sweep h d (sweep.Give split n) = tt
uses_sweep h d (sweep.Take split n) = tt
uses_sweep h d sweep.Over = tt
uses_sweep h d sweep.Lost = tt

uses_at : (h : ℕ → Option Mode) (d : Desk) (row : Row) → HoldsAt h row (parts d) → UsesHeld h (due_at row d)
uses_at h d (at.Start row) own = uses_start h d row own
uses_at h d (at.Turn p) own = tt
uses_at h d (at.TakeLink c) own = tt
uses_at h d (at.Mark row m) own = uses_mark h d row m own
uses_at h d (at.UnlinkFile c n p) own = tt
uses_at h d (at.ReadFile c n begun reading) own = uses_reading h reading (step_at.Open (file_of c n) how.Read) d.book.read [] own tt
uses_at h d (at.Request c) own = tt
uses_at h d (at.FindTodo search) own = tt
uses_at h d at.InTodo own = uses_row h d.pass d.pass.row own
uses_at h d (at.Finish row n) own = uses_finish h d row n own
uses_at h d (at.Sweep row) own = uses_sweep h d row
uses_at h d (at.Ended status) own = tt

pub uses : (turns : Option ℕ) (past : List Own) (now : ℕ) (ready : Ready) → IsRunBy (Next turns) past → UsesHeld (held past) (Next turns past now ready)
uses turns past now ready run =
    let d : Desk = place_after turns past in
    uses_at (held past) d (row_now d now ready) (arrives (held past) (parts d) d.row d now ready (keeps turns past run))
