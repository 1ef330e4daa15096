-- A sender that ended with 0 has made all its turns.
use Rattle.std.proofs.Common.{◌≡◌, ℕ, ◌+◌, ◌-◌, ◌<◌, ◌≤◌, List, [], ◌∷◌, length, drop, Bool, true, false, cond, if◌then◌else◌, nat_lt, Option, Some, None, refl, sym, ap, ◌∙◌, subst, arith}
use Rattle.std.specs.Prelude.{◌&&◌, ◌||◌, is_some, not}
use Rattle.std.proofs.lemmas.Bool.{ltb-true, ltb-false}
use Rattle.bounce_record.specs.declared.note_row.NoteRow.{NoteRow}
use Rattle.bounce_record.specs.declared.note_row.NoteRow.TheVariants as written
use Rattle.bounce_record.specs.Returning.{Returning, return_begun}
use Rattle.bounce_record.specs.Writing.{moved as note_moved}
use Rattle.call_fs.specs.declared.calls.Fd.{Fd}
use Rattle.call_fs.specs.declared.past.GotData.{GotData}
use Rattle.call_fs.specs.declared.past.NeedData.{NeedData}
use Rattle.call_fs.specs.declared.past.NeedData.TheVariants as needs
use Rattle.call_fs.specs.declared.past.Own.{Own}
use Rattle.call_fs.specs.declared.program.Ready.{Ready}
use Rattle.call_fs.specs.Past.{IsRunBy}
use Rattle.call_fs.specs.Program.{MayCome}
use Rattle.envelope_records.specs.declared.channel.Record.{Record}
use Rattle.mail_bytes.specs.Decimal.{digits}
use Rattle.send_jobs.specs.declared.attempts.Attempt.{Attempt}
use Rattle.send_known.specs.declared.channel.Channel.{Channel}
use Rattle.send_known.specs.declared.channel.Channel.TheVariants.{Local, Remote}
use Rattle.send_jobs.specs.declared.jobs.Job.{Job}
use Rattle.send_jobs.specs.Lanes.{job_over, left_unmarked, mark_settled, next, reported}
use Rattle.send_jobs.specs.Sending.{at_lane, lane, sent_on}
use Rattle.send_jobs.specs.Slots.{attempt_in}
use Rattle.send_known.specs.Messages.{learned}
use Rattle.send_parts.specs.declared.reading.Progress.{Progress}
use Rattle.send_parts.specs.declared.reading.Progress.TheVariants.{Goes as GoesOn, Whole, Missing, Failed}
use Rattle.send_parts.specs.declared.reading.Reading.{Reading}
use Rattle.send_parts.specs.declared.reading.Reading.TheVariants.{Opening, Going, Closing, Shutting}
use Rattle.send_parts.specs.declared.rows.StartRow.TheVariants as start
use Rattle.send_parts.specs.declared.reply.Way.{Way}
use Rattle.send_parts.specs.declared.reply.Way.TheVariants as way
use Rattle.send_parts.specs.declared.rows.FinishRow.{FinishRow}
use Rattle.send_parts.specs.declared.rows.FinishRow.TheVariants as finish
use Rattle.send_parts.specs.declared.rows.Search.{Search}
use Rattle.send_parts.specs.declared.rows.StartRow.{StartRow}
use Rattle.send_parts.specs.declared.rows.SweepRow.{SweepRow}
use Rattle.send_parts.specs.declared.rows.SweepRow.TheVariants as sweep
use Rattle.send_links.specs.Records.{records_of}
use Rattle.send_parts.specs.Files.{message_number}
use Rattle.send_parts.specs.Finish.{finish_to}
use Rattle.send_parts.specs.Readings.{begun_at, read_on}
use Rattle.send_parts.specs.Replies.{Said, said}
use Rattle.send_parts.specs.Rows.{is_again}
use Rattle.send_parts.specs.Sweep.{sweep_to}
use Rattle.spawn_protocol.specs.declared.report.Report.{Report}
use Rattle.spawn_protocol.specs.Report.{Reader, counted, read_on as reports_on}
use Rattle.todo_pass.specs.declared.row.Row.{Row as PassRow}
use Rattle.todo_pass.specs.declared.row.Row.TheVariants as todo
use Rattle.todo_pass.specs.Rows.{is_done}
use Rattle.todo_pass.specs.Table.{Pass, answer_row, moved as pass_moved}
use Rattle.send_core.specs.declared.desk.Desk.{Desk}
use Rattle.send_parts.specs.declared.row.MarkRow.{MarkRow}
use Rattle.send_parts.specs.declared.row.MarkRow.TheVariants as mark
use Rattle.send_parts.specs.declared.row.Marked.{Marked}
use Rattle.send_parts.specs.declared.row.Point.{Point}
use Rattle.send_parts.specs.declared.row.Point.TheVariants as point
use Rattle.send_parts.specs.declared.row.Row.{Row}
use Rattle.send_parts.specs.declared.row.Row.TheVariants as at
use Rattle.queue_limits.specs.declared.counts.TheConstants.{MAX_SLOTS}
use Rattle.send_core.specs.Desk.{closed_by, deferred, failure_in, goes, has_begun, heard, is_final, is_free_for, link, next_idle, past_finish, past_todo, request_sent, retried, retried_if, settle, stands_at, sweep_due, told, told_all, told_by, turn_counted, turn_over, waits, with_reader, with_requests}
use Rattle.send_core.specs.Finish.{act_finish, bounce_on, finish_at, forgot, looked_up, put_off_to, returned_to, sweep_at, sweep_begun}
use Rattle.send_core.specs.Table.{Next, act, arrive, due_at, place_after, row_now}
use Rattle.send_core.specs.Turn.{act_mark, begin_note, file_read, is_fine, known_of, lost, mark_opened, mark_over, noted_at, pass_opened, put_later, requested, todo_found, todo_named, todo_none, todo_on, todo_went, took, unlinked}
use Rattle.send_command.specs.Ends.{ends_turn, in_start, is_starting, is_turn_over, turns_made}
use Rattle.send_command.proofs.Rows.{FineAt}
use Rattle.send_command.proofs.Steps.{BadAt, Event, OfCall, OfLoss}
use Rattle.send_command.proofs.Steps.Event.{Bad, Called, Lost, Made}
use Rattle.send_command.proofs.Steps.OfCall.{Faulty, NoDir, NoMemory}
use Rattle.send_command.proofs.Steps.OfLoss.{NoCleaner, NoLocal, NoRemote}
use Rattle.send_command.proofs.Turns.{AllBring, Why, arrives, end_at, keeps}
use Rattle.send_runs.proofs.Calm.{IsFresh, point_fresh}

-- What a step outside the start does to the number of turns: it stays in its turn, begins the next one, or ended the last one.
pub data Counts (k : ℕ) : Option ℕ → Row → Type 0 where
  Stays : (row : Row) → is_turn_over row ≡ false → Counts k (Some k) row
  Begins : nat_lt 1 k ≡ true → Counts k (Some (k - 1)) (at.Turn point.TakeLocal)
  Ends : (turns : Option ℕ) → nat_lt 1 k ≡ false → Counts k turns (at.Ended 0)

module _ (k : ℕ) where
  abbrev C : Desk → Type 0
  C x = Counts k x.turns x.row

  stay : (turns : Option ℕ) (row : Row) → turns ≡ Some k → is_turn_over row ≡ false → Counts k turns row
  stay turns row h q = subst (λ (t : Option ℕ). Counts k t row) (sym h) (Stays row q)

  c_if : (b : Bool) (x y : Desk) → C x → C y → C (if b then x else y)
  c_if true x y p q = p
  c_if false x y p q = q

  -- what keeps the number of turns

  same_if : (b : Bool) (x y : Desk) → x.turns ≡ Some k → y.turns ≡ Some k → (if b then x else y).turns ≡ Some k
  same_if true x y p q = p
  same_if false x y p q = q

  same_requests : (c : Channel) (texts : List (List ℕ)) (x : Desk) → x.turns ≡ Some k → (with_requests c texts x).turns ≡ Some k
  same_requests Local texts x h = h
  same_requests Remote texts x h = h

  same_deferred : (o : Option Job) (c : Channel) (n : ℕ) (x : Desk) → x.turns ≡ Some k → (retried_if o c n x).turns ≡ Some k
  same_deferred None c n x h = h
  same_deferred (Some job) c n x h = h

  same_told : (o : Option Attempt) (c : Channel) (r : Report) (d : Desk) → d.turns ≡ Some k → (told_by o c r d).turns ≡ Some k
  same_told None c r d h = h
  same_told (Some a) c r d h = settled (record d { slots = at_lane c (reported r.slot) d.slots }) h where
    settled : (x : Desk) → x.turns ≡ Some k → (settle r c a x).turns ≡ Some k
    settled x p =
        let after : Desk = record x { slots = at_lane c (left_unmarked a.n) x.slots } in
        same_if (is_final (counted r.letter) a.dying && nat_lt (length (lane c x.slots).marks) MAX_SLOTS) (waits c a (failure_in r) x) (deferred c a.n x) p
        (same_deferred (job_over a.n (lane c after.slots)) c a.n after p)

  same_all : (c : Channel) (rs : List Report) (d : Desk) → d.turns ≡ Some k → (told_all c rs d).turns ≡ Some k
  same_all c [] d h = h
  same_all c (r ∷ rs) d h = same_all c rs (told c r d) (same_told (attempt_in (lane c d.slots).slots r.slot) c r d h)

  same_reader : (c : Channel) (reader : Reader) (d : Desk) → d.turns ≡ Some k → (with_reader c reader d).turns ≡ Some k
  same_reader Local reader d h = h
  same_reader Remote reader d h = h

  same_heard : (c : Channel) (bytes : List ℕ) (d : Desk) → d.turns ≡ Some k → (heard c bytes d).turns ≡ Some k
  same_heard c bytes d h = let it = reports_on (link c d).reader bytes in same_all c it.0 (with_reader c it.1 d) (same_reader c it.1 d h)

  same_begun : (c : Channel) (n begun : ℕ) (records : List Record) (d : Desk) → d.turns ≡ Some k → (has_begun c n begun records d).turns ≡ Some k
  same_begun Local n begun records d h = h
  same_begun Remote n begun records d h = h

  -- the end of a turn

  c_over : (d : Desk) → d.turns ≡ Some k → C (turn_over d)
  c_over d h = subst (λ (t : Option ℕ). C (turn_counted t (record d { busy = false }))) (sym h) (by (nat_lt 1 k) refl) where
    by : (b : Bool) → nat_lt 1 k ≡ b → C (if b then record d { busy = false; turns = Some (k - 1); row = at.Turn point.TakeLocal } else record d { busy = false; turns = Some 0; row = at.Ended 0 })
    by true e = Begins e
    by false e = Ends (Some 0) e

  c_past_finish : (now : ℕ) (d : Desk) → d.turns ≡ Some k → C (past_finish now d)
  c_past_finish now d h = c_if (sweep_due now d.swept) (stands_at d point.Sweep) (turn_over d) (stay d.turns (at.Turn point.Sweep) h refl) (c_over d h)

  c_past_todo : (now : ℕ) (d : Desk) → d.turns ≡ Some k → C (past_todo now d)
  c_past_todo now d h = c_if (is_some (next_idle now d) || sweep_due now d.swept) (stands_at d point.Finish) (turn_over d) (stay d.turns (at.Turn point.Finish) h refl) (c_over d h)

  -- the points

  c_lost : (c : Channel) (d : Desk) → d.turns ≡ Some k → C (goes d (lost c))
  c_lost Local d h = stay d.turns (at.Ended 82) h refl
  c_lost Remote d h = stay d.turns (at.Ended 83) h refl

  c_took : (w : Way) (bytes : List ℕ) (c : Channel) (d : Desk) → d.turns ≡ Some k → C (took w bytes c d)
  c_took way.Fine bytes Local d h = stay (heard Local bytes d).turns (at.Turn point.TakeRemote) (same_heard Local bytes d h) refl
  c_took way.Fine bytes Remote d h = stay (heard Remote bytes d).turns (at.Turn point.Reports) (same_heard Remote bytes d h) refl
  c_took way.Over bytes c d h = c_lost c d h
  c_took way.Absent bytes c d h = c_lost c d h
  c_took way.Broken bytes c d h = c_lost c d h
  c_took way.NoMemory bytes c d h = c_lost c d h

  c_closed : (o : Option Job) (c : Channel) (n : ℕ) (p : Point) (d : Desk) → is_turn_over (at.Turn p) ≡ false → d.turns ≡ Some k → C (closed_by o c n p d)
  c_closed None c n p d q h = stay d.turns (at.Turn p) h q
  c_closed (Some job) c n p d q h = c_if job.unmarked (retried c n job.begun (stands_at d p)) (goes d (at.UnlinkFile c n p)) (stay d.turns (at.Turn p) h q) (stay d.turns (at.UnlinkFile c n p) h refl)

  c_pass : (o : Option (List Record)) (c : Channel) (n begun now : ℕ) (d : Desk) → d.turns ≡ Some k → C (pass_opened o c n begun now d)
  c_pass None c n begun now d h = stay d.turns (at.Turn (point.Pass c false)) h refl
  c_pass (Some records) c n begun now d h =
      let after : Desk = has_begun c n begun records d in
      c_if (is_free_for n (lane c d.slots)) (closed_by (job_over n (lane c after.slots)) c n (point.Pass c false) after) (put_later c n now d)
      (c_closed (job_over n (lane c after.slots)) c n (point.Pass c false) after refl (same_begun c n begun records d h)) (stay d.turns (at.Turn (point.Pass c false)) h refl)

  c_file : (p : Progress) (c : Channel) (n begun : ℕ) (reading : Reading) (now : ℕ) (s : Said) (d : Desk) → d.turns ≡ Some k → C (file_read p c n begun reading now s d)
  c_file (GoesOn on) c n begun reading now s d h = stay d.turns (at.ReadFile c n begun on) h refl
  c_file Whole c n begun reading now s d h = c_pass (records_of d.book.read) c n begun now d h
  c_file Missing c n begun reading now s d h = stay d.turns (at.Turn (point.Pass c false)) h refl
  c_file Failed c n begun reading now s d h = stay d.turns (at.Turn (point.Pass c false)) h refl

  c_marked : (b : Bool) (m : Marked) (d : Desk) → d.turns ≡ Some k → C (mark_over b m d)
  c_marked true m d h = let after : Desk = record d { slots = at_lane m.channel mark_settled d.slots } in c_closed (job_over m.n (lane m.channel after.slots)) m.channel m.n point.Reports after refl h
  c_marked false m d h =
      let after : Desk = record d { slots = at_lane m.channel (left_unmarked m.n) (at_lane m.channel mark_settled d.slots) } in
      c_closed (job_over m.n (lane m.channel after.slots)) m.channel m.n point.Reports after refl h

  c_opened : (w : Way) (m : Marked) (fd : Fd) (d : Desk) → d.turns ≡ Some k → C (mark_opened w m fd d)
  c_opened way.Fine m fd d h = stay d.turns (at.Mark (mark.Write fd) m) h refl
  c_opened way.Over m fd d h = c_marked false m d h
  c_opened way.Absent m fd d h = c_marked false m d h
  c_opened way.NoMemory m fd d h = c_marked false m d h
  c_opened way.Broken m fd d h = c_marked false m d h

  c_noted : (row : NoteRow) (m : Marked) (d : Desk) → d.turns ≡ Some k → C (noted_at row m d)
  c_noted written.Written m d h = stay d.turns (at.Mark mark.Open m) h refl
  c_noted written.Failed m d h = c_marked false m d h
  c_noted row m d h = stay d.turns (at.Mark mark.Noting m) h refl

  c_mark : (row : MarkRow) (m : Marked) (came : GotData) (d : Desk) → d.turns ≡ Some k → C (act_mark row m came d)
  c_mark mark.Note m came d h = let e : Desk = begin_note m d in c_noted (note_moved e.note came).row m (record e { note = note_moved e.note came }) h
  c_mark mark.Noting m came d h = c_noted (note_moved d.note came).row m (record d { note = note_moved d.note came }) h
  c_mark mark.Open m came d h = c_opened (said came).way m (said came).fd d h
  c_mark (mark.Write fd) m came d h = stay d.turns (at.Mark (mark.Close fd (is_fine (said came).way)) m) h refl
  c_mark (mark.Close fd done) m came d h = c_marked done m d h

  c_unlinked : (w : Way) (c : Channel) (n : ℕ) (p : Point) (now : ℕ) (d : Desk) → is_turn_over (at.Turn p) ≡ false → d.turns ≡ Some k → C (unlinked w c n p now d)
  c_unlinked way.Fine c n p now d q h = stay d.turns (at.Turn p) h q
  c_unlinked way.Over c n p now d q h = stay d.turns (at.Turn p) h q
  c_unlinked way.Absent c n p now d q h = stay d.turns (at.Turn p) h q
  c_unlinked way.NoMemory c n p now d q h = stay d.turns (at.Turn p) h q
  c_unlinked way.Broken c n p now d q h = stay d.turns (at.Turn p) h q

  c_sent : (c : Channel) (d : Desk) → d.turns ≡ Some k → C (request_sent c (stands_at d (point.Pass c false)))
  c_sent Local d h =
      let before : Desk = stands_at d (point.Pass Local false) in
      c_if (is_some (next (lane Local d.slots))) (with_requests Local (drop 1 (link Local d).requests) (record before { slots = sent_on Local d.slots })) before
      (stay d.turns (at.Turn (point.Pass Local false)) h refl) (stay d.turns (at.Turn (point.Pass Local false)) h refl)
  c_sent Remote d h =
      let before : Desk = stands_at d (point.Pass Remote false) in
      c_if (is_some (next (lane Remote d.slots))) (with_requests Remote (drop 1 (link Remote d).requests) (record before { slots = sent_on Remote d.slots })) before
      (stay d.turns (at.Turn (point.Pass Remote false)) h refl) (stay d.turns (at.Turn (point.Pass Remote false)) h refl)

  c_requested : (w : Way) (c : Channel) (d : Desk) → d.turns ≡ Some k → C (requested w c d)
  c_requested way.Fine c d h = c_sent c d h
  c_requested way.Over c d h = c_lost c d h
  c_requested way.Absent c d h = c_lost c d h
  c_requested way.NoMemory c d h = c_lost c d h
  c_requested way.Broken c d h = c_lost c d h

  c_none : (again : Bool) (last : List ℕ) (now : ℕ) (d : Desk) → d.turns ≡ Some k → C (todo_none again last now d)
  c_none false (b ∷ bs) now d h = stay d.turns (todo_none false (b ∷ bs) now d).row h refl
  c_none false [] now d h = c_past_todo now d h
  c_none true last now d h = c_past_todo now d h

  c_found : (o : Option ℕ) (text : List ℕ) (s : Search) (d : Desk) → d.turns ≡ Some k → C (todo_found o text s d)
  c_found None text s d h = stay d.turns (todo_found None text s d).row h refl
  c_found (Some n) text s d h = stay d.turns at.InTodo h refl

  c_named : (w : Way) (text : List ℕ) (s : Search) (now : ℕ) (d : Desk) → d.turns ≡ Some k → C (todo_named w text s now d)
  c_named way.Fine text s now d h = c_found (message_number text) text s d h
  c_named way.Over text s now d h = c_none (is_again s) d.last_left now d h
  c_named way.Absent text s now d h = c_none (is_again s) d.last_left now d h
  c_named way.NoMemory text s now d h = c_none (is_again s) d.last_left now d h
  c_named way.Broken text s now d h = c_none (is_again s) d.last_left now d h

  c_on : (row : PassRow) (p : Pass) (now : ℕ) (d : Desk) → d.turns ≡ Some k → C (todo_on row p now d)
  c_on (todo.Left why) p now d h = c_past_todo now (record d { pass = p; last_left = digits p.n }) h
  c_on todo.Lost p now d h = stay d.turns (at.Ended 81) h refl
  c_on row p now d h = stay d.turns at.InTodo h refl

  c_went : (row : PassRow) (came : GotData) (p : Pass) (now : ℕ) (d : Desk) → d.turns ≡ Some k → C (todo_went row came p now d)
  c_went todo.Answer came p now d h =
      let learnt : Desk = record d { pass = p; book = record d.book { messages = learned (known_of p) now d.book.messages } } in
      c_if (is_done (answer_row came)) (past_todo now learnt) (todo_on (answer_row came) p now d) (c_past_todo now learnt h) (c_on (answer_row came) p now d h)
  c_went row came p now d h = c_on p.row p now d h

  c_finish_at : (row : FinishRow) (n now : ℕ) (d : Desk) → d.turns ≡ Some k → C (finish_at row n now d)
  c_finish_at finish.Later n now d h = c_past_finish now (put_off_to n (now + 123) d) h
  c_finish_at finish.Over n now d h = c_past_finish now (forgot n d) h
  c_finish_at finish.Lost n now d h = stay d.turns (at.Ended 81) h refl
  c_finish_at finish.OpenBounce n now d h = stay d.turns (at.Finish finish.OpenBounce n) h refl
  c_finish_at finish.Return n now d h = stay d.turns (at.Finish finish.Return n) h refl
  c_finish_at finish.UnlinkInfo n now d h = stay d.turns (at.Finish finish.UnlinkInfo n) h refl
  c_finish_at finish.Give n now d h = stay d.turns (at.Finish finish.Give n) h refl
  c_finish_at finish.Take n now d h = stay d.turns (at.Finish finish.Take n) h refl

  c_finish : (row : FinishRow) (n now : ℕ) (came : GotData) (d : Desk) → d.turns ≡ Some k → C (act_finish row n now came d)
  c_finish finish.OpenBounce n now came d h = let r : Returning = bounce_on n now came (return_begun n) d.book in c_finish_at (returned_to r.row) n now (record d { bounce = r; busy = true }) h
  c_finish finish.Return n now came d h = let r : Returning = bounce_on n now came d.bounce d.book in c_finish_at (returned_to r.row) n now (record d { bounce = r }) h
  c_finish row n now came d h = c_finish_at (finish_to row (said came).way) n now d h

  same_swept : (row : SweepRow) (now : ℕ) (d : Desk) → d.turns ≡ Some k → (sweep_begun row now d).turns ≡ Some k
  same_swept sweep.First now d h = h
  same_swept row now d h = h

  c_sweep : (row : SweepRow) (d : Desk) → d.turns ≡ Some k → C (sweep_at row d)
  c_sweep sweep.Over d h = c_over d h
  c_sweep sweep.Lost d h = stay d.turns (at.Ended 81) h refl
  c_sweep sweep.First d h = stay d.turns (at.Sweep sweep.First) h refl
  c_sweep (sweep.Next split) d h = stay d.turns (at.Sweep (sweep.Next split)) h refl
  c_sweep (sweep.StatMess split n) d h = stay d.turns (at.Sweep (sweep.StatMess split n)) h refl
  c_sweep (sweep.StatTodo split n) d h = stay d.turns (at.Sweep (sweep.StatTodo split n)) h refl
  c_sweep (sweep.StatInfo split n todo) d h = stay d.turns (at.Sweep (sweep.StatInfo split n todo)) h refl
  c_sweep (sweep.Give split n) d h = stay d.turns (at.Sweep (sweep.Give split n)) h refl
  c_sweep (sweep.Take split n) d h = stay d.turns (at.Sweep (sweep.Take split n)) h refl

  -- a step outside the start
  pub c_step : (E : ℕ → Type 0) (row : Row) (now : ℕ) (came : GotData) (d : Desk) → FineAt E row d.pass.row → MayCome (due_at row d) came → is_starting row ≡ false → d.turns ≡ Some k → C (act row now came d)
  c_step E (at.Start row) now came d fine may late h = absurd (cc)
  c_step E (at.Turn p) now came d fine may late h = absurd may
  c_step E (at.TakeLink c) now came d fine may late h = c_took (said came).way (said came).bytes c d h
  c_step E (at.Mark row m) now came d fine may late h = c_mark row m came d h
  c_step E (at.UnlinkFile c n p) now came d fine may late h = c_unlinked (said came).way c n p now d fine h
  c_step E (at.ReadFile c n begun reading) now came d fine may late h = c_file (read_on reading (said came)) c n (begun_at reading begun now) reading now (said came) d h
  c_step E (at.Request c) now came d fine may late h = c_requested (said came).way c d h
  c_step E (at.FindTodo s) now came d fine may late h = c_named (said came).way (said came).bytes s now d h
  c_step E at.InTodo now came d fine may late h = c_went d.pass.row came (pass_moved d.book.controls d.pass now came) now d h
  c_step E (at.Finish row n) now came d fine may late h = c_finish row n now came d h
  c_step E (at.Sweep row) now came d fine may late h = c_sweep (sweep_to row now (said came) d.book) (looked_up row (said came) (sweep_begun row now d)) (same_swept row now d h)
  c_step E (at.Ended status) now came d fine may late h = absurd may

-- The whole past

-- so many turns are left and were made, or all were made
pub data Tells (turns : ℕ) (past : List Own) : Type 0 where
  Goes : (k : ℕ) → (place_after (Some turns) past).turns ≡ Some k → 1 ≤ k → k + turns_made turns past ≡ turns → ((place_after (Some turns) past).row ≡ at.Ended 0 → ⊥) → Tells turns past
  Done : turns_made turns past ≡ turns → (place_after (Some turns) past).row ≡ at.Ended 0 → Tells turns past

start_turns : (row : Row) (now : ℕ) (came : GotData) (d : Desk) → is_starting row ≡ true → (act row now came d).turns ≡ d.turns
start_turns (at.Start row) now came d is = refl
start_turns (at.Turn p) now came d is = absurd (cc)
start_turns (at.TakeLink c) now came d is = absurd (cc)
start_turns (at.Mark row m) now came d is = absurd (cc)
start_turns (at.UnlinkFile c n p) now came d is = absurd (cc)
start_turns (at.ReadFile c n begun reading) now came d is = absurd (cc)
start_turns (at.Request c) now came d is = absurd (cc)
start_turns (at.FindTodo s) now came d is = absurd (cc)
start_turns at.InTodo now came d is = absurd (cc)
start_turns (at.Finish row n) now came d is = absurd (cc)
start_turns (at.Sweep row) now came d is = absurd (cc)
start_turns (at.Ended status) now came d is = absurd (cc)

lost_zero : (due : NeedData) (came : GotData) (status : ℕ) → OfLoss due came status → status ≡ 0 → ⊥
lost_zero due came _ (NoCleaner h) is = omega (arith, is)
lost_zero due came _ (NoLocal h) is = omega (arith, is)
lost_zero due came _ (NoRemote h) is = omega (arith, is)

called_zero : (due : NeedData) (came : GotData) (status : ℕ) → OfCall due came status → status ≡ 0 → ⊥
called_zero _ _ _ (Faulty c told f) is = omega (arith, is)
called_zero _ _ _ (NoDir c told f) is = omega (arith, is)
called_zero _ _ _ (NoMemory c told f) is = omega (arith, is)

-- an event of the start doesn't end it with 0
no_zero : (bad : Type 0) (due : NeedData) (came : GotData) (starting : Bool) (status : ℕ) → Event bad starting due came status → starting ≡ true → status ≡ 0 → ⊥
no_zero bad due came starting _ (Made late) on is = let no : true ≡ false = sym on ∙ late in cc
no_zero bad due came starting _ (Bad it) on is = omega (arith, is)
no_zero bad due came starting _ (Lost status l) on is = lost_zero due came status l is
no_zero bad due came starting _ (Called status start c) on is = called_zero due came status c is

by_bool : (P : Type 0) (b : Bool) → (b ≡ true → P) → (b ≡ false → P) → P
by_bool P true if_true if_false = if_true refl
by_bool P false if_true if_false = if_false refl

module _ (turns : ℕ) (event : Own) (before : List Own) (run : IsRunBy (Next (Some turns)) (event ∷ before)) (brings : AllBring (event ∷ before)) where
  abbrev d : Desk
  d = place_after (Some turns) before

  abbrev row : Row
  row = row_now d event.read event.ready

  abbrev x : Desk
  x = place_after (Some turns) (event ∷ before)

  may : MayCome (due_at row d) event.came
  may = subst (λ (n : NeedData). MayCome n event.came) (sym run.1.0) run.1.1

  own : FineAt (Why turns before) row d.pass.row × (is_starting row ≡ is_starting d.row)
  own = arrives (Why turns before) d.row d event.read event.ready (keeps turns before run.0 brings.1)

  -- by the turns that it is in
  same_made : ends_turn turns event before ≡ false → turns_made turns (event ∷ before) ≡ turns_made turns before
  same_made e = let h : turns_made turns (event ∷ before) ≡ 0 + turns_made turns before = ap (λ (b : Bool). cond b 1 0 + turns_made turns before) e in omega (arith, h)

  one_made : ends_turn turns event before ≡ true → turns_made turns (event ∷ before) ≡ 1 + turns_made turns before
  one_made e = ap (λ (b : Bool). cond b 1 0 + turns_made turns before) e

  after_start : in_start turns before ≡ true → (k : ℕ) → d.turns ≡ Some k → 1 ≤ k → k + turns_made turns before ≡ turns → Tells turns (event ∷ before)
  after_start on k h pos sum =
      let none : ends_turn turns event before ≡ false = ap (λ (b : Bool). not b && is_turn_over x.row) on in
      let same = same_made none in
      Goes k (start_turns row event.read event.came d (own.1 ∙ on) ∙ h) pos (omega (arith, same, sum))
      (λ is. no_zero (BadAt row d event.came) event.due event.came (in_start turns before) 0 (subst (λ (r : Row). FineAt (Why turns (event ∷ before)) r x.pass.row) is (keeps turns (event ∷ before) run brings)) on refl)

  by_counts : in_start turns before ≡ false → (k : ℕ) → 1 ≤ k → k + turns_made turns before ≡ turns → (t : Option ℕ) (r : Row) → Counts k t r → x.turns ≡ t → x.row ≡ r → Tells turns (event ∷ before)
  by_counts late k pos sum _ _ (Stays r q) t_is r_is =
      let none : ends_turn turns event before ≡ false = ap (λ (b : Bool). not b && is_turn_over x.row) late ∙ ap is_turn_over r_is ∙ q in
      let same = same_made none in
      Goes k t_is pos (omega (arith, same, sum)) (λ is. let no : true ≡ false = sym (ap is_turn_over is) ∙ ap is_turn_over r_is ∙ q in cc)
  by_counts late k pos sum _ _ (Begins e) t_is r_is =
      let one : ends_turn turns event before ≡ true = ap (λ (b : Bool). not b && is_turn_over x.row) late ∙ ap is_turn_over r_is in
      let more = one_made one in
      let big : 1 < k = ltb-true 1 k e in
      Goes (k - 1) t_is (omega (arith, big)) (omega (arith, more, sum, big)) (λ is. let no : at.Turn point.TakeLocal ≡ at.Ended 0 = sym r_is ∙ is in cc)
  by_counts late k pos sum _ _ (Ends t e) t_is r_is =
      let one : ends_turn turns event before ≡ true = ap (λ (b : Bool). not b && is_turn_over x.row) late ∙ ap is_turn_over r_is in
      let more = one_made one in
      let small : k ≤ 1 = ltb-false 1 k e in
      Done (omega (arith, more, sum, small, pos)) r_is

  -- after an end there is no event
  no_more : d.row ≡ at.Ended 0 → ⊥
  no_more is =
      let ended : row ≡ at.Ended 0 = ap (λ (r : Row). arrive r d event.read event.ready) is in
      subst (λ (r : Row). MayCome (due_at r d) event.came) ended may

  pub more : Tells turns before → Tells turns (event ∷ before)
  more (Done made is) = absurd (no_more is)
  more (Goes k h pos sum on) =
      by_bool (Tells turns (event ∷ before)) (in_start turns before) (λ on. after_start on k h pos sum)
      (λ late. by_counts late k pos sum x.turns x.row (c_step k (Why turns before) row event.read event.came d own.0 may (own.1 ∙ late) h) refl refl)

tells : (turns : ℕ) (past : List Own) → IsRunBy (Next (Some turns)) past → AllBring past → 0 < turns → Tells turns past
tells turns [] run brings some = Goes turns refl (omega (arith, some)) (omega arith) (λ is. cc)
tells turns (event ∷ before) run brings some = more turns event before run brings (tells turns before run.0 brings.1 some)

-- At its end it stands at that

self_start : (E : ℕ → Type 0) (row : StartRow) (pass : PassRow) → FineAt E (at.Start row) pass → FineAt (λ s. at.Start row ≡ at.Ended s) (at.Start row) pass
self_start E (start.Control f Opening) pass h = tt
self_start E (start.Control f (Going fd)) pass h = tt
self_start E (start.Control f (Closing fd)) pass h = tt
self_start E (start.Control f (Shutting fd)) pass h = absurd h
self_start E (start.ReadInfo split n Opening) pass h = tt
self_start E (start.ReadInfo split n (Going fd)) pass h = tt
self_start E (start.ReadInfo split n (Closing fd)) pass h = tt
self_start E (start.ReadInfo split n (Shutting fd)) pass h = absurd h
self_start E (start.Ended status) pass h = absurd h
self_start E start.GreetLocal pass h = tt
self_start E (start.GreetRemote limit) pass h = tt
self_start E (start.Scan split) pass h = tt
self_start E (start.StatTodo split n) pass h = tt
self_start E (start.StatInfo split n) pass h = tt
self_start E (start.StatLocal split n birth) pass h = tt
self_start E (start.StatRemote split n birth local) pass h = tt
self_start E start.Over pass h = tt

self_fine : (E : ℕ → Type 0) (row : Row) (pass : PassRow) → FineAt E row pass → FineAt (λ s. row ≡ at.Ended s) row pass
self_fine E (at.Start r) pass h = self_start E r pass h
self_fine E (at.Turn p) pass h = tt
self_fine E (at.TakeLink c) pass h = tt
self_fine E (at.Mark _ m) pass h = tt
self_fine E (at.UnlinkFile c n p) pass h = h
self_fine E (at.ReadFile c n begun reading) pass h = tt
self_fine E (at.Request c) pass h = tt
self_fine E (at.FindTodo s) pass h = tt
self_fine E at.InTodo pass h = h
self_fine E (at.Finish _ n) pass h = tt
self_fine E (at.Sweep _) pass h = tt
self_fine E (at.Ended status) pass h = refl

stood : (row : Row) (d : Desk) (now : ℕ) (ready : Ready) → arrive row d now ready ≡ at.Ended 0 → row ≡ at.Ended 0
stood (at.Turn p) d now ready is = absurd (subst IsFresh is (point_fresh d now ready p))
stood (at.Start _) d now ready is = is
stood (at.TakeLink c) d now ready is = is
stood (at.Mark _ m) d now ready is = is
stood (at.UnlinkFile c n p) d now ready is = is
stood (at.ReadFile c n begun reading) d now ready is = is
stood (at.Request c) d now ready is = is
stood (at.FindTodo s) d now ready is = is
stood at.InTodo d now ready is = is
stood (at.Finish _ n) d now ready is = is
stood (at.Sweep _) d now ready is = is
stood (at.Ended status) d now ready is = is

pub made_all : (turns : ℕ) (past : List Own) (now : ℕ) (ready : Ready) → IsRunBy (Next (Some turns)) past → AllBring past → Next (Some turns) past now ready ≡ needs.Ended 0 → 0 < turns
    → turns_made turns past ≡ turns
made_all turns past now ready run brings due some =
    let e : Desk = place_after (Some turns) past in
    let r : Row = row_now e now ready in
    let fine = (arrives (Why turns past) e.row e now ready (keeps turns past run brings)).0 in
    let at_end : e.row ≡ at.Ended 0 = stood e.row e now ready (end_at (λ s. r ≡ at.Ended s) r e 0 (self_fine (Why turns past) r e.pass.row fine) due) in
    by (tells turns past run brings some) at_end where
      by : Tells turns past → (place_after (Some turns) past).row ≡ at.Ended 0 → turns_made turns past ≡ turns
      by (Done made is) ended = made
      by (Goes k h pos sum on) ended = absurd (on ended)
