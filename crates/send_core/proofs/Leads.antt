-- Where each step leads, what it knows and asks is as before.
use Rattle.std.proofs.Common.{◌≡◌, ℕ, ◌-◌, List, [], ◌∷◌, drop, Bool, true, false, if◌then◌else◌, nat_lt, Option, Some, None, refl, sym, ap, ◌∙◌, subst}
use Rattle.std.specs.Prelude.{◌||◌, is_some, slice_get}
use Rattle.bounce_record.specs.declared.note_row.NoteRow.{NoteRow}
use Rattle.bounce_record.specs.declared.note_row.NoteRow.TheVariants as written
use Rattle.bounce_record.specs.Returning.{Returning, return_begun}
use Rattle.bounce_record.specs.Writing.{Writing, moved as note_moved}
use Rattle.call_fs.specs.declared.calls.Fd.{Fd}
use Rattle.call_fs.specs.declared.past.GotData.{GotData}
use Rattle.envelope_records.specs.declared.channel.Record.{Record}
use Rattle.mail_bytes.specs.Decimal.{digits}
use Rattle.send_core.specs.declared.desk.Desk.{Desk}
use Rattle.send_parts.specs.declared.row.MarkRow.{MarkRow}
use Rattle.send_parts.specs.declared.row.MarkRow.TheVariants as mark
use Rattle.send_parts.specs.declared.row.Marked.{Marked}
use Rattle.send_parts.specs.declared.row.Point.{Point}
use Rattle.send_parts.specs.declared.row.Point.TheVariants as point
use Rattle.send_parts.specs.declared.row.Row.{Row}
use Rattle.send_parts.specs.declared.row.Row.TheVariants as at
use Rattle.send_core.specs.Desk.{closed, closed_by, done_with, goes, has_begun, is_free_for, later, link, next_idle, past_finish, past_todo, request_sent, retried, retry_of, stands_at, sweep_due, turn_counted, turn_over, with_requests}
use Rattle.send_core.specs.Finish.{act_finish, bounce_on, finish_at, forgot, looked_up, put_off_to, returned_to, sweep_at, sweep_begun}
use Rattle.send_core.specs.Table.{busy}
use Rattle.send_core.specs.Turn.{act_mark, file_read, is_done, known_of, lost, mark_opened, mark_over, note_of, noted_at, pass_opened, put_later, requested, todo_found, todo_named, todo_none, todo_on, todo_over, took, unlinked}
use Rattle.send_jobs.specs.declared.attempts.Attempt.{Attempt}
use Rattle.send_known.specs.declared.channel.Channel.{Channel}
use Rattle.send_known.specs.declared.channel.Channel.TheVariants.{Local, Remote}
use Rattle.send_jobs.specs.declared.jobs.Job.{Job}
use Rattle.send_jobs.specs.Lanes.{job_over, left_unmarked, next, mark_settled}
use Rattle.send_jobs.specs.Sending.{at_lane, lane, sent_on}
use Rattle.send_jobs.specs.Slots.{lowest}
use Rattle.send_known.specs.Known.{is_known}
use Rattle.send_known.specs.Messages.{learned}
use Rattle.send_parts.specs.declared.book.Book.{Book}
use Rattle.send_parts.specs.declared.reading.Progress.{Progress}
use Rattle.send_parts.specs.declared.reading.Progress.TheVariants.{Failed, Goes, Missing, Whole}
use Rattle.send_parts.specs.declared.reading.Reading.{Reading}
use Rattle.send_parts.specs.declared.reading.Reading.TheVariants.{Closing, Going, Opening, Shutting}
use Rattle.send_parts.specs.declared.reply.Way.{Way}
use Rattle.send_parts.specs.declared.reply.Way.TheVariants as way
use Rattle.send_parts.specs.declared.rows.FinishRow.{FinishRow}
use Rattle.send_parts.specs.declared.rows.FinishRow.TheVariants as finish
use Rattle.send_parts.specs.declared.rows.Search.{Search}
use Rattle.send_parts.specs.declared.rows.StartRow.{StartRow}
use Rattle.send_parts.specs.declared.rows.StartRow.TheVariants as start
use Rattle.send_parts.specs.declared.rows.SweepRow.{SweepRow}
use Rattle.send_parts.specs.declared.rows.SweepRow.TheVariants as sweep
use Rattle.send_links.specs.Records.{records_of}
use Rattle.send_parts.specs.Files.{message_number}
use Rattle.send_parts.specs.Finish.{finish_to}
use Rattle.send_parts.specs.Replies.{Said, said}
use Rattle.send_parts.specs.Rows.{is_again}
use Rattle.send_parts.specs.Sweep.{named, searched}
use Rattle.todo_pass.specs.declared.row.Row.{Row as PassRow}
use Rattle.todo_pass.specs.declared.row.Row.TheVariants as todo
use Rattle.todo_pass.specs.Table.{Pass}
use Rattle.bounce_record.specs.declared.return_row.ReturnRow.{ReturnRow}
use Rattle.bounce_record.specs.declared.return_row.ReturnRow.TheVariants as back
use Rattle.send_core.specs.Papers.Papers.{Told}
use Rattle.send_core.proofs.Known.{Sound, sound_forgotten, sound_local_gone, sound_put_off, sound_remote_gone}
use Rattle.send_core.proofs.Asked.{Asked, Base, Facts, FinishSays, Knows, KnowsAt, PassSays, SweepSays, base_begun, base_due, base_heard, base_sent}

module _ (S : ℕ → List ℕ → Type 0) (t : Facts) where
  abbrev pub Ok : Desk → Type 0
  Ok d = Knows S t d

  ok_if : (b : Bool) (x y : Desk) → Ok x → Ok y → Ok (if b then x else y)
  ok_if true x y p q = p
  ok_if false x y p q = q

  ok_counted : (turns : Option ℕ) (d : Desk) → Base S t d → Ok (turn_counted turns d)
  ok_counted None d h = (h, tt)
  ok_counted (Some k) d h = ok_if (nat_lt 1 k) (record d { turns = Some (k - 1); row = at.Turn point.TakeLocal }) (record d { turns = Some 0; row = at.Ended 0 }) (h, tt) tt

  ok_over : (d : Desk) → Base S t d → Ok (turn_over d)
  ok_over d h = ok_counted d.turns (record d { busy = false }) h

  ok_past_finish : (now : ℕ) (d : Desk) → Base S t d → Ok (past_finish now d)
  ok_past_finish now d h = ok_if (sweep_due now d.swept) (stands_at d point.Sweep) (turn_over d) (h, tt) (ok_over d h)

  ok_past_todo : (now : ℕ) (d : Desk) → Base S t d → Ok (past_todo now d)
  ok_past_todo now d h = ok_if (is_some (next_idle now d) || sweep_due now d.swept) (stands_at d point.Finish) (turn_over d) (h, tt) (ok_over d h)

  ok_closed : (o : Option Job) (c : Channel) (n : ℕ) (p : Point) (d : Desk) → Base S t d → Ok (closed_by o c n p d)
  ok_closed None c n p d h = (h, tt)
  ok_closed (Some job) c n p d h = ok_if job.unmarked (retried c n job.begun (stands_at d p)) (goes d (at.UnlinkFile c n p))
      (base_due S t c n (retry_of c n job.begun (stands_at d p)) (stands_at d p) h, tt) (h, tt)

  -- takings, marks and unlinks

  ok_lost : (c : Channel) (d : Desk) → KnowsAt S t (lost c) d
  ok_lost Local d = tt
  ok_lost Remote d = tt

  pub ok_took : (w : Way) (bytes : List ℕ) (c : Channel) (d : Desk) → Base S t d → Ok (busy (took w bytes c d))
  ok_took way.Fine bytes c d h = (base_heard S t c bytes d h, tt)
  ok_took way.Over bytes c d h = ok_lost c (busy (goes d (lost c)))
  ok_took way.Absent bytes c d h = ok_lost c (busy (goes d (lost c)))
  ok_took way.Broken bytes c d h = ok_lost c (busy (goes d (lost c)))
  ok_took way.NoMemory bytes c d h = ok_lost c (busy (goes d (lost c)))

  ok_mark_over : (b : Bool) (c : Channel) (n place : ℕ) (d : Desk) → Base S t d → Ok (mark_over b (record { channel = c; n = n; place = place }) d)
  ok_mark_over true Local n place d h =
      let after : Desk = record d { slots = at_lane Local mark_settled d.slots } in ok_closed (job_over n (lane Local after.slots)) Local n point.Reports after h
  ok_mark_over true Remote n place d h =
      let after : Desk = record d { slots = at_lane Remote mark_settled d.slots } in ok_closed (job_over n (lane Remote after.slots)) Remote n point.Reports after h
  ok_mark_over false Local n place d h =
      let after : Desk = record d { slots = at_lane Local (left_unmarked n) (at_lane Local mark_settled d.slots) } in ok_closed (job_over n (lane Local after.slots)) Local n point.Reports after h
  ok_mark_over false Remote n place d h =
      let after : Desk = record d { slots = at_lane Remote (left_unmarked n) (at_lane Remote mark_settled d.slots) } in ok_closed (job_over n (lane Remote after.slots)) Remote n point.Reports after h

  ok_opened : (w : Way) (m : Marked) (fd : Fd) (d : Desk) → Base S t d → Ok (mark_opened w m fd d)
  ok_opened way.Fine m fd d h = (h, tt)
  ok_opened way.Over m fd d h = ok_mark_over false m.channel m.n m.place d h
  ok_opened way.Absent m fd d h = ok_mark_over false m.channel m.n m.place d h
  ok_opened way.Broken m fd d h = ok_mark_over false m.channel m.n m.place d h
  ok_opened way.NoMemory m fd d h = ok_mark_over false m.channel m.n m.place d h

  ok_noted : (row : NoteRow) (m : Marked) (d : Desk) → Base S t d → Ok (noted_at row m d)
  ok_noted written.Written m d h = (h, tt)
  ok_noted written.Failed m d h = ok_mark_over false m.channel m.n m.place d h
  ok_noted row m d h = (h, tt)

  pub ok_mark : (row : MarkRow) (m : Marked) (got : GotData) (d : Desk) → Base S t d → Ok (act_mark row m got d)
  ok_mark mark.Note m got d h =
      let w : Writing = note_moved (note_of (slice_get (lane m.channel d.slots).marks 0) m.n d.book.controls) got in ok_noted w.row m (record d { note = w }) h
  ok_mark mark.Noting m got d h = let w : Writing = note_moved d.note got in ok_noted w.row m (record d { note = w }) h
  ok_mark mark.Open m got d h = ok_opened (said got).way m (said got).fd d h
  ok_mark (mark.Write fd) m got d h = (h, tt)
  ok_mark (mark.Close fd done) m got d h = ok_mark_over done m.channel m.n m.place d h

  base_done : (c : Channel) (n : ℕ) (d : Desk) → Base S t d → Base S t (done_with c n d)
  base_done Local n d h = (sound_local_gone S t.births.of n d.book.messages h.0, h.1, h.2, h.3)
  base_done Remote n d h = (sound_remote_gone S t.births.of n d.book.messages h.0, h.1, h.2, h.3)

  pub ok_unlinked : (w : Way) (c : Channel) (n : ℕ) (p : Point) (now : ℕ) (d : Desk) → Base S t d → Ok (unlinked w c n p now d)
  ok_unlinked way.Fine c n p now d h = (base_done c n (stands_at d p) h, tt)
  ok_unlinked way.Over c n p now d h = (base_due S t c n (later now) (stands_at d p) h, tt)
  ok_unlinked way.Absent c n p now d h = (base_due S t c n (later now) (stands_at d p) h, tt)
  ok_unlinked way.Broken c n p now d h = (base_due S t c n (later now) (stands_at d p) h, tt)
  ok_unlinked way.NoMemory c n p now d h = (base_due S t c n (later now) (stands_at d p) h, tt)

  -- passes

  ok_later : (c : Channel) (n now : ℕ) (d : Desk) → Base S t d → Ok (put_later c n now d)
  ok_later c n now d h = (base_due S t c n (later now) (stands_at d (point.Pass c false)) h, tt)

  ok_pass : (o : Option (List Record)) (c : Channel) (n begun now : ℕ) (d : Desk) → is_known n d.book.messages.known ≡ true → Base S t d → Ok (pass_opened o c n begun now d)
  ok_pass None c n begun now d is h = ok_later c n now d h
  ok_pass (Some records) c n begun now d is h =
      let after : Desk = has_begun c n begun records d in
      ok_if (is_free_for n (lane c d.slots)) (closed c n (point.Pass c false) after) (put_later c n now d)
      (ok_closed (job_over n (lane c after.slots)) c n (point.Pass c false) after (base_begun S t c n begun records d is h)) (ok_later c n now d h)

  -- whether the turn had a step makes no difference
  busied_start : (row : StartRow) (d : Desk) → KnowsAt S t (at.Start row) d → KnowsAt S t (at.Start row) (busy d)
  busied_start (start.Control file Opening) d k = k
  busied_start (start.Control file (Going fd)) d k = k
  busied_start (start.Control file (Closing fd)) d k = k
  busied_start (start.Control file (Shutting fd)) d k = k
  busied_start row d k = k

  busied : (row : Row) (d : Desk) → KnowsAt S t row d → KnowsAt S t row (busy d)
  busied (at.Start row) d k = busied_start row d k
  busied (at.Ended status) d k = tt
  busied row d k = k

  pub ok_file : (p : Progress) (c : Channel) (n begun : ℕ) (reading : Reading) (now : ℕ) (s : Said) (d : Desk) → is_known n d.book.messages.known ≡ true → Base S t d
      → Ok (busy (file_read p c n begun reading now s d))
  ok_file (Goes next) c n begun reading now s d is h = (h, is)
  ok_file Whole c n begun reading now s d is h = let e : Desk = pass_opened (records_of d.book.read) c n begun now d in busied e.row e (ok_pass (records_of d.book.read) c n begun now d is h)
  ok_file Missing c n begun reading now s d is h = ok_later c n now d h
  ok_file Failed c n begun reading now s d is h = ok_later c n now d h

  row_if : (b : Bool) (x y : Desk) (row : Row) → x.row ≡ row → y.row ≡ row → (if b then x else y).row ≡ row
  row_if true x y row p q = p
  row_if false x y row p q = q

  pub ok_requested : (w : Way) (c : Channel) (slot : ℕ) (a : Attempt) (d : Desk) → lowest (lane c d.slots).slots ≡ Some slot → next (lane c d.slots) ≡ Some a → Base S t d → Ok (busy (requested w c d))
  ok_requested way.Fine c slot a d low first h =
      let before : Desk = stands_at d (point.Pass c false) in
      let row : (request_sent c before).row ≡ at.Turn (point.Pass c false) =
      row_if (is_some (next (lane c before.slots))) (with_requests c (drop 1 (link c before).requests) (record before { slots = sent_on c before.slots })) before (at.Turn (point.Pass c false)) (same_row c (drop 1 (link c before).requests) (record before { slots = sent_on c before.slots })) refl in
      subst (λ (r : Row). KnowsAt S t r (busy (request_sent c before))) (sym row) (base_sent S t c slot a before low first h, tt)
    where
      same_row : (c : Channel) (texts : List (List ℕ)) (d : Desk) → (with_requests c texts d).row ≡ d.row
      same_row Local texts d = refl
      same_row Remote texts d = refl
  ok_requested way.Over c slot a d low first h = ok_lost c (busy (goes d (lost c)))
  ok_requested way.Absent c slot a d low first h = ok_lost c (busy (goes d (lost c)))
  ok_requested way.Broken c slot a d low first h = ok_lost c (busy (goes d (lost c)))
  ok_requested way.NoMemory c slot a d low first h = ok_lost c (busy (goes d (lost c)))

  -- preprocessing

  ok_found : (o : Option ℕ) (text : List ℕ) (search : Search) (d : Desk) → Base S t d → Ok (todo_found o text search d)
  ok_found None text search d h = (h, tt)
  ok_found (Some n) text search d h = (h, refl)

  ok_none : (again : Bool) (text : List ℕ) (now : ℕ) (d : Desk) → Base S t d → Ok (todo_none again text now d)
  ok_none false (b ∷ bs) now d h = (h, tt)
  ok_none false [] now d h = ok_past_todo now d h
  ok_none true text now d h = ok_past_todo now d h

  pub ok_named : (w : Way) (text : List ℕ) (search : Search) (now : ℕ) (d : Desk) → Base S t d → Ok (todo_named w text search now d)
  ok_named way.Fine text search now d h = ok_found (message_number text) text search d h
  ok_named way.Over text search now d h = ok_none (is_again search) d.last_left now d h
  ok_named way.Absent text search now d h = ok_none (is_again search) d.last_left now d h
  ok_named way.Broken text search now d h = ok_none (is_again search) d.last_left now d h
  ok_named way.NoMemory text search now d h = ok_none (is_again search) d.last_left now d h

  -- a pass stands at its row
  pub ok_on : (row : PassRow) (p : Pass) (now : ℕ) (d : Desk) → PassSays S t p.row p → Base S t d → Ok (todo_on row p now d)
  ok_on (todo.Left why) p now d says h = ok_past_todo now (record d { pass = p; last_left = digits p.n }) h
  ok_on todo.Lost p now d says h = tt
  ok_on (todo.Clear t) p now d says h = (h, says)
  ok_on todo.StatMess p now d says h = (h, says)
  ok_on todo.OpenTodo p now d says h = (h, says)
  ok_on (todo.ReadTodo fd) p now d says h = (h, says)
  ok_on (todo.CloseTodo fd) p now d says h = (h, says)
  ok_on (todo.Create t) p now d says h = (h, says)
  ok_on (todo.Append t fd done) p now d says h = (h, says)
  ok_on (todo.Sync t fd) p now d says h = (h, says)
  ok_on (todo.Close t fd) p now d says h = (h, says)
  ok_on (todo.Shut fd why) p now d says h = (h, says)
  ok_on todo.Give p now d says h = (h, says)
  ok_on todo.Answer p now d says h = (h, says)
  ok_on todo.Done p now d says h = (h, says)

  -- a pass is over: after `+` the message is known, with what is told then, and else all is as before
  pub ok_over_pass : (row : PassRow) (p : Pass) (now : ℕ) (d : Desk)
      → (is_done row ≡ true → Sound S t.births.of (learned (known_of p) now d.book.messages) × Asked S d.local.requests d.slots.local.left × Asked S d.remote.requests d.slots.remote.left × (t.papers ≡ Told d.book.controls))
      → (is_done row ≡ false → PassSays S t p.row p × Base S t d) → Ok (todo_over row p now d)
  ok_over_pass row p now d done other = by (is_done row) refl where
    learnt : Desk
    learnt = record d { pass = p; book = record d.book { messages = learned (known_of p) now d.book.messages } }

    by : (b : Bool) → is_done row ≡ b → Ok (if b then past_todo now learnt else todo_on row p now d)
    by true e = ok_past_todo now learnt (done e)
    by false e = ok_on row p now d (other e).0 (other e).1

  -- finish and sweep

  ok_finish_at : (row : FinishRow) (n now : ℕ) (d : Desk) → FinishSays S t row n → Base S t d → Ok (finish_at row n now d)
  ok_finish_at finish.OpenBounce n now d says h = (h, tt)
  ok_finish_at finish.Return n now d says h = (h, tt)
  ok_finish_at finish.UnlinkInfo n now d says h = (h, tt)
  ok_finish_at finish.Give n now d says h = (h, tt)
  ok_finish_at finish.Take n now d says h = (h, says)
  ok_finish_at finish.Later n now d says h = ok_past_finish now (put_off_to n (later now) d) (sound_put_off S t.births.of n (later now) d.book.messages h.0, h.1, h.2, h.3)
  ok_finish_at finish.Over n now d says h = ok_past_finish now (forgot n d) (sound_forgotten S t.births.of n d.book.messages h.0, h.1, h.2, h.3)
  ok_finish_at finish.Lost n now d says h = tt

  returned_says : (row : ReturnRow) (n : ℕ) → FinishSays S t (returned_to row) n
  returned_says back.Over n = tt
  returned_says back.Failed n = tt
  returned_says row n = tt

  pub ok_finish : (row : FinishRow) (n now : ℕ) (got : GotData) (d : Desk) → FinishSays S t (finish_to row (said got).way) n → Base S t d → Ok (act_finish row n now got d)
  ok_finish finish.OpenBounce n now got d says h =
      let r : Returning = bounce_on n now got (return_begun n) d.book in ok_finish_at (returned_to r.row) n now (record d { bounce = r; busy = true }) (returned_says r.row n) h
  ok_finish finish.Return n now got d says h =
      let r : Returning = bounce_on n now got d.bounce d.book in ok_finish_at (returned_to r.row) n now (record d { bounce = r }) (returned_says r.row n) h
  ok_finish row n now got d says h = ok_finish_at (finish_to row (said got).way) n now d says h

  pub ok_swept : (row : SweepRow) (d : Desk) → SweepSays S t row → Base S t d → Ok (sweep_at row d)
  ok_swept sweep.Over d says h = ok_over d h
  ok_swept sweep.Lost d says h = tt
  ok_swept row d says h = (h, says)

  base_begun_sweep : (row : SweepRow) (now : ℕ) (d : Desk) → Base S t d → Base S t (sweep_begun row now d)
  base_begun_sweep sweep.First now d h = h
  base_begun_sweep row now d h = h

  same_named : (w : Way) (text : List ℕ) (b : Book) → (named w text b).messages ≡ b.messages
  same_named way.Fine text b = refl
  same_named way.Over text b = refl
  same_named way.Absent text b = refl
  same_named way.Broken text b = refl
  same_named way.NoMemory text b = refl

  same_searched : (row : SweepRow) (s : Said) (b : Book) → (searched row s b).messages ≡ b.messages
  same_searched sweep.First s b = same_named s.way s.bytes b
  same_searched (sweep.Next split) s b = same_named s.way s.bytes b
  same_searched row s b = refl

  named_controls : (w : Way) (text : List ℕ) (b : Book) → (named w text b).controls ≡ b.controls
  named_controls way.Fine text b = refl
  named_controls way.Over text b = refl
  named_controls way.Absent text b = refl
  named_controls way.Broken text b = refl
  named_controls way.NoMemory text b = refl

  same_controls : (row : SweepRow) (s : Said) (b : Book) → (searched row s b).controls ≡ b.controls
  same_controls sweep.First s b = named_controls s.way s.bytes b
  same_controls (sweep.Next split) s b = named_controls s.way s.bytes b
  same_controls row s b = refl

  pub base_looked : (row : SweepRow) (s : Said) (now : ℕ) (d : Desk) → Base S t d → Base S t (looked_up row s (sweep_begun row now d))
  base_looked row s now d h =
      let was : Base S t (sweep_begun row now d) = base_begun_sweep row now d h in
      (subst (Sound S t.births.of) (sym (same_searched row s (sweep_begun row now d).book)) was.0, was.1, was.2, was.3 ∙ ap Told (sym (same_controls row s (sweep_begun row now d).book)))
