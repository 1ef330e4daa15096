-- Each step of a sender keeps what it keeps fitting its account.
use Rattle.std.proofs.Common.{◌≡◌, ℕ, List, [], ◌∷◌, ◌++◌, length, drop, Bool, true, false, not, ◌&&◌, if◌then◌else◌, nat_lt, Option, Some, None, refl, sym, ap, ◌∙◌, subst, inl}
use Rattle.std.specs.Prelude.{◌==◌, is_none, is_some}
use Rattle.std.proofs.lemmas.Bool.{and_from, and_parts, eq-eqb, not-true}
use Rattle.address_rules.specs.Files.{place}
use Rattle.bounce_record.specs.declared.return_row.ReturnRow.{ReturnRow}
use Rattle.bounce_record.specs.declared.return_row.ReturnRow.TheVariants as back
use Rattle.bounce_record.specs.Returning.{Returning, return_begun, due_at as return_due_at}
use Rattle.bounce_record.specs.Writing.{Writing}
use Rattle.call_fs.specs.declared.calls.Answer.{Answer}
use Rattle.call_fs.specs.declared.calls.Answer.TheVariants as answer
use Rattle.call_fs.specs.declared.calls.CallData.TheVariants as call
use Rattle.call_fs.specs.declared.calls.Fd.{Fd}
use Rattle.call_fs.specs.declared.calls.FsError.TheVariants as why
use Rattle.call_fs.specs.declared.calls.How.TheVariants as how
use Rattle.call_fs.specs.declared.calls.Told.{Told}
use Rattle.call_fs.specs.declared.past.GotData.{GotData}
use Rattle.call_fs.specs.declared.past.GotData.TheVariants as came
use Rattle.call_fs.specs.declared.past.NeedData.{NeedData}
use Rattle.call_fs.specs.Columns.{IsAnswerTo}
use Rattle.call_fs.specs.Program.{MayCome}
use Rattle.envelope_records.specs.declared.channel.Record.{Record}
use Rattle.mail_bytes.specs.Decimal.{digits}
use Rattle.queue_paths.specs.Names.{Name, parse, path}
use Rattle.queue_paths.specs.Names.Name.{Of}
use Rattle.queue_paths.specs.Names.Part.{Bounce as BounceFile, Info as InfoFile, Local as LocalFile, Remote as RemoteFile, Todo as TodoFile, Mess as MessFile}
use Rattle.queue_paths.proofs.Paths.{parse-path}
use Rattle.send_core.specs.declared.desk.Desk.{Desk}
use Rattle.send_parts.specs.declared.row.MarkRow.{MarkRow}
use Rattle.send_parts.specs.declared.row.MarkRow.TheVariants as mark
use Rattle.send_parts.specs.declared.row.Marked.{Marked}
use Rattle.send_parts.specs.declared.row.Point.{Point}
use Rattle.send_parts.specs.declared.row.Point.TheVariants as point
use Rattle.send_parts.specs.declared.row.Row.{Row}
use Rattle.send_parts.specs.declared.row.Row.TheVariants as at
use Rattle.send_core.specs.Desk.{closed, closed_by, goes, has_begun, is_dying, is_free_for, later, past_todo, request_sent, retried, stands_at, with_requests}
use Rattle.send_core.specs.Finish.{bounce_on, finish_at, forgot, looked_up, put_off_to, returned_to, sweep_at, sweep_begun}
use Rattle.send_core.specs.Table.{act, busy, due_at, port_of}
use Rattle.send_core.specs.Turn.{file_read, is_done, known_of, lost, mark_over, pass_opened, put_later, todo_found, todo_named, todo_none, todo_on, todo_over, todo_went, unlinked}
use Rattle.send_jobs.specs.declared.attempts.Attempt.{Attempt}
use Rattle.send_jobs.specs.declared.attempts.Mark.{Mark}
use Rattle.send_known.specs.declared.channel.Channel.{Channel}
use Rattle.send_known.specs.declared.channel.Channel.TheVariants.{Local, Remote}
use Rattle.send_jobs.specs.declared.jobs.Job.{Job}
use Rattle.send_jobs.specs.declared.lane.Lane.{Lane}
use Rattle.send_jobs.specs.Lanes.{finished, is_in_flight, is_open_on, job_over, left_unmarked, next, mark_settled}
use Rattle.send_jobs.specs.Sending.{at_lane, lane, sent_on}
use Rattle.send_jobs.specs.Slots.{lowest}
use Rattle.send_known.specs.Messages.{learned}
use Rattle.send_links.specs.declared.link.Link.{Link}
use Rattle.send_parts.specs.declared.reading.Progress.TheVariants.{Goes}
use Rattle.send_parts.specs.declared.reading.Reading.{Reading}
use Rattle.send_parts.specs.declared.reading.Reading.TheVariants.{Closing, Going, Opening, Shutting}
use Rattle.send_parts.specs.declared.reply.Way.{Way}
use Rattle.send_parts.specs.declared.reply.Way.TheVariants as way
use Rattle.send_parts.specs.declared.rows.FinishRow.{FinishRow}
use Rattle.send_parts.specs.declared.rows.FinishRow.TheVariants as finish
use Rattle.send_parts.specs.declared.rows.Search.{Search}
use Rattle.send_parts.specs.declared.rows.SweepRow.{SweepRow}
use Rattle.send_parts.specs.declared.rows.SweepRow.TheVariants as sweep
use Rattle.send_links.specs.Records.{records_of}
use Rattle.send_parts.specs.Files.{message_number}
use Rattle.send_parts.specs.Finish.{finish_to}
use Rattle.send_parts.specs.Replies.{Said, answered, said}
use Rattle.send_links.specs.Requests.{first_text}
use Rattle.send_parts.specs.Rows.{is_again}
use Rattle.send_parts.specs.Sweep.{sweep_to}
use Rattle.todo_pass.specs.declared.part.Target.TheVariants as target
use Rattle.todo_pass.specs.declared.row.Row.{Row as PassRow}
use Rattle.todo_pass.specs.declared.row.Row.TheVariants as todo
use Rattle.todo_pass.specs.Table.{Pass, answer_row, due_by as pass_due, moved as pass_moved}
use Rattle.todo_pass.specs.Table as pass_table
use Rattle.send_core.specs.Past.{Account, Happening, Owed, Source, Work, account_by, closed_if, took as took_in, longer, given, happening, note_created, opened as file_opened, opened_as, source_of, tasks_by, uncreated_note, work_by}
use Rattle.send_core.specs.Past.Happening.{Nothing, Gives, Marks}
use Rattle.send_core.specs.Past.Work.{Reading as ReadingFile}
use Rattle.send_core.proofs.Coming.{by_file, not_channel}
use Rattle.send_core.proofs.Early.{StepOf}
use Rattle.send_core.proofs.Lists.{map_drop}
use Rattle.send_core.proofs.Lanes.{marked_holds}
use Rattle.send_core.specs.Agrees.{owed_at}
use Rattle.send_core.proofs.Fits.{Fits}
use Rattle.send_core.proofs.Changes.{DeskFits, Heard, begun_local, begun_remote, given_local, given_remote, heard_local, heard_remote}
use Rattle.send_core.proofs.Standing.{BareAt, Calm, CalmAt, FitAt, Half, IsBare, IsFit, IsReading, closed_fits, either, finish_fits, over_fits, todo_fits}

-- Where a step leads, after an event that says nothing of the channels

module _ (P : MarkRow → Option Mark → Marked → Writing → Type 0) (f : Option Work) (al ar : Account) where
  abbrev Fitting : Desk → Type 0
  Fitting d = IsFit P f al ar d

  abbrev Still : Desk → Type 0
  Still d = Calm P f al ar d

  lost_fits : (c : Channel) (d : Desk) → FitAt P f al ar (lost c) d
  lost_fits Local d = tt
  lost_fits Remote d = tt

  pub mark_fits : (b : Bool) (c : Channel) (n place : ℕ) (d : Desk) → Half P f al ar c d.slots d.local d.remote
      → Fitting (mark_over b (record { channel = c; n = n; place = place }) d)
  mark_fits true Local n place d h =
      let after : Desk = record d { slots = at_lane Local mark_settled d.slots } in
      closed_fits P f al ar (job_over n (lane Local after.slots)) Local n point.Reports after (h.0, h.1, tt)
  mark_fits true Remote n place d h =
      let after : Desk = record d { slots = at_lane Remote mark_settled d.slots } in
      closed_fits P f al ar (job_over n (lane Remote after.slots)) Remote n point.Reports after (h.0, h.1, tt)
  mark_fits false Local n place d h =
      let after : Desk = record d { slots = at_lane Local (left_unmarked n) (at_lane Local mark_settled d.slots) } in
      closed_fits P f al ar (job_over n (lane Local after.slots)) Local n point.Reports after (h.0, h.1, tt)
  mark_fits false Remote n place d h =
      let after : Desk = record d { slots = at_lane Remote (left_unmarked n) (at_lane Remote mark_settled d.slots) } in
      closed_fits P f al ar (job_over n (lane Remote after.slots)) Remote n point.Reports after (h.0, h.1, tt)

  unlinked_fits : (w : Way) (c : Channel) (n : ℕ) (p : Point) (now : ℕ) (d : Desk) → CalmAt P f al ar p d → Fitting (unlinked w c n p now d)
  unlinked_fits way.Fine Local n p now d h = h
  unlinked_fits way.Fine Remote n p now d h = h
  unlinked_fits way.Over Local n p now d h = h
  unlinked_fits way.Over Remote n p now d h = h
  unlinked_fits way.Absent Local n p now d h = h
  unlinked_fits way.Absent Remote n p now d h = h
  unlinked_fits way.Broken Local n p now d h = h
  unlinked_fits way.Broken Remote n p now d h = h
  unlinked_fits way.NoMemory Local n p now d h = h
  unlinked_fits way.NoMemory Remote n p now d h = h

  later_fits : (c : Channel) (n now : ℕ) (d : Desk) → Still d → Fitting (busy (put_later c n now d))
  later_fits Local n now d h = h
  later_fits Remote n now d h = h

  found_fits : (o : Option ℕ) (text : List ℕ) (search : Search) (d : Desk) → Still d → Fitting (todo_found o text search d)
  found_fits None text search d h = h
  found_fits (Some n) text search d h = h

  none_fits : (again : Bool) (text : List ℕ) (now : ℕ) (d : Desk) → Still d → Fitting (todo_none again text now d)
  none_fits false (b ∷ bs) now d h = h
  none_fits false [] now d h = todo_fits P f al ar now d h
  none_fits true text now d h = todo_fits P f al ar now d h

  named_fits : (w : Way) (text : List ℕ) (search : Search) (now : ℕ) (d : Desk) → Still d → Fitting (todo_named w text search now d)
  named_fits way.Fine text search now d h = found_fits (message_number text) text search d h
  named_fits way.Over text search now d h = none_fits (is_again search) d.last_left now d h
  named_fits way.Absent text search now d h = none_fits (is_again search) d.last_left now d h
  named_fits way.Broken text search now d h = none_fits (is_again search) d.last_left now d h
  named_fits way.NoMemory text search now d h = none_fits (is_again search) d.last_left now d h

  on_fits : (row : PassRow) (p : Pass) (now : ℕ) (d : Desk) → Still d → Fitting (todo_on row p now d)
  on_fits (todo.Left why) p now d h = todo_fits P f al ar now (record d { pass = p; last_left = digits p.n }) h
  on_fits todo.Lost p now d h = tt
  on_fits row p now d h = h

  over_pass_fits : (row : PassRow) (p : Pass) (now : ℕ) (d : Desk) → Still d → Fitting (todo_over row p now d)
  over_pass_fits row p now d h =
      let learnt : Desk = record d { pass = p; book = record d.book { messages = learned (known_of p) now d.book.messages } } in
      either P f al ar (is_done row) (past_todo now learnt) (todo_on row p now d) (todo_fits P f al ar now learnt h) (on_fits row p now d h)

  went_fits : (row : PassRow) (got : GotData) (p : Pass) (now : ℕ) (d : Desk) → Still d → Fitting (todo_went row got p now d)
  went_fits todo.Answer got p now d h = over_pass_fits (answer_row got) p now d h
  went_fits row got p now d h = on_fits p.row p now d h

  finished_fits : (row : FinishRow) (n now : ℕ) (d : Desk) → Still d → Fitting (finish_at row n now d)
  finished_fits finish.OpenBounce n now d h = h
  finished_fits finish.Return n now d h = h
  finished_fits finish.UnlinkInfo n now d h = h
  finished_fits finish.Give n now d h = h
  finished_fits finish.Take n now d h = h
  finished_fits finish.Later n now d h = finish_fits P f al ar now (put_off_to n (later now) d) h
  finished_fits finish.Over n now d h = finish_fits P f al ar now (forgot n d) h
  finished_fits finish.Lost n now d h = tt

  swept_fits : (row : SweepRow) (d : Desk) → Still d → Fitting (sweep_at row d)
  swept_fits sweep.Over d h = over_fits P f al ar d h
  swept_fits sweep.Lost d h = tt
  swept_fits row d h = h

  busy_either : (b : Bool) (x y : Desk) → Fitting (busy x) → Fitting (busy y) → Fitting (busy (if b then x else y))
  busy_either true x y p q = p
  busy_either false x y p q = q

  busy_when : (b : Bool) (x y : Desk) → (b ≡ true → Fitting (busy x)) → Fitting (busy y) → Fitting (busy (if b then x else y))
  busy_when true x y p q = p refl
  busy_when false x y p q = q

  busy_closed : (o : Option Job) (c : Channel) (n : ℕ) (p : Point) (d : Desk) → CalmAt P f al ar p d → Fitting (busy (closed_by o c n p d))
  busy_closed None c n p d h = h
  busy_closed (Some job) Local n p d h = busy_either job.unmarked (retried Local n job.begun (stands_at d p)) (goes d (at.UnlinkFile Local n p)) h h
  busy_closed (Some job) Remote n p d h = busy_either job.unmarked (retried Remote n job.begun (stands_at d p)) (goes d (at.UnlinkFile Remote n p)) h h

-- A pass begins, or doesn't, once its file was read

anew : (a : Account) (lane : Lane) (link : Link) (n : ℕ) (dying : Bool) (o : Option (List Record)) → lane.left ≡ [] → Fits false a lane link → Fits false (record a { to_give = tasks_by n dying o }) lane link
anew a lane link n dying o none h = (h.0, inl none, h.2, h.3, h.4, h.5)

-- an attempt at the message isn't in flight
none_flies : (n : ℕ) (lane : Lane) → is_free_for n lane ≡ true → is_in_flight n lane ≡ false
none_flies n lane free =
    let done : finished n lane ≡ true = (and_parts (is_none (next lane)) (finished n lane) free).1 in
    not-true (is_in_flight n lane) (and_parts (not (is_open_on n lane)) (not (is_in_flight n lane)) done).1

begins_local : (P : MarkRow → Option Mark → Marked → Writing → Type 0) (al ar : Account) (bytes : List ℕ) (o : Option (List Record)) (n begun now : ℕ) (d : Desk) → records_of bytes ≡ o → d.slots.local.left ≡ [] → IsBare al ar → DeskFits al ar d
    → IsFit P None (record al { to_give = tasks_by n (is_dying n begun d) o }) ar (busy (pass_opened o Local n begun now d))
begins_local P al ar bytes None n begun now d read none b h = later_fits P None (record al { to_give = [] }) ar Local n now d ((anew al d.slots.local d.local n (is_dying n begun d) None none h.0, h.1, h.2, h.3), refl, b)
begins_local P al ar bytes (Some records) n begun now d read none b h =
    let after : Desk = has_begun Local n begun records d in
    let a : Account = record al { to_give = tasks_by n (is_dying n begun d) (Some records) } in
    busy_when P None a ar (is_free_for n (lane Local d.slots)) (closed Local n (point.Pass Local false) after) (put_later Local n now d)
    (λ free. busy_closed P None a ar (job_over n (lane Local after.slots)) Local n (point.Pass Local false) after (begun_local al ar n begun bytes records d (none_flies n d.slots.local free) read h, refl, b))
    (later_fits P None a ar Local n now d ((anew al d.slots.local d.local n (is_dying n begun d) (Some records) none h.0, h.1, h.2, h.3), refl, b))

begins_remote : (P : MarkRow → Option Mark → Marked → Writing → Type 0) (al ar : Account) (bytes : List ℕ) (o : Option (List Record)) (n begun now : ℕ) (d : Desk) → records_of bytes ≡ o → d.slots.remote.left ≡ [] → IsBare al ar → DeskFits al ar d
    → IsFit P None al (record ar { to_give = tasks_by n (is_dying n begun d) o }) (busy (pass_opened o Remote n begun now d))
begins_remote P al ar bytes None n begun now d read none b h = later_fits P None al (record ar { to_give = [] }) Remote n now d ((h.0, anew ar d.slots.remote d.remote n (is_dying n begun d) None none h.1, h.2, h.3), refl, b)
begins_remote P al ar bytes (Some records) n begun now d read none b h =
    let after : Desk = has_begun Remote n begun records d in
    let a : Account = record ar { to_give = tasks_by n (is_dying n begun d) (Some records) } in
    busy_when P None al a (is_free_for n (lane Remote d.slots)) (closed Remote n (point.Pass Remote false) after) (put_later Remote n now d)
    (λ free. busy_closed P None al a (job_over n (lane Remote after.slots)) Remote n (point.Pass Remote false) after (begun_remote al ar n begun bytes records d (none_flies n d.slots.remote free) read h, refl, b))
    (later_fits P None al a Remote n now d ((h.0, anew ar d.slots.remote d.remote n (is_dying n begun d) (Some records) none h.1, h.2, h.3), refl, b))

-- What an event says

module _ (late : ℕ → Bool) (owed : List Owed) where
  abbrev Silent : NeedData → GotData → Type 0
  Silent due got = (work_by late None due got ≡ None) × (happening due got None owed Local ≡ Nothing) × (happening due got None owed Remote ≡ Nothing)

  -- a file that is created is no bounce file
  not_noted : (x : Name) → ((told : Answer) → (note_created (Some x) told ≡ None) × ((c : Channel) → uncreated_note (Some x) told owed c ≡ Nothing)) → (told : Answer)
      → (note_created (parse (path x)) told ≡ None) × (uncreated_note (parse (path x)) told owed Local ≡ Nothing) × (uncreated_note (parse (path x)) told owed Remote ≡ Nothing)
  not_noted x none told = (
    ap (λ (o : Option Name). note_created o told) (parse-path x) ∙ (none told).0,
    ap (λ (o : Option Name). uncreated_note o told owed Local) (parse-path x) ∙ (none told).1 Local,
    ap (λ (o : Option Name). uncreated_note o told owed Remote) (parse-path x) ∙ (none told).1 Remote,
  )

  -- what is due at a step of a todo pass
  pass_silent : (row : PassRow) (p : Pass) (got : GotData) → MayCome (pass_table.due_at row p) got → Silent (pass_table.due_at row p) got
  pass_silent (todo.Clear t) p got may = by_file (pass_table.due_at (todo.Clear t) p) tt (Silent (pass_table.due_at (todo.Clear t) p)) got may (λ told fit. (refl, refl, refl))
  pass_silent todo.StatMess p got may = by_file (pass_table.due_at todo.StatMess p) tt (Silent (pass_table.due_at todo.StatMess p)) got may (λ told fit. (refl, refl, refl))
  pass_silent todo.OpenTodo p got may = by_file (pass_table.due_at todo.OpenTodo p) tt (Silent (pass_table.due_at todo.OpenTodo p)) got may (λ told fit. (not_channel late (Of TodoFile p.n) (λ fd. refl) told.answer, refl, refl))
  pass_silent (todo.ReadTodo fd) p got may = by_file (pass_table.due_at (todo.ReadTodo fd) p) tt (Silent (pass_table.due_at (todo.ReadTodo fd) p)) got may (λ told fit. (refl, refl, refl))
  pass_silent (todo.CloseTodo fd) p got may = by_file (pass_table.due_at (todo.CloseTodo fd) p) tt (Silent (pass_table.due_at (todo.CloseTodo fd) p)) got may (λ told fit. (refl, refl, refl))
  pass_silent (todo.Create target.Info) p got may = by_file (pass_table.due_at (todo.Create target.Info) p) tt (Silent (pass_table.due_at (todo.Create target.Info) p)) got may (λ told fit. not_noted (Of InfoFile p.n) (λ a. (refl, λ c. refl)) told.answer)
  pass_silent (todo.Create target.Local) p got may = by_file (pass_table.due_at (todo.Create target.Local) p) tt (Silent (pass_table.due_at (todo.Create target.Local) p)) got may (λ told fit. not_noted (Of LocalFile p.n) (λ a. (refl, λ c. refl)) told.answer)
  pass_silent (todo.Create target.Remote) p got may = by_file (pass_table.due_at (todo.Create target.Remote) p) tt (Silent (pass_table.due_at (todo.Create target.Remote) p)) got may (λ told fit. not_noted (Of RemoteFile p.n) (λ a. (refl, λ c. refl)) told.answer)
  pass_silent (todo.Append t fd done) p got may = by_file (pass_table.due_at (todo.Append t fd done) p) tt (Silent (pass_table.due_at (todo.Append t fd done) p)) got may (λ told fit. (refl, refl, refl))
  pass_silent (todo.Sync t fd) p got may = by_file (pass_table.due_at (todo.Sync t fd) p) tt (Silent (pass_table.due_at (todo.Sync t fd) p)) got may (λ told fit. (refl, refl, refl))
  pass_silent (todo.Close t fd) p got may = by_file (pass_table.due_at (todo.Close t fd) p) tt (Silent (pass_table.due_at (todo.Close t fd) p)) got may (λ told fit. (refl, refl, refl))
  pass_silent (todo.Shut fd why) p got may = by_file (pass_table.due_at (todo.Shut fd why) p) tt (Silent (pass_table.due_at (todo.Shut fd why) p)) got may (λ told fit. (refl, refl, refl))
  pass_silent todo.Give p got may = (refl, refl, refl)
  pass_silent todo.Answer p got may = (refl, refl, refl)
  pass_silent todo.Done p got may = absurd may
  pass_silent (todo.Left why) p got may = absurd may
  pass_silent todo.Lost p got may = absurd may

  -- Finish and sweep

  -- what is due at a step of a return
  return_silent : (row : ReturnRow) (r : Returning) (got : GotData) → MayCome (return_due_at row r) got → Silent (return_due_at row r) got
  return_silent back.Open r got may = by_file (return_due_at back.Open r) tt (Silent (return_due_at back.Open r)) got may (λ told fit. (not_channel late (Of BounceFile r.n) (λ fd. refl) told.answer, refl, refl))
  return_silent (back.ReadNotes fd) r got may = by_file (return_due_at (back.ReadNotes fd) r) tt (Silent (return_due_at (back.ReadNotes fd) r)) got may (λ told fit. (refl, refl, refl))
  return_silent (back.CloseNotes fd) r got may = by_file (return_due_at (back.CloseNotes fd) r) tt (Silent (return_due_at (back.CloseNotes fd) r)) got may (λ told fit. (refl, refl, refl))
  return_silent back.OpenMessage r got may = by_file (return_due_at back.OpenMessage r) tt (Silent (return_due_at back.OpenMessage r)) got may (λ told fit. (not_channel late (Of MessFile r.n) (λ fd. refl) told.answer, refl, refl))
  return_silent (back.ReadMessage fd) r got may = by_file (return_due_at (back.ReadMessage fd) r) tt (Silent (return_due_at (back.ReadMessage fd) r)) got may (λ told fit. (refl, refl, refl))
  return_silent (back.CloseMessage fd) r got may = by_file (return_due_at (back.CloseMessage fd) r) tt (Silent (return_due_at (back.CloseMessage fd) r)) got may (λ told fit. (refl, refl, refl))
  return_silent (back.Shut fd) r got may = by_file (return_due_at (back.Shut fd) r) tt (Silent (return_due_at (back.Shut fd) r)) got may (λ told fit. (refl, refl, refl))
  return_silent back.Start r got may = (refl, refl, refl)
  return_silent (back.Give pid) r got may = (refl, refl, refl)
  return_silent (back.Await pid) r got may = (refl, refl, refl)
  return_silent back.Unlink r got may = by_file (return_due_at back.Unlink r) tt (Silent (return_due_at back.Unlink r)) got may (λ told fit. (refl, refl, refl))
  return_silent back.Discard r got may = by_file (return_due_at back.Discard r) tt (Silent (return_due_at back.Discard r)) got may (λ told fit. (refl, refl, refl))
  return_silent back.Over r got may = absurd may
  return_silent back.Failed r got may = absurd may

  finish_silent : (row : FinishRow) (n : ℕ) (d : Desk) (got : GotData) → MayCome (due_at (at.Finish row n) d) got → Silent (due_at (at.Finish row n) d) got
  finish_silent finish.OpenBounce n d got may = by_file (due_at (at.Finish finish.OpenBounce n) d) tt (Silent (due_at (at.Finish finish.OpenBounce n) d)) got may (λ told fit. (not_channel late (Of BounceFile n) (λ fd. refl) told.answer, refl, refl))
  finish_silent finish.Return n d got may = return_silent d.bounce.row d.bounce got may
  finish_silent finish.UnlinkInfo n d got may = by_file (due_at (at.Finish finish.UnlinkInfo n) d) tt (Silent (due_at (at.Finish finish.UnlinkInfo n) d)) got may (λ told fit. (refl, refl, refl))
  finish_silent finish.Give n d got may = (refl, refl, refl)
  finish_silent finish.Take n d got may = (refl, refl, refl)
  finish_silent finish.Later n d got may = absurd may
  finish_silent finish.Over n d got may = absurd may
  finish_silent finish.Lost n d got may = absurd may

  sweep_silent : (row : SweepRow) (d : Desk) (got : GotData) → MayCome (due_at (at.Sweep row) d) got → Silent (due_at (at.Sweep row) d) got
  sweep_silent sweep.First d got may = by_file (due_at (at.Sweep sweep.First) d) tt (Silent (due_at (at.Sweep sweep.First) d)) got may (λ told fit. (refl, refl, refl))
  sweep_silent (sweep.Next split) d got may = by_file (due_at (at.Sweep (sweep.Next split)) d) tt (Silent (due_at (at.Sweep (sweep.Next split)) d)) got may (λ told fit. (refl, refl, refl))
  sweep_silent (sweep.StatMess split n) d got may = by_file (due_at (at.Sweep (sweep.StatMess split n)) d) tt (Silent (due_at (at.Sweep (sweep.StatMess split n)) d)) got may (λ told fit. (refl, refl, refl))
  sweep_silent (sweep.StatTodo split n) d got may = by_file (due_at (at.Sweep (sweep.StatTodo split n)) d) tt (Silent (due_at (at.Sweep (sweep.StatTodo split n)) d)) got may (λ told fit. (refl, refl, refl))
  sweep_silent (sweep.StatInfo split n todo) d got may = by_file (due_at (at.Sweep (sweep.StatInfo split n todo)) d) tt (Silent (due_at (at.Sweep (sweep.StatInfo split n todo)) d)) got may (λ told fit. (refl, refl, refl))
  sweep_silent (sweep.Give split n) d got may = (refl, refl, refl)
  sweep_silent (sweep.Take split n) d got may = (refl, refl, refl)
  sweep_silent sweep.Over d got may = absurd may
  sweep_silent sweep.Lost d got may = absurd may

-- then the channels rest as before
quiet : (P : MarkRow → Option Mark → Marked → Writing → Type 0) (late : ℕ → Bool) (due : NeedData) (got : GotData) (al ar : Account) (d : Desk) → Silent late al.to_mark due got → IsBare al ar → DeskFits al ar d
    → Calm P (work_by late None due got) (account_by (happening due got None al.to_mark Local) al) (account_by (happening due got None al.to_mark Remote) ar) d
quiet P late due got al ar d s b h = (
  subst (λ (x : Happening). DeskFits (account_by x al) (account_by (happening due got None al.to_mark Remote) ar) d) (sym s.1)
      (subst (λ (x : Happening). DeskFits al (account_by x ar) d) (sym s.2) h),
  s.0,
  (ap (λ (x : Happening). (account_by x al).to_mark) s.1 ∙ b.0, ap (λ (x : Happening). (account_by x ar).to_mark) s.2 ∙ b.1),
)

begun_same : (row : SweepRow) (now : ℕ) (al ar : Account) (d : Desk) → DeskFits al ar d → DeskFits al ar (sweep_begun row now d)
begun_same sweep.First now al ar d h = h
begun_same row now al ar d h = h

-- a read goes on where the last one ended, and the close is of the same file

pub same_place : (k at : ℕ) → ((k == k) && (at == at)) ≡ true
same_place k at = and_from (k == k) (at == at) (eq-eqb k k refl) (eq-eqb at at refl)

pub same_end : (k : ℕ) → ((k == k) && true) ≡ true
same_end k = and_from (k == k) true (eq-eqb k k refl) refl

-- The steps of a turn

module _ (P : MarkRow → Option Mark → Marked → Writing → Type 0) (late : ℕ → Bool) (now : ℕ) (d : Desk) (al ar : Account) where
  pub unlink_step : (c : Channel) (n : ℕ) (p : Point) (got : GotData) → DeskFits al ar d → BareAt p al ar → MayCome (due_at (at.UnlinkFile c n p) d) got → StepOf P late now d None al ar (at.UnlinkFile c n p) got
  unlink_step c n p got h b may =
      by_file (due_at (at.UnlinkFile c n p) d) tt (StepOf P late now d None al ar (at.UnlinkFile c n p)) got may
      (λ told fit. unlinked_fits P None al ar (answered told.answer told.bytes).way c n p now d (h, refl, b))

  pub find_step : (search : Search) (got : GotData) → DeskFits al ar d → IsBare al ar → MayCome (due_at (at.FindTodo search) d) got → StepOf P late now d None al ar (at.FindTodo search) got
  find_step search got h b may =
      by_file (due_at (at.FindTodo search) d) tt (StepOf P late now d None al ar (at.FindTodo search)) got may
      (λ told fit. named_fits P None al ar (answered told.answer told.bytes).way (answered told.answer told.bytes).bytes search now d (h, refl, b))

  pub todo_step : (got : GotData) → DeskFits al ar d → IsBare al ar → MayCome (due_at at.InTodo d) got → StepOf P late now d None al ar at.InTodo got
  todo_step got h b may =
      let s : Silent late al.to_mark (pass_due d.pass) got = pass_silent late al.to_mark d.pass.row d.pass got may in
      went_fits P (work_by late None (pass_due d.pass) got) (account_by (happening (pass_due d.pass) got None al.to_mark Local) al) (account_by (happening (pass_due d.pass) got None al.to_mark Remote) ar)
      d.pass.row got (pass_moved d.book.controls d.pass now got) now d (quiet P late (pass_due d.pass) got al ar d s b h)

  pub finish_step : (row : FinishRow) (n : ℕ) (got : GotData) → DeskFits al ar d → IsBare al ar → MayCome (due_at (at.Finish row n) d) got → StepOf P late now d None al ar (at.Finish row n) got
  finish_step finish.OpenBounce n got h b may =
      let due : NeedData = due_at (at.Finish finish.OpenBounce n) d in
      let r : Returning = bounce_on n now got (return_begun n) d.book in
      let e : Desk = record d { bounce = r; busy = true } in
      finished_fits P (work_by late None due got) (account_by (happening due got None al.to_mark Local) al) (account_by (happening due got None al.to_mark Remote) ar)
      (returned_to r.row) n now e (quiet P late due got al ar e (finish_silent late al.to_mark finish.OpenBounce n d got may) b h)
  finish_step finish.Return n got h b may =
      let due : NeedData = due_at (at.Finish finish.Return n) d in
      let r : Returning = bounce_on n now got d.bounce d.book in
      let e : Desk = record d { bounce = r } in
      finished_fits P (work_by late None due got) (account_by (happening due got None al.to_mark Local) al) (account_by (happening due got None al.to_mark Remote) ar)
      (returned_to r.row) n now e (quiet P late due got al ar e (finish_silent late al.to_mark finish.Return n d got may) b h)
  finish_step row n got h b may =
      let due : NeedData = due_at (at.Finish row n) d in
      finished_fits P (work_by late None due got) (account_by (happening due got None al.to_mark Local) al) (account_by (happening due got None al.to_mark Remote) ar)
      (finish_to row (said got).way) n now d (quiet P late due got al ar d (finish_silent late al.to_mark row n d got may) b h)

  pub sweep_step : (row : SweepRow) (got : GotData) → DeskFits al ar d → IsBare al ar → MayCome (due_at (at.Sweep row) d) got → StepOf P late now d None al ar (at.Sweep row) got
  sweep_step row got h b may =
      let due : NeedData = due_at (at.Sweep row) d in
      swept_fits P (work_by late None due got) (account_by (happening due got None al.to_mark Local) al) (account_by (happening due got None al.to_mark Remote) ar)
      (sweep_to row now (said got) d.book) (looked_up row (said got) (sweep_begun row now d))
      (quiet P late due got al ar (looked_up row (said got) (sweep_begun row now d)) (sweep_silent late al.to_mark row d got may) b (begun_same row now al ar d h))

  -- a taking

  took_local : (bytes : List ℕ) (o : Option (List ℕ)) → al.heard ≡ o → Heard o → DeskFits al ar d → IsFit P None (took_in o bytes al) ar (act (at.TakeLink Local) now (came.Took bytes) d)
  took_local bytes None e some h = absurd some
  took_local bytes (Some before) e some h = (heard_local al ar before bytes d e h, refl, tt)

  took_remote : (bytes : List ℕ) (o : Option (List ℕ)) → ar.heard ≡ o → Heard o → DeskFits al ar d → IsFit P None al (took_in o bytes ar) (act (at.TakeLink Remote) now (came.Took bytes) d)
  took_remote bytes None e some h = absurd some
  took_remote bytes (Some before) e some h = (heard_remote al ar before bytes d e h, refl, tt)

  pub take_step : (c : Channel) (got : GotData) → DeskFits al ar d → MayCome (due_at (at.TakeLink c) d) got → StepOf P late now d None al ar (at.TakeLink c) got
  take_step Local (came.Took bytes) h may = took_local bytes al.heard refl h.2 h
  take_step Remote (came.Took bytes) h may = took_remote bytes ar.heard refl h.3 h
  take_step Local came.End h may = tt
  take_step Remote came.End h may = tt
  take_step Local came.Failed h may = tt
  take_step Remote came.Failed h may = tt
  take_step Local (came.Answered told) h may = absurd may
  take_step Remote (came.Answered told) h may = absurd may
  take_step Local (came.Ended status) h may = absurd may
  take_step Remote (came.Ended status) h may = absurd may
  take_step Local came.Crashed h may = absurd may
  take_step Remote came.Crashed h may = absurd may
  take_step Local came.Gave h may = absurd may
  take_step Remote came.Gave h may = absurd may
  take_step Local (came.Started pid) h may = absurd may
  take_step Remote (came.Started pid) h may = absurd may
  take_step Local came.Memory h may = absurd may
  take_step Remote came.Memory h may = absurd may

  -- a mark on the local channel

  opened_local : (n place : ℕ) (told : Told) → IsAnswerTo (call.Open (path (Of LocalFile n)) how.Write) told.answer → ((fd : Fd) → told.answer ≡ answer.Opened fd → P (mark.Write fd) None (record { channel = Local; n = n; place = place }) d.note)
      → DeskFits al ar d → IsFit P None (account_by Marks al) ar (act (at.Mark mark.Open (record { channel = Local; n = n; place = place })) now (came.Answered told) d)
  opened_local n place told fit opens h = by_told told.answer fit opens where
    half : Half P None (account_by Marks al) ar Local d.slots d.local d.remote
    half = (((h.0.0, h.0.1, h.0.2, h.0.3, map_drop owed_at d.slots.local.marks al.to_mark h.0.4, marked_holds al.limit al.to_mark d.slots.local.slots d.slots.local.left h.0.5), h.1, h.2, h.3), refl)

    by_told : (t : Answer) → IsAnswerTo (call.Open (path (Of LocalFile n)) how.Write) t → ((fd : Fd) → t ≡ answer.Opened fd → P (mark.Write fd) None (record { channel = Local; n = n; place = place }) d.note)
        → IsFit P None (account_by Marks al) ar (act (at.Mark mark.Open (record { channel = Local; n = n; place = place })) now (came.Answered (record { answer = t; bytes = told.bytes })) d)
    by_told (answer.Opened fd) fit opens = (half, opens fd refl)
    by_told (answer.Refused why.NotThere) fit opens = mark_fits P None (account_by Marks al) ar false Local n place d half
    by_told (answer.Refused why.Fault) fit opens = mark_fits P None (account_by Marks al) ar false Local n place d half
    by_told (answer.Refused why.Memory) fit opens = mark_fits P None (account_by Marks al) ar false Local n place d half
    by_told t fit opens = absurd fit

  -- a mark on the remote channel

  opened_remote : (n place : ℕ) (told : Told) → IsAnswerTo (call.Open (path (Of RemoteFile n)) how.Write) told.answer → ((fd : Fd) → told.answer ≡ answer.Opened fd → P (mark.Write fd) None (record { channel = Remote; n = n; place = place }) d.note)
      → DeskFits al ar d → IsFit P None al (account_by Marks ar) (act (at.Mark mark.Open (record { channel = Remote; n = n; place = place })) now (came.Answered told) d)
  opened_remote n place told fit opens h = by_told told.answer fit opens where
    half : Half P None al (account_by Marks ar) Remote d.slots d.local d.remote
    half = ((h.0, (h.1.0, h.1.1, h.1.2, h.1.3, map_drop owed_at d.slots.remote.marks ar.to_mark h.1.4, marked_holds ar.limit ar.to_mark d.slots.remote.slots d.slots.remote.left h.1.5), h.2, h.3), refl)

    by_told : (t : Answer) → IsAnswerTo (call.Open (path (Of RemoteFile n)) how.Write) t → ((fd : Fd) → t ≡ answer.Opened fd → P (mark.Write fd) None (record { channel = Remote; n = n; place = place }) d.note)
        → IsFit P None al (account_by Marks ar) (act (at.Mark mark.Open (record { channel = Remote; n = n; place = place })) now (came.Answered (record { answer = t; bytes = told.bytes })) d)
    by_told (answer.Opened fd) fit opens = (half, opens fd refl)
    by_told (answer.Refused why.NotThere) fit opens = mark_fits P None al (account_by Marks ar) false Remote n place d half
    by_told (answer.Refused why.Fault) fit opens = mark_fits P None al (account_by Marks ar) false Remote n place d half
    by_told (answer.Refused why.Memory) fit opens = mark_fits P None al (account_by Marks ar) false Remote n place d half
    by_told t fit opens = absurd fit

  pub open_step : (c : Channel) (n place : ℕ) (got : GotData) → ((told : Told) (fd : Fd) → got ≡ came.Answered told → told.answer ≡ answer.Opened fd → P (mark.Write fd) None (record { channel = c; n = n; place = place }) d.note)
      → DeskFits al ar d → MayCome (due_at (at.Mark mark.Open (record { channel = c; n = n; place = place })) d) got
      → StepOf P late now d None al ar (at.Mark mark.Open (record { channel = c; n = n; place = place })) got
  open_step Local n place got opens h may =
      let row : Row = at.Mark mark.Open (record { channel = Local; n = n; place = place }) in
      let marks : file_opened (parse (path (Of LocalFile n))) Local ≡ Marks = ap (λ (o : Option Name). file_opened o Local) (parse-path (Of LocalFile n)) in
      let other : file_opened (parse (path (Of LocalFile n))) Remote ≡ Nothing = ap (λ (o : Option Name). file_opened o Remote) (parse-path (Of LocalFile n)) in
      by_file (due_at row d) tt (λ (g : GotData). ((told : Told) (fd : Fd) → g ≡ came.Answered told → told.answer ≡ answer.Opened fd → P (mark.Write fd) None (record { channel = Local; n = n; place = place }) d.note) → StepOf P late now d None al ar row g) got may
      (λ told fit opens.
      subst (λ (x : Happening). IsFit P None (account_by x al) (account_by (file_opened (parse (path (Of LocalFile n))) Remote) ar) (act row now (came.Answered told) d)) (sym marks)
      (subst (λ (x : Happening). IsFit P None (account_by Marks al) (account_by x ar) (act row now (came.Answered told) d)) (sym other)
      (opened_local n place told fit (λ fd e. opens told fd refl e) h))) opens
  open_step Remote n place got opens h may =
      let row : Row = at.Mark mark.Open (record { channel = Remote; n = n; place = place }) in
      let marks : file_opened (parse (path (Of RemoteFile n))) Remote ≡ Marks = ap (λ (o : Option Name). file_opened o Remote) (parse-path (Of RemoteFile n)) in
      let other : file_opened (parse (path (Of RemoteFile n))) Local ≡ Nothing = ap (λ (o : Option Name). file_opened o Local) (parse-path (Of RemoteFile n)) in
      by_file (due_at row d) tt (λ (g : GotData). ((told : Told) (fd : Fd) → g ≡ came.Answered told → told.answer ≡ answer.Opened fd → P (mark.Write fd) None (record { channel = Remote; n = n; place = place }) d.note) → StepOf P late now d None al ar row g) got may
      (λ told fit opens.
      subst (λ (x : Happening). IsFit P None (account_by x al) (account_by (file_opened (parse (path (Of RemoteFile n))) Remote) ar) (act row now (came.Answered told) d)) (sym other)
      (subst (λ (x : Happening). IsFit P None al (account_by x ar) (act row now (came.Answered told) d)) (sym marks)
      (opened_remote n place told fit (λ fd e. opens told fd refl e) h))) opens

  pub write_step : (c : Channel) (fd : Fd) (n place : ℕ) (got : GotData) → Half P None al ar c d.slots d.local d.remote → MayCome (due_at (at.Mark (mark.Write fd) (record { channel = c; n = n; place = place })) d) got
      → StepOf P late now d None al ar (at.Mark (mark.Write fd) (record { channel = c; n = n; place = place })) got
  write_step c fd n place got h may =
      let row : Row = at.Mark (mark.Write fd) (record { channel = c; n = n; place = place }) in
      by_file (due_at row d) tt (StepOf P late now d None al ar row) got may (λ told fit. h)

  pub close_step : (c : Channel) (fd : Fd) (written : Bool) (n place : ℕ) (got : GotData) → Half P None al ar c d.slots d.local d.remote
      → MayCome (due_at (at.Mark (mark.Close fd written) (record { channel = c; n = n; place = place })) d) got
      → StepOf P late now d None al ar (at.Mark (mark.Close fd written) (record { channel = c; n = n; place = place })) got
  close_step c fd written n place got h may =
      let row : Row = at.Mark (mark.Close fd written) (record { channel = c; n = n; place = place }) in
      by_file (due_at row d) tt (StepOf P late now d None al ar row) got may (λ told fit. mark_fits P None al ar written c n place d h)

  -- a local channel file is read

  abbrev source_local : ℕ → ℕ → Fd → List ℕ → Bool → Source
  source_local n begun fd bytes over = record { channel = Local; n = n; fd = fd; bytes = bytes; over = over; dying = is_dying n begun d }

  -- a remote channel file is read

  abbrev source_remote : ℕ → ℕ → Fd → List ℕ → Bool → Source
  source_remote n begun fd bytes over = record { channel = Remote; n = n; fd = fd; bytes = bytes; over = over; dying = is_dying n begun d }

  file_opened_local : (n begun : ℕ) (told : Answer) (bytes : List ℕ) → late n ≡ is_dying n now d → IsAnswerTo (call.Open (path (Of LocalFile n)) how.Read) told → d.slots.local.left ≡ [] → IsBare al ar → DeskFits al ar d
      → IsFit P (opened_as late (parse (path (Of LocalFile n))) told) al ar (act (at.ReadFile Local n begun Opening) now (came.Answered (record { answer = told; bytes = bytes })) d)
  file_opened_local n begun (answer.Opened fd) bytes dies fit none b h = (h, none, ap (λ (o : Option Name). source_of late o fd) (parse-path (Of LocalFile n)) ∙ ap (λ (x : Bool). Some (ReadingFile (record { channel = Local; n = n; fd = fd; bytes = []; over = false; dying = x }))) dies, b)
  file_opened_local n begun (answer.Refused why.NotThere) bytes dies fit none b h = later_fits P None al ar Local n now d (h, refl, b)
  file_opened_local n begun (answer.Refused why.Fault) bytes dies fit none b h = later_fits P None al ar Local n now d (h, refl, b)
  file_opened_local n begun (answer.Refused why.Memory) bytes dies fit none b h = later_fits P None al ar Local n now d (h, refl, b)
  file_opened_local n begun told bytes dies fit none b h = absurd fit

  more_local : (n begun : ℕ) (fd : Fd) (last : Bool) (s : Said) → d.slots.local.left ≡ [] → IsBare al ar → DeskFits al ar d
      → IsFit P (Some (ReadingFile (source_local n begun fd (d.book.read ++ s.bytes) last))) al ar (busy (file_read (if last then Goes (Closing fd) else Goes (Going fd)) Local n begun (Going fd) now s d))
  more_local n begun fd true s none b h = (h, none, refl, b)
  more_local n begun fd false s none b h = (h, none, refl, b)

  file_going_local : (n begun : ℕ) (fd : Fd) (told : Answer) (bytes : List ℕ) → IsAnswerTo (call.ReadAt fd (length d.book.read) 8192) told → d.slots.local.left ≡ [] → IsBare al ar → DeskFits al ar d
      → IsFit P (longer (source_local n begun fd d.book.read false) 8192 told bytes) al ar
      (act (at.ReadFile Local n begun (Going fd)) now (came.Answered (record { answer = told; bytes = bytes })) d)
  file_going_local n begun fd (answer.Count count) bytes fit none b h = more_local n begun fd (nat_lt (length bytes) 8192) (answered (answer.Count count) bytes) none b h
  file_going_local n begun fd (answer.Refused why.Fault) bytes fit none b h = (h, none, refl, b)
  file_going_local n begun fd told bytes fit none b h = absurd fit

  pub file_step_local : (f : Option Work) (n begun : ℕ) (reading : Reading) (got : GotData) → (reading ≡ Opening → late n ≡ is_dying n now d) → d.slots.local.left ≡ [] → IsBare al ar → DeskFits al ar d → IsReading P f al ar reading Local n begun d.book
      → MayCome (due_at (at.ReadFile Local n begun reading) d) got → StepOf P late now d f al ar (at.ReadFile Local n begun reading) got
  file_step_local f n begun Opening got dies none b h e may = subst (λ (o : Option Work). StepOf P late now d o al ar (at.ReadFile Local n begun Opening) got) (sym e)
      (by_file (due_at (at.ReadFile Local n begun Opening) d) tt (StepOf P late now d None al ar (at.ReadFile Local n begun Opening)) got may
      (λ told fit. file_opened_local n begun told.answer told.bytes (dies refl) fit none b h))
  file_step_local f n begun (Going fd) got dies none b h e may = subst (λ (o : Option Work). StepOf P late now d o al ar (at.ReadFile Local n begun (Going fd)) got) (sym e)
      (by_file (due_at (at.ReadFile Local n begun (Going fd)) d) tt (StepOf P late now d (Some (ReadingFile (source_local n begun fd d.book.read false))) al ar (at.ReadFile Local n begun (Going fd))) got may
      (λ told fit. subst
      (λ (x : Bool). IsFit P (if x then longer (source_local n begun fd d.book.read false) 8192 told.answer told.bytes else Some (ReadingFile (source_local n begun fd d.book.read false))) al ar (act (at.ReadFile Local n begun (Going fd)) now (came.Answered told) d))
      (sym (same_place fd.0 (length d.book.read)))
      (file_going_local n begun fd told.answer told.bytes fit none b h)))
  file_step_local f n begun (Closing fd) got dies none b h e may = subst (λ (o : Option Work). StepOf P late now d o al ar (at.ReadFile Local n begun (Closing fd)) got) (sym e)
      (by_file (due_at (at.ReadFile Local n begun (Closing fd)) d) tt (StepOf P late now d (Some (ReadingFile (source_local n begun fd d.book.read true))) al ar (at.ReadFile Local n begun (Closing fd))) got may
      (λ told fit. subst
      (λ (x : Bool). IsFit P None (account_by (closed_if x (source_local n begun fd d.book.read true) Local) al) (account_by (closed_if x (source_local n begun fd d.book.read true) Remote) ar) (act (at.ReadFile Local n begun (Closing fd)) now (came.Answered told) d))
      (sym (same_end fd.0))
      (begins_local P al ar d.book.read (records_of d.book.read) n begun now d refl none b h)))
  file_step_local f n begun (Shutting fd) got dies none b h e may = subst (λ (o : Option Work). StepOf P late now d o al ar (at.ReadFile Local n begun (Shutting fd)) got) (sym e)
      (by_file (due_at (at.ReadFile Local n begun (Shutting fd)) d) tt (StepOf P late now d None al ar (at.ReadFile Local n begun (Shutting fd))) got may
      (λ told fit. later_fits P None al ar Local n now d (h, refl, b)))

  -- a request

  row_local : (b : Bool) (x y : Desk) (row : Row) → x.row ≡ row → y.row ≡ row → (if b then x else y).row ≡ row
  row_local true x y row p q = p
  row_local false x y row p q = q

  gave_local : (slot : ℕ) (a : Attempt) → lowest d.slots.local.slots ≡ Some slot → next d.slots.local ≡ Some a → IsBare al ar → DeskFits al ar d
      → IsFit P None (account_by (Gives slot) al) ar (act (at.Request Local) now came.Gave d)
  gave_local slot a low first b h =
      let before : Desk = stands_at d (point.Pass Local false) in
      let after : Desk = request_sent Local before in
      let row : after.row ≡ at.Turn (point.Pass Local false) =
      row_local (is_some (next d.slots.local)) (with_requests Local (drop 1 d.local.requests) (record before { slots = sent_on Local d.slots })) before (at.Turn (point.Pass Local false)) refl refl in
      subst (λ (r : Row). FitAt P None (account_by (Gives slot) al) ar r (busy after)) (sym row) (given_local al ar slot a before low first b.0 h, refl, b)

  pub request_local : (slot : ℕ) (a : Attempt) (rest : List ℕ) (got : GotData) → lowest d.slots.local.slots ≡ Some slot → next d.slots.local ≡ Some a → first_text d.local.requests ≡ slot ∷ rest → IsBare al ar → DeskFits al ar d
      → MayCome (due_at (at.Request Local) d) got → StepOf P late now d None al ar (at.Request Local) got
  request_local slot a rest came.Gave low first text b h may =
      subst (λ (t : List ℕ). IsFit P None (account_by (given (port_of Local) Local t came.Gave) al) (account_by (given (port_of Local) Remote t came.Gave) ar) (act (at.Request Local) now came.Gave d)) (sym text)
      (gave_local slot a low first b h)
  request_local slot a rest came.Failed low first text b h may = tt
  request_local slot a rest (came.Took bytes) low first text b h may = absurd may
  request_local slot a rest came.End low first text b h may = absurd may
  request_local slot a rest (came.Answered told) low first text b h may = absurd may
  request_local slot a rest (came.Ended status) low first text b h may = absurd may
  request_local slot a rest came.Crashed low first text b h may = absurd may
  request_local slot a rest (came.Started pid) low first text b h may = absurd may
  request_local slot a rest came.Memory low first text b h may = absurd may

  file_opened_remote : (n begun : ℕ) (told : Answer) (bytes : List ℕ) → late n ≡ is_dying n now d → IsAnswerTo (call.Open (path (Of RemoteFile n)) how.Read) told → d.slots.remote.left ≡ [] → IsBare al ar → DeskFits al ar d
      → IsFit P (opened_as late (parse (path (Of RemoteFile n))) told) al ar (act (at.ReadFile Remote n begun Opening) now (came.Answered (record { answer = told; bytes = bytes })) d)
  file_opened_remote n begun (answer.Opened fd) bytes dies fit none b h = (h, none, ap (λ (o : Option Name). source_of late o fd) (parse-path (Of RemoteFile n)) ∙ ap (λ (x : Bool). Some (ReadingFile (record { channel = Remote; n = n; fd = fd; bytes = []; over = false; dying = x }))) dies, b)
  file_opened_remote n begun (answer.Refused why.NotThere) bytes dies fit none b h = later_fits P None al ar Remote n now d (h, refl, b)
  file_opened_remote n begun (answer.Refused why.Fault) bytes dies fit none b h = later_fits P None al ar Remote n now d (h, refl, b)
  file_opened_remote n begun (answer.Refused why.Memory) bytes dies fit none b h = later_fits P None al ar Remote n now d (h, refl, b)
  file_opened_remote n begun told bytes dies fit none b h = absurd fit

  more_remote : (n begun : ℕ) (fd : Fd) (last : Bool) (s : Said) → d.slots.remote.left ≡ [] → IsBare al ar → DeskFits al ar d
      → IsFit P (Some (ReadingFile (source_remote n begun fd (d.book.read ++ s.bytes) last))) al ar (busy (file_read (if last then Goes (Closing fd) else Goes (Going fd)) Remote n begun (Going fd) now s d))
  more_remote n begun fd true s none b h = (h, none, refl, b)
  more_remote n begun fd false s none b h = (h, none, refl, b)

  file_going_remote : (n begun : ℕ) (fd : Fd) (told : Answer) (bytes : List ℕ) → IsAnswerTo (call.ReadAt fd (length d.book.read) 8192) told → d.slots.remote.left ≡ [] → IsBare al ar → DeskFits al ar d
      → IsFit P (longer (source_remote n begun fd d.book.read false) 8192 told bytes) al ar
      (act (at.ReadFile Remote n begun (Going fd)) now (came.Answered (record { answer = told; bytes = bytes })) d)
  file_going_remote n begun fd (answer.Count count) bytes fit none b h = more_remote n begun fd (nat_lt (length bytes) 8192) (answered (answer.Count count) bytes) none b h
  file_going_remote n begun fd (answer.Refused why.Fault) bytes fit none b h = (h, none, refl, b)
  file_going_remote n begun fd told bytes fit none b h = absurd fit

  pub file_step_remote : (f : Option Work) (n begun : ℕ) (reading : Reading) (got : GotData) → (reading ≡ Opening → late n ≡ is_dying n now d) → d.slots.remote.left ≡ [] → IsBare al ar → DeskFits al ar d → IsReading P f al ar reading Remote n begun d.book
      → MayCome (due_at (at.ReadFile Remote n begun reading) d) got → StepOf P late now d f al ar (at.ReadFile Remote n begun reading) got
  file_step_remote f n begun Opening got dies none b h e may = subst (λ (o : Option Work). StepOf P late now d o al ar (at.ReadFile Remote n begun Opening) got) (sym e)
      (by_file (due_at (at.ReadFile Remote n begun Opening) d) tt (StepOf P late now d None al ar (at.ReadFile Remote n begun Opening)) got may
      (λ told fit. file_opened_remote n begun told.answer told.bytes (dies refl) fit none b h))
  file_step_remote f n begun (Going fd) got dies none b h e may = subst (λ (o : Option Work). StepOf P late now d o al ar (at.ReadFile Remote n begun (Going fd)) got) (sym e)
      (by_file (due_at (at.ReadFile Remote n begun (Going fd)) d) tt (StepOf P late now d (Some (ReadingFile (source_remote n begun fd d.book.read false))) al ar (at.ReadFile Remote n begun (Going fd))) got may
      (λ told fit. subst
      (λ (x : Bool). IsFit P (if x then longer (source_remote n begun fd d.book.read false) 8192 told.answer told.bytes else Some (ReadingFile (source_remote n begun fd d.book.read false))) al ar (act (at.ReadFile Remote n begun (Going fd)) now (came.Answered told) d))
      (sym (same_place fd.0 (length d.book.read)))
      (file_going_remote n begun fd told.answer told.bytes fit none b h)))
  file_step_remote f n begun (Closing fd) got dies none b h e may = subst (λ (o : Option Work). StepOf P late now d o al ar (at.ReadFile Remote n begun (Closing fd)) got) (sym e)
      (by_file (due_at (at.ReadFile Remote n begun (Closing fd)) d) tt (StepOf P late now d (Some (ReadingFile (source_remote n begun fd d.book.read true))) al ar (at.ReadFile Remote n begun (Closing fd))) got may
      (λ told fit. subst
      (λ (x : Bool). IsFit P None (account_by (closed_if x (source_remote n begun fd d.book.read true) Local) al) (account_by (closed_if x (source_remote n begun fd d.book.read true) Remote) ar) (act (at.ReadFile Remote n begun (Closing fd)) now (came.Answered told) d))
      (sym (same_end fd.0))
      (begins_remote P al ar d.book.read (records_of d.book.read) n begun now d refl none b h)))
  file_step_remote f n begun (Shutting fd) got dies none b h e may = subst (λ (o : Option Work). StepOf P late now d o al ar (at.ReadFile Remote n begun (Shutting fd)) got) (sym e)
      (by_file (due_at (at.ReadFile Remote n begun (Shutting fd)) d) tt (StepOf P late now d None al ar (at.ReadFile Remote n begun (Shutting fd))) got may
      (λ told fit. later_fits P None al ar Remote n now d (h, refl, b)))

  -- a request

  row_remote : (b : Bool) (x y : Desk) (row : Row) → x.row ≡ row → y.row ≡ row → (if b then x else y).row ≡ row
  row_remote true x y row p q = p
  row_remote false x y row p q = q

  gave_remote : (slot : ℕ) (a : Attempt) → lowest d.slots.remote.slots ≡ Some slot → next d.slots.remote ≡ Some a → IsBare al ar → DeskFits al ar d
      → IsFit P None al (account_by (Gives slot) ar) (act (at.Request Remote) now came.Gave d)
  gave_remote slot a low first b h =
      let before : Desk = stands_at d (point.Pass Remote false) in
      let after : Desk = request_sent Remote before in
      let row : after.row ≡ at.Turn (point.Pass Remote false) =
      row_remote (is_some (next d.slots.remote)) (with_requests Remote (drop 1 d.remote.requests) (record before { slots = sent_on Remote d.slots })) before (at.Turn (point.Pass Remote false)) refl refl in
      subst (λ (r : Row). FitAt P None al (account_by (Gives slot) ar) r (busy after)) (sym row) (given_remote al ar slot a before low first b.1 h, refl, b)

  pub request_remote : (slot : ℕ) (a : Attempt) (rest : List ℕ) (got : GotData) → lowest d.slots.remote.slots ≡ Some slot → next d.slots.remote ≡ Some a → first_text d.remote.requests ≡ slot ∷ rest → IsBare al ar → DeskFits al ar d
      → MayCome (due_at (at.Request Remote) d) got → StepOf P late now d None al ar (at.Request Remote) got
  request_remote slot a rest came.Gave low first text b h may =
      subst (λ (t : List ℕ). IsFit P None (account_by (given (port_of Remote) Local t came.Gave) al) (account_by (given (port_of Remote) Remote t came.Gave) ar) (act (at.Request Remote) now came.Gave d)) (sym text)
      (gave_remote slot a low first b h)
  request_remote slot a rest came.Failed low first text b h may = tt
  request_remote slot a rest (came.Took bytes) low first text b h may = absurd may
  request_remote slot a rest came.End low first text b h may = absurd may
  request_remote slot a rest (came.Answered told) low first text b h may = absurd may
  request_remote slot a rest (came.Ended status) low first text b h may = absurd may
  request_remote slot a rest came.Crashed low first text b h may = absurd may
  request_remote slot a rest (came.Started pid) low first text b h may = absurd may
  request_remote slot a rest came.Memory low first text b h may = absurd may
