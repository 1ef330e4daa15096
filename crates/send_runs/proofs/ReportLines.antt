-- The lines of reports.
use Rattle.std.proofs.Common.{◌≡◌, ℕ, List, [], ◌∷◌, ◌++◌, length, set, false, Option, Some, None, refl, sym, ap, ◌∙◌, subst}
use Rattle.std.specs.Option.{option_map}
use Rattle.address_rules.specs.declared.controls.Controls.{Controls}
use Rattle.bounce_record.specs.declared.note_row.NoteRow.{NoteRow}
use Rattle.bounce_record.specs.declared.note_row.NoteRow.TheVariants as written
use Rattle.bounce_record.specs.declared.return_row.ReturnRow.{ReturnRow}
use Rattle.bounce_record.specs.declared.return_row.ReturnRow.TheVariants as back
use Rattle.bounce_record.specs.Returning.{Returning, due_at as return_due_at}
use Rattle.bounce_record.specs.Writing.{Writing, due_at as note_due_at}
use Rattle.call_fs.specs.declared.calls.How.TheVariants as how
use Rattle.call_fs.specs.declared.past.GotData.{GotData}
use Rattle.call_fs.specs.declared.past.GotData.TheVariants as came
use Rattle.call_fs.specs.declared.past.NeedData.{NeedData}
use Rattle.call_fs.specs.declared.past.NeedData.TheVariants as needs
use Rattle.call_fs.specs.declared.program.Port.TheVariants as port
use Rattle.queue_paths.specs.declared.names.Name.TheVariants as name
use Rattle.send_core.proofs.Changes.{Both, Heard}
use Rattle.send_core.proofs.Fits.{Fits, so_far}
use Rattle.send_core.proofs.Lists.{in_range, news_are, slots_put}
use Rattle.send_core.proofs.Runs.{Was, frees, keeps}
use Rattle.send_core.proofs.Standing.{FitAt, InStart, arrives}
use Rattle.send_core.specs.Agrees.{task_of}
use Rattle.send_core.specs.Desk.{told, told_by, with_reader}
use Rattle.send_core.specs.Log.{lines_at, report_lines, taken_lines, told_lines}
use Rattle.send_core.specs.Papers.{controls_told}
use Rattle.send_core.specs.Past.{Account, Task, Work, account, settle, settle_by, work}
use Rattle.send_core.specs.Past.Happening.{Nothing, Takes}
use Rattle.send_core.specs.Table.{place_after as sender_after, due_at, row_now}
use Rattle.send_core.specs.declared.desk.Desk.{Desk}
use Rattle.send_parts.specs.declared.row.MarkRow.{MarkRow}
use Rattle.send_parts.specs.declared.row.MarkRow.TheVariants as mark
use Rattle.send_parts.specs.declared.row.Marked.{Marked}
use Rattle.send_parts.specs.declared.row.Row.{Row}
use Rattle.send_parts.specs.declared.row.Row.TheVariants as at
use Rattle.send_jobs.specs.declared.attempts.Attempt.{Attempt}
use Rattle.send_jobs.specs.declared.attempts.Mark.{Mark}
use Rattle.send_known.specs.declared.channel.Channel.{Channel}
use Rattle.send_known.specs.declared.channel.Channel.TheVariants.{Local, Remote}
use Rattle.send_jobs.specs.declared.slots.Slots.{Slots}
use Rattle.send_parts.specs.Channels.{file_of}
use Rattle.send_jobs.specs.Lanes.{reported}
use Rattle.send_jobs.specs.Lines.{status_line}
use Rattle.send_jobs.specs.Sending.{at_lane, lane}
use Rattle.send_jobs.specs.Slots.{attempt_in}
use Rattle.send_log.specs.Lines.{delivered, outcome_of}
use Rattle.send_parts.specs.Readings.{reading_step}
use Rattle.send_parts.specs.Steps.{due_by}
use Rattle.send_parts.specs.declared.reading.Reading.{Reading}
use Rattle.send_parts.specs.declared.reading.Reading.TheVariants.{Opening}
use Rattle.send_parts.specs.declared.rows.FinishRow.{FinishRow}
use Rattle.send_parts.specs.declared.rows.FinishRow.TheVariants as finish
use Rattle.send_parts.specs.declared.rows.StartRow.{StartRow}
use Rattle.send_parts.specs.declared.rows.StartRow.TheVariants as start
use Rattle.send_parts.specs.declared.rows.SweepRow.{SweepRow}
use Rattle.send_parts.specs.declared.rows.SweepRow.TheVariants as sweep
use Rattle.send_parts.specs.declared.step.Step.{Step}
use Rattle.send_parts.specs.declared.step.Step.TheVariants as step
use Rattle.spawn_protocol.specs.declared.report.Report.{Report}
use Rattle.spawn_protocol.specs.Report.{Reader, read_on}
use Rattle.spawn_protocol.specs.Report.Reader.{AtBegin}
use Rattle.todo_pass.specs.declared.row.Row.{Row as PassRow}
use Rattle.todo_pass.specs.declared.row.Row.TheVariants as todo
use Rattle.todo_pass.specs.Table.{Pass}
use Rattle.todo_pass.specs.Table as pass_table
use Rattle.send_runs.specs.Deliveries.{number_in, requests_given}
use Rattle.send_runs.specs.ReportLines.{ReportsAreLogged, line_of, lines_by, settled_on}
use Rattle.send_runs.specs.Status.{limit_by, limit_in, status_of}
use Rattle.send_runs.specs.Reports.{ending_in, taken_by, taken_when}
use Rattle.send_runs.proofs.Deliveries.{Counts, counts_kept, told_counts}
use Rattle.send_runs.proofs.Limits.{AllFly, LimitsBy, Long, limits_here, long_reported, long_told, status_is}
use Rattle.send_runs.proofs.Reports.{Flies, flies_told}
use Rattle.send_runs.proofs.Slots.{of_settle}

-- after a report nothing is in flight in its slot
freed_slot : (r : Report) (x : Attempt) (a : Account) (slots : List (Option Attempt)) → attempt_in slots r.slot ≡ Some x → ((slot : ℕ) → option_map task_of (attempt_in slots slot) ≡ a.in_flight slot)
    → (slot : ℕ) → option_map task_of (attempt_in (set slots r.slot None) slot) ≡ (settle r a).in_flight slot
freed_slot r x a slots there h slot =
    let base : option_map task_of (attempt_in (set slots r.slot None) slot) ≡ (settle_by (Some (task_of x)) r a).in_flight slot = slots_put task_of slots a.in_flight r.slot None None (in_range slots r.slot x there) refl h slot in
    subst (λ (t : Option Task). option_map task_of (attempt_in (set slots r.slot None) slot) ≡ (settle_by t r a).in_flight slot) (sym (ap (λ (o : Option Attempt). option_map task_of o) there) ∙ h r.slot) base

reported_fly : (c : Channel) (r : Report) (x : Attempt) (a : Channel → Account) (s : Slots) → attempt_in (lane c s).slots r.slot ≡ Some x → AllFly a s → AllFly (settled_on c r a) (at_lane c (reported r.slot) s)
reported_fly Local r x a s there h Local = freed_slot r x (a Local) s.local.slots there (h Local)
reported_fly Local r x a s there h Remote = h Remote
reported_fly Remote r x a s there h Local = h Local
reported_fly Remote r x a s there h Remote = freed_slot r x (a Remote) s.remote.slots there (h Remote)

-- the other channel is as it was
other_local : (r : Report) (o : Option Attempt) (a : Account) (d : Desk) → Flies Remote a d → Flies Remote a (told_by o Local r d)
other_local r None a d h = h
other_local r (Some x) a d h = let after : Desk = record d { slots = at_lane Local (reported r.slot) d.slots } in
    λ slot. ap (λ (xs : List (Option Attempt)). option_map task_of (attempt_in xs slot)) (of_settle after.slots r Local x after (refl, refl, refl)).2 ∙ h slot

other_remote : (r : Report) (o : Option Attempt) (a : Account) (d : Desk) → Flies Local a d → Flies Local a (told_by o Remote r d)
other_remote r None a d h = h
other_remote r (Some x) a d h = let after : Desk = record d { slots = at_lane Remote (reported r.slot) d.slots } in
    λ slot. ap (λ (xs : List (Option Attempt)). option_map task_of (attempt_in xs slot)) (of_settle after.slots r Remote x after (refl, refl, refl)).1 ∙ h slot

told_flies : (c : Channel) (r : Report) (a : Account) (d : Desk) → Flies c a d → Flies c (settle r a) (told c r d)
told_flies c r a d h = subst (λ (t : Option Task). Flies c (settle_by t r a) (told c r d)) (h r.slot) (flies_told c a r (attempt_in (lane c d.slots).slots r.slot) d refl h)

told_fly : (c : Channel) (r : Report) (a : Channel → Account) (d : Desk) → AllFly a d.slots → AllFly (settled_on c r a) (told c r d).slots
told_fly Local r a d h Local = told_flies Local r (a Local) d (h Local)
told_fly Local r a d h Remote = other_local r (attempt_in d.slots.local.slots r.slot) (a Remote) d (h Remote)
told_fly Remote r a d h Local = other_remote r (attempt_in d.slots.remote.slots r.slot) (a Local) d (h Local)
told_fly Remote r a d h Remote = told_flies Remote r (a Remote) d (h Remote)

-- Reports that are taken one after the other

line_is : (limit : Channel → ℕ) (c : Channel) (r : Report) (o : Option Attempt) (number : ℕ) (a : Channel → Account) (s : Slots) → attempt_in (lane c s).slots r.slot ≡ o → ((x : Attempt) → o ≡ Some x → x.delivery ≡ number)
    → AllFly a s → Long limit s → report_lines o c r s ≡ line_of number (option_map task_of o) r (status_of limit (settled_on c r a))
line_is limit c r None number a s there so h long = refl
line_is limit c r (Some x) number a s there so h long =
    let after : Slots = at_lane c (reported r.slot) s in
    ap (λ (k : ℕ). delivered k (outcome_of r.letter x.dying) r.text ++ status_line after) (so x refl)
    ∙ ap (λ (text : List ℕ). delivered number (outcome_of r.letter x.dying) r.text ++ text) (status_is limit (settled_on c r a) after (reported_fly c r x a s there h) (long_reported limit c r.slot s long))

told_log : (limit : Channel → ℕ) (c : Channel) (count : ℕ) (of : Channel → ℕ → ℕ) (rs : List Report) (a : Channel → Account) (d : Desk) → AllFly a d.slots → Counts count of d.slots → Long limit d.slots
    → told_lines c rs d ≡ lines_by (of c) limit c rs a
told_log limit c count of [] a d h n long = refl
told_log limit c count of (r ∷ rs) a d h n long =
    let o : Option Attempt = attempt_in (lane c d.slots).slots r.slot in
    let b : Channel → Account = settled_on c r a in
    let first : report_lines o c r d.slots ≡ line_of (of c r.slot) ((a c).in_flight r.slot) r (status_of limit b) =
    line_is limit c r o (of c r.slot) a d.slots refl (λ x there. n.1 c r.slot x there) h long ∙ ap (λ (t : Option Task). line_of (of c r.slot) t r (status_of limit b)) (h c r.slot) in
    let more : told_lines c rs (told c r d) ≡ lines_by (of c) limit c rs b =
    told_log limit c count of rs b (told c r d) (told_fly c r a d h) (told_counts count of c r o d refl n) (long_told limit c r o d long) in
    ap (λ (text : List ℕ). text ++ told_lines c rs (told c r d)) first ∙ ap (λ (text : List ℕ). line_of (of c r.slot) ((a c).in_flight r.slot) r (status_of limit b) ++ text) more

-- A row that takes nothing of a spawner

module _ (c : Channel) (got : GotData) where
  none_reading : (reading : Reading) (opening : Step) (read : List ℕ) → taken_by (due_by opening []) got c ≡ Nothing → taken_by (due_by (reading_step reading opening (length read)) []) got c ≡ Nothing
  none_reading Opening opening read e = e
  none_reading reading opening read e = refl

  none_note : (row : NoteRow) (w : Writing) → taken_by (note_due_at row w) got c ≡ Nothing
  none_note written.Written w = refl
  none_note row w = refl

  none_return : (row : ReturnRow) (r : Returning) → taken_by (return_due_at row r) got c ≡ Nothing
  none_return back.Over r = refl
  none_return row r = refl

  none_pass : (row : PassRow) (p : Pass) → taken_by (pass_table.due_at row p) got c ≡ Nothing
  none_pass todo.Done p = refl
  none_pass todo.Answer p = refl
  none_pass row p = refl

  none_mark : (row : MarkRow) (m : Marked) (d : Desk) → taken_by (due_at (at.Mark row m) d) got c ≡ Nothing
  none_mark mark.Noting m d = none_note d.note.row d.note
  none_mark row m d = refl

  none_finish : (row : FinishRow) (n : ℕ) (d : Desk) → taken_by (due_at (at.Finish row n) d) got c ≡ Nothing
  none_finish finish.Return n d = none_return d.bounce.row d.bounce
  none_finish row n d = refl

  none_sweep : (row : SweepRow) (d : Desk) → taken_by (due_at (at.Sweep row) d) got c ≡ Nothing
  none_sweep sweep.First d = refl
  none_sweep row d = refl

no_taking : (bytes : List ℕ) → Nothing ≡ Takes bytes → ⊥
no_taking bytes e = cc

-- Each row

module _ (a : Channel → Account) (k : Controls) (now count : ℕ) (of : Channel → ℕ → ℕ) (d : Desk) where
  abbrev Limit : Channel → ℕ
  Limit c = limit_by c (a c) k

  abbrev Logs : Channel → Row → GotData → Type 0
  Logs c row got = lines_at row now got d ≡ lines_by (of c) Limit c (taken_when (taken_by (due_at row d) got c) (a c).heard) a

  reads_local : (bytes : List ℕ) (o : Option (List ℕ)) → (a Local).heard ≡ o → Heard o → Fits false (a Local) d.slots.local d.local → AllFly a d.slots → Counts count of d.slots → Long Limit d.slots
      → taken_lines Local bytes d ≡ lines_by (of Local) Limit Local (ending_in (a Local).heard bytes) a
  reads_local bytes None e some h fly n long = absurd some
  reads_local bytes (Some before) e some h fly n long =
      let at : d.local.reader ≡ (read_on AtBegin before).1 = h.3 ∙ ap (λ (o : Option (List ℕ)). (read_on AtBegin (so_far o)).1) e in
      let read : (read_on d.local.reader bytes).0 ≡ ending_in (a Local).heard bytes =
      ap (λ (x : Reader). (read_on x bytes).0) at ∙ sym (news_are before bytes) ∙ ap (λ (o : Option (List ℕ)). ending_in o bytes) (sym e) in
      told_log Limit Local count of (read_on d.local.reader bytes).0 a (with_reader Local (read_on d.local.reader bytes).1 d) fly n long ∙ ap (λ (rs : List Report). lines_by (of Local) Limit Local rs a) read

  reads_remote : (bytes : List ℕ) (o : Option (List ℕ)) → (a Remote).heard ≡ o → Heard o → Fits false (a Remote) d.slots.remote d.remote → AllFly a d.slots → Counts count of d.slots → Long Limit d.slots
      → taken_lines Remote bytes d ≡ lines_by (of Remote) Limit Remote (ending_in (a Remote).heard bytes) a
  reads_remote bytes None e some h fly n long = absurd some
  reads_remote bytes (Some before) e some h fly n long =
      let at : d.remote.reader ≡ (read_on AtBegin before).1 = h.3 ∙ ap (λ (o : Option (List ℕ)). (read_on AtBegin (so_far o)).1) e in
      let read : (read_on d.remote.reader bytes).0 ≡ ending_in (a Remote).heard bytes =
      ap (λ (x : Reader). (read_on x bytes).0) at ∙ sym (news_are before bytes) ∙ ap (λ (o : Option (List ℕ)). ending_in o bytes) (sym e) in
      told_log Limit Remote count of (read_on d.remote.reader bytes).0 a (with_reader Remote (read_on d.remote.reader bytes).1 d) fly n long ∙ ap (λ (rs : List Report). lines_by (of Remote) Limit Remote rs a) read

  take_logs : (c e : Channel) (got : GotData) (bytes : List ℕ) → Both false false (a Local) (a Remote) d.slots d.local d.remote → Counts count of d.slots → Long Limit d.slots
      → taken_by (due_at (at.TakeLink e) d) got c ≡ Takes bytes → Logs c (at.TakeLink e) got
  take_logs c e got bytes h n long is = by c e got is where
    fly : AllFly a d.slots
    fly Local = h.0.0
    fly Remote = h.1.0

    by : (c e : Channel) (got : GotData) → taken_by (due_at (at.TakeLink e) d) got c ≡ Takes bytes → Logs c (at.TakeLink e) got
    by Local Local (came.Took taken) is = reads_local taken (a Local).heard refl h.2 h.0 fly n long
    by Remote Remote (came.Took taken) is = reads_remote taken (a Remote).heard refl h.3 h.1 fly n long
    by Local Remote got is = absurd (no_taking bytes is)
    by Remote Local got is = absurd (no_taking bytes is)
    by Local Local got is = absurd (no_taking bytes is)
    by Remote Remote got is = absurd (no_taking bytes is)

  greet_local : (c : Channel) (got : GotData) (bytes : List ℕ) → (a Local).heard ≡ None → taken_by (needs.Take port.Lspawn) got c ≡ Takes bytes → Logs c (at.Start start.GreetLocal) got
  greet_local Local (came.Took taken) bytes e is = ap (λ (o : Option (List ℕ)). lines_by (of Local) Limit Local (ending_in o taken) a) (sym e)
  greet_local Local got bytes e is = absurd (no_taking bytes is)
  greet_local Remote got bytes e is = absurd (no_taking bytes is)

  greet_remote : (limit : ℕ) (c : Channel) (got : GotData) (bytes : List ℕ) → (a Remote).heard ≡ None → taken_by (needs.Take port.Rspawn) got c ≡ Takes bytes → Logs c (at.Start (start.GreetRemote limit)) got
  greet_remote limit Remote (came.Took taken) bytes e is = ap (λ (o : Option (List ℕ)). lines_by (of Remote) Limit Remote (ending_in o taken) a) (sym e)
  greet_remote limit Remote got bytes e is = absurd (no_taking bytes is)
  greet_remote limit Local got bytes e is = absurd (no_taking bytes is)

  start_logs : (P : MarkRow → Option Mark → Marked → Writing → Type 0) (f : Option Work) (row : StartRow) (c : Channel) (got : GotData) (bytes : List ℕ) → InStart P f (a Local) (a Remote) row d.slots d.local d.remote
      → taken_by (due_at (at.Start row) d) got c ≡ Takes bytes → Logs c (at.Start row) got
  start_logs P f start.GreetLocal c got bytes h is = greet_local c got bytes h.1 is
  start_logs P f (start.GreetRemote limit) c got bytes h is = greet_remote limit c got bytes h.0.3 is
  start_logs P f (start.Control file reading) c got bytes h is = absurd (no_taking bytes (sym (none_reading c got reading (step.OpenControl file) d.book.read refl) ∙ is))
  start_logs P f (start.ReadInfo split n reading) c got bytes h is = absurd (no_taking bytes (sym (none_reading c got reading (step.Open (name.Info n) how.Read) d.book.read refl) ∙ is))
  start_logs P f row c got bytes h is = absurd (no_taking bytes is)

  row_logs : (P : MarkRow → Option Mark → Marked → Writing → Type 0) (f : Option Work) (row : Row) (c : Channel) (got : GotData) (bytes : List ℕ) → FitAt P f (a Local) (a Remote) row d → Counts count of d.slots
      → LimitsBy a k row d.slots → taken_by (due_at row d) got c ≡ Takes bytes → Logs c row got
  row_logs P f (at.Start row) c got bytes h n long is = start_logs P f row c got bytes h is
  row_logs P f (at.Turn p) c got bytes h n long is = absurd (no_taking bytes is)
  row_logs P f (at.TakeLink e) c got bytes h n long is = take_logs c e got bytes h.0 n long is
  row_logs P f (at.Mark row m) c got bytes h n long is = absurd (no_taking bytes (sym (none_mark c got row m d) ∙ is))
  row_logs P f (at.UnlinkFile e m p) c got bytes h n long is = absurd (no_taking bytes is)
  row_logs P f (at.ReadFile e m begun reading) c got bytes h n long is = absurd (no_taking bytes (sym (none_reading c got reading (step.Open (file_of e m) how.Read) d.book.read refl) ∙ is))
  row_logs P f (at.Request e) c got bytes h n long is = absurd (no_taking bytes is)
  row_logs P f (at.FindTodo search) c got bytes h n long is = absurd (no_taking bytes is)
  row_logs P f at.InTodo c got bytes h n long is = absurd (no_taking bytes (sym (none_pass c got d.pass.row d.pass) ∙ is))
  row_logs P f (at.Finish row m) c got bytes h n long is = absurd (no_taking bytes (sym (none_finish c got row m d) ∙ is))
  row_logs P f (at.Sweep row) c got bytes h n long is = absurd (no_taking bytes (sym (none_sweep c got row d) ∙ is))
  row_logs P f (at.Ended status) c got bytes h n long is = absurd (no_taking bytes is)

pub reports_are_logged : ReportsAreLogged
reports_are_logged turns past event run c bytes is =
    let d : Desk = sender_after turns past in
    let row : Row = row_now d event.read event.ready in
    let a : Channel → Account = (λ e. account e past) in
    let fit = arrives (Was past) (work past) (account Local past) (account Remote past) (frees past) d.row d event.read event.ready (keeps turns past run.0).0 in
    let took : taken_by (due_at row d) event.came c ≡ Takes bytes = ap (λ (x : NeedData). taken_by x event.came c) run.1.0 ∙ is in
    subst (λ (x : NeedData). lines_at row event.read event.came d ≡ lines_by (number_in c past) (limit_in past) c (taken_when (taken_by x event.came c) (account c past).heard) a) run.1.0
    (row_logs a (controls_told past) event.read (requests_given past) (λ e. number_in e past) d (Was past) (work past) row c event.came bytes fit (counts_kept turns past run.0)
    (limits_here turns past event.read event.ready run.0) took)
