-- Events by which no finish fails.
use Rattle.std.proofs.Common.{◌≡◌, ℕ, ◌-◌, List, [], ◌∷◌, length, nat_lt, Bool, true, false, not, if◌then◌else◌, Option, Some, None, refl, sym, ap, ◌∙◌, subst}
use Rattle.std.specs.Prelude.{◌&&◌, ◌==◌}
use Rattle.address_rules.specs.declared.control_file.ControlFile.{ControlFile}
use Rattle.bounce_record.specs.declared.note_row.NoteRow.{NoteRow}
use Rattle.bounce_record.specs.declared.note_row.NoteRow.TheVariants as written
use Rattle.bounce_record.specs.Returning.{return_begun}
use Rattle.bounce_record.specs.Writing.{Writing, due_at as note_due_at}
use Rattle.call_fs.specs.Past.{IsRunBy}
use Rattle.call_fs.specs.Program.{MayCome}
use Rattle.call_fs.specs.declared.calls.Answer.{Answer}
use Rattle.call_fs.specs.declared.calls.Answer.TheVariants as answer
use Rattle.call_fs.specs.declared.calls.CallData.TheVariants as call
use Rattle.call_fs.specs.declared.calls.Fd.{Fd}
use Rattle.call_fs.specs.declared.calls.How.TheVariants as how
use Rattle.call_fs.specs.declared.past.GotData.{GotData}
use Rattle.call_fs.specs.declared.past.GotData.TheVariants as came
use Rattle.call_fs.specs.declared.past.NeedData.{NeedData}
use Rattle.call_fs.specs.declared.past.NeedData.TheVariants as needs
use Rattle.call_fs.specs.declared.past.Own.{Own}
use Rattle.call_fs.specs.declared.program.Ready.{Ready}
use Rattle.queue_paths.specs.declared.names.Name.TheVariants as name
use Rattle.queue_paths.specs.Names.{Name, name_of, path}
use Rattle.queue_paths.specs.Names.Name.{Of as NameOf}
use Rattle.queue_paths.specs.Names.Part.{Info as InfoFile, Local as LocalFile, Remote as RemoteFile, Todo as TodoFile}
use Rattle.queue_paths.proofs.Paths.{parse-path}
use Rattle.send_core.specs.Desk.{later, past_finish, stands_at, sweep_due, turn_counted, turn_over}
use Rattle.send_core.specs.Finish.{act_finish, bounce_on, finish_at, forgot, put_off_to, returned_to}
use Rattle.send_core.specs.Table.{Next, act, arrive, place_after, due_at, from_point, row_now}
use Rattle.send_core.specs.declared.desk.Desk.{Desk}
use Rattle.send_parts.specs.declared.row.MarkRow.{MarkRow}
use Rattle.send_parts.specs.declared.row.MarkRow.TheVariants as mark
use Rattle.send_parts.specs.declared.row.Marked.{Marked}
use Rattle.send_parts.specs.declared.row.Point.TheVariants as point
use Rattle.send_parts.specs.declared.row.Row.{Row}
use Rattle.send_parts.specs.declared.row.Row.TheVariants as at
use Rattle.send_known.specs.declared.channel.Channel.{Channel}
use Rattle.send_known.specs.declared.channel.Channel.TheVariants.{Local, Remote}
use Rattle.send_parts.specs.Channels.{file_of}
use Rattle.send_parts.specs.declared.reading.Reading.{Reading}
use Rattle.send_parts.specs.declared.reading.Reading.TheVariants.{Closing, Going, Opening, Shutting}
use Rattle.send_parts.specs.declared.rows.FinishRow.{FinishRow}
use Rattle.send_parts.specs.declared.rows.FinishRow.TheVariants as finish
use Rattle.send_parts.specs.declared.rows.StartRow.{StartRow}
use Rattle.send_parts.specs.declared.rows.StartRow.TheVariants as start
use Rattle.send_parts.specs.declared.rows.SweepRow.{SweepRow}
use Rattle.send_parts.specs.declared.rows.SweepRow.TheVariants as sweep
use Rattle.send_parts.specs.declared.step.Step.{Step}
use Rattle.send_parts.specs.declared.step.Step.TheVariants as step
use Rattle.send_parts.specs.Finish.{finish_to}
use Rattle.send_parts.specs.Readings.{reading_step}
use Rattle.send_parts.specs.Replies.{said}
use Rattle.send_parts.specs.Steps.{control_text, due_by}
use Rattle.todo_pass.specs.declared.part.Target.TheVariants as target
use Rattle.todo_pass.specs.declared.row.Row.{Row as PassRow}
use Rattle.todo_pass.specs.declared.row.Row.TheVariants as todo
use Rattle.todo_pass.specs.Table.{Pass}
use Rattle.todo_pass.specs.Table as pass_table
use Rattle.send_runs.specs.FinishMoments.{fails_by, is_message, isnt_opened, isnt_unlinked, opened_for, returning, returning_by}
use Rattle.send_runs.proofs.Calm.{IsFresh, point_fresh}
use Rattle.send_runs.proofs.Quiet.{not_control}
use Rattle.send_runs.proofs.Searching.{PassSearched}
use Rattle.std.proofs.Math.Bool.{and-false}

-- No return goes on, by the past, at the rows of other files

abbrev pub IdleAt : Row → Option ℕ → Type 0
IdleAt (at.Turn p) f = Unit {0}
IdleAt (at.TakeLink c) f = Unit {0}
IdleAt (at.Mark mark.Note m) f = Unit {0}
IdleAt (at.Mark mark.Open m) f = Unit {0}
IdleAt (at.ReadFile c n begun Opening) f = Unit {0}
IdleAt (at.Request c) f = Unit {0}
IdleAt (at.FindTodo search) f = Unit {0}
IdleAt (at.Finish row n) f = Unit {0}
IdleAt (at.Sweep row) f = Unit {0}
IdleAt (at.Ended status) f = Unit {0}
IdleAt row f = f ≡ None

none_idle : (row : Row) → IdleAt row None
none_idle (at.Turn p) = tt
none_idle (at.TakeLink c) = tt
none_idle (at.Mark mark.Note m) = tt
none_idle (at.Mark mark.Open m) = tt
none_idle (at.Mark row m) = refl
none_idle (at.ReadFile c n begun Opening) = tt
none_idle (at.ReadFile c n begun reading) = refl
none_idle (at.Request c) = tt
none_idle (at.FindTodo search) = tt
none_idle (at.Finish row n) = tt
none_idle (at.Sweep row) = tt
none_idle (at.Ended status) = tt
none_idle (at.Start row) = refl
none_idle (at.UnlinkFile c n p) = refl
none_idle at.InTodo = refl

fresh_idle : (row : Row) (f : Option ℕ) → IsFresh row → IdleAt row f
fresh_idle (at.TakeLink c) f is = tt
fresh_idle (at.Mark mark.Note m) f is = tt
fresh_idle (at.Mark mark.Open m) f is = tt
fresh_idle (at.Mark row m) f is = absurd is
fresh_idle (at.ReadFile c n begun Opening) f is = tt
fresh_idle (at.ReadFile c n begun reading) f is = absurd is
fresh_idle (at.Request c) f is = tt
fresh_idle (at.FindTodo search) f is = tt
fresh_idle (at.Finish row n) f is = tt
fresh_idle (at.Sweep row) f is = tt
fresh_idle row f is = absurd is

pub arrives_idle : (row : Row) (d : Desk) (now : ℕ) (ready : Ready) (f : Option ℕ) → IdleAt row f → IdleAt (arrive row d now ready) f
arrives_idle (at.Turn p) d now ready f h = fresh_idle (from_point p d now ready) f (point_fresh d now ready p)
arrives_idle row d now ready f h = h

module _ (f : Option ℕ) where
  abbrev Ends : NeedData → Type 0
  Ends due = returning_by f due ≡ None

  opens_none : (x : Name) → opened_for (Some x) ≡ None → Ends (needs.File (call.Open (path x) how.Read))
  opens_none x e = ap opened_for (parse-path x) ∙ e

  reading_ends : (reading : Reading) (opening : Step) (read : List ℕ) → Ends (due_by opening []) → (((reading ≡ Opening) → ⊥) → f ≡ None) → Ends (due_by (reading_step reading opening (length read)) [])
  reading_ends Opening opening read e none = e
  reading_ends (Going fd) opening read e none = none (λ same. cc)
  reading_ends (Closing fd) opening read e none = none (λ same. cc)
  reading_ends (Shutting fd) opening read e none = none (λ same. cc)

  start_ends : (row : StartRow) (d : Desk) → f ≡ None → Ends (due_at (at.Start row) d)
  start_ends (start.Control file reading) d e = reading_ends reading (step.OpenControl file) d.book.read (ap opened_for (not_control file)) (λ other. e)
  start_ends (start.ReadInfo split n reading) d e = reading_ends reading (step.Open (name.Info n) how.Read) d.book.read (opens_none (NameOf InfoFile n) refl) (λ other. e)
  start_ends start.GreetLocal d e = refl
  start_ends row d e = refl

  note_ends : (row : NoteRow) (w : Writing) → f ≡ None → Ends (note_due_at row w)
  note_ends (written.Read fd place len) w e = e
  note_ends (written.Close fd) w e = e
  note_ends (written.Shut fd) w e = e
  note_ends written.Written w e = refl
  note_ends row w e = refl

  mark_ends : (row : MarkRow) (m : Marked) (d : Desk) → IdleAt (at.Mark row m) f → Ends (due_at (at.Mark row m) d)
  mark_ends mark.Note m d e = refl
  mark_ends mark.Noting m d e = note_ends d.note.row d.note e
  mark_ends mark.Open m d e = refl
  mark_ends (mark.Write fd) m d e = refl
  mark_ends (mark.Close fd done) m d e = e

  pass_ends : (row : PassRow) (p : Pass) → f ≡ None → Ends (pass_table.due_at row p)
  pass_ends (todo.Clear target.Info) p e = e
  pass_ends (todo.Clear target.Local) p e = e
  pass_ends (todo.Clear target.Remote) p e = e
  pass_ends todo.OpenTodo p e = opens_none (NameOf TodoFile p.n) refl
  pass_ends (todo.ReadTodo fd) p e = e
  pass_ends (todo.CloseTodo fd) p e = e
  pass_ends (todo.Close part fd) p e = e
  pass_ends (todo.Shut fd why) p e = e
  pass_ends todo.Answer p e = refl
  pass_ends row p e = refl

  file_ends : (reading : Reading) (c : Channel) (n begun : ℕ) (d : Desk) → IdleAt (at.ReadFile c n begun reading) f → Ends (due_at (at.ReadFile c n begun reading) d)
  file_ends Opening Local n begun d e = opens_none (NameOf LocalFile n) refl
  file_ends Opening Remote n begun d e = opens_none (NameOf RemoteFile n) refl
  file_ends (Going fd) c n begun d e = e
  file_ends (Closing fd) c n begun d e = e
  file_ends (Shutting fd) c n begun d e = e

  sweep_ends : (row : SweepRow) (d : Desk) → Ends (due_at (at.Sweep row) d)
  sweep_ends sweep.First d = refl
  sweep_ends row d = refl

counted_idle : (turns : Option ℕ) (d : Desk) (f : Option ℕ) → IdleAt (turn_counted turns d).row f
counted_idle None d f = tt
counted_idle (Some k) d f = by (nat_lt 1 k) where
  by : (b : Bool) → IdleAt (if b then record d { turns = Some (k - 1); row = at.Turn point.TakeLocal } else record d { turns = Some 0; row = at.Ended 0 }).row f
  by true = tt
  by false = tt

past_finish_idle : (now : ℕ) (d : Desk) (f : Option ℕ) → IdleAt (past_finish now d).row f
past_finish_idle now d f = by (sweep_due now d.swept) where
  by : (b : Bool) → IdleAt (if b then stands_at d point.Sweep else turn_over d).row f
  by true = tt
  by false = counted_idle d.turns (record d { busy = false }) f

finish_at_idle : (row : FinishRow) (n now : ℕ) (d : Desk) (f : Option ℕ) → IdleAt (finish_at row n now d).row f
finish_at_idle finish.Later n now d f = past_finish_idle now (put_off_to n (later now) d) f
finish_at_idle finish.Over n now d f = past_finish_idle now (forgot n d) f
finish_at_idle finish.Lost n now d f = tt
finish_at_idle finish.OpenBounce n now d f = tt
finish_at_idle finish.Return n now d f = tt
finish_at_idle finish.UnlinkInfo n now d f = tt
finish_at_idle finish.Give n now d f = tt
finish_at_idle finish.Take n now d f = tt

finish_idle : (row : FinishRow) (n now : ℕ) (got : GotData) (d : Desk) (f : Option ℕ) → IdleAt (act_finish row n now got d).row f
finish_idle finish.OpenBounce n now got d f = let it = bounce_on n now got (return_begun n) d.book in finish_at_idle (returned_to it.row) n now (record d { bounce = it; busy = true }) f
finish_idle finish.Return n now got d f = let it = bounce_on n now got d.bounce d.book in finish_at_idle (returned_to it.row) n now (record d { bounce = it }) f
finish_idle row n now got d f = finish_at_idle (finish_to row (said got).way) n now d f

row_idle : (row : Row) (now : ℕ) (got : GotData) (d : Desk) (f : Option ℕ) → MayCome (due_at row d) got → IdleAt row f → IdleAt (act row now got d).row (returning_by f (due_at row d))
row_idle row now got d f may h = by row may h where
  ended : (row : Row) → returning_by f (due_at row d) ≡ None → IdleAt (act row now got d).row (returning_by f (due_at row d))
  ended row e = subst (λ (o : Option ℕ). IdleAt (act row now got d).row o) (sym e) (none_idle (act row now got d).row)

  by : (row : Row) → MayCome (due_at row d) got → IdleAt row f → IdleAt (act row now got d).row (returning_by f (due_at row d))
  by (at.Turn p) may h = absurd may
  by (at.Ended status) may h = absurd may
  by (at.Start row) may h = ended (at.Start row) (start_ends f row d h)
  by (at.TakeLink Local) may h = ended (at.TakeLink Local) refl
  by (at.TakeLink Remote) may h = ended (at.TakeLink Remote) refl
  by (at.Mark row m) may h = ended (at.Mark row m) (mark_ends f row m d h)
  by (at.UnlinkFile c n p) may h = ended (at.UnlinkFile c n p) h
  by (at.ReadFile c n begun reading) may h = ended (at.ReadFile c n begun reading) (file_ends f reading c n begun d h)
  by (at.Request Local) may h = ended (at.Request Local) refl
  by (at.Request Remote) may h = ended (at.Request Remote) refl
  by (at.FindTodo search) may h = ended (at.FindTodo search) refl
  by at.InTodo may h = ended at.InTodo (pass_ends f d.pass.row d.pass h)
  by (at.Finish row n) may h = finish_idle row n now got d (returning_by f (due_at (at.Finish row n) d))
  by (at.Sweep row) may h = ended (at.Sweep row) (sweep_ends f row d)

pub idle_kept : (turns : Option ℕ) (past : List Own) → IsRunBy (Next turns) past → IdleAt (place_after turns past).row (returning past)
idle_kept turns [] run = refl
idle_kept turns (event ∷ before) run =
    let d : Desk = place_after turns before in
    let row : Row = row_now d event.read event.ready in
    let may : MayCome (due_at row d) event.came = subst (λ (x : NeedData). MayCome x event.came) (sym run.1.0) run.1.1 in
    subst (λ (due : NeedData). IdleAt (act row event.read event.came d).row (returning_by (returning before) due)) run.1.0
    (row_idle row event.read event.came d (returning before) may (arrives_idle d.row d event.read event.ready (returning before) (idle_kept turns before run.0)))

-- Events by which none fails

module _ (f : Option ℕ) (searched misread : Bool) where
  abbrev pub Fine : NeedData → Type 0
  Fine due = (got : GotData) (n : ℕ) → fails_by n f searched misread due got ≡ false

  fine_open : (x : Name) → ((n : ℕ) (told : Answer) → isnt_opened n (Some x) told ≡ false) → Fine (needs.File (call.Open (path x) how.Read))
  fine_open x e (came.Answered told) n = ap (λ (o : Option Name). isnt_opened n o told.answer) (parse-path x) ∙ e n told.answer
  fine_open x e got n = refl

  fine_unlink : (x : Name) → ((n : ℕ) (told : Answer) → isnt_unlinked searched n (Some x) told ≡ false) → Fine (needs.File (call.Unlink (path x)))
  fine_unlink x e (came.Answered told) n = ap (λ (o : Option Name). isnt_unlinked searched n o told.answer) (parse-path x) ∙ e n told.answer
  fine_unlink x e got n = refl

  fine_close : (fd : Fd) → f ≡ None → Fine (needs.File (call.Close fd))
  fine_close fd e (came.Answered told) n = ap (λ (o : Option ℕ). misread && is_message n o) e ∙ and-false misread
  fine_close fd e got n = refl

  none_opened : (n : ℕ) (told : Answer) → isnt_opened n None told ≡ false
  none_opened n (answer.Opened fd) = refl
  none_opened n told = refl

  info_opened : (k n : ℕ) (told : Answer) → isnt_opened n (Some (NameOf InfoFile k)) told ≡ false
  info_opened k n (answer.Opened fd) = refl
  info_opened k n told = refl

  todo_opened : (k n : ℕ) (told : Answer) → isnt_opened n (Some (NameOf TodoFile k)) told ≡ false
  todo_opened k n (answer.Opened fd) = refl
  todo_opened k n told = refl

  local_opened : (k n : ℕ) (told : Answer) → isnt_opened n (Some (NameOf LocalFile k)) told ≡ false
  local_opened k n (answer.Opened fd) = refl
  local_opened k n told = refl

  remote_opened : (k n : ℕ) (told : Answer) → isnt_opened n (Some (NameOf RemoteFile k)) told ≡ false
  remote_opened k n (answer.Opened fd) = refl
  remote_opened k n told = refl

  local_unlinked : (k n : ℕ) (told : Answer) → isnt_unlinked searched n (Some (NameOf LocalFile k)) told ≡ false
  local_unlinked k n answer.Done = refl
  local_unlinked k n told = refl

  remote_unlinked : (k n : ℕ) (told : Answer) → isnt_unlinked searched n (Some (NameOf RemoteFile k)) told ≡ false
  remote_unlinked k n answer.Done = refl
  remote_unlinked k n told = refl

  -- by a todo pass
  info_cleared : (k n : ℕ) (told : Answer) → searched ≡ true → isnt_unlinked searched n (Some (NameOf InfoFile k)) told ≡ false
  info_cleared k n answer.Done e = refl
  info_cleared k n told e = ap (λ (b : Bool). not b && (k == n)) e

  fine_control : (file : ControlFile) → Fine (needs.File (call.Open (control_text file) how.Read))
  fine_control file (came.Answered told) n = ap (λ (o : Option Name). isnt_opened n o told.answer) (not_control file) ∙ none_opened n told.answer
  fine_control file got n = refl

  fine_reading : (reading : Reading) (opening : Step) (read : List ℕ) → Fine (due_by opening []) → (((reading ≡ Opening) → ⊥) → f ≡ None) → Fine (due_by (reading_step reading opening (length read)) [])
  fine_reading Opening opening read e none = e
  fine_reading (Going fd) opening read e none = λ got n. refl
  fine_reading (Closing fd) opening read e none = fine_close fd (none (λ same. cc))
  fine_reading (Shutting fd) opening read e none = fine_close fd (none (λ same. cc))

  pub start_fine : (row : StartRow) (d : Desk) → f ≡ None → Fine (due_at (at.Start row) d)
  start_fine (start.Control file reading) d e = fine_reading reading (step.OpenControl file) d.book.read (fine_control file) (λ other. e)
  start_fine (start.ReadInfo split n reading) d e = fine_reading reading (step.Open (name.Info n) how.Read) d.book.read (fine_open (NameOf InfoFile n) (info_opened n)) (λ other. e)
  start_fine start.GreetLocal d e = λ got n. refl
  start_fine row d e = λ got n. refl

  note_fine : (row : NoteRow) (w : Writing) → f ≡ None → Fine (note_due_at row w)
  note_fine (written.Close fd) w e = fine_close fd e
  note_fine (written.Shut fd) w e = fine_close fd e
  note_fine written.Written w e = λ got n. refl
  note_fine row w e = λ got n. refl

  pub mark_fine : (row : MarkRow) (m : Marked) (d : Desk) → IdleAt (at.Mark row m) f → Fine (due_at (at.Mark row m) d)
  mark_fine mark.Note m d e = λ got n. refl
  mark_fine mark.Noting m d e = note_fine d.note.row d.note e
  mark_fine mark.Open m d e = λ got n. refl
  mark_fine (mark.Write fd) m d e = λ got n. refl
  mark_fine (mark.Close fd done) m d e = fine_close fd e

  pub pass_fine : (row : PassRow) (p : Pass) → f ≡ None → PassSearched row searched → Fine (pass_table.due_at row p)
  pass_fine (todo.Clear target.Info) p e says = fine_unlink (NameOf InfoFile p.n) (λ n told. info_cleared p.n n told says)
  pass_fine (todo.Clear target.Local) p e says = fine_unlink (NameOf LocalFile p.n) (local_unlinked p.n)
  pass_fine (todo.Clear target.Remote) p e says = fine_unlink (NameOf RemoteFile p.n) (remote_unlinked p.n)
  pass_fine todo.OpenTodo p e says = fine_open (NameOf TodoFile p.n) (todo_opened p.n)
  pass_fine (todo.CloseTodo fd) p e says = fine_close fd e
  pass_fine (todo.Close part fd) p e says = fine_close fd e
  pass_fine (todo.Shut fd why) p e says = fine_close fd e
  pass_fine todo.Answer p e says = λ got n. refl
  pass_fine row p e says = λ got n. refl

  pub file_fine : (reading : Reading) (c : Channel) (n begun : ℕ) (d : Desk) → IdleAt (at.ReadFile c n begun reading) f → Fine (due_at (at.ReadFile c n begun reading) d)
  file_fine Opening Local n begun d e = fine_open (NameOf LocalFile n) (local_opened n)
  file_fine Opening Remote n begun d e = fine_open (NameOf RemoteFile n) (remote_opened n)
  file_fine (Going fd) c n begun d e = λ got k. refl
  file_fine (Closing fd) c n begun d e = fine_close fd e
  file_fine (Shutting fd) c n begun d e = fine_close fd e

  pub unlink_fine : (c : Channel) (n : ℕ) → Fine (needs.File (call.Unlink (path (name_of (file_of c n)))))
  unlink_fine Local n = fine_unlink (NameOf LocalFile n) (local_unlinked n)
  unlink_fine Remote n = fine_unlink (NameOf RemoteFile n) (remote_unlinked n)

  pub take_fine : (c : Channel) (d : Desk) → Fine (due_at (at.TakeLink c) d)
  take_fine Local d = λ got n. refl
  take_fine Remote d = λ got n. refl

  pub give_fine : (c : Channel) (d : Desk) → Fine (due_at (at.Request c) d)
  give_fine Local d = λ got n. refl
  give_fine Remote d = λ got n. refl

  pub sweep_fine : (row : SweepRow) (d : Desk) → Fine (due_at (at.Sweep row) d)
  sweep_fine sweep.First d = λ got n. refl
  sweep_fine row d = λ got n. refl
