-- Events that leave what was due on a channel.
use Rattle.std.proofs.Common.{◌≡◌, ℕ, List, [], ◌∷◌, length, bytes_eq, Bool, true, false, not, if◌then◌else◌, Option, Some, None, refl, sym, ap, ◌∙◌, subst, eqb-true, eq-eqb}
use Rattle.std.specs.Prelude.{◌&&◌, ◌==◌}
use Rattle.address_rules.specs.declared.control_file.ControlFile.{ControlFile}
use Rattle.bounce_record.specs.declared.note_row.NoteRow.{NoteRow}
use Rattle.bounce_record.specs.declared.note_row.NoteRow.TheVariants as written
use Rattle.bounce_record.specs.declared.return_row.ReturnRow.{ReturnRow}
use Rattle.bounce_record.specs.declared.return_row.ReturnRow.TheVariants as back
use Rattle.bounce_record.specs.Returning.{Returning, due_at as return_due_at}
use Rattle.bounce_record.specs.Writing.{Writing, due_at as note_due_at}
use Rattle.call_fs.specs.declared.calls.Answer.{Answer}
use Rattle.call_fs.specs.declared.calls.CallData.TheVariants as call
use Rattle.call_fs.specs.declared.calls.Fd.{Fd}
use Rattle.call_fs.specs.declared.calls.How.TheVariants as how
use Rattle.call_fs.specs.declared.past.GotData.{GotData}
use Rattle.call_fs.specs.declared.past.GotData.TheVariants as came
use Rattle.call_fs.specs.declared.past.NeedData.{NeedData}
use Rattle.call_fs.specs.declared.past.NeedData.TheVariants as needs
use Rattle.call_fs.specs.declared.program.Port.TheVariants as port
use Rattle.queue_paths.specs.declared.names.Name.TheVariants as name
use Rattle.queue_paths.specs.Names.{Name, name_of, parse, path}
use Rattle.queue_paths.specs.Names.Name.{Of as NameOf}
use Rattle.queue_paths.specs.Names.Part.{Bounce as BounceFile, Info as InfoFile, Local as LocalFile, Mess as MessFile, Remote as RemoteFile, Todo as TodoFile}
use Rattle.queue_paths.proofs.Paths.{parse-path}
use Rattle.send_runs.proofs.BeforeAnswer.{IsBefore}
use Rattle.send_core.specs.Past.{Work}
use Rattle.send_core.specs.Table.{due_at}
use Rattle.send_core.specs.declared.desk.Desk.{Desk}
use Rattle.send_parts.specs.declared.row.MarkRow.{MarkRow}
use Rattle.send_parts.specs.declared.row.MarkRow.TheVariants as mark
use Rattle.send_parts.specs.declared.row.Marked.{Marked}
use Rattle.send_parts.specs.declared.row.Row.TheVariants as at
use Rattle.send_known.specs.declared.channel.Channel.{Channel}
use Rattle.send_known.specs.declared.channel.Channel.TheVariants.{Local, Remote}
use Rattle.send_parts.specs.Channels.{file_of}
use Rattle.send_parts.specs.declared.reading.Progress.{Progress}
use Rattle.send_parts.specs.declared.reading.Progress.TheVariants.{Goes}
use Rattle.send_parts.specs.declared.reading.Reading.{Reading}
use Rattle.send_parts.specs.declared.reading.Reading.TheVariants.{Closing, Going, Opening, Shutting}
use Rattle.send_parts.specs.declared.rows.FinishRow.{FinishRow}
use Rattle.send_parts.specs.declared.rows.FinishRow.TheVariants as finish
use Rattle.send_parts.specs.declared.rows.StartRow.{StartRow}
use Rattle.send_parts.specs.declared.rows.StartRow.TheVariants as start
use Rattle.send_parts.specs.declared.rows.SweepRow.{SweepRow}
use Rattle.send_parts.specs.declared.rows.SweepRow.TheVariants as sweep
use Rattle.send_parts.specs.declared.step.Step.{Step}
use Rattle.send_parts.specs.declared.step.Step.TheVariants as step
use Rattle.send_parts.specs.Readings.{reading_step}
use Rattle.send_parts.specs.Steps.{control_text, due_by, remove_text}
use Rattle.todo_pass.specs.declared.row.Row.{Row as PassRow}
use Rattle.todo_pass.specs.declared.row.Row.TheVariants as todo
use Rattle.todo_pass.specs.declared.part.Target.TheVariants as target
use Rattle.todo_pass.specs.Table.{Pass, command_text}
use Rattle.todo_pass.specs.Table as pass_table
use Rattle.send_runs.specs.DueMoments.{Shift, found, is_file, is_trial_of, shift_by, shift_if, unless_done, unless_opened}
use Rattle.send_runs.specs.DueMoments.Shift.{Learns, Same}
use Rattle.send_runs.proofs.Clearing.{PassCleared}
use Rattle.send_runs.proofs.Steady.{IsLook}

-- Events that leave what was due

abbrev pub IsQuiet : Shift → Type 0
IsQuiet Same = Unit {0}
IsQuiet s = ⊥

pub quiet_if : (b : Bool) (s : Shift) → IsQuiet s → IsQuiet (shift_if b s)
quiet_if true s is = is
quiet_if false s is = tt

neither : (b : Bool) (s : Shift) → IsQuiet (shift_if (not b && false) s)
neither true s = tt
neither false s = tt

-- names that are no channel file's
no_none : (c : Channel) (n : ℕ) → is_file c n None ≡ false
no_none Local n = refl
no_none Remote n = refl

pub no_info : (c : Channel) (n k : ℕ) → is_file c n (Some (NameOf InfoFile k)) ≡ false
no_info Local n k = refl
no_info Remote n k = refl

pub no_mess : (c : Channel) (n k : ℕ) → is_file c n (Some (NameOf MessFile k)) ≡ false
no_mess Local n k = refl
no_mess Remote n k = refl

no_todo : (c : Channel) (n k : ℕ) → is_file c n (Some (NameOf TodoFile k)) ≡ false
no_todo Local n k = refl
no_todo Remote n k = refl

pub no_bounce : (c : Channel) (n k : ℕ) → is_file c n (Some (NameOf BounceFile k)) ≡ false
no_bounce Local n k = refl
no_bounce Remote n k = refl

pub not_control : (file : ControlFile) → parse (control_text file) ≡ None
unfolding parse path
not_control file = refl

abbrev pub IsGoing : Progress → Type 0
IsGoing (Goes more) = Unit {0}
IsGoing x = ⊥

pub either_goes : (b : Bool) (fd : Fd) → IsGoing (if b then Goes (Closing fd) else Goes (Going fd))
either_goes true fd = tt
either_goes false fd = tt

module _ (c : Channel) (n now : ℕ) (command : List ℕ) (clears : Bool) (f : Option Work) where
  abbrev pub Quiet : NeedData → Type 0
  Quiet due = (got : GotData) → IsQuiet (shift_by c n now command clears f None due got)

  quiet_stat : (x : Name) → ((told : Answer) → IsQuiet (found (Some x) told n)) → Quiet (needs.File (call.Stat (path x)))
  quiet_stat x none (came.Answered told) = subst (λ (o : Option Name). IsQuiet (found o told.answer n)) (sym (parse-path x)) (none told.answer)
  quiet_stat x none got = tt

  opens_none : (o : Option Name) (told : Answer) → is_file c n o ≡ false → IsQuiet (shift_if (is_file c n o) (unless_opened told))
  opens_none o told e = subst (λ (b : Bool). IsQuiet (shift_if b (unless_opened told))) (sym e) tt

  quiet_open : (x : Name) → is_file c n (Some x) ≡ false → Quiet (needs.File (call.Open (path x) how.Read))
  quiet_open x none (came.Answered told) = subst (λ (o : Option Name). IsQuiet (shift_if (is_file c n o) (unless_opened told.answer))) (sym (parse-path x)) (opens_none (Some x) told.answer none)
  quiet_open x none got = tt

  quiet_control : (file : ControlFile) → Quiet (needs.File (call.Open (control_text file) how.Read))
  quiet_control file (came.Answered told) = subst (λ (o : Option Name). IsQuiet (shift_if (is_file c n o) (unless_opened told.answer))) (sym (not_control file)) (opens_none None told.answer (no_none c n))
  quiet_control file got = tt

  quiet_unlink : (x : Name) → is_file c n (Some x) ≡ false → Quiet (needs.File (call.Unlink (path x)))
  quiet_unlink x none (came.Answered told) = subst (λ (o : Option Name). IsQuiet (shift_if (not clears && is_file c n o) (unless_done told.answer))) (sym (parse-path x))
      (subst (λ (b : Bool). IsQuiet (shift_if (not clears && b) (unless_done told.answer))) (sym none) (neither clears (unless_done told.answer)))
  quiet_unlink x none got = tt

  -- of a todo pass, after the first
  quiet_clear : (text : List ℕ) → clears ≡ true → Quiet (needs.File (call.Unlink text))
  quiet_clear text e (came.Answered told) = subst (λ (b : Bool). IsQuiet (shift_if (not b && is_file c n (parse text)) (unless_done told.answer))) (sym e) tt
  quiet_clear text e got = tt

  quiet_close : (fd : Fd) → Quiet (needs.File (call.Close fd))
  quiet_close fd (came.Answered told) = tt
  quiet_close fd got = tt

  quiet_reading : (reading : Reading) (opening : Step) (read : List ℕ) → Quiet (due_by opening []) → Quiet (due_by (reading_step reading opening (length read)) [])
  quiet_reading Opening opening read e = e
  quiet_reading (Going fd) opening read e = λ got. tt
  quiet_reading (Closing fd) opening read e = quiet_close fd
  quiet_reading (Shutting fd) opening read e = quiet_close fd

  quiet_note : (row : NoteRow) (w : Writing) → Quiet (note_due_at row w)
  quiet_note (written.Stat fd) w = quiet_stat (NameOf BounceFile w.n) (λ told. tt)
  quiet_note (written.Close fd) w = quiet_close fd
  quiet_note (written.Shut fd) w = quiet_close fd
  quiet_note written.Written w = λ got. tt
  quiet_note row w = λ got. tt

  quiet_return : (row : ReturnRow) (r : Returning) → Quiet (return_due_at row r)
  quiet_return back.Open r = quiet_open (NameOf BounceFile r.n) (no_bounce c n r.n)
  quiet_return back.OpenMessage r = quiet_open (NameOf MessFile r.n) (no_mess c n r.n)
  quiet_return (back.CloseNotes fd) r = quiet_close fd
  quiet_return (back.CloseMessage fd) r = quiet_close fd
  quiet_return (back.Shut fd) r = quiet_close fd
  quiet_return back.Unlink r = quiet_unlink (NameOf BounceFile r.n) (no_bounce c n r.n)
  quiet_return back.Discard r = quiet_unlink (NameOf BounceFile r.n) (no_bounce c n r.n)
  quiet_return back.Over r = λ got. tt
  quiet_return row r = λ got. tt

  pub quiet_pass : (row : PassRow) (p : Pass) → IsBefore row → PassCleared row clears → Quiet (pass_table.due_at row p)
  quiet_pass (todo.Clear target.Info) p is e got = quiet_unlink (NameOf InfoFile p.n) (no_info c n p.n) got
  quiet_pass (todo.Clear target.Local) p is e got = quiet_clear (path (NameOf LocalFile p.n)) e got
  quiet_pass (todo.Clear target.Remote) p is e got = quiet_clear (path (NameOf RemoteFile p.n)) e got
  quiet_pass todo.StatMess p is e got = quiet_stat (NameOf MessFile p.n) (λ told. tt) got
  quiet_pass todo.OpenTodo p is e got = quiet_open (NameOf TodoFile p.n) (no_todo c n p.n) got
  quiet_pass (todo.CloseTodo fd) p is e got = quiet_close fd got
  quiet_pass (todo.Close part fd) p is e got = quiet_close fd got
  quiet_pass (todo.Shut fd why) p is e got = quiet_close fd got
  quiet_pass todo.Answer p is e got = absurd is
  quiet_pass row p is e got = tt

  pub quiet_mark : (row : MarkRow) (m : Marked) (d : Desk) → Quiet (due_at (at.Mark row m) d)
  quiet_mark mark.Noting m d = quiet_note d.note.row d.note
  quiet_mark (mark.Close fd done) m d = quiet_close fd
  quiet_mark row m d = λ got. tt

  -- the answer to the command that removes a message
  quiet_removed : (k : ℕ) → command ≡ remove_text k → Quiet (needs.Take port.Clean)
  quiet_removed k e (came.Took bytes) = subst (λ (text : List ℕ). IsQuiet (shift_if (bytes_eq text (command_text n) && bytes_eq bytes (43 ∷ [])) (Learns now))) (sym e) tt
  quiet_removed k e got = tt

  pub quiet_finish : (row : FinishRow) (k : ℕ) (d : Desk) → (row ≡ finish.Take → command ≡ remove_text k) → Quiet (due_at (at.Finish row k) d)
  quiet_finish finish.OpenBounce k d gave = quiet_open (NameOf BounceFile k) (no_bounce c n k)
  quiet_finish finish.Return k d gave = quiet_return d.bounce.row d.bounce
  quiet_finish finish.UnlinkInfo k d gave = quiet_unlink (NameOf InfoFile k) (no_info c n k)
  quiet_finish finish.Take k d gave = quiet_removed k (gave refl)
  quiet_finish row k d gave = λ got. tt

  pub quiet_sweep : (row : SweepRow) (d : Desk) → ((split k : ℕ) → row ≡ sweep.Take split k → command ≡ remove_text k) → Quiet (due_at (at.Sweep row) d)
  quiet_sweep (sweep.StatMess split k) d gave = quiet_stat (NameOf MessFile k) (λ told. tt)
  quiet_sweep (sweep.StatTodo split k) d gave = quiet_stat (NameOf TodoFile k) (λ told. tt)
  quiet_sweep (sweep.StatInfo split k todo) d gave = quiet_stat (NameOf InfoFile k) (λ told. tt)
  quiet_sweep (sweep.Take split k) d gave = quiet_removed k (gave split k refl)
  quiet_sweep sweep.First d gave = λ got. tt
  quiet_sweep row d gave = λ got. tt

  pub quiet_start : (row : StartRow) (d : Desk) → (IsLook row → ⊥) → Quiet (due_at (at.Start row) d)
  quiet_start (start.Control file reading) d other = quiet_reading reading (step.OpenControl file) d.book.read (quiet_control file)
  quiet_start (start.ReadInfo split k reading) d other = quiet_reading reading (step.Open (name.Info k) how.Read) d.book.read (quiet_open (NameOf InfoFile k) (no_info c n k))
  quiet_start (start.StatTodo split k) d other = quiet_stat (NameOf TodoFile k) (λ told. tt)
  quiet_start (start.StatInfo split k) d other = quiet_stat (NameOf InfoFile k) (λ told. tt)
  quiet_start (start.StatLocal split k birth) d other = quiet_stat (NameOf LocalFile k) (λ told. tt)
  quiet_start (start.StatRemote split k birth local) d other = absurd (other tt)
  quiet_start start.GreetLocal d other = λ got. tt
  quiet_start row d other = λ got. tt

pub quiet_take : (c e : Channel) (n now : ℕ) (command : List ℕ) (clears : Bool) (f : Option Work) (d : Desk) → Quiet c n now command clears f (due_at (at.TakeLink e) d)
quiet_take c Local n now command clears f d = λ got. tt
quiet_take c Remote n now command clears f d = λ got. tt

pub quiet_give : (c e : Channel) (n now : ℕ) (command : List ℕ) (clears : Bool) (f : Option Work) (d : Desk) → Quiet c n now command clears f (due_at (at.Request e) d)
quiet_give c Local n now command clears f d = λ got. tt
quiet_give c Remote n now command clears f d = λ got. tt

-- The channel file of a message, and no other

pub file_true : (c : Channel) (n : ℕ) → is_file c n (parse (path (name_of (file_of c n)))) ≡ true
file_true Local n = ap (λ (o : Option Name). is_file Local n o) (parse-path (NameOf LocalFile n)) ∙ eq-eqb n n refl
file_true Remote n = ap (λ (o : Option Name). is_file Remote n o) (parse-path (NameOf RemoteFile n)) ∙ eq-eqb n n refl

pub differs : (k n : ℕ) → (k ≡ n → ⊥) → (n == k) ≡ false
differs k n other = by (n == k) refl where
  by : (b : Bool) → (n == k) ≡ b → b ≡ false
  by true e = absurd (other (sym (eqb-true n k e)))
  by false e = refl

pub file_false : (e c : Channel) (k n : ℕ) → ((e ≡ c) → (k ≡ n) → ⊥) → is_file e k (parse (path (name_of (file_of c n)))) ≡ false
file_false Local Local k n other = ap (λ (o : Option Name). is_file Local k o) (parse-path (NameOf LocalFile n)) ∙ differs k n (other refl)
file_false Remote Remote k n other = ap (λ (o : Option Name). is_file Remote k o) (parse-path (NameOf RemoteFile n)) ∙ differs k n (other refl)
file_false Local Remote k n other = ap (λ (o : Option Name). is_file Local k o) (parse-path (NameOf RemoteFile n))
file_false Remote Local k n other = ap (λ (o : Option Name). is_file Remote k o) (parse-path (NameOf LocalFile n))

pub trial_true : (c : Channel) (n begun : ℕ) → is_trial_of c n (record { channel = c; n = n; begun = begun }) ≡ true
trial_true Local n begun = eq-eqb n n refl
trial_true Remote n begun = eq-eqb n n refl

pub trial_false : (e c : Channel) (k n begun : ℕ) → ((e ≡ c) → (k ≡ n) → ⊥) → is_trial_of e k (record { channel = c; n = n; begun = begun }) ≡ false
trial_false Local Local k n begun other = differs k n (other refl)
trial_false Remote Remote k n begun other = differs k n (other refl)
trial_false Local Remote k n begun other = refl
trial_false Remote Local k n begun other = refl
