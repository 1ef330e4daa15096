-- Which events tell no birth: all but the last look of the scan at a message, and the answer to the command of a todo pass.
use Rattle.std.proofs.Common.{◌≡◌, ℕ, List, [], ◌∷◌, Bool, true, false, bytes_eq, Option, Some, None, refl, ap, ◌∙◌}
use Rattle.bounce_record.specs.declared.note_row.NoteRow.{NoteRow}
use Rattle.bounce_record.specs.declared.note_row.NoteRow.TheVariants as written
use Rattle.bounce_record.specs.declared.return_row.ReturnRow.{ReturnRow}
use Rattle.bounce_record.specs.declared.return_row.ReturnRow.TheVariants as back
use Rattle.bounce_record.specs.Returning.{Returning, due_at as return_due_at}
use Rattle.bounce_record.specs.Writing.{Writing, due_at as note_due_at}
use Rattle.call_fs.specs.declared.calls.Answer.{Answer}
use Rattle.call_fs.specs.declared.calls.Answer.TheVariants as answer
use Rattle.call_fs.specs.declared.past.GotData.{GotData}
use Rattle.call_fs.specs.declared.past.GotData.TheVariants as came
use Rattle.call_fs.specs.declared.past.NeedData.{NeedData}
use Rattle.call_fs.specs.declared.past.NeedData.TheVariants as needs
use Rattle.call_fs.specs.declared.program.Port.TheVariants as port
use Rattle.call_fs.specs.Program.{MayCome}
use Rattle.queue_paths.specs.Names.{Name, parse, path}
use Rattle.queue_paths.specs.Names.Name.{Of}
use Rattle.queue_paths.specs.Names.Part.{Bounce as BounceFile, Info as InfoFile, Mess as MessFile, Todo as TodoFile}
use Rattle.queue_paths.proofs.Paths.{parse-path}
use Rattle.send_known.specs.declared.channel.Channel.TheVariants.{Local, Remote}
use Rattle.send_core.specs.declared.desk.Desk.{Desk}
use Rattle.send_parts.specs.declared.row.MarkRow.TheVariants as mark
use Rattle.send_parts.specs.declared.row.Row.{Row}
use Rattle.send_parts.specs.declared.row.Row.TheVariants as at
use Rattle.send_core.specs.Table.{due_at}
use Rattle.send_parts.specs.declared.reading.Reading.TheVariants.{Closing, Going, Opening, Shutting}
use Rattle.send_parts.specs.declared.rows.FinishRow.{FinishRow}
use Rattle.send_parts.specs.declared.rows.FinishRow.TheVariants as finish
use Rattle.send_parts.specs.declared.rows.SweepRow.{SweepRow}
use Rattle.send_parts.specs.declared.rows.SweepRow.TheVariants as sweep
use Rattle.send_parts.specs.Steps.{remove_text}
use Rattle.todo_pass.specs.declared.row.Row.{Row as PassRow}
use Rattle.todo_pass.specs.declared.row.Row.TheVariants as todo
use Rattle.todo_pass.specs.Table.{Pass}
use Rattle.todo_pass.specs.Table as pass_table
use Rattle.send_core.specs.Births.{Birth, Births, births_by, cleaned, passed, stated}
use Rattle.send_core.proofs.Coming.{by_file}

-- a stat of a file that is no info file and no remote one tells nothing
pub unstated : (x : Name) → ((told : Answer) (b : Births) → stated (Some x) told b ≡ b) → (told : Answer) (b : Births) → stated (parse (path x)) told b ≡ b
unstated x none told b = ap (λ (o : Option Name). stated o told b) (parse-path x) ∙ none told b

module _ (b : Births) (now : ℕ) where
  abbrev pub IsStill : NeedData → GotData → Type 0
  IsStill due got = (births_by b now due got).of ≡ b.of

  info_stated : (n : ℕ) (told : Answer) → (stated (Some (Of InfoFile n)) told b).of ≡ b.of
  info_stated n (answer.Stat stat) = refl
  info_stated n (answer.Refused why) = refl
  info_stated n (answer.Opened fd) = refl
  info_stated n (answer.Created fd k) = refl
  info_stated n (answer.Count count) = refl
  info_stated n answer.Done = refl
  info_stated n (answer.Name name) = refl
  info_stated n answer.NoName = refl

  -- an info file was stated, which is no message's birth yet
  pub info_still : (n : ℕ) (told : Answer) → (stated (parse (path (Of InfoFile n))) told b).of ≡ b.of
  info_still n told = ap (λ (o : Option Name). (stated o told b).of) (parse-path (Of InfoFile n)) ∙ info_stated n told

  of_stat : (x : Name) → ((told : Answer) (b : Births) → stated (Some x) told b ≡ b) → (told : Answer) → (stated (parse (path x)) told b).of ≡ b.of
  of_stat x none told = ap (λ (c : Births). c.of) (unstated x none told b)

  -- the answer to the command that removes a message
  removed : (o : Option Birth) (n : ℕ) → passed o (remove_text n) b.of ≡ b.of
  removed None n = refl
  removed (Some it) n = refl

  removed_still : (good : Bool) (n : ℕ) → b.command ≡ remove_text n → (cleaned good b).of ≡ b.of
  removed_still true n e = ap (λ (text : List ℕ). passed b.last text b.of) e ∙ removed b.last n
  removed_still false n e = refl

  take_still : (n : ℕ) (got : GotData) → b.command ≡ remove_text n → IsStill (needs.Take port.Clean) got
  take_still n (came.Took bytes) e = removed_still (bytes_eq bytes (43 ∷ [])) n e
  take_still n (came.Answered told) e = refl
  take_still n came.End e = refl
  take_still n (came.Ended status) e = refl
  take_still n came.Crashed e = refl
  take_still n came.Gave e = refl
  take_still n (came.Started pid) e = refl
  take_still n came.Failed e = refl
  take_still n came.Memory e = refl

  give_still : (text : List ℕ) (got : GotData) → IsStill (needs.Give port.Clean text) got
  give_still text came.Gave = refl
  give_still text (came.Took bytes) = refl
  give_still text (came.Answered told) = refl
  give_still text came.End = refl
  give_still text (came.Ended status) = refl
  give_still text came.Crashed = refl
  give_still text (came.Started pid) = refl
  give_still text came.Failed = refl
  give_still text came.Memory = refl

  -- the rows of a todo pass before the answer
  abbrev pub IsBefore : PassRow → Type 0
  IsBefore todo.Answer = ⊥
  IsBefore row = Unit {0}

  pub pass_still : (row : PassRow) (p : Pass) (got : GotData) → IsBefore row → MayCome (pass_table.due_at row p) got → IsStill (pass_table.due_at row p) got
  pass_still (todo.Clear part) p got is may = by_file (pass_table.due_at (todo.Clear part) p) tt (IsStill (pass_table.due_at (todo.Clear part) p)) got may (λ told fit. refl)
  pass_still todo.StatMess p got is may = by_file (pass_table.due_at todo.StatMess p) tt (IsStill (pass_table.due_at todo.StatMess p)) got may (λ told fit. of_stat (Of MessFile p.n) (λ a c. refl) told.answer)
  pass_still todo.OpenTodo p got is may = by_file (pass_table.due_at todo.OpenTodo p) tt (IsStill (pass_table.due_at todo.OpenTodo p)) got may (λ told fit. refl)
  pass_still (todo.ReadTodo fd) p got is may = by_file (pass_table.due_at (todo.ReadTodo fd) p) tt (IsStill (pass_table.due_at (todo.ReadTodo fd) p)) got may (λ told fit. refl)
  pass_still (todo.CloseTodo fd) p got is may = by_file (pass_table.due_at (todo.CloseTodo fd) p) tt (IsStill (pass_table.due_at (todo.CloseTodo fd) p)) got may (λ told fit. refl)
  pass_still (todo.Create part) p got is may = by_file (pass_table.due_at (todo.Create part) p) tt (IsStill (pass_table.due_at (todo.Create part) p)) got may (λ told fit. refl)
  pass_still (todo.Append part fd done) p got is may = by_file (pass_table.due_at (todo.Append part fd done) p) tt (IsStill (pass_table.due_at (todo.Append part fd done) p)) got may (λ told fit. refl)
  pass_still (todo.Sync part fd) p got is may = by_file (pass_table.due_at (todo.Sync part fd) p) tt (IsStill (pass_table.due_at (todo.Sync part fd) p)) got may (λ told fit. refl)
  pass_still (todo.Close part fd) p got is may = by_file (pass_table.due_at (todo.Close part fd) p) tt (IsStill (pass_table.due_at (todo.Close part fd) p)) got may (λ told fit. refl)
  pass_still (todo.Shut fd why) p got is may = by_file (pass_table.due_at (todo.Shut fd why) p) tt (IsStill (pass_table.due_at (todo.Shut fd why) p)) got may (λ told fit. refl)
  pass_still todo.Give p got is may = give_still (pass_table.command_text p.n) got
  pass_still todo.Answer p got is may = absurd is
  pass_still todo.Done p got is may = absurd may
  pass_still (todo.Left why) p got is may = absurd may
  pass_still todo.Lost p got is may = absurd may

  note_still : (row : NoteRow) (w : Writing) (got : GotData) → MayCome (note_due_at row w) got → IsStill (note_due_at row w) got
  note_still written.Open w got may = by_file (note_due_at written.Open w) tt (IsStill (note_due_at written.Open w)) got may (λ told fit. refl)
  note_still written.Create w got may = by_file (note_due_at written.Create w) tt (IsStill (note_due_at written.Create w)) got may (λ told fit. refl)
  note_still (written.Stat fd) w got may = by_file (note_due_at (written.Stat fd) w) tt (IsStill (note_due_at (written.Stat fd) w)) got may (λ told fit. of_stat (Of BounceFile w.n) (λ a c. refl) told.answer)
  note_still (written.Read fd place len) w got may = by_file (note_due_at (written.Read fd place len) w) tt (IsStill (note_due_at (written.Read fd place len) w)) got may (λ told fit. refl)
  note_still (written.Append fd done) w got may = by_file (note_due_at (written.Append fd done) w) tt (IsStill (note_due_at (written.Append fd done) w)) got may (λ told fit. refl)
  note_still (written.Sync fd) w got may = by_file (note_due_at (written.Sync fd) w) tt (IsStill (note_due_at (written.Sync fd) w)) got may (λ told fit. refl)
  note_still (written.Close fd) w got may = by_file (note_due_at (written.Close fd) w) tt (IsStill (note_due_at (written.Close fd) w)) got may (λ told fit. refl)
  note_still (written.Shut fd) w got may = by_file (note_due_at (written.Shut fd) w) tt (IsStill (note_due_at (written.Shut fd) w)) got may (λ told fit. refl)
  note_still written.Written w got may = absurd may
  note_still written.Failed w got may = absurd may

  return_still : (row : ReturnRow) (r : Returning) (got : GotData) → MayCome (return_due_at row r) got → IsStill (return_due_at row r) got
  return_still back.Open r got may = by_file (return_due_at back.Open r) tt (IsStill (return_due_at back.Open r)) got may (λ told fit. refl)
  return_still (back.ReadNotes fd) r got may = by_file (return_due_at (back.ReadNotes fd) r) tt (IsStill (return_due_at (back.ReadNotes fd) r)) got may (λ told fit. refl)
  return_still (back.CloseNotes fd) r got may = by_file (return_due_at (back.CloseNotes fd) r) tt (IsStill (return_due_at (back.CloseNotes fd) r)) got may (λ told fit. refl)
  return_still back.OpenMessage r got may = by_file (return_due_at back.OpenMessage r) tt (IsStill (return_due_at back.OpenMessage r)) got may (λ told fit. refl)
  return_still (back.ReadMessage fd) r got may = by_file (return_due_at (back.ReadMessage fd) r) tt (IsStill (return_due_at (back.ReadMessage fd) r)) got may (λ told fit. refl)
  return_still (back.CloseMessage fd) r got may = by_file (return_due_at (back.CloseMessage fd) r) tt (IsStill (return_due_at (back.CloseMessage fd) r)) got may (λ told fit. refl)
  return_still (back.Shut fd) r got may = by_file (return_due_at (back.Shut fd) r) tt (IsStill (return_due_at (back.Shut fd) r)) got may (λ told fit. refl)
  return_still back.Start r got may = refl
  return_still (back.Give pid) r got may = refl
  return_still (back.Await pid) r got may = refl
  return_still back.Unlink r got may = by_file (return_due_at back.Unlink r) tt (IsStill (return_due_at back.Unlink r)) got may (λ told fit. refl)
  return_still back.Discard r got may = by_file (return_due_at back.Discard r) tt (IsStill (return_due_at back.Discard r)) got may (λ told fit. refl)
  return_still back.Over r got may = absurd may
  return_still back.Failed r got may = absurd may

  pub finish_still : (row : FinishRow) (n : ℕ) (d : Desk) (got : GotData) → (row ≡ finish.Take → b.command ≡ remove_text n) → MayCome (due_at (at.Finish row n) d) got → IsStill (due_at (at.Finish row n) d) got
  finish_still finish.OpenBounce n d got gave may = by_file (due_at (at.Finish finish.OpenBounce n) d) tt (IsStill (due_at (at.Finish finish.OpenBounce n) d)) got may (λ told fit. refl)
  finish_still finish.Return n d got gave may = return_still d.bounce.row d.bounce got may
  finish_still finish.UnlinkInfo n d got gave may = by_file (due_at (at.Finish finish.UnlinkInfo n) d) tt (IsStill (due_at (at.Finish finish.UnlinkInfo n) d)) got may (λ told fit. refl)
  finish_still finish.Give n d got gave may = give_still (remove_text n) got
  finish_still finish.Take n d got gave may = take_still n got (gave refl)
  finish_still finish.Later n d got gave may = absurd may
  finish_still finish.Over n d got gave may = absurd may
  finish_still finish.Lost n d got gave may = absurd may

  abbrev pub IsAnswered : SweepRow → Type 0
  IsAnswered (sweep.Take split n) = b.command ≡ remove_text n
  IsAnswered row = Unit {0}

  pub sweep_still : (row : SweepRow) (d : Desk) (got : GotData) → IsAnswered row → MayCome (due_at (at.Sweep row) d) got → IsStill (due_at (at.Sweep row) d) got
  sweep_still sweep.First d got gave may = by_file (due_at (at.Sweep sweep.First) d) tt (IsStill (due_at (at.Sweep sweep.First) d)) got may (λ told fit. refl)
  sweep_still (sweep.Next split) d got gave may = by_file (due_at (at.Sweep (sweep.Next split)) d) tt (IsStill (due_at (at.Sweep (sweep.Next split)) d)) got may (λ told fit. refl)
  sweep_still (sweep.StatMess split n) d got gave may = by_file (due_at (at.Sweep (sweep.StatMess split n)) d) tt (IsStill (due_at (at.Sweep (sweep.StatMess split n)) d)) got may (λ told fit. of_stat (Of MessFile n) (λ a c. refl) told.answer)
  sweep_still (sweep.StatTodo split n) d got gave may = by_file (due_at (at.Sweep (sweep.StatTodo split n)) d) tt (IsStill (due_at (at.Sweep (sweep.StatTodo split n)) d)) got may (λ told fit. of_stat (Of TodoFile n) (λ a c. refl) told.answer)
  sweep_still (sweep.StatInfo split n todo) d got gave may = by_file (due_at (at.Sweep (sweep.StatInfo split n todo)) d) tt (IsStill (due_at (at.Sweep (sweep.StatInfo split n todo)) d)) got may (λ told fit. info_still n told.answer)
  sweep_still (sweep.Give split n) d got gave may = give_still (remove_text n) got
  sweep_still (sweep.Take split n) d got gave may = take_still n got gave
  sweep_still sweep.Over d got gave may = absurd may
  sweep_still sweep.Lost d got gave may = absurd may

  -- rows that are none of the start, of a todo pass, of a finish and of the sweep
  abbrev pub IsPlain : Row → Type 0
  IsPlain (at.Start row) = ⊥
  IsPlain at.InTodo = ⊥
  IsPlain (at.Finish row n) = ⊥
  IsPlain (at.Sweep row) = ⊥
  IsPlain row = Unit {0}

  pub row_still : (row : Row) (d : Desk) (got : GotData) → IsPlain row → MayCome (due_at row d) got → IsStill (due_at row d) got
  row_still (at.Start row) d got is may = absurd is
  row_still (at.Turn p) d got is may = absurd may
  row_still (at.TakeLink Local) d got is may = refl
  row_still (at.TakeLink Remote) d got is may = refl
  row_still (at.Mark mark.Note m) d got is may = by_file (due_at (at.Mark mark.Note m) d) tt (IsStill (due_at (at.Mark mark.Note m) d)) got may (λ told fit. refl)
  row_still (at.Mark mark.Noting m) d got is may = note_still d.note.row d.note got may
  row_still (at.Mark mark.Open m) d got is may = by_file (due_at (at.Mark mark.Open m) d) tt (IsStill (due_at (at.Mark mark.Open m) d)) got may (λ told fit. refl)
  row_still (at.Mark (mark.Write fd) m) d got is may = by_file (due_at (at.Mark (mark.Write fd) m) d) tt (IsStill (due_at (at.Mark (mark.Write fd) m) d)) got may (λ told fit. refl)
  row_still (at.Mark (mark.Close fd done) m) d got is may = by_file (due_at (at.Mark (mark.Close fd done) m) d) tt (IsStill (due_at (at.Mark (mark.Close fd done) m) d)) got may (λ told fit. refl)
  row_still (at.UnlinkFile c n p) d got is may = by_file (due_at (at.UnlinkFile c n p) d) tt (IsStill (due_at (at.UnlinkFile c n p) d)) got may (λ told fit. refl)
  row_still (at.ReadFile c n begun Opening) d got is may = by_file (due_at (at.ReadFile c n begun Opening) d) tt (IsStill (due_at (at.ReadFile c n begun Opening) d)) got may (λ told fit. refl)
  row_still (at.ReadFile c n begun (Going fd)) d got is may = by_file (due_at (at.ReadFile c n begun (Going fd)) d) tt (IsStill (due_at (at.ReadFile c n begun (Going fd)) d)) got may (λ told fit. refl)
  row_still (at.ReadFile c n begun (Closing fd)) d got is may = by_file (due_at (at.ReadFile c n begun (Closing fd)) d) tt (IsStill (due_at (at.ReadFile c n begun (Closing fd)) d)) got may (λ told fit. refl)
  row_still (at.ReadFile c n begun (Shutting fd)) d got is may = by_file (due_at (at.ReadFile c n begun (Shutting fd)) d) tt (IsStill (due_at (at.ReadFile c n begun (Shutting fd)) d)) got may (λ told fit. refl)
  row_still (at.Request Local) d got is may = refl
  row_still (at.Request Remote) d got is may = refl
  row_still (at.FindTodo search) d got is may = by_file (due_at (at.FindTodo search) d) tt (IsStill (due_at (at.FindTodo search) d)) got may (λ told fit. refl)
  row_still at.InTodo d got is may = absurd is
  row_still (at.Finish row n) d got is may = absurd is
  row_still (at.Sweep row) d got is may = absurd is
  row_still (at.Ended status) d got is may = absurd may
