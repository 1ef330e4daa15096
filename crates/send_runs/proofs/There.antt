-- Which channel files are there at the rows at which a message becomes known.
use Rattle.std.proofs.Common.{◌≡◌, ℕ, ◌+◌, List, [], ◌∷◌, ◌++◌, length, nat_lt, bytes_eq, Bool, true, false, if◌then◌else◌, Option, Some, None, refl, sym, ap, ◌∙◌, subst, eq-eqb}
use Rattle.std.specs.Prelude.{Result, Ok, Err}
use Rattle.address_rules.specs.declared.controls.Controls.{Controls}
use Rattle.call_fs.specs.Columns.{IsAnswerTo}
use Rattle.call_fs.specs.Past.{IsRunBy}
use Rattle.call_fs.specs.Program.{MayCome}
use Rattle.call_fs.specs.declared.calls.Answer.{Answer}
use Rattle.call_fs.specs.declared.calls.Answer.TheVariants as answer
use Rattle.call_fs.specs.declared.calls.CallData.TheVariants as call
use Rattle.call_fs.specs.declared.calls.Fd.{Fd}
use Rattle.call_fs.specs.declared.calls.FsError.TheVariants as why
use Rattle.call_fs.specs.declared.past.GotData.{GotData}
use Rattle.call_fs.specs.declared.past.GotData.TheVariants as came
use Rattle.call_fs.specs.declared.past.NeedData.{NeedData}
use Rattle.call_fs.specs.declared.past.Own.{Own}
use Rattle.call_fs.specs.declared.program.Ready.{Ready}
use Rattle.mail_bytes.specs.Decimal.{digits}
use Rattle.queue_paths.specs.Names.{Name, parse, path}
use Rattle.queue_paths.specs.Names.Name.{Of as NameOf}
use Rattle.queue_paths.specs.Names.Part.{Info as InfoFile, Local as LocalFile, Mess as MessFile, Remote as RemoteFile}
use Rattle.queue_paths.proofs.Paths.{parse-path}
use Rattle.send_core.proofs.Coming.{by_file}
use Rattle.send_core.specs.Desk.{past_todo}
use Rattle.send_core.specs.Finish.{looked_up, sweep_begun}
use Rattle.send_core.specs.Start.{start_at}
use Rattle.send_core.specs.Table.{Next, act, arrive, place_after, due_at, from_point, row_now}
use Rattle.send_core.specs.Turn.{begun_at, is_done, known_of, todo_found, todo_named, todo_none, todo_on, todo_over, todo_went}
use Rattle.send_core.specs.declared.desk.Desk.{Desk}
use Rattle.send_parts.specs.declared.row.Row.{Row}
use Rattle.send_parts.specs.declared.row.Row.TheVariants as at
use Rattle.send_known.specs.declared.channel.Channel.{Channel}
use Rattle.send_known.specs.declared.channel.Channel.TheVariants.{Local, Remote}
use Rattle.send_known.specs.Messages.{learned}
use Rattle.send_parts.specs.declared.book.Book.{Book}
use Rattle.send_parts.specs.declared.reading.Progress.{Progress}
use Rattle.send_parts.specs.declared.reading.Progress.TheVariants.{Failed, Goes, Missing, Whole}
use Rattle.send_parts.specs.declared.reading.Reading.{Reading}
use Rattle.send_parts.specs.declared.reading.Reading.TheVariants.{Closing, Going, Opening, Shutting}
use Rattle.send_parts.specs.declared.reply.Way.{Way}
use Rattle.send_parts.specs.declared.reply.Way.TheVariants as way
use Rattle.send_parts.specs.declared.rows.Search.{Search}
use Rattle.send_parts.specs.declared.rows.StartRow.{StartRow}
use Rattle.send_parts.specs.declared.rows.StartRow.TheVariants as start
use Rattle.send_parts.specs.Files.{is_info, message_number, number_below}
use Rattle.send_parts.specs.Readings.{read_on}
use Rattle.send_parts.specs.Replies.{Said, answered as replied, said}
use Rattle.send_parts.specs.Rows.{is_again}
use Rattle.send_parts.specs.Start.{by_way, control_read, greeted_local, greeted_remote, info_read, info_row, remote_stated, scan_row, scanned, start_failed}
use Rattle.send_parts.specs.Sweep.{sweep_to}
use Rattle.todo_pass.specs.declared.part.Target.{Target}
use Rattle.todo_pass.specs.declared.part.Target.TheVariants as target
use Rattle.todo_pass.specs.declared.row.Row.{Row as PassRow}
use Rattle.todo_pass.specs.declared.row.Row.TheVariants as todo
use Rattle.todo_pass.specs.declared.row.Why.TheVariants as left
use Rattle.todo_pass.specs.declared.sorted.Sorted.{Sorted}
use Rattle.todo_pass.specs.Sorting.{has, sort_todo, text_of}
use Rattle.todo_pass.specs.Table.{Pass, answer_row, goes, moved_at}
use Rattle.todo_pass.specs.Table as pass_table
use Rattle.send_runs.specs.DueMoments.{is_file}
use Rattle.send_runs.specs.Files.{gone, looked, made, there_by, there_in}
use Rattle.send_runs.proofs.Calm.{point_fresh}
use Rattle.send_runs.proofs.Clearing.{IsNear, IsOutside, fresh_near, near_finish, near_past_todo, near_requested, near_swept, near_took, near_unlinked, outside_mark, outside_read}
use Rattle.send_runs.proofs.Limits.{IsEarly, early_control}
use Rattle.send_runs.proofs.Quiet.{no_info, no_mess}
use Rattle.send_runs.proofs.Steady.{IsLook}

-- By which files are there: those of a todo pass are made as its text says

module _ (th : Channel → ℕ → Bool) where
  abbrev Made : Target → Pass → Type 0
  Made target.Info p = (th Local p.n ≡ false) × (th Remote p.n ≡ false)
  Made target.Local p = (th Local p.n ≡ has p.sorted.local) × (th Remote p.n ≡ false)
  Made target.Remote p = (th Local p.n ≡ has p.sorted.local) × (th Remote p.n ≡ has p.sorted.remote)

  abbrev pub PassThere : PassRow → Pass → Type 0
  PassThere (todo.Clear target.Info) p = Unit {0}
  PassThere (todo.Clear target.Local) p = Unit {0}
  PassThere (todo.Clear target.Remote) p = th Local p.n ≡ false
  PassThere todo.StatMess p = Made target.Info p
  PassThere todo.OpenTodo p = Made target.Info p
  PassThere (todo.ReadTodo fd) p = Made target.Info p
  PassThere (todo.CloseTodo fd) p = Made target.Info p
  PassThere (todo.Create target.Info) p = Made target.Info p
  PassThere (todo.Create target.Local) p = (th Local p.n ≡ false) × (th Remote p.n ≡ false) × (has p.sorted.local ≡ true)
  PassThere (todo.Create target.Remote) p = (th Local p.n ≡ has p.sorted.local) × (th Remote p.n ≡ false) × (has p.sorted.remote ≡ true)
  PassThere (todo.Append t fd done) p = Made t p
  PassThere (todo.Sync t fd) p = Made t p
  PassThere (todo.Close t fd) p = Made t p
  PassThere todo.Give p = Made target.Remote p
  PassThere todo.Answer p = Made target.Remote p
  PassThere row p = Unit {0}

  abbrev pub ThereAt : Row → Pass → Type 0
  ThereAt (at.Start (start.StatRemote split k birth local)) pass = th Local k ≡ local
  ThereAt at.InTodo pass = PassThere pass.row pass
  ThereAt row pass = Unit {0}

  near_there : (row : Row) (pass : Pass) → IsNear row → ThereAt row pass
  near_there (at.Start row) pass is = absurd is
  near_there (at.UnlinkFile c n p) pass is = absurd is
  near_there at.InTodo pass is = absurd is
  near_there row pass is = tt

  outside_there : (row : Row) (pass : Pass) → IsOutside row → ThereAt row pass
  outside_there (at.Start row) pass is = absurd is
  outside_there at.InTodo pass is = absurd is
  outside_there row pass is = tt

  arrives_there : (row : Row) (d : Desk) (now : ℕ) (ready : Ready) → ThereAt row d.pass → ThereAt (arrive row d now ready) d.pass
  arrives_there (at.Turn p) d now ready h = near_there (from_point p d now ready) d.pass (fresh_near (from_point p d now ready) (point_fresh d now ready p))
  arrives_there row d now ready h = h

  abbrev Stands : Desk → Type 0
  Stands d = ThereAt d.row d.pass

  there_if : (b : Bool) (x y : Desk) → Stands x → Stands y → Stands (if b then x else y)
  there_if true x y p q = p
  there_if false x y p q = q

  there_todo : (now : ℕ) (d : Desk) → Stands (past_todo now d)
  there_todo now d = near_there (past_todo now d).row (past_todo now d).pass (near_past_todo now d)

  there_none : (again : Bool) (last : List ℕ) (now : ℕ) (d : Desk) → Stands (todo_none again last now d)
  there_none false (x ∷ xs) now d = tt
  there_none false [] now d = there_todo now d
  there_none true last now d = there_todo now d

  there_found : (o : Option ℕ) (text : List ℕ) (s : Search) (d : Desk) → Stands (todo_found o text s d)
  there_found None text s d = tt
  there_found (Some n) text s d = tt

  there_named : (w : Way) (text : List ℕ) (s : Search) (now : ℕ) (d : Desk) → Stands (todo_named w text s now d)
  there_named way.Fine text s now d = there_found (message_number text) text s d
  there_named way.Over text s now d = there_none (is_again s) d.last_left now d
  there_named way.Absent text s now d = there_none (is_again s) d.last_left now d
  there_named way.NoMemory text s now d = there_none (is_again s) d.last_left now d
  there_named way.Broken text s now d = there_none (is_again s) d.last_left now d

  there_on : (row : PassRow) (p : Pass) (now : ℕ) (d : Desk) → PassThere p.row p → Stands (todo_on row p now d)
  there_on (todo.Left why) p now d h = there_todo now (record d { pass = p; last_left = digits p.n })
  there_on todo.Lost p now d h = tt
  there_on row p now d h = h

  there_over : (row : PassRow) (p : Pass) (now : ℕ) (d : Desk) → PassThere p.row p → Stands (todo_over row p now d)
  there_over row p now d h =
      let learnt : Desk = record d { pass = p; book = record d.book { messages = learned (known_of p) now d.book.messages } } in
      there_if (is_done row) (past_todo now learnt) (todo_on row p now d) (there_todo now learnt) (there_on row p now d h)

  there_went : (row : PassRow) (got : GotData) (p : Pass) (now : ℕ) (d : Desk) → PassThere p.row p → Stands (todo_went row got p now d)
  there_went todo.Answer got p now d h = there_over (answer_row got) p now d h
  there_went row got p now d h = there_on p.row p now d h

  -- what comes after a file of a pass
  remote_there : (p : Pass) (y : Bool) → has p.sorted.remote ≡ y → Made target.Local p → PassThere (pass_table.remote_row y) p
  remote_there p true e h = (h.0, h.1, e)
  remote_there p false e h = (h.0, h.1 ∙ sym e)

  local_there : (p : Pass) (x y : Bool) → has p.sorted.local ≡ x → has p.sorted.remote ≡ y → Made target.Info p → PassThere (pass_table.local_row x y) p
  local_there p true y e f h = (h.0, h.1, e)
  local_there p false y e f h = remote_there p y f (h.0 ∙ sym e, h.1)

  made_there : (t : Target) (p : Pass) → Made t p → PassThere (pass_table.made_row t p.sorted) p
  made_there target.Info p h = local_there p (has p.sorted.local) (has p.sorted.remote) refl refl h
  made_there target.Local p h = remote_there p (has p.sorted.remote) refl h
  made_there target.Remote p h = h

-- the same of others

pub same_file : (c : Channel) (n : ℕ) (x : Name) (b was : Bool) → is_file c n (Some x) ≡ false → (if is_file c n (parse (path x)) then b else was) ≡ was
same_file c n x b was e = ap (λ (y : Bool). if y then b else was) (ap (λ (o : Option Name). is_file c n o) (parse-path x) ∙ e)

pub own_file : (c : Channel) (n : ℕ) (x : Name) (b was : Bool) → is_file c n (Some x) ≡ true → (if is_file c n (parse (path x)) then b else was) ≡ b
own_file c n x b was e = ap (λ (y : Bool). if y then b else was) (ap (λ (o : Option Name). is_file c n o) (parse-path x) ∙ e)

module _ (th : Channel → ℕ → Bool) (controls : Controls) (now : ℕ) where
  -- after an answer about this file
  abbrev Cleared : Name → Answer → Channel → ℕ → Bool
  Cleared x a c n = if is_file c n (parse (path x)) then gone a (th c n) else th c n

  abbrev Looked : Name → Answer → Channel → ℕ → Bool
  Looked x a c n = if is_file c n (parse (path x)) then looked a (th c n) else th c n

  abbrev Created : Name → Answer → Channel → ℕ → Bool
  Created x a c n = if is_file c n (parse (path x)) then made a (th c n) else th c n

  clear_info : (p : Pass) (x : Name) (a : Answer) → PassThere (Cleared x a) (pass_table.clear_row target.Info a) (goes p (pass_table.clear_row target.Info a))
  clear_info p x answer.Done = tt
  clear_info p x (answer.Refused why.NotThere) = tt
  clear_info p x a = tt

  clear_local : (p : Pass) (a : Answer) → PassThere (Cleared (NameOf LocalFile p.n) a) (pass_table.clear_row target.Local a) (goes p (pass_table.clear_row target.Local a))
  clear_local p answer.Done = own_file Local p.n (NameOf LocalFile p.n) false (th Local p.n) (eq-eqb p.n p.n refl)
  clear_local p (answer.Refused why.NotThere) = own_file Local p.n (NameOf LocalFile p.n) false (th Local p.n) (eq-eqb p.n p.n refl)
  clear_local p a = tt

  clear_remote : (p : Pass) (a : Answer) → th Local p.n ≡ false → PassThere (Cleared (NameOf RemoteFile p.n) a) (pass_table.clear_row target.Remote a) (goes p (pass_table.clear_row target.Remote a))
  clear_remote p answer.Done h = (same_file Local p.n (NameOf RemoteFile p.n) false (th Local p.n) refl ∙ h, own_file Remote p.n (NameOf RemoteFile p.n) false (th Remote p.n) (eq-eqb p.n p.n refl))
  clear_remote p (answer.Refused why.NotThere) h =
      (same_file Local p.n (NameOf RemoteFile p.n) false (th Local p.n) refl ∙ h, own_file Remote p.n (NameOf RemoteFile p.n) false (th Remote p.n) (eq-eqb p.n p.n refl))
  clear_remote p a h = tt

  stated_there : (p : Pass) (a : Answer) → Made th target.Info p → let q : Pass = pass_table.stated p a in PassThere (Looked (NameOf MessFile p.n) a) q.row q
  stated_there p (answer.Stat stat) h =
      let x : Name = NameOf MessFile p.n in
      (same_file Local p.n x true (th Local p.n) (no_mess Local p.n p.n) ∙ h.0, same_file Remote p.n x true (th Remote p.n) (no_mess Remote p.n p.n) ∙ h.1)
  stated_there p (answer.Refused why.NotThere) h = tt
  stated_there p a h = tt

  open_there : (p : Pass) (a : Answer) → Made th target.Info p → PassThere th (pass_table.open_row a) (goes p (pass_table.open_row a))
  open_there p (answer.Opened fd) h = h
  open_there p a h = tt

  read_there : (p : Pass) (fd : Fd) (a : Answer) (bytes : List ℕ) → Made th target.Info p → let q : Pass = pass_table.read p fd a bytes in PassThere th q.row q
  read_there p fd (answer.Count count) bytes h = by (nat_lt (length bytes) pass_table.piece_size) where
    by : (b : Bool) → PassThere th (if b then todo.CloseTodo fd else todo.ReadTodo fd) (record p { row = if b then todo.CloseTodo fd else todo.ReadTodo fd; todo = p.todo ++ bytes })
    by true = h
    by false = h
  read_there p fd a bytes h = tt

  sorted_there : (p : Pass) (r : Result Sorted ℕ) → Made th target.Info p → let q : Pass = pass_table.sorted_with p r in PassThere th q.row q
  sorted_there p (Ok s) h = h
  sorted_there p (Err place) h = tt

  create_info : (p : Pass) (a : Answer) → Made th target.Info p → PassThere (Created (NameOf InfoFile p.n) a) (pass_table.create_row target.Info a) (goes p (pass_table.create_row target.Info a))
  create_info p (answer.Created fd number) h =
      let x : Name = NameOf InfoFile p.n in
      (same_file Local p.n x true (th Local p.n) (no_info Local p.n p.n) ∙ h.0, same_file Remote p.n x true (th Remote p.n) (no_info Remote p.n p.n) ∙ h.1)
  create_info p a h = tt

  create_local : (p : Pass) (a : Answer) → PassThere th (todo.Create target.Local) p → PassThere (Created (NameOf LocalFile p.n) a) (pass_table.create_row target.Local a) (goes p (pass_table.create_row target.Local a))
  create_local p (answer.Created fd number) h =
      let x : Name = NameOf LocalFile p.n in
      (own_file Local p.n x true (th Local p.n) (eq-eqb p.n p.n refl) ∙ sym h.2, same_file Remote p.n x true (th Remote p.n) refl ∙ h.1)
  create_local p a h = tt

  create_remote : (p : Pass) (a : Answer) → PassThere th (todo.Create target.Remote) p → PassThere (Created (NameOf RemoteFile p.n) a) (pass_table.create_row target.Remote a) (goes p (pass_table.create_row target.Remote a))
  create_remote p (answer.Created fd number) h =
      let x : Name = NameOf RemoteFile p.n in
      (same_file Local p.n x true (th Local p.n) refl ∙ h.0, own_file Remote p.n x true (th Remote p.n) (eq-eqb p.n p.n refl) ∙ sym h.2)
  create_remote p a h = tt

  appended_there : (p : Pass) (t : Target) (fd : Fd) (done : ℕ) (a : Answer) → Made th t p → let q : Pass = pass_table.appended p t fd done now a in PassThere th q.row q
  appended_there p t fd done answer.Done h = by (nat_lt (done + pass_table.piece_size) (length (text_of p.sorted t))) where
    by : (b : Bool) → let row : PassRow = if b then todo.Append t fd (done + pass_table.piece_size) else todo.Sync t fd in PassThere th row (record p { row = row; birth = pass_table.born t now p })
    by true = so t h where
      so : (t : Target) → Made th t p → Made th t (record p { row = todo.Append t fd (done + pass_table.piece_size); birth = pass_table.born t now p })
      so target.Info h = h
      so target.Local h = h
      so target.Remote h = h
    by false = so t h where
      so : (t : Target) → Made th t p → Made th t (record p { row = todo.Sync t fd; birth = pass_table.born t now p })
      so target.Info h = h
      so target.Local h = h
      so target.Remote h = h
  appended_there p t fd done a h = tt

  made_goes : (t : Target) (p : Pass) (row : PassRow) → Made th t p → Made th t (goes p row)
  made_goes target.Info p row h = h
  made_goes target.Local p row h = h
  made_goes target.Remote p row h = h

  sync_there : (p : Pass) (t : Target) (fd : Fd) (a : Answer) → Made th t p → PassThere th (pass_table.sync_row t fd a) (goes p (pass_table.sync_row t fd a))
  sync_there p t fd answer.Done h = made_goes t p (todo.Close t fd) h
  sync_there p t fd a h = tt

  give_there : (p : Pass) (got : GotData) → Made th target.Remote p → PassThere th (pass_table.give_row got) (goes p (pass_table.give_row got))
  give_there p came.Gave h = h
  give_there p got h = tt

  answer_there : (p : Pass) (got : GotData) → PassThere th (answer_row got) (goes p (answer_row got))
  answer_there p (came.Took bytes) = by (bytes_eq bytes (43 ∷ [])) where
    by : (b : Bool) → let row : PassRow = if b then todo.Done else todo.Left left.Unclean in PassThere th row (goes p row)
    by true = tt
    by false = tt
  answer_there p got = tt

  abbrev After : PassRow → Pass → GotData → Type 0
  After row p got = let q : Pass = moved_at controls row p now got in PassThere (λ c n. there_by c n (pass_table.due_at row p) got (th c n)) q.row q

  moved_there : (row : PassRow) (p : Pass) (got : GotData) → MayCome (pass_table.due_at row p) got → PassThere th row p → After row p got
  moved_there (todo.Clear target.Info) p got may h = by_file (pass_table.due_at (todo.Clear target.Info) p) tt (After (todo.Clear target.Info) p) got may (λ told fit. clear_info p (NameOf InfoFile p.n) told.answer)
  moved_there (todo.Clear target.Local) p got may h = by_file (pass_table.due_at (todo.Clear target.Local) p) tt (After (todo.Clear target.Local) p) got may (λ told fit. clear_local p told.answer)
  moved_there (todo.Clear target.Remote) p got may h = by_file (pass_table.due_at (todo.Clear target.Remote) p) tt (After (todo.Clear target.Remote) p) got may (λ told fit. clear_remote p told.answer h)
  moved_there todo.StatMess p got may h = by_file (pass_table.due_at todo.StatMess p) tt (After todo.StatMess p) got may (λ told fit. stated_there p told.answer h)
  moved_there todo.OpenTodo p got may h = by_file (pass_table.due_at todo.OpenTodo p) tt (After todo.OpenTodo p) got may (λ told fit. open_there p told.answer h)
  moved_there (todo.ReadTodo fd) p got may h = by_file (pass_table.due_at (todo.ReadTodo fd) p) tt (After (todo.ReadTodo fd) p) got may (λ told fit. read_there p fd told.answer told.bytes h)
  moved_there (todo.CloseTodo fd) p got may h = by_file (pass_table.due_at (todo.CloseTodo fd) p) tt (After (todo.CloseTodo fd) p) got may (λ told fit. sorted_there p (sort_todo controls p.todo) h)
  moved_there (todo.Create target.Info) p got may h = by_file (pass_table.due_at (todo.Create target.Info) p) tt (After (todo.Create target.Info) p) got may (λ told fit. create_info p told.answer h)
  moved_there (todo.Create target.Local) p got may h = by_file (pass_table.due_at (todo.Create target.Local) p) tt (After (todo.Create target.Local) p) got may (λ told fit. create_local p told.answer h)
  moved_there (todo.Create target.Remote) p got may h = by_file (pass_table.due_at (todo.Create target.Remote) p) tt (After (todo.Create target.Remote) p) got may (λ told fit. create_remote p told.answer h)
  moved_there (todo.Append t fd done) p got may h = by_file (pass_table.due_at (todo.Append t fd done) p) tt (After (todo.Append t fd done) p) got may (λ told fit. appended_there p t fd done told.answer h)
  moved_there (todo.Sync t fd) p got may h = by_file (pass_table.due_at (todo.Sync t fd) p) tt (After (todo.Sync t fd) p) got may (λ told fit. sync_there p t fd told.answer h)
  moved_there (todo.Close t fd) p got may h =
      by_file (pass_table.due_at (todo.Close t fd) p) tt (After (todo.Close t fd) p) got may
      (λ told fit. made_there th t (goes p (pass_table.made_row t p.sorted)) (made_goes t p (pass_table.made_row t p.sorted) h))
  moved_there (todo.Shut fd why) p got may h = by_file (pass_table.due_at (todo.Shut fd why) p) tt (After (todo.Shut fd why) p) got may (λ told fit. tt)
  moved_there todo.Give p got may h = give_there p got h
  moved_there todo.Answer p got may h = answer_there p got
  moved_there todo.Done p got may h = absurd may
  moved_there (todo.Left why) p got may h = absurd may
  moved_there todo.Lost p got may h = absurd may

-- The start

early_look : (row : StartRow) → IsEarly row → IsLook row → ⊥
early_look (start.StatRemote split n birth local) is look = absurd is
early_look row is look = absurd look

failed_look : (w : Way) → IsLook (start_failed w) → ⊥
failed_look way.NoMemory look = look
failed_look w look = look

greeted_look : (w : Way) (bytes : List ℕ) (b : Book) → IsLook (greeted_local w bytes b).row → ⊥
greeted_look way.Fine (byte ∷ rest) b look = look
greeted_look way.Fine [] b look = look
greeted_look way.Over bytes b look = look
greeted_look way.Absent bytes b look = look
greeted_look way.NoMemory bytes b look = look
greeted_look way.Broken bytes b look = look

greeted_too : (w : Way) (bytes : List ℕ) (b : Book) → IsLook (greeted_remote w bytes b).row → ⊥
greeted_too way.Fine (byte ∷ rest) b look = look
greeted_too way.Fine [] b look = look
greeted_too way.Over bytes b look = look
greeted_too way.Absent bytes b look = look
greeted_too way.NoMemory bytes b look = look
greeted_too way.Broken bytes b look = look

scan_row_look : (o : Option ℕ) (split : ℕ) → IsLook (scan_row o split) → ⊥
scan_row_look None split look = look
scan_row_look (Some n) split look = look

scanned_look : (w : Way) (text : List ℕ) (split : ℕ) (b : Book) → IsLook (scanned w text split b).row → ⊥
scanned_look way.Fine text split b look = scan_row_look (number_below split text) split look
scanned_look way.Over text split b look = by (nat_lt split 22) look where
  by : (x : Bool) → IsLook (if x then start.Scan (split + 1) else start.Over) → ⊥
  by true look = look
  by false look = look
scanned_look way.Absent text split b look = failed_look way.Absent look
scanned_look way.NoMemory text split b look = failed_look way.NoMemory look
scanned_look way.Broken text split b look = failed_look way.Broken look

by_way_look : (w : Way) (x y : StartRow) → (IsLook x → ⊥) → (IsLook y → ⊥) → IsLook (by_way w x y) → ⊥
by_way_look way.Fine x y p q look = p look
by_way_look way.Absent x y p q look = q look
by_way_look way.Over x y p q look = failed_look way.Over look
by_way_look way.NoMemory x y p q look = failed_look way.NoMemory look
by_way_look way.Broken x y p q look = failed_look way.Broken look

info_row_look : (b : Bool) (split n : ℕ) → IsLook (info_row b split n) → ⊥
info_row_look true split n look = look
info_row_look false split n look = look

info_look : (x : Progress) (split n : ℕ) (g : Reading) (s : Said) (b : Book) → IsLook (info_read x split n g s b).row → ⊥
info_look (Goes Opening) split n g s b look = look
info_look (Goes (Going fd)) split n g s b look = look
info_look (Goes (Closing fd)) split n g s b look = look
info_look (Goes (Shutting fd)) split n g s b look = failed_look s.way look
info_look Whole split n g s b look = info_row_look (is_info b.read) split n look
info_look Missing split n g s b look = look
info_look Failed split n g s b look = failed_look s.way look

stated_look : (w : Way) (split n birth : ℕ) (local : Bool) (b : Book) → IsLook (remote_stated w split n birth local b).row → ⊥
stated_look way.Fine split n birth local b look = look
stated_look way.Absent split n birth local b look = look
stated_look way.Over split n birth local b look = failed_look way.Over look
stated_look way.NoMemory split n birth local b look = failed_look way.NoMemory look
stated_look way.Broken split n birth local b look = failed_look way.Broken look

no_look : (th : Channel → ℕ → Bool) (row : StartRow) (pass : Pass) → (IsLook row → ⊥) → ThereAt th (start_at row) pass
no_look th start.Over pass none = tt
no_look th (start.Ended status) pass none = tt
no_look th (start.StatRemote split k birth local) pass none = absurd (none tt)
no_look th row pass none = tt

-- the look for the local file tells whether that is there
local_look : (th : Channel → ℕ → Bool) (split n birth : ℕ) (pass : Pass) (a : Answer) (bytes : List ℕ) → IsAnswerTo (call.Stat (path (NameOf LocalFile n))) a
    → ThereAt (λ c k. if is_file c k (parse (path (NameOf LocalFile n))) then looked a (th c k) else th c k) (start_at (by_way (replied a bytes).way (start.StatRemote split n birth true) (start.StatRemote split n birth false))) pass
local_look th split n birth pass (answer.Stat stat) bytes fit = own_file Local n (NameOf LocalFile n) true (th Local n) (eq-eqb n n refl)
local_look th split n birth pass (answer.Refused why.NotThere) bytes fit = own_file Local n (NameOf LocalFile n) false (th Local n) (eq-eqb n n refl)
local_look th split n birth pass (answer.Refused why.Fault) bytes fit = tt
local_look th split n birth pass a bytes fit = absurd fit

-- each row

module _ (th : Channel → ℕ → Bool) (now : ℕ) (d : Desk) where
  abbrev To : Row → GotData → Type 0
  To row got = let e : Desk = act row now got d in ThereAt (λ c n. there_by c n (due_at row d) got (th c n)) e.row e.pass

  abbrev Then : Row → GotData → Channel → ℕ → Bool
  Then row got c n = there_by c n (due_at row d) got (th c n)

  start_there : (row : StartRow) (got : GotData) → MayCome (due_at (at.Start row) d) got → To (at.Start row) got
  start_there (start.StatLocal split n birth) got may = by_file (due_at (at.Start (start.StatLocal split n birth)) d) tt (To (at.Start (start.StatLocal split n birth))) got may
      (λ told fit. local_look th split n birth d.pass told.answer told.bytes fit)
  start_there (start.Control file g) got may =
      let b : Book = control_read (read_on g (said got)) file g (said got) d.book in
      no_look (Then (at.Start (start.Control file g)) got) b.row d.pass (early_look b.row (early_control (read_on g (said got)) file g (said got) d.book))
  start_there start.GreetLocal got may = no_look (Then (at.Start start.GreetLocal) got) (greeted_local (said got).way (said got).bytes d.book).row d.pass (greeted_look (said got).way (said got).bytes d.book)
  start_there (start.GreetRemote limit) got may = no_look (Then (at.Start (start.GreetRemote limit)) got) (greeted_remote (said got).way (said got).bytes d.book).row d.pass (greeted_too (said got).way (said got).bytes d.book)
  start_there (start.Scan split) got may = no_look (Then (at.Start (start.Scan split)) got) (scanned (said got).way (said got).bytes split d.book).row d.pass (scanned_look (said got).way (said got).bytes split d.book)
  start_there (start.StatTodo split n) got may =
      no_look (Then (at.Start (start.StatTodo split n)) got) (by_way (said got).way (start.Scan split) (start.ReadInfo split n Opening)) d.pass
      (by_way_look (said got).way (start.Scan split) (start.ReadInfo split n Opening) (λ look. look) (λ look. look))
  start_there (start.ReadInfo split n g) got may =
      no_look (Then (at.Start (start.ReadInfo split n g)) got) (info_read (read_on g (said got)) split n g (said got) d.book).row d.pass (info_look (read_on g (said got)) split n g (said got) d.book)
  start_there (start.StatInfo split n) got may =
      no_look (Then (at.Start (start.StatInfo split n)) got) (by_way (said got).way (start.StatLocal split n (said got).stat.moment) (start.Scan split)) d.pass
      (by_way_look (said got).way (start.StatLocal split n (said got).stat.moment) (start.Scan split) (λ look. look) (λ look. look))
  start_there (start.StatRemote split n birth local) got may =
      no_look (Then (at.Start (start.StatRemote split n birth local)) got) (remote_stated (said got).way split n birth local d.book).row d.pass (stated_look (said got).way split n birth local d.book)
  start_there start.Over got may = absurd may
  start_there (start.Ended status) got may = absurd may

  near_to : (row : Row) (got : GotData) → IsNear (act row now got d).row → To row got
  near_to row got is = let e : Desk = act row now got d in near_there (Then row got) e.row e.pass is

  outside_to : (row : Row) (got : GotData) → IsOutside (act row now got d).row → To row got
  outside_to row got is = let e : Desk = act row now got d in outside_there (Then row got) e.row e.pass is

  row_there : (row : Row) (got : GotData) → MayCome (due_at row d) got → ThereAt th row d.pass → To row got
  row_there (at.Start row) got may h = start_there row got may
  row_there (at.Turn p) got may h = absurd may
  row_there (at.TakeLink c) got may h = near_to (at.TakeLink c) got (near_took (said got).way (said got).bytes c d)
  row_there (at.Mark row m) got may h = outside_to (at.Mark row m) got (outside_mark row m got d)
  row_there (at.UnlinkFile c n p) got may h = near_to (at.UnlinkFile c n p) got (near_unlinked (said got).way c n p now d)
  row_there (at.ReadFile c n begun reading) got may h = outside_to (at.ReadFile c n begun reading) got (outside_read (read_on reading (said got)) c n (begun_at reading begun now) reading now (said got) d)
  row_there (at.Request c) got may h = near_to (at.Request c) got (near_requested (said got).way c d)
  row_there (at.FindTodo s) got may h = there_named (Then (at.FindTodo s) got) (said got).way (said got).bytes s now d
  row_there at.InTodo got may h =
      there_went (λ c n. there_by c n (pass_table.due_at d.pass.row d.pass) got (th c n)) d.pass.row got (moved_at d.book.controls d.pass.row d.pass now got) now d (moved_there th d.book.controls now d.pass.row d.pass got may h)
  row_there (at.Finish row n) got may h = near_to (at.Finish row n) got (near_finish row n now got d)
  row_there (at.Sweep row) got may h = near_to (at.Sweep row) got (near_swept (sweep_to row now (said got) d.book) (looked_up row (said got) (sweep_begun row now d)))
  row_there (at.Ended status) got may h = absurd may

there_kept : (turns : Option ℕ) (past : List Own) → IsRunBy (Next turns) past → ThereAt (λ c n. there_in c n past) (place_after turns past).row (place_after turns past).pass
there_kept turns [] run = tt
there_kept turns (event ∷ before) run =
    let d : Desk = place_after turns before in
    let row : Row = row_now d event.read event.ready in
    let th : Channel → ℕ → Bool = (λ c n. there_in c n before) in
    let may : MayCome (due_at row d) event.came = subst (λ (x : NeedData). MayCome x event.came) (sym run.1.0) run.1.1 in
    let h : ThereAt th row d.pass = arrives_there th d.row d event.read event.ready (there_kept turns before run.0) in
    let e : Desk = place_after turns (event ∷ before) in
    subst (λ (due : NeedData). ThereAt (λ c n. there_by c n due event.came (there_in c n before)) e.row e.pass) run.1.0 (row_there th event.read d row event.came may h)

-- so it is where the next event begins
pub there_here : (turns : Option ℕ) (past : List Own) (now : ℕ) (ready : Ready) → IsRunBy (Next turns) past → ThereAt (λ c n. there_in c n past) (row_now (place_after turns past) now ready) (place_after turns past).pass
there_here turns past now ready run = let d : Desk = place_after turns past in arrives_there (λ c n. there_in c n past) d.row d now ready (there_kept turns past run)
