-- After each event but a giving to the cleaner a sender waits for nothing, or does nothing more.
use Rattle.std.proofs.Common.{◌≡◌, inl, inr, ℕ, ◌+◌, ◌-◌, List, [], ◌∷◌, length, Bool, true, false, Option, Some, None, Result, Ok, Err, refl, ap, bytes_eq, nat_lt}
use Rattle.std.specs.Prelude.{if◌then◌else◌, is_some}
use Rattle.address_rules.specs.declared.controls.Controls.{Controls}
use Rattle.call_fs.specs.declared.calls.Answer.{Answer}
use Rattle.call_fs.specs.declared.calls.Answer.TheVariants as answer
use Rattle.call_fs.specs.declared.calls.Fd.{Fd}
use Rattle.call_fs.specs.declared.calls.FsError.TheVariants as why
use Rattle.call_fs.specs.declared.past.GotData.{GotData}
use Rattle.call_fs.specs.declared.past.GotData.TheVariants as came
use Rattle.call_fs.specs.declared.past.NeedData.TheVariants as needs
use Rattle.call_fs.specs.declared.program.Port.TheVariants as port
use Rattle.call_fs.specs.declared.program.Ready.{Ready}
use Rattle.envelope_records.specs.declared.channel.Record.{Record}
use Rattle.send_known.specs.declared.channel.Channel.{Channel}
use Rattle.send_known.specs.declared.channel.Channel.TheVariants as channel
use Rattle.send_jobs.specs.declared.jobs.Job.{Job}
use Rattle.send_jobs.specs.Lanes.{job_over, next}
use Rattle.send_jobs.specs.Sending.{lane}
use Rattle.send_known.specs.Known.{is_known}
use Rattle.send_parts.specs.declared.book.Book.{Book}
use Rattle.send_parts.specs.declared.reading.Progress.{Progress}
use Rattle.send_parts.specs.declared.reading.Progress.TheVariants.{Goes, Whole, Missing, Failed}
use Rattle.send_parts.specs.declared.reading.Reading.{Reading}
use Rattle.send_parts.specs.declared.reply.Way.{Way}
use Rattle.send_parts.specs.declared.reply.Way.TheVariants as way
use Rattle.send_parts.specs.declared.rows.FinishRow.{FinishRow}
use Rattle.send_parts.specs.declared.rows.FinishRow.TheVariants as finish
use Rattle.send_parts.specs.declared.rows.Search.{Search}
use Rattle.send_parts.specs.declared.rows.StartRow.{StartRow}
use Rattle.send_parts.specs.declared.rows.StartRow.TheVariants as start
use Rattle.send_parts.specs.declared.rows.SweepRow.{SweepRow}
use Rattle.send_parts.specs.declared.rows.SweepRow.TheVariants as sweep
use Rattle.send_links.specs.Records.{records_of}
use Rattle.send_parts.specs.Files.{message_number}
use Rattle.send_parts.specs.Finish.{finish_to}
use Rattle.send_parts.specs.Readings.{read_on}
use Rattle.send_parts.specs.Replies.{Said, said}
use Rattle.send_parts.specs.Rows.{is_again, sweep_step}
use Rattle.send_parts.specs.Steps.{due_by, remove_text}
use Rattle.send_parts.specs.Sweep.{sweep_row, sweep_to, swept}
use Rattle.todo_pass.specs.declared.part.Target.{Target}
use Rattle.todo_pass.specs.declared.part.Target.TheVariants as target
use Rattle.todo_pass.specs.declared.row.Row.{Row as PassRow}
use Rattle.todo_pass.specs.declared.row.Row.TheVariants as todo
use Rattle.todo_pass.specs.declared.row.Why.TheVariants as left
use Rattle.todo_pass.specs.declared.sorted.Sorted.{Sorted}
use Rattle.todo_pass.specs.Sorting.{has, sort_todo, text_of}
use Rattle.todo_pass.specs.Table.{Pass, answer_row, appended, clear_row, cleared, command_text, create_row, local_row, made_row, moved_at, open_row, piece_size, read as read_piece, remote_row, sorted_with, stated, sync_row}
use Rattle.send_core.specs.declared.desk.Desk.{Desk}
use Rattle.send_parts.specs.declared.row.MarkRow.{MarkRow}
use Rattle.send_parts.specs.declared.row.MarkRow.TheVariants as mark
use Rattle.send_parts.specs.declared.row.Marked.{Marked}
use Rattle.send_parts.specs.declared.row.Point.{Point}
use Rattle.send_parts.specs.declared.row.Point.TheVariants as point
use Rattle.send_parts.specs.declared.row.Row.{Row}
use Rattle.send_parts.specs.declared.row.Row.TheVariants as at
use Rattle.send_core.specs.Desk.{closed, closed_by, goes, has_begun, is_free_for, past_finish, past_todo, request_sent, stands_at, sweep_due, turn_counted, turn_over}
use Rattle.send_core.specs.Finish.{act_finish, bounce_on, finish_at, looked_up, returned_to, sweep_at, sweep_begun}
use Rattle.send_core.specs.Start.{start_at}
use Rattle.send_core.specs.Table.{act, arrive, busy, due_at, from_point}
use Rattle.bounce_record.specs.declared.note_row.NoteRow.{NoteRow}
use Rattle.bounce_record.specs.declared.note_row.NoteRow.TheVariants as note
use Rattle.bounce_record.specs.declared.return_row.ReturnRow.{ReturnRow}
use Rattle.bounce_record.specs.declared.return_row.ReturnRow.TheVariants as back
use Rattle.bounce_record.specs.Returning.{Returning, return_begun}
use Rattle.bounce_record.specs.Writing.{moved as note_moved}
use Rattle.send_core.specs.Turn.{act_mark, begin_note, noted, noted_at, begun_at, file_read, in_todo, lost, mark_opened, mark_over, pass_opened, requested, todo_found, todo_named, todo_none, todo_on, todo_over, took, unlinked}
use Rattle.program_law.specs.Sender.Waits.{awaits_in, awaits_at, awaits, IsFree}
use Rattle.program_law.proofs.Sender.Awaits.{Begins, passing_at, point_begins}

abbrev Free : Desk → Type 0
Free e = IsFree (awaits e)

either : (b : Bool) (x y : Desk) → Free x → Free y → Free (if b then x else y)
either true x y one two = one
either false x y one two = two

-- The turn

counted_by : (more : Bool) (k : ℕ) (e : Desk)
    → Free (if more then record e { turns = Some (k - 1); row = at.Turn point.TakeLocal } else record e { turns = Some 0; row = at.Ended 0 })
counted_by true k e = inl refl
counted_by false k e = inr refl

counted : (o : Option ℕ) (e : Desk) → Free (turn_counted o e)
counted None e = inl refl
counted (Some k) e = counted_by (nat_lt 1 k) k e

turned : (e : Desk) → Free (turn_over e)
turned e = counted e.turns (record e { busy = false })

finish_past : (now : ℕ) (e : Desk) → Free (past_finish now e)
finish_past now e = either (sweep_due now e.swept) (stands_at e point.Sweep) (turn_over e) (inl refl) (turned e)

todo_past : (now : ℕ) (e : Desk) → Free (past_todo now e)
todo_past now e = either _ (stands_at e point.Finish) (turn_over e) (inl refl) (turned e)

lost_link : (c : Channel) (e : Desk) → Free (goes e (lost c))
lost_link channel.Local e = inr refl
lost_link channel.Remote e = inr refl

-- Takings and marks

takes : (w : Way) (bytes : List ℕ) (c : Channel) (e : Desk) → Free (busy (took w bytes c e))
takes way.Fine bytes c e = inl refl
takes way.Over bytes c e = lost_link c e
takes way.Absent bytes c e = lost_link c e
takes way.Broken bytes c e = lost_link c e
takes way.NoMemory bytes c e = lost_link c e

closes_by : (o : Option Job) (c : Channel) (n : ℕ) (p : Point) (e : Desk) → Free (closed_by o c n p e)
closes_by None c n p e = inl refl
closes_by (Some job) c n p e = either job.unmarked _ (goes e (at.UnlinkFile c n p)) (inl refl) (inl refl)

closes : (c : Channel) (n : ℕ) (p : Point) (e : Desk) → Free (closed c n p e)
closes c n p e = closes_by (job_over n (lane c e.slots)) c n p e

marked : (written : Bool) (m : Marked) (e : Desk) → Free (mark_over written m e)
marked true m e = closes m.channel m.n point.Reports _
marked false m e = closes m.channel m.n point.Reports _

mark_opens : (w : Way) (m : Marked) (fd : Fd) (e : Desk) → Free (mark_opened w m fd e)
mark_opens way.Fine m fd e = inl refl
mark_opens way.Over m fd e = marked false m e
mark_opens way.Absent m fd e = marked false m e
mark_opens way.Broken m fd e = marked false m e
mark_opens way.NoMemory m fd e = marked false m e

notes_by : (row : NoteRow) (m : Marked) (e : Desk) → Free (noted_at row m e)
notes_by note.Written m e = inl refl
notes_by note.Failed m e = marked false m e
notes_by note.Open m e = inl refl
notes_by note.Create m e = inl refl
notes_by (note.Stat fd) m e = inl refl
notes_by (note.Read fd place len) m e = inl refl
notes_by (note.Append fd done) m e = inl refl
notes_by (note.Sync fd) m e = inl refl
notes_by (note.Close fd) m e = inl refl
notes_by (note.Shut fd) m e = inl refl

notes : (m : Marked) (got : GotData) (e : Desk) → Free (noted m got e)
notes m got e = notes_by (note_moved e.note got).row m (record e { note = note_moved e.note got })

marks : (row : MarkRow) (m : Marked) (got : GotData) (e : Desk) → Free (act_mark row m got e)
marks mark.Note m got e = notes m got (begin_note m e)
marks mark.Noting m got e = notes m got e
marks mark.Open m got e = mark_opens (said got).way m (said got).fd e
marks (mark.Write fd) m got e = inl refl
marks (mark.Close fd written) m got e = marked written m e

unlinks : (w : Way) (c : Channel) (n : ℕ) (p : Point) (now : ℕ) (e : Desk) → Free (unlinked w c n p now e)
unlinks way.Fine c n p now e = inl refl
unlinks way.Over c n p now e = inl refl
unlinks way.Absent c n p now e = inl refl
unlinks way.Broken c n p now e = inl refl
unlinks way.NoMemory c n p now e = inl refl

-- Passes

opens : (o : Option (List Record)) (c : Channel) (n begun now : ℕ) (e : Desk) → Free (pass_opened o c n begun now e)
opens None c n begun now e = inl refl
opens (Some records) c n begun now e =
    either (is_free_for n (lane c e.slots)) _ _ (closes c n (point.Pass c false) (has_begun c n begun records e)) (inl refl)

reads : (progress : Progress) (c : Channel) (n begun : ℕ) (reading : Reading) (now : ℕ) (s : Said) (e : Desk) → Free (busy (file_read progress c n begun reading now s e))
reads (Goes next) c n begun reading now s e = inl refl
reads Whole c n begun reading now s e = opens (records_of e.book.read) c n begun now e
reads Missing c n begun reading now s e = inl refl
reads Failed c n begun reading now s e = inl refl

sends : (c : Channel) (e : Desk) → Free (request_sent c (stands_at e (point.Pass c false)))
sends channel.Local e = either (is_some (next (lane channel.Local e.slots))) _ _ (inl refl) (inl refl)
sends channel.Remote e = either (is_some (next (lane channel.Remote e.slots))) _ _ (inl refl) (inl refl)

requests : (w : Way) (c : Channel) (e : Desk) → Free (busy (requested w c e))
requests way.Fine c e = sends c e
requests way.Over c e = lost_link c e
requests way.Absent c e = lost_link c e
requests way.Broken c e = lost_link c e
requests way.NoMemory c e = lost_link c e

-- The search of `todo`

finds : (o : Option ℕ) (text : List ℕ) (search : Search) (e : Desk) → Free (todo_found o text search e)
finds None text search e = inl refl
finds (Some n) text search e = inl refl

none_found : (again : Bool) (last : List ℕ) (now : ℕ) (e : Desk) → Free (todo_none again last now e)
none_found false [] now e = todo_past now e
none_found false (b ∷ bs) now e = inl refl
none_found true last now e = todo_past now e

searches : (w : Way) (text : List ℕ) (search : Search) (now : ℕ) (e : Desk) → Free (todo_named w text search now e)
searches way.Fine text search now e = finds (message_number text) text search e
searches way.Over text search now e = none_found (is_again search) e.last_left now e
searches way.Absent text search now e = none_found (is_again search) e.last_left now e
searches way.Broken text search now e = none_found (is_again search) e.last_left now e
searches way.NoMemory text search now e = none_found (is_again search) e.last_left now e

-- A step of a pass

abbrev NoAnswer : PassRow → Type 0
NoAnswer todo.Answer = ⊥
NoAnswer row = Unit {0}

clears_next : (t : Target) → NoAnswer (cleared t)
clears_next target.Info = tt
clears_next target.Local = tt
clears_next target.Remote = tt

clears : (t : Target) (told : Answer) → NoAnswer (clear_row t told)
clears t answer.Done = clears_next t
clears t (answer.Refused why.NotThere) = clears_next t
clears t told = tt

stats : (p : Pass) (told : Answer) → NoAnswer (stated p told).row
stats p (answer.Stat stat) = tt
stats p (answer.Refused why.NotThere) = tt
stats p told = tt

opens_todo : (told : Answer) → NoAnswer (open_row told)
opens_todo (answer.Opened fd) = tt
opens_todo told = tt

reads_by : (last : Bool) (fd : Fd) → NoAnswer (if last then todo.CloseTodo fd else todo.ReadTodo fd)
reads_by true fd = tt
reads_by false fd = tt

reads_todo : (p : Pass) (fd : Fd) (told : Answer) (bytes : List ℕ) → NoAnswer (read_piece p fd told bytes).row
reads_todo p fd (answer.Count count) bytes = reads_by (nat_lt (length bytes) piece_size) fd
reads_todo p fd told bytes = tt

sorts : (p : Pass) (r : Result Sorted ℕ) → NoAnswer (sorted_with p r).row
sorts p (Ok s) = tt
sorts p (Err place) = tt

creates : (t : Target) (told : Answer) → NoAnswer (create_row t told)
creates t (answer.Created fd number) = tt
creates t told = tt

piece_by : (more : Bool) (t : Target) (fd : Fd) (done : ℕ) → NoAnswer (if more then todo.Append t fd done else todo.Sync t fd)
piece_by true t fd done = tt
piece_by false t fd done = tt

appends : (p : Pass) (t : Target) (fd : Fd) (done now : ℕ) (told : Answer) → NoAnswer (appended p t fd done now told).row
appends p t fd done now answer.Done = piece_by (nat_lt (done + piece_size) (length (text_of p.sorted t))) t fd (done + piece_size)
appends p t fd done now told = tt

syncs : (t : Target) (fd : Fd) (told : Answer) → NoAnswer (sync_row t fd told)
syncs t fd answer.Done = tt
syncs t fd told = tt

remotes : (b : Bool) → NoAnswer (remote_row b)
remotes true = tt
remotes false = tt

locals : (b c : Bool) → NoAnswer (local_row b c)
locals true c = tt
locals false c = remotes c

makes : (t : Target) (s : Sorted) → NoAnswer (made_row t s)
makes target.Info s = locals (has s.local) (has s.remote)
makes target.Local s = remotes (has s.remote)
makes target.Remote s = tt

abbrev NoGive : PassRow → Type 0
NoGive todo.Give = ⊥
NoGive todo.Answer = ⊥
NoGive row = Unit {0}

moves : (controls : Controls) (p : Pass) (r : PassRow) (now : ℕ) (got : GotData) → NoGive r → NoAnswer (moved_at controls r (record p { row = r }) now got).row
moves controls p (todo.Clear t) now (came.Answered told) h = clears t told.answer
moves controls p (todo.Clear t) now got h = tt
moves controls p todo.StatMess now (came.Answered told) h = stats (record p { row = todo.StatMess }) told.answer
moves controls p todo.StatMess now got h = tt
moves controls p todo.OpenTodo now (came.Answered told) h = opens_todo told.answer
moves controls p todo.OpenTodo now got h = tt
moves controls p (todo.ReadTodo fd) now (came.Answered told) h = reads_todo (record p { row = todo.ReadTodo fd }) fd told.answer told.bytes
moves controls p (todo.ReadTodo fd) now got h = tt
moves controls p (todo.CloseTodo fd) now (came.Answered told) h = sorts (record p { row = todo.CloseTodo fd }) (sort_todo controls p.todo)
moves controls p (todo.CloseTodo fd) now got h = tt
moves controls p (todo.Create t) now (came.Answered told) h = creates t told.answer
moves controls p (todo.Create t) now got h = tt
moves controls p (todo.Append t fd done) now (came.Answered told) h = appends (record p { row = todo.Append t fd done }) t fd done now told.answer
moves controls p (todo.Append t fd done) now got h = tt
moves controls p (todo.Sync t fd) now (came.Answered told) h = syncs t fd told.answer
moves controls p (todo.Sync t fd) now got h = tt
moves controls p (todo.Close t fd) now (came.Answered told) h = makes t p.sorted
moves controls p (todo.Close t fd) now got h = tt
moves controls p (todo.Shut fd cause) now (came.Answered told) h = tt
moves controls p (todo.Shut fd cause) now got h = tt
moves controls p todo.Give now got h = absurd h
moves controls p todo.Answer now got h = absurd h
moves controls p todo.Done now (came.Answered told) h = tt
moves controls p todo.Done now got h = tt
moves controls p (todo.Left cause) now (came.Answered told) h = tt
moves controls p (todo.Left cause) now got h = tt
moves controls p todo.Lost now (came.Answered told) h = tt
moves controls p todo.Lost now got h = tt

goes_on : (row : PassRow) (p : Pass) (now : ℕ) (e : Desk) → p.row ≡ row → NoAnswer row → Free (todo_on row p now e)
goes_on (todo.Left cause) p now e is h = todo_past now _
goes_on todo.Lost p now e is h = inr refl
goes_on todo.Answer p now e is h = absurd h
goes_on (todo.Clear t) p now e is h = inl (ap (λ r. awaits_in r p.n) is)
goes_on todo.StatMess p now e is h = inl (ap (λ r. awaits_in r p.n) is)
goes_on todo.OpenTodo p now e is h = inl (ap (λ r. awaits_in r p.n) is)
goes_on (todo.ReadTodo fd) p now e is h = inl (ap (λ r. awaits_in r p.n) is)
goes_on (todo.CloseTodo fd) p now e is h = inl (ap (λ r. awaits_in r p.n) is)
goes_on (todo.Create t) p now e is h = inl (ap (λ r. awaits_in r p.n) is)
goes_on (todo.Append t fd done) p now e is h = inl (ap (λ r. awaits_in r p.n) is)
goes_on (todo.Sync t fd) p now e is h = inl (ap (λ r. awaits_in r p.n) is)
goes_on (todo.Close t fd) p now e is h = inl (ap (λ r. awaits_in r p.n) is)
goes_on (todo.Shut fd cause) p now e is h = inl (ap (λ r. awaits_in r p.n) is)
goes_on todo.Give p now e is h = inl (ap (λ r. awaits_in r p.n) is)
goes_on todo.Done p now e is h = inl (ap (λ r. awaits_in r p.n) is)

answered_by : (well : Bool) (p : Pass) (now : ℕ) (e : Desk) → Free (todo_over (if well then todo.Done else todo.Left left.Unclean) p now e)
answered_by true p now e = todo_past now _
answered_by false p now e = todo_past now _

answers : (got : GotData) (p : Pass) (now : ℕ) (e : Desk) → Free (todo_over (answer_row got) p now e)
answers (came.Took bytes) p now e = answered_by (bytes_eq bytes (43 ∷ [])) p now e
answers got p now e = inr refl

abbrev NoneGiven : Row → Desk → Type 0
NoneGiven row e = (text : List ℕ) → due_at row e ≡ needs.Give port.Clean text → ⊥

on : (e : Desk) (r : PassRow) (now : ℕ) (got : GotData) → NoGive r → Free (todo_on (moved_at e.book.controls r (record e.pass { row = r }) now got).row (moved_at e.book.controls r (record e.pass { row = r }) now got) now (passing_at e r))
on e r now got h = goes_on _ (moved_at e.book.controls r (record e.pass { row = r }) now got) now (passing_at e r) refl (moves e.book.controls e.pass r now got h)

passes : (e : Desk) (r : PassRow) (now : ℕ) (got : GotData) → NoneGiven at.InTodo (passing_at e r) → Free (in_todo now got (passing_at e r))
passes e todo.Give now got h = absurd (h (command_text e.pass.n) refl)
passes e todo.Answer now got h = answers got _ now (passing_at e todo.Answer)
passes e (todo.Clear t) now got h = on e (todo.Clear t) now got tt
passes e todo.StatMess now got h = on e todo.StatMess now got tt
passes e todo.OpenTodo now got h = on e todo.OpenTodo now got tt
passes e (todo.ReadTodo fd) now got h = on e (todo.ReadTodo fd) now got tt
passes e (todo.CloseTodo fd) now got h = on e (todo.CloseTodo fd) now got tt
passes e (todo.Create t) now got h = on e (todo.Create t) now got tt
passes e (todo.Append t fd done) now got h = on e (todo.Append t fd done) now got tt
passes e (todo.Sync t fd) now got h = on e (todo.Sync t fd) now got tt
passes e (todo.Close t fd) now got h = on e (todo.Close t fd) now got tt
passes e (todo.Shut fd cause) now got h = on e (todo.Shut fd cause) now got tt
passes e todo.Done now got h = on e todo.Done now got tt
passes e (todo.Left cause) now got h = on e (todo.Left cause) now got tt
passes e todo.Lost now got h = on e todo.Lost now got tt

-- The finish

abbrev NoTake : FinishRow → Type 0
NoTake finish.Take = ⊥
NoTake row = Unit {0}

finish_goes : (row : FinishRow) (n now : ℕ) (e : Desk) → NoTake row → Free (finish_at row n now e)
finish_goes finish.Later n now e h = finish_past now _
finish_goes finish.Over n now e h = finish_past now _
finish_goes finish.Lost n now e h = inr refl
finish_goes finish.Take n now e h = absurd h
finish_goes finish.OpenBounce n now e h = inl refl
finish_goes finish.Return n now e h = inl refl
finish_goes finish.UnlinkInfo n now e h = inl refl
finish_goes finish.Give n now e h = inl refl

info_leads : (w : Way) → NoTake (finish_to finish.UnlinkInfo w)
info_leads way.Fine = tt
info_leads way.Over = tt
info_leads way.Absent = tt
info_leads way.Broken = tt
info_leads way.NoMemory = tt

take_leads : (w : Way) → NoTake (finish_to finish.Take w)
take_leads way.Fine = tt
take_leads way.Over = tt
take_leads way.Absent = tt
take_leads way.Broken = tt
take_leads way.NoMemory = tt

return_leads : (row : ReturnRow) → NoTake (returned_to row)
return_leads back.Over = tt
return_leads back.Failed = tt
return_leads back.Open = tt
return_leads (back.ReadNotes fd) = tt
return_leads (back.CloseNotes fd) = tt
return_leads back.OpenMessage = tt
return_leads (back.ReadMessage fd) = tt
return_leads (back.CloseMessage fd) = tt
return_leads (back.Shut fd) = tt
return_leads back.Start = tt
return_leads (back.Give pid) = tt
return_leads (back.Await pid) = tt
return_leads back.Unlink = tt
return_leads back.Discard = tt

returns_by : (it : Returning) (n now : ℕ) (e : Desk) → Free (finish_at (returned_to it.row) n now e)
returns_by it n now e = finish_goes (returned_to it.row) n now e (return_leads it.row)

finish_acts : (row : FinishRow) (n now : ℕ) (got : GotData) (e : Desk) → ((text : List ℕ) → due_at (at.Finish row n) e ≡ needs.Give port.Clean text → ⊥) → Free (act_finish row n now got e)
finish_acts finish.OpenBounce n now got e h = let it = bounce_on n now got (return_begun n) e.book in returns_by it n now (record e { bounce = it; busy = true })
finish_acts finish.Return n now got e h = let it = bounce_on n now got e.bounce e.book in returns_by it n now (record e { bounce = it })
finish_acts finish.UnlinkInfo n now got e h = finish_goes (finish_to finish.UnlinkInfo (said got).way) n now e (info_leads (said got).way)
finish_acts finish.Give n now got e h = absurd (h (remove_text n) refl)
finish_acts finish.Take n now got e h = finish_goes (finish_to finish.Take (said got).way) n now e (take_leads (said got).way)
finish_acts finish.Later n now got e h = finish_past now _
finish_acts finish.Over n now got e h = finish_past now _
finish_acts finish.Lost n now got e h = inr refl

-- The sweep

abbrev NoTaking : SweepRow → Type 0
NoTaking (sweep.Take split n) = ⊥
NoTaking row = Unit {0}

sweep_goes : (row : SweepRow) (e : Desk) → NoTaking row → Free (sweep_at row e)
sweep_goes sweep.Over e h = turned e
sweep_goes sweep.Lost e h = inr refl
sweep_goes (sweep.Take split n) e h = absurd h
sweep_goes sweep.First e h = inl refl
sweep_goes (sweep.Next split) e h = inl refl
sweep_goes (sweep.StatMess split n) e h = inl refl
sweep_goes (sweep.StatTodo split n) e h = inl refl
sweep_goes (sweep.StatInfo split n todo) e h = inl refl
sweep_goes (sweep.Give split n) e h = inl refl

row_by : (known : Bool) (split n : ℕ) → NoTaking (if known then sweep.Next split else sweep.StatMess split n)
row_by true split n = tt
row_by false split n = tt

named_by : (o : Option ℕ) (split : ℕ) (b : Book) → NoTaking (sweep_row o split b.messages.known)
named_by None split b = tt
named_by (Some n) split b = row_by (is_known n b.messages.known) split n

over_by : (more : Bool) (split : ℕ) → NoTaking (if more then sweep.Next (split + 1) else sweep.Over)
over_by true split = tt
over_by false split = tt

swept_by : (w : Way) (text : List ℕ) (split : ℕ) (b : Book) → NoTaking (swept w text split b)
swept_by way.Fine text split b = named_by (message_number text) split b
swept_by way.Over text split b = over_by (nat_lt split 22) split
swept_by way.Absent text split b = over_by (nat_lt split 22) split
swept_by way.Broken text split b = over_by (nat_lt split 22) split
swept_by way.NoMemory text split b = over_by (nat_lt split 22) split

old_by : (old : Bool) (split n : ℕ) → NoTaking (if old then sweep.StatTodo split n else sweep.Next split)
old_by true split n = tt
old_by false split n = tt

abbrev SweepLeads : SweepRow → ℕ → Way → Said → Book → Type 0
SweepLeads row now w s b = NoTaking (sweep_to row now (record s { way = w }) b)

sweep_leads : (row : SweepRow) (now : ℕ) (w : Way) (s : Said) (b : Book) (words : List ℕ) → ((text : List ℕ) → due_by (sweep_step row) words ≡ needs.Give port.Clean text → ⊥) → SweepLeads row now w s b
sweep_leads sweep.First now w s b words h = swept_by w s.bytes 0 b
sweep_leads (sweep.Next split) now w s b words h = swept_by w s.bytes split b
sweep_leads (sweep.StatMess split n) now way.Fine s b words h = old_by (nat_lt (s.stat.moment + 129600) now) split n
sweep_leads (sweep.StatMess split n) now w s b words h = tt
sweep_leads (sweep.StatTodo split n) now way.Fine s b words h = tt
sweep_leads (sweep.StatTodo split n) now way.Absent s b words h = tt
sweep_leads (sweep.StatTodo split n) now w s b words h = tt
sweep_leads (sweep.StatInfo split n true) now way.Absent s b words h = tt
sweep_leads (sweep.StatInfo split n false) now way.Absent s b words h = tt
sweep_leads (sweep.StatInfo split n todo) now w s b words h = tt
sweep_leads (sweep.Give split n) now w s b words h = absurd (h (remove_text n) refl)
sweep_leads (sweep.Take split n) now way.Fine s b words h = tt
sweep_leads (sweep.Take split n) now w s b words h = tt
sweep_leads sweep.Over now w s b words h = tt
sweep_leads sweep.Lost now w s b words h = tt

-- Each row

starts : (row : StartRow) (p : Pass) → IsFree (awaits_at (start_at row) p)
starts start.Over p = inl refl
starts (start.Ended status) p = inr refl
starts row p = inl refl

abbrev IsStep : Row → Type 0
IsStep (at.Turn p) = ⊥
IsStep (at.Ended status) = ⊥
IsStep row = Unit {0}

step : (row : Row) (now : ℕ) (got : GotData) (e : Desk) → IsStep row → NoneGiven row e → Free (act row now got e)
step (at.Start row) now got e h none = starts _ _
step (at.Turn p) now got e h none = absurd h
step (at.TakeLink c) now got e h none = takes (said got).way (said got).bytes c e
step (at.Mark row m) now got e h none = marks row m got e
step (at.UnlinkFile c n p) now got e h none = unlinks (said got).way c n p now e
step (at.ReadFile c n begun reading) now got e h none = reads (read_on reading (said got)) c n (begun_at reading begun now) reading now (said got) e
step (at.Request c) now got e h none = requests (said got).way c e
step (at.FindTodo search) now got e h none = searches (said got).way (said got).bytes search now e
step at.InTodo now got e h none = passes e e.pass.row now got none
step (at.Finish row n) now got e h none = finish_acts row n now got e none
step (at.Sweep row) now got e h none =
    sweep_goes (sweep_to row now (said got) e.book) (looked_up row (said got) (sweep_begun row now e)) (sweep_leads row now (said got).way (said got) e.book _ none)
step (at.Ended status) now got e h none = absurd h

begins_step : (row : Row) → Begins row → IsStep row
begins_step (at.TakeLink c) h = tt
begins_step (at.Mark row m) h = tt
begins_step (at.ReadFile c n begun r) h = tt
begins_step (at.Request c) h = tt
begins_step (at.FindTodo search) h = tt
begins_step (at.Finish row n) h = tt
begins_step (at.Sweep row) h = tt
begins_step row h = absurd h

abbrev at_row : Row → Desk → Desk
at_row row e = record e { row = row }

free_at : (row : Row) (e : Desk) (read : ℕ) (ready : Ready) (got : GotData) → NoneGiven (arrive row (at_row row e) read ready) (at_row row e)
    → Free (act (arrive row (at_row row e) read ready) read got (at_row row e))
free_at (at.Turn p) e read ready got none =
    step (from_point p (at_row (at.Turn p) e) read ready) read got (at_row (at.Turn p) e) (begins_step _ (point_begins (at_row (at.Turn p) e) read ready p)) none
free_at (at.Ended status) e read ready got none = inr refl
free_at (at.Sweep row) e read ready got none = step (arrive (at.Sweep row) (at_row (at.Sweep row) e) read ready) read got (at_row (at.Sweep row) e) tt none
free_at (at.Start row) e read ready got none = step (at.Start row) read got (at_row (at.Start row) e) tt none
free_at (at.TakeLink c) e read ready got none = step (at.TakeLink c) read got (at_row (at.TakeLink c) e) tt none
free_at (at.Mark row m) e read ready got none = step (at.Mark row m) read got (at_row (at.Mark row m) e) tt none
free_at (at.UnlinkFile c n p) e read ready got none = step (at.UnlinkFile c n p) read got (at_row (at.UnlinkFile c n p) e) tt none
free_at (at.ReadFile c n begun r) e read ready got none = step (at.ReadFile c n begun r) read got (at_row (at.ReadFile c n begun r) e) tt none
free_at (at.Request c) e read ready got none = step (at.Request c) read got (at_row (at.Request c) e) tt none
free_at (at.FindTodo search) e read ready got none = step (at.FindTodo search) read got (at_row (at.FindTodo search) e) tt none
free_at at.InTodo e read ready got none = step at.InTodo read got (at_row at.InTodo e) tt none
free_at (at.Finish row n) e read ready got none = step (at.Finish row n) read got (at_row (at.Finish row n) e) tt none

pub free : (d : Desk) (read : ℕ) (ready : Ready) (got : GotData) → NoneGiven (arrive d.row d read ready) d → Free (act (arrive d.row d read ready) read got d)
free d read ready got none = free_at d.row d read ready got none
