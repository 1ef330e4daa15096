-- A sender that awaits the status of its child has just given it what it kept for it.
use Rattle.std.proofs.Common.{◌≡◌, ℕ, ◌-◌, List, [], ◌∷◌, length, Bool, true, false, Option, Some, None, refl, subst, bytes_eq, nat_lt}
use Rattle.std.specs.Prelude.{if◌then◌else◌, is_some, ◌==◌}
use Rattle.address_rules.specs.declared.controls.Controls.{Controls}
use Rattle.call_fs.specs.declared.calls.Answer.{Answer}
use Rattle.call_fs.specs.declared.calls.Answer.TheVariants as answer
use Rattle.call_fs.specs.declared.calls.Fd.{Fd}
use Rattle.call_fs.specs.declared.calls.FsError.TheVariants as why
use Rattle.call_fs.specs.declared.past.GotData.{GotData}
use Rattle.call_fs.specs.declared.past.GotData.TheVariants as came
use Rattle.call_fs.specs.declared.past.NeedData.{NeedData}
use Rattle.call_fs.specs.declared.past.NeedData.TheVariants as needs
use Rattle.call_fs.specs.declared.program.Port.TheVariants as port
use Rattle.call_fs.specs.declared.program.Ready.{Ready}
use Rattle.envelope_records.specs.declared.channel.Record.{Record}
use Rattle.send_known.specs.declared.channel.Channel.{Channel}
use Rattle.send_known.specs.declared.channel.Channel.TheVariants as channel
use Rattle.send_jobs.specs.declared.jobs.Job.{Job}
use Rattle.send_jobs.specs.Lanes.{job_over, next}
use Rattle.send_jobs.specs.Sending.{lane}
use Rattle.send_known.specs.Known.{sender_of}
use Rattle.send_parts.specs.declared.reading.Progress.{Progress}
use Rattle.send_parts.specs.declared.reading.Progress.TheVariants.{Goes, Whole, Missing, Failed}
use Rattle.send_parts.specs.declared.reading.Reading.{Reading}
use Rattle.send_parts.specs.declared.reply.Way.{Way}
use Rattle.send_parts.specs.declared.reply.Way.TheVariants as way
use Rattle.send_parts.specs.declared.rows.FinishRow.{FinishRow}
use Rattle.send_parts.specs.declared.rows.FinishRow.TheVariants as finish
use Rattle.send_parts.specs.declared.rows.Search.{Search}
use Rattle.send_parts.specs.declared.rows.StartRow.{StartRow}
use Rattle.send_parts.specs.declared.rows.StartRow.TheVariants as start
use Rattle.send_parts.specs.declared.rows.SweepRow.{SweepRow}
use Rattle.send_parts.specs.declared.rows.SweepRow.TheVariants as sweep
use Rattle.send_links.specs.Records.{records_of}
use Rattle.send_parts.specs.Files.{message_number}
use Rattle.send_parts.specs.Finish.{finish_to}
use Rattle.send_parts.specs.Readings.{read_on}
use Rattle.send_parts.specs.Replies.{Said, said}
use Rattle.send_parts.specs.Rows.{is_again}
use Rattle.send_parts.specs.Sweep.{sweep_to}
use Rattle.todo_pass.specs.declared.row.Row.{Row as PassRow}
use Rattle.todo_pass.specs.declared.row.Row.TheVariants as todo
use Rattle.todo_pass.specs.declared.row.Why.TheVariants as left
use Rattle.todo_pass.specs.Table.{Pass, answer_row, moved_at}
use Rattle.send_core.specs.declared.desk.Desk.{Desk}
use Rattle.send_parts.specs.declared.row.MarkRow.{MarkRow}
use Rattle.send_parts.specs.declared.row.MarkRow.TheVariants as mark
use Rattle.send_parts.specs.declared.row.Marked.{Marked}
use Rattle.send_parts.specs.declared.row.Point.{Point}
use Rattle.send_parts.specs.declared.row.Point.TheVariants as point
use Rattle.send_parts.specs.declared.row.Row.{Row}
use Rattle.send_parts.specs.declared.row.Row.TheVariants as at
use Rattle.send_core.specs.Desk.{closed, closed_by, goes, has_begun, is_free_for, past_finish, past_todo, request_sent, stands_at, sweep_due, turn_counted, turn_over}
use Rattle.send_core.specs.Finish.{act_finish, bounce_on, finish_at, looked_up, returned_to, sweep_at, sweep_begun}
use Rattle.send_core.specs.Start.{start_at}
use Rattle.send_core.specs.Table.{act, arrive, busy, due_at, from_point, moved_by, row_now}
use Rattle.bounce_record.specs.declared.note_row.NoteRow.{NoteRow}
use Rattle.bounce_record.specs.declared.note_row.NoteRow.TheVariants as note
use Rattle.bounce_record.specs.declared.return_row.ReturnRow.{ReturnRow}
use Rattle.bounce_record.specs.declared.return_row.ReturnRow.TheVariants as back
use Rattle.bounce_record.specs.declared.bounces.Bounce.{Bounce as Bouncing}
use Rattle.bounce_record.specs.Returning.{Returning, awaited_row, bounce_at, due_by as return_due, given_row, goes as goes_in, made, message_opened, message_read, notes_opened, notes_read, return_begun, due_at as return_due_at, moved_at as return_moved, moved as return_moved_by, started_row, unlinked_row}
use Rattle.call_fs.specs.declared.file_system.TheConstants.{PIECE}
use Rattle.bounce_record.specs.Writing.{moved as note_moved}
use Rattle.send_core.specs.Turn.{act_mark, begin_note, noted, noted_at, begun_at, file_read, in_todo, lost, mark_opened, mark_over, pass_opened, requested, todo_found, todo_named, todo_none, todo_on, todo_over, took, unlinked}
use Rattle.program_law.proofs.Sender.Awaits.{Begins, passing_at, point_begins}

-- at a row of a return at which the status of the child is awaited
abbrev pub AwaitsIn : ReturnRow → Type 0
AwaitsIn (back.Await pid) = Unit {0}
AwaitsIn row = ⊥

abbrev pub AwaitsAt : Row → Returning → Type 0
AwaitsAt (at.Finish finish.Return n) r = AwaitsIn r.row
AwaitsAt row r = ⊥

abbrev Quiet : Desk → Type 0
Quiet e = AwaitsAt e.row e.bounce → ⊥

either : (b : Bool) (x y : Desk) → Quiet x → Quiet y → Quiet (if b then x else y)
either true x y one two = one
either false x y one two = two

-- The turn

counted_by : (more : Bool) (k : ℕ) (e : Desk)
    → Quiet (if more then record e { turns = Some (k - 1); row = at.Turn point.TakeLocal } else record e { turns = Some 0; row = at.Ended 0 })
counted_by true k e = (λ w. w)
counted_by false k e = (λ w. w)

counted : (o : Option ℕ) (e : Desk) → Quiet (turn_counted o e)
counted None e = (λ w. w)
counted (Some k) e = counted_by (nat_lt 1 k) k e

turned : (e : Desk) → Quiet (turn_over e)
turned e = counted e.turns (record e { busy = false })

finish_past : (now : ℕ) (e : Desk) → Quiet (past_finish now e)
finish_past now e = either (sweep_due now e.swept) (stands_at e point.Sweep) (turn_over e) (λ w. w) (turned e)

todo_past : (now : ℕ) (e : Desk) → Quiet (past_todo now e)
todo_past now e = either _ (stands_at e point.Finish) (turn_over e) (λ w. w) (turned e)

lost_link : (c : Channel) (e : Desk) → Quiet (goes e (lost c))
lost_link channel.Local e = (λ w. w)
lost_link channel.Remote e = (λ w. w)

-- Takings and marks

takes : (w : Way) (bytes : List ℕ) (c : Channel) (e : Desk) → Quiet (busy (took w bytes c e))
takes way.Fine bytes c e = (λ w. w)
takes way.Over bytes c e = lost_link c e
takes way.Absent bytes c e = lost_link c e
takes way.Broken bytes c e = lost_link c e
takes way.NoMemory bytes c e = lost_link c e

closes_by : (o : Option Job) (c : Channel) (n : ℕ) (p : Point) (e : Desk) → Quiet (closed_by o c n p e)
closes_by None c n p e = (λ w. w)
closes_by (Some job) c n p e = either job.unmarked _ (goes e (at.UnlinkFile c n p)) (λ w. w) (λ w. w)

closes : (c : Channel) (n : ℕ) (p : Point) (e : Desk) → Quiet (closed c n p e)
closes c n p e = closes_by (job_over n (lane c e.slots)) c n p e

marked : (written : Bool) (m : Marked) (e : Desk) → Quiet (mark_over written m e)
marked true m e = closes m.channel m.n point.Reports _
marked false m e = closes m.channel m.n point.Reports _

mark_opens : (w : Way) (m : Marked) (fd : Fd) (e : Desk) → Quiet (mark_opened w m fd e)
mark_opens way.Fine m fd e = (λ w. w)
mark_opens way.Over m fd e = marked false m e
mark_opens way.Absent m fd e = marked false m e
mark_opens way.Broken m fd e = marked false m e
mark_opens way.NoMemory m fd e = marked false m e

notes_by : (row : NoteRow) (m : Marked) (e : Desk) → Quiet (noted_at row m e)
notes_by note.Written m e = (λ w. w)
notes_by note.Failed m e = marked false m e
notes_by note.Open m e = (λ w. w)
notes_by note.Create m e = (λ w. w)
notes_by (note.Stat fd) m e = (λ w. w)
notes_by (note.Read fd place len) m e = (λ w. w)
notes_by (note.Append fd done) m e = (λ w. w)
notes_by (note.Sync fd) m e = (λ w. w)
notes_by (note.Close fd) m e = (λ w. w)
notes_by (note.Shut fd) m e = (λ w. w)

notes : (m : Marked) (got : GotData) (e : Desk) → Quiet (noted m got e)
notes m got e = notes_by (note_moved e.note got).row m (record e { note = note_moved e.note got })

marks : (row : MarkRow) (m : Marked) (got : GotData) (e : Desk) → Quiet (act_mark row m got e)
marks mark.Note m got e = notes m got (begin_note m e)
marks mark.Noting m got e = notes m got e
marks mark.Open m got e = mark_opens (said got).way m (said got).fd e
marks (mark.Write fd) m got e = (λ w. w)
marks (mark.Close fd written) m got e = marked written m e

unlinks : (w : Way) (c : Channel) (n : ℕ) (p : Point) (now : ℕ) (e : Desk) → Quiet (unlinked w c n p now e)
unlinks way.Fine c n p now e = (λ w. w)
unlinks way.Over c n p now e = (λ w. w)
unlinks way.Absent c n p now e = (λ w. w)
unlinks way.Broken c n p now e = (λ w. w)
unlinks way.NoMemory c n p now e = (λ w. w)

-- Passes

opens : (o : Option (List Record)) (c : Channel) (n begun now : ℕ) (e : Desk) → Quiet (pass_opened o c n begun now e)
opens None c n begun now e = (λ w. w)
opens (Some records) c n begun now e =
    either (is_free_for n (lane c e.slots)) _ _ (closes c n (point.Pass c false) (has_begun c n begun records e)) (λ w. w)

reads : (progress : Progress) (c : Channel) (n begun : ℕ) (reading : Reading) (now : ℕ) (s : Said) (e : Desk) → Quiet (busy (file_read progress c n begun reading now s e))
reads (Goes next) c n begun reading now s e = (λ w. w)
reads Whole c n begun reading now s e = opens (records_of e.book.read) c n begun now e
reads Missing c n begun reading now s e = (λ w. w)
reads Failed c n begun reading now s e = (λ w. w)

sends : (c : Channel) (e : Desk) → Quiet (request_sent c (stands_at e (point.Pass c false)))
sends channel.Local e = either (is_some (next (lane channel.Local e.slots))) _ _ (λ w. w) (λ w. w)
sends channel.Remote e = either (is_some (next (lane channel.Remote e.slots))) _ _ (λ w. w) (λ w. w)

requests : (w : Way) (c : Channel) (e : Desk) → Quiet (busy (requested w c e))
requests way.Fine c e = sends c e
requests way.Over c e = lost_link c e
requests way.Absent c e = lost_link c e
requests way.Broken c e = lost_link c e
requests way.NoMemory c e = lost_link c e

-- The search of `todo`

finds : (o : Option ℕ) (text : List ℕ) (search : Search) (e : Desk) → Quiet (todo_found o text search e)
finds None text search e = (λ w. w)
finds (Some n) text search e = (λ w. w)

none_found : (again : Bool) (last : List ℕ) (now : ℕ) (e : Desk) → Quiet (todo_none again last now e)
none_found false [] now e = todo_past now e
none_found false (b ∷ bs) now e = (λ w. w)
none_found true last now e = todo_past now e

searches : (w : Way) (text : List ℕ) (search : Search) (now : ℕ) (e : Desk) → Quiet (todo_named w text search now e)
searches way.Fine text search now e = finds (message_number text) text search e
searches way.Over text search now e = none_found (is_again search) e.last_left now e
searches way.Absent text search now e = none_found (is_again search) e.last_left now e
searches way.Broken text search now e = none_found (is_again search) e.last_left now e
searches way.NoMemory text search now e = none_found (is_again search) e.last_left now e

-- A step of a pass

goes_on : (row : PassRow) (p : Pass) (now : ℕ) (e : Desk) → Quiet (todo_on row p now e)
goes_on (todo.Left cause) p now e = todo_past now _
goes_on row p now e = λ w. w

answered_by : (well : Bool) (p : Pass) (now : ℕ) (e : Desk) → Quiet (todo_over (if well then todo.Done else todo.Left left.Unclean) p now e)
answered_by true p now e = todo_past now _
answered_by false p now e = todo_past now _

answers : (got : GotData) (p : Pass) (now : ℕ) (e : Desk) → Quiet (todo_over (answer_row got) p now e)
answers (came.Took bytes) p now e = answered_by (bytes_eq bytes (43 ∷ [])) p now e
answers got p now e = (λ w. w)

passes : (e : Desk) (r : PassRow) (now : ℕ) (got : GotData) → Quiet (in_todo now got (passing_at e r))
passes e todo.Answer now got = answers got _ now (passing_at e todo.Answer)
passes e r now got = goes_on (moved_at e.book.controls r (record e.pass { row = r }) now got).row (moved_at e.book.controls r (record e.pass { row = r }) now got) now (passing_at e r)

-- The finish

-- it isn't the row of a return that awaits the status
abbrev NotAwaiting : FinishRow → ReturnRow → Type 0
NotAwaiting finish.Return row = AwaitsIn row → ⊥
NotAwaiting other row = Unit {0}

finish_goes : (row : FinishRow) (n now : ℕ) (e : Desk) → NotAwaiting row e.bounce.row → Quiet (finish_at row n now e)
finish_goes finish.Later n now e h = finish_past now _
finish_goes finish.Over n now e h = finish_past now _
finish_goes finish.Lost n now e h = λ w. w
finish_goes finish.Take n now e h = λ w. w
finish_goes finish.OpenBounce n now e h = λ w. w
finish_goes finish.Return n now e h = h
finish_goes finish.UnlinkInfo n now e h = λ w. w
finish_goes finish.Give n now e h = λ w. w

info_leads : (w : Way) (row : ReturnRow) → NotAwaiting (finish_to finish.UnlinkInfo w) row
info_leads way.Fine row = tt
info_leads way.Over row = tt
info_leads way.Absent row = tt
info_leads way.Broken row = tt
info_leads way.NoMemory row = tt

give_leads : (w : Way) (row : ReturnRow) → NotAwaiting (finish_to finish.Give w) row
give_leads way.Fine row = tt
give_leads way.Over row = tt
give_leads way.Absent row = tt
give_leads way.Broken row = tt
give_leads way.NoMemory row = tt

take_leads : (w : Way) (row : ReturnRow) → NotAwaiting (finish_to finish.Take w) row
take_leads way.Fine row = tt
take_leads way.Over row = tt
take_leads way.Absent row = tt
take_leads way.Broken row = tt
take_leads way.NoMemory row = tt

-- Each step of a return

abbrev Calm : Returning → Type 0
Calm r = AwaitsIn r.row → ⊥

opened_calm : (r : Returning) (told : Answer) → Calm (goes_in r (notes_opened told))
opened_calm r (answer.Opened fd) = λ w. w
opened_calm r (answer.Refused why.NotThere) = λ w. w
opened_calm r told = λ w. w

message_calm : (r : Returning) (told : Answer) → Calm (goes_in r (message_opened told))
message_calm r (answer.Opened fd) = λ w. w
message_calm r told = λ w. w

unlinked_calm : (r : Returning) (told : Answer) → Calm (goes_in r (unlinked_row told))
unlinked_calm r answer.Done = λ w. w
unlinked_calm r told = λ w. w

piece_calm : (more : Bool) (x y : ReturnRow) → (AwaitsIn x → ⊥) → (AwaitsIn y → ⊥) → AwaitsIn (if more then x else y) → ⊥
piece_calm true x y one two = one
piece_calm false x y one two = two

notes_calm : (r : Returning) (fd : Fd) (told : Answer) (bytes : List ℕ) → Calm (notes_read r fd told bytes)
notes_calm r fd (answer.Count count) bytes = piece_calm (nat_lt (length bytes) PIECE) (back.CloseNotes fd) (back.ReadNotes fd) (λ w. w) (λ w. w)
notes_calm r fd told bytes = λ w. w

text_calm : (r : Returning) (fd : Fd) (told : Answer) (bytes : List ℕ) → Calm (message_read r fd told bytes)
text_calm r fd (answer.Count count) bytes = piece_calm (nat_lt (length bytes) PIECE) (back.CloseMessage fd) (back.ReadMessage fd) (λ w. w) (λ w. w)
text_calm r fd told bytes = λ w. w

made_calm : (r : Returning) (o : Option Bouncing) → Calm (made r o)
made_calm r None = λ w. w
made_calm r (Some b) = λ w. w

start_calm : (r : Returning) (got : GotData) → Calm (goes_in r (started_row got))
start_calm r (came.Started pid) = λ w. w
start_calm r got = λ w. w

status_by : (zero : Bool) (r : Returning) → Calm (goes_in r (if zero then back.Unlink else back.Failed))
status_by true r = λ w. w
status_by false r = λ w. w

status_calm : (r : Returning) (got : GotData) → Calm (goes_in r (awaited_row got))
status_calm r (came.Ended status) = status_by (status == 0) r
status_calm r got = λ w. w

-- this was given
pub record IsGiven (due : NeedData) (got : GotData) (after : Returning) : Type 0 where
  pub due_is : due ≡ needs.Give (port.Program 0) after.input
  pub came_is : got ≡ came.Gave

abbrev Given : ReturnRow → Returning → GotData → Returning → Type 0
Given row r got after = AwaitsIn after.row → IsGiven (return_due_at row r) got after

calm_given : (row : ReturnRow) (r : Returning) (got : GotData) (after : Returning) → Calm after → Given row r got after
calm_given row r got after calm w = absurd (calm w)

give_given : (pid : ℕ) (r : Returning) (got : GotData) → Given (back.Give pid) r got (goes_in r (given_row pid got))
give_given pid r came.Gave w = record { due_is = refl; came_is = refl }
give_given pid r got w = absurd w

abbrev at_step : ReturnRow → Returning → Returning
at_step row r = record r { row = row }

return_given : (controls : Controls) (sender : List ℕ) (row : ReturnRow) (r : Returning) (now : ℕ) (got : GotData)
    → Given row (at_step row r) got (return_moved controls sender row (at_step row r) now got)
return_given controls sender back.Start r now got w = calm_given back.Start (at_step back.Start r) got _ (start_calm (at_step back.Start r) got) w
return_given controls sender (back.Give pid) r now got w = give_given pid (at_step (back.Give pid) r) got w
return_given controls sender (back.Await pid) r now got w = calm_given (back.Await pid) (at_step (back.Await pid) r) got _ (status_calm (at_step (back.Await pid) r) got) w
return_given controls sender back.Open r now (came.Answered told) w = absurd (opened_calm (at_step back.Open r) told.answer w)
return_given controls sender (back.ReadNotes fd) r now (came.Answered told) w = absurd (notes_calm (at_step (back.ReadNotes fd) r) fd told.answer told.bytes w)
return_given controls sender (back.CloseNotes fd) r now (came.Answered told) w = absurd w
return_given controls sender back.OpenMessage r now (came.Answered told) w = absurd (message_calm (at_step back.OpenMessage r) told.answer w)
return_given controls sender (back.ReadMessage fd) r now (came.Answered told) w = absurd (text_calm (at_step (back.ReadMessage fd) r) fd told.answer told.bytes w)
return_given controls sender (back.CloseMessage fd) r now (came.Answered told) w = absurd (made_calm (at_step (back.CloseMessage fd) r) (bounce_at controls sender (at_step (back.CloseMessage fd) r) now) w)
return_given controls sender (back.Shut fd) r now (came.Answered told) w = absurd w
return_given controls sender back.Unlink r now (came.Answered told) w = absurd (unlinked_calm (at_step back.Unlink r) told.answer w)
return_given controls sender back.Discard r now (came.Answered told) w = absurd (unlinked_calm (at_step back.Discard r) told.answer w)
return_given controls sender back.Over r now (came.Answered told) w = absurd w
return_given controls sender back.Failed r now (came.Answered told) w = absurd w
return_given controls sender row r now got w = absurd w

-- the desk after it
abbrev LastGave : NeedData → GotData → Desk → Type 0
LastGave due got e = AwaitsAt e.row e.bounce → IsGiven due got e.bounce

quiet_gave : (due : NeedData) (got : GotData) (e : Desk) → Quiet e → LastGave due got e
quiet_gave due got e quiet w = absurd (quiet w)

returned_gave : (due : NeedData) (got : GotData) (it : Returning) (n now : ℕ) (e : Desk) → (AwaitsIn it.row → IsGiven due got it) → LastGave due got (finish_at (returned_to it.row) n now (record e { bounce = it }))
returned_gave due got it n now e given = by it.row refl where
  by : (row : ReturnRow) → it.row ≡ row → LastGave due got (finish_at (returned_to row) n now (record e { bounce = it }))
  by back.Over is = λ w. absurd w
  by back.Failed is = quiet_gave due got (finish_at finish.Later n now (record e { bounce = it })) (finish_past now _)
  by row is = given

begun_calm : (controls : Controls) (sender : List ℕ) (n now : ℕ) (got : GotData) → Calm (return_moved_by controls sender (return_begun n) now got)
begun_calm controls sender n now (came.Answered told) = opened_calm (return_begun n) told.answer
begun_calm controls sender n now got = λ w. w

finish_gave : (row : FinishRow) (n now : ℕ) (got : GotData) (e : Desk) → LastGave (due_at (at.Finish row n) e) got (act_finish row n now got e)
finish_gave finish.OpenBounce n now got e =
    let it = bounce_on n now got (return_begun n) e.book in
    returned_gave (due_at (at.Finish finish.OpenBounce n) e) got it n now (record e { busy = true }) (λ w. absurd (begun_calm e.book.controls (sender_of n e.book.messages.known) n now got w))
finish_gave finish.Return n now got e =
    returned_gave (return_due e.bounce) got (bounce_on n now got e.bounce e.book) n now e (return_given e.book.controls (sender_of n e.book.messages.known) e.bounce.row e.bounce now got)
finish_gave finish.UnlinkInfo n now got e =
    quiet_gave (due_at (at.Finish finish.UnlinkInfo n) e) got (act_finish finish.UnlinkInfo n now got e) (finish_goes (finish_to finish.UnlinkInfo (said got).way) n now e (info_leads (said got).way e.bounce.row))
finish_gave finish.Give n now got e = quiet_gave (due_at (at.Finish finish.Give n) e) got (act_finish finish.Give n now got e) (finish_goes (finish_to finish.Give (said got).way) n now e (give_leads (said got).way e.bounce.row))
finish_gave finish.Take n now got e = quiet_gave (due_at (at.Finish finish.Take n) e) got (act_finish finish.Take n now got e) (finish_goes (finish_to finish.Take (said got).way) n now e (take_leads (said got).way e.bounce.row))
finish_gave finish.Later n now got e = quiet_gave (due_at (at.Finish finish.Later n) e) got (act_finish finish.Later n now got e) (finish_past now _)
finish_gave finish.Over n now got e = quiet_gave (due_at (at.Finish finish.Over n) e) got (act_finish finish.Over n now got e) (finish_past now _)
finish_gave finish.Lost n now got e = λ w. absurd w

-- The sweep

sweep_goes : (row : SweepRow) (e : Desk) → Quiet (sweep_at row e)
sweep_goes sweep.Over e = turned e
sweep_goes row e = λ w. w

-- Each row

starts : (row : StartRow) (r : Returning) → AwaitsAt (start_at row) r → ⊥
starts start.Over r = λ w. w
starts (start.Ended status) r = λ w. w
starts row r = λ w. w

abbrev IsStep : Row → Type 0
IsStep (at.Turn p) = ⊥
IsStep (at.Ended status) = ⊥
IsStep row = Unit {0}

step : (row : Row) (now : ℕ) (got : GotData) (e : Desk) → IsStep row → LastGave (due_at row e) got (act row now got e)
step (at.Start row) now got e h = quiet_gave (due_at (at.Start row) e) got (act (at.Start row) now got e) (starts _ _)
step (at.Turn p) now got e h = absurd h
step (at.TakeLink c) now got e h = quiet_gave (due_at (at.TakeLink c) e) got (act (at.TakeLink c) now got e) (takes (said got).way (said got).bytes c e)
step (at.Mark row m) now got e h = quiet_gave (due_at (at.Mark row m) e) got (act (at.Mark row m) now got e) (marks row m got e)
step (at.UnlinkFile c n p) now got e h = quiet_gave (due_at (at.UnlinkFile c n p) e) got (act (at.UnlinkFile c n p) now got e) (unlinks (said got).way c n p now e)
step (at.ReadFile c n begun reading) now got e h = quiet_gave (due_at (at.ReadFile c n begun reading) e) got (act (at.ReadFile c n begun reading) now got e) (reads (read_on reading (said got)) c n (begun_at reading begun now) reading now (said got) e)
step (at.Request c) now got e h = quiet_gave (due_at (at.Request c) e) got (act (at.Request c) now got e) (requests (said got).way c e)
step (at.FindTodo search) now got e h = quiet_gave (due_at (at.FindTodo search) e) got (act (at.FindTodo search) now got e) (searches (said got).way (said got).bytes search now e)
step at.InTodo now got e h = quiet_gave (due_at at.InTodo e) got (act at.InTodo now got e) (passes e e.pass.row now got)
step (at.Finish row n) now got e h = finish_gave row n now got e
step (at.Sweep row) now got e h = quiet_gave (due_at (at.Sweep row) e) got (act (at.Sweep row) now got e) (sweep_goes (sweep_to row now (said got) e.book) (looked_up row (said got) (sweep_begun row now e)))
step (at.Ended status) now got e h = absurd h

begins_step : (row : Row) → Begins row → IsStep row
begins_step (at.TakeLink c) h = tt
begins_step (at.Mark row m) h = tt
begins_step (at.ReadFile c n begun r) h = tt
begins_step (at.Request c) h = tt
begins_step (at.FindTodo search) h = tt
begins_step (at.Finish row n) h = tt
begins_step (at.Sweep row) h = tt
begins_step row h = absurd h

-- a return is at none of its rows by the arrival at them
pub return_arrived : (row : Row) (d : Desk) (read : ℕ) (ready : Ready) (n : ℕ) → arrive row d read ready ≡ at.Finish finish.Return n → row ≡ at.Finish finish.Return n
return_arrived (at.Turn p) d read ready n is = absurd (subst Begins is (point_begins d read ready p))
return_arrived row d read ready n is = is

abbrev at_row : Row → Desk → Desk
at_row row e = record e { row = row }

abbrev Gave : Row → Desk → ℕ → Ready → GotData → Type 0
Gave row e read ready got = LastGave (due_at (arrive row (at_row row e) read ready) (at_row row e)) got (act (arrive row (at_row row e) read ready) read got (at_row row e))

gave_at : (row : Row) (e : Desk) (read : ℕ) (ready : Ready) (got : GotData) → Gave row e read ready got
gave_at (at.Turn p) e read ready got =
    step (from_point p (at_row (at.Turn p) e) read ready) read got (at_row (at.Turn p) e) (begins_step _ (point_begins (at_row (at.Turn p) e) read ready p))
gave_at (at.Ended status) e read ready got = λ w. absurd w
gave_at (at.Sweep row) e read ready got = step (arrive (at.Sweep row) (at_row (at.Sweep row) e) read ready) read got (at_row (at.Sweep row) e) tt
gave_at (at.Start row) e read ready got = step (at.Start row) read got (at_row (at.Start row) e) tt
gave_at (at.TakeLink c) e read ready got = step (at.TakeLink c) read got (at_row (at.TakeLink c) e) tt
gave_at (at.Mark row m) e read ready got = step (at.Mark row m) read got (at_row (at.Mark row m) e) tt
gave_at (at.UnlinkFile c n p) e read ready got = step (at.UnlinkFile c n p) read got (at_row (at.UnlinkFile c n p) e) tt
gave_at (at.ReadFile c n begun r) e read ready got = step (at.ReadFile c n begun r) read got (at_row (at.ReadFile c n begun r) e) tt
gave_at (at.Request c) e read ready got = step (at.Request c) read got (at_row (at.Request c) e) tt
gave_at (at.FindTodo search) e read ready got = step (at.FindTodo search) read got (at_row (at.FindTodo search) e) tt
gave_at at.InTodo e read ready got = step at.InTodo read got (at_row at.InTodo e) tt
gave_at (at.Finish row n) e read ready got = step (at.Finish row n) read got (at_row (at.Finish row n) e) tt

-- so a sender that awaits the status of its child has just given it what it kept for it
pub last_gave : (d : Desk) (read : ℕ) (ready : Ready) (got : GotData) → AwaitsAt (moved_by (row_now d read ready) read got d).row (moved_by (row_now d read ready) read got d).bounce
    → IsGiven (due_at (row_now d read ready) d) got (moved_by (row_now d read ready) read got d).bounce
last_gave d read ready got = gave_at d.row d read ready got
