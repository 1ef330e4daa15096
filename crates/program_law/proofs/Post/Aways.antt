-- Which steps of a sender give nothing to a spawner and take nothing of it.
use Rattle.std.proofs.Common.{◌≡◌, ℕ, List, false, refl}
use Rattle.address_rules.specs.declared.control_file.ControlFile.{ControlFile}
use Rattle.bounce_record.specs.declared.note_row.NoteRow.{NoteRow}
use Rattle.bounce_record.specs.declared.note_row.NoteRow.TheVariants as written
use Rattle.bounce_record.specs.declared.return_row.ReturnRow.{ReturnRow}
use Rattle.bounce_record.specs.declared.return_row.ReturnRow.TheVariants as back
use Rattle.bounce_record.specs.Returning.{Returning, due_at as return_due_at}
use Rattle.bounce_record.specs.Writing.{Writing, due_at as note_due_at}
use Rattle.call_fs.specs.declared.past.GotData.{GotData}
use Rattle.call_fs.specs.declared.past.NeedData.{NeedData}
use Rattle.call_fs.specs.declared.past.NeedData.TheVariants as needs
use Rattle.call_fs.specs.declared.program.Port.{Port}
use Rattle.call_fs.specs.declared.program.Port.TheVariants as port
use Rattle.send_core.specs.declared.desk.Desk.{Desk}
use Rattle.send_parts.specs.declared.row.MarkRow.{MarkRow}
use Rattle.send_parts.specs.declared.row.MarkRow.TheVariants as mark
use Rattle.send_parts.specs.declared.row.Marked.{Marked}
use Rattle.send_parts.specs.declared.row.Row.{Row}
use Rattle.send_parts.specs.declared.row.Row.TheVariants as at
use Rattle.send_core.specs.Table.{due_at}
use Rattle.send_known.specs.declared.channel.Channel.{Channel}
use Rattle.send_known.specs.declared.channel.Channel.TheVariants as channel
use Rattle.send_parts.specs.declared.reading.Reading.{Reading}
use Rattle.send_parts.specs.declared.reading.Reading.TheVariants.{Closing, Going, Opening, Shutting}
use Rattle.send_parts.specs.declared.rows.FinishRow.{FinishRow}
use Rattle.send_parts.specs.declared.rows.FinishRow.TheVariants as finish
use Rattle.send_parts.specs.declared.rows.StartRow.{StartRow}
use Rattle.send_parts.specs.declared.rows.StartRow.TheVariants as start
use Rattle.send_parts.specs.declared.rows.SweepRow.{SweepRow}
use Rattle.send_parts.specs.declared.rows.SweepRow.TheVariants as sweep
use Rattle.todo_pass.specs.declared.row.Row.{Row as PassRow}
use Rattle.todo_pass.specs.declared.row.Row.TheVariants as todo
use Rattle.todo_pass.specs.Table.{Pass}
use Rattle.todo_pass.specs.Table as pass_table
use Rattle.program_law.specs.Post.Senders.{asked_on, given_to, is_early, taken_from, told_on}
use Rattle.program_law.proofs.Post.Leaves.{IsStill}

abbrev pub IsApart : Port → Type 0
IsApart port.Lspawn = ⊥
IsApart port.Rspawn = ⊥
IsApart p = Unit {0}

abbrev pub IsAway : NeedData → Type 0
IsAway (needs.Give p text) = IsApart p
IsAway (needs.Take p) = IsApart p
IsAway due = Unit {0}

not_given : (c : Channel) (p : Port) (got : GotData) (wrote : ℕ) (text asked : List ℕ) → IsApart p → given_to c p got wrote text asked ≡ asked
not_given channel.Local port.Lspawn got wrote text asked h = absurd h
not_given channel.Remote port.Rspawn got wrote text asked h = absurd h
not_given c p got wrote text asked h = refl

not_taken : (c : Channel) (p : Port) (got : GotData) (told : List ℕ) → IsApart p → taken_from c p got told ≡ told
not_taken channel.Local port.Lspawn got told h = absurd h
not_taken channel.Remote port.Rspawn got told h = absurd h
not_taken c p got told h = refl

pub away_asked : (c : Channel) (due : NeedData) (got : GotData) (wrote : ℕ) (asked : List ℕ) → IsAway due → asked_on c due got wrote asked ≡ asked
away_asked c (needs.Give p text) got wrote asked h = not_given c p got wrote text asked h
away_asked c due got wrote asked h = refl

pub away_told : (c : Channel) (due : NeedData) (got : GotData) (told : List ℕ) → IsAway due → told_on c due got told ≡ told
away_told c (needs.Take p) got told h = not_taken c p got told h
away_told c due got told h = refl

-- By its rows

note_away : (row : NoteRow) (w : Writing) → IsAway (note_due_at row w)
note_away written.Open w = tt
note_away written.Create w = tt
note_away (written.Stat fd) w = tt
note_away (written.Read fd place len) w = tt
note_away (written.Append fd done) w = tt
note_away (written.Sync fd) w = tt
note_away (written.Close fd) w = tt
note_away (written.Shut fd) w = tt
note_away written.Written w = tt
note_away written.Failed w = tt

return_away : (row : ReturnRow) (r : Returning) → IsAway (return_due_at row r)
return_away back.Open r = tt
return_away (back.ReadNotes fd) r = tt
return_away (back.CloseNotes fd) r = tt
return_away back.OpenMessage r = tt
return_away (back.ReadMessage fd) r = tt
return_away (back.CloseMessage fd) r = tt
return_away (back.Shut fd) r = tt
return_away back.Start r = tt
return_away (back.Give pid) r = tt
return_away (back.Await pid) r = tt
return_away back.Unlink r = tt
return_away back.Discard r = tt
return_away back.Over r = tt
return_away back.Failed r = tt

pass_away : (row : PassRow) (p : Pass) → IsAway (pass_table.due_at row p)
pass_away (todo.Clear part) p = tt
pass_away todo.StatMess p = tt
pass_away todo.OpenTodo p = tt
pass_away (todo.ReadTodo fd) p = tt
pass_away (todo.CloseTodo fd) p = tt
pass_away (todo.Create part) p = tt
pass_away (todo.Append part fd done) p = tt
pass_away (todo.Sync part fd) p = tt
pass_away (todo.Close part fd) p = tt
pass_away (todo.Shut fd why) p = tt
pass_away todo.Give p = tt
pass_away todo.Answer p = tt
pass_away todo.Done p = tt
pass_away (todo.Left why) p = tt
pass_away todo.Lost p = tt

mark_away : (row : MarkRow) (m : Marked) (d : Desk) → IsAway (due_at (at.Mark row m) d)
mark_away mark.Note m d = tt
mark_away mark.Noting m d = note_away d.note.row d.note
mark_away mark.Open m d = tt
mark_away (mark.Write fd) m d = tt
mark_away (mark.Close fd written) m d = tt

file_away : (c : Channel) (n begun : ℕ) (reading : Reading) (d : Desk) → IsAway (due_at (at.ReadFile c n begun reading) d)
file_away c n begun Opening d = tt
file_away c n begun (Going fd) d = tt
file_away c n begun (Closing fd) d = tt
file_away c n begun (Shutting fd) d = tt

finish_away : (row : FinishRow) (n : ℕ) (d : Desk) → IsAway (due_at (at.Finish row n) d)
finish_away finish.OpenBounce n d = tt
finish_away finish.Return n d = return_away d.bounce.row d.bounce
finish_away finish.UnlinkInfo n d = tt
finish_away finish.Give n d = tt
finish_away finish.Take n d = tt
finish_away finish.Later n d = tt
finish_away finish.Over n d = tt
finish_away finish.Lost n d = tt

sweep_away : (row : SweepRow) (d : Desk) → IsAway (due_at (at.Sweep row) d)
sweep_away sweep.First d = tt
sweep_away (sweep.Next split) d = tt
sweep_away (sweep.StatMess split n) d = tt
sweep_away (sweep.StatTodo split n) d = tt
sweep_away (sweep.StatInfo split n todo) d = tt
sweep_away (sweep.Give split n) d = tt
sweep_away (sweep.Take split n) d = tt
sweep_away sweep.Over d = tt
sweep_away sweep.Lost d = tt

pub row_away : (row : Row) (d : Desk) → IsStill row → IsAway (due_at row d)
row_away (at.Mark row m) d is = mark_away row m d
row_away (at.UnlinkFile c n p) d is = tt
row_away (at.ReadFile c n begun reading) d is = file_away c n begun reading d
row_away (at.FindTodo again) d is = tt
row_away at.InTodo d is = pass_away d.pass.row d.pass
row_away (at.Finish row n) d is = finish_away row n d
row_away (at.Sweep row) d is = sweep_away row d
row_away (at.Start row) d is = absurd is
row_away (at.Turn p) d is = absurd is
row_away (at.TakeLink c) d is = absurd is
row_away (at.Request c) d is = absurd is
row_away (at.Ended status) d is = absurd is

pub start_away : (row : StartRow) (d : Desk) → is_early row ≡ false → IsAway (due_at (at.Start row) d)
start_away (start.Control f reading) d late = absurd (cc)
start_away start.GreetLocal d late = absurd (cc)
start_away (start.GreetRemote limit) d late = absurd (cc)
start_away (start.Scan split) d late = tt
start_away (start.StatTodo split n) d late = tt
start_away (start.ReadInfo split n Opening) d late = tt
start_away (start.ReadInfo split n (Going fd)) d late = tt
start_away (start.ReadInfo split n (Closing fd)) d late = tt
start_away (start.ReadInfo split n (Shutting fd)) d late = tt
start_away (start.StatInfo split n) d late = tt
start_away (start.StatLocal split n birth) d late = tt
start_away (start.StatRemote split n birth local) d late = tt
start_away start.Over d late = tt
start_away (start.Ended status) d late = tt

pub control_away : (f : ControlFile) (reading : Reading) (d : Desk) → IsAway (due_at (at.Start (start.Control f reading)) d)
control_away f Opening d = tt
control_away f (Going fd) d = tt
control_away f (Closing fd) d = tt
control_away f (Shutting fd) d = tt
