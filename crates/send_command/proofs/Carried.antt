-- The sender asks for no command of a user.
use Rattle.std.proofs.Common.{ℕ, List, length, Option}
use Rattle.bounce_record.specs.declared.note_row.NoteRow.{NoteRow}
use Rattle.bounce_record.specs.declared.note_row.NoteRow.TheVariants as written
use Rattle.bounce_record.specs.declared.return_row.ReturnRow.{ReturnRow}
use Rattle.bounce_record.specs.declared.return_row.ReturnRow.TheVariants as back
use Rattle.bounce_record.specs.Returning.{Returning, due_at as return_at}
use Rattle.bounce_record.specs.Writing.{Writing, due_at as note_at}
use Rattle.call_fs.specs.declared.past.Own.{Own}
use Rattle.call_fs.specs.declared.program.Ready.{Ready}
use Rattle.program_runner.specs.Members.{IsCarried}
use Rattle.send_parts.specs.declared.step.Step.{Step}
use Rattle.send_parts.specs.declared.step.Step.TheVariants as doing
use Rattle.send_parts.specs.Steps.{due_by}
use Rattle.todo_pass.specs.declared.row.Row.{Row as PassRow}
use Rattle.todo_pass.specs.declared.row.Row.TheVariants as todo
use Rattle.todo_pass.specs.Table.{Pass, due_at as pass_due}
use Rattle.send_core.specs.declared.desk.Desk.{Desk}
use Rattle.send_parts.specs.declared.row.MarkRow.TheVariants as mark
use Rattle.send_parts.specs.declared.row.Row.{Row}
use Rattle.send_parts.specs.declared.row.Row.TheVariants as at
use Rattle.send_parts.specs.declared.rows.FinishRow.TheVariants as finish
use Rattle.send_core.specs.Table.{Next, due_at, place_after, row_now, step_of, words_of}

step_carried : (s : Step) (bytes : List ℕ) → IsCarried (due_by s bytes)
step_carried (doing.OpenControl file) bytes = tt
step_carried (doing.Open name how) bytes = tt
step_carried (doing.Read fd place) bytes = tt
step_carried (doing.Mark fd place) bytes = tt
step_carried (doing.Close fd) bytes = tt
step_carried (doing.Unlink name) bytes = tt
step_carried (doing.Stat name) bytes = tt
step_carried (doing.Search dir) bytes = tt
step_carried (doing.Take port) bytes = tt
step_carried (doing.Give port) bytes = tt
step_carried (doing.Remove n) bytes = tt
step_carried doing.Wait bytes = tt
step_carried (doing.Ended status) bytes = tt

pass_carried : (row : PassRow) (p : Pass) → IsCarried (pass_due row p)
pass_carried (todo.Clear t) p = tt
pass_carried todo.StatMess p = tt
pass_carried todo.OpenTodo p = tt
pass_carried (todo.ReadTodo fd) p = tt
pass_carried (todo.CloseTodo fd) p = tt
pass_carried (todo.Create t) p = tt
pass_carried (todo.Append t fd done) p = tt
pass_carried (todo.Sync t fd) p = tt
pass_carried (todo.Close t fd) p = tt
pass_carried (todo.Shut fd why) p = tt
pass_carried todo.Give p = tt
pass_carried todo.Answer p = tt
pass_carried todo.Done p = tt
pass_carried (todo.Left why) p = tt
pass_carried todo.Lost p = tt

note_carried : (row : NoteRow) (w : Writing) → IsCarried (note_at row w)
note_carried written.Open w = tt
note_carried written.Create w = tt
note_carried (written.Stat fd) w = tt
note_carried (written.Read fd place len) w = tt
note_carried (written.Append fd done) w = tt
note_carried (written.Sync fd) w = tt
note_carried (written.Close fd) w = tt
note_carried (written.Shut fd) w = tt
note_carried written.Written w = tt
note_carried written.Failed w = tt

return_carried : (row : ReturnRow) (r : Returning) → IsCarried (return_at row r)
return_carried back.Open r = tt
return_carried (back.ReadNotes fd) r = tt
return_carried (back.CloseNotes fd) r = tt
return_carried back.OpenMessage r = tt
return_carried (back.ReadMessage fd) r = tt
return_carried (back.CloseMessage fd) r = tt
return_carried (back.Shut fd) r = tt
return_carried back.Start r = tt
return_carried (back.Give pid) r = tt
return_carried (back.Await pid) r = tt
return_carried back.Unlink r = tt
return_carried back.Discard r = tt
return_carried back.Over r = tt
return_carried back.Failed r = tt

row_carried : (row : Row) (d : Desk) → IsCarried (due_at row d)
row_carried at.InTodo d = pass_carried d.pass.row d.pass
row_carried (at.Mark mark.Noting m) d = note_carried d.note.row d.note
row_carried (at.Finish finish.Return n) d = return_carried d.bounce.row d.bounce
row_carried row d = step_carried (step_of row (length d.book.read)) (words_of row d)

pub carried : (turns : Option ℕ) (past : List Own) (now : ℕ) (ready : Ready) → IsCarried (Next turns past now ready)
carried turns past now ready = let d : Desk = place_after turns past in row_carried (row_now d now ready) d
