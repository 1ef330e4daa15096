-- The steps of a turn, and whole runs: how a sender comes to its end.
use Rattle.std.proofs.Common.{◌≡◌, ℕ, ◌+◌, List, [], ◌∷◌, length, Bool, true, false, if◌then◌else◌, nat_lt, Option, Some, None, Result, Ok, Err, refl, sym, subst}
use Rattle.std.specs.Prelude.{bytes_eq}
use Rattle.address_rules.specs.declared.controls.Controls.{Controls}
use Rattle.bounce_record.specs.declared.note_row.NoteRow.{NoteRow}
use Rattle.bounce_record.specs.declared.note_row.NoteRow.TheVariants as written
use Rattle.bounce_record.specs.declared.return_row.ReturnRow.{ReturnRow}
use Rattle.bounce_record.specs.declared.return_row.ReturnRow.TheVariants as back
use Rattle.bounce_record.specs.Returning.{Returning, return_begun, due_at as return_at}
use Rattle.bounce_record.specs.Writing.{Writing, due_at as note_at}
use Rattle.call_fs.specs.declared.calls.Answer.{Answer}
use Rattle.call_fs.specs.declared.calls.Answer.TheVariants as answer
use Rattle.call_fs.specs.declared.calls.Fd.{Fd}
use Rattle.call_fs.specs.declared.calls.FsError.TheVariants as why
use Rattle.call_fs.specs.declared.calls.How.TheVariants as how
use Rattle.queue_paths.specs.declared.names.Name.TheVariants as name
use Rattle.call_fs.specs.declared.past.GotData.{GotData}
use Rattle.call_fs.specs.declared.past.GotData.TheVariants as got
use Rattle.call_fs.specs.declared.past.NeedData.{NeedData}
use Rattle.call_fs.specs.declared.past.NeedData.TheVariants as needs
use Rattle.call_fs.specs.declared.past.Own.{Own}
use Rattle.call_fs.specs.declared.program.Port.TheVariants as port
use Rattle.call_fs.specs.declared.program.Ready.{Ready}
use Rattle.call_fs.specs.Past.{IsRunBy}
use Rattle.call_fs.specs.Program.{MayCome}
use Rattle.program_runner.specs.Serving.{HasBytes}
use Rattle.mail_bytes.specs.Decimal.{digits}
use Rattle.send_known.specs.declared.channel.Channel.{Channel}
use Rattle.send_known.specs.declared.channel.Channel.TheVariants.{Local, Remote}
use Rattle.send_known.specs.declared.known.Known.{Known}
use Rattle.send_known.specs.Messages.{learned}
use Rattle.send_known.specs.Known.{is_known}
use Rattle.send_parts.specs.declared.book.Book.{Book}
use Rattle.send_parts.specs.declared.reading.Reading.{Reading}
use Rattle.send_parts.specs.declared.reading.Reading.TheVariants.{Opening, Going, Closing, Shutting}
use Rattle.send_parts.specs.declared.reply.Way.{Way}
use Rattle.send_parts.specs.declared.reply.Way.TheVariants as way
use Rattle.send_parts.specs.declared.rows.FinishRow.{FinishRow}
use Rattle.send_parts.specs.declared.rows.FinishRow.TheVariants as finish
use Rattle.send_parts.specs.declared.rows.StartRow.{StartRow}
use Rattle.send_parts.specs.declared.rows.StartRow.TheVariants as start
use Rattle.send_parts.specs.declared.rows.SweepRow.{SweepRow}
use Rattle.send_parts.specs.declared.rows.SweepRow.TheVariants as sweep
use Rattle.send_parts.specs.Files.{message_number}
use Rattle.send_parts.specs.Finish.{info_gone}
use Rattle.send_parts.specs.Readings.{begun_at, read_on, reading_step}
use Rattle.send_links.specs.Requests.{first_text}
use Rattle.send_parts.specs.Start.{act_start}
use Rattle.send_parts.specs.Steps.{due_by, remove_text}
use Rattle.send_parts.specs.declared.step.Step.{Step}
use Rattle.send_parts.specs.declared.step.Step.TheVariants as doing
use Rattle.send_parts.specs.Replies.{said}
use Rattle.send_parts.specs.Sweep.{info_stated, mess_stated, sweep_row, sweep_to, swept, todo_stated}
use Rattle.todo_pass.specs.declared.row.Row.{Row as PassRow}
use Rattle.todo_pass.specs.declared.row.Row.TheVariants as todo
use Rattle.todo_pass.specs.declared.part.Target.{Target}
use Rattle.todo_pass.specs.declared.part.Target.TheVariants as target
use Rattle.todo_pass.specs.declared.row.Why.TheVariants as left
use Rattle.todo_pass.specs.declared.sorted.Sorted.{Sorted}
use Rattle.todo_pass.specs.Sorting.{has, sort_todo, text_of}
use Rattle.todo_pass.specs.Table.{Pass, answer_row, answered as pass_answered, appended, clear_row, cleared, command_text, create_row, due_at as pass_due, local_row, made_row, moved_at, open_row, read, remote_row, sorted_with, stated, sync_row}
use Rattle.send_core.specs.declared.desk.Desk.{Desk}
use Rattle.send_parts.specs.declared.row.MarkRow.TheVariants as mark
use Rattle.send_parts.specs.declared.row.Row.{Row}
use Rattle.send_parts.specs.declared.row.Row.TheVariants as at
use Rattle.send_core.specs.Finish.{act_finish, bounce_on, finish_at, looked_up, sweep_begun}
use Rattle.send_core.specs.Table.{Next, act, arrive, due_at, file_of, from_point, place_after, row_now}
use Rattle.send_core.specs.Turn.{known_of, todo_on, todo_over, todo_went}
use Rattle.send_runs.proofs.Calm.{IsFresh, point_fresh}
use Rattle.send_command.specs.Ends.{in_start, is_starting}
use Rattle.send_command.specs.Ends.IsLost.{HasEnded, Unheard, Ungiven}
use Rattle.send_command.proofs.Rows.{Fine, FineAt, FinePass, fine_file, fine_finish_at, fine_mark, fine_named, fine_on, fine_past_todo, fine_returned, fine_sent, fine_start_at, fine_sweep, fine_unlinked, start_of}
use Rattle.send_command.proofs.Steps.{BadAt, Event, starts}
use Rattle.send_command.proofs.Steps.Event.{Made, Lost}
use Rattle.send_command.proofs.Steps.OfLoss.{NoCleaner, NoLocal, NoRemote}

-- The todo pass

-- neither done nor lost
abbrev NoEnd : PassRow → Type 0
NoEnd todo.Done = ⊥
NoEnd todo.Lost = ⊥
NoEnd row = Unit {0}

either_pass : (b : Bool) (x y : PassRow) → NoEnd x → NoEnd y → NoEnd (if b then x else y)
either_pass true x y p q = p
either_pass false x y p q = q

cleared_on : (t : Target) → NoEnd (cleared t)
cleared_on target.Info = tt
cleared_on target.Local = tt
cleared_on target.Remote = tt

clear_on : (t : Target) (a : Answer) → NoEnd (clear_row t a)
clear_on t answer.Done = cleared_on t
clear_on t (answer.Refused why.NotThere) = cleared_on t
clear_on t a = tt

stat_on : (p : Pass) (a : Answer) → NoEnd (stated p a).row
stat_on p (answer.Stat stat) = tt
stat_on p (answer.Refused why.NotThere) = tt
stat_on p a = tt

open_on : (a : Answer) → NoEnd (open_row a)
open_on (answer.Opened fd) = tt
open_on a = tt

read_on_pass : (p : Pass) (fd : Fd) (a : Answer) (bytes : List ℕ) → NoEnd (read p fd a bytes).row
read_on_pass p fd (answer.Count count) bytes = either_pass (nat_lt (length bytes) 8192) (todo.CloseTodo fd) (todo.ReadTodo fd) tt tt
read_on_pass p fd a bytes = tt

sorted_on : (p : Pass) (r : Result Sorted ℕ) → NoEnd (sorted_with p r).row
sorted_on p (Ok s) = tt
sorted_on p (Err place) = tt

create_on : (t : Target) (a : Answer) → NoEnd (create_row t a)
create_on t (answer.Created fd number) = tt
create_on t a = tt

append_on : (p : Pass) (t : Target) (fd : Fd) (done now : ℕ) (a : Answer) → NoEnd (appended p t fd done now a).row
append_on p t fd done now answer.Done = either_pass (nat_lt (done + 8192) (length (text_of p.sorted t))) (todo.Append t fd (done + 8192)) (todo.Sync t fd) tt tt
append_on p t fd done now a = tt

sync_on : (t : Target) (fd : Fd) (a : Answer) → NoEnd (sync_row t fd a)
sync_on t fd answer.Done = tt
sync_on t fd a = tt

remote_on : (b : Bool) → NoEnd (remote_row b)
remote_on true = tt
remote_on false = tt

local_on : (a b : Bool) → NoEnd (local_row a b)
local_on true b = tt
local_on false b = remote_on b

made_on : (t : Target) (s : Sorted) → NoEnd (made_row t s)
made_on target.Info s = local_on (has s.local) (has s.remote)
made_on target.Local s = remote_on (has s.remote)
made_on target.Remote s = tt

-- its file calls lose no link
filed : (controls : Controls) (row : PassRow) (p : Pass) (now : ℕ) (a : Answer) (bytes : List ℕ) → FinePass row → p.row ≡ row → NoEnd (pass_answered controls row p now a bytes).row
filed controls (todo.Clear t) p now a bytes fine is = clear_on t a
filed controls todo.StatMess p now a bytes fine is = stat_on p a
filed controls todo.OpenTodo p now a bytes fine is = open_on a
filed controls (todo.ReadTodo fd) p now a bytes fine is = read_on_pass p fd a bytes
filed controls (todo.CloseTodo fd) p now a bytes fine is = sorted_on p (sort_todo controls p.todo)
filed controls (todo.Create t) p now a bytes fine is = create_on t a
filed controls (todo.Append t fd done) p now a bytes fine is = append_on p t fd done now a
filed controls (todo.Sync t fd) p now a bytes fine is = sync_on t fd a
filed controls (todo.Close t fd) p now a bytes fine is = made_on t p.sorted
filed controls (todo.Shut fd why) p now a bytes fine is = tt
filed controls todo.Give p now a bytes fine is = subst NoEnd (sym is) tt
filed controls todo.Answer p now a bytes fine is = subst NoEnd (sym is) tt
filed controls todo.Done p now a bytes fine is = absurd fine
filed controls (todo.Left why) p now a bytes fine is = absurd fine
filed controls todo.Lost p now a bytes fine is = absurd fine

goes_on : (E : ℕ → Type 0) → E 0 → (q : Pass) (now : ℕ) (d : Desk) → NoEnd q.row → Fine E (todo_on q.row q now d)
goes_on E e0 q now d on = fine_on E e0 q.row q now d refl (λ is. absurd (subst NoEnd is on)) (λ is. subst NoEnd is on)

module _ (controls : Controls) (now : ℕ) (d : Desk) where
  abbrev WentOf : PassRow → Pass → GotData → Type 0
  WentOf row p came = Fine (Event ⊥ false (pass_due row p) came) (todo_went row came (moved_at controls row p now came) now d)

  answered_so : (E : ℕ → Type 0) → E 0 → (b : Bool) (q : Pass) → Fine E (todo_over (if b then todo.Done else todo.Left left.Unclean) q now d)
  answered_so E e0 true q = fine_past_todo E e0 now (record d { pass = q; book = record d.book { messages = learned (known_of q) now d.book.messages } })
  answered_so E e0 false q = fine_past_todo E e0 now (record d { pass = q; last_left = digits q.n })

  gives : (p : Pass) (came : GotData) → MayCome (pass_due todo.Give p) came → WentOf todo.Give p came
  gives p got.Gave may = tt
  gives p got.Failed may = Lost 81 (NoCleaner (Ungiven (command_text p.n)))
  gives p came may = absurd may

  takes : (p : Pass) (came : GotData) → MayCome (pass_due todo.Answer p) came → WentOf todo.Answer p came
  takes p (got.Took bytes) may = answered_so (Event ⊥ false (needs.Take port.Clean) (got.Took bytes)) (Made refl) (bytes_eq bytes (43 ∷ [])) (record p { row = answer_row (got.Took bytes) })
  takes p got.End may = Lost 81 (NoCleaner HasEnded)
  takes p got.Failed may = Lost 81 (NoCleaner Unheard)
  takes p came may = absurd may

  pub went : (row : PassRow) (p : Pass) (came : GotData) → FinePass row → p.row ≡ row → MayCome (pass_due row p) came → WentOf row p came
  went todo.Give p came fine is may = gives p came may
  went todo.Answer p came fine is may = takes p came may
  went todo.Done p came fine is may = absurd fine
  went (todo.Left why) p came fine is may = absurd fine
  went todo.Lost p came fine is may = absurd fine
  went (todo.Clear t) p (got.Answered told) fine is may = goes_on (Event ⊥ false (pass_due (todo.Clear t) p) (got.Answered told)) (Made refl) (pass_answered controls (todo.Clear t) p now told.answer told.bytes) now d (filed controls (todo.Clear t) p now told.answer told.bytes fine is)
  went todo.StatMess p (got.Answered told) fine is may = goes_on (Event ⊥ false (pass_due todo.StatMess p) (got.Answered told)) (Made refl) (pass_answered controls todo.StatMess p now told.answer told.bytes) now d (filed controls todo.StatMess p now told.answer told.bytes fine is)
  went todo.OpenTodo p (got.Answered told) fine is may = goes_on (Event ⊥ false (pass_due todo.OpenTodo p) (got.Answered told)) (Made refl) (pass_answered controls todo.OpenTodo p now told.answer told.bytes) now d (filed controls todo.OpenTodo p now told.answer told.bytes fine is)
  went (todo.ReadTodo fd) p (got.Answered told) fine is may = goes_on (Event ⊥ false (pass_due (todo.ReadTodo fd) p) (got.Answered told)) (Made refl) (pass_answered controls (todo.ReadTodo fd) p now told.answer told.bytes) now d (filed controls (todo.ReadTodo fd) p now told.answer told.bytes fine is)
  went (todo.CloseTodo fd) p (got.Answered told) fine is may = goes_on (Event ⊥ false (pass_due (todo.CloseTodo fd) p) (got.Answered told)) (Made refl) (pass_answered controls (todo.CloseTodo fd) p now told.answer told.bytes) now d (filed controls (todo.CloseTodo fd) p now told.answer told.bytes fine is)
  went (todo.Create t) p (got.Answered told) fine is may = goes_on (Event ⊥ false (pass_due (todo.Create t) p) (got.Answered told)) (Made refl) (pass_answered controls (todo.Create t) p now told.answer told.bytes) now d (filed controls (todo.Create t) p now told.answer told.bytes fine is)
  went (todo.Append t fd k) p (got.Answered told) fine is may = goes_on (Event ⊥ false (pass_due (todo.Append t fd k) p) (got.Answered told)) (Made refl) (pass_answered controls (todo.Append t fd k) p now told.answer told.bytes) now d (filed controls (todo.Append t fd k) p now told.answer told.bytes fine is)
  went (todo.Sync t fd) p (got.Answered told) fine is may = goes_on (Event ⊥ false (pass_due (todo.Sync t fd) p) (got.Answered told)) (Made refl) (pass_answered controls (todo.Sync t fd) p now told.answer told.bytes) now d (filed controls (todo.Sync t fd) p now told.answer told.bytes fine is)
  went (todo.Close t fd) p (got.Answered told) fine is may = goes_on (Event ⊥ false (pass_due (todo.Close t fd) p) (got.Answered told)) (Made refl) (pass_answered controls (todo.Close t fd) p now told.answer told.bytes) now d (filed controls (todo.Close t fd) p now told.answer told.bytes fine is)
  went (todo.Shut fd why) p (got.Answered told) fine is may = goes_on (Event ⊥ false (pass_due (todo.Shut fd why) p) (got.Answered told)) (Made refl) (pass_answered controls (todo.Shut fd why) p now told.answer told.bytes) now d (filed controls (todo.Shut fd why) p now told.answer told.bytes fine is)
  went row p came fine is may = absurd may

-- Finish and sweep

module _ (E : ℕ → Type 0) (e0 : E 0) (n now : ℕ) (d : Desk) where
  info_gone_so : (w : Way) → Fine E (finish_at (info_gone w) n now d)
  info_gone_so way.Fine = tt
  info_gone_so way.Over = fine_finish_at E e0 finish.Later n now d (λ is. absurd (cc))
  info_gone_so way.Absent = fine_finish_at E e0 finish.Later n now d (λ is. absurd (cc))
  info_gone_so way.Broken = fine_finish_at E e0 finish.Later n now d (λ is. absurd (cc))
  info_gone_so way.NoMemory = fine_finish_at E e0 finish.Later n now d (λ is. absurd (cc))

module _ (now : ℕ) (d : Desk) where
  abbrev FinishOf : FinishRow → ℕ → GotData → Type 0
  FinishOf row n came = Fine (Event ⊥ false (due_at (at.Finish row n) d) came) (act_finish row n now came d)

  finishes : (row : FinishRow) (n : ℕ) (came : GotData) → MayCome (due_at (at.Finish row n) d) came → FinishOf row n came
  finishes finish.OpenBounce n came may =
      let r : Returning = bounce_on n now came (return_begun n) d.book in
      fine_returned (Event ⊥ false (due_at (at.Finish finish.OpenBounce n) d) came) (Made refl) r.row n now (record d { bounce = r; busy = true })
  finishes finish.Return n came may =
      let r : Returning = bounce_on n now came d.bounce d.book in
      fine_returned (Event ⊥ false (due_at (at.Finish finish.Return n) d) came) (Made refl) r.row n now (record d { bounce = r })
  finishes finish.UnlinkInfo n came may = info_gone_so (Event ⊥ false (due_at (at.Finish finish.UnlinkInfo n) d) came) (Made refl) n now d (said came).way
  finishes finish.Give n got.Gave may = tt
  finishes finish.Give n got.Failed may = Lost 81 (NoCleaner (Ungiven (remove_text n)))
  finishes finish.Give n came may = absurd may
  finishes finish.Take n (got.Took bytes) may = fine_finish_at (Event ⊥ false (needs.Take port.Clean) (got.Took bytes)) (Made refl) finish.Over n now d (λ is. absurd (cc))
  finishes finish.Take n got.End may = Lost 81 (NoCleaner HasEnded)
  finishes finish.Take n got.Failed may = Lost 81 (NoCleaner Unheard)
  finishes finish.Take n came may = absurd may
  finishes finish.Later n came may = absurd may
  finishes finish.Over n came may = absurd may
  finishes finish.Lost n came may = absurd may

-- a step of a sweep other than a giving or a taking loses no link
abbrev NoLoss : SweepRow → Type 0
NoLoss sweep.Lost = ⊥
NoLoss row = Unit {0}

loss_if : (b : Bool) (x y : SweepRow) → NoLoss x → NoLoss y → NoLoss (if b then x else y)
loss_if true x y p q = p
loss_if false x y p q = q

sweep_row_on : (o : Option ℕ) (split : ℕ) (known : List Known) → NoLoss (sweep_row o split known)
sweep_row_on None split known = tt
sweep_row_on (Some n) split known = loss_if (is_known n known) (sweep.Next split) (sweep.StatMess split n) tt tt

swept_on : (w : Way) (text : List ℕ) (split : ℕ) (b : Book) → NoLoss (swept w text split b)
swept_on way.Fine text split b = sweep_row_on (message_number text) split b.messages.known
swept_on way.Over text split b = loss_if (nat_lt split 22) (sweep.Next (split + 1)) sweep.Over tt tt
swept_on way.Absent text split b = loss_if (nat_lt split 22) (sweep.Next (split + 1)) sweep.Over tt tt
swept_on way.Broken text split b = loss_if (nat_lt split 22) (sweep.Next (split + 1)) sweep.Over tt tt
swept_on way.NoMemory text split b = loss_if (nat_lt split 22) (sweep.Next (split + 1)) sweep.Over tt tt

mess_on : (w : Way) (split n moment now : ℕ) → NoLoss (mess_stated w split n moment now)
mess_on way.Fine split n moment now = loss_if (nat_lt (moment + 129600) now) (sweep.StatTodo split n) (sweep.Next split) tt tt
mess_on w split n moment now = tt

todo_stat_on : (w : Way) (split n : ℕ) → NoLoss (todo_stated w split n)
todo_stat_on way.Fine split n = tt
todo_stat_on way.Absent split n = tt
todo_stat_on w split n = tt

info_on : (w : Way) (split n : ℕ) (todo : Bool) → NoLoss (info_stated w split n todo)
info_on way.Absent split n false = tt
info_on w split n todo = tt

module _ (now : ℕ) (d : Desk) where
  abbrev SweepOf : SweepRow → GotData → Type 0
  SweepOf row came = Fine (Event ⊥ false (due_at (at.Sweep row) d) came) (act (at.Sweep row) now came d)

  leads_sweep : (row : SweepRow) (came : GotData) → NoLoss (sweep_to row now (said came) d.book) → SweepOf row came
  leads_sweep row came on =
      fine_sweep (Event ⊥ false (due_at (at.Sweep row) d) came) (Made refl) (sweep_to row now (said came) d.book) (looked_up row (said came) (sweep_begun row now d)) (λ is. absurd (subst NoLoss is on))

  sweeps : (row : SweepRow) (came : GotData) → MayCome (due_at (at.Sweep row) d) came → SweepOf row came
  sweeps sweep.First came may = leads_sweep sweep.First came (swept_on (said came).way (said came).bytes 0 d.book)
  sweeps (sweep.Next split) came may = leads_sweep (sweep.Next split) came (swept_on (said came).way (said came).bytes split d.book)
  sweeps (sweep.StatMess split n) came may = leads_sweep (sweep.StatMess split n) came (mess_on (said came).way split n (said came).stat.moment now)
  sweeps (sweep.StatTodo split n) came may = leads_sweep (sweep.StatTodo split n) came (todo_stat_on (said came).way split n)
  sweeps (sweep.StatInfo split n todo) came may = leads_sweep (sweep.StatInfo split n todo) came (info_on (said came).way split n todo)
  sweeps (sweep.Give split n) got.Gave may = tt
  sweeps (sweep.Give split n) got.Failed may = Lost 81 (NoCleaner (Ungiven (remove_text n)))
  sweeps (sweep.Give split n) came may = absurd may
  sweeps (sweep.Take split n) (got.Took bytes) may = tt
  sweeps (sweep.Take split n) got.End may = Lost 81 (NoCleaner HasEnded)
  sweeps (sweep.Take split n) got.Failed may = Lost 81 (NoCleaner Unheard)
  sweeps (sweep.Take split n) came may = absurd may
  sweeps sweep.Over came may = absurd may
  sweeps sweep.Lost came may = absurd may

-- All rows

module _ (now : ℕ) (d : Desk) where
  abbrev StepOf : Row → GotData → Type 0
  StepOf row came = Fine (Event (BadAt row d came) (is_starting row) (due_at row d) came) (act row now came d)

  takes_link : (c : Channel) (came : GotData) → MayCome (due_at (at.TakeLink c) d) came → StepOf (at.TakeLink c) came
  takes_link Local (got.Took bytes) may = tt
  takes_link Local got.End may = Lost 82 (NoLocal HasEnded)
  takes_link Local got.Failed may = Lost 82 (NoLocal Unheard)
  takes_link Local came may = absurd may
  takes_link Remote (got.Took bytes) may = tt
  takes_link Remote got.End may = Lost 83 (NoRemote HasEnded)
  takes_link Remote got.Failed may = Lost 83 (NoRemote Unheard)
  takes_link Remote came may = absurd may

  requests : (c : Channel) (came : GotData) → MayCome (due_at (at.Request c) d) came → StepOf (at.Request c) came
  requests Local got.Gave may = fine_sent (Event ⊥ false (due_at (at.Request Local) d) got.Gave) Local d
  requests Local got.Failed may = Lost 82 (NoLocal (Ungiven (first_text d.local.requests)))
  requests Local came may = absurd may
  requests Remote got.Gave may = fine_sent (Event ⊥ false (due_at (at.Request Remote) d) got.Gave) Remote d
  requests Remote got.Failed may = Lost 83 (NoRemote (Ungiven (first_text d.remote.requests)))
  requests Remote came may = absurd may

  pub step : (E : ℕ → Type 0) (row : Row) (came : GotData) → FineAt E row d.pass.row → MayCome (due_at row d) came → HasBytes came → StepOf row came
  step E (at.Start row) came fine may some =
      fine_start_at (Event (BadAt (at.Start row) d came) true (due_at (at.Start row) d) came) (act_start row (said came) d.book).row d.pass.row (starts d E row came (start_of E row d.pass.row fine) may some)
  step E (at.Turn p) came fine may some = absurd may
  step E (at.TakeLink c) came fine may some = takes_link c came may
  step E (at.Mark row m) came fine may some = fine_mark (Event ⊥ false (due_at (at.Mark row m) d) came) row m came d
  step E (at.UnlinkFile c n p) came fine may some = fine_unlinked (Event ⊥ false (due_at (at.UnlinkFile c n p) d) came) (said came).way c n p now d
  step E (at.ReadFile c n begun reading) came fine may some =
      fine_file (Event ⊥ false (due_at (at.ReadFile c n begun reading) d) came) (read_on reading (said came)) c n (begun_at reading begun now) reading now (said came) d
  step E (at.Request c) came fine may some = requests c came may
  step E (at.FindTodo s) came fine may some = fine_named (Event ⊥ false (due_at (at.FindTodo s) d) came) (Made refl) (said came).way (said came).bytes s now d
  step E at.InTodo came fine may some = went d.book.controls now d d.pass.row d.pass came fine refl may
  step E (at.Finish row n) came fine may some = finishes now d row n came may
  step E (at.Sweep row) came fine may some = sweeps now d row came may
  step E (at.Ended status) came fine may some = absurd may

-- Between two steps

fresh_fine : (E : ℕ → Type 0) (row : Row) (pass : PassRow) → IsFresh row → FineAt E row pass
fresh_fine E (at.TakeLink c) pass h = tt
fresh_fine E (at.Mark row m) pass h = tt
fresh_fine E (at.ReadFile c n begun reading) pass h = tt
fresh_fine E (at.Request c) pass h = tt
fresh_fine E (at.FindTodo s) pass h = tt
fresh_fine E (at.Finish row n) pass h = tt
fresh_fine E (at.Sweep row) pass h = tt
fresh_fine E row pass h = absurd h

fresh_later : (row : Row) → IsFresh row → is_starting row ≡ false
fresh_later (at.TakeLink c) h = refl
fresh_later (at.Mark row m) h = refl
fresh_later (at.ReadFile c n begun reading) h = refl
fresh_later (at.Request c) h = refl
fresh_later (at.FindTodo s) h = refl
fresh_later (at.Finish row n) h = refl
fresh_later (at.Sweep row) h = refl
fresh_later row h = absurd h

pub arrives : (E : ℕ → Type 0) (row : Row) (d : Desk) (now : ℕ) (ready : Ready) → FineAt E row d.pass.row → FineAt E (arrive row d now ready) d.pass.row × (is_starting (arrive row d now ready) ≡ is_starting row)
arrives E (at.Turn p) d now ready fine = (fresh_fine E (from_point p d now ready) d.pass.row (point_fresh d now ready p), fresh_later (from_point p d now ready) (point_fresh d now ready p))
arrives E (at.Start row) d now ready fine = (fine, refl)
arrives E (at.TakeLink c) d now ready fine = (fine, refl)
arrives E (at.Mark row m) d now ready fine = (fine, refl)
arrives E (at.UnlinkFile c n p) d now ready fine = (fine, refl)
arrives E (at.ReadFile c n begun reading) d now ready fine = (fine, refl)
arrives E (at.Request c) d now ready fine = (fine, refl)
arrives E (at.FindTodo s) d now ready fine = (fine, refl)
arrives E at.InTodo d now ready fine = (fine, refl)
arrives E (at.Finish row n) d now ready fine = (fine, refl)
arrives E (at.Sweep row) d now ready fine = (fine, refl)
arrives E (at.Ended status) d now ready fine = (fine, refl)

-- Whole runs

-- each taking of a past brought some bytes
abbrev pub AllBring : List Own → Type 0
AllBring [] = Unit {0}
AllBring (event ∷ before) = HasBytes event.came × AllBring before

-- the newest event may have ended it so
abbrev pub Why : ℕ → List Own → ℕ → Type 0
Why turns [] status = ⊥
Why turns (event ∷ before) status =
    let d = place_after (Some turns) before in Event (BadAt (row_now d event.read event.ready) d event.came) (in_start turns before) event.due event.came status

pub keeps : (turns : ℕ) (past : List Own) → IsRunBy (Next (Some turns)) past → AllBring past → Fine (Why turns past) (place_after (Some turns) past)
keeps turns [] run brings = tt
keeps turns (event ∷ before) run brings =
    let d : Desk = place_after (Some turns) before in
    let row : Row = row_now d event.read event.ready in
    let own = arrives (Why turns before) d.row d event.read event.ready (keeps turns before run.0 brings.1) in
    let may = subst (λ x. MayCome x event.came) (sym run.1.0) run.1.1 in
    subst (λ (x : NeedData). Fine (Event (BadAt row d event.came) (is_starting d.row) x event.came) (act row event.read event.came d)) run.1.0
    (subst (λ (b : Bool). Fine (Event (BadAt row d event.came) b (due_at row d) event.came) (act row event.read event.came d)) own.1 (step event.read d (Why turns before) row event.came own.0 may brings.0))

-- where it is at its end

read_no_end : (E : ℕ → Type 0) (reading : Reading) (opening : Step) (k : ℕ) (bytes : List ℕ) (status : ℕ) → ((due_by opening bytes ≡ needs.Ended status) → ⊥) → due_by (reading_step reading opening k) bytes ≡ needs.Ended status → ⊥
read_no_end E Opening opening k bytes status other due = other due
read_no_end E (Going fd) opening k bytes status other due = cc
read_no_end E (Closing fd) opening k bytes status other due = cc
read_no_end E (Shutting fd) opening k bytes status other due = cc

same_status : (E : ℕ → Type 0) (a b : ℕ) → E a → needs.Ended a ≡ needs.Ended b → E b
same_status E a b e is = subst E (by is) e where
  by : needs.Ended a ≡ needs.Ended b → a ≡ b
  by is = cc

start_end : (E : ℕ → Type 0) (row : StartRow) (d : Desk) (status : ℕ) → FineAt E (at.Start row) d.pass.row → due_at (at.Start row) d ≡ needs.Ended status → E status
start_end E (start.Control f reading) d status fine due = absurd (read_no_end E reading (doing.OpenControl f) (length d.book.read) [] status (λ is. cc) due)
start_end E (start.ReadInfo split n reading) d status fine due = absurd (read_no_end E reading (doing.Open (name.Info n) how.Read) (length d.book.read) [] status (λ is. cc) due)
start_end E (start.Ended code) d status fine due = absurd fine
start_end E start.GreetLocal d status fine due = absurd (cc)
start_end E (start.GreetRemote limit) d status fine due = absurd (cc)
start_end E (start.Scan split) d status fine due = absurd (cc)
start_end E (start.StatTodo split n) d status fine due = absurd (cc)
start_end E (start.StatInfo split n) d status fine due = absurd (cc)
start_end E (start.StatLocal split n birth) d status fine due = absurd (cc)
start_end E (start.StatRemote split n birth local) d status fine due = absurd (cc)
start_end E start.Over d status fine due = absurd (cc)

pass_end : (E : ℕ → Type 0) (row : PassRow) (p : Pass) (status : ℕ) → FinePass row → pass_due row p ≡ needs.Ended status → E status
pass_end E todo.Done p status fine due = absurd fine
pass_end E (todo.Left why) p status fine due = absurd fine
pass_end E todo.Lost p status fine due = absurd fine
pass_end E (todo.Clear t) p status fine due = absurd (cc)
pass_end E todo.StatMess p status fine due = absurd (cc)
pass_end E todo.OpenTodo p status fine due = absurd (cc)
pass_end E (todo.ReadTodo fd) p status fine due = absurd (cc)
pass_end E (todo.CloseTodo fd) p status fine due = absurd (cc)
pass_end E (todo.Create t) p status fine due = absurd (cc)
pass_end E (todo.Append t fd k) p status fine due = absurd (cc)
pass_end E (todo.Sync t fd) p status fine due = absurd (cc)
pass_end E (todo.Close t fd) p status fine due = absurd (cc)
pass_end E (todo.Shut fd why) p status fine due = absurd (cc)
pass_end E todo.Give p status fine due = absurd (cc)
pass_end E todo.Answer p status fine due = absurd (cc)

note_no_end : (row : NoteRow) (w : Writing) (status : ℕ) → note_at row w ≡ needs.Ended status → ⊥
note_no_end written.Open w status due = cc
note_no_end written.Create w status due = cc
note_no_end (written.Stat fd) w status due = cc
note_no_end (written.Read fd place len) w status due = cc
note_no_end (written.Append fd done) w status due = cc
note_no_end (written.Sync fd) w status due = cc
note_no_end (written.Close fd) w status due = cc
note_no_end (written.Shut fd) w status due = cc
note_no_end written.Written w status due = cc
note_no_end written.Failed w status due = cc

return_no_end : (row : ReturnRow) (r : Returning) (status : ℕ) → return_at row r ≡ needs.Ended status → ⊥
return_no_end back.Open r status due = cc
return_no_end (back.ReadNotes fd) r status due = cc
return_no_end (back.CloseNotes fd) r status due = cc
return_no_end back.OpenMessage r status due = cc
return_no_end (back.ReadMessage fd) r status due = cc
return_no_end (back.CloseMessage fd) r status due = cc
return_no_end (back.Shut fd) r status due = cc
return_no_end back.Start r status due = cc
return_no_end (back.Give pid) r status due = cc
return_no_end (back.Await pid) r status due = cc
return_no_end back.Unlink r status due = cc
return_no_end back.Discard r status due = cc
return_no_end back.Over r status due = cc
return_no_end back.Failed r status due = cc

pub end_at : (E : ℕ → Type 0) (row : Row) (d : Desk) (status : ℕ) → FineAt E row d.pass.row → due_at row d ≡ needs.Ended status → E status
end_at E (at.Start row) d status fine due = start_end E row d status fine due
end_at E (at.Turn p) d status fine due = absurd (cc)
end_at E (at.TakeLink c) d status fine due = absurd (cc)
end_at E (at.Mark mark.Note m) d status fine due = absurd (cc)
end_at E (at.Mark mark.Noting m) d status fine due = absurd (note_no_end d.note.row d.note status due)
end_at E (at.Mark mark.Open m) d status fine due = absurd (cc)
end_at E (at.Mark (mark.Write fd) m) d status fine due = absurd (cc)
end_at E (at.Mark (mark.Close fd done) m) d status fine due = absurd (cc)
end_at E (at.UnlinkFile c n p) d status fine due = absurd (cc)
end_at E (at.ReadFile c n begun reading) d status fine due = absurd (read_no_end E reading (doing.Open (file_of c n) how.Read) (length d.book.read) [] status (λ is. cc) due)
end_at E (at.Request c) d status fine due = absurd (cc)
end_at E (at.FindTodo s) d status fine due = absurd (cc)
end_at E at.InTodo d status fine due = pass_end E d.pass.row d.pass status fine due
end_at E (at.Finish finish.Return n) d status fine due = absurd (return_no_end d.bounce.row d.bounce status due)
end_at E (at.Finish finish.OpenBounce n) d status fine due = absurd (cc)
end_at E (at.Finish finish.UnlinkInfo n) d status fine due = absurd (cc)
end_at E (at.Finish finish.Give n) d status fine due = absurd (cc)
end_at E (at.Finish finish.Take n) d status fine due = absurd (cc)
end_at E (at.Finish finish.Later n) d status fine due = absurd (cc)
end_at E (at.Finish finish.Over n) d status fine due = absurd (cc)
end_at E (at.Finish finish.Lost n) d status fine due = absurd (cc)
end_at E (at.Sweep sweep.First) d status fine due = absurd (cc)
end_at E (at.Sweep (sweep.Next split)) d status fine due = absurd (cc)
end_at E (at.Sweep (sweep.StatMess split n)) d status fine due = absurd (cc)
end_at E (at.Sweep (sweep.StatTodo split n)) d status fine due = absurd (cc)
end_at E (at.Sweep (sweep.StatInfo split n todo)) d status fine due = absurd (cc)
end_at E (at.Sweep (sweep.Give split n)) d status fine due = absurd (cc)
end_at E (at.Sweep (sweep.Take split n)) d status fine due = absurd (cc)
end_at E (at.Sweep sweep.Over) d status fine due = absurd (cc)
end_at E (at.Sweep sweep.Lost) d status fine due = absurd (cc)
end_at E (at.Ended code) d status fine due = same_status E code status fine due

-- why it ended, by its newest event
pub ends_for : (turns : ℕ) (past : List Own) (now : ℕ) (ready : Ready) (status : ℕ) → IsRunBy (Next (Some turns)) past → AllBring past
    → Next (Some turns) past now ready ≡ needs.Ended status → Why turns past status
ends_for turns past now ready status run brings due =
    let d : Desk = place_after (Some turns) past in
    end_at (Why turns past) (row_now d now ready) d status (arrives (Why turns past) d.row d now ready (keeps turns past run brings)).0 due
