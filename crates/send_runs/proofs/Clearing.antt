-- Which call comes directly before an unlink.
use Rattle.std.proofs.Common.{◌≡◌, ℕ, ◌+◌, ◌-◌, List, [], ◌∷◌, drop, length, nat_lt, bytes_eq, Bool, true, false, if◌then◌else◌, Option, Some, None, refl, sym, subst}
use Rattle.std.specs.Prelude.{◌||◌, Result, Ok, Err, is_some}
use Rattle.address_rules.specs.declared.controls.Controls.{Controls}
use Rattle.bounce_record.specs.declared.note_row.NoteRow.{NoteRow}
use Rattle.bounce_record.specs.declared.note_row.NoteRow.TheVariants as written
use Rattle.bounce_record.specs.Returning.{return_begun}
use Rattle.bounce_record.specs.Writing.{Writing, moved as note_moved, due_at as note_due_at}
use Rattle.call_fs.specs.Past.{IsRunBy}
use Rattle.call_fs.specs.Program.{MayCome}
use Rattle.call_fs.specs.declared.calls.Answer.{Answer}
use Rattle.call_fs.specs.declared.calls.Answer.TheVariants as answer
use Rattle.call_fs.specs.declared.calls.Fd.{Fd}
use Rattle.call_fs.specs.declared.calls.FsError.TheVariants as why
use Rattle.call_fs.specs.declared.past.GotData.{GotData}
use Rattle.call_fs.specs.declared.past.GotData.TheVariants as came
use Rattle.call_fs.specs.declared.past.NeedData.{NeedData}
use Rattle.call_fs.specs.declared.past.Own.{Own}
use Rattle.call_fs.specs.declared.program.Ready.{Ready}
use Rattle.envelope_records.specs.declared.channel.Record.{Record}
use Rattle.mail_bytes.specs.Decimal.{digits}
use Rattle.send_core.proofs.Coming.{by_file}
use Rattle.send_core.specs.Desk.{closed_by, goes, has_begun, is_free_for, later, next_idle, past_finish, past_todo, request_sent, retried, stands_at, sweep_due, turn_counted, turn_over, with_requests, link}
use Rattle.send_core.specs.Finish.{act_finish, bounce_on, finish_at, forgot, looked_up, put_off_to, returned_to, sweep_at, sweep_begun}
use Rattle.send_core.specs.Start.{start_at, started}
use Rattle.send_core.specs.Table.{Next, act, arrive, place_after, due_at, from_point, row_now}
use Rattle.send_core.specs.Turn.{act_mark, begin_note, begun_at, file_read, is_done, known_of, lost, mark_opened, mark_over, noted, noted_at, pass_opened, put_later, requested, todo_found, todo_named, todo_none, todo_on, todo_over, todo_went, took, unlinked}
use Rattle.send_core.specs.declared.desk.Desk.{Desk}
use Rattle.send_parts.specs.declared.row.MarkRow.{MarkRow}
use Rattle.send_parts.specs.declared.row.MarkRow.TheVariants as mark
use Rattle.send_parts.specs.declared.row.Marked.{Marked}
use Rattle.send_parts.specs.declared.row.Point.{Point}
use Rattle.send_parts.specs.declared.row.Point.TheVariants as point
use Rattle.send_parts.specs.declared.row.Row.{Row}
use Rattle.send_parts.specs.declared.row.Row.TheVariants as at
use Rattle.send_known.specs.declared.channel.Channel.{Channel}
use Rattle.send_known.specs.declared.channel.Channel.TheVariants.{Local, Remote}
use Rattle.send_jobs.specs.declared.jobs.Job.{Job}
use Rattle.send_jobs.specs.Lanes.{job_over, left_unmarked, mark_settled, next}
use Rattle.send_jobs.specs.Sending.{at_lane, lane, sent_on}
use Rattle.send_known.specs.Messages.{learned}
use Rattle.send_parts.specs.declared.reading.Progress.{Progress}
use Rattle.send_parts.specs.declared.reading.Progress.TheVariants.{Failed, Goes, Missing, Whole}
use Rattle.send_parts.specs.declared.reading.Reading.{Reading}
use Rattle.send_parts.specs.declared.reading.Reading.TheVariants.{Closing, Going, Opening, Shutting}
use Rattle.send_parts.specs.declared.reply.Way.{Way}
use Rattle.send_parts.specs.declared.reply.Way.TheVariants as way
use Rattle.send_parts.specs.declared.rows.FinishRow.{FinishRow}
use Rattle.send_parts.specs.declared.rows.FinishRow.TheVariants as finish
use Rattle.send_parts.specs.declared.rows.Search.{Search}
use Rattle.send_parts.specs.declared.rows.StartRow.{StartRow}
use Rattle.send_parts.specs.declared.rows.StartRow.TheVariants as start
use Rattle.send_parts.specs.declared.rows.SweepRow.{SweepRow}
use Rattle.send_parts.specs.declared.rows.SweepRow.TheVariants as sweep
use Rattle.send_links.specs.Records.{records_of}
use Rattle.send_parts.specs.Files.{message_number}
use Rattle.send_parts.specs.Finish.{finish_to}
use Rattle.send_parts.specs.Readings.{read_on}
use Rattle.send_parts.specs.Replies.{Said, said}
use Rattle.send_parts.specs.Rows.{is_again}
use Rattle.send_parts.specs.Sweep.{sweep_to}
use Rattle.todo_pass.specs.declared.part.Target.{Target}
use Rattle.todo_pass.specs.declared.part.Target.TheVariants as target
use Rattle.todo_pass.specs.declared.row.Row.{Row as PassRow}
use Rattle.todo_pass.specs.declared.row.Row.TheVariants as todo
use Rattle.todo_pass.specs.declared.row.Why.TheVariants as left
use Rattle.todo_pass.specs.declared.sorted.Sorted.{Sorted}
use Rattle.todo_pass.specs.Sorting.{has, sort_todo, text_of}
use Rattle.todo_pass.specs.Table.{Pass, answer_row, moved_at}
use Rattle.todo_pass.specs.Table as pass_table
use Rattle.send_runs.specs.DueMoments.{has_unlinked, is_unlink}
use Rattle.send_runs.proofs.Calm.{IsFresh, point_fresh}

-- By whether the newest event was an unlink: a todo pass unlinks a channel file directly after one, and no job does so
abbrev pub PassCleared : PassRow → Bool → Type 0
PassCleared (todo.Clear target.Local) b = b ≡ true
PassCleared (todo.Clear target.Remote) b = b ≡ true
PassCleared row b = Unit {0}

abbrev pub ClearedAt : Row → Pass → Bool → Type 0
ClearedAt (at.UnlinkFile c n p) pass b = b ≡ false
ClearedAt at.InTodo pass b = PassCleared pass.row b
ClearedAt row pass b = Unit {0}

-- at which nothing is said
abbrev pub IsNear : Row → Type 0
IsNear (at.Start row) = ⊥
IsNear (at.UnlinkFile c n p) = ⊥
IsNear at.InTodo = ⊥
IsNear row = Unit {0}

near_cleared : (row : Row) (pass : Pass) (b : Bool) → IsNear row → ClearedAt row pass b
near_cleared (at.Start row) pass b is = absurd is
near_cleared (at.UnlinkFile c n p) pass b is = absurd is
near_cleared at.InTodo pass b is = absurd is
near_cleared row pass b is = tt

pub fresh_near : (row : Row) → IsFresh row → IsNear row
fresh_near (at.Start row) is = absurd is
fresh_near (at.UnlinkFile c n p) is = absurd is
fresh_near at.InTodo is = absurd is
fresh_near row is = tt

arrives_cleared : (row : Row) (d : Desk) (b : Bool) (now : ℕ) (ready : Ready) → ClearedAt row d.pass b → ClearedAt (arrive row d now ready) d.pass b
arrives_cleared (at.Turn p) d b now ready h = near_cleared (from_point p d now ready) d.pass b (fresh_near (from_point p d now ready) (point_fresh d now ready p))
arrives_cleared row d b now ready h = h

-- Where rows lead, besides marks, readings and todo passes

abbrev Near : Desk → Type 0
Near d = IsNear d.row

near_if : (b : Bool) (x y : Desk) → Near x → Near y → Near (if b then x else y)
near_if true x y p q = p
near_if false x y p q = q

near_lost : (c : Channel) → IsNear (lost c)
near_lost Local = tt
near_lost Remote = tt

pub near_took : (w : Way) (bytes : List ℕ) (c : Channel) (d : Desk) → Near (took w bytes c d)
near_took way.Fine bytes c d = tt
near_took way.Over bytes c d = near_lost c
near_took way.Absent bytes c d = near_lost c
near_took way.NoMemory bytes c d = near_lost c
near_took way.Broken bytes c d = near_lost c

pub near_unlinked : (w : Way) (c : Channel) (n : ℕ) (p : Point) (now : ℕ) (d : Desk) → Near (unlinked w c n p now d)
near_unlinked way.Fine c n p now d = tt
near_unlinked way.Over c n p now d = tt
near_unlinked way.Absent c n p now d = tt
near_unlinked way.NoMemory c n p now d = tt
near_unlinked way.Broken c n p now d = tt

near_sent : (c : Channel) (d : Desk) → Near (request_sent c (stands_at d (point.Pass c false)))
near_sent Local d =
    let before : Desk = stands_at d (point.Pass Local false) in
    near_if (is_some (next (lane Local d.slots))) (with_requests Local (drop 1 (link Local d).requests) (record before { slots = sent_on Local d.slots })) before tt tt
near_sent Remote d =
    let before : Desk = stands_at d (point.Pass Remote false) in
    near_if (is_some (next (lane Remote d.slots))) (with_requests Remote (drop 1 (link Remote d).requests) (record before { slots = sent_on Remote d.slots })) before tt tt

pub near_requested : (w : Way) (c : Channel) (d : Desk) → Near (requested w c d)
near_requested way.Fine c d = near_sent c d
near_requested way.Over c d = near_lost c
near_requested way.Absent c d = near_lost c
near_requested way.NoMemory c d = near_lost c
near_requested way.Broken c d = near_lost c

near_counted : (turns : Option ℕ) (d : Desk) → Near (turn_counted turns d)
near_counted None d = tt
near_counted (Some k) d = near_if (nat_lt 1 k) (record d { turns = Some (k - 1); row = at.Turn point.TakeLocal }) (record d { turns = Some 0; row = at.Ended 0 }) tt tt

pub near_over : (d : Desk) → Near (turn_over d)
near_over d = near_counted d.turns (record d { busy = false })

near_past_finish : (now : ℕ) (d : Desk) → Near (past_finish now d)
near_past_finish now d = near_if (sweep_due now d.swept) (stands_at d point.Sweep) (turn_over d) tt (near_over d)

pub near_past_todo : (now : ℕ) (d : Desk) → Near (past_todo now d)
near_past_todo now d = near_if (is_some (next_idle now d) || sweep_due now d.swept) (stands_at d point.Finish) (turn_over d) tt (near_over d)

near_finish_at : (row : FinishRow) (n now : ℕ) (d : Desk) → Near (finish_at row n now d)
near_finish_at finish.Later n now d = near_past_finish now (put_off_to n (later now) d)
near_finish_at finish.Over n now d = near_past_finish now (forgot n d)
near_finish_at row n now d = tt

pub near_finish : (row : FinishRow) (n now : ℕ) (got : GotData) (d : Desk) → Near (act_finish row n now got d)
near_finish finish.OpenBounce n now got d = let it = bounce_on n now got (return_begun n) d.book in near_finish_at (returned_to it.row) n now (record d { bounce = it; busy = true })
near_finish finish.Return n now got d = let it = bounce_on n now got d.bounce d.book in near_finish_at (returned_to it.row) n now (record d { bounce = it })
near_finish row n now got d = near_finish_at (finish_to row (said got).way) n now d

pub near_swept : (row : SweepRow) (d : Desk) → Near (sweep_at row d)
near_swept sweep.Over d = near_over d
near_swept row d = tt

start_cleared : (row : StartRow) (pass : Pass) (b : Bool) → ClearedAt (start_at row) pass b
start_cleared start.Over pass b = tt
start_cleared (start.Ended status) pass b = tt
start_cleared row pass b = tt

-- a channel file may be unlinked then
abbrev pub IsOutside : Row → Type 0
IsOutside (at.Start row) = ⊥
IsOutside at.InTodo = ⊥
IsOutside row = Unit {0}

outside_cleared : (row : Row) (pass : Pass) → IsOutside row → ClearedAt row pass false
outside_cleared (at.Start row) pass is = absurd is
outside_cleared (at.UnlinkFile c n p) pass is = refl
outside_cleared at.InTodo pass is = absurd is
outside_cleared row pass is = tt

abbrev Outside : Desk → Type 0
Outside d = IsOutside d.row

outside_if : (b : Bool) (x y : Desk) → Outside x → Outside y → Outside (if b then x else y)
outside_if true x y p q = p
outside_if false x y p q = q

-- and those

abbrev Clears : Bool → Desk → Type 0
Clears b d = ClearedAt d.row d.pass b

clears_if : (u b : Bool) (x y : Desk) → Clears u x → Clears u y → Clears u (if b then x else y)
clears_if u true x y p q = p
clears_if u false x y p q = q

clears_near : (b : Bool) (d : Desk) → Near d → Clears b d
clears_near b d is = near_cleared d.row d.pass b is

clears_none : (again : Bool) (last : List ℕ) (now : ℕ) (b : Bool) (d : Desk) → Clears b (todo_none again last now d)
clears_none false (x ∷ xs) now b d = tt
clears_none false [] now b d = clears_near b (past_todo now d) (near_past_todo now d)
clears_none true last now b d = clears_near b (past_todo now d) (near_past_todo now d)

clears_found : (o : Option ℕ) (text : List ℕ) (s : Search) (b : Bool) (d : Desk) → Clears b (todo_found o text s d)
clears_found None text s b d = tt
clears_found (Some n) text s b d = tt

clears_named : (w : Way) (text : List ℕ) (s : Search) (now : ℕ) (b : Bool) (d : Desk) → Clears b (todo_named w text s now d)
clears_named way.Fine text s now b d = clears_found (message_number text) text s b d
clears_named way.Over text s now b d = clears_none (is_again s) d.last_left now b d
clears_named way.Absent text s now b d = clears_none (is_again s) d.last_left now b d
clears_named way.NoMemory text s now b d = clears_none (is_again s) d.last_left now b d
clears_named way.Broken text s now b d = clears_none (is_again s) d.last_left now b d

outside_closed : (o : Option Job) (c : Channel) (n : ℕ) (p : Point) (d : Desk) → Outside (closed_by o c n p d)
outside_closed None c n p d = tt
outside_closed (Some job) c n p d = outside_if job.unmarked (retried c n job.begun (stands_at d p)) (goes d (at.UnlinkFile c n p)) tt tt

outside_pass : (o : Option (List Record)) (c : Channel) (n begun now : ℕ) (d : Desk) → Outside (pass_opened o c n begun now d)
outside_pass None c n begun now d = tt
outside_pass (Some records) c n begun now d =
    let after : Desk = has_begun c n begun records d in
    outside_if (is_free_for n (lane c d.slots)) (closed_by (job_over n (lane c after.slots)) c n (point.Pass c false) after) (put_later c n now d)
    (outside_closed (job_over n (lane c after.slots)) c n (point.Pass c false) after) tt

pub outside_read : (x : Progress) (c : Channel) (n begun : ℕ) (reading : Reading) (now : ℕ) (s : Said) (d : Desk) → Outside (file_read x c n begun reading now s d)
outside_read (Goes more) c n begun reading now s d = tt
outside_read Whole c n begun reading now s d = outside_pass (records_of d.book.read) c n begun now d
outside_read Missing c n begun reading now s d = tt
outside_read Failed c n begun reading now s d = tt

outside_marked : (b : Bool) (m : Marked) (d : Desk) → Outside (mark_over b m d)
outside_marked true m d = let after : Desk = record d { slots = at_lane m.channel mark_settled d.slots } in outside_closed (job_over m.n (lane m.channel after.slots)) m.channel m.n point.Reports after
outside_marked false m d =
    let after : Desk = record d { slots = at_lane m.channel (left_unmarked m.n) (at_lane m.channel mark_settled d.slots) } in
    outside_closed (job_over m.n (lane m.channel after.slots)) m.channel m.n point.Reports after

outside_opened : (w : Way) (m : Marked) (fd : Fd) (d : Desk) → Outside (mark_opened w m fd d)
outside_opened way.Fine m fd d = tt
outside_opened way.Over m fd d = outside_marked false m d
outside_opened way.Absent m fd d = outside_marked false m d
outside_opened way.NoMemory m fd d = outside_marked false m d
outside_opened way.Broken m fd d = outside_marked false m d

outside_noted : (row : NoteRow) (m : Marked) (d : Desk) → Outside (noted_at row m d)
outside_noted written.Written m d = tt
outside_noted written.Failed m d = outside_marked false m d
outside_noted row m d = tt

outside_note : (m : Marked) (got : GotData) (d : Desk) → Outside (noted m got d)
outside_note m got d = outside_noted (note_moved d.note got).row m (record d { note = note_moved d.note got })

pub outside_mark : (row : MarkRow) (m : Marked) (got : GotData) (d : Desk) → Outside (act_mark row m got d)
outside_mark mark.Note m got d = outside_note m got (begin_note m d)
outside_mark mark.Noting m got d = outside_note m got d
outside_mark mark.Open m got d = outside_opened (said got).way m (said got).fd d
outside_mark (mark.Write fd) m got d = tt
outside_mark (mark.Close fd done) m got d = outside_marked done m d

-- marks and readings unlink nothing

not_note : (row : NoteRow) (w : Writing) → is_unlink (note_due_at row w) ≡ false
not_note written.Written w = refl
not_note row w = refl

not_mark : (row : MarkRow) (m : Marked) (d : Desk) → is_unlink (due_at (at.Mark row m) d) ≡ false
not_mark mark.Noting m d = not_note d.note.row d.note
not_mark row m d = refl

not_reading : (reading : Reading) (c : Channel) (n begun : ℕ) (d : Desk) → is_unlink (due_at (at.ReadFile c n begun reading) d) ≡ false
not_reading Opening c n begun d = refl
not_reading (Going fd) c n begun d = refl
not_reading (Closing fd) c n begun d = refl
not_reading (Shutting fd) c n begun d = refl

-- a todo pass

on_cleared : (row : PassRow) (p : Pass) (now : ℕ) (b : Bool) (d : Desk) → PassCleared p.row b → Clears b (todo_on row p now d)
on_cleared (todo.Left why) p now b d h = let e : Desk = record d { pass = p; last_left = digits p.n } in clears_near b (past_todo now e) (near_past_todo now e)
on_cleared todo.Lost p now b d h = tt
on_cleared row p now b d h = h

over_cleared : (row : PassRow) (p : Pass) (now : ℕ) (b : Bool) (d : Desk) → PassCleared p.row b → Clears b (todo_over row p now d)
over_cleared row p now b d h =
    let learnt : Desk = record d { pass = p; book = record d.book { messages = learned (known_of p) now d.book.messages } } in
    clears_if b (is_done row) (past_todo now learnt) (todo_on row p now d) (clears_near b (past_todo now learnt) (near_past_todo now learnt)) (on_cleared row p now b d h)

-- it unlinks nothing after the third unlink
abbrev pub IsPast : PassRow → Type 0
IsPast (todo.Clear part) = ⊥
IsPast row = Unit {0}

past_cleared : (row : PassRow) (b : Bool) → IsPast row → PassCleared row b
past_cleared (todo.Clear part) b is = absurd is
past_cleared row b is = tt

either_past : (b : Bool) (x y : PassRow) → IsPast x → IsPast y → IsPast (if b then x else y)
either_past true x y p q = p
either_past false x y p q = q

cleared_so : (t : Target) → PassCleared (pass_table.cleared t) true
cleared_so target.Info = refl
cleared_so target.Local = refl
cleared_so target.Remote = tt

clear_row_so : (t : Target) (told : Answer) → PassCleared (pass_table.clear_row t told) true
clear_row_so t answer.Done = cleared_so t
clear_row_so t (answer.Refused why.NotThere) = cleared_so t
clear_row_so t told = tt

pub stated_past : (p : Pass) (told : Answer) → IsPast (pass_table.stated p told).row
stated_past p (answer.Stat stat) = tt
stated_past p (answer.Refused why.NotThere) = tt
stated_past p told = tt

pub open_past : (told : Answer) → IsPast (pass_table.open_row told)
open_past (answer.Opened fd) = tt
open_past told = tt

pub read_past : (p : Pass) (fd : Fd) (told : Answer) (bytes : List ℕ) → IsPast (pass_table.read p fd told bytes).row
read_past p fd (answer.Count count) bytes = either_past (nat_lt (length bytes) pass_table.piece_size) (todo.CloseTodo fd) (todo.ReadTodo fd) tt tt
read_past p fd told bytes = tt

pub sorted_past : (p : Pass) (r : Result Sorted ℕ) → IsPast (pass_table.sorted_with p r).row
sorted_past p (Ok s) = tt
sorted_past p (Err place) = tt

pub create_past : (t : Target) (told : Answer) → IsPast (pass_table.create_row t told)
create_past t (answer.Created fd number) = tt
create_past t told = tt

next_past : (t : Target) (fd : Fd) (done : ℕ) (text : List ℕ) → IsPast (pass_table.next_piece t fd done text)
next_past t fd done text = either_past (nat_lt done (length text)) (todo.Append t fd done) (todo.Sync t fd) tt tt

pub appended_past : (p : Pass) (t : Target) (fd : Fd) (done now : ℕ) (told : Answer) → IsPast (pass_table.appended p t fd done now told).row
appended_past p t fd done now answer.Done = next_past t fd (done + pass_table.piece_size) (text_of p.sorted t)
appended_past p t fd done now told = tt

pub sync_past : (t : Target) (fd : Fd) (told : Answer) → IsPast (pass_table.sync_row t fd told)
sync_past t fd answer.Done = tt
sync_past t fd told = tt

remote_past : (b : Bool) → IsPast (pass_table.remote_row b)
remote_past true = tt
remote_past false = tt

local_past : (b remote : Bool) → IsPast (pass_table.local_row b remote)
local_past true remote = tt
local_past false remote = remote_past remote

pub made_past : (t : Target) (s : Sorted) → IsPast (pass_table.made_row t s)
made_past target.Info s = local_past (has s.local) (has s.remote)
made_past target.Local s = remote_past (has s.remote)
made_past target.Remote s = tt

pub give_past : (got : GotData) → IsPast (pass_table.give_row got)
give_past came.Gave = tt
give_past got = tt

pub answer_past : (got : GotData) → IsPast (answer_row got)
answer_past (came.Took bytes) = either_past (bytes_eq bytes (43 ∷ [])) todo.Done (todo.Left left.Unclean) tt tt
answer_past got = tt

module _ (controls : Controls) (now : ℕ) where
  abbrev After : PassRow → Pass → GotData → Type 0
  After row p got = PassCleared (moved_at controls row p now got).row (is_unlink (pass_table.due_at row p))

  moved_cleared : (row : PassRow) (p : Pass) (got : GotData) → MayCome (pass_table.due_at row p) got → After row p got
  moved_cleared (todo.Clear t) p got may = by_file (pass_table.due_at (todo.Clear t) p) tt (After (todo.Clear t) p) got may (λ told fit. clear_row_so t told.answer)
  moved_cleared todo.StatMess p got may = by_file (pass_table.due_at todo.StatMess p) tt (After todo.StatMess p) got may (λ told fit. past_cleared (pass_table.stated p told.answer).row false (stated_past p told.answer))
  moved_cleared todo.OpenTodo p got may = by_file (pass_table.due_at todo.OpenTodo p) tt (After todo.OpenTodo p) got may (λ told fit. past_cleared (pass_table.open_row told.answer) false (open_past told.answer))
  moved_cleared (todo.ReadTodo fd) p got may =
      by_file (pass_table.due_at (todo.ReadTodo fd) p) tt (After (todo.ReadTodo fd) p) got may (λ told fit. past_cleared (pass_table.read p fd told.answer told.bytes).row false (read_past p fd told.answer told.bytes))
  moved_cleared (todo.CloseTodo fd) p got may =
      by_file (pass_table.due_at (todo.CloseTodo fd) p) tt (After (todo.CloseTodo fd) p) got may
      (λ told fit. past_cleared (pass_table.sorted_with p (sort_todo controls p.todo)).row false (sorted_past p (sort_todo controls p.todo)))
  moved_cleared (todo.Create t) p got may = by_file (pass_table.due_at (todo.Create t) p) tt (After (todo.Create t) p) got may (λ told fit. past_cleared (pass_table.create_row t told.answer) false (create_past t told.answer))
  moved_cleared (todo.Append t fd done) p got may =
      by_file (pass_table.due_at (todo.Append t fd done) p) tt (After (todo.Append t fd done) p) got may (λ told fit. past_cleared (pass_table.appended p t fd done now told.answer).row false (appended_past p t fd done now told.answer))
  moved_cleared (todo.Sync t fd) p got may = by_file (pass_table.due_at (todo.Sync t fd) p) tt (After (todo.Sync t fd) p) got may (λ told fit. past_cleared (pass_table.sync_row t fd told.answer) false (sync_past t fd told.answer))
  moved_cleared (todo.Close t fd) p got may = by_file (pass_table.due_at (todo.Close t fd) p) tt (After (todo.Close t fd) p) got may (λ told fit. past_cleared (pass_table.made_row t p.sorted) false (made_past t p.sorted))
  moved_cleared (todo.Shut fd why) p got may = by_file (pass_table.due_at (todo.Shut fd why) p) tt (After (todo.Shut fd why) p) got may (λ told fit. tt)
  moved_cleared todo.Give p got may = past_cleared (pass_table.give_row got) false (give_past got)
  moved_cleared todo.Answer p got may = past_cleared (answer_row got) false (answer_past got)
  moved_cleared todo.Done p got may = absurd may
  moved_cleared (todo.Left why) p got may = absurd may
  moved_cleared todo.Lost p got may = absurd may

went_cleared : (row : PassRow) (got : GotData) (p : Pass) (now : ℕ) (b : Bool) (d : Desk) → PassCleared p.row b → Clears b (todo_went row got p now d)
went_cleared todo.Answer got p now b d h = over_cleared (answer_row got) p now b d h
went_cleared row got p now b d h = on_cleared p.row p now b d h

-- each row

row_cleared : (row : Row) (now : ℕ) (got : GotData) (d : Desk) → MayCome (due_at row d) got → Clears (is_unlink (due_at row d)) (act row now got d)
row_cleared (at.Start row) now got d may = start_cleared (started row (said got) d).book.row d.pass (is_unlink (due_at (at.Start row) d))
row_cleared (at.Turn p) now got d may = absurd may
row_cleared (at.TakeLink c) now got d may = clears_near (is_unlink (due_at (at.TakeLink c) d)) (act (at.TakeLink c) now got d) (near_took (said got).way (said got).bytes c d)
row_cleared (at.Mark row m) now got d may = subst (λ (b : Bool). Clears b (act (at.Mark row m) now got d)) (sym (not_mark row m d)) (let e : Desk = act (at.Mark row m) now got d in outside_cleared e.row e.pass (outside_mark row m got d))
row_cleared (at.UnlinkFile c n p) now got d may = clears_near true (act (at.UnlinkFile c n p) now got d) (near_unlinked (said got).way c n p now d)
row_cleared (at.ReadFile c n begun reading) now got d may = subst (λ (b : Bool). Clears b (act (at.ReadFile c n begun reading) now got d)) (sym (not_reading reading c n begun d))
    (let e : Desk = act (at.ReadFile c n begun reading) now got d in outside_cleared e.row e.pass (outside_read (read_on reading (said got)) c n (begun_at reading begun now) reading now (said got) d))
row_cleared (at.Request c) now got d may = clears_near (is_unlink (due_at (at.Request c) d)) (act (at.Request c) now got d) (near_requested (said got).way c d)
row_cleared (at.FindTodo s) now got d may = clears_named (said got).way (said got).bytes s now (is_unlink (due_at (at.FindTodo s) d)) d
row_cleared at.InTodo now got d may =
    went_cleared d.pass.row got (moved_at d.book.controls d.pass.row d.pass now got) now (is_unlink (pass_table.due_at d.pass.row d.pass)) d (moved_cleared d.book.controls now d.pass.row d.pass got may)
row_cleared (at.Finish row n) now got d may = clears_near (is_unlink (due_at (at.Finish row n) d)) (act (at.Finish row n) now got d) (near_finish row n now got d)
row_cleared (at.Sweep row) now got d may =
    clears_near (is_unlink (due_at (at.Sweep row) d)) (act (at.Sweep row) now got d) (near_swept (sweep_to row now (said got) d.book) (looked_up row (said got) (sweep_begun row now d)))
row_cleared (at.Ended status) now got d may = absurd may

cleared_kept : (turns : Option ℕ) (past : List Own) → IsRunBy (Next turns) past → ClearedAt (place_after turns past).row (place_after turns past).pass (has_unlinked past)
cleared_kept turns [] run = tt
cleared_kept turns (event ∷ before) run =
    let d : Desk = place_after turns before in
    let row : Row = row_now d event.read event.ready in
    let may : MayCome (due_at row d) event.came = subst (λ (x : NeedData). MayCome x event.came) (sym run.1.0) run.1.1 in
    let e : Desk = place_after turns (event ∷ before) in
    subst (λ (due : NeedData). ClearedAt e.row e.pass (is_unlink due)) run.1.0 (row_cleared row event.read event.came d may)

-- so it is where the next event begins
pub cleared_here : (turns : Option ℕ) (past : List Own) (now : ℕ) (ready : Ready) → IsRunBy (Next turns) past → ClearedAt (row_now (place_after turns past) now ready) (place_after turns past).pass (has_unlinked past)
cleared_here turns past now ready run = let d : Desk = place_after turns past in arrives_cleared d.row d (has_unlinked past) now ready (cleared_kept turns past run)
