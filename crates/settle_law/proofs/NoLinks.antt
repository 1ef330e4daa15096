-- No program but a delivery links a name that an info file has.
use Rattle.std.proofs.Common.{◌≡◌, ℕ, List, Bool, true, false, if◌then◌else◌, Option, Some, None, sym, ◌∙◌}
use Rattle.bounce_record.specs.Returning.{Returning, due_at as return_due_at}
use Rattle.bounce_record.specs.Writing.{Writing, due_at as note_due_at}
use Rattle.bounce_record.specs.declared.note_row.NoteRow.{NoteRow}
use Rattle.bounce_record.specs.declared.note_row.NoteRow.TheVariants as written
use Rattle.bounce_record.specs.declared.return_row.ReturnRow.{ReturnRow}
use Rattle.bounce_record.specs.declared.return_row.ReturnRow.TheVariants as back
use Rattle.call_fs.specs.declared.calls.CallData.TheVariants as call
use Rattle.call_fs.specs.declared.past.ChildData.{ChildData}
use Rattle.call_fs.specs.declared.past.NeedData.{NeedData}
use Rattle.call_fs.specs.declared.past.NeedData.TheVariants as needs
use Rattle.call_fs.specs.declared.past.Own.{Own}
use Rattle.call_fs.specs.declared.program.Ready.{Ready}
use Rattle.local_spawn.specs.declared.place.Place.{Place as LocalPlace}
use Rattle.local_spawn.specs.declared.row.Row.{Row as LocalRow}
use Rattle.local_spawn.specs.declared.row.Row.TheVariants as local
use Rattle.local_spawn.specs.Table.{due_at as local_due_at, place_after as local_after, program_of}
use Rattle.queue_clean.specs.declared.row.Row.{Row as CleanRow}
use Rattle.queue_clean.specs.declared.row.Row.TheVariants as clean
use Rattle.queue_clean.specs.Table.{due_at as clean_due_at, is_old, pid_path, place_after as clean_after, search_after}
use Rattle.queue_inject.specs.declared.injection.Arguments.{Arguments}
use Rattle.queue_inject.specs.declared.row.Row.{Row as InjectRow}
use Rattle.queue_inject.specs.declared.row.Row.TheVariants as inject
use Rattle.queue_inject.specs.Table.{due_by as inject_due, has_input, in_time, is_late, place_after as inject_after}
use Rattle.queue_paths.proofs.Paths.{parse-path}
use Rattle.queue_paths.specs.Names.{Name, parse, path}
use Rattle.queue_paths.specs.Names.Name.{Of}
use Rattle.queue_paths.specs.Names.Part.{Info, Mess, Todo}
use Rattle.remote_spawn.specs.Table.{place_after as remote_after, program_of as remote_program}
use Rattle.send_core.specs.declared.desk.Desk.{Desk}
use Rattle.send_parts.specs.declared.row.MarkRow.{MarkRow}
use Rattle.send_parts.specs.declared.row.MarkRow.TheVariants as mark
use Rattle.send_parts.specs.declared.row.Marked.{Marked}
use Rattle.send_parts.specs.declared.row.Row.{Row}
use Rattle.send_parts.specs.declared.row.Row.TheVariants as at
use Rattle.send_core.specs.Table.{due_at, place_after as sender_after, row_now}
use Rattle.send_parts.specs.declared.reading.Reading.TheVariants.{Closing, Going, Opening, Shutting}
use Rattle.send_parts.specs.declared.rows.FinishRow.{FinishRow}
use Rattle.send_parts.specs.declared.rows.FinishRow.TheVariants as finish
use Rattle.send_parts.specs.declared.rows.StartRow.{StartRow}
use Rattle.send_parts.specs.declared.rows.StartRow.TheVariants as start
use Rattle.send_parts.specs.declared.rows.SweepRow.{SweepRow}
use Rattle.send_parts.specs.declared.rows.SweepRow.TheVariants as sweep
use Rattle.spawner_parts.specs.declared.place.Place.{Place as SpawnPlace}
use Rattle.spawner_parts.specs.declared.row.Row.{Row as SpawnRow}
use Rattle.spawner_parts.specs.declared.row.Row.TheVariants as spawn
use Rattle.spawner_parts.specs.Table.{due_at as spawn_due_at, row_now as spawn_row}
use Rattle.todo_pass.specs.Table as pass_table
use Rattle.todo_pass.specs.Table.{Pass}
use Rattle.todo_pass.specs.declared.row.Row.{Row as PassRow}
use Rattle.todo_pass.specs.declared.row.Row.TheVariants as todo
use Rattle.world_events.specs.declared.event.Program.{Program}
use Rattle.world_events.specs.declared.event.Program.TheVariants.{Injector, Cleaner, Sender, LocalSpawner, RemoteSpawner, Delivery}
use Rattle.mail_world.specs.History.{next_of}

-- such a link is due
abbrev pub IsLinkTo : ℕ → NeedData → Type 0
IsLinkTo n (needs.File (call.Link old new)) = parse new ≡ Some (Of Info n)
IsLinkTo n due = ⊥

-- An injector links its message and its todo file

timed : (n : ℕ) (input late : Bool) (due : NeedData) → IsLinkTo n (in_time input late due) → IsLinkTo n due
timed n input late (needs.Ended status) h = h
timed n true true (needs.File own) h = absurd h
timed n true false (needs.File own) h = h
timed n false late (needs.File own) h = absurd h
timed n input late due h = h

other_name : {A : Type 0} (x : Name) (n : ℕ) → (◌≡◌ {A = Option Name} (Some x) (Some (Of Info n)) → A) → parse (path x) ≡ Some (Of Info n) → A
other_name x n f e = f (sym (parse-path x) ∙ e)

inject_none : (args : Arguments) (row : InjectRow) (n : ℕ) → IsLinkTo n (inject_due args row) → ⊥
inject_none args (inject.LinkMess seq m fd) n h = other_name (Of Mess m) n (λ e. cc) h
inject_none args (inject.LinkTodo m) n h = other_name (Of Todo m) n (λ e. cc) h
inject_none args row n h = h

-- Others link nothing

clean_none : (row : CleanRow) (name : List ℕ) (now n : ℕ) → IsLinkTo n (clean_due_at row name now) → ⊥
clean_none (clean.JudgePid moment) name now n h = by (is_old moment now) h where
  by : (b : Bool) → IsLinkTo n (if b then needs.File (call.Unlink (pid_path name)) else search_after name) → ⊥
  by true h = h
  by false h = h
clean_none row name now n h = h

spawn_none : (asked : ChildData) (row : SpawnRow) (p : SpawnPlace) (n : ℕ) → IsLinkTo n (spawn_due_at asked row p) → ⊥
spawn_none asked spawn.Greet p n h = h
spawn_none asked row p n h = h

local_none : (row : LocalRow) (ready : Ready) (p : LocalPlace) (n : ℕ) → IsLinkTo n (local_due_at row ready p) → ⊥
local_none local.Serves ready p n h = spawn_none (program_of p) (spawn_row p.work ready) p.work n h
local_none row ready p n h = h

-- the sender

start_none : (row : StartRow) (d : Desk) (n : ℕ) → IsLinkTo n (due_at (at.Start row) d) → ⊥
start_none (start.Control file Opening) d n h = h
start_none (start.Control file (Going fd)) d n h = h
start_none (start.Control file (Closing fd)) d n h = h
start_none (start.Control file (Shutting fd)) d n h = h
start_none (start.ReadInfo split k Opening) d n h = h
start_none (start.ReadInfo split k (Going fd)) d n h = h
start_none (start.ReadInfo split k (Closing fd)) d n h = h
start_none (start.ReadInfo split k (Shutting fd)) d n h = h
start_none row d n h = h

note_none : (row : NoteRow) (w : Writing) (n : ℕ) → IsLinkTo n (note_due_at row w) → ⊥
note_none written.Open w n h = h
note_none row w n h = h

mark_none : (row : MarkRow) (m : Marked) (d : Desk) (n : ℕ) → IsLinkTo n (due_at (at.Mark row m) d) → ⊥
mark_none mark.Noting m d n h = note_none d.note.row d.note n h
mark_none row m d n h = h

pass_none : (row : PassRow) (p : Pass) (n : ℕ) → IsLinkTo n (pass_table.due_at row p) → ⊥
pass_none todo.StatMess p n h = h
pass_none row p n h = h

return_none : (row : ReturnRow) (r : Returning) (n : ℕ) → IsLinkTo n (return_due_at row r) → ⊥
return_none back.Open r n h = h
return_none row r n h = h

finish_none : (row : FinishRow) (k : ℕ) (d : Desk) (n : ℕ) → IsLinkTo n (due_at (at.Finish row k) d) → ⊥
finish_none finish.Return k d n h = return_none d.bounce.row d.bounce n h
finish_none row k d n h = h

sweep_none : (row : SweepRow) (d : Desk) (n : ℕ) → IsLinkTo n (due_at (at.Sweep row) d) → ⊥
sweep_none sweep.First d n h = h
sweep_none row d n h = h

sender_none : (row : Row) (d : Desk) (n : ℕ) → IsLinkTo n (due_at row d) → ⊥
sender_none (at.Start row) d n h = start_none row d n h
sender_none (at.Mark row m) d n h = mark_none row m d n h
sender_none (at.ReadFile c k begun Opening) d n h = h
sender_none (at.ReadFile c k begun (Going fd)) d n h = h
sender_none (at.ReadFile c k begun (Closing fd)) d n h = h
sender_none (at.ReadFile c k begun (Shutting fd)) d n h = h
sender_none at.InTodo d n h = pass_none d.pass.row d.pass n h
sender_none (at.Finish row k) d n h = finish_none row k d n h
sender_none (at.Sweep row) d n h = sweep_none row d n h
sender_none row d n h = h

-- So it is of each but a delivery

abbrev pub IsDelivery : Program → Type 0
IsDelivery (Delivery began words) = Unit {0}
IsDelivery program = ⊥

pub none_links : (program : Program) (past : List Own) (now : ℕ) (ready : Ready) (n : ℕ) → (IsDelivery program → ⊥) → IsLinkTo n (next_of program past now ready) → ⊥
none_links (Injector args) past now ready n other h =
    inject_none args (inject_after args past) n (timed n (has_input ready) (is_late args now) (inject_due args (inject_after args past)) h)
none_links (Cleaner began) past now ready n other h = let p = clean_after past in clean_none p.row p.name now n h
none_links (Sender began) past now ready n other h = let d = sender_after None past in sender_none (row_now d now ready) d n h
none_links (LocalSpawner began) past now ready n other h = let p = local_after past in local_none p.row ready p n h
none_links (RemoteSpawner began) past now ready n other h = let p = remote_after past in spawn_none (remote_program p.request) (spawn_row p ready) p n h
none_links (Delivery began words) past now ready n other h = other tt
