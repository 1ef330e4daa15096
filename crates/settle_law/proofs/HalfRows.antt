-- At which rows a call is due that makes a number half-way.
use Rattle.std.proofs.Common.{◌≡◌, ⊎_elim, ℕ, ◌==◌, List, [], ◌∷◌, Bool, true, false, if◌then◌else◌, Option, Some, refl, sym, ap, ◌∙◌}
use Rattle.std.proofs.lemmas.Bool.{false≢true}
use Rattle.bounce_record.specs.Returning.{Returning, due_at as return_due_at}
use Rattle.bounce_record.specs.Writing.{Writing, due_at as note_due_at}
use Rattle.bounce_record.specs.declared.note_row.NoteRow.{NoteRow}
use Rattle.bounce_record.specs.declared.note_row.NoteRow.TheVariants as written
use Rattle.bounce_record.specs.declared.return_row.ReturnRow.{ReturnRow}
use Rattle.bounce_record.specs.declared.return_row.ReturnRow.TheVariants as back
use Rattle.call_fs.specs.declared.past.ChildData.{ChildData}
use Rattle.call_fs.specs.declared.past.NeedData.{NeedData}
use Rattle.call_fs.specs.declared.past.NeedData.TheVariants as needs
use Rattle.call_fs.specs.declared.calls.CallData.TheVariants as call
use Rattle.call_fs.specs.declared.program.Ready.{Ready}
use Rattle.local_spawn.specs.declared.place.Place.{Place as LocalPlace}
use Rattle.local_spawn.specs.declared.row.Row.{Row as LocalRow}
use Rattle.local_spawn.specs.declared.row.Row.TheVariants as local
use Rattle.local_spawn.specs.Table.{due_at as local_due_at, program_of}
use Rattle.queue_clean.specs.declared.command.Command.TheVariants.{Foop, Todo as TodoCommand}
use Rattle.queue_clean.specs.declared.row.Row.{Row as CleanRow}
use Rattle.queue_clean.specs.declared.row.Row.TheVariants as clean
use Rattle.queue_clean.specs.Table.{due_at as clean_due_at, is_old, pid_path, search_after}
use Rattle.queue_inject.specs.declared.injection.Arguments.{Arguments}
use Rattle.queue_inject.specs.declared.row.Row.{Row as InjectRow}
use Rattle.queue_inject.specs.declared.row.Row.TheVariants as inject
use Rattle.queue_inject.specs.Table.{due_by as inject_due, in_time}
use Rattle.queue_paths.proofs.Paths.{parse-path, path-parse}
use Rattle.queue_paths.proofs.Parts.{is_todo_name, todo_apart}
use Rattle.queue_paths.specs.Names.{Name, Part, parse, path}
use Rattle.queue_paths.specs.Names.Name.{Of, Pid}
use Rattle.queue_paths.specs.Names.Part.{Bounce, Info, Intd, Local, Mess, Remote, Todo, SplitTodo}
use Rattle.queue_paths.specs.Parts.{is_todo}
use Rattle.send_core.specs.declared.desk.Desk.{Desk}
use Rattle.send_parts.specs.declared.row.MarkRow.{MarkRow}
use Rattle.send_parts.specs.declared.row.MarkRow.TheVariants as mark
use Rattle.send_parts.specs.declared.row.Marked.{Marked}
use Rattle.send_parts.specs.declared.row.Row.{Row}
use Rattle.send_parts.specs.declared.row.Row.TheVariants as at
use Rattle.send_core.specs.Table.{due_at}
use Rattle.send_known.specs.declared.channel.Channel.TheVariants as channel
use Rattle.send_parts.specs.declared.reading.Reading.TheVariants.{Closing, Going, Opening, Shutting}
use Rattle.send_parts.specs.declared.rows.FinishRow.{FinishRow}
use Rattle.send_parts.specs.declared.rows.FinishRow.TheVariants as finish
use Rattle.send_parts.specs.declared.rows.StartRow.{StartRow}
use Rattle.send_parts.specs.declared.rows.StartRow.TheVariants as start
use Rattle.send_parts.specs.declared.rows.SweepRow.{SweepRow}
use Rattle.send_parts.specs.declared.rows.SweepRow.TheVariants as sweep
use Rattle.spawner_parts.specs.declared.place.Place.{Place as SpawnPlace}
use Rattle.spawner_parts.specs.declared.row.Row.{Row as SpawnRow}
use Rattle.spawner_parts.specs.declared.row.Row.TheVariants as spawn
use Rattle.spawner_parts.specs.Table.{due_at as spawn_due_at, row_now as spawn_row}
use Rattle.todo_pass.specs.Table as pass_table
use Rattle.todo_pass.specs.Table.{Pass}
use Rattle.todo_pass.specs.declared.part.Target.TheVariants as target
use Rattle.todo_pass.specs.declared.row.Row.{Row as PassRow}
use Rattle.todo_pass.specs.declared.row.Row.TheVariants as todo
use Rattle.settle_law.proofs.HalfDisks.{TakesTodo, Undoes}

pub apart : {A : Type 0} (x y : Name) → (x ≡ y → A) → parse (path x) ≡ Some y → A
apart x y f e = f (same x y (sym (parse-path x) ∙ e))
  where
    same : (x y : Name) → ◌≡◌ {A = Option Name} (Some x) (Some y) → x ≡ y
    same x y e = cc

-- An injector links its message

abbrev pub IsLinking : InjectRow → ℕ → Type 0
IsLinking (inject.LinkMess seq m fd) n = m ≡ n
IsLinking row n = ⊥

timed : (n : ℕ) (input late : Bool) (due : NeedData) → Undoes n (in_time input late due) → Undoes n due
timed n input late (needs.Ended status) h = h
timed n true true (needs.File own) h = absurd h
timed n true false (needs.File own) h = h
timed n false late (needs.File own) h = absurd h
timed n input late due h = h

unlinks : {A : Type 0} (x : Name) (n : ℕ) → ((part : Part) → is_todo part ≡ true → x ≡ Of part n → A) → (x ≡ Of Info n → A) → Undoes n (needs.File (call.Unlink (path x))) → A
unlinks x n f g h = ⊎_elim (λ (w : TakesTodo (call.Unlink (path x)) n). apart x (Of w.0 n) (f w.0 w.1) w.2) (apart x (Of Info n) g) h

-- and no name in todo
takes_other : {A : Type 0} (x : Name) (n : ℕ) → is_todo_name x ≡ false → (x ≡ Of Info n → A) → Undoes n (needs.File (call.Unlink (path x))) → A
takes_other x n far g h = unlinks x n (λ part is e. absurd (todo_apart part n x is far (sym e))) g h

row_links : (args : Arguments) (row : InjectRow) (n : ℕ) → Undoes n (inject_due args row) → IsLinking row n
row_links args (inject.Create seq) n h = apart (Pid args.pid args.start seq) (Of Mess n) (λ e. cc) h
row_links args (inject.LinkMess seq m fd) n h = apart (Of Mess m) (Of Mess n) (λ e. cc) h
row_links args (inject.UnlinkPid seq m fd) n h = takes_other (Pid args.pid args.start seq) n refl (λ e. cc) h
row_links args (inject.CreateIntd m) n h = apart (Of Intd m) (Of Mess n) (λ e. cc) h
row_links args (inject.LinkTodo m) n h = apart (Of Todo m) (Of Mess n) (λ e. cc) h
row_links args (inject.CleanIntd m status) n h = takes_other (Of Intd m) n refl (λ e. cc) h
row_links args (inject.CleanMess m status) n h = takes_other (Of Mess m) n refl (λ e. cc) h
row_links args row n h = h

pub injector_links : (args : Arguments) (row : InjectRow) (input late : Bool) (n : ℕ) → Undoes n (in_time input late (inject_due args row)) → IsLinking row n
injector_links args row input late n h = row_links args row n (timed n input late (inject_due args row) h)

-- A cleaner takes a todo file away

abbrev pub IsTakingTodo : CleanRow → ℕ → Type 0
IsTakingTodo (clean.UnlinkSecond (TodoCommand m)) n = m ≡ n
IsTakingTodo row n = ⊥

-- a name in `pid` is no todo file, nor info file
abbrev in_pid : List ℕ → Bool
in_pid [] = false
in_pid (b ∷ rest) = b == 112

pid_far : (name : List ℕ) (part : Part) (n : ℕ) → is_todo part ≡ true → pid_path name ≡ path (Of part n) → ⊥
unfolding path
pid_far name Todo n is e = false≢true (sym (ap in_pid e))
pid_far name SplitTodo n is e = false≢true (sym (ap in_pid e))
pid_far name part n is e = false≢true is

info_apart : (name : List ℕ) (n : ℕ) → pid_path name ≡ path (Of Info n) → ⊥
unfolding path
info_apart name n e = false≢true (sym (ap in_pid e))

not_pid : (name : List ℕ) (n : ℕ) → Undoes n (needs.File (call.Unlink (pid_path name))) → ⊥
not_pid name n h = ⊎_elim (λ (w : TakesTodo (call.Unlink (pid_path name)) n). pid_far name w.0 n w.1 (path-parse (pid_path name) (Of w.0 n) w.2)) (λ e. info_apart name n (path-parse (pid_path name) (Of Info n) e)) h

pub cleaner_takes : (row : CleanRow) (name : List ℕ) (now n : ℕ) → Undoes n (clean_due_at row name now) → IsTakingTodo row n
cleaner_takes (clean.JudgePid moment) name now n h = by (is_old moment now) h where
  by : (b : Bool) → Undoes n (if b then needs.File (call.Unlink (pid_path name)) else search_after name) → ⊥
  by true h = not_pid name n h
  by false h = h
cleaner_takes (clean.UnlinkIntd (Foop m)) name now n h = takes_other (Of Intd m) n refl (λ e. cc) h
cleaner_takes (clean.UnlinkIntd (TodoCommand m)) name now n h = takes_other (Of Intd m) n refl (λ e. cc) h
cleaner_takes (clean.UnlinkSecond (Foop m)) name now n h = takes_other (Of Mess m) n refl (λ e. cc) h
cleaner_takes (clean.UnlinkSecond (TodoCommand m)) name now n h = unlinks (Of Todo m) n (λ part is e. cc) (λ e. cc) h
cleaner_takes row name now n h = h

-- Spawners only read

pub spawner_undoes_none : (asked : ChildData) (row : SpawnRow) (p : SpawnPlace) (n : ℕ) → Undoes n (spawn_due_at asked row p) → ⊥
spawner_undoes_none asked spawn.Greet p n h = h
spawner_undoes_none asked row p n h = h

pub local_undoes_none : (row : LocalRow) (ready : Ready) (p : LocalPlace) (n : ℕ) → Undoes n (local_due_at row ready p) → ⊥
local_undoes_none local.Serves ready p n h = spawner_undoes_none (program_of p) (spawn_row p.work ready) p.work n h
local_undoes_none row ready p n h = h

-- A sender takes an info file away: at the finish of its message, or before it preprocesses one

abbrev pub IsClearing : PassRow → Type 0
IsClearing (todo.Clear target.Info) = Unit {0}
IsClearing row = ⊥

abbrev pub IsTakingInfo : Row → Pass → ℕ → Type 0
IsTakingInfo (at.Finish finish.UnlinkInfo m) p n = m ≡ n
IsTakingInfo at.InTodo p n = IsClearing p.row × (p.n ≡ n)
IsTakingInfo row p n = ⊥

start_undoes : (row : StartRow) (d : Desk) (n : ℕ) → Undoes n (due_at (at.Start row) d) → ⊥
start_undoes (start.Control file Opening) d n h = h
start_undoes (start.Control file (Going fd)) d n h = h
start_undoes (start.Control file (Closing fd)) d n h = h
start_undoes (start.Control file (Shutting fd)) d n h = h
start_undoes (start.ReadInfo split k Opening) d n h = h
start_undoes (start.ReadInfo split k (Going fd)) d n h = h
start_undoes (start.ReadInfo split k (Closing fd)) d n h = h
start_undoes (start.ReadInfo split k (Shutting fd)) d n h = h
start_undoes row d n h = h

note_undoes : (row : NoteRow) (w : Writing) (n : ℕ) → Undoes n (note_due_at row w) → ⊥
note_undoes written.Open w n h = h
note_undoes written.Create w n h = apart (Of Bounce w.n) (Of Mess n) (λ e. cc) h
note_undoes row w n h = h

mark_undoes : (row : MarkRow) (m : Marked) (d : Desk) (n : ℕ) → Undoes n (due_at (at.Mark row m) d) → ⊥
mark_undoes mark.Noting m d n h = note_undoes d.note.row d.note n h
mark_undoes row m d n h = h

pass_undoes : (row : PassRow) (p : Pass) (n : ℕ) → Undoes n (pass_table.due_at row p) → IsClearing row × (p.n ≡ n)
pass_undoes (todo.Clear target.Info) p n h = takes_other (Of Info p.n) n refl (λ e. (tt, cc)) h
pass_undoes (todo.Clear target.Local) p n h = takes_other (Of Local p.n) n refl (λ e. absurd (cc)) h
pass_undoes (todo.Clear target.Remote) p n h = takes_other (Of Remote p.n) n refl (λ e. absurd (cc)) h
pass_undoes (todo.Create target.Info) p n h = apart (Of Info p.n) (Of Mess n) (λ e. absurd (cc)) h
pass_undoes (todo.Create target.Local) p n h = apart (Of Local p.n) (Of Mess n) (λ e. absurd (cc)) h
pass_undoes (todo.Create target.Remote) p n h = apart (Of Remote p.n) (Of Mess n) (λ e. absurd (cc)) h
pass_undoes todo.StatMess p n h = absurd h
pass_undoes row p n h = absurd h

return_undoes : (row : ReturnRow) (r : Returning) (n : ℕ) → Undoes n (return_due_at row r) → ⊥
return_undoes back.Open r n h = h
return_undoes back.Unlink r n h = takes_other (Of Bounce r.n) n refl (λ e. cc) h
return_undoes back.Discard r n h = takes_other (Of Bounce r.n) n refl (λ e. cc) h
return_undoes row r n h = h

finish_undoes : (row : FinishRow) (k : ℕ) (d : Desk) (n : ℕ) → Undoes n (due_at (at.Finish row k) d) → IsTakingInfo (at.Finish row k) d.pass n
finish_undoes finish.Return k d n h = return_undoes d.bounce.row d.bounce n h
finish_undoes finish.UnlinkInfo k d n h = takes_other (Of Info k) n refl (λ e. cc) h
finish_undoes row k d n h = h

sweep_undoes : (row : SweepRow) (d : Desk) (n : ℕ) → Undoes n (due_at (at.Sweep row) d) → ⊥
sweep_undoes sweep.First d n h = h
sweep_undoes row d n h = h

pub sender_takes : (row : Row) (d : Desk) (n : ℕ) → Undoes n (due_at row d) → IsTakingInfo row d.pass n
sender_takes (at.Start row) d n h = start_undoes row d n h
sender_takes (at.Mark row m) d n h = mark_undoes row m d n h
sender_takes (at.UnlinkFile channel.Local k p) d n h = takes_other (Of Local k) n refl (λ e. cc) h
sender_takes (at.UnlinkFile channel.Remote k p) d n h = takes_other (Of Remote k) n refl (λ e. cc) h
sender_takes (at.ReadFile c k begun Opening) d n h = h
sender_takes (at.ReadFile c k begun (Going fd)) d n h = h
sender_takes (at.ReadFile c k begun (Closing fd)) d n h = h
sender_takes (at.ReadFile c k begun (Shutting fd)) d n h = h
sender_takes at.InTodo d n h = pass_undoes d.pass.row d.pass n h
sender_takes (at.Finish row k) d n h = finish_undoes row k d n h
sender_takes (at.Sweep row) d n h = sweep_undoes row d n h
sender_takes row d n h = h
