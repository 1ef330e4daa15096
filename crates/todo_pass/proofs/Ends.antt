-- How a pass ends.
use Rattle.std.proofs.Common.{◌≡◌, ℕ, ◌+◌, List, [], ◌∷◌, length, Bool, true, false, refl, sym, ap, subst}
use Rattle.std.specs.Prelude.{if◌then◌else◌, nat_lt, bytes_eq, Result, Ok, Err}
use Rattle.address_rules.specs.declared.controls.Controls.{Controls}
use Rattle.call_fs.specs.declared.calls.Answer.{Answer}
use Rattle.call_fs.specs.declared.calls.Answer.TheVariants as answer
use Rattle.call_fs.specs.declared.calls.Fd.{Fd}
use Rattle.call_fs.specs.declared.calls.FsError.TheVariants as why
use Rattle.call_fs.specs.declared.past.GotData.{GotData}
use Rattle.call_fs.specs.declared.past.GotData.TheVariants as came
use Rattle.call_fs.specs.declared.past.Own.{Own}
use Rattle.call_fs.specs.Disk.{Disk}
use Rattle.call_fs.specs.Program.{MayCome}
use Rattle.call_fs.proofs.Maps.{bytes_eq-decides}
use Rattle.todo_pass.specs.declared.part.Target.{Target}
use Rattle.todo_pass.specs.declared.part.Target.TheVariants as target
use Rattle.todo_pass.specs.declared.row.Row.{Row}
use Rattle.todo_pass.specs.declared.row.Row.TheVariants as at
use Rattle.todo_pass.specs.declared.row.Why.TheVariants as left
use Rattle.todo_pass.specs.declared.sorted.Sorted.{Sorted}
use Rattle.todo_pass.specs.Parts.{part_of, path_in}
use Rattle.todo_pass.specs.Sorting.{sort_todo, text_of, has}
use Rattle.todo_pass.specs.Table.{Pass, cleared, clear_row, stated, open_row, read, sorted_with, create_row, appended, sync_row, made_row, local_row, remote_row, give_row, answer_row, moved_at, due_at, place_after}
use Rattle.todo_pass.specs.Disks.{LeadsTo, IsMade, IsComplete, HoldsWhatWasRead}
use Rattle.todo_pass.specs.Laws.{IsMadeRow, FilesAreMade}
use Rattle.todo_pass.specs.Run.{IsRun}
use Rattle.todo_pass.proofs.Stages.{Is, channel_status, made_status, HasMess, Says, Rests}
use Rattle.todo_pass.proofs.Made.{rests, numbered}
use Rattle.todo_pass.proofs.Todos.{sorted_says}

-- From the command on the files are complete.

channel_made : (d : Disk) (n : ℕ) (t : Target) (text : List ℕ) → Is (channel_status (has text)) n t text d → IsMade d (path_in (part_of t) n) text
channel_made d n t [] h = h
channel_made d n t (b ∷ text) h = h

complete_by : (p : Pass) (d : Disk) → ((u : Target) → Is (made_status p.sorted u) p.n u (text_of p.sorted u) d) → HasMess p d → IsComplete p.n p d
complete_by p d files mess = record {
  info = files target.Info;
  local = channel_made d p.n target.Local p.sorted.local (files target.Local);
  remote = channel_made d p.n target.Remote p.sorted.remote (files target.Remote);
  mess = mess;
}

-- what a made row rests on
record MadeAt (controls : Controls) (row : Row) (p : Pass) (d : Disk) : Type 0 where
  pub complete : IsComplete p.n p d
  pub says : Says controls p
  pub todo : row ≡ at.Give → HoldsWhatWasRead p.n p d

made_at : (controls : Controls) (row : Row) (p : Pass) (d : Disk) → IsMadeRow row → Rests controls row p d → MadeAt controls row p d
made_at controls at.Give p d made r = record { complete = complete_by p d r.files r.mess; says = r.says; todo = λ e. r.todo }
made_at controls at.Answer p d made r = record { complete = complete_by p d r.files r.mess; says = r.says; todo = λ e. absurd (cc) }
made_at controls at.Done p d made r = record { complete = complete_by p d r.files r.mess; says = r.says; todo = λ e. absurd (cc) }
made_at controls row p d made r = absurd made

pub files_are_made : (controls : Controls) (n : ℕ) (past : List Own) (first last : Disk) → IsRun controls n past → LeadsTo controls n first past last
    → IsMadeRow (place_after controls n past).row → FilesAreMade controls n past last
files_are_made controls n past first last run leads made =
    let p : Pass = place_after controls n past in
    let m = made_at controls p.row p last made (rests controls n past first last run leads) in
    let is = numbered controls n past in
    record {
      complete = subst (λ k. IsComplete k p last) is m.complete;
      sorted = sorted_says controls p.todo p.sorted m.says;
      todo = λ e. subst (λ k. HoldsWhatWasRead k p last) is (m.todo e);
    }

-- Only `+` ends a pass well.

cleared_never : (t : Target) → cleared t ≡ at.Done → ⊥
cleared_never target.Info e = cc
cleared_never target.Local e = cc
cleared_never target.Remote e = cc

clear_never : (t : Target) (told : Answer) → clear_row t told ≡ at.Done → ⊥
clear_never t answer.Done e = cleared_never t e
clear_never t (answer.Refused why.NotThere) e = cleared_never t e
clear_never t told e = cc

stated_never : (p : Pass) (told : Answer) → (stated p told).row ≡ at.Done → ⊥
stated_never p (answer.Stat stat) e = cc
stated_never p (answer.Refused why.NotThere) e = cc
stated_never p told e = cc

open_never : (told : Answer) → open_row told ≡ at.Done → ⊥
open_never (answer.Opened fd) e = cc
open_never told e = cc

either : (b : Bool) (x y : Row) → (x ≡ at.Done → ⊥) → (y ≡ at.Done → ⊥) → (if b then x else y) ≡ at.Done → ⊥
either true x y f g e = f e
either false x y f g e = g e

read_never : (p : Pass) (fd : Fd) (told : Answer) (bytes : List ℕ) → (read p fd told bytes).row ≡ at.Done → ⊥
read_never p fd (answer.Count count) bytes e = either (nat_lt (length bytes) 8192) (at.CloseTodo fd) (at.ReadTodo fd) (λ x. cc) (λ x. cc) e
read_never p fd told bytes e = cc

sorted_never : (p : Pass) (o : Result Sorted ℕ) → (sorted_with p o).row ≡ at.Done → ⊥
sorted_never p (Ok s) e = cc
sorted_never p (Err place) e = cc

create_never : (t : Target) (told : Answer) → create_row t told ≡ at.Done → ⊥
create_never t (answer.Created fd number) e = cc
create_never t told e = cc

appended_never : (p : Pass) (t : Target) (fd : Fd) (done now : ℕ) (told : Answer) → (appended p t fd done now told).row ≡ at.Done → ⊥
appended_never p t fd done now answer.Done e =
    either (nat_lt (done + 8192) (length (text_of p.sorted t))) (at.Append t fd (done + 8192)) (at.Sync t fd) (λ x. cc) (λ x. cc) e
appended_never p t fd done now told e = cc

sync_never : (t : Target) (fd : Fd) (told : Answer) → sync_row t fd told ≡ at.Done → ⊥
sync_never t fd answer.Done e = cc
sync_never t fd told e = cc

remote_never : (b : Bool) → remote_row b ≡ at.Done → ⊥
remote_never true e = cc
remote_never false e = cc

local_never : (b c : Bool) → local_row b c ≡ at.Done → ⊥
local_never true c e = cc
local_never false c e = remote_never c e

made_never : (t : Target) (s : Sorted) → made_row t s ≡ at.Done → ⊥
made_never target.Info s e = local_never (has s.local) (has s.remote) e
made_never target.Local s e = remote_never (has s.remote) e
made_never target.Remote s e = cc

give_never : (got : GotData) → give_row got ≡ at.Done → ⊥
give_never came.Gave e = cc
give_never got e = cc

plus_by : (b : Bool) (bytes : List ℕ) → bytes_eq bytes (43 ∷ []) ≡ b → (if b then at.Done else at.Left left.Unclean) ≡ at.Done → bytes ≡ 43 ∷ []
plus_by true bytes eq e = (bytes_eq-decides bytes (43 ∷ [])).0 eq
plus_by false bytes eq e = absurd (cc)

plus_row : (got : GotData) → answer_row got ≡ at.Done → got ≡ came.Took (43 ∷ [])
plus_row (came.Took bytes) e = ap (λ b. came.Took b) (plus_by (bytes_eq bytes (43 ∷ [])) bytes refl e)
plus_row got e = absurd (cc)

plus : (controls : Controls) (row : Row) (p : Pass) (now : ℕ) (got : GotData) → MayCome (due_at row p) got → (moved_at controls row p now got).row ≡ at.Done
    → row ≡ at.Answer × (got ≡ came.Took (43 ∷ []))
plus controls at.Give p now got may e = absurd (give_never got e)
plus controls at.Answer p now got may e = (refl, plus_row got e)
plus controls at.Done p now got may e = absurd may
plus controls (at.Left why) p now got may e = absurd may
plus controls at.Lost p now got may e = absurd may
plus controls (at.Clear t) p now (came.Answered told) may e = absurd (clear_never t told.answer e)
plus controls at.StatMess p now (came.Answered told) may e = absurd (stated_never p told.answer e)
plus controls at.OpenTodo p now (came.Answered told) may e = absurd (open_never told.answer e)
plus controls (at.ReadTodo fd) p now (came.Answered told) may e = absurd (read_never p fd told.answer told.bytes e)
plus controls (at.CloseTodo fd) p now (came.Answered told) may e = absurd (sorted_never p (sort_todo controls p.todo) e)
plus controls (at.Create t) p now (came.Answered told) may e = absurd (create_never t told.answer e)
plus controls (at.Append t fd done) p now (came.Answered told) may e = absurd (appended_never p t fd done now told.answer e)
plus controls (at.Sync t fd) p now (came.Answered told) may e = absurd (sync_never t fd told.answer e)
plus controls (at.Close t fd) p now (came.Answered told) may e = absurd (made_never t p.sorted e)
plus controls (at.Shut fd why) p now (came.Answered told) may e = absurd (cc)
plus controls row p now got may e = absurd may

pub done_with : (controls : Controls) (n : ℕ) (event : Own) (before : List Own) → IsRun controls n (event ∷ before) → (place_after controls n (event ∷ before)).row ≡ at.Done
    → (place_after controls n before).row ≡ at.Answer × (event.came ≡ came.Took (43 ∷ []))
done_with controls n event before run e =
    let p : Pass = place_after controls n before in
    plus controls p.row p event.read event.came (subst (λ x. MayCome x event.came) (sym run.1.0) run.1.1) e
