-- What leaves a todo pass where nothing fails.
use Rattle.std.proofs.Common.{◌≡◌, ⊎_elim, ℕ, ◌+◌, ◌<◌, ◌^◌, List, [], ◌∷◌, ◌++◌, length, nat_lt, Bool, true, false, if◌then◌else◌, Option, Some, None, IsSome, refl, sym, ap, ◌∙◌, subst, codes}
use Rattle.std.specs.Prelude.{Contains, Result, Ok, Err}
use Rattle.std.proofs.lemmas.Bool.{false≢true}
use Rattle.address_rules.specs.declared.controls.Controls.{Controls}
use Rattle.call_fs.specs.Apply.{Fits}
use Rattle.call_fs.specs.Disk.{Disk, HasDir}
use Rattle.call_fs.specs.Past.{IsRunBy}
use Rattle.call_fs.specs.Program.{MayCome}
use Rattle.call_fs.specs.declared.calls.Answer.{Answer}
use Rattle.call_fs.specs.declared.calls.Answer.TheVariants as answer
use Rattle.call_fs.specs.declared.calls.CallData.TheVariants as call
use Rattle.call_fs.specs.declared.calls.Fd.{Fd}
use Rattle.call_fs.specs.declared.calls.FsError.TheVariants as why
use Rattle.call_fs.specs.declared.calls.How.TheVariants as how
use Rattle.call_fs.specs.declared.past.ChildData.{ChildData}
use Rattle.call_fs.specs.declared.past.GotData.{GotData}
use Rattle.call_fs.specs.declared.past.GotData.TheVariants as came
use Rattle.call_fs.specs.declared.past.NeedData.{NeedData}
use Rattle.call_fs.specs.declared.past.NeedData.TheVariants as needs
use Rattle.call_fs.specs.declared.past.Own.{Own}
use Rattle.call_fs.specs.declared.program.Port.TheVariants as port
use Rattle.queue_clean.specs.declared.command.Command.TheVariants as command
use Rattle.queue_inject.specs.Texts.{intd_text}
use Rattle.queue_law.proofs.Looks.{found}
use Rattle.queue_law.proofs.Waits.{todo_here}
use Rattle.queue_law.specs.Books.{Injection, IsValid}
use Rattle.queue_law.specs.Numbers.{Entry, IsQueued, Queue, about, look}
use Rattle.queue_paths.specs.Dirs.{queue_dirs}
use Rattle.queue_paths.specs.Names.{Part, path}
use Rattle.queue_paths.specs.Names.Name.{Of}
use Rattle.queue_paths.specs.Names.Part.{Mess, Todo}
use Rattle.queue_paths.specs.Parts.{in_todo}
use Rattle.send_core.specs.declared.desk.Desk.{Desk}
use Rattle.send_parts.specs.declared.row.Row.{Row}
use Rattle.send_parts.specs.declared.row.Row.TheVariants as at
use Rattle.send_core.specs.Table.{Next, due_at, place_after, row_now}
use Rattle.todo_pass.proofs.Made.{rests as pass_rests}
use Rattle.todo_pass.proofs.Stages.{Rests, its_own}
use Rattle.todo_pass.proofs.Stages.Status.{Gone}
use Rattle.todo_pass.specs.declared.part.Part.TheVariants as part
use Rattle.todo_pass.specs.declared.part.Target.{Target}
use Rattle.todo_pass.specs.declared.part.Target.TheVariants as target
use Rattle.todo_pass.specs.declared.row.Row.{Row as PassRow}
use Rattle.todo_pass.specs.declared.row.Row.TheVariants as todo
use Rattle.todo_pass.specs.declared.sorted.Sorted.{Sorted}
use Rattle.todo_pass.specs.Disks.{HoldsTodo, HoldsWhatWasRead}
use Rattle.todo_pass.specs.Parts.{part_of, path_in}
use Rattle.todo_pass.specs.Sorting.{has, sort_todo, text_of}
use Rattle.todo_pass.specs.Table.{Pass, answer_row, appended, clear_row, cleared, create_row, give_row, made_row, moved, moved_at, open_row, read, sorted_with, stated, sync_row}
use Rattle.todo_pass.specs.Table as pass_table
use Rattle.retry_law.specs.Left.{NoneLeft, is_left, leaves}
use Rattle.program_law.proofs.Sender.Awaits.{arrives}
use Rattle.program_law.specs.Errand.Errands.Awaits.{Answer as Awaited}
use Rattle.program_law.specs.Sender.InTodo.{PassGoesOn, TodoStands}
use Rattle.program_law.specs.Sender.Waits.{awaits_at, awaits_in as awaits_in_pass}
use Rattle.world_pipes.specs.Pipework.{Pipe, Yields}
use Rattle.world_events.specs.declared.event.Program.{Program}
use Rattle.world_events.specs.declared.event.Program.TheVariants.{Sender}
use Rattle.mail_world.proofs.Coming.{may_come}
use Rattle.mail_world.proofs.Histories.{legal_opens}
use Rattle.mail_world.specs.History.Event.{Act}
use Rattle.mail_world.specs.History.Life.{Alive}
use Rattle.mail_world.specs.History.{ComesOf, Event, Life, MayBear, MayDo, State, after, next_of}
use Rattle.mail_world.specs.Untouched.{queue}
use Rattle.world_law.proofs.Ran.{born_comes}
use Rattle.world_law.specs.Crew.{IsNamed, awaits_by, awaits_in, link_in}
use Rattle.world_law.specs.Inv.{Inv}
use Rattle.settle_law.proofs.Dirs.{same_dirs}
use Rattle.settle_law.proofs.PartDirs.{has_dir}
use Rattle.settle_law.proofs.PassRows.{GoesAt, IsUnshut, arrives_here, goes_here}
use Rattle.settle_law.proofs.Pasts.{sender_pasts}
use Rattle.settle_law.proofs.ServedPasts.{at_row, by_answer, comes_at}
use Rattle.settle_law.proofs.CleanAnswers.{IsPlus}
use Rattle.settle_law.proofs.SmallNumbers.{numbers_are_small}
use Rattle.settle_law.proofs.Texts.{todo_texts_are_read}
use Rattle.settle_law.proofs.TodoAnswers.{todo_answers_are_well}
use Rattle.settle_law.specs.inside.Passed.{PassesGoOn}
use Rattle.settle_law.specs.Well.{GoesWell, came_well, goes_well, is_well_answered}

-- A pass goes on: it isn't left, nor about to be.

abbrev Goes : PassRow → Type 0
Goes row = IsUnshut row × (is_left row ≡ false)

goes_if : (b : Bool) (x y : PassRow) → Goes x → Goes y → Goes (if b then x else y)
goes_if true x y p q = p
goes_if false x y p q = q

cleared_goes : (t : Target) → Goes (cleared t)
cleared_goes target.Info = (tt, refl)
cleared_goes target.Local = (tt, refl)
cleared_goes target.Remote = (tt, refl)

made_goes : (t : Target) (s : Sorted) → Goes (made_row t s)
made_goes target.Info s = by (has s.local) (has s.remote) where
  by : (x y : Bool) → Goes (pass_table.local_row x y)
  by true y = (tt, refl)
  by false true = (tt, refl)
  by false false = (tt, refl)
made_goes target.Local s = by (has s.remote) where
  by : (y : Bool) → Goes (pass_table.remote_row y)
  by true = (tt, refl)
  by false = (tt, refl)
made_goes target.Remote s = (tt, refl)

-- By what came of a call

clear_goes : (d : Disk) (name : List ℕ) (t : Target) (told : Answer) (wrote : ℕ) → Fits d (call.Unlink name) told wrote → is_well_answered told ≡ true → Goes (clear_row t told)
clear_goes d name t answer.Done wrote fits well = cleared_goes t
clear_goes d name t (answer.Refused why.NotThere) wrote fits well = cleared_goes t
clear_goes d name t (answer.Refused why.Fault) wrote fits well = absurd (false≢true well)
clear_goes d name t told wrote fits well = absurd fits

stat_goes : (d : Disk) (name : List ℕ) (i : ℕ) → d.names name ≡ Some i → (p : Pass) (told : Answer) (wrote : ℕ) → Fits d (call.Stat name) told wrote → is_well_answered told ≡ true → Goes (stated p told).row
stat_goes d name i there p (answer.Stat stat) wrote fits well = (tt, refl)
stat_goes d name i there p (answer.Refused why.NotThere) wrote fits well = absurd (cc (sym fits ∙ there))
stat_goes d name i there p (answer.Refused why.Fault) wrote fits well = absurd (false≢true well)
stat_goes d name i there p told wrote fits well = absurd fits

open_goes : (d : Disk) (name : List ℕ) (i : ℕ) → d.names name ≡ Some i → (told : Answer) (wrote : ℕ) → Fits d (call.Open name how.Read) told wrote → is_well_answered told ≡ true → Goes (open_row told)
open_goes d name i there (answer.Opened fd) wrote fits well = (tt, refl)
open_goes d name i there (answer.Refused why.NotThere) wrote fits well = absurd (cc (sym fits ∙ there))
open_goes d name i there (answer.Refused why.Fault) wrote fits well = absurd (false≢true well)
open_goes d name i there (answer.Refused why.Memory) wrote fits well = absurd (false≢true well)
open_goes d name i there told wrote fits well = absurd fits

read_goes : (d : Disk) (fd : Fd) (place len : ℕ) (p : Pass) (told : Answer) (bytes : List ℕ) (wrote : ℕ) → Fits d (call.ReadAt fd place len) told wrote → is_well_answered told ≡ true → Goes (read p fd told bytes).row
read_goes d fd place len p (answer.Count count) bytes wrote fits well = goes_if (nat_lt (length bytes) 8192) (todo.CloseTodo fd) (todo.ReadTodo fd) (tt, refl) (tt, refl)
read_goes d fd place len p (answer.Refused why.Fault) bytes wrote fits well = absurd (false≢true well)
read_goes d fd place len p told bytes wrote fits well = absurd fits

sorted_goes : (p : Pass) (o : Result Sorted ℕ) → ((place : ℕ) → o ≡ Err place → ⊥) → Goes (sorted_with p o).row
sorted_goes p (Ok s) fine = (tt, refl)
sorted_goes p (Err place) fine = absurd (fine place refl)

none_there : (o : Option ℕ) → o ≡ None → IsSome o → ⊥
none_there None e some = cc
none_there (Some i) e some = cc

create_goes : (d : Disk) (name : List ℕ) → d.names name ≡ None → HasDir d name → (t : Target) (told : Answer) (wrote : ℕ) → Fits d (call.CreateExcl name) told wrote → is_well_answered told ≡ true
    → Goes (create_row t told)
create_goes d name none dir t (answer.Created fd n) wrote fits well = (tt, refl)
create_goes d name none dir t (answer.Refused why.NotThere) wrote fits well = absurd (fits dir)
create_goes d name none dir t (answer.Refused why.Exists) wrote fits well = absurd (none_there (d.names name) none fits.1)
create_goes d name none dir t (answer.Refused why.Fault) wrote fits well = absurd (false≢true well)
create_goes d name none dir t (answer.Refused why.Memory) wrote fits well = absurd (false≢true well)
create_goes d name none dir t told wrote fits well = absurd fits

append_goes : (d : Disk) (bytes : List ℕ) (p : Pass) (t : Target) (fd : Fd) (done now : ℕ) (told : Answer) (wrote : ℕ) → Fits d (call.Append fd bytes) told wrote → is_well_answered told ≡ true
    → Goes (appended p t fd done now told).row
append_goes d bytes p t fd done now answer.Done wrote fits well =
    goes_if (nat_lt (done + 8192) (length (text_of p.sorted t))) (todo.Append t fd (done + 8192)) (todo.Sync t fd) (tt, refl) (tt, refl)
append_goes d bytes p t fd done now (answer.Refused why.Fault) wrote fits well = absurd (false≢true well)
append_goes d bytes p t fd done now (answer.Refused why.Memory) wrote fits well = absurd (false≢true well)
append_goes d bytes p t fd done now told wrote fits well = absurd fits

sync_goes : (d : Disk) (t : Target) (fd : Fd) (told : Answer) (wrote : ℕ) → Fits d (call.Sync fd) told wrote → is_well_answered told ≡ true → Goes (sync_row t fd told)
sync_goes d t fd answer.Done wrote fits well = (tt, refl)
sync_goes d t fd (answer.Refused why.Fault) wrote fits well = absurd (false≢true well)
sync_goes d t fd told wrote fits well = absurd fits

give_goes : (got : GotData) → Goes (give_row got)
give_goes came.Gave = (tt, refl)
give_goes got = (tt, refl)

taken_goes : (bytes : List ℕ) → bytes ≡ 43 ∷ [] → Goes (answer_row (came.Took bytes))
taken_goes bytes plus = subst (λ (bs : List ℕ). Goes (answer_row (came.Took bs))) (sym plus) (tt, refl)

answer_goes : (got : GotData) → ((bytes : List ℕ) → got ≡ came.Took bytes → bytes ≡ 43 ∷ []) → Goes (answer_row got)
answer_goes (came.Took bytes) plus = taken_goes bytes (plus bytes refl)
answer_goes got plus = (tt, refl)

-- What holds of each state: what is in `todo` reads as a todo text, a sender that waits for the answer to `todo/N` is answered nothing but `+`, the
-- directories of the queue are there, and messages have numbers that a program can name.

record IsApt (s : State) : Type 0 where
  texts : (n : ℕ) (i : Injection) → s.books.living n ≡ Some i → IsValid i.args → (controls : Controls) (place : ℕ) → sort_todo controls (intd_text i.args).bytes ≡ Err place → ⊥
  answers : (n : ℕ) → (link_in s).awaits ≡ Awaited (command.Todo n) → IsPlus (link_in s).answers
  dirs : (dir : List ℕ) → Contains queue_dirs dir → Contains s.disk.dirs dir
  small : (n : ℕ) (i : Injection) → s.books.living n ≡ Some i → n < 2 ^ 64

apt : (d : Disk) (h : List Event) → GoesWell d h → IsApt (after d h)
apt d h g = record {
  texts = todo_texts_are_read d h g.legal g.well;
  answers = todo_answers_are_well d h g;
  dirs = λ dir here. subst (λ (l : List (List ℕ)). Contains l dir) (sym (same_dirs d h)) ((legal_opens d h g.legal).dirs dir here);
  small = λ n i is. (numbers_are_small d h g.legal g.well n i is).1;
}

-- what is taken of it
plus_taken : (pipe : Pipe) (bytes : List ℕ) → IsPlus pipe.bytes → Yields pipe (came.Took bytes) → bytes ≡ 43 ∷ []
plus_taken pipe [] plus yields = absurd (yields.0 refl)
plus_taken pipe (b ∷ []) plus yields = ⊎_elim
    (λ (none : pipe.bytes ≡ []). let both : b ∷ yields.1.0 ≡ [] = sym yields.1.1 ∙ none in absurd (cc))
    (λ (one : pipe.bytes ≡ codes "+"). let both : b ∷ yields.1.0 ≡ 43 ∷ [] = sym yields.1.1 ∙ one in cc)
    plus
plus_taken pipe (b ∷ (c ∷ bytes)) plus yields = ⊎_elim
    (λ (none : pipe.bytes ≡ []). let both : b ∷ (c ∷ (bytes ++ yields.1.0)) ≡ [] = sym yields.1.1 ∙ none in absurd (cc))
    (λ (one : pipe.bytes ≡ codes "+"). let both : b ∷ (c ∷ (bytes ++ yields.1.0)) ≡ 43 ∷ [] = sym yields.1.1 ∙ one in absurd (cc))
    plus

-- An event of a sender

module _ (s : State) (I : Inv s) (A : IsApt s) (a : List ℕ) (own : Own) (wrote : ℕ) (may : MayDo s a own wrote) (start : ℕ) (is : may.actor.program ≡ Sender start)
    (well : came_well own.came ≡ true) where
  abbrev q : Queue
  q = queue s I.role

  abbrev d : Desk
  d = place_after None may.actor.past

  abbrev p : Pass
  p = d.pass

  abbrev Moves : PassRow → GotData → Pass
  Moves r got = moved_at d.book.controls r p own.read got

  abbrev row : Row
  row = row_now d own.read own.ready

  -- no program makes a name of the split layout
  flat : in_todo (about q p.n).parts ≡ look q (Of Todo p.n)
  flat = todo_here q I.sound.suits p.n

  queued : PassGoesOn d.book.controls s.now q a p → HoldsTodo p.row → IsQueued (about q p.n)
  queued h holds = (h.stands.rests holds).rest

  named : (x : Part) (n : ℕ) (y : Entry) → look q (Of x n) ≡ Some y → s.disk.names (path (Of x n)) ≡ Some y.number
  named x n y e = (found q.disk.names q.disk.files (Of x n) y e).0

  rests : PassGoesOn d.book.controls s.now q a p → Rests d.book.controls p.row p s.disk
  rests h = subst (λ (z : Pass). Rests d.book.controls z.row z s.disk) (sym h.is) (pass_rests d.book.controls p.n h.past h.first s.disk h.run h.leads)

  -- what was read is the message's todo text
  read_well : (Q : IsQueued (about q p.n)) → HoldsWhatWasRead p.n p s.disk → (place : ℕ) → sort_todo d.book.controls p.todo ≡ Err place → ⊥
  read_well Q held place bad =
      let w = found q.disk.names q.disk.files (Of Todo p.n) Q.todo (sym flat ∙ Q.todo_there) in
      let number : held.0 ≡ Q.todo.number = (let u = w.0 in let v = held.1 in cc) in
      let text_is : p.todo ≡ (intd_text Q.taken.injection.args).bytes =
      sym held.2 ∙ ap (λ (j : ℕ). (s.disk.files j).bytes) number ∙ ap (λ (z : Entry). z.file.bytes) (sym w.1) ∙ Q.text.holds in
      A.texts p.n Q.taken.injection Q.taken.lives Q.taken.valid d.book.controls place (subst (λ (t : List ℕ). sort_todo d.book.controls t ≡ Err place) text_is bad)

  -- it is the sender that waits for its cleaner
  named_so : a ≡ codes "sender"
  named_so = subst (λ (program : Program). IsNamed a program) is (I.crew a may.actor may.reads.is)

  waits_now : row ≡ at.InTodo → p.row ≡ todo.Answer → (link_in s).awaits ≡ Awaited (command.Todo p.n)
  waits_now at_pass e =
      let past : List Own = may.actor.past in
      ap awaits_in (ap s.actors (sym named_so) ∙ may.reads.is) ∙ ap (λ (life : Life). awaits_by life may.actor.program past) may.reads.alive ∙ ap (λ (program : Program). awaits_by Alive program past) is
      ∙ sym (arrives d.row d own.read own.ready) ∙ ap (λ (z : Row). awaits_at z p) at_pass ∙ ap (λ (z : PassRow). awaits_in_pass z p.n) e

  answered_well : row ≡ at.InTodo → p.row ≡ todo.Answer → ComesOf s a (needs.Take port.Clean) own.came wrote → (bytes : List ℕ) → own.came ≡ came.Took bytes → bytes ≡ 43 ∷ []
  answered_well at_pass e comes bytes took =
      plus_taken (s.pipework.pipes (codes "sender") port.Clean) bytes (A.answers p.n (waits_now at_pass e))
      (subst (λ (b : List ℕ). Yields (s.pipework.pipes b port.Clean) (came.Took bytes)) named_so (subst (λ (g : GotData). ComesOf s a (needs.Take port.Clean) g wrote) took comes))

  by_row : (r : PassRow) → p.row ≡ r → row ≡ at.InTodo → TodoStands d.book.controls s.now q a r p → IsUnshut r → ComesOf s a (pass_table.due_at r p) own.came wrote → Goes (Moves r own.came).row
  by_row (todo.Clear t) e at_pass h unshut comes =
      by_answer s a (λ g. came_well g ≡ true → Goes (Moves (todo.Clear t) g).row) (call.Unlink (path_in (part_of t) p.n)) wrote own.came comes
      (λ answers bytes fits fine. clear_goes s.disk (path_in (part_of t) p.n) t answers wrote fits fine) well
  by_row todo.StatMess e at_pass h unshut comes =
      let Q = queued h (subst HoldsTodo (sym e) tt) in
      by_answer s a (λ g. came_well g ≡ true → Goes (Moves todo.StatMess g).row) (call.Stat (path_in part.Mess p.n)) wrote own.came comes
      (λ answers bytes fits fine. stat_goes s.disk (path_in part.Mess p.n) Q.taken.mess.number (named Mess p.n Q.taken.mess Q.taken.mess_there) p answers wrote fits fine) well
  by_row todo.OpenTodo e at_pass h unshut comes =
      let Q = queued h (subst HoldsTodo (sym e) tt) in
      by_answer s a (λ g. came_well g ≡ true → Goes (Moves todo.OpenTodo g).row) (call.Open (path_in part.Todo p.n) how.Read) wrote own.came comes
      (λ answers bytes fits fine. open_goes s.disk (path_in part.Todo p.n) Q.todo.number (named Todo p.n Q.todo (sym flat ∙ Q.todo_there)) answers wrote fits fine) well
  by_row (todo.ReadTodo fd) e at_pass h unshut comes =
      by_answer s a (λ g. came_well g ≡ true → Goes (Moves (todo.ReadTodo fd) g).row) (call.ReadAt fd (length p.todo) 8192) wrote own.came comes
      (λ answers bytes fits fine. read_goes s.disk fd (length p.todo) 8192 p answers bytes wrote fits fine) well
  by_row (todo.CloseTodo fd) e at_pass h unshut comes =
      let Q = queued h (subst HoldsTodo (sym e) tt) in
      let stood : Rests d.book.controls (todo.CloseTodo fd) p s.disk = subst (λ (r : PassRow). Rests d.book.controls r p s.disk) e (rests h) in
      by_answer s a (λ g. Goes (Moves (todo.CloseTodo fd) g).row) (call.Close fd) wrote own.came comes
      (λ answers bytes fits. sorted_goes p (sort_todo d.book.controls p.todo) (read_well Q stood.todo))
  by_row (todo.Create t) e at_pass h unshut comes =
      let Q = queued h (subst HoldsTodo (sym e) tt) in
      let stood : Rests d.book.controls (todo.Create t) p s.disk = subst (λ (r : PassRow). Rests d.book.controls r p s.disk) e (rests h) in
      let none : s.disk.names (path_in (part_of t) p.n) ≡ None = its_own t Gone p.sorted p.n s.disk stood.files in
      let dir : HasDir s.disk (path_in (part_of t) p.n) = has_dir s.disk t p.n A.dirs (A.small p.n Q.taken.injection Q.taken.lives) in
      by_answer s a (λ g. came_well g ≡ true → Goes (Moves (todo.Create t) g).row) (call.CreateExcl (path_in (part_of t) p.n)) wrote own.came comes
      (λ answers bytes fits fine. create_goes s.disk (path_in (part_of t) p.n) none dir t answers wrote fits fine) well
  by_row (todo.Append t fd done) e at_pass h unshut comes =
      let bytes_are : List ℕ = pass_table.piece (text_of p.sorted t) done in
      by_answer s a (λ g. came_well g ≡ true → Goes (Moves (todo.Append t fd done) g).row) (call.Append fd bytes_are) wrote own.came comes
      (λ answers bytes fits fine. append_goes s.disk bytes_are p t fd done own.read answers wrote fits fine) well
  by_row (todo.Sync t fd) e at_pass h unshut comes =
      by_answer s a (λ g. came_well g ≡ true → Goes (Moves (todo.Sync t fd) g).row) (call.Sync fd) wrote own.came comes
      (λ answers bytes fits fine. sync_goes s.disk t fd answers wrote fits fine) well
  by_row (todo.Close t fd) e at_pass h unshut comes =
      by_answer s a (λ g. Goes (Moves (todo.Close t fd) g).row) (call.Close fd) wrote own.came comes (λ answers bytes fits. made_goes t p.sorted)
  by_row (todo.Shut fd reason) e at_pass h unshut comes = absurd unshut
  by_row todo.Give e at_pass h unshut comes = give_goes own.came
  by_row todo.Answer e at_pass h unshut comes = answer_goes own.came (answered_well at_pass e comes)
  by_row todo.Done e at_pass h unshut comes = absurd comes
  by_row (todo.Left reason) e at_pass h unshut comes = absurd comes
  by_row todo.Lost e at_pass h unshut comes = absurd comes

  in_pass : row ≡ at.InTodo → IsUnshut p.row → Goes (Moves p.row own.came).row
  in_pass e unshut = by_row p.row refl e (at_row s I a own wrote may start is well at.InTodo e).rests.1.1 unshut (comes_at s I a own wrote may start is well at.InTodo e)

-- Each past

abbrev Held : List Own → Type 0
Held past = let d : Desk = place_after None past in GoesAt d.row d.pass × NoneLeft None past

not_in : (r : Row) (d : Desk) (own : Own) → (r ≡ at.InTodo → is_left (moved d.book.controls d.pass own.read own.came).row ≡ false) → leaves r d own ≡ false
not_in at.InTodo d own fine = fine refl
not_in r d own fine = refl

module _ (past : List Own) (own : Own) (run : IsRunBy (Next None) (own ∷ past)) (held : Held past) where
  abbrev e : Desk
  e = place_after None past

  abbrev r : Row
  r = row_now e own.read own.ready

  comes_there : MayCome (due_at r e) own.came
  comes_there = subst (λ (x : NeedData). MayCome x own.came) (sym run.1.0) run.1.1

  unshut_at : r ≡ at.InTodo → IsUnshut e.pass.row
  unshut_at is = subst (λ (x : Row). GoesAt x e.pass) is (arrives_here e.row e own.read own.ready held.0)

  holds_on : (r ≡ at.InTodo → Goes (moved e.book.controls e.pass own.read own.came).row) → Held (own ∷ past)
  holds_on fine = (goes_here r own.read own.came e comes_there (λ is. (fine is).0), (held.1, not_in r e own (λ is. (fine is).1)))

acts : (s : State) (I : Inv s) → IsApt s → (a : List ℕ) (own : Own) (wrote : ℕ) (may : MayDo s a own wrote) (start : ℕ) → may.actor.program ≡ Sender start → goes_well (Act a own wrote) ≡ true
    → IsRunBy (Next None) may.actor.past → Held may.actor.past → Held (own ∷ may.actor.past)
acts s I A a own wrote may start is well ran held =
    let past : List Own = may.actor.past in
    let due : Next None past own.read own.ready ≡ own.due = subst (λ (p : Program). next_of p past own.read own.ready ≡ own.due) is may.due in
    let run : IsRunBy (Next None) (own ∷ past) = (ran, (due, may_come s a own.due own.came wrote may.came)) in
    holds_on past own run held (λ e. in_pass s I A a own wrote may start is well e (unshut_at past own run held e))

starts_none : (r : PassRow) (p : Pass) (asked : ChildData) → pass_table.due_at r p ≡ needs.Start asked → ⊥
starts_none (todo.Clear t) p asked e = cc
starts_none todo.StatMess p asked e = cc
starts_none todo.OpenTodo p asked e = cc
starts_none (todo.ReadTodo fd) p asked e = cc
starts_none (todo.CloseTodo fd) p asked e = cc
starts_none (todo.Create t) p asked e = cc
starts_none (todo.Append t fd done) p asked e = cc
starts_none (todo.Sync t fd) p asked e = cc
starts_none (todo.Close t fd) p asked e = cc
starts_none (todo.Shut fd reason) p asked e = cc
starts_none todo.Give p asked e = cc
starts_none todo.Answer p asked e = cc
starts_none todo.Done p asked e = cc
starts_none (todo.Left reason) p asked e = cc
starts_none todo.Lost p asked e = cc

bears : (s : State) (a : List ℕ) (own : Own) (b : List ℕ) (program : Program) (may : MayBear s a own b program) (start : ℕ) → may.actor.program ≡ Sender start
    → IsRunBy (Next None) may.actor.past → Held may.actor.past → Held (own ∷ may.actor.past)
bears s a own b program may start is ran held =
    let past : List Own = may.actor.past in
    let d : Desk = place_after None past in
    let due : Next None past own.read own.ready ≡ own.due = subst (λ (p : Program). next_of p past own.read own.ready ≡ own.due) is may.due in
    let run : IsRunBy (Next None) (own ∷ past) = (ran, (due, born_comes s a own b program may)) in
    holds_on past own run held (λ e. absurd (starts_none d.pass.row d.pass may.asked (ap (λ (r : Row). due_at r d) (sym e) ∙ due ∙ may.starts)))

pub passes_go_on : PassesGoOn
passes_go_on d h g a x start is program =
    (sender_pasts goes_well IsApt Held (tt, tt) (λ s I A. acts s I A) (λ s I A. bears s) d
    (λ k legal well. apt d k (record { legal = legal; well = well })) h g.legal g.well a x is start program).1
