-- The calls of a pass use what it holds open.
use Rattle.std.proofs.Common.{◌≡◌, ℕ, ◌+◌, List, [], ◌∷◌, length, lit≤, Bool, true, false, if◌then◌else◌, nat_lt, Option, Some, sym, ap, subst}
use Rattle.std.specs.Prelude.{Result, Ok, Err}
use Rattle.std.specs.Option.{IsSome, IsSomeAnd, is_some}
use Rattle.address_rules.specs.declared.controls.Controls.{Controls}
use Rattle.call_fs.specs.declared.calls.Answer.{Answer}
use Rattle.call_fs.specs.declared.calls.Answer.TheVariants as answer
use Rattle.call_fs.specs.declared.calls.CallData.TheVariants as call
use Rattle.call_fs.specs.declared.calls.Fd.{Fd}
use Rattle.call_fs.specs.declared.calls.FsError.TheVariants as why
use Rattle.call_fs.specs.declared.calls.How.TheVariants as how
use Rattle.call_fs.specs.declared.past.GotData.{GotData}
use Rattle.call_fs.specs.declared.past.GotData.TheVariants as came
use Rattle.call_fs.specs.declared.past.Own.{Own}
use Rattle.call_fs.specs.Columns.{IsAnswerTo}
use Rattle.call_fs.specs.Disk.{IsForAppend}
use Rattle.call_fs.specs.declared.modes.Mode.{Mode}
use Rattle.call_fs.specs.Past.{held, held_by, held_after, UsesHeld}
use Rattle.call_fs.specs.Program.{MayCome}
use Rattle.call_fs.proofs.Maps.{put_same}
use Rattle.todo_pass.specs.declared.part.Part.TheVariants as part
use Rattle.todo_pass.specs.declared.part.Target.{Target}
use Rattle.todo_pass.specs.declared.part.Target.TheVariants as target
use Rattle.todo_pass.specs.declared.row.Row.{Row}
use Rattle.todo_pass.specs.declared.row.Row.TheVariants as at
use Rattle.todo_pass.specs.declared.row.Why.TheVariants as left
use Rattle.todo_pass.specs.declared.sorted.Sorted.{Sorted}
use Rattle.todo_pass.specs.Parts.{part_of, path_in}
use Rattle.todo_pass.specs.Sorting.{sort_todo, text_of, has}
use Rattle.todo_pass.specs.Table.{Pass, cleared, clear_row, stated, open_row, read, sorted_with, create_row, appended, sync_row, made_row, local_row, remote_row, give_row, answer_row, moved_at, due_at, place_after, piece}
use Rattle.todo_pass.specs.Run.{IsRun}
use Rattle.call_fs.proofs.Coming.{by_fit}

-- what a row holds open
abbrev pub HoldsRow : (ℕ → Option Mode) → Row → Type 0
HoldsRow h (at.ReadTodo fd) = h fd.0 ≡ Some (Mode.Opened how.Read)
HoldsRow h (at.CloseTodo fd) = h fd.0 ≡ Some (Mode.Opened how.Read)
HoldsRow h (at.Append t fd done) = h fd.0 ≡ Some Mode.Created
HoldsRow h (at.Sync t fd) = h fd.0 ≡ Some Mode.Created
HoldsRow h (at.Close t fd) = h fd.0 ≡ Some Mode.Created
HoldsRow h (at.Shut fd why) = IsSome (h fd.0)
HoldsRow h row = Unit {0}

pub some_held : (o : Option Mode) (mode : Mode) → o ≡ Some mode → IsSome o
some_held o mode e = ap is_some e

module _ (h : ℕ → Option Mode) where
  cleared_holds : (t : Target) → HoldsRow h (cleared t)
  cleared_holds target.Info = tt
  cleared_holds target.Local = tt
  cleared_holds target.Remote = tt

  remote_holds : (b : Bool) → HoldsRow h (remote_row b)
  remote_holds true = tt
  remote_holds false = tt

  local_holds : (b c : Bool) → HoldsRow h (local_row b c)
  local_holds true c = tt
  local_holds false c = remote_holds c

  made_holds : (t : Target) (s : Sorted) → HoldsRow h (made_row t s)
  made_holds target.Info s = local_holds (has s.local) (has s.remote)
  made_holds target.Local s = remote_holds (has s.remote)
  made_holds target.Remote s = tt

  sorted_holds : (p : Pass) (o : Result Sorted ℕ) → HoldsRow h (sorted_with p o).row
  sorted_holds p (Ok s) = tt
  sorted_holds p (Err place) = tt

module _ (controls : Controls) (p : Pass) (now : ℕ) (h : ℕ → Option Mode) where
  clears : (t : Target) (name : List ℕ) (told : Answer) → IsAnswerTo (call.Unlink name) told → HoldsRow (held_after h (call.Unlink name) told) (clear_row t told)
  clears t name answer.Done fit = cleared_holds h t
  clears t name (answer.Refused why.NotThere) fit = cleared_holds h t
  clears t name (answer.Refused why.Fault) fit = tt
  clears t name told fit = absurd fit

  states : (name : List ℕ) (told : Answer) → IsAnswerTo (call.Stat name) told → HoldsRow (held_after h (call.Stat name) told) (stated p told).row
  states name (answer.Stat stat) fit = tt
  states name (answer.Refused why.NotThere) fit = tt
  states name (answer.Refused why.Fault) fit = tt
  states name told fit = absurd fit

  opens : (name : List ℕ) (told : Answer) → IsAnswerTo (call.Open name how.Read) told → HoldsRow (held_after h (call.Open name how.Read) told) (open_row told)
  opens name (answer.Opened fd) fit = put_same h fd.0 (Some (Mode.Opened how.Read))
  opens name (answer.Refused why) fit = tt
  opens name told fit = absurd fit

  reads : (fd : Fd) (from : ℕ) (told : Answer) (bytes : List ℕ) → h fd.0 ≡ Some (Mode.Opened how.Read) → IsAnswerTo (call.ReadAt fd from 8192) told
      → HoldsRow (held_after h (call.ReadAt fd from 8192) told) (read p fd told bytes).row
  reads fd from (answer.Count count) bytes own fit =
      elim (nat_lt (length bytes) 8192) as (λ t. HoldsRow h (if t then at.CloseTodo fd else at.ReadTodo fd)) [ true ↦ own | false ↦ own ]
  reads fd from (answer.Refused why) bytes own fit = some_held (h fd.0) (Mode.Opened how.Read) own
  reads fd from told bytes own fit = absurd fit

  creates : (t : Target) (name : List ℕ) (told : Answer) → IsAnswerTo (call.CreateExcl name) told → HoldsRow (held_after h (call.CreateExcl name) told) (create_row t told)
  creates t name (answer.Created fd number) fit = put_same h fd.0 (Some Mode.Created)
  creates t name (answer.Refused why) fit = tt
  creates t name told fit = absurd fit

  appends : (t : Target) (fd : Fd) (done : ℕ) (bytes : List ℕ) (told : Answer) → h fd.0 ≡ Some Mode.Created → IsAnswerTo (call.Append fd bytes) told
      → HoldsRow (held_after h (call.Append fd bytes) told) (appended p t fd done now told).row
  appends t fd done bytes answer.Done own fit =
      elim (nat_lt (done + 8192) (length (text_of p.sorted t))) as (λ b. HoldsRow h (if b then at.Append t fd (done + 8192) else at.Sync t fd)) [ true ↦ own | false ↦ own ]
  appends t fd done bytes (answer.Refused why) own fit = some_held (h fd.0) Mode.Created own
  appends t fd done bytes told own fit = absurd fit

  syncs : (t : Target) (fd : Fd) (told : Answer) → h fd.0 ≡ Some Mode.Created → IsAnswerTo (call.Sync fd) told
      → HoldsRow (held_after h (call.Sync fd) told) (sync_row t fd told)
  syncs t fd answer.Done own fit = own
  syncs t fd (answer.Refused why) own fit = some_held (h fd.0) Mode.Created own
  syncs t fd told own fit = absurd fit

  gives : (got : GotData) → HoldsRow h (give_row got)
  gives came.Gave = tt
  gives got = tt

  answers : (got : GotData) → HoldsRow h (answer_row got)
  answers (came.Took bytes) = plus (_) where
    plus : (b : Bool) → HoldsRow h (if b then at.Done else at.Left left.Unclean)
    plus true = tt
    plus false = tt
  answers got = tt

  abbrev pub StepOf : Row → GotData → Type 0
  StepOf row got = HoldsRow (held_by h (due_at row p) got) (moved_at controls row p now got).row

  pub step : (row : Row) (got : GotData) → HoldsRow h row → MayCome (due_at row p) got → StepOf row got
  step (at.Clear t) got own may = by_fit (call.Unlink (path_in (part_of t) p.n)) (StepOf (at.Clear t)) got may (λ told fit. clears t (path_in (part_of t) p.n) told.answer fit)
  step at.StatMess got own may = by_fit (call.Stat (path_in part.Mess p.n)) (StepOf at.StatMess) got may (λ told fit. states (path_in part.Mess p.n) told.answer fit)
  step at.OpenTodo got own may = by_fit (call.Open (path_in part.Todo p.n) how.Read) (StepOf at.OpenTodo) got may (λ told fit. opens (path_in part.Todo p.n) told.answer fit)
  step (at.ReadTodo fd) got own may =
      by_fit (call.ReadAt fd (length p.todo) 8192) (StepOf (at.ReadTodo fd)) got may (λ told fit. reads fd (length p.todo) told.answer told.bytes own fit)
  step (at.CloseTodo fd) got own may = by_fit (call.Close fd) (StepOf (at.CloseTodo fd)) got may (λ told fit. sorted_holds (held_after h (call.Close fd) told.answer) p (sort_todo controls p.todo))
  step (at.Create t) got own may = by_fit (call.CreateExcl (path_in (part_of t) p.n)) (StepOf (at.Create t)) got may (λ told fit. creates t (path_in (part_of t) p.n) told.answer fit)
  step (at.Append t fd done) got own may =
      by_fit (call.Append fd (piece (text_of p.sorted t) done)) (StepOf (at.Append t fd done)) got may (λ told fit. appends t fd done (piece (text_of p.sorted t) done) told.answer own fit)
  step (at.Sync t fd) got own may = by_fit (call.Sync fd) (StepOf (at.Sync t fd)) got may (λ told fit. syncs t fd told.answer own fit)
  step (at.Close t fd) got own may = by_fit (call.Close fd) (StepOf (at.Close t fd)) got may (λ told fit. made_holds (held_after h (call.Close fd) told.answer) t p.sorted)
  step (at.Shut fd why) got own may = by_fit (call.Close fd) (StepOf (at.Shut fd why)) got may (λ told fit. tt)
  step at.Give got own may = gives got
  step at.Answer got own may = answers got
  step at.Done got own may = absurd may
  step (at.Left why) got own may = absurd may
  step at.Lost got own may = absurd may

holds : (controls : Controls) (n : ℕ) (past : List Own) → IsRun controls n past → HoldsRow (held past) (place_after controls n past).row
holds controls n [] run = tt
holds controls n (event ∷ before) run =
    let p : Pass = place_after controls n before in
    let old = holds controls n before run.0 in
    let may = subst (λ x. MayCome x event.came) (sym run.1.0) run.1.1 in
    subst (λ x. HoldsRow (held_by (held before) x event.came) (moved_at controls p.row p event.read event.came).row) run.1.0
    (step controls p event.read (held before) p.row event.came old may)

pub uses_row : (h : ℕ → Option Mode) (p : Pass) (row : Row) → HoldsRow h row → UsesHeld h (due_at row p)
uses_row h p (at.Clear t) own = tt
uses_row h p at.StatMess own = tt
uses_row h p at.OpenTodo own = tt
uses_row h p (at.ReadTodo fd) own = (some_held (h fd.0) (Mode.Opened how.Read) own, lit≤ tt)
uses_row h p (at.CloseTodo fd) own = some_held (h fd.0) (Mode.Opened how.Read) own
uses_row h p (at.Create t) own = tt
uses_row h p (at.Append t fd done) own = subst (λ o. IsSomeAnd o IsForAppend) (sym own) tt
uses_row h p (at.Sync t fd) own = some_held (h fd.0) Mode.Created own
uses_row h p (at.Close t fd) own = some_held (h fd.0) Mode.Created own
uses_row h p (at.Shut fd why) own = own
uses_row h p at.Give own = tt
uses_row h p at.Answer own = tt
uses_row h p at.Done own = tt
uses_row h p (at.Left why) own = tt
uses_row h p at.Lost own = tt

pub uses : (controls : Controls) (n : ℕ) (past : List Own) → IsRun controls n past → UsesHeld (held past) (due_at (place_after controls n past).row (place_after controls n past))
uses controls n past run = uses_row (held past) (place_after controls n past) (place_after controls n past).row (holds controls n past run)
