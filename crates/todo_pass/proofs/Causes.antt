-- Why a pass ended as it did.
use Rattle.std.proofs.Common.{◌≡◌, ℕ, ◌+◌, List, [], ◌∷◌, length, Bool, true, false, Some, refl, sym, ap, subst, inl, inr}
use Rattle.std.specs.Prelude.{if◌then◌else◌, nat_lt, bytes_eq, Result, Ok, Err}
use Rattle.address_rules.specs.declared.controls.Controls.{Controls}
use Rattle.call_fs.specs.declared.calls.Answer.{Answer}
use Rattle.call_fs.specs.declared.calls.Answer.TheVariants as answer
use Rattle.call_fs.specs.declared.calls.CallData.TheVariants as call
use Rattle.call_fs.specs.declared.calls.Fd.{Fd}
use Rattle.call_fs.specs.declared.calls.FsError.{FsError}
use Rattle.call_fs.specs.declared.calls.FsError.TheVariants as why
use Rattle.call_fs.specs.declared.calls.How.TheVariants as how
use Rattle.call_fs.specs.declared.calls.Told.{Told}
use Rattle.call_fs.specs.declared.past.GotData.{GotData}
use Rattle.call_fs.specs.declared.past.GotData.TheVariants as came
use Rattle.call_fs.specs.declared.past.Own.{Own}
use Rattle.call_fs.specs.Columns.{IsAnswerTo}
use Rattle.call_fs.specs.Program.{MayCome}
use Rattle.call_fs.proofs.Maps.{bytes_eq-decides}
use Rattle.todo_pass.specs.declared.part.Part.{Part}
use Rattle.todo_pass.specs.declared.part.Part.TheVariants as part
use Rattle.todo_pass.specs.declared.part.Target.{Target}
use Rattle.todo_pass.specs.declared.part.Target.TheVariants as target
use Rattle.todo_pass.specs.declared.row.Row.{Row}
use Rattle.todo_pass.specs.declared.row.Row.TheVariants as at
use Rattle.todo_pass.specs.declared.row.Why.{Why}
use Rattle.todo_pass.specs.declared.row.Why.TheVariants as left
use Rattle.todo_pass.specs.declared.sorted.Sorted.{Sorted}
use Rattle.todo_pass.specs.Parts.{part_of, path_in}
use Rattle.todo_pass.specs.Sorting.{sort_todo, text_of, has}
use Rattle.todo_pass.specs.Table.{Pass, clear_row, stated, open_row, read, sorted_with, create_row, appended, sync_row, made_row, local_row, remote_row, give_row, answer_row, moved_at, due_at, place_after, piece, why_of}
use Rattle.todo_pass.specs.Causes.{HasStep, part_at, IsNamed, IsCause, LosesLink}
use Rattle.todo_pass.specs.Run.{IsRun}
use Rattle.call_fs.proofs.Coming.{by_fit}
use Rattle.todo_pass.proofs.Todos.{sorted_bad}

-- a row that a failure led to has its cause here
abbrev CausedHere : Controls → Row → Pass → GotData → Type 0
CausedHere controls (at.Shut fd why) p got = IsCause why p got
CausedHere controls (at.Left why) p got = IsCause why p got
CausedHere controls at.Lost p got = LosesLink p got
CausedHere controls row p got = Unit {0}

module _ (controls : Controls) (p : Pass) where
  -- a refusal at this row's file
  refused : (it : Part) (e : FsError) (told : Told) → part_at p.row ≡ Some it → told.answer ≡ answer.Refused e → ¬ (IsNamed p.row e)
      → IsCause (why_of (answer.Refused e) it) p (came.Answered told)
  refused it why.Memory told place is unnamed = (told, refl, is)
  refused it why.NotThere told place is unnamed = record { refusal = why.NotThere; refused = (told, refl, is); place = place; no_memory = λ x. cc; unnamed = unnamed }
  refused it why.Exists told place is unnamed = record { refusal = why.Exists; refused = (told, refl, is); place = place; no_memory = λ x. cc; unnamed = unnamed }
  refused it why.Fault told place is unnamed = record { refusal = why.Fault; refused = (told, refl, is); place = place; no_memory = λ x. cc; unnamed = unnamed }

  clear_cause : (t : Target) (name : List ℕ) (told : Told) (a : Answer) → told.answer ≡ a → p.row ≡ at.Clear t → IsAnswerTo (call.Unlink name) a
      → CausedHere controls (clear_row t a) p (came.Answered told)
  clear_cause target.Info name told answer.Done is row fit = tt
  clear_cause target.Local name told answer.Done is row fit = tt
  clear_cause target.Remote name told answer.Done is row fit = tt
  clear_cause target.Info name told (answer.Refused why.NotThere) is row fit = tt
  clear_cause target.Local name told (answer.Refused why.NotThere) is row fit = tt
  clear_cause target.Remote name told (answer.Refused why.NotThere) is row fit = tt
  clear_cause t name told (answer.Refused why.Fault) is row fit =
      refused (part_of t) why.Fault told (ap part_at row) is (λ x. subst (λ r. IsNamed r why.Fault) row x)
  clear_cause t name told a is row fit = absurd fit

  stat_cause : (name : List ℕ) (told : Told) (a : Answer) → told.answer ≡ a → p.row ≡ at.StatMess → IsAnswerTo (call.Stat name) a
      → CausedHere controls (stated p a).row p (came.Answered told)
  stat_cause name told (answer.Stat stat) is row fit = tt
  stat_cause name told (answer.Refused why.NotThere) is row fit = (row, (told, refl, is))
  stat_cause name told (answer.Refused why.Fault) is row fit = refused part.Mess why.Fault told (ap part_at row) is (λ x. subst (λ r. IsNamed r why.Fault) row x)
  stat_cause name told a is row fit = absurd fit

  open_cause : (name : List ℕ) (told : Told) (a : Answer) → told.answer ≡ a → p.row ≡ at.OpenTodo → IsAnswerTo (call.Open name how.Read) a
      → CausedHere controls (open_row a) p (came.Answered told)
  open_cause name told (answer.Opened fd) is row fit = tt
  open_cause name told (answer.Refused e) is row fit = refused part.Todo e told (ap part_at row) is (λ x. subst (λ r. IsNamed r e) row x)
  open_cause name told a is row fit = absurd fit

  read_cause : (fd : Fd) (from : ℕ) (told : Told) (a : Answer) (bytes : List ℕ) → told.answer ≡ a → p.row ≡ at.ReadTodo fd → IsAnswerTo (call.ReadAt fd from 8192) a
      → CausedHere controls (read p fd a bytes).row p (came.Answered told)
  read_cause fd from told (answer.Count count) bytes is row fit =
      elim (nat_lt (length bytes) 8192) as (λ t. CausedHere controls (if t then at.CloseTodo fd else at.ReadTodo fd) p (came.Answered told)) [ true ↦ tt | false ↦ tt ]
  read_cause fd from told (answer.Refused e) bytes is row fit = refused part.Todo e told (ap part_at row) is (λ x. subst (λ r. IsNamed r e) row x)
  read_cause fd from told a bytes is row fit = absurd fit

  sort_cause : (fd : Fd) (got : GotData) (o : Result Sorted ℕ) → p.row ≡ at.CloseTodo fd → sort_todo controls p.todo ≡ o → CausedHere controls (sorted_with p o).row p got
  sort_cause fd got (Ok s) row is = tt
  sort_cause fd got (Err place) row is = (fd, row, sorted_bad controls p.todo place is)

  create_cause : (t : Target) (name : List ℕ) (told : Told) (a : Answer) → told.answer ≡ a → p.row ≡ at.Create t → IsAnswerTo (call.CreateExcl name) a
      → CausedHere controls (create_row t a) p (came.Answered told)
  create_cause t name told (answer.Created fd number) is row fit = tt
  create_cause t name told (answer.Refused e) is row fit = refused (part_of t) e told (ap part_at row) is (λ x. subst (λ r. IsNamed r e) row x)
  create_cause t name told a is row fit = absurd fit

  append_cause : (t : Target) (fd : Fd) (done now : ℕ) (bytes : List ℕ) (told : Told) (a : Answer) → told.answer ≡ a → p.row ≡ at.Append t fd done
      → IsAnswerTo (call.Append fd bytes) a → CausedHere controls (appended p t fd done now a).row p (came.Answered told)
  append_cause t fd done now bytes told answer.Done is row fit =
      elim (nat_lt (done + 8192) (length (text_of p.sorted t))) as (λ b. CausedHere controls (if b then at.Append t fd (done + 8192) else at.Sync t fd) p (came.Answered told)) [ true ↦ tt | false ↦ tt ]
  append_cause t fd done now bytes told (answer.Refused e) is row fit = refused (part_of t) e told (ap part_at row) is (λ x. subst (λ r. IsNamed r e) row x)
  append_cause t fd done now bytes told a is row fit = absurd fit

  sync_cause : (t : Target) (fd : Fd) (told : Told) (a : Answer) → told.answer ≡ a → p.row ≡ at.Sync t fd → IsAnswerTo (call.Sync fd) a
      → CausedHere controls (sync_row t fd a) p (came.Answered told)
  sync_cause t fd told answer.Done is row fit = tt
  sync_cause t fd told (answer.Refused e) is row fit = refused (part_of t) e told (ap part_at row) is (λ x. subst (λ r. IsNamed r e) row x)
  sync_cause t fd told a is row fit = absurd fit

  remote_cause : (b : Bool) (got : GotData) → CausedHere controls (remote_row b) p got
  remote_cause true got = tt
  remote_cause false got = tt

  local_cause : (b c : Bool) (got : GotData) → CausedHere controls (local_row b c) p got
  local_cause true c got = tt
  local_cause false c got = remote_cause c got

  made_cause : (t : Target) (got : GotData) → CausedHere controls (made_row t p.sorted) p got
  made_cause target.Info got = local_cause (has p.sorted.local) (has p.sorted.remote) got
  made_cause target.Local got = remote_cause (has p.sorted.remote) got
  made_cause target.Remote got = tt

  give_cause : (got : GotData) → p.row ≡ at.Give → MayCome (due_at at.Give p) got → CausedHere controls (give_row got) p got
  give_cause came.Gave row may = tt
  give_cause came.Failed row may = inl (row, refl)
  give_cause got row may = absurd may

  unclean_by : (b : Bool) (bytes : List ℕ) → bytes_eq bytes (43 ∷ []) ≡ b → p.row ≡ at.Answer → CausedHere controls (if b then at.Done else at.Left left.Unclean) p (came.Took bytes)
  unclean_by true bytes eq row = tt
  unclean_by false bytes eq row = (row, (bytes, refl, λ same. let yes = (bytes_eq-decides bytes (43 ∷ [])).1 same in absurd (cc)))

  answer_cause : (got : GotData) → p.row ≡ at.Answer → MayCome (due_at at.Answer p) got → CausedHere controls (answer_row got) p got
  answer_cause (came.Took bytes) row may = unclean_by (bytes_eq bytes (43 ∷ [])) bytes refl row
  answer_cause came.End row may = inr (row, inl refl)
  answer_cause came.Failed row may = inr (row, inr refl)
  answer_cause got row may = absurd may

  abbrev HereAfter : ℕ → Row → GotData → Type 0
  HereAfter now row got = CausedHere controls (moved_at controls row p now got).row p got

  -- a row that holds no failure yet
  abbrev IsGoing : Row → Type 0
  IsGoing (at.Shut fd why) = ⊥
  IsGoing row = Unit {0}

  pub cause_at : (now : ℕ) (row : Row) (got : GotData) → IsGoing row → p.row ≡ row → MayCome (due_at row p) got → HereAfter now row got
  cause_at now (at.Clear t) got going row may =
      by_fit (call.Unlink (path_in (part_of t) p.n)) (HereAfter now (at.Clear t)) got may (λ told fit. clear_cause t (path_in (part_of t) p.n) told told.answer refl row fit)
  cause_at now at.StatMess got going row may =
      by_fit (call.Stat (path_in part.Mess p.n)) (HereAfter now at.StatMess) got may (λ told fit. stat_cause (path_in part.Mess p.n) told told.answer refl row fit)
  cause_at now at.OpenTodo got going row may =
      by_fit (call.Open (path_in part.Todo p.n) how.Read) (HereAfter now at.OpenTodo) got may (λ told fit. open_cause (path_in part.Todo p.n) told told.answer refl row fit)
  cause_at now (at.ReadTodo fd) got going row may =
      by_fit (call.ReadAt fd (length p.todo) 8192) (HereAfter now (at.ReadTodo fd)) got may (λ told fit. read_cause fd (length p.todo) told told.answer told.bytes refl row fit)
  cause_at now (at.CloseTodo fd) got going row may =
      by_fit (call.Close fd) (HereAfter now (at.CloseTodo fd)) got may (λ told fit. sort_cause fd (came.Answered told) (sort_todo controls p.todo) row refl)
  cause_at now (at.Create t) got going row may =
      by_fit (call.CreateExcl (path_in (part_of t) p.n)) (HereAfter now (at.Create t)) got may (λ told fit. create_cause t (path_in (part_of t) p.n) told told.answer refl row fit)
  cause_at now (at.Append t fd done) got going row may =
      by_fit (call.Append fd (piece (text_of p.sorted t) done)) (HereAfter now (at.Append t fd done)) got may
      (λ told fit. append_cause t fd done now (piece (text_of p.sorted t) done) told told.answer refl row fit)
  cause_at now (at.Sync t fd) got going row may = by_fit (call.Sync fd) (HereAfter now (at.Sync t fd)) got may (λ told fit. sync_cause t fd told told.answer refl row fit)
  cause_at now (at.Close t fd) got going row may = by_fit (call.Close fd) (HereAfter now (at.Close t fd)) got may (λ told fit. made_cause t (came.Answered told))
  cause_at now (at.Shut fd why) got going row may = absurd going
  cause_at now at.Give got going row may = give_cause got row may
  cause_at now at.Answer got going row may = answer_cause got row may
  cause_at now at.Done got going row may = absurd may
  cause_at now (at.Left why) got going row may = absurd may
  cause_at now at.Lost got going row may = absurd may

-- what led to a row is somewhere in the past
abbrev pub Caused : Controls → ℕ → List Own → Row → Type 0
Caused controls n past (at.Shut fd why) = HasStep controls n past (IsCause why)
Caused controls n past (at.Left why) = HasStep controls n past (IsCause why)
Caused controls n past at.Lost = HasStep controls n past LosesLink
Caused controls n past row = Unit {0}

here : (controls : Controls) (n : ℕ) (event : Own) (before : List Own) (row : Row) → CausedHere controls row (place_after controls n before) event.came
    → Caused controls n (event ∷ before) row
here controls n event before (at.Shut fd why) h = inl h
here controls n event before (at.Left why) h = inl h
here controls n event before at.Lost h = inl h
here controls n event before row h = tt

module _ (controls : Controls) (n : ℕ) (event : Own) (before : List Own) where
  abbrev it : Pass
  it = place_after controls n before

  goes_on : (row : Row) → IsGoing controls it row → it.row ≡ row → MayCome (due_at row it) event.came
      → Caused controls n (event ∷ before) (moved_at controls row it event.read event.came).row
  goes_on row going is may = here controls n event before (moved_at controls row it event.read event.came).row (cause_at controls it event.read row event.came going is may)

  step : (row : Row) → it.row ≡ row → MayCome (due_at row it) event.came → Caused controls n before row
      → Caused controls n (event ∷ before) (moved_at controls row it event.read event.came).row
  step (at.Shut fd why) is may old =
      by_fit (call.Close fd) (λ got. Caused controls n (event ∷ before) (moved_at controls (at.Shut fd why) it event.read got).row) event.came may (λ told fit. inr old)
  step (at.Clear t) is may old = goes_on (at.Clear t) tt is may
  step at.StatMess is may old = goes_on at.StatMess tt is may
  step at.OpenTodo is may old = goes_on at.OpenTodo tt is may
  step (at.ReadTodo fd) is may old = goes_on (at.ReadTodo fd) tt is may
  step (at.CloseTodo fd) is may old = goes_on (at.CloseTodo fd) tt is may
  step (at.Create t) is may old = goes_on (at.Create t) tt is may
  step (at.Append t fd done) is may old = goes_on (at.Append t fd done) tt is may
  step (at.Sync t fd) is may old = goes_on (at.Sync t fd) tt is may
  step (at.Close t fd) is may old = goes_on (at.Close t fd) tt is may
  step at.Give is may old = goes_on at.Give tt is may
  step at.Answer is may old = goes_on at.Answer tt is may
  step at.Done is may old = absurd may
  step (at.Left why) is may old = absurd may
  step at.Lost is may old = absurd may

caused : (controls : Controls) (n : ℕ) (past : List Own) → IsRun controls n past → Caused controls n past (place_after controls n past).row
caused controls n [] run = tt
caused controls n (event ∷ before) run =
    let p : Pass = place_after controls n before in
    step controls n event before p.row refl (subst (λ x. MayCome x event.came) (sym run.1.0) run.1.1) (caused controls n before run.0)

pub left_by : (controls : Controls) (n : ℕ) (past : List Own) (why : Why) → IsRun controls n past → (place_after controls n past).row ≡ at.Left why
    → HasStep controls n past (IsCause why)
left_by controls n past why run e = subst (Caused controls n past) e (caused controls n past run)

pub lost_by : (controls : Controls) (n : ℕ) (past : List Own) → IsRun controls n past → (place_after controls n past).row ≡ at.Lost → HasStep controls n past LosesLink
lost_by controls n past run e = subst (Caused controls n past) e (caused controls n past run)
