-- Where a search came directly before a todo pass.
use Rattle.std.proofs.Common.{◌≡◌, ℕ, List, [], ◌∷◌, Bool, true, false, if◌then◌else◌, Option, Some, None, refl, sym, subst}
use Rattle.address_rules.specs.declared.controls.Controls.{Controls}
use Rattle.call_fs.specs.Past.{IsRunBy}
use Rattle.call_fs.specs.Program.{MayCome}
use Rattle.call_fs.specs.declared.calls.Answer.{Answer}
use Rattle.call_fs.specs.declared.calls.Answer.TheVariants as answer
use Rattle.call_fs.specs.declared.calls.FsError.TheVariants as why
use Rattle.call_fs.specs.declared.past.GotData.{GotData}
use Rattle.call_fs.specs.declared.past.NeedData.{NeedData}
use Rattle.call_fs.specs.declared.past.Own.{Own}
use Rattle.call_fs.specs.declared.program.Ready.{Ready}
use Rattle.mail_bytes.specs.Decimal.{digits}
use Rattle.send_core.proofs.Coming.{by_file}
use Rattle.send_core.specs.Desk.{past_todo}
use Rattle.send_core.specs.Finish.{looked_up, sweep_begun}
use Rattle.send_core.specs.Start.{start_at, started}
use Rattle.send_core.specs.Table.{Next, act, arrive, place_after, due_at, from_point, row_now}
use Rattle.send_core.specs.Turn.{begun_at, is_done, known_of, todo_found, todo_named, todo_none, todo_on, todo_over, todo_went}
use Rattle.send_core.specs.declared.desk.Desk.{Desk}
use Rattle.send_parts.specs.declared.row.Row.{Row}
use Rattle.send_parts.specs.declared.row.Row.TheVariants as at
use Rattle.send_known.specs.Messages.{learned}
use Rattle.send_parts.specs.declared.reply.Way.{Way}
use Rattle.send_parts.specs.declared.reply.Way.TheVariants as way
use Rattle.send_parts.specs.declared.rows.Search.{Search}
use Rattle.send_parts.specs.declared.rows.StartRow.{StartRow}
use Rattle.send_parts.specs.declared.rows.StartRow.TheVariants as start
use Rattle.send_parts.specs.Files.{message_number}
use Rattle.send_parts.specs.Readings.{read_on}
use Rattle.send_parts.specs.Replies.{said}
use Rattle.send_parts.specs.Rows.{is_again}
use Rattle.send_parts.specs.Sweep.{sweep_to}
use Rattle.todo_pass.specs.declared.part.Target.{Target}
use Rattle.todo_pass.specs.declared.part.Target.TheVariants as target
use Rattle.todo_pass.specs.declared.row.Row.{Row as PassRow}
use Rattle.todo_pass.specs.declared.row.Row.TheVariants as todo
use Rattle.todo_pass.specs.Sorting.{sort_todo}
use Rattle.todo_pass.specs.Table.{Pass, answer_row, moved_at}
use Rattle.todo_pass.specs.Table as pass_table
use Rattle.send_runs.proofs.Calm.{point_fresh}
use Rattle.send_runs.specs.FinishMoments.{has_searched, is_search}
use Rattle.send_runs.proofs.Clearing.{IsNear, IsOutside, IsPast, answer_past, appended_past, create_past, fresh_near, give_past, made_past, near_finish, near_past_todo, near_requested, near_swept, near_took, near_unlinked, open_past, outside_mark, outside_read, read_past, sorted_past, stated_past, sync_past}

-- A todo pass unlinks the info file first, directly after a search
abbrev pub PassSearched : PassRow → Bool → Type 0
PassSearched (todo.Clear target.Info) searched = searched ≡ true
PassSearched row searched = Unit {0}

abbrev pub SearchedAt : Row → Pass → Bool → Type 0
SearchedAt at.InTodo pass searched = PassSearched pass.row searched
SearchedAt row pass searched = Unit {0}

abbrev Searches : Bool → Desk → Type 0
Searches b d = SearchedAt d.row d.pass b

near_searched : (b : Bool) (row : Row) (pass : Pass) → IsNear row → SearchedAt row pass b
near_searched b at.InTodo pass is = absurd is
near_searched b row pass is = tt

outside_searched : (b : Bool) (row : Row) (pass : Pass) → IsOutside row → SearchedAt row pass b
outside_searched b at.InTodo pass is = absurd is
outside_searched b row pass is = tt

searches_if : (u b : Bool) (x y : Desk) → Searches u x → Searches u y → Searches u (if b then x else y)
searches_if u true x y p q = p
searches_if u false x y p q = q

past_todo_searched : (now : ℕ) (b : Bool) (d : Desk) → Searches b (past_todo now d)
past_todo_searched now b d = let e : Desk = past_todo now d in near_searched b e.row e.pass (near_past_todo now d)

-- the search

none_searched : (again : Bool) (last : List ℕ) (now : ℕ) (d : Desk) → Searches true (todo_none again last now d)
none_searched false (x ∷ xs) now d = tt
none_searched false [] now d = past_todo_searched now true d
none_searched true last now d = past_todo_searched now true d

found_searched : (o : Option ℕ) (text : List ℕ) (s : Search) (d : Desk) → Searches true (todo_found o text s d)
found_searched None text s d = tt
found_searched (Some n) text s d = refl

named_searched : (w : Way) (text : List ℕ) (s : Search) (now : ℕ) (d : Desk) → Searches true (todo_named w text s now d)
named_searched way.Fine text s now d = found_searched (message_number text) text s d
named_searched way.Over text s now d = none_searched (is_again s) d.last_left now d
named_searched way.Absent text s now d = none_searched (is_again s) d.last_left now d
named_searched way.NoMemory text s now d = none_searched (is_again s) d.last_left now d
named_searched way.Broken text s now d = none_searched (is_again s) d.last_left now d

-- the pass, after its first row

abbrev IsNext : PassRow → Type 0
IsNext (todo.Clear target.Info) = ⊥
IsNext row = Unit {0}

past_next : (row : PassRow) → IsPast row → IsNext row
past_next (todo.Clear part) is = absurd is
past_next row is = tt

next_searched : (row : PassRow) (b : Bool) → IsNext row → PassSearched row b
next_searched (todo.Clear target.Info) b is = absurd is
next_searched row b is = tt

cleared_next : (t : Target) → IsNext (pass_table.cleared t)
cleared_next target.Info = tt
cleared_next target.Local = tt
cleared_next target.Remote = tt

clear_next : (t : Target) (told : Answer) → IsNext (pass_table.clear_row t told)
clear_next t answer.Done = cleared_next t
clear_next t (answer.Refused why.NotThere) = cleared_next t
clear_next t told = tt

module _ (controls : Controls) (now : ℕ) where
  abbrev Leads : PassRow → Pass → GotData → Type 0
  Leads row p got = IsNext (moved_at controls row p now got).row

  moved_next : (row : PassRow) (p : Pass) (got : GotData) → MayCome (pass_table.due_at row p) got → Leads row p got
  moved_next (todo.Clear t) p got may = by_file (pass_table.due_at (todo.Clear t) p) tt (Leads (todo.Clear t) p) got may (λ told fit. clear_next t told.answer)
  moved_next todo.StatMess p got may = by_file (pass_table.due_at todo.StatMess p) tt (Leads todo.StatMess p) got may (λ told fit. past_next (pass_table.stated p told.answer).row (stated_past p told.answer))
  moved_next todo.OpenTodo p got may = by_file (pass_table.due_at todo.OpenTodo p) tt (Leads todo.OpenTodo p) got may (λ told fit. past_next (pass_table.open_row told.answer) (open_past told.answer))
  moved_next (todo.ReadTodo fd) p got may =
      by_file (pass_table.due_at (todo.ReadTodo fd) p) tt (Leads (todo.ReadTodo fd) p) got may (λ told fit. past_next (pass_table.read p fd told.answer told.bytes).row (read_past p fd told.answer told.bytes))
  moved_next (todo.CloseTodo fd) p got may =
      by_file (pass_table.due_at (todo.CloseTodo fd) p) tt (Leads (todo.CloseTodo fd) p) got may
      (λ told fit. past_next (pass_table.sorted_with p (sort_todo controls p.todo)).row (sorted_past p (sort_todo controls p.todo)))
  moved_next (todo.Create t) p got may = by_file (pass_table.due_at (todo.Create t) p) tt (Leads (todo.Create t) p) got may (λ told fit. past_next (pass_table.create_row t told.answer) (create_past t told.answer))
  moved_next (todo.Append t fd done) p got may =
      by_file (pass_table.due_at (todo.Append t fd done) p) tt (Leads (todo.Append t fd done) p) got may (λ told fit. past_next (pass_table.appended p t fd done now told.answer).row (appended_past p t fd done now told.answer))
  moved_next (todo.Sync t fd) p got may = by_file (pass_table.due_at (todo.Sync t fd) p) tt (Leads (todo.Sync t fd) p) got may (λ told fit. past_next (pass_table.sync_row t fd told.answer) (sync_past t fd told.answer))
  moved_next (todo.Close t fd) p got may = by_file (pass_table.due_at (todo.Close t fd) p) tt (Leads (todo.Close t fd) p) got may (λ told fit. past_next (pass_table.made_row t p.sorted) (made_past t p.sorted))
  moved_next (todo.Shut fd why) p got may = by_file (pass_table.due_at (todo.Shut fd why) p) tt (Leads (todo.Shut fd why) p) got may (λ told fit. tt)
  moved_next todo.Give p got may = past_next (pass_table.give_row got) (give_past got)
  moved_next todo.Answer p got may = past_next (answer_row got) (answer_past got)
  moved_next todo.Done p got may = absurd may
  moved_next (todo.Left why) p got may = absurd may
  moved_next todo.Lost p got may = absurd may

on_searched : (row : PassRow) (p : Pass) (now : ℕ) (b : Bool) (d : Desk) → IsNext p.row → Searches b (todo_on row p now d)
on_searched (todo.Left why) p now b d h = past_todo_searched now b (record d { pass = p; last_left = digits p.n })
on_searched todo.Lost p now b d h = tt
on_searched row p now b d h = next_searched p.row b h

over_searched : (row : PassRow) (p : Pass) (now : ℕ) (b : Bool) (d : Desk) → IsNext p.row → Searches b (todo_over row p now d)
over_searched row p now b d h =
    let learnt : Desk = record d { pass = p; book = record d.book { messages = learned (known_of p) now d.book.messages } } in
    searches_if b (is_done row) (past_todo now learnt) (todo_on row p now d) (past_todo_searched now b learnt) (on_searched row p now b d h)

went_searched : (row : PassRow) (got : GotData) (p : Pass) (now : ℕ) (b : Bool) (d : Desk) → IsNext p.row → Searches b (todo_went row got p now d)
went_searched todo.Answer got p now b d h = over_searched (answer_row got) p now b d h
went_searched row got p now b d h = on_searched p.row p now b d h

-- Each row

start_searched : (b : Bool) (row : StartRow) (pass : Pass) → SearchedAt (start_at row) pass b
start_searched b start.Over pass = tt
start_searched b (start.Ended status) pass = tt
start_searched b row pass = tt

row_searched : (row : Row) (now : ℕ) (got : GotData) (d : Desk) → MayCome (due_at row d) got → Searches (is_search (due_at row d)) (act row now got d)
row_searched (at.Start row) now got d may = start_searched (is_search (due_at (at.Start row) d)) (started row (said got) d).book.row d.pass
row_searched (at.Turn p) now got d may = absurd may
row_searched (at.TakeLink c) now got d may = let e : Desk = act (at.TakeLink c) now got d in near_searched (is_search (due_at (at.TakeLink c) d)) e.row e.pass (near_took (said got).way (said got).bytes c d)
row_searched (at.Mark row m) now got d may = let e : Desk = act (at.Mark row m) now got d in outside_searched (is_search (due_at (at.Mark row m) d)) e.row e.pass (outside_mark row m got d)
row_searched (at.UnlinkFile c n p) now got d may = let e : Desk = act (at.UnlinkFile c n p) now got d in near_searched false e.row e.pass (near_unlinked (said got).way c n p now d)
row_searched (at.ReadFile c n begun reading) now got d may =
    let e : Desk = act (at.ReadFile c n begun reading) now got d in
    outside_searched (is_search (due_at (at.ReadFile c n begun reading) d)) e.row e.pass (outside_read (read_on reading (said got)) c n (begun_at reading begun now) reading now (said got) d)
row_searched (at.Request c) now got d may = let e : Desk = act (at.Request c) now got d in near_searched (is_search (due_at (at.Request c) d)) e.row e.pass (near_requested (said got).way c d)
row_searched (at.FindTodo s) now got d may = named_searched (said got).way (said got).bytes s now d
row_searched at.InTodo now got d may =
    went_searched d.pass.row got (moved_at d.book.controls d.pass.row d.pass now got) now (is_search (pass_table.due_at d.pass.row d.pass)) d (moved_next d.book.controls now d.pass.row d.pass got may)
row_searched (at.Finish row n) now got d may = let e : Desk = act (at.Finish row n) now got d in near_searched (is_search (due_at (at.Finish row n) d)) e.row e.pass (near_finish row n now got d)
row_searched (at.Sweep row) now got d may =
    let e : Desk = act (at.Sweep row) now got d in
    near_searched (is_search (due_at (at.Sweep row) d)) e.row e.pass (near_swept (sweep_to row now (said got) d.book) (looked_up row (said got) (sweep_begun row now d)))
row_searched (at.Ended status) now got d may = absurd may

searched_kept : (turns : Option ℕ) (past : List Own) → IsRunBy (Next turns) past → SearchedAt (place_after turns past).row (place_after turns past).pass (has_searched past)
searched_kept turns [] run = tt
searched_kept turns (event ∷ before) run =
    let d : Desk = place_after turns before in
    let row : Row = row_now d event.read event.ready in
    let may : MayCome (due_at row d) event.came = subst (λ (x : NeedData). MayCome x event.came) (sym run.1.0) run.1.1 in
    let e : Desk = place_after turns (event ∷ before) in
    subst (λ (due : NeedData). SearchedAt e.row e.pass (is_search due)) run.1.0 (row_searched row event.read event.came d may)

arrives_searched : (row : Row) (d : Desk) (b : Bool) (now : ℕ) (ready : Ready) → SearchedAt row d.pass b → SearchedAt (arrive row d now ready) d.pass b
arrives_searched (at.Turn p) d b now ready h = near_searched b (from_point p d now ready) d.pass (fresh_near (from_point p d now ready) (point_fresh d now ready p))
arrives_searched row d b now ready h = h

-- so it is where the next event begins
pub searched_here : (turns : Option ℕ) (past : List Own) (now : ℕ) (ready : Ready) → IsRunBy (Next turns) past → SearchedAt (row_now (place_after turns past) now ready) (place_after turns past).pass (has_searched past)
searched_here turns past now ready run = let d : Desk = place_after turns past in arrives_searched d.row d (has_searched past) now ready (searched_kept turns past run)
