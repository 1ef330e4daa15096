-- Which message becomes known next, and how each event leads there.
use Rattle.std.proofs.Common.{◌≡◌, ◌⊎◌, ℕ, ◌+◌, List, [], ◌∷◌, length, nat_lt, bytes_eq, Bool, true, false, if◌then◌else◌, Option, Some, None, refl, sym, ap, ◌∙◌, inl, inr}
use Rattle.std.specs.Prelude.{Result, Ok, Err}
use Rattle.address_rules.specs.Files.{Fault, first_fault}
use Rattle.address_rules.specs.declared.control_file.ControlFile.{ControlFile}
use Rattle.address_rules.specs.declared.controls.Controls.{Controls}
use Rattle.call_fs.specs.Columns.{IsAnswerTo}
use Rattle.call_fs.specs.Program.{MayCome}
use Rattle.call_fs.specs.declared.calls.Answer.TheVariants as answer
use Rattle.call_fs.specs.declared.calls.Answer.{Answer}
use Rattle.call_fs.specs.declared.calls.CallData.TheVariants as call
use Rattle.call_fs.specs.declared.calls.Fd.{Fd}
use Rattle.call_fs.specs.declared.calls.FsError.TheVariants as why
use Rattle.call_fs.specs.declared.calls.Told.{Told}
use Rattle.call_fs.specs.declared.file_system.TheConstants.{PIECE}
use Rattle.call_fs.specs.declared.past.GotData.TheVariants as came
use Rattle.call_fs.specs.declared.past.GotData.{GotData}
use Rattle.call_fs.specs.declared.program.Ready.{Ready}
use Rattle.mail_bytes.specs.Decimal.{digits}
use Rattle.queue_paths.specs.Names.Name.{Of}
use Rattle.queue_paths.specs.Names.Part.{Info as InfoFile, Local as LocalFile}
use Rattle.queue_paths.specs.Names.{path}
use Rattle.retry_law.proofs.Left.{act_keeps, by_reading, is_plain, none_keeps, todo_keeps}
use Rattle.retry_law.specs.Infos.{coming, has_written, looked_at, pass_tells, tells, written, written_at}
use Rattle.send_core.proofs.Coming.{IsAnswered, IsFile, by_file}
use Rattle.send_core.specs.Births.{Birth}
use Rattle.send_core.specs.Desk.{past_todo}
use Rattle.send_core.specs.Start.{start_at}
use Rattle.send_core.specs.Table.{act, arrive, due_at, from_point}
use Rattle.send_core.specs.Turn.{known_of, todo_found, todo_named, todo_none, todo_on, todo_over, todo_went}
use Rattle.send_core.specs.declared.desk.Desk.{Desk}
use Rattle.send_parts.specs.declared.row.Row.TheVariants as at
use Rattle.send_parts.specs.declared.row.Row.{Row}
use Rattle.send_known.specs.Messages.{learned}
use Rattle.send_parts.specs.Files.{message_number, number_below}
use Rattle.send_parts.specs.Readings.{begun_at, read_on}
use Rattle.send_parts.specs.Replies.{Said, said}
use Rattle.send_parts.specs.Rows.{is_again}
use Rattle.send_parts.specs.Start.{act_start, by_way, control_read, file_after, greeted_local, greeted_remote, info_read, info_row, judged_by, next_file, remote_stated, scan_row, scanned, start_failed}
use Rattle.send_parts.specs.declared.book.Book.{Book}
use Rattle.send_parts.specs.declared.reading.Progress.TheVariants.{Failed, Goes, Missing, Whole}
use Rattle.send_parts.specs.declared.reading.Progress.{Progress}
use Rattle.send_parts.specs.declared.reading.Reading.TheVariants.{Opening, Shutting}
use Rattle.send_parts.specs.declared.reading.Reading.{Reading}
use Rattle.send_parts.specs.declared.reply.Way.TheVariants as way
use Rattle.send_parts.specs.declared.reply.Way.{Way}
use Rattle.send_parts.specs.declared.rows.Search.{Search}
use Rattle.send_parts.specs.declared.rows.StartRow.TheVariants as start
use Rattle.send_parts.specs.declared.rows.StartRow.{StartRow}
use Rattle.send_runs.proofs.Calm.{IsFresh, point_fresh}
use Rattle.todo_pass.specs.Sorting.{sort_todo, text_of}
use Rattle.todo_pass.specs.Table as pass_table
use Rattle.todo_pass.specs.Table.{Pass, answer_row, appended, clear_row, cleared, create_row, moved_at, next_piece, open_row, piece_size, read, sorted_with, stated}
use Rattle.todo_pass.specs.declared.part.Target.TheVariants as target
use Rattle.todo_pass.specs.declared.part.Target.{Target}
use Rattle.todo_pass.specs.declared.row.Row.TheVariants as todo
use Rattle.todo_pass.specs.declared.row.Row.{Row as PassRow}
use Rattle.todo_pass.specs.declared.row.Why.TheVariants as left
use Rattle.todo_pass.specs.declared.sorted.Sorted.{Sorted}

-- Where none becomes known next

plain_none : (row : Row) (p : Pass) → is_plain row ≡ true → coming row p ≡ None
plain_none (at.Start row) p e = absurd (cc)
plain_none at.InTodo p e = absurd (cc)
plain_none (at.ReadFile c n begun reading) p e = refl
plain_none row p e = refl

fresh_none : (row : Row) (p : Pass) → IsFresh row → coming row p ≡ None
fresh_none (at.Start row) p is = absurd is
fresh_none at.InTodo p is = absurd is
fresh_none row p is = refl

pub arrives_coming : (row : Row) (p : Pass) (d : Desk) (now : ℕ) (ready : Ready) → coming (arrive row d now ready) p ≡ coming row p
arrives_coming (at.Turn q) p d now ready = fresh_none (from_point q d now ready) p (point_fresh d now ready q)
arrives_coming row p d now ready = refl

-- From what it comes: which it was before an event, and what the event told

abbrev pub Leads : Option Birth → Option Birth → Option Birth → Type 0
Leads to told from = (it : Birth) → to ≡ Some it → (told ≡ Some it) ⊎ ((from ≡ Some it) × (told ≡ None))

none_leads : (to told from : Option Birth) → to ≡ None → Leads to told from
none_leads to told from e it is = absurd (cc (sym e ∙ is))

keep_leads : (b : Bool) (p q : Pass) (told : Option Birth) → written true p ≡ written true q → told ≡ None → Leads (written b p) told (written true q)
keep_leads true p q told same none it is = inr (sym same ∙ is, none)
keep_leads false p q told same none it is = absurd (cc)

-- The start

abbrev is_coming : StartRow → Bool
is_coming (start.StatLocal split n birth) = true
is_coming (start.StatRemote split n birth local) = true
is_coming row = false

start_none : (row : StartRow) (p : Pass) → is_coming row ≡ false → coming (start_at row) p ≡ None
start_none (start.StatLocal split n birth) p e = absurd (cc)
start_none (start.StatRemote split n birth local) p e = absurd (cc)
start_none row p e = refl

failed_not : (w : Way) → is_coming (start_failed w) ≡ false
failed_not way.NoMemory = refl
failed_not w = refl

judged_not : (o : Option Fault) (b : Book) → is_coming (judged_by o b).row ≡ false
judged_not None b = refl
judged_not (Some fault) b = refl

next_not : (o : Option ControlFile) (b : Book) → is_coming (next_file o b).row ≡ false
next_not None b = judged_not (first_fault b.files) b
next_not (Some next) b = refl

control_not : (p : Progress) (f : ControlFile) (reading : Reading) (s : Said) (b : Book) → is_coming (control_read p f reading s b).row ≡ false
control_not (Goes (Shutting fd)) f reading s b = failed_not s.way
control_not (Goes next) f reading s b = refl
control_not Whole f reading s b = next_not (file_after f) _
control_not Missing f reading s b = next_not (file_after f) _
control_not Failed f reading s b = failed_not s.way

local_not : (w : Way) (bytes : List ℕ) (b : Book) → is_coming (greeted_local w bytes b).row ≡ false
local_not way.Fine (byte ∷ rest) b = refl
local_not way.Fine [] b = refl
local_not w bytes b = refl

remote_not : (w : Way) (bytes : List ℕ) (b : Book) → is_coming (greeted_remote w bytes b).row ≡ false
remote_not way.Fine (byte ∷ rest) b = refl
remote_not way.Fine [] b = refl
remote_not w bytes b = refl

either_not : (b : Bool) (x y : StartRow) → is_coming x ≡ false → is_coming y ≡ false → is_coming (if b then x else y) ≡ false
either_not true x y p q = p
either_not false x y p q = q

named_not : (o : Option ℕ) (split : ℕ) → is_coming (scan_row o split) ≡ false
named_not None split = refl
named_not (Some n) split = refl

scanned_not : (w : Way) (text : List ℕ) (split : ℕ) (b : Book) → is_coming (scanned w text split b).row ≡ false
scanned_not way.Fine text split b = named_not (number_below split text) split
scanned_not way.Over text split b = either_not (nat_lt split 22) (start.Scan (split + 1)) start.Over refl refl
scanned_not way.Absent text split b = failed_not way.Absent
scanned_not way.Broken text split b = failed_not way.Broken
scanned_not way.NoMemory text split b = failed_not way.NoMemory

by_not : (w : Way) (there missing : StartRow) → is_coming there ≡ false → is_coming missing ≡ false → is_coming (by_way w there missing) ≡ false
by_not way.Fine there missing p q = p
by_not way.Absent there missing p q = q
by_not way.Over there missing p q = refl
by_not way.Broken there missing p q = refl
by_not way.NoMemory there missing p q = refl

whole_not : (b : Bool) (split n : ℕ) → is_coming (info_row b split n) ≡ false
whole_not true split n = refl
whole_not false split n = refl

info_not : (p : Progress) (split n : ℕ) (reading : Reading) (s : Said) (b : Book) → is_coming (info_read p split n reading s b).row ≡ false
info_not (Goes (Shutting fd)) split n reading s b = failed_not s.way
info_not (Goes next) split n reading s b = refl
info_not Whole split n reading s b = whole_not _ split n
info_not Missing split n reading s b = refl
info_not Failed split n reading s b = failed_not s.way

found_not : (w : Way) (split n birth : ℕ) (local : Bool) (b : Book) → is_coming (remote_stated w split n birth local b).row ≡ false
found_not way.Fine split n birth local b = refl
found_not way.Absent split n birth local b = refl
found_not way.Over split n birth local b = refl
found_not way.Broken split n birth local b = refl
found_not way.NoMemory split n birth local b = refl

module _ (now : ℕ) (d : Desk) where
  -- the info file is looked at
  stat_leads : (split n : ℕ) (told : Answer) (bytes : List ℕ) → IsAnswerTo (call.Stat (path (Of InfoFile n))) told → let s : Said = said (came.Answered (record { answer = told; bytes = bytes })) in
      Leads (coming (start_at (by_way s.way (start.StatLocal split n s.stat.moment) (start.Scan split))) d.pass) (looked_at n told) None
  stat_leads split n (answer.Stat stat) bytes fit it is = inl is
  stat_leads split n (answer.Refused why.NotThere) bytes fit it is = absurd (cc)
  stat_leads split n (answer.Refused why.Fault) bytes fit it is = absurd (cc)
  stat_leads split n told bytes fit it is = absurd fit

  -- the local file is looked for
  look_leads : (split n birth : ℕ) (told : Answer) (bytes : List ℕ) → IsAnswerTo (call.Stat (path (Of LocalFile n))) told → let s : Said = said (came.Answered (record { answer = told; bytes = bytes })) in
      Leads (coming (start_at (by_way s.way (start.StatRemote split n birth true) (start.StatRemote split n birth false))) d.pass) None (Some (record { n = n; moment = birth }))
  look_leads split n birth (answer.Stat stat) bytes fit it is = inr (is, refl)
  look_leads split n birth (answer.Refused why.NotThere) bytes fit it is = inr (is, refl)
  look_leads split n birth (answer.Refused why.Fault) bytes fit it is = absurd (cc)
  look_leads split n birth told bytes fit it is = absurd fit

  abbrev StartLeads : StartRow → GotData → Type 0
  StartLeads row got = Leads (coming (start_at (act_start row (said got) d.book).row) d.pass) (tells (at.Start row) d.pass now got) (coming (at.Start row) d.pass)

  start_still : (row : StartRow) (got : GotData) → is_coming (act_start row (said got) d.book).row ≡ false → StartLeads row got
  start_still row got e = none_leads (coming (start_at (act_start row (said got) d.book).row) d.pass) (tells (at.Start row) d.pass now got) (coming (at.Start row) d.pass)
      (start_none (act_start row (said got) d.book).row d.pass e)

  start_leads : (row : StartRow) (got : GotData) → MayCome (due_at (at.Start row) d) got → StartLeads row got
  start_leads (start.Control f reading) got may = start_still (start.Control f reading) got (control_not (read_on reading (said got)) f reading (said got) d.book)
  start_leads start.GreetLocal got may = start_still start.GreetLocal got (local_not (said got).way (said got).bytes d.book)
  start_leads (start.GreetRemote limit) got may = start_still (start.GreetRemote limit) got (remote_not (said got).way (said got).bytes d.book)
  start_leads (start.Scan split) got may = start_still (start.Scan split) got (scanned_not (said got).way (said got).bytes split d.book)
  start_leads (start.StatTodo split n) got may = start_still (start.StatTodo split n) got (by_not (said got).way (start.Scan split) (start.ReadInfo split n Opening) refl refl)
  start_leads (start.ReadInfo split n reading) got may = start_still (start.ReadInfo split n reading) got (info_not (read_on reading (said got)) split n reading (said got) d.book)
  start_leads (start.StatInfo split n) got may = by_file (due_at (at.Start (start.StatInfo split n)) d) tt (λ g. StartLeads (start.StatInfo split n) g) got may (λ told fit. stat_leads split n told.answer told.bytes fit)
  start_leads (start.StatLocal split n birth) got may =
      by_file (due_at (at.Start (start.StatLocal split n birth)) d) tt (λ g. StartLeads (start.StatLocal split n birth) g) got may (λ told fit. look_leads split n birth told.answer told.bytes fit)
  start_leads (start.StatRemote split n birth local) got may = start_still (start.StatRemote split n birth local) got (found_not (said got).way split n birth local d.book)
  start_leads start.Over got may = absurd may
  start_leads (start.Ended status) got may = absurd may

-- The search of `todo`

found_none : (o : Option ℕ) (text : List ℕ) (s : Search) (d : Desk) → let e : Desk = todo_found o text s d in coming e.row e.pass ≡ None
found_none None text s d = refl
found_none (Some n) text s d = refl

searched_none : (w : Way) (text : List ℕ) (s : Search) (now : ℕ) (d : Desk) → let e : Desk = todo_named w text s now d in coming e.row e.pass ≡ None
searched_none way.Fine text s now d = found_none (message_number text) text s d
searched_none way.Over text s now d = let e : Desk = todo_none (is_again s) d.last_left now d in plain_none e.row e.pass (none_keeps (is_again s) d.last_left now d).1
searched_none way.Absent text s now d = let e : Desk = todo_none (is_again s) d.last_left now d in plain_none e.row e.pass (none_keeps (is_again s) d.last_left now d).1
searched_none way.Broken text s now d = let e : Desk = todo_none (is_again s) d.last_left now d in plain_none e.row e.pass (none_keeps (is_again s) d.last_left now d).1
searched_none way.NoMemory text s now d = let e : Desk = todo_none (is_again s) d.last_left now d in plain_none e.row e.pass (none_keeps (is_again s) d.last_left now d).1

-- A todo pass

cleared_not : (t : Target) → has_written (cleared t) ≡ false
cleared_not target.Info = refl
cleared_not target.Local = refl
cleared_not target.Remote = refl

clear_not : (t : Target) (told : Answer) → has_written (clear_row t told) ≡ false
clear_not t answer.Done = cleared_not t
clear_not t (answer.Refused why.NotThere) = cleared_not t
clear_not t told = refl

stated_not : (p : Pass) (told : Answer) → has_written (stated p told).row ≡ false
stated_not p (answer.Stat stat) = refl
stated_not p (answer.Refused why.NotThere) = refl
stated_not p told = refl

open_not : (told : Answer) → has_written (open_row told) ≡ false
open_not (answer.Opened fd) = refl
open_not told = refl

piece_not : (b : Bool) (fd : Fd) → has_written (if b then todo.CloseTodo fd else todo.ReadTodo fd) ≡ false
piece_not true fd = refl
piece_not false fd = refl

read_not : (p : Pass) (fd : Fd) (told : Answer) (bytes : List ℕ) → has_written (read p fd told bytes).row ≡ false
read_not p fd (answer.Count count) bytes = piece_not (nat_lt (length bytes) PIECE) fd
read_not p fd told bytes = refl

sorted_not : (p : Pass) (r : Result Sorted ℕ) → has_written (sorted_with p r).row ≡ false
sorted_not p (Ok s) = refl
sorted_not p (Err place) = refl

create_not : (told : Answer) → has_written (create_row target.Info told) ≡ false
create_not (answer.Created fd number) = refl
create_not told = refl

module _ (now : ℕ) (controls : Controls) (q : Pass) (d : Desk) where
  abbrev To : Pass → Option Birth
  To p = written (has_written p.row) p

  abbrev after : PassRow → GotData → Pass
  after row got = moved_at controls row q now got

  on_is : (row : PassRow) (p : Pass) → p.row ≡ row → let e : Desk = todo_on row p now d in coming e.row e.pass ≡ To p
  on_is (todo.Left y) p is =
      let e : Desk = record d { pass = p; last_left = digits p.n } in
      plain_none (past_todo now e).row (past_todo now e).pass (todo_keeps now e).1 ∙ sym (ap (λ (r : PassRow). written (has_written r) p) is)
  on_is todo.Lost p is = sym (ap (λ (r : PassRow). written (has_written r) p) is)
  on_is row p is = refl

  abbrev TodoLeads : PassRow → GotData → Type 0
  TodoLeads row got = let e : Desk = todo_on (after row got).row (after row got) now d in Leads (coming e.row e.pass) (pass_tells row q.n now got) (written (has_written row) q)

  -- by where the pass stands after it
  by_pass : (row : PassRow) (got : GotData) → Leads (To (after row got)) (pass_tells row q.n now got) (written (has_written row) q) → TodoLeads row got
  by_pass row got leads it is = leads it (sym (on_is (after row got).row (after row got) refl) ∙ is)

  unwritten : (row : PassRow) (got : GotData) → has_written (after row got).row ≡ false → TodoLeads row got
  unwritten row got e = by_pass row got (none_leads (To (after row got)) (pass_tells row q.n now got) (written (has_written row) q) (ap (λ (b : Bool). written b (after row got)) e))

  -- a file is written
  info_leads : (b : Bool) (row : PassRow) (fd : Fd) (done : ℕ)
      → Leads (written (has_written (if b then todo.Append target.Info fd done else todo.Sync target.Info fd)) (record q { row = row; birth = now })) (Some (record { n = q.n; moment = now })) None
  info_leads true row fd done it e = absurd (cc)
  info_leads false row fd done it e = inl e

  append_info : (fd : Fd) (done : ℕ) (told : Answer) → Leads (To (appended q target.Info fd done now told)) (written_at q.n now told) None
  append_info fd done answer.Done = info_leads (nat_lt (done + piece_size) (length (text_of q.sorted target.Info))) (next_piece target.Info fd (done + piece_size) (text_of q.sorted target.Info)) fd (done + piece_size)
  append_info fd done told = (λ it e. absurd (cc))

  append_local : (fd : Fd) (done : ℕ) (told : Answer) → Leads (To (appended q target.Local fd done now told)) None (written true q)
  append_local fd done answer.Done = let p : Pass = appended q target.Local fd done now answer.Done in keep_leads (has_written p.row) p q None refl refl
  append_local fd done told = (λ it e. absurd (cc))

  append_remote : (fd : Fd) (done : ℕ) (told : Answer) → Leads (To (appended q target.Remote fd done now told)) None (written true q)
  append_remote fd done answer.Done = let p : Pass = appended q target.Remote fd done now answer.Done in keep_leads (has_written p.row) p q None refl refl
  append_remote fd done told = (λ it e. absurd (cc))

  abbrev TodoWent : PassRow → GotData → Type 0
  TodoWent row got = let e : Desk = todo_went row got (after row got) now d in Leads (coming e.row e.pass) (pass_tells row q.n now got) (written (has_written row) q)

  -- the cleaner answers
  good_none : (b : Bool) (p : Pass) → let row : PassRow = (if b then todo.Done else todo.Left left.Unclean) in let e : Desk = todo_over row p now d in coming e.row e.pass ≡ None
  good_none true p =
      let e : Desk = record d { pass = p; book = record d.book { messages = learned (known_of p) now d.book.messages } } in
      plain_none (past_todo now e).row (past_todo now e).pass (todo_keeps now e).1
  good_none false p =
      let e : Desk = record d { pass = p; last_left = digits p.n } in
      plain_none (past_todo now e).row (past_todo now e).pass (todo_keeps now e).1

  answer_none : (got : GotData) (p : Pass) → let e : Desk = todo_over (answer_row got) p now d in coming e.row e.pass ≡ None
  answer_none (came.Took bytes) p = good_none (bytes_eq bytes (43 ∷ [])) p
  answer_none got p = refl

  file_row : (row : PassRow) (got : GotData) → IsFile (pass_table.due_at row q) → MayCome (pass_table.due_at row q) got → ((told : Told) → IsAnswered (pass_table.due_at row q) told.answer → TodoWent row (came.Answered told)) → TodoWent row got
  file_row row got is may f = by_file (pass_table.due_at row q) is (λ g. TodoWent row g) got may f

module _ (now : ℕ) (controls : Controls) (q : Pass) (d : Desk) where
  abbrev Went : PassRow → GotData → Type 0
  Went row got = TodoWent now controls q d row got

  kept_leads : (row : PassRow) (got : GotData) → written true (after now controls q d row got) ≡ written true q → pass_tells row q.n now got ≡ None
      → Leads (To now controls q d (after now controls q d row got)) (pass_tells row q.n now got) (written true q)
  kept_leads row got same none = keep_leads (has_written (after now controls q d row got).row) (after now controls q d row got) q (pass_tells row q.n now got) same none

  went_leads : (row : PassRow) (got : GotData) → MayCome (pass_table.due_at row q) got → Went row got
  went_leads (todo.Clear g) got may = file_row now controls q d (todo.Clear g) got tt may (λ told fit. unwritten now controls q d (todo.Clear g) (came.Answered told) (clear_not g told.answer))
  went_leads todo.StatMess got may = file_row now controls q d todo.StatMess got tt may (λ told fit. unwritten now controls q d todo.StatMess (came.Answered told) (stated_not q told.answer))
  went_leads todo.OpenTodo got may = file_row now controls q d todo.OpenTodo got tt may (λ told fit. unwritten now controls q d todo.OpenTodo (came.Answered told) (open_not told.answer))
  went_leads (todo.ReadTodo fd) got may = file_row now controls q d (todo.ReadTodo fd) got tt may (λ told fit. unwritten now controls q d (todo.ReadTodo fd) (came.Answered told) (read_not q fd told.answer told.bytes))
  went_leads (todo.CloseTodo fd) got may = file_row now controls q d (todo.CloseTodo fd) got tt may (λ told fit. unwritten now controls q d (todo.CloseTodo fd) (came.Answered told) (sorted_not q (sort_todo controls q.todo)))
  went_leads (todo.Create target.Info) got may = file_row now controls q d (todo.Create target.Info) got tt may (λ told fit. unwritten now controls q d (todo.Create target.Info) (came.Answered told) (create_not told.answer))
  went_leads (todo.Create target.Local) got may = file_row now controls q d (todo.Create target.Local) got tt may
      (λ told fit. by_pass now controls q d (todo.Create target.Local) (came.Answered told) (kept_leads (todo.Create target.Local) (came.Answered told) refl refl))
  went_leads (todo.Create target.Remote) got may = file_row now controls q d (todo.Create target.Remote) got tt may
      (λ told fit. by_pass now controls q d (todo.Create target.Remote) (came.Answered told) (kept_leads (todo.Create target.Remote) (came.Answered told) refl refl))
  went_leads (todo.Append target.Info fd done) got may = file_row now controls q d (todo.Append target.Info fd done) got tt may
      (λ told fit. by_pass now controls q d (todo.Append target.Info fd done) (came.Answered told) (append_info now controls q d fd done told.answer))
  went_leads (todo.Append target.Local fd done) got may = file_row now controls q d (todo.Append target.Local fd done) got tt may
      (λ told fit. by_pass now controls q d (todo.Append target.Local fd done) (came.Answered told) (append_local now controls q d fd done told.answer))
  went_leads (todo.Append target.Remote fd done) got may = file_row now controls q d (todo.Append target.Remote fd done) got tt may
      (λ told fit. by_pass now controls q d (todo.Append target.Remote fd done) (came.Answered told) (append_remote now controls q d fd done told.answer))
  went_leads (todo.Sync g fd) got may = file_row now controls q d (todo.Sync g fd) got tt may (λ told fit. by_pass now controls q d (todo.Sync g fd) (came.Answered told) (kept_leads (todo.Sync g fd) (came.Answered told) refl refl))
  went_leads (todo.Close g fd) got may = file_row now controls q d (todo.Close g fd) got tt may (λ told fit. by_pass now controls q d (todo.Close g fd) (came.Answered told) (kept_leads (todo.Close g fd) (came.Answered told) refl refl))
  went_leads (todo.Shut fd y) got may = file_row now controls q d (todo.Shut fd y) got tt may (λ told fit. unwritten now controls q d (todo.Shut fd y) (came.Answered told) refl)
  went_leads todo.Give got may = by_pass now controls q d todo.Give got (kept_leads todo.Give got refl refl)
  went_leads todo.Answer got may =
      let e : Desk = todo_went todo.Answer got (after now controls q d todo.Answer got) now d in
      none_leads (coming e.row e.pass) (pass_tells todo.Answer q.n now got) (written true q) (answer_none now controls q d got (after now controls q d todo.Answer got))
  went_leads todo.Done got may = absurd may
  went_leads (todo.Left y) got may = absurd may
  went_leads todo.Lost got may = absurd may

-- Each row

pub row_leads : (row : Row) (now : ℕ) (got : GotData) (d : Desk) → MayCome (due_at row d) got → let e : Desk = act row now got d in Leads (coming e.row e.pass) (tells row d.pass now got) (coming row d.pass)
row_leads (at.Start row) now got d may = start_leads now d row got may
row_leads (at.Turn p) now got d may = absurd may
row_leads (at.FindTodo s) now got d may =
    let e : Desk = act (at.FindTodo s) now got d in none_leads (coming e.row e.pass) None None (searched_none (said got).way (said got).bytes s now d)
row_leads (at.ReadFile c n begun reading) now got d may =
    let row : Row = at.ReadFile c n begun reading in
    let e : Desk = act row now got d in
    none_leads (coming e.row e.pass) None None
    (by_reading (λ (x : Desk). coming x.row x.pass ≡ None) (read_on reading (said got)) c n (begun_at reading begun now) reading now (said got) d (λ next is. refl) (λ x k. plain_none x.row x.pass k.1))
row_leads at.InTodo now got d may = went_leads now d.book.controls d.pass d d.pass.row got may
row_leads (at.Ended status) now got d may = absurd may
row_leads row now got d may =
    let e : Desk = act row now got d in none_leads (coming e.row e.pass) (tells row d.pass now got) (coming row d.pass) (plain_none e.row e.pass (act_keeps row now got d tt).1)
