-- Which number of `todo` was left last, and from which name a search of `todo` goes on.
use Rattle.std.proofs.Common.{◌≡◌, ◌⊎◌, inl, inr, ⊎_elim, ℕ, List, [], ◌∷◌, nat_lt, Bool, true, false, if◌then◌else◌, Option, Some, None, refl, sym, ap, ◌∙◌, subst}
use Rattle.std.specs.Prelude.{codes, is_some, ◌-◌, ◌||◌}
use Rattle.address_rules.specs.declared.controls.Controls.{Controls}
use Rattle.bounce_record.specs.Returning.{return_begun}
use Rattle.bounce_record.specs.declared.note_row.NoteRow.{NoteRow}
use Rattle.bounce_record.specs.declared.note_row.NoteRow.TheVariants as written
use Rattle.call_fs.specs.Columns.{IsAnswerTo}
use Rattle.call_fs.specs.Program.{MayCome}
use Rattle.call_fs.specs.declared.calls.Answer.TheVariants as answer
use Rattle.call_fs.specs.declared.calls.Answer.{Answer}
use Rattle.call_fs.specs.declared.calls.CallData.TheVariants as call
use Rattle.call_fs.specs.declared.calls.Fd.{Fd}
use Rattle.call_fs.specs.declared.calls.FsError.TheVariants as why
use Rattle.call_fs.specs.declared.calls.Told.{Told}
use Rattle.call_fs.specs.declared.past.GotData.TheVariants as came
use Rattle.call_fs.specs.declared.past.GotData.{GotData}
use Rattle.call_fs.specs.declared.past.NeedData.TheVariants as needs
use Rattle.call_fs.specs.declared.past.NeedData.{NeedData}
use Rattle.call_fs.specs.declared.past.Own.{Own}
use Rattle.envelope_records.specs.declared.channel.Record.{Record}
use Rattle.mail_bytes.specs.Decimal.{digits}
use Rattle.retry_law.specs.Left.{NoNumberLeft, StraysWereGiven, is_left, leaves}
use Rattle.send_core.proofs.Coming.{by_file}
use Rattle.send_core.specs.Desk.{closed_by, goes, has_begun, next_idle, past_finish, past_todo, retried, retried_if, stands_at, sweep_due, told, told_all, told_by, turn_counted, turn_over, with_reader}
use Rattle.send_core.specs.Finish.{act_finish, act_sweep, bounce_on, finish_at, looked_up, returned_to, sweep_at, sweep_begun}
use Rattle.send_core.specs.Start.{entered, start_at}
use Rattle.send_core.specs.Table.{act, due_at, place_after, row_now, search_words}
use Rattle.send_core.specs.Turn.{act_mark, file_read, known_of, lost, mark_opened, mark_over, noted_at, pass_opened, put_later, requested, todo_found, todo_named, todo_none, todo_on, todo_over, todo_went, took, unlinked}
use Rattle.send_core.specs.declared.desk.Desk.{Desk}
use Rattle.send_parts.specs.declared.row.MarkRow.TheVariants as mark
use Rattle.send_parts.specs.declared.row.MarkRow.{MarkRow}
use Rattle.send_parts.specs.declared.row.Marked.{Marked}
use Rattle.send_parts.specs.declared.row.Point.TheVariants as point
use Rattle.send_parts.specs.declared.row.Point.{Point}
use Rattle.send_parts.specs.declared.row.Row.TheVariants as at
use Rattle.send_parts.specs.declared.row.Row.{Row}
use Rattle.send_jobs.specs.Lanes.{is_free_for, job_over}
use Rattle.send_jobs.specs.Sending.{lane}
use Rattle.send_jobs.specs.Slots.{attempt_in}
use Rattle.send_jobs.specs.declared.attempts.Attempt.{Attempt}
use Rattle.send_known.specs.declared.channel.Channel.TheVariants.{Local, Remote}
use Rattle.send_known.specs.declared.channel.Channel.{Channel}
use Rattle.send_jobs.specs.declared.jobs.Job.{Job}
use Rattle.send_known.specs.Messages.{learned}
use Rattle.send_parts.specs.Files.{message_number}
use Rattle.send_parts.specs.Finish.{finish_to}
use Rattle.send_parts.specs.Readings.{begun_at, read_on}
use Rattle.send_parts.specs.Replies.{Said, said}
use Rattle.send_parts.specs.Rows.{is_again}
use Rattle.send_parts.specs.Sweep.{sweep_to}
use Rattle.send_parts.specs.declared.reading.Progress.TheVariants.{Failed, Goes, Missing, Whole}
use Rattle.send_parts.specs.declared.reading.Progress.{Progress}
use Rattle.send_parts.specs.declared.reading.Reading.{Reading}
use Rattle.send_parts.specs.declared.reply.Way.TheVariants as way
use Rattle.send_parts.specs.declared.reply.Way.{Way}
use Rattle.send_parts.specs.declared.rows.FinishRow.TheVariants as finish
use Rattle.send_parts.specs.declared.rows.FinishRow.{FinishRow}
use Rattle.send_parts.specs.declared.rows.Search.TheVariants as search
use Rattle.send_parts.specs.declared.rows.Search.{Search}
use Rattle.send_parts.specs.declared.rows.StartRow.TheVariants as start
use Rattle.send_parts.specs.declared.rows.StartRow.{StartRow}
use Rattle.send_parts.specs.declared.rows.SweepRow.TheVariants as sweep
use Rattle.send_parts.specs.declared.rows.SweepRow.{SweepRow}
use Rattle.spawn_protocol.specs.Report.{read_on as reports_on}
use Rattle.spawn_protocol.specs.declared.report.Report.{Report}
use Rattle.todo_pass.specs.Table.{Pass, answer_row, moved_at}
use Rattle.todo_pass.specs.declared.row.Row.TheVariants as todo
use Rattle.todo_pass.specs.declared.row.Row.{Row as PassRow}

-- a row of neither the start, nor a todo pass, nor a reading, at which no search goes on after a name
abbrev pub is_plain : Row → Bool
is_plain (at.Start row) = false
is_plain (at.ReadFile c n begun reading) = false
is_plain at.InTodo = false
is_plain (at.FindTodo (search.AfterStray again)) = false
is_plain row = true

-- no number is left by it, and it leads to such a row
abbrev pub Keeps : Desk → Desk → Type 0
Keeps d e = (e.last_left ≡ d.last_left) × (is_plain e.row ≡ true)

-- a search goes on after a name
abbrev is_stray : Row → Bool
is_stray (at.FindTodo (search.AfterStray again)) = true
is_stray row = false

if_keeps : (b : Bool) (d x y : Desk) → Keeps d x → Keeps d y → Keeps d (if b then x else y)
if_keeps true d x y p q = p
if_keeps false d x y p q = q

-- Where a turn ends

counted_keeps : (turns : Option ℕ) (d : Desk) → Keeps d (turn_counted turns d)
counted_keeps None d = (refl, refl)
counted_keeps (Some k) d = if_keeps (nat_lt 1 k) d (record d { turns = Some (k - 1); row = at.Turn point.TakeLocal }) (record d { turns = Some 0; row = at.Ended 0 }) (refl, refl) (refl, refl)

over_keeps : (d : Desk) → Keeps d (turn_over d)
over_keeps d = counted_keeps d.turns (record d { busy = false })

finish_keeps : (now : ℕ) (d : Desk) → Keeps d (past_finish now d)
finish_keeps now d = if_keeps (sweep_due now d.swept) d (stands_at d point.Sweep) (turn_over d) (refl, refl) (over_keeps d)

pub todo_keeps : (now : ℕ) (d : Desk) → Keeps d (past_todo now d)
todo_keeps now d = if_keeps (is_some (next_idle now d) || sweep_due now d.swept) d (stands_at d point.Finish) (turn_over d) (refl, refl) (over_keeps d)

-- The search of `todo`

pub none_keeps : (again : Bool) (left : List ℕ) (now : ℕ) (d : Desk) → Keeps d (todo_none again left now d)
none_keeps true left now d = todo_keeps now d
none_keeps false [] now d = todo_keeps now d
none_keeps false (b ∷ bs) now d = (refl, refl)

found_left : (o : Option ℕ) (text : List ℕ) (s : Search) (d : Desk) → (todo_found o text s d).last_left ≡ d.last_left
found_left None text s d = refl
found_left (Some n) text s d = refl

found_stray : (o : Option ℕ) (text : List ℕ) (s : Search) (d : Desk) → is_stray (todo_found o text s d).row ≡ true → o ≡ None
found_stray None text s d e = refl
found_stray (Some n) text s d e = absurd (cc)

named_left : (w : Way) (text : List ℕ) (s : Search) (now : ℕ) (d : Desk) → (todo_named w text s now d).last_left ≡ d.last_left
named_left way.Fine text s now d = found_left (message_number text) text s d
named_left way.Over text s now d = (none_keeps (is_again s) d.last_left now d).0
named_left way.Absent text s now d = (none_keeps (is_again s) d.last_left now d).0
named_left way.Broken text s now d = (none_keeps (is_again s) d.last_left now d).0
named_left way.NoMemory text s now d = (none_keeps (is_again s) d.last_left now d).0

no_stray : {A : Type 0} (row : Row) → is_plain row ≡ true → is_stray row ≡ true → A
no_stray (at.FindTodo search.AfterLeft) plain e = absurd (cc)
no_stray (at.FindTodo search.FromStart) plain e = absurd (cc)
no_stray (at.FindTodo (search.AfterStray again)) plain e = absurd (cc)
no_stray row plain e = absurd (cc)

unstray : (row : Row) → is_plain row ≡ true → is_stray row ≡ false
unstray row plain = by (is_stray row) refl where
  by : (b : Bool) → is_stray row ≡ b → b ≡ false
  by true e = no_stray row plain e
  by false e = refl

named_stray : (w : Way) (text : List ℕ) (s : Search) (now : ℕ) (d : Desk) → is_stray (todo_named w text s now d).row ≡ true → (w ≡ way.Fine) × (message_number text ≡ None)
named_stray way.Fine text s now d e = (refl, found_stray (message_number text) text s d e)
named_stray way.Over text s now d e = no_stray (todo_none (is_again s) d.last_left now d).row (none_keeps (is_again s) d.last_left now d).1 e
named_stray way.Absent text s now d e = no_stray (todo_none (is_again s) d.last_left now d).row (none_keeps (is_again s) d.last_left now d).1 e
named_stray way.Broken text s now d e = no_stray (todo_none (is_again s) d.last_left now d).row (none_keeps (is_again s) d.last_left now d).1 e
named_stray way.NoMemory text s now d e = no_stray (todo_none (is_again s) d.last_left now d).row (none_keeps (is_again s) d.last_left now d).1 e

-- A todo pass

-- it goes on, or leads to such a row
abbrev pub IsPast : Row → Type 0
IsPast row = (is_plain row ≡ true) ⊎ (row ≡ at.InTodo)

abbrev KeepsUnless : Bool → Desk → Desk → Type 0
KeepsUnless left d e = (left ≡ false → e.last_left ≡ d.last_left) × IsPast e.row

on_keeps : (row : PassRow) (p : Pass) (now : ℕ) (d : Desk) → KeepsUnless (is_left row) d (todo_on row p now d)
on_keeps (todo.Left y) p now d = let after : Desk = record d { pass = p; last_left = digits p.n } in ((λ e. absurd (cc)), inl (todo_keeps now after).1)
on_keeps todo.Lost p now d = ((λ e. refl), inl refl)
on_keeps row p now d = ((λ e. refl), inr refl)

over_pass_keeps : (row : PassRow) (p : Pass) (now : ℕ) (d : Desk) → KeepsUnless (is_left row) d (todo_over row p now d)
over_pass_keeps todo.Done p now d =
    let after : Desk = record d { pass = p; book = record d.book { messages = learned (known_of p) now d.book.messages } } in
    let k = todo_keeps now after in ((λ e. k.0), inl k.1)
over_pass_keeps (todo.Left y) p now d = on_keeps (todo.Left y) p now d
over_pass_keeps todo.Lost p now d = on_keeps todo.Lost p now d
over_pass_keeps row p now d = on_keeps row p now d

pub went_keeps : (controls : Controls) (row : PassRow) (q : Pass) (got : GotData) (now : ℕ) (d : Desk) → KeepsUnless (is_left (moved_at controls row q now got).row) d (todo_went row got (moved_at controls row q now got) now d)
went_keeps controls todo.Answer q got now d = over_pass_keeps (answer_row got) (moved_at controls todo.Answer q now got) now d
went_keeps controls row q got now d = on_keeps (moved_at controls row q now got).row (moved_at controls row q now got) now d

-- Finish and sweep

finish_at_keeps : (row : FinishRow) (n now : ℕ) (d : Desk) → Keeps d (finish_at row n now d)
finish_at_keeps finish.Later n now d = finish_keeps now _
finish_at_keeps finish.Over n now d = finish_keeps now _
finish_at_keeps finish.Lost n now d = (refl, refl)
finish_at_keeps row n now d = (refl, refl)

act_finish_keeps : (row : FinishRow) (n now : ℕ) (got : GotData) (d : Desk) → Keeps d (act_finish row n now got d)
act_finish_keeps finish.OpenBounce n now got d =
    let r = bounce_on n now got (return_begun n) d.book in finish_at_keeps (returned_to r.row) n now (record d { bounce = r; busy = true })
act_finish_keeps finish.Return n now got d =
    let r = bounce_on n now got d.bounce d.book in finish_at_keeps (returned_to r.row) n now (record d { bounce = r })
act_finish_keeps row n now got d = finish_at_keeps (finish_to row (said got).way) n now d

sweep_at_keeps : (row : SweepRow) (d : Desk) → Keeps d (sweep_at row d)
sweep_at_keeps sweep.Over d = over_keeps d
sweep_at_keeps sweep.Lost d = (refl, refl)
sweep_at_keeps row d = (refl, refl)

act_sweep_keeps : (row : SweepRow) (now : ℕ) (s : Said) (d : Desk) → Keeps d (act_sweep row now s d)
act_sweep_keeps sweep.First now s d = sweep_at_keeps (sweep_to sweep.First now s d.book) (looked_up sweep.First s (sweep_begun sweep.First now d))
act_sweep_keeps row now s d = sweep_at_keeps (sweep_to row now s d.book) (looked_up row s (sweep_begun row now d))

-- Jobs and marks

closed_keeps : (o : Option Job) (c : Channel) (n : ℕ) (p : Point) (d : Desk) → Keeps d (closed_by o c n p d)
closed_keeps None c n p d = (refl, refl)
closed_keeps (Some job) c n p d = if_keeps job.unmarked d (retried c n job.begun (stands_at d p)) (goes d (at.UnlinkFile c n p)) (refl, refl) (refl, refl)

mark_keeps : (b : Bool) (m : Marked) (d : Desk) → Keeps d (mark_over b m d)
mark_keeps true m d = closed_keeps _ m.channel m.n point.Reports _
mark_keeps false m d = closed_keeps _ m.channel m.n point.Reports _

noted_keeps : (row : NoteRow) (m : Marked) (d : Desk) → Keeps d (noted_at row m d)
noted_keeps written.Written m d = (refl, refl)
noted_keeps written.Failed m d = mark_keeps false m d
noted_keeps row m d = (refl, refl)

opened_keeps : (w : Way) (m : Marked) (fd : Fd) (d : Desk) → Keeps d (mark_opened w m fd d)
opened_keeps way.Fine m fd d = (refl, refl)
opened_keeps way.Over m fd d = mark_keeps false m d
opened_keeps way.Absent m fd d = mark_keeps false m d
opened_keeps way.Broken m fd d = mark_keeps false m d
opened_keeps way.NoMemory m fd d = mark_keeps false m d

act_mark_keeps : (row : MarkRow) (m : Marked) (got : GotData) (d : Desk) → Keeps d (act_mark row m got d)
act_mark_keeps mark.Note m got d = noted_keeps _ m _
act_mark_keeps mark.Noting m got d = noted_keeps _ m _
act_mark_keeps mark.Open m got d = opened_keeps (said got).way m (said got).fd d
act_mark_keeps (mark.Write fd) m got d = (refl, refl)
act_mark_keeps (mark.Close fd done) m got d = mark_keeps done m d

unlinked_keeps : (w : Way) (c : Channel) (n : ℕ) (p : Point) (now : ℕ) (d : Desk) → Keeps d (unlinked w c n p now d)
unlinked_keeps way.Fine c n p now d = (refl, refl)
unlinked_keeps way.Over c n p now d = (refl, refl)
unlinked_keeps way.Absent c n p now d = (refl, refl)
unlinked_keeps way.Broken c n p now d = (refl, refl)
unlinked_keeps way.NoMemory c n p now d = (refl, refl)

-- A taking

retried_left : (o : Option Job) (c : Channel) (n : ℕ) (d : Desk) → (retried_if o c n d).last_left ≡ d.last_left
retried_left None c n d = refl
retried_left (Some job) c n d = refl

told_left : (o : Option Attempt) (c : Channel) (r : Report) (d : Desk) → (told_by o c r d).last_left ≡ d.last_left
told_left None c r d = refl
told_left (Some a) c r d = if_left _ _ _ refl (retried_left _ c a.n _) where
  if_left : (b : Bool) (x y : Desk) → x.last_left ≡ d.last_left → y.last_left ≡ d.last_left → (if b then x else y).last_left ≡ d.last_left
  if_left true x y p q = p
  if_left false x y p q = q

told_all_left : (c : Channel) (rs : List Report) (d : Desk) → (told_all c rs d).last_left ≡ d.last_left
told_all_left c [] d = refl
told_all_left c (r ∷ rs) d = told_all_left c rs (told c r d) ∙ told_left (attempt_in (lane c d.slots).slots r.slot) c r d

lost_none : (c : Channel) → is_plain (lost c) ≡ true
lost_none Local = refl
lost_none Remote = refl

took_keeps : (w : Way) (bytes : List ℕ) (c : Channel) (d : Desk) → Keeps d (took w bytes c d)
took_keeps way.Fine bytes Local d = let it = reports_on d.local.reader bytes in (told_all_left Local it.0 (with_reader Local it.1 d), refl)
took_keeps way.Fine bytes Remote d = let it = reports_on d.remote.reader bytes in (told_all_left Remote it.0 (with_reader Remote it.1 d), refl)
took_keeps way.Over bytes c d = (refl, lost_none c)
took_keeps way.Absent bytes c d = (refl, lost_none c)
took_keeps way.Broken bytes c d = (refl, lost_none c)
took_keeps way.NoMemory bytes c d = (refl, lost_none c)

-- A pass

begun_left : (c : Channel) (n begun : ℕ) (rs : List Record) (d : Desk) → (has_begun c n begun rs d).last_left ≡ d.last_left
begun_left Local n begun rs d = refl
begun_left Remote n begun rs d = refl

pass_keeps : (o : Option (List Record)) (c : Channel) (n begun now : ℕ) (d : Desk) → Keeps d (pass_opened o c n begun now d)
pass_keeps None c n begun now d = (refl, refl)
pass_keeps (Some rs) c n begun now d =
    let after : Desk = has_begun c n begun rs d in
    let k = closed_keeps (job_over n (lane c after.slots)) c n (point.Pass c false) after in
    if_keeps (is_free_for n (lane c d.slots)) d (closed_by (job_over n (lane c after.slots)) c n (point.Pass c false) after) (put_later c n now d) (k.0 ∙ begun_left c n begun rs d, k.1) (refl, refl)

abbrev pub is_going : Progress → Bool
is_going (Goes next) = true
is_going p = false

pub read_keeps : (p : Progress) (c : Channel) (n begun : ℕ) (reading : Reading) (now : ℕ) (s : Said) (d : Desk) → is_going p ≡ false → Keeps d (file_read p c n begun reading now s d)
read_keeps (Goes next) c n begun reading now s d over = absurd (cc)
read_keeps Whole c n begun reading now s d over = pass_keeps _ c n begun now d
read_keeps Missing c n begun reading now s d over = (refl, refl)
read_keeps Failed c n begun reading now s d over = (refl, refl)

-- what is so of a reading that goes on, and of each row that a reading leads to at its end
pub by_reading : (P : Desk → Type 0) (p : Progress) (c : Channel) (n begun : ℕ) (reading : Reading) (now : ℕ) (s : Said) (d : Desk)
    → ((next : Reading) → p ≡ Goes next → P (file_read (Goes next) c n begun reading now s d)) → ((e : Desk) → Keeps d e → P e) → P (file_read p c n begun reading now s d)
by_reading P (Goes next) c n begun reading now s d goes ends = goes next refl
by_reading P Whole c n begun reading now s d goes ends = ends (file_read Whole c n begun reading now s d) (read_keeps Whole c n begun reading now s d refl)
by_reading P Missing c n begun reading now s d goes ends = ends (file_read Missing c n begun reading now s d) (read_keeps Missing c n begun reading now s d refl)
by_reading P Failed c n begun reading now s d goes ends = ends (file_read Failed c n begun reading now s d) (read_keeps Failed c n begun reading now s d refl)

sent_keeps : (w : Way) (c : Channel) (d : Desk) → Keeps d (requested w c d)
sent_keeps way.Fine Local d = if_keeps _ d _ (stands_at d (point.Pass Local false)) (refl, refl) (refl, refl)
sent_keeps way.Fine Remote d = if_keeps _ d _ (stands_at d (point.Pass Remote false)) (refl, refl) (refl, refl)
sent_keeps way.Over c d = (refl, lost_none c)
sent_keeps way.Absent c d = (refl, lost_none c)
sent_keeps way.Broken c d = (refl, lost_none c)
sent_keeps way.NoMemory c d = (refl, lost_none c)

-- A row

start_none : (row : StartRow) → is_stray (start_at row) ≡ false
start_none start.Over = refl
start_none (start.Ended status) = refl
start_none row = refl

-- a row of neither the start, nor a reading, nor a todo pass or the search before it
abbrev pub IsOther : Row → Type 0
IsOther (at.Start row) = ⊥
IsOther (at.Turn p) = ⊥
IsOther (at.ReadFile c n begun reading) = ⊥
IsOther (at.FindTodo s) = ⊥
IsOther at.InTodo = ⊥
IsOther (at.Ended status) = ⊥
IsOther row = Unit {0}

pub act_keeps : (row : Row) (now : ℕ) (got : GotData) (d : Desk) → IsOther row → Keeps d (act row now got d)
act_keeps (at.TakeLink c) now got d is = took_keeps (said got).way (said got).bytes c d
act_keeps (at.Mark row m) now got d is = act_mark_keeps row m got d
act_keeps (at.UnlinkFile c n p) now got d is = unlinked_keeps (said got).way c n p now d
act_keeps (at.ReadFile c n begun reading) now got d is = absurd is
act_keeps (at.Request c) now got d is = sent_keeps (said got).way c d
act_keeps (at.Finish row n) now got d is = act_finish_keeps row n now got d
act_keeps (at.Sweep row) now got d is = act_sweep_keeps row now (said got) d
act_keeps (at.Start row) now got d is = absurd is
act_keeps (at.Turn p) now got d is = absurd is
act_keeps (at.FindTodo s) now got d is = absurd is
act_keeps at.InTodo now got d is = absurd is
act_keeps (at.Ended status) now got d is = absurd is

act_left : (row : Row) (event : Own) (d : Desk) → leaves row d event ≡ false → (act row event.read event.came d).last_left ≡ d.last_left
act_left (at.Start row) event d stays = refl
act_left (at.Turn p) event d stays = refl
act_left (at.ReadFile c n begun reading) event d stays = by_reading (λ (e : Desk). e.last_left ≡ d.last_left) (read_on reading (said event.came)) c n (begun_at reading begun event.read) reading event.read (said event.came) d
    (λ next e. refl) (λ e k. k.0)
act_left (at.FindTodo s) event d stays = named_left (said event.came).way (said event.came).bytes s event.read d
act_left at.InTodo event d stays = (went_keeps d.book.controls d.pass.row d.pass event.came event.read d).0 stays
act_left (at.Ended status) event d stays = refl
act_left row event d stays = (act_keeps row event.read event.came d tt).0

pub no_number_left : NoNumberLeft
no_number_left turns [] none = refl
no_number_left turns (event ∷ past) none =
    let d : Desk = place_after turns past in
    act_left (row_now d event.read event.ready) event d none.1 ∙ no_number_left turns past none.0

-- a search that gave a name which is no number
abbrev IsStray : Row → GotData → Type 0
IsStray row got = (s : Search) × (row ≡ at.FindTodo s) × ((said got).way ≡ way.Fine) × (message_number (said got).bytes ≡ None)

act_stray : (row : Row) (now : ℕ) (got : GotData) (d : Desk) → MayCome (due_at row d) got → is_stray (act row now got d).row ≡ true → IsStray row got
act_stray (at.Start row) now got d may e = let x : StartRow = (entered row (said got) d).book.row in absurd (cc (sym e ∙ start_none x))
act_stray (at.Turn p) now got d may e = absurd may
act_stray (at.ReadFile c n begun reading) now got d may e =
    let none : is_stray (act (at.ReadFile c n begun reading) now got d).row ≡ false = by_reading (λ (x : Desk). is_stray x.row ≡ false) (read_on reading (said got)) c n (begun_at reading begun now) reading now (said got) d
    (λ next is. refl) (λ x k. unstray x.row k.1) in
    absurd (cc (sym e ∙ none))
act_stray (at.FindTodo s) now got d may e = let w = named_stray (said got).way (said got).bytes s now d e in (s, refl, w.0, w.1)
act_stray at.InTodo now got d may e =
    let row : Row = (act at.InTodo now got d).row in
    ⊎_elim (λ (plain : is_plain row ≡ true). no_stray row plain e) (λ (goes : row ≡ at.InTodo). absurd (cc (sym e ∙ ap is_stray goes))) (went_keeps d.book.controls d.pass.row d.pass got now d).1
act_stray (at.Ended status) now got d may e = absurd may
act_stray row now got d may e = no_stray (act row now got d).row (act_keeps row now got d tt).1 e

-- what came of such a search
abbrev Gives : GotData → Type 0
Gives got = (told : Told) × (got ≡ came.Answered told) × (name : List ℕ) × (told.answer ≡ answer.Name name) × (message_number name ≡ None)

names : (dir after : List ℕ) (told : Answer) (bytes : List ℕ) → IsAnswerTo (call.NextName dir after) told → let s : Said = said (came.Answered (record { answer = told; bytes = bytes })) in
    s.way ≡ way.Fine → message_number s.bytes ≡ None → (name : List ℕ) × (told ≡ answer.Name name) × (message_number name ≡ None)
names dir after (answer.Name name) bytes fit fine stray = (name, refl, stray)
names dir after answer.NoName bytes fit fine stray = absurd (cc)
names dir after (answer.Refused why.NotThere) bytes fit fine stray = absurd (cc)
names dir after (answer.Refused why.Memory) bytes fit fine stray = absurd (cc)
names dir after (answer.Refused why.Exists) bytes fit fine stray = absurd (cc)
names dir after (answer.Refused why.Fault) bytes fit fine stray = absurd (cc)
names dir after told bytes fit fine stray = absurd fit

gives : (s : Search) (d : Desk) (got : GotData) → MayCome (due_at (at.FindTodo s) d) got → (said got).way ≡ way.Fine → message_number (said got).bytes ≡ None → Gives got
gives s d got may fine stray = by_file (due_at (at.FindTodo s) d) tt (λ g. (said g).way ≡ way.Fine → message_number (said g).bytes ≡ None → Gives g) got may
    (λ told fit fine stray. let w = names (codes "todo") (search_words s d) told.answer told.bytes fit fine stray in (told, refl, w.0, w.1, w.2)) fine stray

pub strays_were_given : StraysWereGiven
strays_were_given turns [] run again is = absurd (cc)
strays_were_given turns (event ∷ before) run again is = (event, before, refl, record { after = search_words it.0 d; due = due; told = g.0; came = g.1; name = g.2; gives = g.3; stray = g.4 }) where
  d : Desk
  d = place_after turns before

  row : Row
  row = row_now d event.read event.ready

  may : MayCome (due_at row d) event.came
  may = subst (λ (x : NeedData). MayCome x event.came) (sym run.1.0) run.1.1

  it : IsStray row event.came
  it = act_stray row event.read event.came d may (ap is_stray is)

  due : event.due ≡ needs.File (call.NextName (codes "todo") (search_words it.0 d))
  due = sym run.1.0 ∙ ap (λ (r : Row). due_at r d) it.1

  g : Gives event.came
  g = gives it.0 d event.came (subst (λ (r : Row). MayCome (due_at r d) event.came) it.1 may) it.2 it.3
