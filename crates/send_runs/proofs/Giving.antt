-- What is to be given, by a past: records of one message, and none of a message whose job has nothing left to read.
use Rattle.std.proofs.Common.{◌≡◌, ℕ, List, [], ◌∷◌, ◌++◌, drop, length, Bool, true, false, Option, Some, None, refl, sym, ap, ◌∙◌, subst}
use Rattle.std.specs.Prelude.{◌||◌}
use Rattle.std.specs.List.{list_any}
use Rattle.call_fs.specs.declared.calls.Answer.{Answer}
use Rattle.call_fs.specs.declared.calls.Answer.TheVariants as answer
use Rattle.call_fs.specs.declared.calls.CallData.{CallData}
use Rattle.call_fs.specs.declared.calls.CallData.TheVariants as call
use Rattle.call_fs.specs.declared.calls.Fd.{Fd}
use Rattle.call_fs.specs.declared.calls.FsError.TheVariants as why
use Rattle.call_fs.specs.declared.calls.How.TheVariants as how
use Rattle.call_fs.specs.declared.calls.Told.{Told}
use Rattle.call_fs.specs.declared.past.GotData.{GotData}
use Rattle.call_fs.specs.declared.past.GotData.TheVariants as came
use Rattle.call_fs.specs.declared.past.NeedData.{NeedData}
use Rattle.call_fs.specs.declared.past.NeedData.TheVariants as needs
use Rattle.call_fs.specs.declared.past.Own.{Own}
use Rattle.call_fs.specs.declared.program.Port.{Port}
use Rattle.call_fs.specs.declared.program.Port.TheVariants as port
use Rattle.envelope_records.specs.declared.channel.Record.{Record}
use Rattle.queue_paths.specs.Names.{Name, parse}
use Rattle.queue_paths.specs.Names.Name.{Of}
use Rattle.queue_paths.specs.Names.Part.{Bounce as BounceFile, Local as LocalFile, Remote as RemoteFile}
use Rattle.send_core.specs.Past.{Account, Happening, Owed, Source, Task, Work, account, account_by, called, closed, closed_if, given, given_up, happening, news, opened, settle, settle_all, settle_by, taken, tasks_by, took, uncreated_note, unopened_note, whole_of}
use Rattle.send_core.specs.Past.Happening.{Gives, GivesUp, Marks, Nothing, Reads, Takes}
use Rattle.send_core.specs.Past.Work.{Missing, Noting, Reading}
use Rattle.send_core.specs.Past as past_of
use Rattle.send_known.specs.declared.channel.Channel.{Channel}
use Rattle.send_known.specs.declared.channel.Channel.TheVariants.{Local, Remote}
use Rattle.send_links.specs.Records.{records_of}
use Rattle.spawn_protocol.specs.declared.report.Report.{Report}
use Rattle.bounce_record.specs.declared.note_row.NoteRow.{NoteRow}
use Rattle.bounce_record.specs.declared.note_row.NoteRow.TheVariants as written
use Rattle.bounce_record.specs.declared.return_row.ReturnRow.{ReturnRow}
use Rattle.bounce_record.specs.declared.return_row.ReturnRow.TheVariants as back
use Rattle.bounce_record.specs.Returning.{Returning, due_at as return_due_at}
use Rattle.bounce_record.specs.Writing.{Writing, due_at as note_due_at}
use Rattle.queue_paths.specs.declared.names.Name.TheVariants as name
use Rattle.send_core.specs.Table.{due_at}
use Rattle.send_core.specs.declared.desk.Desk.{Desk}
use Rattle.send_parts.specs.declared.row.MarkRow.TheVariants as mark
use Rattle.send_parts.specs.declared.row.Row.{Row}
use Rattle.send_parts.specs.declared.row.Row.TheVariants as at
use Rattle.send_parts.specs.Channels.{file_of}
use Rattle.send_parts.specs.declared.reading.Reading.{Reading as FileReading}
use Rattle.send_parts.specs.declared.reading.Reading.TheVariants.{Closing, Going, Opening, Shutting}
use Rattle.send_parts.specs.declared.rows.FinishRow.TheVariants as finish
use Rattle.send_parts.specs.declared.rows.StartRow.TheVariants as start
use Rattle.send_parts.specs.declared.rows.SweepRow.TheVariants as sweep
use Rattle.send_parts.specs.declared.step.Step.{Step}
use Rattle.send_parts.specs.declared.step.Step.TheVariants as step
use Rattle.send_parts.specs.Readings.{reading_step}
use Rattle.send_parts.specs.Steps.{due_by}
use Rattle.todo_pass.specs.declared.row.Row.{Row as PassRow}
use Rattle.todo_pass.specs.declared.row.Row.TheVariants as todo
use Rattle.todo_pass.specs.Table.{Pass}
use Rattle.todo_pass.specs.Table as pass_table
use Rattle.send_runs.specs.Dues.{is_task}
use Rattle.send_runs.proofs.Trials.{IsIdle}
use Rattle.send_runs.proofs.Quiet.{differs}

-- Records of one message

abbrev pub AllOn : ℕ → List Task → Type 0
AllOn m [] = Unit {0}
AllOn m (t ∷ ts) = (t.n ≡ m) × AllOn m ts

abbrev pub AreOfOne : List Task → Type 0
AreOfOne ts = (m : ℕ) × AllOn m ts

all_drop : (m : ℕ) (ts : List Task) → AllOn m ts → AllOn m (drop 1 ts)
all_drop m [] h = h
all_drop m (t ∷ ts) h = h.1

pub none_on : (m n : ℕ) (ts : List Task) → (m ≡ n → ⊥) → AllOn m ts → list_any (is_task n) ts ≡ false
none_on m n [] apart h = refl
none_on m n (t ∷ ts) apart h = ap (λ (b : Bool). b || list_any (is_task n) ts) (differs n t.n (λ e. apart (sym h.0 ∙ sym e))) ∙ none_on m n ts apart h.1

one_on : (n : ℕ) (dying done : Bool) (place : ℕ) (address : List ℕ) (rs : List Record) → AllOn n (tasks_by n dying (Some rs)) → AllOn n (tasks_by n dying (Some (record { done = done; place = place; address = address } ∷ rs)))
one_on n dying true place address rs h = h
one_on n dying false place address rs h = (refl, h)

records_on : (n : ℕ) (dying : Bool) (rs : List Record) → AllOn n (tasks_by n dying (Some rs))
records_on n dying [] = tt
records_on n dying (r ∷ rs) = one_on n dying r.done r.place r.address rs (records_on n dying rs)

pub tasks_on : (n : ℕ) (dying : Bool) (o : Option (List Record)) → AllOn n (tasks_by n dying o)
tasks_on n dying None = tt
tasks_on n dying (Some rs) = records_on n dying rs

-- What an event reads

abbrev read_by : Happening → List Task
read_by (Reads ts) = ts
read_by other = []

abbrev OneBy : Happening → Type 0
OneBy h = AreOfOne (read_by h)

nothing : AreOfOne []
nothing = (0, tt)

one_whole : (of c : Channel) (s : Source) → OneBy (whole_of of c s)
one_whole Local Local s = (s.n, tasks_on s.n s.dying (records_of s.bytes))
one_whole Remote Remote s = (s.n, tasks_on s.n s.dying (records_of s.bytes))
one_whole Local Remote s = nothing
one_whole Remote Local s = nothing

one_up : (c : Channel) (owed : List Owed) → OneBy (given_up c owed)
one_up Local owed = nothing
one_up Remote [] = nothing
one_up Remote (first ∷ rest) = nothing

one_close : (w : Option Work) (fd : Fd) (owed : List Owed) (c : Channel) → OneBy (closed w fd owed c)
one_close None fd owed c = nothing
one_close (Some (Reading s)) fd owed c = by (past_of.ends s fd) where
  by : (b : Bool) → OneBy (closed_if b s c)
  by true = one_whole s.channel c s
  by false = nothing
one_close (Some Missing) fd owed c = nothing
one_close (Some (Noting f true)) fd owed c = nothing
one_close (Some (Noting f false)) fd owed c = one_up c owed

one_open : (x : Option Name) (c : Channel) → OneBy (opened x c)
one_open (Some (Of LocalFile n)) Local = nothing
one_open (Some (Of RemoteFile n)) Remote = nothing
one_open x c = nothing

one_note : (told : Answer) (owed : List Owed) (c : Channel) → OneBy (unopened_note told owed c)
one_note (answer.Opened fd) owed c = nothing
one_note (answer.Refused why.NotThere) owed c = nothing
one_note told owed c = one_up c owed

one_create : (x : Option Name) (told : Answer) (owed : List Owed) (c : Channel) → OneBy (uncreated_note x told owed c)
one_create (Some (Of BounceFile n)) (answer.Created fd number) owed c = nothing
one_create (Some (Of BounceFile n)) told owed c = one_up c owed
one_create x told owed c = nothing

one_call : (call : CallData) (told : Told) (w : Option Work) (owed : List Owed) (c : Channel) → OneBy (called call told w owed c)
one_call (call.Close fd) told w owed c = one_close w fd owed c
one_call (call.Open name how.Write) told w owed c = one_open (parse name) c
one_call (call.Open name how.Append) told w owed c = one_note told.answer owed c
one_call (call.CreateExcl name) told w owed c = one_create (parse name) told.answer owed c
one_call other told w owed c = nothing

one_taken : (p : Port) (c : Channel) (got : GotData) → OneBy (taken p c got)
one_taken port.Lspawn Local (came.Took bytes) = nothing
one_taken port.Rspawn Remote (came.Took bytes) = nothing
one_taken p c got = nothing

one_given : (p : Port) (c : Channel) (text : List ℕ) (got : GotData) → OneBy (given p c text got)
one_given port.Lspawn Local (slot ∷ rest) came.Gave = nothing
one_given port.Rspawn Remote (slot ∷ rest) came.Gave = nothing
one_given p c text got = nothing

one_event : (due : NeedData) (got : GotData) (w : Option Work) (owed : List Owed) (c : Channel) → OneBy (happening due got w owed c)
one_event (needs.File call) (came.Answered told) w owed c = one_call call told w owed c
one_event (needs.Take p) got w owed c = one_taken p c got
one_event (needs.Give p text) got w owed c = one_given p c text got
one_event due got w owed c = nothing

-- Reports leave it

settled_gives : (o : Option Task) (r : Report) (a : Account) → (settle_by o r a).to_give ≡ a.to_give
settled_gives None r a = refl
settled_gives (Some t) r a = refl

all_gives : (rs : List Report) (a : Account) → (settle_all rs a).to_give ≡ a.to_give
all_gives [] a = refl
all_gives (r ∷ rs) a = all_gives rs (settle r a) ∙ settled_gives (a.in_flight r.slot) r a

took_gives : (o : Option (List ℕ)) (bytes : List ℕ) (a : Account) → (took o bytes a).to_give ≡ a.to_give
took_gives None bytes a = refl
took_gives (Some before) bytes a = all_gives (news before bytes) (record a { heard = Some (before ++ bytes) })

one_after : (h : Happening) (a : Account) → OneBy h → AreOfOne a.to_give → AreOfOne (account_by h a).to_give
one_after Nothing a read was = was
one_after (Takes bytes) a read was = subst AreOfOne (sym (took_gives a.heard bytes a)) was
one_after (Gives slot) a read was = (was.0, all_drop was.0 a.to_give was.1)
one_after (Reads ts) a read was = read
one_after Marks a read was = was
one_after GivesUp a read was = was

-- in any past
pub one_to_give : (c : Channel) (past : List Own) → AreOfOne (account c past).to_give
one_to_give c [] = nothing
one_to_give c (event ∷ before) = one_after (happening event.due event.came (past_of.work before) (account Local before).to_mark c) (account c before)
    (one_event event.due event.came (past_of.work before) (account Local before).to_mark c) (one_to_give c before)

-- Events that leave what is to be given: no request is given, and no channel file read

abbrev IsKeeping : Happening → Type 0
IsKeeping (Gives slot) = ⊥
IsKeeping (Reads ts) = ⊥
IsKeeping other = Unit {0}

keeping : (h : Happening) (a : Account) → IsKeeping h → (account_by h a).to_give ≡ a.to_give
keeping Nothing a is = refl
keeping (Takes bytes) a is = took_gives a.heard bytes a
keeping (Gives slot) a is = absurd is
keeping (Reads ts) a is = absurd is
keeping Marks a is = refl
keeping GivesUp a is = refl

keeps_up : (c : Channel) (owed : List Owed) → IsKeeping (given_up c owed)
keeps_up Local owed = tt
keeps_up Remote [] = tt
keeps_up Remote (first ∷ rest) = tt

keeps_close : (w : Option Work) (fd : Fd) (owed : List Owed) (c : Channel) → IsIdle w → IsKeeping (closed w fd owed c)
keeps_close None fd owed c idle = tt
keeps_close (Some (Reading s)) fd owed c idle = absurd idle
keeps_close (Some Missing) fd owed c idle = tt
keeps_close (Some (Noting f true)) fd owed c idle = tt
keeps_close (Some (Noting f false)) fd owed c idle = keeps_up c owed

keeps_open : (x : Option Name) (c : Channel) → IsKeeping (opened x c)
keeps_open (Some (Of LocalFile n)) Local = tt
keeps_open (Some (Of RemoteFile n)) Remote = tt
keeps_open x c = tt

keeps_note : (told : Answer) (owed : List Owed) (c : Channel) → IsKeeping (unopened_note told owed c)
keeps_note (answer.Opened fd) owed c = tt
keeps_note (answer.Refused why.NotThere) owed c = tt
keeps_note told owed c = keeps_up c owed

keeps_create : (x : Option Name) (told : Answer) (owed : List Owed) (c : Channel) → IsKeeping (uncreated_note x told owed c)
keeps_create (Some (Of BounceFile n)) (answer.Created fd number) owed c = tt
keeps_create (Some (Of BounceFile n)) told owed c = keeps_up c owed
keeps_create x told owed c = tt

keeps_call : (call : CallData) (told : Told) (w : Option Work) (owed : List Owed) (c : Channel) → IsIdle w → IsKeeping (called call told w owed c)
keeps_call (call.Close fd) told w owed c idle = keeps_close w fd owed c idle
keeps_call (call.Open name how.Write) told w owed c idle = keeps_open (parse name) c
keeps_call (call.Open name how.Append) told w owed c idle = keeps_note told.answer owed c
keeps_call (call.CreateExcl name) told w owed c idle = keeps_create (parse name) told.answer owed c
keeps_call other told w owed c idle = tt

keeps_taken : (p : Port) (c : Channel) (got : GotData) → IsKeeping (taken p c got)
keeps_taken port.Lspawn Local (came.Took bytes) = tt
keeps_taken port.Rspawn Remote (came.Took bytes) = tt
keeps_taken p c got = tt

-- a file call, a taking, or a giving to another program than the spawners
abbrev pub IsOwn : NeedData → Type 0
IsOwn (needs.Give port.Lspawn text) = ⊥
IsOwn (needs.Give port.Rspawn text) = ⊥
IsOwn due = Unit {0}

keeps_event : (due : NeedData) (got : GotData) (w : Option Work) (owed : List Owed) (c : Channel) → IsOwn due → IsIdle w → IsKeeping (happening due got w owed c)
keeps_event (needs.File call) (came.Answered told) w owed c own idle = keeps_call call told w owed c idle
keeps_event (needs.Take p) got w owed c own idle = keeps_taken p c got
keeps_event (needs.Give port.Lspawn text) got w owed c own idle = absurd own
keeps_event (needs.Give port.Rspawn text) got w owed c own idle = absurd own
keeps_event due got w owed c own idle = tt

pub gives_same : (due : NeedData) (got : GotData) (w : Option Work) (owed : List Owed) (c : Channel) (a : Account) → IsOwn due → IsIdle w → (account_by (happening due got w owed c) a).to_give ≡ a.to_give
gives_same due got w owed c a own idle = keeping (happening due got w owed c) a (keeps_event due got w owed c own idle)

-- the rows that do so

own_reading : (reading : FileReading) (opening : Step) (read : List ℕ) → IsOwn (due_by opening []) → IsOwn (due_by (reading_step reading opening (length read)) [])
own_reading Opening opening read e = e
own_reading (Going fd) opening read e = tt
own_reading (Closing fd) opening read e = tt
own_reading (Shutting fd) opening read e = tt

own_note : (row : NoteRow) (w : Writing) → IsOwn (note_due_at row w)
own_note written.Written w = tt
own_note row w = tt

own_return : (row : ReturnRow) (r : Returning) → IsOwn (return_due_at row r)
own_return back.Over r = tt
own_return row r = tt

own_pass : (row : PassRow) (p : Pass) → IsOwn (pass_table.due_at row p)
own_pass todo.Done p = tt
own_pass row p = tt

pub own_row : (row : Row) (d : Desk) → ((c : Channel) → row ≡ at.Request c → ⊥) → IsOwn (due_at row d)
own_row (at.Start (start.Control file reading)) d other = own_reading reading (step.OpenControl file) d.book.read tt
own_row (at.Start (start.ReadInfo split n reading)) d other = own_reading reading (step.Open (name.Info n) how.Read) d.book.read tt
own_row (at.Start start.GreetLocal) d other = tt
own_row (at.Start row) d other = tt
own_row (at.Turn p) d other = tt
own_row (at.TakeLink Local) d other = tt
own_row (at.TakeLink Remote) d other = tt
own_row (at.Mark mark.Noting m) d other = own_note d.note.row d.note
own_row (at.Mark row m) d other = tt
own_row (at.UnlinkFile c n p) d other = tt
own_row (at.ReadFile c n begun reading) d other = own_reading reading (step.Open (file_of c n) how.Read) d.book.read tt
own_row (at.Request c) d other = absurd (other c refl)
own_row (at.FindTodo search) d other = tt
own_row at.InTodo d other = own_pass d.pass.row d.pass
own_row (at.Finish finish.Return n) d other = own_return d.bounce.row d.bounce
own_row (at.Finish finish.OpenBounce n) d other = tt
own_row (at.Finish row n) d other = tt
own_row (at.Sweep sweep.First) d other = tt
own_row (at.Sweep row) d other = tt
own_row (at.Ended status) d other = tt
