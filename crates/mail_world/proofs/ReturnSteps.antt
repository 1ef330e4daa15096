-- What a return does inside a sender: it starts an injector, gives it two texts, and takes its status, and nothing else of a sender does.
use Rattle.std.proofs.Common.{◌≡◌, ℕ, ◌-◌, List, [], ◌∷◌, ◌++◌, length, Bool, true, false, Option, Some, None, refl, bytes_eq, nat_lt}
use Rattle.std.specs.Prelude.{if◌then◌else◌, is_some, slice_get, ◌==◌}
use Rattle.address_rules.specs.declared.controls.Controls.{Controls}
use Rattle.bounce_record.specs.declared.bounces.Bounce.{Bounce}
use Rattle.bounce_record.specs.declared.note_row.NoteRow.{NoteRow}
use Rattle.bounce_record.specs.declared.note_row.NoteRow.TheVariants as note
use Rattle.bounce_record.specs.declared.return_row.ReturnRow.{ReturnRow}
use Rattle.bounce_record.specs.declared.return_row.ReturnRow.TheVariants as back
use Rattle.bounce_record.specs.Returning.{Returning, awaited_row, bounce_at, due_by as return_due, envelope_of, given_row, goes as goes_in, made, message_opened, message_read, notes_opened, notes_read, return_begun, due_at as return_due_at, moved_at as return_moved, moved as return_moved_by, started_row, unlinked_row}
use Rattle.bounce_record.specs.Writing.{Writing, bounce_path, due_at as note_due_at, moved as note_moved}
use Rattle.call_fs.specs.declared.calls.Answer.{Answer}
use Rattle.call_fs.specs.declared.calls.Answer.TheVariants as answer
use Rattle.call_fs.specs.declared.calls.CallData.TheVariants as call
use Rattle.call_fs.specs.declared.calls.Fd.{Fd}
use Rattle.call_fs.specs.declared.calls.FsError.TheVariants as why
use Rattle.call_fs.specs.declared.calls.How.TheVariants as how
use Rattle.call_fs.specs.declared.file_system.TheConstants.{PIECE}
use Rattle.call_fs.specs.declared.past.ChildData.{ChildData}
use Rattle.call_fs.specs.declared.past.ChildData.TheVariants as child
use Rattle.call_fs.specs.declared.past.GotData.{GotData}
use Rattle.call_fs.specs.declared.past.GotData.TheVariants as came
use Rattle.call_fs.specs.declared.past.NeedData.{NeedData}
use Rattle.call_fs.specs.declared.past.NeedData.TheVariants as needs
use Rattle.call_fs.specs.declared.past.Own.{Own}
use Rattle.call_fs.specs.declared.program.Port.TheVariants as port
use Rattle.call_fs.specs.declared.program.Ready.{Ready}
use Rattle.envelope_records.specs.declared.channel.Record.{Record}
use Rattle.mail_bytes.specs.Netstring.{netstring}
use Rattle.retry_schedule.specs.Due.{first_due}
use Rattle.send_jobs.specs.declared.attempts.Mark.{Mark}
use Rattle.send_known.specs.declared.channel.Channel.{Channel}
use Rattle.send_known.specs.declared.channel.Channel.TheVariants as channel
use Rattle.send_jobs.specs.declared.jobs.Job.{Job}
use Rattle.send_jobs.specs.Lanes.{job_over, next}
use Rattle.send_jobs.specs.Sending.{lane}
use Rattle.send_jobs.specs.Slots.{lowest}
use Rattle.send_known.specs.Known.{sender_of}
use Rattle.send_parts.specs.declared.reading.Progress.{Progress}
use Rattle.send_parts.specs.declared.reading.Progress.TheVariants.{Goes, Whole, Missing, Failed}
use Rattle.send_parts.specs.declared.reading.Reading.{Reading}
use Rattle.send_parts.specs.declared.reading.Reading.TheVariants.{Opening, Going, Closing, Shutting}
use Rattle.send_parts.specs.declared.reply.Way.{Way}
use Rattle.send_parts.specs.declared.reply.Way.TheVariants as way
use Rattle.send_parts.specs.declared.rows.FinishRow.{FinishRow}
use Rattle.send_parts.specs.declared.rows.FinishRow.TheVariants as finish
use Rattle.send_parts.specs.declared.rows.Search.{Search}
use Rattle.send_parts.specs.declared.rows.StartRow.{StartRow}
use Rattle.send_parts.specs.declared.rows.StartRow.TheVariants as start
use Rattle.send_parts.specs.declared.rows.SweepRow.{SweepRow}
use Rattle.send_parts.specs.declared.rows.SweepRow.TheVariants as sweep
use Rattle.send_links.specs.Records.{records_of}
use Rattle.send_parts.specs.Files.{message_number}
use Rattle.send_parts.specs.Finish.{finish_to}
use Rattle.send_parts.specs.Readings.{read_on}
use Rattle.send_parts.specs.Replies.{Said, said}
use Rattle.send_parts.specs.Rows.{is_again}
use Rattle.send_parts.specs.Sweep.{sweep_to}
use Rattle.todo_pass.specs.declared.row.Row.{Row as PassRow}
use Rattle.todo_pass.specs.declared.row.Row.TheVariants as todo
use Rattle.todo_pass.specs.declared.row.Why.TheVariants as left
use Rattle.todo_pass.specs.Table.{Pass, answer_row, moved_at, due_at as pass_due}
use Rattle.send_core.specs.declared.desk.Desk.{Desk}
use Rattle.send_parts.specs.declared.row.MarkRow.{MarkRow}
use Rattle.send_parts.specs.declared.row.MarkRow.TheVariants as mark
use Rattle.send_parts.specs.declared.row.Marked.{Marked}
use Rattle.send_parts.specs.declared.row.Point.{Point}
use Rattle.send_parts.specs.declared.row.Point.TheVariants as point
use Rattle.send_parts.specs.declared.row.Row.{Row}
use Rattle.send_parts.specs.declared.row.Row.TheVariants as at
use Rattle.send_core.specs.Desk.{closed, closed_by, due_on, goes, has_begun, is_free_for, next_idle, past_finish, past_todo, request_sent, stands_at, sweep_due, turn_counted, turn_over}
use Rattle.send_core.specs.Finish.{act_finish, bounce_on, finish_at, looked_up, returned_to, sweep_at, sweep_begun}
use Rattle.send_core.specs.Start.{start_at}
use Rattle.send_core.specs.Table.{act, arrive, beginning, busy, place_after as sender_after, due_at, finishing, finishing_by, from_begin, from_local, from_point, from_remote, from_reports, from_sweep, from_take, going_on, holds, link_of, marking, marking_by, moved_by, or_else, passing, row_now, sweeping, taking}
use Rattle.send_core.specs.Turn.{act_mark, begin_note, noted, noted_at, begun_at, file_read, in_todo, lost, mark_opened, mark_over, pass_opened, requested, todo_found, todo_named, todo_none, todo_on, todo_over, took, unlinked}
use Rattle.mail_world.specs.Inside.{IsBirth}

-- at a return
abbrev pub IsReturn : Row → Type 0
IsReturn (at.Finish finish.Return n) = Unit {0}
IsReturn row = ⊥

pub returns_there : (row : Row) → IsReturn row → (n : ℕ) × (row ≡ at.Finish finish.Return n)
returns_there (at.Finish finish.Return n) w = (n, refl)
returns_there row w = absurd w

-- What a turn begins with is no return

abbrev Begins : Row → Type 0
Begins (at.TakeLink c) = Unit {0}
Begins (at.Mark row m) = Unit {0}
Begins (at.ReadFile c n begun r) = Unit {0}
Begins (at.Request c) = Unit {0}
Begins (at.FindTodo search) = Unit {0}
Begins (at.Finish finish.OpenBounce n) = Unit {0}
Begins (at.Sweep sweep.First) = Unit {0}
Begins row = ⊥

begins_none : (row : Row) → Begins row → IsReturn row → ⊥
begins_none (at.TakeLink c) h = λ w. w
begins_none (at.Mark row m) h = λ w. w
begins_none (at.ReadFile c n begun r) h = λ w. w
begins_none (at.Request c) h = λ w. w
begins_none (at.FindTodo search) h = λ w. w
begins_none (at.Finish finish.OpenBounce n) h = λ w. w
begins_none (at.Sweep sweep.First) h = λ w. w
begins_none row h = absurd h

abbrev May : Option Row → Type 0
May None = Unit {0}
May (Some row) = Begins row

either_row : (o : Option Row) (row : Row) → May o → Begins row → Begins (or_else o row)
either_row None row may rest = rest
either_row (Some first) row may rest = may

may_take : (c : Channel) (full : Bool) → May (if full then Some (at.TakeLink c) else None)
may_take c true = tt
may_take c false = tt

may_mark : (c : Channel) (o : Option Mark) → May (marking_by c o)
may_mark c None = tt
may_mark c (Some m) = tt

may_go : (c : Channel) (o : Option ℕ) → May (going_on c o)
may_go c None = tt
may_go c (Some slot) = tt

may_begin : (c : Channel) (may : Bool) (o : Option (ℕ × ℕ)) → May (beginning c may o)
may_begin c false o = tt
may_begin c true None = tt
may_begin c true (Some e) = tt

may_pass_by : (c : Channel) (open_pass may : Bool) (slot : Option ℕ) (due : Option (ℕ × ℕ)) → May (if open_pass then going_on c slot else beginning c may due)
may_pass_by c true may slot due = may_go c slot
may_pass_by c false may slot due = may_begin c may due

may_pass : (c : Channel) (may : Bool) (d : Desk) (now : ℕ) → May (passing c may d now)
may_pass c may d now = may_pass_by c (is_some (next (lane c d.slots))) may (lowest (lane c d.slots).slots) (first_due now (due_on c d.book.messages))

may_finish : (o : Option ℕ) → May (finishing_by o)
may_finish None = tt
may_finish (Some n) = tt

may_sweep : (due : Bool) → May (if due then Some (at.Sweep sweep.First) else None)
may_sweep true = tt
may_sweep false = tt

module _ (d : Desk) (now : ℕ) (ready : Ready) where
  remote_begins : (may : Bool) → Begins (from_remote may d now)
  remote_begins may = either_row (passing channel.Remote may d now) _ (may_pass channel.Remote may d now) tt

  local_begins : (may : Bool) → Begins (from_local may d now)
  local_begins may = either_row (passing channel.Local may d now) _ (may_pass channel.Local may d now) (remote_begins true)

  reports_begin : Begins (from_reports d now)
  reports_begin =
      either_row (marking channel.Local d) _ (may_mark channel.Local (slice_get (lane channel.Local d.slots).marks 0))
      (either_row (marking channel.Remote d) _ (may_mark channel.Remote (slice_get (lane channel.Remote d.slots).marks 0)) (local_begins true))

  take_begins : Begins (from_take d now ready)
  take_begins = either_row (taking channel.Remote ready) _ (may_take channel.Remote (holds (slice_get ready.links (link_of channel.Remote)))) reports_begin

  begin_begins : Begins (from_begin d now ready)
  begin_begins = either_row (taking channel.Local ready) _ (may_take channel.Local (holds (slice_get ready.links (link_of channel.Local)))) take_begins

  sweep_begins : Begins (from_sweep d now ready)
  sweep_begins = either_row (sweeping d now) _ (may_sweep (sweep_due now d.swept)) begin_begins

  point_begins : (p : Point) → Begins (from_point p d now ready)
  point_begins point.TakeLocal = begin_begins
  point_begins point.TakeRemote = take_begins
  point_begins point.Reports = reports_begin
  point_begins (point.Pass channel.Local may) = local_begins may
  point_begins (point.Pass channel.Remote may) = remote_begins may
  point_begins point.Finish = either_row (finishing d now) _ (may_finish (next_idle now d)) sweep_begins
  point_begins point.Sweep = sweep_begins

-- so who arrives at a return stood there
pub arrived : (row : Row) (d : Desk) (now : ℕ) (ready : Ready) → IsReturn (arrive row d now ready) → IsReturn row
arrived (at.Turn p) d now ready w = absurd (begins_none (from_point p d now ready) (point_begins d now ready p) w)
arrived (at.Start row) d now ready w = w
arrived (at.TakeLink c) d now ready w = w
arrived (at.Mark row m) d now ready w = w
arrived (at.UnlinkFile c n p) d now ready w = w
arrived (at.ReadFile c n begun r) d now ready w = w
arrived (at.Request c) d now ready w = w
arrived (at.FindTodo search) d now ready w = w
arrived at.InTodo d now ready w = w
arrived (at.Finish row n) d now ready w = w
arrived (at.Sweep row) d now ready w = w
arrived (at.Ended status) d now ready w = w

-- No other step leads to a return

abbrev Quiet : Desk → Type 0
Quiet e = IsReturn e.row → ⊥

either : (b : Bool) (x y : Desk) → Quiet x → Quiet y → Quiet (if b then x else y)
either true x y one two = one
either false x y one two = two

-- The turn

counted_by : (more : Bool) (k : ℕ) (e : Desk)
    → Quiet (if more then record e { turns = Some (k - 1); row = at.Turn point.TakeLocal } else record e { turns = Some 0; row = at.Ended 0 })
counted_by true k e = (λ w. w)
counted_by false k e = (λ w. w)

counted : (o : Option ℕ) (e : Desk) → Quiet (turn_counted o e)
counted None e = (λ w. w)
counted (Some k) e = counted_by (nat_lt 1 k) k e

turned : (e : Desk) → Quiet (turn_over e)
turned e = counted e.turns (record e { busy = false })

finish_past : (now : ℕ) (e : Desk) → Quiet (past_finish now e)
finish_past now e = either (sweep_due now e.swept) (stands_at e point.Sweep) (turn_over e) (λ w. w) (turned e)

todo_past : (now : ℕ) (e : Desk) → Quiet (past_todo now e)
todo_past now e = either _ (stands_at e point.Finish) (turn_over e) (λ w. w) (turned e)

lost_link : (c : Channel) (e : Desk) → Quiet (goes e (lost c))
lost_link channel.Local e = (λ w. w)
lost_link channel.Remote e = (λ w. w)

-- Takings and marks

takes : (w : Way) (bytes : List ℕ) (c : Channel) (e : Desk) → Quiet (busy (took w bytes c e))
takes way.Fine bytes c e = (λ w. w)
takes way.Over bytes c e = lost_link c e
takes way.Absent bytes c e = lost_link c e
takes way.Broken bytes c e = lost_link c e
takes way.NoMemory bytes c e = lost_link c e

closes_by : (o : Option Job) (c : Channel) (n : ℕ) (p : Point) (e : Desk) → Quiet (closed_by o c n p e)
closes_by None c n p e = (λ w. w)
closes_by (Some job) c n p e = either job.unmarked _ (goes e (at.UnlinkFile c n p)) (λ w. w) (λ w. w)

closes : (c : Channel) (n : ℕ) (p : Point) (e : Desk) → Quiet (closed c n p e)
closes c n p e = closes_by (job_over n (lane c e.slots)) c n p e

marked : (written : Bool) (m : Marked) (e : Desk) → Quiet (mark_over written m e)
marked true m e = closes m.channel m.n point.Reports _
marked false m e = closes m.channel m.n point.Reports _

mark_opens : (w : Way) (m : Marked) (fd : Fd) (e : Desk) → Quiet (mark_opened w m fd e)
mark_opens way.Fine m fd e = (λ w. w)
mark_opens way.Over m fd e = marked false m e
mark_opens way.Absent m fd e = marked false m e
mark_opens way.Broken m fd e = marked false m e
mark_opens way.NoMemory m fd e = marked false m e

notes_by : (row : NoteRow) (m : Marked) (e : Desk) → Quiet (noted_at row m e)
notes_by note.Written m e = (λ w. w)
notes_by note.Failed m e = marked false m e
notes_by note.Open m e = (λ w. w)
notes_by note.Create m e = (λ w. w)
notes_by (note.Stat fd) m e = (λ w. w)
notes_by (note.Read fd place len) m e = (λ w. w)
notes_by (note.Append fd done) m e = (λ w. w)
notes_by (note.Sync fd) m e = (λ w. w)
notes_by (note.Close fd) m e = (λ w. w)
notes_by (note.Shut fd) m e = (λ w. w)

notes : (m : Marked) (got : GotData) (e : Desk) → Quiet (noted m got e)
notes m got e = notes_by (note_moved e.note got).row m (record e { note = note_moved e.note got })

marks : (row : MarkRow) (m : Marked) (got : GotData) (e : Desk) → Quiet (act_mark row m got e)
marks mark.Note m got e = notes m got (begin_note m e)
marks mark.Noting m got e = notes m got e
marks mark.Open m got e = mark_opens (said got).way m (said got).fd e
marks (mark.Write fd) m got e = (λ w. w)
marks (mark.Close fd written) m got e = marked written m e

unlinks : (w : Way) (c : Channel) (n : ℕ) (p : Point) (now : ℕ) (e : Desk) → Quiet (unlinked w c n p now e)
unlinks way.Fine c n p now e = (λ w. w)
unlinks way.Over c n p now e = (λ w. w)
unlinks way.Absent c n p now e = (λ w. w)
unlinks way.Broken c n p now e = (λ w. w)
unlinks way.NoMemory c n p now e = (λ w. w)

-- Passes

opens : (o : Option (List Record)) (c : Channel) (n begun now : ℕ) (e : Desk) → Quiet (pass_opened o c n begun now e)
opens None c n begun now e = (λ w. w)
opens (Some records) c n begun now e =
    either (is_free_for n (lane c e.slots)) _ _ (closes c n (point.Pass c false) (has_begun c n begun records e)) (λ w. w)

reads : (progress : Progress) (c : Channel) (n begun : ℕ) (reading : Reading) (now : ℕ) (s : Said) (e : Desk) → Quiet (busy (file_read progress c n begun reading now s e))
reads (Goes next) c n begun reading now s e = (λ w. w)
reads Whole c n begun reading now s e = opens (records_of e.book.read) c n begun now e
reads Missing c n begun reading now s e = (λ w. w)
reads Failed c n begun reading now s e = (λ w. w)

sends : (c : Channel) (e : Desk) → Quiet (request_sent c (stands_at e (point.Pass c false)))
sends channel.Local e = either (is_some (next (lane channel.Local e.slots))) _ _ (λ w. w) (λ w. w)
sends channel.Remote e = either (is_some (next (lane channel.Remote e.slots))) _ _ (λ w. w) (λ w. w)

requests : (w : Way) (c : Channel) (e : Desk) → Quiet (busy (requested w c e))
requests way.Fine c e = sends c e
requests way.Over c e = lost_link c e
requests way.Absent c e = lost_link c e
requests way.Broken c e = lost_link c e
requests way.NoMemory c e = lost_link c e

-- The search of `todo`

finds : (o : Option ℕ) (text : List ℕ) (search : Search) (e : Desk) → Quiet (todo_found o text search e)
finds None text search e = (λ w. w)
finds (Some n) text search e = (λ w. w)

none_found : (again : Bool) (last : List ℕ) (now : ℕ) (e : Desk) → Quiet (todo_none again last now e)
none_found false [] now e = todo_past now e
none_found false (b ∷ bs) now e = (λ w. w)
none_found true last now e = todo_past now e

searches : (w : Way) (text : List ℕ) (search : Search) (now : ℕ) (e : Desk) → Quiet (todo_named w text search now e)
searches way.Fine text search now e = finds (message_number text) text search e
searches way.Over text search now e = none_found (is_again search) e.last_left now e
searches way.Absent text search now e = none_found (is_again search) e.last_left now e
searches way.Broken text search now e = none_found (is_again search) e.last_left now e
searches way.NoMemory text search now e = none_found (is_again search) e.last_left now e

-- A step of a pass

goes_on : (row : PassRow) (p : Pass) (now : ℕ) (e : Desk) → Quiet (todo_on row p now e)
goes_on (todo.Left cause) p now e = todo_past now _
goes_on row p now e = λ w. w

answered_by : (well : Bool) (p : Pass) (now : ℕ) (e : Desk) → Quiet (todo_over (if well then todo.Done else todo.Left left.Unclean) p now e)
answered_by true p now e = todo_past now _
answered_by false p now e = todo_past now _

answers : (got : GotData) (p : Pass) (now : ℕ) (e : Desk) → Quiet (todo_over (answer_row got) p now e)
answers (came.Took bytes) p now e = answered_by (bytes_eq bytes (43 ∷ [])) p now e
answers got p now e = (λ w. w)

abbrev passing_at : Desk → PassRow → Desk
passing_at d r = record d { pass = record d.pass { row = r } }

passes : (e : Desk) (r : PassRow) (now : ℕ) (got : GotData) → Quiet (in_todo now got (passing_at e r))
passes e todo.Answer now got = answers got _ now (passing_at e todo.Answer)
passes e r now got = goes_on (moved_at e.book.controls r (record e.pass { row = r }) now got).row (moved_at e.book.controls r (record e.pass { row = r }) now got) now (passing_at e r)

-- The finish

abbrev IsNoReturn : FinishRow → Type 0
IsNoReturn finish.Return = ⊥
IsNoReturn row = Unit {0}

finish_goes : (row : FinishRow) (n now : ℕ) (e : Desk) → IsNoReturn row → Quiet (finish_at row n now e)
finish_goes finish.Later n now e h = finish_past now _
finish_goes finish.Over n now e h = finish_past now _
finish_goes finish.Lost n now e h = λ w. w
finish_goes finish.Take n now e h = λ w. w
finish_goes finish.OpenBounce n now e h = λ w. w
finish_goes finish.Return n now e h = absurd h
finish_goes finish.UnlinkInfo n now e h = λ w. w
finish_goes finish.Give n now e h = λ w. w

info_leads : (w : Way) → IsNoReturn (finish_to finish.UnlinkInfo w)
info_leads way.Fine = tt
info_leads way.Over = tt
info_leads way.Absent = tt
info_leads way.Broken = tt
info_leads way.NoMemory = tt

give_leads : (w : Way) → IsNoReturn (finish_to finish.Give w)
give_leads way.Fine = tt
give_leads way.Over = tt
give_leads way.Absent = tt
give_leads way.Broken = tt
give_leads way.NoMemory = tt

take_leads : (w : Way) → IsNoReturn (finish_to finish.Take w)
take_leads way.Fine = tt
take_leads way.Over = tt
take_leads way.Absent = tt
take_leads way.Broken = tt
take_leads way.NoMemory = tt

-- Each step of a return

-- two texts, as an injector is given them
pub record AreTexts (bytes : List ℕ) : Type 0 where
  pub message : List ℕ
  pub envelope : List ℕ
  pub are : bytes ≡ netstring message ++ netstring envelope

-- from the start of its injector until that was given its input, two texts are kept for it
abbrev pub HasTexts : ReturnRow → List ℕ → Type 0
HasTexts back.Start input = AreTexts input
HasTexts (back.Give pid) input = AreTexts input
HasTexts row input = Unit {0}

-- it is given its input just after its start
abbrev pub IsBorne : ReturnRow → NeedData → GotData → Type 0
IsBorne (back.Give pid) due got = IsBirth due got
IsBorne row due got = Unit {0}

abbrev Fares : NeedData → GotData → Returning → Type 0
Fares due got r = HasTexts r.row r.input × IsBorne r.row due got

module _ (due : NeedData) (got : GotData) where
  opens_notes : (r : Returning) (told : Answer) → Fares due got (goes_in r (notes_opened told))
  opens_notes r (answer.Opened fd) = (tt, tt)
  opens_notes r (answer.Refused why.NotThere) = (tt, tt)
  opens_notes r told = (tt, tt)

  opens_message : (r : Returning) (told : Answer) → Fares due got (goes_in r (message_opened told))
  opens_message r (answer.Opened fd) = (tt, tt)
  opens_message r told = (tt, tt)

  unlinks_notes : (r : Returning) (told : Answer) → Fares due got (goes_in r (unlinked_row told))
  unlinks_notes r answer.Done = (tt, tt)
  unlinks_notes r told = (tt, tt)

  notes_by_length : (more : Bool) (fd : Fd) (r : Returning) → Fares due got (record r { row = (if more then back.CloseNotes fd else back.ReadNotes fd) })
  notes_by_length true fd r = (tt, tt)
  notes_by_length false fd r = (tt, tt)

  reads_notes : (r : Returning) (fd : Fd) (told : Answer) (bytes : List ℕ) → Fares due got (notes_read r fd told bytes)
  reads_notes r fd (answer.Count count) bytes = notes_by_length (nat_lt (length bytes) PIECE) fd (record r { notes = r.notes ++ bytes })
  reads_notes r fd told bytes = (tt, tt)

  message_by_length : (more : Bool) (fd : Fd) (r : Returning) → Fares due got (record r { row = (if more then back.CloseMessage fd else back.ReadMessage fd) })
  message_by_length true fd r = (tt, tt)
  message_by_length false fd r = (tt, tt)

  reads_message : (r : Returning) (fd : Fd) (told : Answer) (bytes : List ℕ) → Fares due got (message_read r fd told bytes)
  reads_message r fd (answer.Count count) bytes = message_by_length (nat_lt (length bytes) PIECE) fd (record r { message = r.message ++ bytes })
  reads_message r fd told bytes = (tt, tt)

  makes : (r : Returning) (o : Option Bounce) → Fares due got (made r o)
  makes r None = (tt, tt)
  makes r (Some b) = (record { message = b.text; envelope = envelope_of b; are = refl }, tt)

  status_by : (zero : Bool) (r : Returning) → Fares due got (goes_in r (if zero then back.Unlink else back.Failed))
  status_by true r = (tt, tt)
  status_by false r = (tt, tt)

  takes_status : (r : Returning) (came : GotData) → Fares due got (goes_in r (awaited_row came))
  takes_status r (came.Ended status) = status_by (status == 0) r
  takes_status r other = (tt, tt)

abbrev at_step : ReturnRow → Returning → Returning
at_step row r = record r { row = row }

starts_child : (r : Returning) (got : GotData) → AreTexts r.input → Fares (return_due_at back.Start r) got (goes_in r (started_row got))
starts_child r (came.Started pid) h = (h, tt)
starts_child r got h = (tt, tt)

gives_child : (due : NeedData) (pid : ℕ) (r : Returning) (got : GotData) → Fares due got (goes_in r (given_row pid got))
gives_child due pid r came.Gave = (tt, tt)
gives_child due pid r got = (tt, tt)

return_fares : (controls : Controls) (sender : List ℕ) (row : ReturnRow) (r : Returning) (now : ℕ) (got : GotData) → HasTexts row r.input
    → Fares (return_due_at row (at_step row r)) got (return_moved controls sender row (at_step row r) now got)
return_fares controls sender back.Start r now got h = starts_child (at_step back.Start r) got h
return_fares controls sender (back.Give pid) r now got h = gives_child (return_due_at (back.Give pid) (at_step (back.Give pid) r)) pid (at_step (back.Give pid) r) got
return_fares controls sender (back.Await pid) r now got h = takes_status (return_due_at (back.Await pid) (at_step (back.Await pid) r)) got (at_step (back.Await pid) r) got
return_fares controls sender back.Open r now (came.Answered told) h = opens_notes _ _ (at_step back.Open r) told.answer
return_fares controls sender (back.ReadNotes fd) r now (came.Answered told) h = reads_notes _ _ (at_step (back.ReadNotes fd) r) fd told.answer told.bytes
return_fares controls sender (back.CloseNotes fd) r now (came.Answered told) h = (tt, tt)
return_fares controls sender back.OpenMessage r now (came.Answered told) h = opens_message _ _ (at_step back.OpenMessage r) told.answer
return_fares controls sender (back.ReadMessage fd) r now (came.Answered told) h = reads_message _ _ (at_step (back.ReadMessage fd) r) fd told.answer told.bytes
return_fares controls sender (back.CloseMessage fd) r now (came.Answered told) h = makes _ _ (at_step (back.CloseMessage fd) r) (bounce_at controls sender (at_step (back.CloseMessage fd) r) now)
return_fares controls sender (back.Shut fd) r now (came.Answered told) h = (tt, tt)
return_fares controls sender back.Unlink r now (came.Answered told) h = unlinks_notes _ _ (at_step back.Unlink r) told.answer
return_fares controls sender back.Discard r now (came.Answered told) h = unlinks_notes _ _ (at_step back.Discard r) told.answer
return_fares controls sender back.Over r now (came.Answered told) h = (tt, tt)
return_fares controls sender back.Failed r now (came.Answered told) h = (tt, tt)
return_fares controls sender row r now got h = (tt, tt)

-- Each event of a sender

-- at a return of this number this holds
abbrev pub At : Row → (ℕ → Type 0) → Type 0
At (at.Finish finish.Return n) S = S n
At row S = Unit {0}

none_at : (S : ℕ → Type 0) (row : Row) → (IsReturn row → ⊥) → At row S
none_at S (at.Finish finish.Return n) none = absurd (none tt)
none_at S row none = tt

held_at : (S : Type 0) (row : Row) → At row (λ n. S) → IsReturn row → S
held_at S (at.Finish finish.Return n) h w = h
held_at S row h w = absurd w

-- who arrives at a return stood there
pub arrives_at : (S : ℕ → Type 0) (row : Row) (d : Desk) (now : ℕ) (ready : Ready) → At row S → At (arrive row d now ready) S
arrives_at S (at.Turn p) d now ready h = none_at S (from_point p d now ready) (begins_none _ (point_begins d now ready p))
arrives_at S row d now ready h = h

sweep_goes : (row : SweepRow) (e : Desk) → Quiet (sweep_at row e)
sweep_goes sweep.Over e = turned e
sweep_goes row e = λ w. w

starts : (row : StartRow) → IsReturn (start_at row) → ⊥
starts start.Over = λ w. w
starts (start.Ended status) = λ w. w
starts row = λ w. w

abbrev IsStep : Row → Type 0
IsStep (at.Turn p) = ⊥
IsStep (at.Ended status) = ⊥
IsStep row = Unit {0}

begins_step : (row : Row) → Begins row → IsStep row
begins_step (at.TakeLink c) h = tt
begins_step (at.Mark row m) h = tt
begins_step (at.ReadFile c n begun r) h = tt
begins_step (at.Request c) h = tt
begins_step (at.FindTodo search) h = tt
begins_step (at.Finish row n) h = tt
begins_step (at.Sweep row) h = tt
begins_step row h = absurd h

abbrev at_row : Row → Desk → Desk
at_row row e = record e { row = row }

-- Of the returns of each number `K` is said, and after what came of what was due `F`. So it is after each event of a sender, if it is so after the
-- open of the bounce file, and after each step of a return of which `K` was said.
module _ (K : ℕ → Returning → Type 0) (F : ℕ → NeedData → GotData → Returning → Type 0)
    (begun : (controls : Controls) (sender : List ℕ) (n now : ℕ) (got : GotData) → F n (needs.File (call.Open (bounce_path n) how.Read)) got (return_moved_by controls sender (return_begun n) now got))
    (moves : (controls : Controls) (sender : List ℕ) (n : ℕ) (r : Returning) (now : ℕ) (got : GotData) → K n r → F n (return_due r) got (return_moved_by controls sender r now got)) where
  abbrev Stands : Row → Returning → Type 0
  Stands row r = At row (λ n. K n r)

  abbrev Leads : NeedData → GotData → Desk → Type 0
  Leads due got e = At e.row (λ n. F n due got e.bounce)

  quiet_leads : (due : NeedData) (got : GotData) (e : Desk) → Quiet e → Leads due got e
  quiet_leads due got e quiet = none_at (λ n. F n due got e.bounce) e.row quiet

  returned_leads : (due : NeedData) (got : GotData) (it : Returning) (n now : ℕ) (e : Desk) → F n due got it → Leads due got (finish_at (returned_to it.row) n now (record e { bounce = it }))
  returned_leads due got it n now e fares = by it.row where
    by : (row : ReturnRow) → Leads due got (finish_at (returned_to row) n now (record e { bounce = it }))
    by back.Over = tt
    by back.Failed = quiet_leads due got (finish_at finish.Later n now (record e { bounce = it })) (finish_past now _)
    by row = fares

  finish_leads : (row : FinishRow) (n now : ℕ) (got : GotData) (e : Desk) → Stands (at.Finish row n) e.bounce → Leads (due_at (at.Finish row n) e) got (act_finish row n now got e)
  finish_leads finish.OpenBounce n now got e h =
      returned_leads (due_at (at.Finish finish.OpenBounce n) e) got (bounce_on n now got (return_begun n) e.book) n now (record e { busy = true })
      (begun e.book.controls (sender_of n e.book.messages.known) n now got)
  finish_leads finish.Return n now got e h =
      returned_leads (return_due e.bounce) got (bounce_on n now got e.bounce e.book) n now e (moves e.book.controls (sender_of n e.book.messages.known) n e.bounce now got h)
  finish_leads finish.UnlinkInfo n now got e h =
      quiet_leads (due_at (at.Finish finish.UnlinkInfo n) e) got (act_finish finish.UnlinkInfo n now got e) (finish_goes (finish_to finish.UnlinkInfo (said got).way) n now e (info_leads (said got).way))
  finish_leads finish.Give n now got e h =
      quiet_leads (due_at (at.Finish finish.Give n) e) got (act_finish finish.Give n now got e) (finish_goes (finish_to finish.Give (said got).way) n now e (give_leads (said got).way))
  finish_leads finish.Take n now got e h =
      quiet_leads (due_at (at.Finish finish.Take n) e) got (act_finish finish.Take n now got e) (finish_goes (finish_to finish.Take (said got).way) n now e (take_leads (said got).way))
  finish_leads finish.Later n now got e h = quiet_leads (due_at (at.Finish finish.Later n) e) got (act_finish finish.Later n now got e) (finish_past now _)
  finish_leads finish.Over n now got e h = quiet_leads (due_at (at.Finish finish.Over n) e) got (act_finish finish.Over n now got e) (finish_past now _)
  finish_leads finish.Lost n now got e h = tt

  step : (row : Row) (now : ℕ) (got : GotData) (e : Desk) → IsStep row → Stands row e.bounce → Leads (due_at row e) got (act row now got e)
  step (at.Start row) now got e h k = quiet_leads (due_at (at.Start row) e) got (act (at.Start row) now got e) (starts _)
  step (at.Turn p) now got e h k = absurd h
  step (at.TakeLink c) now got e h k = quiet_leads (due_at (at.TakeLink c) e) got (act (at.TakeLink c) now got e) (takes (said got).way (said got).bytes c e)
  step (at.Mark row m) now got e h k = quiet_leads (due_at (at.Mark row m) e) got (act (at.Mark row m) now got e) (marks row m got e)
  step (at.UnlinkFile c n p) now got e h k = quiet_leads (due_at (at.UnlinkFile c n p) e) got (act (at.UnlinkFile c n p) now got e) (unlinks (said got).way c n p now e)
  step (at.ReadFile c n begun reading) now got e h k =
      quiet_leads (due_at (at.ReadFile c n begun reading) e) got (act (at.ReadFile c n begun reading) now got e) (reads (read_on reading (said got)) c n (begun_at reading begun now) reading now (said got) e)
  step (at.Request c) now got e h k = quiet_leads (due_at (at.Request c) e) got (act (at.Request c) now got e) (requests (said got).way c e)
  step (at.FindTodo search) now got e h k = quiet_leads (due_at (at.FindTodo search) e) got (act (at.FindTodo search) now got e) (searches (said got).way (said got).bytes search now e)
  step at.InTodo now got e h k = quiet_leads (due_at at.InTodo e) got (act at.InTodo now got e) (passes e e.pass.row now got)
  step (at.Finish row n) now got e h k = finish_leads row n now got e k
  step (at.Sweep row) now got e h k =
      quiet_leads (due_at (at.Sweep row) e) got (act (at.Sweep row) now got e) (sweep_goes (sweep_to row now (said got) e.book) (looked_up row (said got) (sweep_begun row now e)))
  step (at.Ended status) now got e h k = absurd h

  abbrev Led : Row → Desk → ℕ → Ready → GotData → Type 0
  Led row e read ready got = Leads (due_at (arrive row (at_row row e) read ready) (at_row row e)) got (act (arrive row (at_row row e) read ready) read got (at_row row e))

  led_at : (row : Row) (e : Desk) (read : ℕ) (ready : Ready) (got : GotData) → Stands row e.bounce → Led row e read ready got
  led_at (at.Turn p) e read ready got k =
      let begins = point_begins (at_row (at.Turn p) e) read ready p in
      step (from_point p (at_row (at.Turn p) e) read ready) read got (at_row (at.Turn p) e) (begins_step _ begins) (none_at (λ n. K n e.bounce) _ (begins_none _ begins))
  led_at (at.Ended status) e read ready got k = tt
  led_at (at.Sweep row) e read ready got k = step (arrive (at.Sweep row) (at_row (at.Sweep row) e) read ready) read got (at_row (at.Sweep row) e) tt tt
  led_at (at.Start row) e read ready got k = step (at.Start row) read got (at_row (at.Start row) e) tt k
  led_at (at.TakeLink c) e read ready got k = step (at.TakeLink c) read got (at_row (at.TakeLink c) e) tt k
  led_at (at.Mark row m) e read ready got k = step (at.Mark row m) read got (at_row (at.Mark row m) e) tt k
  led_at (at.UnlinkFile c n p) e read ready got k = step (at.UnlinkFile c n p) read got (at_row (at.UnlinkFile c n p) e) tt k
  led_at (at.ReadFile c n begun r) e read ready got k = step (at.ReadFile c n begun r) read got (at_row (at.ReadFile c n begun r) e) tt k
  led_at (at.Request c) e read ready got k = step (at.Request c) read got (at_row (at.Request c) e) tt k
  led_at (at.FindTodo search) e read ready got k = step (at.FindTodo search) read got (at_row (at.FindTodo search) e) tt k
  led_at at.InTodo e read ready got k = step at.InTodo read got (at_row at.InTodo e) tt k
  led_at (at.Finish row n) e read ready got k = step (at.Finish row n) read got (at_row (at.Finish row n) e) tt k

  pub led_by : (d : Desk) (read : ℕ) (ready : Ready) (got : GotData) → At d.row (λ n. K n d.bounce)
      → At (moved_by (row_now d read ready) read got d).row (λ n. F n (due_at (row_now d read ready) d) got (moved_by (row_now d read ready) read got d).bounce)
  led_by d read ready got k = led_at d.row d read ready got k

-- at a return, what is said of it
abbrev Keeps : Row → Returning → Type 0
Keeps row r = IsReturn row → HasTexts r.row r.input

begun_fares : (due : NeedData) (controls : Controls) (sender : List ℕ) (n now : ℕ) (got : GotData) → Fares due got (return_moved_by controls sender (return_begun n) now got)
begun_fares due controls sender n now (came.Answered told) = opens_notes due (came.Answered told) (return_begun n) told.answer
begun_fares due controls sender n now got = (tt, tt)

kept_at : (row : Row) (r : Returning) → Keeps row r → At row (λ n. HasTexts r.row r.input)
kept_at (at.Finish finish.Return n) r k = k tt
kept_at row r k = tt

-- what is said of the return after one event more
pub led : (d : Desk) (read : ℕ) (ready : Ready) (got : GotData) → Keeps d.row d.bounce
    → IsReturn (moved_by (row_now d read ready) read got d).row → Fares (due_at (row_now d read ready) d) got (moved_by (row_now d read ready) read got d).bounce
led d read ready got k = held_at (Fares (due_at (row_now d read ready) d) got (moved_by (row_now d read ready) read got d).bounce) (moved_by (row_now d read ready) read got d).row
    (led_by (λ n r. HasTexts r.row r.input) (λ n due came r. Fares due came r)
    (λ controls sender n now came. begun_fares (needs.File (call.Open (bounce_path n) how.Read)) controls sender n now came)
    (λ controls sender n r now came h. return_fares controls sender r.row r now came h)
    d read ready got (kept_at d.row d.bounce k))

pub keeps : (past : List Own) → Keeps (sender_after None past).row (sender_after None past).bounce
keeps [] w = absurd w
keeps (own ∷ before) w = (led (sender_after None before) own.read own.ready own.came (keeps before) w).0

-- What is due of a child is a return's

abbrev pub IsOfChild : NeedData → Type 0
IsOfChild (needs.Start asked) = Unit {0}
IsOfChild (needs.Give (port.Program slot) bytes) = Unit {0}
IsOfChild (needs.Take (port.Status slot)) = Unit {0}
IsOfChild due = ⊥

module _ (d : Desk) where
  start_asks : (row : StartRow) → IsOfChild (due_at (at.Start row) d) → ⊥
  start_asks (start.Control f Opening) = λ w. w
  start_asks (start.Control f (Going fd)) = λ w. w
  start_asks (start.Control f (Closing fd)) = λ w. w
  start_asks (start.Control f (Shutting fd)) = λ w. w
  start_asks start.GreetLocal = λ w. w
  start_asks (start.GreetRemote limit) = λ w. w
  start_asks (start.Scan split) = λ w. w
  start_asks (start.StatTodo split n) = λ w. w
  start_asks (start.ReadInfo split n Opening) = λ w. w
  start_asks (start.ReadInfo split n (Going fd)) = λ w. w
  start_asks (start.ReadInfo split n (Closing fd)) = λ w. w
  start_asks (start.ReadInfo split n (Shutting fd)) = λ w. w
  start_asks (start.StatInfo split n) = λ w. w
  start_asks (start.StatLocal split n birth) = λ w. w
  start_asks (start.StatRemote split n birth local) = λ w. w
  start_asks start.Over = λ w. w
  start_asks (start.Ended status) = λ w. w

  pass_asks : (row : PassRow) (p : Pass) → IsOfChild (pass_due row p) → ⊥
  pass_asks (todo.Clear t) p = λ w. w
  pass_asks todo.StatMess p = λ w. w
  pass_asks todo.OpenTodo p = λ w. w
  pass_asks (todo.ReadTodo fd) p = λ w. w
  pass_asks (todo.CloseTodo fd) p = λ w. w
  pass_asks (todo.Create t) p = λ w. w
  pass_asks (todo.Append t fd done) p = λ w. w
  pass_asks (todo.Sync t fd) p = λ w. w
  pass_asks (todo.Close t fd) p = λ w. w
  pass_asks (todo.Shut fd why) p = λ w. w
  pass_asks todo.Give p = λ w. w
  pass_asks todo.Answer p = λ w. w
  pass_asks todo.Done p = λ w. w
  pass_asks (todo.Left why) p = λ w. w
  pass_asks todo.Lost p = λ w. w

  note_asks : (row : NoteRow) (w : Writing) → IsOfChild (note_due_at row w) → ⊥
  note_asks note.Open it = λ w. w
  note_asks note.Create it = λ w. w
  note_asks (note.Stat fd) it = λ w. w
  note_asks (note.Read fd place len) it = λ w. w
  note_asks (note.Append fd done) it = λ w. w
  note_asks (note.Sync fd) it = λ w. w
  note_asks (note.Close fd) it = λ w. w
  note_asks (note.Shut fd) it = λ w. w
  note_asks note.Written it = λ w. w
  note_asks note.Failed it = λ w. w

  sweep_asks : (row : SweepRow) → IsOfChild (due_at (at.Sweep row) d) → ⊥
  sweep_asks sweep.First = λ w. w
  sweep_asks (sweep.Next split) = λ w. w
  sweep_asks (sweep.StatMess split n) = λ w. w
  sweep_asks (sweep.StatTodo split n) = λ w. w
  sweep_asks (sweep.StatInfo split n todo) = λ w. w
  sweep_asks (sweep.Give split n) = λ w. w
  sweep_asks (sweep.Take split n) = λ w. w
  sweep_asks sweep.Over = λ w. w
  sweep_asks sweep.Lost = λ w. w

  pub returns_alone : (row : Row) → IsOfChild (due_at row d) → IsReturn row
  returns_alone (at.Finish finish.Return n) w = tt
  returns_alone (at.Finish finish.OpenBounce n) w = absurd w
  returns_alone (at.Finish finish.UnlinkInfo n) w = absurd w
  returns_alone (at.Finish finish.Give n) w = absurd w
  returns_alone (at.Finish finish.Take n) w = absurd w
  returns_alone (at.Finish finish.Later n) w = absurd w
  returns_alone (at.Finish finish.Over n) w = absurd w
  returns_alone (at.Finish finish.Lost n) w = absurd w
  returns_alone (at.Start row) w = absurd (start_asks row w)
  returns_alone (at.Turn p) w = absurd w
  returns_alone (at.TakeLink channel.Local) w = absurd w
  returns_alone (at.TakeLink channel.Remote) w = absurd w
  returns_alone (at.Mark mark.Note m) w = absurd w
  returns_alone (at.Mark mark.Noting m) w = absurd (note_asks d.note.row d.note w)
  returns_alone (at.Mark mark.Open m) w = absurd w
  returns_alone (at.Mark (mark.Write fd) m) w = absurd w
  returns_alone (at.Mark (mark.Close fd written) m) w = absurd w
  returns_alone (at.UnlinkFile c n p) w = absurd w
  returns_alone (at.ReadFile c n begun Opening) w = absurd w
  returns_alone (at.ReadFile c n begun (Going fd)) w = absurd w
  returns_alone (at.ReadFile c n begun (Closing fd)) w = absurd w
  returns_alone (at.ReadFile c n begun (Shutting fd)) w = absurd w
  returns_alone (at.Request channel.Local) w = absurd w
  returns_alone (at.Request channel.Remote) w = absurd w
  returns_alone (at.FindTodo search) w = absurd w
  returns_alone at.InTodo w = absurd (pass_asks d.pass.row d.pass w)
  returns_alone (at.Sweep row) w = absurd (sweep_asks row w)
  returns_alone (at.Ended status) w = absurd w

-- Of what is due of a child, which row of the return it is

pub record IsGiveRow (row : ReturnRow) (r : Returning) (slot : ℕ) (bytes : List ℕ) : Type 0 where
  pub pid : ℕ
  pub is : row ≡ back.Give pid
  pub first : slot ≡ 0
  pub text : r.input ≡ bytes

pub give_row : (row : ReturnRow) (r : Returning) (slot : ℕ) (bytes : List ℕ) → return_due_at row r ≡ needs.Give (port.Program slot) bytes → IsGiveRow row r slot bytes
give_row (back.Give pid) r slot bytes e = record { pid = pid; is = refl; first = cc; text = cc }
give_row back.Open r slot bytes e = absurd (cc)
give_row (back.ReadNotes fd) r slot bytes e = absurd (cc)
give_row (back.CloseNotes fd) r slot bytes e = absurd (cc)
give_row back.OpenMessage r slot bytes e = absurd (cc)
give_row (back.ReadMessage fd) r slot bytes e = absurd (cc)
give_row (back.CloseMessage fd) r slot bytes e = absurd (cc)
give_row (back.Shut fd) r slot bytes e = absurd (cc)
give_row back.Start r slot bytes e = absurd (cc)
give_row (back.Await pid) r slot bytes e = absurd (cc)
give_row back.Unlink r slot bytes e = absurd (cc)
give_row back.Discard r slot bytes e = absurd (cc)
give_row back.Over r slot bytes e = absurd (cc)
give_row back.Failed r slot bytes e = absurd (cc)

pub start_row : (row : ReturnRow) (r : Returning) (asked : ChildData) → return_due_at row r ≡ needs.Start asked → (row ≡ back.Start) × (asked ≡ child.Bounce r.room)
start_row back.Start r asked e = (refl, cc)
start_row (back.Give pid) r asked e = absurd (cc)
start_row back.Open r asked e = absurd (cc)
start_row (back.ReadNotes fd) r asked e = absurd (cc)
start_row (back.CloseNotes fd) r asked e = absurd (cc)
start_row back.OpenMessage r asked e = absurd (cc)
start_row (back.ReadMessage fd) r asked e = absurd (cc)
start_row (back.CloseMessage fd) r asked e = absurd (cc)
start_row (back.Shut fd) r asked e = absurd (cc)
start_row (back.Await pid) r asked e = absurd (cc)
start_row back.Unlink r asked e = absurd (cc)
start_row back.Discard r asked e = absurd (cc)
start_row back.Over r asked e = absurd (cc)
start_row back.Failed r asked e = absurd (cc)
