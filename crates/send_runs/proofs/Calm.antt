-- A reading of a channel file, a finish and a sweep go on only from their own rows: any other row leads to none of theirs but the first.
use Rattle.std.proofs.Common.{ℕ, ◌+◌, ◌-◌, List, [], ◌∷◌, drop, nat_lt, Bool, true, false, if◌then◌else◌, Option, Some, None}
use Rattle.std.specs.Prelude.{◌||◌, is_some, slice_get}
use Rattle.bounce_record.specs.declared.note_row.NoteRow.{NoteRow}
use Rattle.bounce_record.specs.declared.note_row.NoteRow.TheVariants as written
use Rattle.bounce_record.specs.Returning.{return_begun}
use Rattle.bounce_record.specs.Writing.{moved as note_moved}
use Rattle.call_fs.specs.declared.calls.Fd.{Fd}
use Rattle.call_fs.specs.declared.past.GotData.{GotData}
use Rattle.call_fs.specs.declared.program.Ready.{Ready}
use Rattle.envelope_records.specs.declared.channel.Record.{Record}
use Rattle.mail_bytes.specs.Decimal.{digits}
use Rattle.retry_schedule.specs.Due.{first_due}
use Rattle.send_core.specs.Desk.{closed_by, due_on, goes, has_begun, is_free_for, link, next_idle, past_finish, past_todo, request_sent, retried, stands_at, sweep_due, turn_counted, turn_over, with_requests}
use Rattle.send_core.specs.Finish.{act_finish, bounce_on, finish_at, forgot, put_off_to, returned_to}
use Rattle.send_core.specs.Start.{start_at, started}
use Rattle.send_core.specs.Table.{act, begin_by, beginning, finishing, finishing_by, from_begin, from_local, from_point, from_remote, from_reports, from_sweep, from_take, going_on, holds, link_of, marking, marking_by, or_else, passing, sweeping, taking}
use Rattle.send_core.specs.Turn.{act_mark, begin_note, is_done, known_of, lost, mark_opened, mark_over, noted, noted_at, pass_opened, put_later, requested, todo_found, todo_named, todo_none, todo_on, todo_over, todo_went, took, unlinked}
use Rattle.send_core.specs.declared.desk.Desk.{Desk}
use Rattle.send_parts.specs.declared.row.MarkRow.{MarkRow}
use Rattle.send_parts.specs.declared.row.MarkRow.TheVariants as mark
use Rattle.send_parts.specs.declared.row.Marked.{Marked}
use Rattle.send_parts.specs.declared.row.Point.{Point}
use Rattle.send_parts.specs.declared.row.Point.TheVariants as point
use Rattle.send_parts.specs.declared.row.Row.{Row}
use Rattle.send_parts.specs.declared.row.Row.TheVariants as at
use Rattle.send_jobs.specs.declared.attempts.Failure.{Failure}
use Rattle.send_jobs.specs.declared.attempts.Mark.{Mark}
use Rattle.send_known.specs.declared.channel.Channel.{Channel}
use Rattle.send_known.specs.declared.channel.Channel.TheVariants.{Local, Remote}
use Rattle.send_jobs.specs.declared.jobs.Job.{Job}
use Rattle.send_jobs.specs.Lanes.{job_over, left_unmarked, mark_settled, next}
use Rattle.send_jobs.specs.Sending.{at_lane, lane, sent_on}
use Rattle.send_jobs.specs.Slots.{lowest}
use Rattle.send_known.specs.Messages.{learned}
use Rattle.send_parts.specs.declared.reading.Reading.TheVariants.{Opening}
use Rattle.send_parts.specs.declared.reply.Way.{Way}
use Rattle.send_parts.specs.declared.reply.Way.TheVariants as way
use Rattle.send_parts.specs.declared.rows.FinishRow.{FinishRow}
use Rattle.send_parts.specs.declared.rows.FinishRow.TheVariants as finish
use Rattle.send_parts.specs.declared.rows.Search.{Search}
use Rattle.send_parts.specs.declared.rows.Search.TheVariants as search
use Rattle.send_parts.specs.declared.rows.StartRow.{StartRow}
use Rattle.send_parts.specs.declared.rows.StartRow.TheVariants as start
use Rattle.send_parts.specs.declared.rows.SweepRow.TheVariants as sweep
use Rattle.send_parts.specs.Files.{message_number}
use Rattle.send_parts.specs.Finish.{finish_to}
use Rattle.send_parts.specs.Replies.{said}
use Rattle.send_parts.specs.Rows.{is_again}
use Rattle.todo_pass.specs.declared.row.Row.{Row as PassRow}
use Rattle.todo_pass.specs.declared.row.Row.TheVariants as todo
use Rattle.todo_pass.specs.Table.{Pass, answer_row, moved as pass_moved}

-- neither a reading that was opened, nor a finish or a sweep under way
abbrev pub IsCalm : Row → Type 0
IsCalm (at.ReadFile c n begun Opening) = Unit {0}
IsCalm (at.ReadFile c n begun reading) = ⊥
IsCalm (at.Finish finish.OpenBounce n) = Unit {0}
IsCalm (at.Finish row n) = ⊥
IsCalm (at.Sweep sweep.First) = Unit {0}
IsCalm (at.Sweep row) = ⊥
IsCalm row = Unit {0}

-- rows of none of these, at which something is done
abbrev pub IsOther : Row → Type 0
IsOther (at.Turn p) = ⊥
IsOther (at.ReadFile c n begun reading) = ⊥
IsOther (at.Finish row n) = ⊥
IsOther (at.Sweep row) = ⊥
IsOther (at.Ended status) = ⊥
IsOther row = Unit {0}

abbrev Calm : Desk → Type 0
Calm d = IsCalm d.row

calm_if : (b : Bool) (x y : Desk) → Calm x → Calm y → Calm (if b then x else y)
calm_if true x y p q = p
calm_if false x y p q = q

-- Where rows lead

calm_lost : (c : Channel) → IsCalm (lost c)
calm_lost Local = tt
calm_lost Remote = tt

calm_took : (w : Way) (bytes : List ℕ) (c : Channel) (d : Desk) → Calm (took w bytes c d)
calm_took way.Fine bytes c d = tt
calm_took way.Over bytes c d = calm_lost c
calm_took way.Absent bytes c d = calm_lost c
calm_took way.NoMemory bytes c d = calm_lost c
calm_took way.Broken bytes c d = calm_lost c

pub calm_closed : (o : Option Job) (c : Channel) (n : ℕ) (p : Point) (d : Desk) → Calm (closed_by o c n p d)
calm_closed None c n p d = tt
calm_closed (Some job) c n p d = calm_if job.unmarked (retried c n job.begun (stands_at d p)) (goes d (at.UnlinkFile c n p)) tt tt

pub calm_pass : (o : Option (List Record)) (c : Channel) (n begun now : ℕ) (d : Desk) → Calm (pass_opened o c n begun now d)
calm_pass None c n begun now d = tt
calm_pass (Some records) c n begun now d =
    let after : Desk = has_begun c n begun records d in
    calm_if (is_free_for n (lane c d.slots)) (closed_by (job_over n (lane c after.slots)) c n (point.Pass c false) after) (put_later c n now d)
    (calm_closed (job_over n (lane c after.slots)) c n (point.Pass c false) after) tt

calm_marked : (b : Bool) (m : Marked) (d : Desk) → Calm (mark_over b m d)
calm_marked true m d = let after : Desk = record d { slots = at_lane m.channel mark_settled d.slots } in calm_closed (job_over m.n (lane m.channel after.slots)) m.channel m.n point.Reports after
calm_marked false m d =
    let after : Desk = record d { slots = at_lane m.channel (left_unmarked m.n) (at_lane m.channel mark_settled d.slots) } in
    calm_closed (job_over m.n (lane m.channel after.slots)) m.channel m.n point.Reports after

calm_opened : (w : Way) (m : Marked) (fd : Fd) (d : Desk) → Calm (mark_opened w m fd d)
calm_opened way.Fine m fd d = tt
calm_opened way.Over m fd d = calm_marked false m d
calm_opened way.Absent m fd d = calm_marked false m d
calm_opened way.NoMemory m fd d = calm_marked false m d
calm_opened way.Broken m fd d = calm_marked false m d

calm_noted : (row : NoteRow) (m : Marked) (d : Desk) → Calm (noted_at row m d)
calm_noted written.Written m d = tt
calm_noted written.Failed m d = calm_marked false m d
calm_noted row m d = tt

calm_note : (m : Marked) (got : GotData) (d : Desk) → Calm (noted m got d)
calm_note m got d = calm_noted (note_moved d.note got).row m (record d { note = note_moved d.note got })

calm_mark : (row : MarkRow) (m : Marked) (got : GotData) (d : Desk) → Calm (act_mark row m got d)
calm_mark mark.Note m got d = calm_note m got (begin_note m d)
calm_mark mark.Noting m got d = calm_note m got d
calm_mark mark.Open m got d = calm_opened (said got).way m (said got).fd d
calm_mark (mark.Write fd) m got d = tt
calm_mark (mark.Close fd done) m got d = calm_marked done m d

calm_unlinked : (w : Way) (c : Channel) (n : ℕ) (p : Point) (now : ℕ) (d : Desk) → Calm (unlinked w c n p now d)
calm_unlinked way.Fine c n p now d = tt
calm_unlinked way.Over c n p now d = tt
calm_unlinked way.Absent c n p now d = tt
calm_unlinked way.NoMemory c n p now d = tt
calm_unlinked way.Broken c n p now d = tt

calm_sent : (c : Channel) (d : Desk) → Calm (request_sent c (stands_at d (point.Pass c false)))
calm_sent Local d =
    let before : Desk = stands_at d (point.Pass Local false) in
    calm_if (is_some (next (lane Local d.slots))) (with_requests Local (drop 1 (link Local d).requests) (record before { slots = sent_on Local d.slots })) before tt tt
calm_sent Remote d =
    let before : Desk = stands_at d (point.Pass Remote false) in
    calm_if (is_some (next (lane Remote d.slots))) (with_requests Remote (drop 1 (link Remote d).requests) (record before { slots = sent_on Remote d.slots })) before tt tt

calm_requested : (w : Way) (c : Channel) (d : Desk) → Calm (requested w c d)
calm_requested way.Fine c d = calm_sent c d
calm_requested way.Over c d = calm_lost c
calm_requested way.Absent c d = calm_lost c
calm_requested way.NoMemory c d = calm_lost c
calm_requested way.Broken c d = calm_lost c

calm_counted : (turns : Option ℕ) (d : Desk) → Calm (turn_counted turns d)
calm_counted None d = tt
calm_counted (Some k) d = calm_if (nat_lt 1 k) (record d { turns = Some (k - 1); row = at.Turn point.TakeLocal }) (record d { turns = Some 0; row = at.Ended 0 }) tt tt

pub calm_over : (d : Desk) → Calm (turn_over d)
calm_over d = calm_counted d.turns (record d { busy = false })

pub calm_past_finish : (now : ℕ) (d : Desk) → Calm (past_finish now d)
calm_past_finish now d = calm_if (sweep_due now d.swept) (stands_at d point.Sweep) (turn_over d) tt (calm_over d)

calm_past_todo : (now : ℕ) (d : Desk) → Calm (past_todo now d)
calm_past_todo now d = calm_if (is_some (next_idle now d) || sweep_due now d.swept) (stands_at d point.Finish) (turn_over d) tt (calm_over d)

calm_none : (again : Bool) (last : List ℕ) (now : ℕ) (d : Desk) → Calm (todo_none again last now d)
calm_none false (b ∷ bs) now d = tt
calm_none false [] now d = calm_past_todo now d
calm_none true last now d = calm_past_todo now d

calm_found : (o : Option ℕ) (text : List ℕ) (s : Search) (d : Desk) → Calm (todo_found o text s d)
calm_found None text s d = tt
calm_found (Some n) text s d = tt

calm_named : (w : Way) (text : List ℕ) (s : Search) (now : ℕ) (d : Desk) → Calm (todo_named w text s now d)
calm_named way.Fine text s now d = calm_found (message_number text) text s d
calm_named way.Over text s now d = calm_none (is_again s) d.last_left now d
calm_named way.Absent text s now d = calm_none (is_again s) d.last_left now d
calm_named way.NoMemory text s now d = calm_none (is_again s) d.last_left now d
calm_named way.Broken text s now d = calm_none (is_again s) d.last_left now d

calm_on : (row : PassRow) (p : Pass) (now : ℕ) (d : Desk) → Calm (todo_on row p now d)
calm_on (todo.Left why) p now d = calm_past_todo now (record d { pass = p; last_left = digits p.n })
calm_on todo.Lost p now d = tt
calm_on row p now d = tt

calm_over_pass : (row : PassRow) (p : Pass) (now : ℕ) (d : Desk) → Calm (todo_over row p now d)
calm_over_pass row p now d =
    let learnt : Desk = record d { pass = p; book = record d.book { messages = learned (known_of p) now d.book.messages } } in
    calm_if (is_done row) (past_todo now learnt) (todo_on row p now d) (calm_past_todo now learnt) (calm_on row p now d)

calm_went : (row : PassRow) (came : GotData) (p : Pass) (now : ℕ) (d : Desk) → Calm (todo_went row came p now d)
calm_went todo.Answer came p now d = calm_over_pass (answer_row came) p now d
calm_went row came p now d = calm_on p.row p now d

-- a finish leads to a row of its own, or to such a row
module _ (P : Row → Type 0) (calm : (row : Row) → IsCalm row → P row) (n : ℕ) (own : (row : FinishRow) → P (at.Finish row n)) where
  finish_at_leads : (row : FinishRow) (now : ℕ) (d : Desk) → P (finish_at row n now d).row
  finish_at_leads finish.Later now d = let e : Desk = put_off_to n (now + 123) d in calm (past_finish now e).row (calm_past_finish now e)
  finish_at_leads finish.Over now d = let e : Desk = forgot n d in calm (past_finish now e).row (calm_past_finish now e)
  finish_at_leads finish.Lost now d = calm (at.Ended 81) tt
  finish_at_leads finish.OpenBounce now d = own finish.OpenBounce
  finish_at_leads finish.Return now d = own finish.Return
  finish_at_leads finish.UnlinkInfo now d = own finish.UnlinkInfo
  finish_at_leads finish.Give now d = own finish.Give
  finish_at_leads finish.Take now d = own finish.Take

  pub finish_leads : (row : FinishRow) (now : ℕ) (got : GotData) (d : Desk) → P (act_finish row n now got d).row
  finish_leads finish.OpenBounce now got d = let it = bounce_on n now got (return_begun n) d.book in finish_at_leads (returned_to it.row) now (record d { bounce = it; busy = true })
  finish_leads finish.Return now got d = let it = bounce_on n now got d.bounce d.book in finish_at_leads (returned_to it.row) now (record d { bounce = it })
  finish_leads row now got d = finish_at_leads (finish_to row (said got).way) now d

calm_start : (row : StartRow) → IsCalm (start_at row)
calm_start start.Over = tt
calm_start (start.Ended status) = tt
calm_start row = tt

pub calm_row : (row : Row) (now : ℕ) (got : GotData) (d : Desk) → IsOther row → Calm (act row now got d)
calm_row (at.Start row) now got d other = calm_start (started row (said got) d).book.row
calm_row (at.Turn p) now got d other = absurd other
calm_row (at.TakeLink c) now got d other = calm_took (said got).way (said got).bytes c d
calm_row (at.Mark row m) now got d other = calm_mark row m got d
calm_row (at.UnlinkFile c n p) now got d other = calm_unlinked (said got).way c n p now d
calm_row (at.ReadFile c n begun reading) now got d other = absurd other
calm_row (at.Request c) now got d other = calm_requested (said got).way c d
calm_row (at.FindTodo s) now got d other = calm_named (said got).way (said got).bytes s now d
calm_row at.InTodo now got d other = calm_went d.pass.row got (pass_moved d.book.controls d.pass now got) now d
calm_row (at.Finish row n) now got d other = absurd other
calm_row (at.Sweep row) now got d other = absurd other
calm_row (at.Ended status) now got d other = absurd other

-- Between two steps

-- the rows that a turn leads to
abbrev pub IsFresh : Row → Type 0
IsFresh (at.TakeLink c) = Unit {0}
IsFresh (at.Mark mark.Note m) = Unit {0}
IsFresh (at.Mark mark.Open m) = Unit {0}
IsFresh (at.ReadFile c n begun Opening) = Unit {0}
IsFresh (at.Request c) = Unit {0}
IsFresh (at.FindTodo s) = Unit {0}
IsFresh (at.Finish finish.OpenBounce n) = Unit {0}
IsFresh (at.Sweep sweep.First) = Unit {0}
IsFresh row = ⊥

abbrev FreshIf : Option Row → Type 0
FreshIf None = Unit {0}
FreshIf (Some row) = IsFresh row

module _ (d : Desk) (now : ℕ) (ready : Ready) where
  or_fresh : (o : Option Row) (row : Row) → FreshIf o → IsFresh row → IsFresh (or_else o row)
  or_fresh None row p q = q
  or_fresh (Some first) row p q = p

  taking_fresh : (c : Channel) → FreshIf (taking c ready)
  taking_fresh c = by (holds (slice_get ready.links (link_of c))) where
    by : (b : Bool) → FreshIf (if b then Some (at.TakeLink c) else None)
    by true = tt
    by false = tt

  mark_fresh : (o : Option Failure) (m : Marked) → IsFresh (at.Mark (begin_by o) m)
  mark_fresh None m = tt
  mark_fresh (Some failure) m = tt

  marking_fresh : (c : Channel) (o : Option Mark) → FreshIf (marking_by c o)
  marking_fresh c None = tt
  marking_fresh c (Some it) = mark_fresh it.note (record { channel = c; n = it.attempt.n; place = it.attempt.place })

  going_fresh : (c : Channel) (o : Option ℕ) → FreshIf (going_on c o)
  going_fresh c None = tt
  going_fresh c (Some slot) = tt

  beginning_fresh : (c : Channel) (may : Bool) (o : Option (ℕ × ℕ)) → FreshIf (beginning c may o)
  beginning_fresh c false o = tt
  beginning_fresh c true None = tt
  beginning_fresh c true (Some x) = tt

  passing_fresh : (c : Channel) (may : Bool) → FreshIf (passing c may d now)
  passing_fresh c may = by (is_some (next (lane c d.slots))) where
    by : (b : Bool) → FreshIf (if b then going_on c (lowest (lane c d.slots).slots) else beginning c may (first_due now (due_on c d.book.messages)))
    by true = going_fresh c (lowest (lane c d.slots).slots)
    by false = beginning_fresh c may (first_due now (due_on c d.book.messages))

  finishing_fresh : (o : Option ℕ) → FreshIf (finishing_by o)
  finishing_fresh None = tt
  finishing_fresh (Some n) = tt

  sweeping_fresh : FreshIf (sweeping d now)
  sweeping_fresh = by (sweep_due now d.swept) where
    by : (b : Bool) → FreshIf (if b then Some (at.Sweep sweep.First) else None)
    by true = tt
    by false = tt

  remote_fresh : (may : Bool) → IsFresh (from_remote may d now)
  remote_fresh may = or_fresh (passing Remote may d now) (at.FindTodo search.AfterLeft) (passing_fresh Remote may) tt

  local_fresh : (may : Bool) → IsFresh (from_local may d now)
  local_fresh may = or_fresh (passing Local may d now) (from_remote true d now) (passing_fresh Local may) (remote_fresh true)

  reports_fresh : IsFresh (from_reports d now)
  reports_fresh = or_fresh (marking Local d) (or_else (marking Remote d) (from_local true d now)) (marking_fresh Local (slice_get (lane Local d.slots).marks 0))
      (or_fresh (marking Remote d) (from_local true d now) (marking_fresh Remote (slice_get (lane Remote d.slots).marks 0)) (local_fresh true))

  take_fresh : IsFresh (from_take d now ready)
  take_fresh = or_fresh (taking Remote ready) (from_reports d now) (taking_fresh Remote) reports_fresh

  begin_fresh : IsFresh (from_begin d now ready)
  begin_fresh = or_fresh (taking Local ready) (from_take d now ready) (taking_fresh Local) take_fresh

  sweep_fresh : IsFresh (from_sweep d now ready)
  sweep_fresh = or_fresh (sweeping d now) (from_begin d now ready) sweeping_fresh begin_fresh

  pub point_fresh : (p : Point) → IsFresh (from_point p d now ready)
  point_fresh point.TakeLocal = begin_fresh
  point_fresh point.TakeRemote = take_fresh
  point_fresh point.Reports = reports_fresh
  point_fresh (point.Pass Local may) = local_fresh may
  point_fresh (point.Pass Remote may) = remote_fresh may
  point_fresh point.Finish = or_fresh (finishing d now) (from_sweep d now ready) (finishing_fresh (next_idle now d)) sweep_fresh
  point_fresh point.Sweep = sweep_fresh

fresh_calm : (row : Row) → IsFresh row → IsCalm row
fresh_calm (at.ReadFile c n begun Opening) is = tt
fresh_calm (at.ReadFile c n begun reading) is = absurd is
fresh_calm (at.Finish finish.OpenBounce n) is = tt
fresh_calm (at.Finish row n) is = absurd is
fresh_calm (at.Sweep sweep.First) is = tt
fresh_calm (at.Sweep row) is = absurd is
fresh_calm row is = tt

pub point_calm : (d : Desk) (now : ℕ) (ready : Ready) (p : Point) → IsCalm (from_point p d now ready)
point_calm d now ready p = fresh_calm (from_point p d now ready) (point_fresh d now ready p)
