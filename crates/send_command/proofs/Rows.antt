-- Where each row of the sender's table leads: to an end only for a cause.
use Rattle.std.proofs.Common.{◌≡◌, ℕ, ◌+◌, ◌-◌, List, [], ◌∷◌, drop, set, Bool, true, false, if◌then◌else◌, nat_lt, Option, Some, None, refl, sym, subst}
use Rattle.std.specs.Prelude.{◌||◌, is_some}
use Rattle.address_rules.specs.declared.control_file.ControlFile.{ControlFile}
use Rattle.address_rules.specs.Files.{Fault, place, first_fault}
use Rattle.bounce_record.specs.declared.note_row.NoteRow.{NoteRow}
use Rattle.bounce_record.specs.declared.note_row.NoteRow.TheVariants as written
use Rattle.bounce_record.specs.declared.return_row.ReturnRow.{ReturnRow}
use Rattle.bounce_record.specs.declared.return_row.ReturnRow.TheVariants as back
use Rattle.bounce_record.specs.Writing.{moved as note_moved}
use Rattle.call_fs.specs.declared.calls.Fd.{Fd}
use Rattle.call_fs.specs.declared.past.GotData.{GotData}
use Rattle.envelope_records.specs.declared.channel.Record.{Record}
use Rattle.mail_bytes.specs.Decimal.{digits}
use Rattle.send_known.specs.declared.channel.Channel.{Channel}
use Rattle.send_known.specs.declared.channel.Channel.TheVariants.{Local, Remote}
use Rattle.send_jobs.specs.declared.jobs.Job.{Job}
use Rattle.send_jobs.specs.Lanes.{job_over, left_unmarked, mark_settled, next}
use Rattle.send_jobs.specs.Sending.{at_lane, lane, sent_on}
use Rattle.send_parts.specs.declared.book.Book.{Book}
use Rattle.send_parts.specs.declared.reading.Progress.{Progress}
use Rattle.send_parts.specs.declared.reading.Progress.TheVariants.{Goes, Whole, Missing, Failed}
use Rattle.send_parts.specs.declared.reading.Reading.{Reading}
use Rattle.send_parts.specs.declared.reading.Reading.TheVariants.{Shutting}
use Rattle.send_parts.specs.declared.reply.Way.{Way}
use Rattle.send_parts.specs.declared.reply.Way.TheVariants as way
use Rattle.send_parts.specs.declared.rows.FinishRow.{FinishRow}
use Rattle.send_parts.specs.declared.rows.FinishRow.TheVariants as finish
use Rattle.send_parts.specs.declared.rows.Search.{Search}
use Rattle.send_parts.specs.declared.rows.StartRow.{StartRow}
use Rattle.send_parts.specs.declared.rows.StartRow.TheVariants as start
use Rattle.send_parts.specs.declared.rows.SweepRow.{SweepRow}
use Rattle.send_parts.specs.declared.rows.SweepRow.TheVariants as sweep
use Rattle.send_links.specs.Records.{records_of}
use Rattle.send_parts.specs.Files.{message_number, number_below}
use Rattle.send_parts.specs.Replies.{Said, said}
use Rattle.send_parts.specs.Rows.{is_again}
use Rattle.send_parts.specs.Start.{file_after, filed, info_row, judged_by, next_file, scan_row, scanned}
use Rattle.todo_pass.specs.declared.row.Row.{Row as PassRow}
use Rattle.todo_pass.specs.declared.row.Row.TheVariants as todo
use Rattle.todo_pass.specs.Table.{Pass}
use Rattle.send_core.specs.declared.desk.Desk.{Desk}
use Rattle.send_parts.specs.declared.row.MarkRow.{MarkRow}
use Rattle.send_parts.specs.declared.row.MarkRow.TheVariants as mark
use Rattle.send_parts.specs.declared.row.Marked.{Marked}
use Rattle.send_parts.specs.declared.row.Point.{Point}
use Rattle.send_parts.specs.declared.row.Point.TheVariants as point
use Rattle.send_parts.specs.declared.row.Row.{Row}
use Rattle.send_parts.specs.declared.row.Row.TheVariants as at
use Rattle.send_core.specs.Desk.{closed_by, goes, has_begun, is_free_for, link, next_idle, past_finish, past_todo, request_sent, retried, stands_at, sweep_due, turn_counted, turn_over, with_requests}
use Rattle.send_core.specs.Finish.{finish_at, forgot, put_off_to, returned_to, sweep_at}
use Rattle.send_core.specs.Start.{start_at}
use Rattle.send_command.specs.Ends.{is_turn_over}
use Rattle.send_core.specs.Turn.{act_mark, begin_note, file_read, lost, mark_opened, mark_over, noted, noted_at, pass_opened, put_later, todo_found, todo_named, todo_none, todo_on, unlinked}

-- A pass that is under way
abbrev pub FinePass : PassRow → Type 0
FinePass todo.Done = ⊥
FinePass (todo.Left why) = ⊥
FinePass todo.Lost = ⊥
FinePass row = Unit {0}

module _ (E : ℕ → Type 0) where
  -- a row of the start: it shuts no file, and an end has a cause
  abbrev pub FineStart : StartRow → Type 0
  FineStart (start.Control f (Shutting fd)) = ⊥
  FineStart (start.ReadInfo split n (Shutting fd)) = ⊥
  FineStart (start.Ended status) = E status
  FineStart row = Unit {0}

  abbrev pub FineAt : Row → PassRow → Type 0
  FineAt (at.Start (start.Ended status)) pass = ⊥
  FineAt (at.Start row) pass = FineStart row
  FineAt (at.UnlinkFile c n p) pass = is_turn_over (at.Turn p) ≡ false
  FineAt at.InTodo pass = FinePass pass
  FineAt (at.Ended status) pass = E status
  FineAt row pass = Unit {0}

  abbrev pub Fine : Desk → Type 0
  Fine d = FineAt d.row d.pass.row

  fine_if : (b : Bool) (x y : Desk) → Fine x → Fine y → Fine (if b then x else y)
  fine_if true x y p q = p
  fine_if false x y p q = q

  -- a row of the start is one that goes on
  pub start_of : (row : StartRow) (pass : PassRow) → FineAt (at.Start row) pass → FineStart row
  start_of (start.Ended status) pass h = absurd h
  start_of (start.Control f reading) pass h = h
  start_of start.GreetLocal pass h = tt
  start_of (start.GreetRemote limit) pass h = tt
  start_of (start.Scan split) pass h = tt
  start_of (start.StatTodo split n) pass h = tt
  start_of (start.ReadInfo split n reading) pass h = h
  start_of (start.StatInfo split n) pass h = tt
  start_of (start.StatLocal split n birth) pass h = tt
  start_of (start.StatRemote split n birth local) pass h = tt
  start_of start.Over pass h = tt

  pub fine_lost_local : (pass : PassRow) → E 82 → FineAt (lost Local) pass
  fine_lost_local pass e = e

  pub fine_lost_remote : (pass : PassRow) → E 83 → FineAt (lost Remote) pass
  fine_lost_remote pass e = e

  -- Jobs and marks end nothing

  pub fine_closed : (o : Option Job) (c : Channel) (n : ℕ) (p : Point) (d : Desk) → is_turn_over (at.Turn p) ≡ false → Fine (closed_by o c n p d)
  fine_closed None c n p d q = tt
  fine_closed (Some job) c n p d q = fine_if job.unmarked (retried c n job.begun (stands_at d p)) (goes d (at.UnlinkFile c n p)) tt q

  fine_opened_pass : (o : Option (List Record)) (c : Channel) (n begun now : ℕ) (d : Desk) → Fine (pass_opened o c n begun now d)
  fine_opened_pass None c n begun now d = tt
  fine_opened_pass (Some records) c n begun now d =
      let after : Desk = has_begun c n begun records d in
      fine_if (is_free_for n (lane c d.slots)) (closed_by (job_over n (lane c after.slots)) c n (point.Pass c false) after) (put_later c n now d)
      (fine_closed (job_over n (lane c after.slots)) c n (point.Pass c false) after refl) tt

  pub fine_file : (p : Progress) (c : Channel) (n begun : ℕ) (reading : Reading) (now : ℕ) (s : Said) (d : Desk) → Fine (file_read p c n begun reading now s d)
  fine_file (Goes next) c n begun reading now s d = tt
  fine_file Whole c n begun reading now s d = fine_opened_pass (records_of d.book.read) c n begun now d
  fine_file Missing c n begun reading now s d = tt
  fine_file Failed c n begun reading now s d = tt

  fine_marked : (b : Bool) (m : Marked) (d : Desk) → Fine (mark_over b m d)
  fine_marked true m d = let after : Desk = record d { slots = at_lane m.channel mark_settled d.slots } in fine_closed (job_over m.n (lane m.channel after.slots)) m.channel m.n point.Reports after refl
  fine_marked false m d =
      let after : Desk = record d { slots = at_lane m.channel (left_unmarked m.n) (at_lane m.channel mark_settled d.slots) } in
      fine_closed (job_over m.n (lane m.channel after.slots)) m.channel m.n point.Reports after refl

  fine_opened : (w : Way) (m : Marked) (fd : Fd) (d : Desk) → Fine (mark_opened w m fd d)
  fine_opened way.Fine m fd d = tt
  fine_opened way.Over m fd d = fine_marked false m d
  fine_opened way.Absent m fd d = fine_marked false m d
  fine_opened way.NoMemory m fd d = fine_marked false m d
  fine_opened way.Broken m fd d = fine_marked false m d

  fine_noted : (row : NoteRow) (m : Marked) (d : Desk) → Fine (noted_at row m d)
  fine_noted written.Written m d = tt
  fine_noted written.Failed m d = fine_marked false m d
  fine_noted row m d = tt

  fine_note : (m : Marked) (came : GotData) (d : Desk) → Fine (noted m came d)
  fine_note m came d = fine_noted (note_moved d.note came).row m (record d { note = note_moved d.note came })

  pub fine_mark : (row : MarkRow) (m : Marked) (came : GotData) (d : Desk) → Fine (act_mark row m came d)
  fine_mark mark.Note m came d = fine_note m came (begin_note m d)
  fine_mark mark.Noting m came d = fine_note m came d
  fine_mark mark.Open m came d = fine_opened (said came).way m (said came).fd d
  fine_mark (mark.Write fd) m came d = tt
  fine_mark (mark.Close fd done) m came d = fine_marked done m d

  pub fine_unlinked : (w : Way) (c : Channel) (n : ℕ) (p : Point) (now : ℕ) (d : Desk) → Fine (unlinked w c n p now d)
  fine_unlinked way.Fine c n p now d = tt
  fine_unlinked way.Over c n p now d = tt
  fine_unlinked way.Absent c n p now d = tt
  fine_unlinked way.NoMemory c n p now d = tt
  fine_unlinked way.Broken c n p now d = tt

  pub fine_sent : (c : Channel) (d : Desk) → Fine (request_sent c (stands_at d (point.Pass c false)))
  fine_sent Local d =
      let before : Desk = stands_at d (point.Pass Local false) in
      fine_if (is_some (next (lane Local d.slots))) (with_requests Local (drop 1 (link Local d).requests) (record before { slots = sent_on Local d.slots })) before tt tt
  fine_sent Remote d =
      let before : Desk = stands_at d (point.Pass Remote false) in
      fine_if (is_some (next (lane Remote d.slots))) (with_requests Remote (drop 1 (link Remote d).requests) (record before { slots = sent_on Remote d.slots })) before tt tt

  -- The end of a turn

  module _ (e0 : E 0) where
    fine_counted : (turns : Option ℕ) (d : Desk) → Fine (turn_counted turns d)
    fine_counted None d = tt
    fine_counted (Some k) d = fine_if (nat_lt 1 k) (record d { turns = Some (k - 1); row = at.Turn point.TakeLocal }) (record d { turns = Some 0; row = at.Ended 0 }) tt e0

    fine_over : (d : Desk) → Fine (turn_over d)
    fine_over d = fine_counted d.turns (record d { busy = false })

    fine_past_finish : (now : ℕ) (d : Desk) → Fine (past_finish now d)
    fine_past_finish now d = fine_if (sweep_due now d.swept) (stands_at d point.Sweep) (turn_over d) tt (fine_over d)

    pub fine_past_todo : (now : ℕ) (d : Desk) → Fine (past_todo now d)
    fine_past_todo now d = fine_if (is_some (next_idle now d) || sweep_due now d.swept) (stands_at d point.Finish) (turn_over d) tt (fine_over d)

    fine_none : (again : Bool) (last : List ℕ) (now : ℕ) (d : Desk) → Fine (todo_none again last now d)
    fine_none false (b ∷ bs) now d = tt
    fine_none false [] now d = fine_past_todo now d
    fine_none true last now d = fine_past_todo now d

    fine_found : (o : Option ℕ) (text : List ℕ) (s : Search) (d : Desk) → Fine (todo_found o text s d)
    fine_found None text s d = tt
    fine_found (Some n) text s d = tt

    pub fine_named : (w : Way) (text : List ℕ) (s : Search) (now : ℕ) (d : Desk) → Fine (todo_named w text s now d)
    fine_named way.Fine text s now d = fine_found (message_number text) text s d
    fine_named way.Over text s now d = fine_none (is_again s) d.last_left now d
    fine_named way.Absent text s now d = fine_none (is_again s) d.last_left now d
    fine_named way.NoMemory text s now d = fine_none (is_again s) d.last_left now d
    fine_named way.Broken text s now d = fine_none (is_again s) d.last_left now d

    -- a pass that isn't done goes on, is left, or lost the cleaner
    pub fine_on : (row : PassRow) (p : Pass) (now : ℕ) (d : Desk) → p.row ≡ row → (row ≡ todo.Lost → E 81) → (row ≡ todo.Done → ⊥) → Fine (todo_on row p now d)
    fine_on (todo.Left why) p now d is e done = fine_past_todo now (record d { pass = p; last_left = digits p.n })
    fine_on todo.Lost p now d is e done = e refl
    fine_on todo.Done p now d is e done = absurd (done refl)
    fine_on (todo.Clear t) p now d is e done = subst FinePass (sym is) tt
    fine_on todo.StatMess p now d is e done = subst FinePass (sym is) tt
    fine_on todo.OpenTodo p now d is e done = subst FinePass (sym is) tt
    fine_on (todo.ReadTodo fd) p now d is e done = subst FinePass (sym is) tt
    fine_on (todo.CloseTodo fd) p now d is e done = subst FinePass (sym is) tt
    fine_on (todo.Create t) p now d is e done = subst FinePass (sym is) tt
    fine_on (todo.Append t fd k) p now d is e done = subst FinePass (sym is) tt
    fine_on (todo.Sync t fd) p now d is e done = subst FinePass (sym is) tt
    fine_on (todo.Close t fd) p now d is e done = subst FinePass (sym is) tt
    fine_on (todo.Shut fd why) p now d is e done = subst FinePass (sym is) tt
    fine_on todo.Give p now d is e done = subst FinePass (sym is) tt
    fine_on todo.Answer p now d is e done = subst FinePass (sym is) tt

    -- a finish
    pub fine_finish_at : (row : FinishRow) (n now : ℕ) (d : Desk) → (row ≡ finish.Lost → E 81) → Fine (finish_at row n now d)
    fine_finish_at finish.Later n now d e = fine_past_finish now (put_off_to n (now + 123) d)
    fine_finish_at finish.Over n now d e = fine_past_finish now (forgot n d)
    fine_finish_at finish.Lost n now d e = e refl
    fine_finish_at finish.OpenBounce n now d e = tt
    fine_finish_at finish.Return n now d e = tt
    fine_finish_at finish.UnlinkInfo n now d e = tt
    fine_finish_at finish.Give n now d e = tt
    fine_finish_at finish.Take n now d e = tt

    no_loss : (row : ReturnRow) → returned_to row ≡ finish.Lost → ⊥
    no_loss back.Over is = cc
    no_loss back.Failed is = cc
    no_loss back.Open is = cc
    no_loss (back.ReadNotes fd) is = cc
    no_loss (back.CloseNotes fd) is = cc
    no_loss back.OpenMessage is = cc
    no_loss (back.ReadMessage fd) is = cc
    no_loss (back.CloseMessage fd) is = cc
    no_loss (back.Shut fd) is = cc
    no_loss back.Start is = cc
    no_loss (back.Give pid) is = cc
    no_loss (back.Await pid) is = cc
    no_loss back.Unlink is = cc
    no_loss back.Discard is = cc

    pub fine_returned : (row : ReturnRow) (n now : ℕ) (d : Desk) → Fine (finish_at (returned_to row) n now d)
    fine_returned row n now d = fine_finish_at (returned_to row) n now d (λ is. absurd (no_loss row is))

    pub fine_sweep : (row : SweepRow) (d : Desk) → (row ≡ sweep.Lost → E 81) → Fine (sweep_at row d)
    fine_sweep sweep.Over d e = fine_over d
    fine_sweep sweep.Lost d e = e refl
    fine_sweep sweep.First d e = tt
    fine_sweep (sweep.Next split) d e = tt
    fine_sweep (sweep.StatMess split n) d e = tt
    fine_sweep (sweep.StatTodo split n) d e = tt
    fine_sweep (sweep.StatInfo split n todo) d e = tt
    fine_sweep (sweep.Give split n) d e = tt
    fine_sweep (sweep.Take split n) d e = tt

  -- The start

  pub fine_start_at : (row : StartRow) (pass : PassRow) → FineStart row → FineAt (start_at row) pass
  fine_start_at start.Over pass h = tt
  fine_start_at (start.Ended status) pass h = h
  fine_start_at (start.Control f reading) pass h = h
  fine_start_at start.GreetLocal pass h = tt
  fine_start_at (start.GreetRemote limit) pass h = tt
  fine_start_at (start.Scan split) pass h = tt
  fine_start_at (start.StatTodo split n) pass h = tt
  fine_start_at (start.ReadInfo split n reading) pass h = h
  fine_start_at (start.StatInfo split n) pass h = tt
  fine_start_at (start.StatLocal split n birth) pass h = tt
  fine_start_at (start.StatRemote split n birth local) pass h = tt

  -- once the last control file was read, a bad one among them ends it
  module _ (content : Option (List ℕ)) (f : ControlFile) (b : Book) (e85 : (fault : Fault) → file_after f ≡ None → first_fault (set b.files (place f) content) ≡ Some fault → E 85) where
    fine_judged : file_after f ≡ None → (o : Option Fault) → first_fault (set b.files (place f) content) ≡ o → FineStart (judged_by o (record b { files = set b.files (place f) content })).row
    fine_judged last None is = tt
    fine_judged last (Some fault) is = e85 fault last is

    fine_next_file : (o : Option ControlFile) → file_after f ≡ o → FineStart (next_file o (record b { files = set b.files (place f) content })).row
    fine_next_file None last = fine_judged last (first_fault (set b.files (place f) content)) refl
    fine_next_file (Some g) is = tt

    pub fine_filed : FineStart (filed content f b).row
    fine_filed = fine_next_file (file_after f) refl

  pub fine_info_row : (b : Bool) (split n : ℕ) → FineStart (info_row b split n)
  fine_info_row true split n = tt
  fine_info_row false split n = tt

  fine_scan_row : (o : Option ℕ) (split : ℕ) → FineStart (scan_row o split)
  fine_scan_row None split = tt
  fine_scan_row (Some n) split = tt

  fine_start_if : (b : Bool) (x y : StartRow) → FineStart x → FineStart y → FineStart (if b then x else y)
  fine_start_if true x y p q = p
  fine_start_if false x y p q = q

  pub fine_scanned : (text : List ℕ) (split : ℕ) (b : Book) → FineStart (scanned way.Fine text split b).row × FineStart (scanned way.Over text split b).row
  fine_scanned text split b = (fine_scan_row (number_below split text) split, fine_start_if (nat_lt split 22) (start.Scan (split + 1)) start.Over tt tt)
