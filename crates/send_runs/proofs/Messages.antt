-- What each change of the known messages, and of when they are due, keeps: each event of a sender keeps it, and so it holds after each past.
use Rattle.std.proofs.Common.{ℕ, List, [], ◌∷◌, Bool, true, false, Option, Some, None, refl}
use Rattle.bounce_record.specs.Returning.{return_begun}
use Rattle.call_fs.specs.declared.past.GotData.{GotData}
use Rattle.call_fs.specs.declared.past.Own.{Own}
use Rattle.envelope_records.specs.declared.channel.Record.{Record}
use Rattle.send_core.specs.declared.desk.Desk.{Desk}
use Rattle.send_parts.specs.declared.row.Point.{Point}
use Rattle.send_parts.specs.declared.row.Point.TheVariants as point
use Rattle.send_parts.specs.declared.row.Row.{Row}
use Rattle.send_parts.specs.declared.row.Row.TheVariants as at
use Rattle.send_core.specs.Desk.{closed_by, has_begun, is_free_for, later, never, retry_of}
use Rattle.send_core.specs.Finish.{act_finish, bounce_on, looked_up, returned_to, sweep_begun}
use Rattle.send_core.specs.Table.{act, place_after, row_now}
use Rattle.send_core.specs.Turn.{begun_at, file_read, known_of, pass_opened, put_later, todo_went, unlinked}
use Rattle.send_known.specs.declared.channel.Channel.{Channel}
use Rattle.send_known.specs.declared.channel.Channel.TheVariants.{Local, Remote}
use Rattle.send_jobs.specs.declared.jobs.Job.{Job}
use Rattle.send_jobs.specs.Lanes.{job_over}
use Rattle.send_jobs.specs.Sending.{lane}
use Rattle.send_jobs.specs.Tries.{due_then, file_gone}
use Rattle.send_known.specs.declared.known.Known.{Known}
use Rattle.send_known.specs.declared.messages.Messages.{Messages}
use Rattle.send_known.specs.Known.{put_off}
use Rattle.send_known.specs.Messages.{forgotten, learned, none_known}
use Rattle.send_parts.specs.declared.book.Book.{Book}
use Rattle.send_parts.specs.declared.reading.Progress.{Progress}
use Rattle.send_parts.specs.declared.reading.Progress.TheVariants.{Goes, Whole, Missing, Failed}
use Rattle.send_parts.specs.declared.reading.Reading.{Reading}
use Rattle.send_parts.specs.declared.reply.Way.{Way}
use Rattle.send_parts.specs.declared.reply.Way.TheVariants as way
use Rattle.send_parts.specs.declared.rows.FinishRow.{FinishRow}
use Rattle.send_parts.specs.declared.rows.FinishRow.TheVariants as finish
use Rattle.send_parts.specs.declared.rows.StartRow.{StartRow}
use Rattle.send_parts.specs.declared.rows.StartRow.TheVariants as start
use Rattle.send_links.specs.Records.{records_of}
use Rattle.send_parts.specs.Files.{sender_in}
use Rattle.send_parts.specs.Finish.{finish_to}
use Rattle.send_parts.specs.Readings.{read_on}
use Rattle.send_parts.specs.Replies.{Said, said}
use Rattle.send_parts.specs.Start.{act_start, remote_stated, scan_known}
use Rattle.send_parts.specs.Sweep.{sweep_to}
use Rattle.todo_pass.specs.declared.row.Row.{Row as PassRow}
use Rattle.todo_pass.specs.declared.row.Row.TheVariants as todo
use Rattle.todo_pass.specs.Table.{Pass, answer_row, moved as pass_moved}
use Rattle.send_runs.proofs.Steady.{Of, Works, of_closed, of_finish_at, of_if, of_looked, of_mark, of_named, of_on, of_over_pass, of_requested, of_swept, of_took, start_book}

-- a change of the messages keeps it
pub record Keeps (P : Messages → Type 0) : Type 0 where
  pub none : P none_known
  pub learns : (k : Known) (due : ℕ) (m : Messages) → P m → P (learned k due m)
  pub moves : (c : Channel) (n due : ℕ) (m : Messages) → P m → P (due_then c n due m)
  pub loses : (c : Channel) (n : ℕ) (m : Messages) → P m → P (file_gone c n m)
  pub delays : (n moment : ℕ) (m : Messages) → P m → P (record m { known = put_off n moment m.known })
  pub forgets : (n : ℕ) (m : Messages) → P m → P (forgotten n m)

module _ (P : Messages → Type 0) (keep : Keeps P) where
  -- whatever jobs there are
  abbrev Any : Messages → List Job → List Job → Type 0
  Any m jl jr = P m

  works : Works Any
  works = record { unmarks = λ c n d h. h; retries = λ c n job d is h. keep.moves c n (retry_of c n job.begun d) d.book.messages h }

  of_unlinked : (w : Way) (c : Channel) (n : ℕ) (p : Point) (now : ℕ) (d : Desk) → Of Any d → Of Any (unlinked w c n p now d)
  of_unlinked way.Fine c n p now d h = keep.loses c n d.book.messages h
  of_unlinked way.Over c n p now d h = keep.moves c n (later now) d.book.messages h
  of_unlinked way.Absent c n p now d h = keep.moves c n (later now) d.book.messages h
  of_unlinked way.NoMemory c n p now d h = keep.moves c n (later now) d.book.messages h
  of_unlinked way.Broken c n p now d h = keep.moves c n (later now) d.book.messages h

  -- passes

  of_later : (c : Channel) (n now : ℕ) (d : Desk) → Of Any d → Of Any (put_later c n now d)
  of_later c n now d h = keep.moves c n (later now) d.book.messages h

  of_begun : (c : Channel) (n begun : ℕ) (records : List Record) (d : Desk) → Of Any d → Of Any (has_begun c n begun records d)
  of_begun Local n begun records d h = keep.moves Local n never d.book.messages h
  of_begun Remote n begun records d h = keep.moves Remote n never d.book.messages h

  of_pass : (o : Option (List Record)) (c : Channel) (n begun now : ℕ) (d : Desk) → Of Any d → Of Any (pass_opened o c n begun now d)
  of_pass None c n begun now d h = of_later c n now d h
  of_pass (Some records) c n begun now d h =
      let after : Desk = has_begun c n begun records d in
      of_if Any (is_free_for n (lane c d.slots)) (closed_by (job_over n (lane c after.slots)) c n (point.Pass c false) after) (put_later c n now d)
      (of_closed Any works (job_over n (lane c after.slots)) c n (point.Pass c false) after refl (of_begun c n begun records d h)) (of_later c n now d h)

  of_file : (x : Progress) (c : Channel) (n begun : ℕ) (g : Reading) (now : ℕ) (s : Said) (d : Desk) → Of Any d → Of Any (file_read x c n begun g now s d)
  of_file (Goes more) c n begun g now s d h = h
  of_file Whole c n begun g now s d h = of_pass (records_of d.book.read) c n begun now d h
  of_file Missing c n begun g now s d h = of_later c n now d h
  of_file Failed c n begun g now s d h = of_later c n now d h

  -- the start

  learned_book : (split n birth : ℕ) (local remote : Bool) (b : Book) → P b.messages → P (scan_known split n birth local remote b).messages
  learned_book split n birth local remote b h = keep.learns (record { n = n; birth = birth; finish_at = 0; local = local; remote = remote; sender = sender_in b.read }) 0 b.messages h

  stated_book : (w : Way) (split n birth : ℕ) (local : Bool) (b : Book) → P b.messages → P (remote_stated w split n birth local b).messages
  stated_book way.Fine split n birth local b h = learned_book split n birth local true b h
  stated_book way.Absent split n birth local b h = learned_book split n birth local false b h
  stated_book way.Over split n birth local b h = h
  stated_book way.NoMemory split n birth local b h = h
  stated_book way.Broken split n birth local b h = h

  of_start : (row : StartRow) (s : Said) (b : Book) → P b.messages → P (act_start row s b).messages
  of_start (start.StatRemote split n birth local) s b h = stated_book s.way split n birth local b h
  of_start row s b h = start_book P row s b (λ look. absurd look) h

  -- preprocessing and finish

  of_went : (row : PassRow) (came : GotData) (p : Pass) (now : ℕ) (d : Desk) → Of Any d → Of Any (todo_went row came p now d)
  of_went todo.Answer came p now d h = of_over_pass Any (answer_row came) p now d (λ e. keep.learns (known_of p) now d.book.messages h) (λ e. h)
  of_went row came p now d h = of_on Any p.row p now d h

  of_finish : (row : FinishRow) (n now : ℕ) (got : GotData) (d : Desk) → Of Any d → Of Any (act_finish row n now got d)
  of_finish finish.OpenBounce n now got d h =
      let it = bounce_on n now got (return_begun n) d.book in
      of_finish_at Any (returned_to it.row) n now (record d { bounce = it; busy = true }) (λ e. keep.forgets n d.book.messages h) (λ e. keep.delays n (later now) d.book.messages h) h
  of_finish finish.Return n now got d h =
      let it = bounce_on n now got d.bounce d.book in
      of_finish_at Any (returned_to it.row) n now (record d { bounce = it }) (λ e. keep.forgets n d.book.messages h) (λ e. keep.delays n (later now) d.book.messages h) h
  of_finish row n now got d h = of_finish_at Any (finish_to row (said got).way) n now d (λ e. keep.forgets n d.book.messages h) (λ e. keep.delays n (later now) d.book.messages h) h

  -- each row

  of_row : (row : Row) (now : ℕ) (got : GotData) (d : Desk) → Of Any d → Of Any (act row now got d)
  of_row (at.Start row) now got d h = of_start row (said got) d.book h
  of_row (at.Turn p) now got d h = h
  of_row (at.TakeLink c) now got d h = of_took Any works (said got).way (said got).bytes c d h
  of_row (at.Mark row m) now got d h = of_mark Any works row m got d h
  of_row (at.UnlinkFile c n p) now got d h = of_unlinked (said got).way c n p now d h
  of_row (at.ReadFile c n begun reading) now got d h = of_file (read_on reading (said got)) c n (begun_at reading begun now) reading now (said got) d h
  of_row (at.Request c) now got d h = of_requested Any (said got).way c d h
  of_row (at.FindTodo search) now got d h = of_named Any (said got).way (said got).bytes search now d h
  of_row at.InTodo now got d h = of_went d.pass.row got (pass_moved d.book.controls d.pass now got) now d h
  of_row (at.Finish row n) now got d h = of_finish row n now got d h
  of_row (at.Sweep row) now got d h = of_swept Any (sweep_to row now (said got) d.book) (looked_up row (said got) (sweep_begun row now d)) (of_looked Any row (said got) now d h)
  of_row (at.Ended status) now got d h = h

  pub of_past : (turns : Option ℕ) (past : List Own) → P (place_after turns past).book.messages
  of_past turns [] = keep.none
  of_past turns (event ∷ before) =
      let d : Desk = place_after turns before in of_row (row_now d event.read event.ready) event.read event.came d (of_past turns before)
