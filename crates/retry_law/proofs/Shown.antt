-- Which rows show channel files.
use Rattle.std.proofs.Common.{◌≡◌, ℕ, [], ◌∷◌, true, false, Option, Some, refl, sym, ap, ◌∙◌, eqb-true}
use Rattle.std.proofs.lemmas.Bool.{and_parts}
use Rattle.bounce_record.specs.Returning.{Returning, due_at as return_due_at}
use Rattle.bounce_record.specs.Writing.{Writing, due_at as note_due_at}
use Rattle.bounce_record.specs.declared.note_row.NoteRow.{NoteRow}
use Rattle.bounce_record.specs.declared.note_row.NoteRow.TheVariants as written
use Rattle.bounce_record.specs.declared.return_row.ReturnRow.{ReturnRow}
use Rattle.bounce_record.specs.declared.return_row.ReturnRow.TheVariants as back
use Rattle.call_fs.specs.declared.calls.CallData.TheVariants as call
use Rattle.call_fs.specs.declared.past.GotData.TheVariants as came
use Rattle.call_fs.specs.declared.past.GotData.{GotData}
use Rattle.call_fs.specs.declared.past.NeedData.TheVariants as needs
use Rattle.call_fs.specs.declared.past.NeedData.{NeedData}
use Rattle.queue_paths.proofs.Paths.{parse-path}
use Rattle.queue_paths.specs.Names.Name.{Of}
use Rattle.queue_paths.specs.Names.Part.{Bounce as BounceFile, Info as InfoFile, Local as LocalFile, Mess as MessFile, Remote as RemoteFile, Todo as TodoFile}
use Rattle.queue_paths.specs.Names.{Name, parse, path}
use Rattle.retry_law.specs.Gone.{MetAreShownFirst, is_made, is_there, made_in, meets, shows}
use Rattle.send_core.specs.Table.{due_at, place_after, row_now}
use Rattle.send_core.specs.declared.desk.Desk.{Desk}
use Rattle.send_parts.specs.declared.row.MarkRow.TheVariants as mark
use Rattle.send_parts.specs.declared.row.MarkRow.{MarkRow}
use Rattle.send_parts.specs.declared.row.Marked.{Marked}
use Rattle.send_parts.specs.declared.row.Row.TheVariants as at
use Rattle.send_parts.specs.declared.row.Row.{Row}
use Rattle.send_known.specs.declared.channel.Channel.TheVariants.{Local, Remote}
use Rattle.send_known.specs.declared.channel.Channel.{Channel}
use Rattle.send_parts.specs.declared.reading.Reading.TheVariants.{Closing, Going, Opening, Shutting}
use Rattle.send_parts.specs.declared.rows.FinishRow.TheVariants as finish
use Rattle.send_parts.specs.declared.rows.FinishRow.{FinishRow}
use Rattle.send_parts.specs.declared.rows.StartRow.TheVariants as start
use Rattle.send_parts.specs.declared.rows.StartRow.{StartRow}
use Rattle.send_parts.specs.declared.rows.SweepRow.TheVariants as sweep
use Rattle.send_parts.specs.declared.rows.SweepRow.{SweepRow}
use Rattle.send_runs.proofs.Quiet.{no_bounce, no_info, no_mess}
use Rattle.send_runs.specs.DueMoments.{is_file}
use Rattle.todo_pass.specs.Table as pass_table
use Rattle.todo_pass.specs.Table.{Pass}
use Rattle.todo_pass.specs.declared.part.Target.TheVariants as target
use Rattle.todo_pass.specs.declared.row.Row.TheVariants as todo
use Rattle.todo_pass.specs.declared.row.Row.{Row as PassRow}

module _ (c : Channel) (n : ℕ) where
  abbrev Shows : NeedData → GotData → Type 0
  Shows due got = shows c n due got ≡ true

  no_todo : (c : Channel) (k : ℕ) → is_file c n (Some (Of TodoFile k)) ≡ false
  no_todo Local k = refl
  no_todo Remote k = refl

  -- of which name the file is that is looked for, or made

  stat_of : (x : Name) (got : GotData) → Shows (needs.File (call.Stat (path x))) got → is_file c n (Some x) ≡ true
  stat_of x (came.Answered told) e = sym (ap (is_file c n) (parse-path x)) ∙ (and_parts (is_file c n (parse (path x))) (is_there told.answer) e).0
  stat_of x got e = absurd (cc)

  make_of : (x : Name) (got : GotData) → Shows (needs.File (call.CreateExcl (path x))) got → is_file c n (Some x) ≡ true
  make_of x (came.Answered told) e = sym (ap (is_file c n) (parse-path x)) ∙ (and_parts (is_file c n (parse (path x))) (is_made told.answer) e).0
  make_of x got e = absurd (cc)

  not_file : {A : Type 0} (x : Name) → is_file c n (Some x) ≡ false → is_file c n (Some x) ≡ true → A
  not_file x none e = let both : true ≡ false = sym e ∙ none in absurd (cc)

  local_is : (c : Channel) (k : ℕ) → is_file c n (Some (Of LocalFile k)) ≡ true → ◌≡◌ {A = Option ℕ} (Some k) (Some n)
  local_is Local k e = ap (λ (i : ℕ). Some i) (eqb-true k n e)
  local_is Remote k e = absurd (cc)

  remote_is : (c : Channel) (k : ℕ) → is_file c n (Some (Of RemoteFile k)) ≡ true → ◌≡◌ {A = Option ℕ} (Some k) (Some n)
  remote_is Remote k e = ap (λ (i : ℕ). Some i) (eqb-true k n e)
  remote_is Local k e = absurd (cc)

  -- Each row

  start_shows : (row : StartRow) (d : Desk) (got : GotData) → Shows (due_at (at.Start row) d) got → meets (at.Start row) d.pass ≡ Some n
  start_shows (start.StatLocal split k birth) d got e = local_is c k (stat_of (Of LocalFile k) got e)
  start_shows (start.StatRemote split k birth local) d got e = remote_is c k (stat_of (Of RemoteFile k) got e)
  start_shows (start.StatTodo split k) d got e = not_file (Of TodoFile k) (no_todo c k) (stat_of (Of TodoFile k) got e)
  start_shows (start.StatInfo split k) d got e = not_file (Of InfoFile k) (no_info c n k) (stat_of (Of InfoFile k) got e)
  start_shows (start.Control file Opening) d got e = absurd (cc)
  start_shows (start.Control file (Going fd)) d got e = absurd (cc)
  start_shows (start.Control file (Closing fd)) d got e = absurd (cc)
  start_shows (start.Control file (Shutting fd)) d got e = absurd (cc)
  start_shows (start.ReadInfo split k Opening) d got e = absurd (cc)
  start_shows (start.ReadInfo split k (Going fd)) d got e = absurd (cc)
  start_shows (start.ReadInfo split k (Closing fd)) d got e = absurd (cc)
  start_shows (start.ReadInfo split k (Shutting fd)) d got e = absurd (cc)
  start_shows start.GreetLocal d got e = absurd (cc)
  start_shows (start.GreetRemote limit) d got e = absurd (cc)
  start_shows (start.Scan split) d got e = absurd (cc)
  start_shows start.Over d got e = absurd (cc)
  start_shows (start.Ended status) d got e = absurd (cc)

  note_none : {A : Type 0} (row : NoteRow) (w : Writing) (got : GotData) → Shows (note_due_at row w) got → A
  note_none written.Create w got e = not_file (Of BounceFile w.n) (no_bounce c n w.n) (make_of (Of BounceFile w.n) got e)
  note_none (written.Stat fd) w got e = not_file (Of BounceFile w.n) (no_bounce c n w.n) (stat_of (Of BounceFile w.n) got e)
  note_none written.Open w got e = absurd (cc)
  note_none (written.Read fd place len) w got e = absurd (cc)
  note_none (written.Append fd done) w got e = absurd (cc)
  note_none (written.Sync fd) w got e = absurd (cc)
  note_none (written.Close fd) w got e = absurd (cc)
  note_none (written.Shut fd) w got e = absurd (cc)
  note_none written.Written w got e = absurd (cc)
  note_none written.Failed w got e = absurd (cc)

  mark_none : {A : Type 0} (row : MarkRow) (m : Marked) (d : Desk) (got : GotData) → Shows (due_at (at.Mark row m) d) got → A
  mark_none mark.Noting m d got e = note_none d.note.row d.note got e
  mark_none mark.Note m d got e = absurd (cc)
  mark_none mark.Open m d got e = absurd (cc)
  mark_none (mark.Write fd) m d got e = absurd (cc)
  mark_none (mark.Close fd done) m d got e = absurd (cc)

  pass_shows : (row : PassRow) (p : Pass) (got : GotData) → Shows (pass_table.due_at row p) got → made_in row p.n ≡ Some n
  pass_shows (todo.Create target.Info) p got e = not_file (Of InfoFile p.n) (no_info c n p.n) (make_of (Of InfoFile p.n) got e)
  pass_shows (todo.Create target.Local) p got e = local_is c p.n (make_of (Of LocalFile p.n) got e)
  pass_shows (todo.Create target.Remote) p got e = remote_is c p.n (make_of (Of RemoteFile p.n) got e)
  pass_shows todo.StatMess p got e = not_file (Of MessFile p.n) (no_mess c n p.n) (stat_of (Of MessFile p.n) got e)
  pass_shows row p got e = absurd (cc)

  return_none : {A : Type 0} (row : ReturnRow) (r : Returning) (got : GotData) → Shows (return_due_at row r) got → A
  return_none back.Open r got e = absurd (cc)
  return_none row r got e = absurd (cc)

  finish_none : {A : Type 0} (row : FinishRow) (k : ℕ) (d : Desk) (got : GotData) → Shows (due_at (at.Finish row k) d) got → A
  finish_none finish.Return k d got e = return_none d.bounce.row d.bounce got e
  finish_none finish.OpenBounce k d got e = absurd (cc)
  finish_none row k d got e = absurd (cc)

  sweep_none : {A : Type 0} (row : SweepRow) (d : Desk) (got : GotData) → Shows (due_at (at.Sweep row) d) got → A
  sweep_none (sweep.StatMess split k) d got e = not_file (Of MessFile k) (no_mess c n k) (stat_of (Of MessFile k) got e)
  sweep_none (sweep.StatTodo split k) d got e = not_file (Of TodoFile k) (no_todo c k) (stat_of (Of TodoFile k) got e)
  sweep_none (sweep.StatInfo split k todo) d got e = not_file (Of InfoFile k) (no_info c n k) (stat_of (Of InfoFile k) got e)
  sweep_none row d got e = absurd (cc)

  row_shows : (row : Row) (d : Desk) (got : GotData) → Shows (due_at row d) got → meets row d.pass ≡ Some n
  row_shows (at.Start row) d got e = start_shows row d got e
  row_shows (at.Turn p) d got e = absurd (cc)
  row_shows (at.TakeLink x) d got e = absurd (cc)
  row_shows (at.Mark row m) d got e = mark_none row m d got e
  row_shows (at.UnlinkFile x k p) d got e = absurd (cc)
  row_shows (at.ReadFile x k begun Opening) d got e = absurd (cc)
  row_shows (at.ReadFile x k begun (Going fd)) d got e = absurd (cc)
  row_shows (at.ReadFile x k begun (Closing fd)) d got e = absurd (cc)
  row_shows (at.ReadFile x k begun (Shutting fd)) d got e = absurd (cc)
  row_shows (at.Request x) d got e = absurd (cc)
  row_shows (at.FindTodo s) d got e = absurd (cc)
  row_shows at.InTodo d got e = pass_shows d.pass.row d.pass got e
  row_shows (at.Finish row k) d got e = finish_none row k d got e
  row_shows (at.Sweep row) d got e = sweep_none row d got e
  row_shows (at.Ended status) d got e = absurd (cc)

pub met_are_shown_first : MetAreShownFirst
met_are_shown_first turns [] run met c n = tt
met_are_shown_first turns (event ∷ past) run met c n =
    let d : Desk = place_after turns past in (
      met_are_shown_first turns past run.0 met.0 c n,
      λ e. met.1 n (row_shows c n (row_now d event.read event.ready) d event.came (ap (λ (due : NeedData). shows c n due event.came) run.1.0 ∙ e)),
    )
