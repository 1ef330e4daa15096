-- Which channel file is opened for a pass at each row.
use Rattle.std.proofs.Common.{◌≡◌, ℕ, List, [], ◌∷◌, length, nat_lt, Bool, true, false, if◌then◌else◌, Option, Some, None, refl, sym, ap, subst}
use Rattle.bounce_record.specs.declared.note_row.NoteRow.{NoteRow}
use Rattle.bounce_record.specs.declared.note_row.NoteRow.TheVariants as written
use Rattle.bounce_record.specs.Writing.{Writing}
use Rattle.call_fs.specs.Past.{IsRunBy}
use Rattle.call_fs.specs.Program.{MayCome}
use Rattle.call_fs.specs.declared.calls.CallData.TheVariants as call
use Rattle.call_fs.specs.declared.calls.Fd.{Fd}
use Rattle.call_fs.specs.declared.calls.How.TheVariants as how
use Rattle.call_fs.specs.declared.file_system.TheConstants.{PIECE}
use Rattle.call_fs.specs.declared.past.GotData.{GotData}
use Rattle.call_fs.specs.declared.past.NeedData.{NeedData}
use Rattle.call_fs.specs.declared.past.NeedData.TheVariants as needs
use Rattle.call_fs.specs.declared.past.Own.{Own}
use Rattle.call_fs.specs.declared.program.Ready.{Ready}
use Rattle.send_core.proofs.Runs.{Was, keeps}
use Rattle.send_core.proofs.Standing.{FitAt, Half, InStart, NoteStands}
use Rattle.send_core.specs.Past.{Account, Work, account, work}
use Rattle.send_core.specs.Past.Work.{Missing, Noting, Reading as ReadingFile}
use Rattle.send_core.specs.Finish.{looked_up, sweep_at, sweep_begun}
use Rattle.send_core.specs.Table.{Next, act, arrive, place_after, due_at, from_point, row_now}
use Rattle.send_core.specs.Turn.{file_read, pass_opened}
use Rattle.send_core.specs.declared.desk.Desk.{Desk}
use Rattle.send_parts.specs.declared.row.MarkRow.{MarkRow}
use Rattle.send_parts.specs.declared.row.MarkRow.TheVariants as mark
use Rattle.send_parts.specs.declared.row.Marked.{Marked}
use Rattle.send_parts.specs.declared.row.Row.{Row}
use Rattle.send_parts.specs.declared.row.Row.TheVariants as at
use Rattle.send_jobs.specs.declared.attempts.Mark.{Mark}
use Rattle.send_known.specs.declared.channel.Channel.{Channel}
use Rattle.send_known.specs.declared.channel.Channel.TheVariants.{Local, Remote}
use Rattle.send_parts.specs.declared.reading.Progress.TheVariants.{Goes}
use Rattle.send_parts.specs.declared.reading.Reading.{Reading}
use Rattle.send_parts.specs.declared.reading.Reading.TheVariants.{Closing, Going, Opening, Shutting}
use Rattle.send_parts.specs.declared.reply.Way.{Way}
use Rattle.send_parts.specs.declared.reply.Way.TheVariants as way
use Rattle.send_parts.specs.declared.rows.StartRow.{StartRow}
use Rattle.send_parts.specs.declared.rows.StartRow.TheVariants as start
use Rattle.send_parts.specs.declared.rows.SweepRow.{SweepRow}
use Rattle.send_parts.specs.declared.rows.SweepRow.TheVariants as sweep
use Rattle.send_links.specs.Records.{records_of}
use Rattle.send_parts.specs.Readings.{opened, read_more}
use Rattle.send_parts.specs.Replies.{Said, said}
use Rattle.send_parts.specs.Sweep.{sweep_to}
use Rattle.send_runs.specs.DueMoments.{Trial, trial, trial_by, tried}
use Rattle.send_runs.proofs.Calm.{IsCalm, calm_over, calm_pass, calm_row, finish_leads, point_calm}

-- a reading that goes on is of the file that was opened
abbrev pub TrialAt : Row → Option Trial → Type 0
TrialAt (at.ReadFile c n begun Opening) t = t ≡ None
TrialAt (at.ReadFile c n begun reading) t = t ≡ Some (record { channel = c; n = n; begun = begun })
TrialAt (at.Ended status) t = Unit {0}
TrialAt row t = t ≡ None

calm_trial : (row : Row) (t : Option Trial) → IsCalm row → t ≡ None → TrialAt row t
calm_trial (at.ReadFile c n begun Opening) t is e = e
calm_trial (at.ReadFile c n begun reading) t is e = absurd is
calm_trial (at.Ended status) t is e = tt
calm_trial row t is e = e

pub arrives_trial : (row : Row) (t : Option Trial) (d : Desk) (now : ℕ) (ready : Ready) → TrialAt row t → TrialAt (arrive row d now ready) t
arrives_trial (at.Turn p) t d now ready e = calm_trial (from_point p d now ready) t (point_calm d now ready p) e
arrives_trial row t d now ready e = e

-- No channel file is read

abbrev pub IsIdle : Option Work → Type 0
IsIdle (Some (ReadingFile s)) = ⊥
IsIdle f = Unit {0}

none_idle : (f : Option Work) → f ≡ None → IsIdle f
none_idle f e = subst IsIdle (sym e) tt

missing_idle : (f : Option Work) → f ≡ Some Missing → IsIdle f
missing_idle f e = subst IsIdle (sym e) tt

noting_idle : (f : Option Work) (fd : Fd) (synced : Bool) → f ≡ Some (Noting fd synced) → IsIdle f
noting_idle f fd synced e = subst IsIdle (sym e) tt

idle_tried : (now : ℕ) (f : Option Work) → IsIdle f → tried now f ≡ None
idle_tried now None is = refl
idle_tried now (Some (ReadingFile s)) is = absurd is
idle_tried now (Some Missing) is = refl
idle_tried now (Some (Noting fd synced)) is = refl

-- a row at which no reading goes on
abbrev pub IsUnread : Row → Type 0
IsUnread (at.ReadFile c n begun Opening) = Unit {0}
IsUnread (at.ReadFile c n begun reading) = ⊥
IsUnread (at.Ended status) = ⊥
IsUnread row = Unit {0}

module _ (P : MarkRow → Option Mark → Marked → Writing → Type 0) (f : Option Work) (al ar : Account) where
  start_idle : (row : StartRow) (d : Desk) → InStart P f al ar row d.slots d.local d.remote → IsIdle f
  start_idle (start.Control file reading) d h = none_idle f h.2
  start_idle start.GreetLocal d h = none_idle f h.2
  start_idle (start.GreetRemote limit) d h = none_idle f h.2
  start_idle (start.Scan split) d h = none_idle f h.1
  start_idle (start.StatTodo split n) d h = none_idle f h.1
  start_idle (start.ReadInfo split n reading) d h = none_idle f h.1
  start_idle (start.StatInfo split n) d h = none_idle f h.1
  start_idle (start.StatLocal split n birth) d h = none_idle f h.1
  start_idle (start.StatRemote split n birth local) d h = none_idle f h.1
  start_idle start.Over d h = none_idle f h.1
  start_idle (start.Ended status) d h = none_idle f h.1

  note_idle : (row : NoteRow) → NoteStands P f al ar row → IsIdle f
  note_idle written.Open h = absurd h
  note_idle written.Create h = missing_idle f h
  note_idle (written.Stat fd) h = noting_idle f fd false h
  note_idle (written.Read fd place len) h = noting_idle f fd false h
  note_idle (written.Append fd done) h = noting_idle f fd false h
  note_idle (written.Sync fd) h = noting_idle f fd false h
  note_idle (written.Close fd) h = noting_idle f fd true h
  note_idle (written.Shut fd) h = noting_idle f fd false h
  note_idle written.Written h = absurd h
  note_idle written.Failed h = absurd h

  half_idle : (c : Channel) (d : Desk) → Half P f al ar c d.slots d.local d.remote → IsIdle f
  half_idle Local d h = none_idle f h.1
  half_idle Remote d h = none_idle f h.1

  mark_idle : (row : MarkRow) (m : Marked) (d : Desk) → FitAt P f al ar (at.Mark row m) d → IsIdle f
  mark_idle mark.Note m d h = none_idle f h.0.1
  mark_idle mark.Noting m d h = note_idle d.note.row h.1
  mark_idle mark.Open m d h = none_idle f h.0.1
  mark_idle (mark.Write fd) m d h = half_idle m.channel d h.0
  mark_idle (mark.Close fd done) m d h = half_idle m.channel d h

  pub row_idle : (row : Row) (d : Desk) → IsUnread row → FitAt P f al ar row d → IsIdle f
  row_idle (at.Start row) d is h = start_idle row d h
  row_idle (at.Turn p) d is h = none_idle f h.1
  row_idle (at.TakeLink c) d is h = none_idle f h.1
  row_idle (at.Mark row m) d is h = mark_idle row m d h
  row_idle (at.UnlinkFile c n p) d is h = none_idle f h.1
  row_idle (at.ReadFile c n begun Opening) d is h = none_idle f h.2
  row_idle (at.ReadFile c n begun (Going fd)) d is h = absurd is
  row_idle (at.ReadFile c n begun (Closing fd)) d is h = absurd is
  row_idle (at.ReadFile c n begun (Shutting fd)) d is h = absurd is
  row_idle (at.Request c) d is h = none_idle f h.0.1
  row_idle (at.FindTodo search) d is h = none_idle f h.1
  row_idle at.InTodo d is h = none_idle f h.1
  row_idle (at.Finish row n) d is h = none_idle f h.1
  row_idle (at.Sweep row) d is h = none_idle f h.1
  row_idle (at.Ended status) d is h = absurd is

  -- After a step: at such a row nothing is tried, if nothing was, or the file was closed

  none_on : (now : ℕ) (t : Option Trial) (due : NeedData) → IsIdle f → t ≡ None → trial_by now f t due ≡ None
  none_on now t (needs.File (call.Open name how.Read)) is e = idle_tried now f is
  none_on now t (needs.File (call.Close fd)) is e = refl
  none_on now t due is e = e

  unread_trial : (row : Row) (d : Desk) (t : Option Trial) → IsUnread row → (IsIdle f → t ≡ None) → FitAt P f al ar row d → TrialAt row t
  unread_trial (at.ReadFile c n begun Opening) d t is e h = e (row_idle (at.ReadFile c n begun Opening) d is h)
  unread_trial (at.ReadFile c n begun reading) d t is e h = absurd is
  unread_trial (at.Ended status) d t is e h = absurd is
  unread_trial row d t is e h = e (row_idle row d is h)

  calm_after : (row : Row) (d : Desk) (t : Option Trial) → IsCalm row → (IsIdle f → t ≡ None) → FitAt P f al ar row d → TrialAt row t
  calm_after (at.Ended status) d t is e h = tt
  calm_after (at.ReadFile c n begun Opening) d t is e h = unread_trial (at.ReadFile c n begun Opening) d t tt e h
  calm_after (at.ReadFile c n begun reading) d t is e h = absurd is
  calm_after row d t is e h = unread_trial row d t tt e h

  swept_after : (row : SweepRow) (e d : Desk) (t : Option Trial) → (IsIdle f → t ≡ None) → FitAt P f al ar (sweep_at row e).row d → TrialAt (sweep_at row e).row t
  swept_after sweep.Over e d t none h = calm_after (sweep_at sweep.Over e).row d t (calm_over e) none h
  swept_after sweep.Lost e d t none h = tt
  swept_after sweep.First e d t none h = unread_trial (at.Sweep sweep.First) d t tt none h
  swept_after (sweep.Next split) e d t none h = unread_trial (at.Sweep (sweep.Next split)) d t tt none h
  swept_after (sweep.StatMess split n) e d t none h = unread_trial (at.Sweep (sweep.StatMess split n)) d t tt none h
  swept_after (sweep.StatTodo split n) e d t none h = unread_trial (at.Sweep (sweep.StatTodo split n)) d t tt none h
  swept_after (sweep.StatInfo split n todo) e d t none h = unread_trial (at.Sweep (sweep.StatInfo split n todo)) d t tt none h
  swept_after (sweep.Give split n) e d t none h = unread_trial (at.Sweep (sweep.Give split n)) d t tt none h
  swept_after (sweep.Take split n) e d t none h = unread_trial (at.Sweep (sweep.Take split n)) d t tt none h

  module _ (now : ℕ) (t : Option Trial) where
    -- the open of a channel file
    opened_after : (w : Way) (fd : Fd) (c : Channel) (n : ℕ) (s : Said) (d e : Desk) → FitAt P f al ar (file_read (opened w fd) c n now Opening now s d).row e
        → TrialAt (file_read (opened w fd) c n now Opening now s d).row (tried now f)
    opened_after way.Fine fd c n s d e h = ap (tried now) h.2
    opened_after way.Over fd c n s d e h = idle_tried now f (none_idle f h.1)
    opened_after way.Absent fd c n s d e h = idle_tried now f (none_idle f h.1)
    opened_after way.NoMemory fd c n s d e h = idle_tried now f (none_idle f h.1)
    opened_after way.Broken fd c n s d e h = idle_tried now f (none_idle f h.1)

    -- a read of it
    read_after : (w : Way) (fd : Fd) (c : Channel) (n begun : ℕ) (s : Said) (d : Desk) → t ≡ Some (record { channel = c; n = n; begun = begun })
        → TrialAt (file_read (read_more w fd s.bytes) c n begun (Going fd) now s d).row t
    read_after way.Fine fd c n begun s d e = by (nat_lt (length s.bytes) PIECE) where
      by : (b : Bool) → TrialAt (file_read (if b then Goes (Closing fd) else Goes (Going fd)) c n begun (Going fd) now s d).row t
      by true = e
      by false = e
    read_after way.Over fd c n begun s d e = e
    read_after way.Absent fd c n begun s d e = e
    read_after way.NoMemory fd c n begun s d e = e
    read_after way.Broken fd c n begun s d e = e

    file_after : (reading : Reading) (c : Channel) (n begun : ℕ) (got : GotData) (d e : Desk) → TrialAt (at.ReadFile c n begun reading) t
        → let row : Row = (act (at.ReadFile c n begun reading) now got d).row in FitAt P f al ar row e → TrialAt row (trial_by now f t (due_at (at.ReadFile c n begun reading) d))
    file_after Opening c n begun got d e was h = opened_after (said got).way (said got).fd c n (said got) d e h
    file_after (Going fd) c n begun got d e was h = read_after (said got).way fd c n begun (said got) d was
    file_after (Closing fd) c n begun got d e was h =
        calm_after (pass_opened (records_of d.book.read) c n begun now d).row e None (calm_pass (records_of d.book.read) c n begun now d) (λ is. refl) h
    file_after (Shutting fd) c n begun got d e was h = refl

    row_after : (row : Row) (got : GotData) (d e : Desk) → MayCome (due_at row d) got → TrialAt row t
        → let to : Row = (act row now got d).row in FitAt P f al ar to e → TrialAt to (trial_by now f t (due_at row d))
    row_after (at.Turn p) got d e may was h = absurd may
    row_after (at.Ended status) got d e may was h = absurd may
    row_after (at.ReadFile c n begun reading) got d e may was h = file_after reading c n begun got d e was h
    row_after (at.Sweep row) got d e may was h = swept_after (sweep_to row now (said got) d.book) (looked_up row (said got) (sweep_begun row now d)) e
        (trial_by now f t (due_at (at.Sweep row) d)) (λ is. none_on now t (due_at (at.Sweep row) d) is was) h
    row_after (at.Start row) got d e may was h = let to : Desk = act (at.Start row) now got d in
        calm_after to.row e (trial_by now f t (due_at (at.Start row) d)) (calm_row (at.Start row) now got d tt) (λ is. none_on now t (due_at (at.Start row) d) is was) h
    row_after (at.TakeLink c) got d e may was h = let to : Desk = act (at.TakeLink c) now got d in
        calm_after to.row e (trial_by now f t (due_at (at.TakeLink c) d)) (calm_row (at.TakeLink c) now got d tt) (λ is. none_on now t (due_at (at.TakeLink c) d) is was) h
    row_after (at.Mark row m) got d e may was h = let to : Desk = act (at.Mark row m) now got d in
        calm_after to.row e (trial_by now f t (due_at (at.Mark row m) d)) (calm_row (at.Mark row m) now got d tt) (λ is. none_on now t (due_at (at.Mark row m) d) is was) h
    row_after (at.UnlinkFile c n p) got d e may was h = let to : Desk = act (at.UnlinkFile c n p) now got d in
        calm_after to.row e (trial_by now f t (due_at (at.UnlinkFile c n p) d)) (calm_row (at.UnlinkFile c n p) now got d tt) (λ is. none_on now t (due_at (at.UnlinkFile c n p) d) is was) h
    row_after (at.Request c) got d e may was h = let to : Desk = act (at.Request c) now got d in
        calm_after to.row e (trial_by now f t (due_at (at.Request c) d)) (calm_row (at.Request c) now got d tt) (λ is. none_on now t (due_at (at.Request c) d) is was) h
    row_after (at.FindTodo search) got d e may was h = let to : Desk = act (at.FindTodo search) now got d in
        calm_after to.row e (trial_by now f t (due_at (at.FindTodo search) d)) (calm_row (at.FindTodo search) now got d tt) (λ is. none_on now t (due_at (at.FindTodo search) d) is was) h
    row_after at.InTodo got d e may was h = let to : Desk = act at.InTodo now got d in
        calm_after to.row e (trial_by now f t (due_at at.InTodo d)) (calm_row at.InTodo now got d tt) (λ is. none_on now t (due_at at.InTodo d) is was) h
    row_after (at.Finish row n) got d e may was h =
        let after : Option Trial = trial_by now f t (due_at (at.Finish row n) d) in
        let none : IsIdle f → after ≡ None = (λ is. none_on now t (due_at (at.Finish row n) d) is was) in
        finish_leads (λ (r : Row). FitAt P f al ar r e → TrialAt r after) (λ r is x. calm_after r e after is none x) n (λ r x. unread_trial (at.Finish r n) e after tt none x) row now got d h

pub trial_kept : (turns : Option ℕ) (past : List Own) → IsRunBy (Next turns) past → TrialAt (place_after turns past).row (trial past)
trial_kept turns [] run = refl
trial_kept turns (event ∷ before) run =
    let d : Desk = place_after turns before in
    let row : Row = row_now d event.read event.ready in
    let may : MayCome (due_at row d) event.came = subst (λ (x : NeedData). MayCome x event.came) (sym run.1.0) run.1.1 in
    let was : TrialAt row (trial before) = arrives_trial d.row (trial before) d event.read event.ready (trial_kept turns before run.0) in
    let past : List Own = event ∷ before in
    subst (λ (due : NeedData). TrialAt (place_after turns (event ∷ before)).row (trial_by event.read (work (event ∷ before)) (trial before) due)) run.1.0
    (row_after (Was past) (work past) (account Local past) (account Remote past) event.read (trial before) row event.came d (place_after turns past) may was (keeps turns past run).0)
