-- Each step of a note keeps what the sender keeps fitting its account.
use Rattle.std.proofs.Common.{◌≡◌, ℕ, ◌+◌, ◌-◌, List, [], ◌∷◌, drop, length, Bool, true, false, if◌then◌else◌, nat_lt, Option, Some, None, refl, sym, ap, ◌∙◌, subst, eq-eqb}
use Rattle.std.specs.Prelude.{min, slice_get}
use Rattle.bounce_record.specs.declared.note_row.NoteRow.{NoteRow}
use Rattle.bounce_record.specs.declared.note_row.NoteRow.TheVariants as written
use Rattle.bounce_record.specs.Writing.{Writing, bounce_path, piece, piece_size, due_at as note_due_at, moved as note_moved, written_row}
use Rattle.call_fs.specs.declared.calls.Answer.{Answer}
use Rattle.call_fs.specs.declared.calls.Answer.TheVariants as answer
use Rattle.call_fs.specs.declared.calls.CallData.{CallData}
use Rattle.call_fs.specs.declared.calls.CallData.TheVariants as call
use Rattle.call_fs.specs.declared.calls.Fd.{Fd}
use Rattle.call_fs.specs.declared.calls.FsError.TheVariants as why
use Rattle.call_fs.specs.declared.calls.How.TheVariants as how
use Rattle.call_fs.specs.declared.past.GotData.{GotData}
use Rattle.call_fs.specs.declared.past.GotData.TheVariants as came
use Rattle.call_fs.specs.declared.past.NeedData.TheVariants as needs
use Rattle.call_fs.specs.Columns.{IsAnswerTo}
use Rattle.call_fs.specs.Program.{MayCome}
use Rattle.queue_paths.specs.Names.{Name, parse, path}
use Rattle.queue_paths.specs.Names.Name.{Of}
use Rattle.queue_paths.specs.Names.Part.{Bounce as BounceFile}
use Rattle.queue_paths.proofs.Paths.{parse-path}
use Rattle.send_core.specs.declared.desk.Desk.{Desk}
use Rattle.send_parts.specs.declared.row.MarkRow.{MarkRow}
use Rattle.send_parts.specs.declared.row.MarkRow.TheVariants as mark
use Rattle.send_parts.specs.declared.row.Marked.{Marked}
use Rattle.send_parts.specs.declared.row.Row.TheVariants as at
use Rattle.send_core.specs.Laws.{IsUnderWay}
use Rattle.send_core.specs.Table.{due_at}
use Rattle.send_core.specs.Turn.{mark_over, note_of, noted_at}
use Rattle.send_jobs.specs.declared.attempts.Mark.{Mark}
use Rattle.send_known.specs.declared.channel.Channel.{Channel}
use Rattle.send_known.specs.declared.channel.Channel.TheVariants.{Local, Remote}
use Rattle.send_jobs.specs.Sending.{lane}
use Rattle.send_core.specs.Past.{Account, Owed, Work, account_by, given_up, happening, note_created, note_opened, note_synced, uncreated_note, unopened_note, work_by}
use Rattle.send_core.specs.Past.Happening.{GivesUp}
use Rattle.send_core.specs.Past.Work.{Missing, Noting}
use Rattle.send_core.specs.Agrees.{owed_at}
use Rattle.send_core.proofs.Coming.{by_file}
use Rattle.send_core.proofs.Early.{StepOf}
use Rattle.send_core.proofs.Lanes.{marked_holds}
use Rattle.send_core.proofs.Lists.{map_drop}
use Rattle.send_core.proofs.Changes.{DeskFits}
use Rattle.send_core.proofs.Standing.{Half, IsFit, IsNext, NoteStands, head_of}
use Rattle.send_core.proofs.Turns.{mark_fits}

-- the note of the mark at work is given up: the mark is dropped

drop_none : (owed : List Owed) → owed ≡ [] → drop 1 owed ≡ owed
drop_none owed e = ap (λ (t : List Owed). drop 1 t) e ∙ sym e

module _ (P : MarkRow → Option Mark → Marked → Writing → Type 0) (al ar : Account) where
  half_local : (d : Desk) → DeskFits al ar d → Half P None (account_by GivesUp al) ar Local d.slots d.local d.remote
  half_local d h = (((h.0.0, h.0.1, h.0.2, h.0.3, map_drop owed_at d.slots.local.marks al.to_mark h.0.4, marked_holds al.limit al.to_mark d.slots.local.slots d.slots.local.left h.0.5), h.1, h.2, h.3), refl)

  half_remote : (d : Desk) → DeskFits al ar d → al.to_mark ≡ [] → Half P None (account_by GivesUp al) (account_by GivesUp ar) Remote d.slots d.local d.remote
  half_remote d h none =
      subst (λ (t : List Owed). Half P None (record al { to_mark = t }) (account_by GivesUp ar) Remote d.slots d.local d.remote) (sym (drop_none al.to_mark none))
      ((h.0, (h.1.0, h.1.1, h.1.2, h.1.3, map_drop owed_at d.slots.remote.marks ar.to_mark h.1.4, marked_holds ar.limit ar.to_mark d.slots.remote.slots d.slots.remote.left h.1.5), h.2, h.3), refl)

  gives_up : (c : Channel) (n place : ℕ) (d : Desk) → let m : Marked = record { channel = c; n = n; place = place } in
      DeskFits al ar d → IsNext P None al ar m d.slots → IsFit P None (account_by (given_up Local al.to_mark) al) (account_by (given_up Remote al.to_mark) ar) (mark_over false m d)
  gives_up Local n place d h next =
      let head : (rest : List Owed) × (al.to_mark ≡ owed_at next.0.0 ∷ rest) = head_of next.0.0 d.slots.local.marks al.to_mark h.0.4 next.0.1 in
      subst (λ (t : List Owed). IsFit P None (account_by GivesUp al) (account_by (given_up Remote t) ar) (mark_over false (record { channel = Local; n = n; place = place }) d)) (sym head.1)
      (mark_fits P None (account_by GivesUp al) ar false Local n place d (half_local d h))
  gives_up Remote n place d h next =
      subst (λ (t : List Owed). IsFit P None (account_by GivesUp al) (account_by (given_up Remote t) ar) (mark_over false (record { channel = Remote; n = n; place = place }) d)) (sym next.1)
      (mark_fits P None (account_by GivesUp al) (account_by GivesUp ar) false Remote n place d (half_remote d h next.1))

-- only an answer comes of a row of a note

abbrev IsOther : GotData → Type 0
IsOther (came.Answered told) = ⊥
IsOther other = Unit {0}

not_file : (call : CallData) (got : GotData) → MayCome (needs.File call) got → IsOther got → ⊥
not_file call (came.Answered told) may other = other
not_file call (came.Took bytes) may other = may
not_file call came.End may other = may
not_file call (came.Ended status) may other = may
not_file call came.Crashed may other = may
not_file call came.Gave may other = may
not_file call (came.Started pid) may other = may
not_file call came.Failed may other = may
not_file call came.Memory may other = may

-- The steps of a note

module _ (P Q : MarkRow → Option Mark → Marked → Writing → Type 0) (late : ℕ → Bool) (now : ℕ) (d : Desk) (al ar : Account) (m : Marked) where
  -- what the past has of the note once this came, if it goes on or is written
  abbrev pub Follows : Writing → Type 0
  Follows w =
      (IsUnderWay w.row → Q mark.Noting (slice_get (lane m.channel d.slots).marks 0) m w) × (w.row ≡ written.Written → Q mark.Open (slice_get (lane m.channel d.slots).marks 0) m w)

  -- where this leads, from a row of the writing
  abbrev row_on : NoteRow → Writing → GotData → NoteRow
  row_on r w (came.Answered told) = written_row r w.text told.answer told.bytes
  row_on r w other = r

  abbrev then_note : NoteRow → Writing → GotData → Writing
  then_note r w got = record w { row = row_on r w got }

  abbrev ToNote : Option Work → NoteRow → Writing → GotData → Type 0
  ToNote f r w got = IsFit Q (work_by late f (note_due_at r w) got) (account_by (happening (note_due_at r w) got f al.to_mark Local) al)
      (account_by (happening (note_due_at r w) got f al.to_mark Remote) ar) (noted_at (row_on r w got) m (record d { note = then_note r w got }))

  module _ (h : DeskFits al ar d) (next : IsNext P None al ar m d.slots) where
    failed : (w : Writing) → IsFit Q None (account_by (given_up Local al.to_mark) al) (account_by (given_up Remote al.to_mark) ar) (mark_over false m (record d { note = w }))
    failed w = gives_up Q al ar m.channel m.n m.place (record d { note = w }) h next

    -- a bounce file was opened
    opened : (w : Writing) (n : ℕ) (told : Answer) → IsAnswerTo (call.Open (path (Of BounceFile n)) how.Append) told
        → ((row : NoteRow) → row ≡ written_row written.Open w.text told [] → Follows (record w { row = row }))
        → IsFit Q (note_opened (Some (Of BounceFile n)) told) (account_by (unopened_note told al.to_mark Local) al) (account_by (unopened_note told al.to_mark Remote) ar)
        (noted_at (written_row written.Open w.text told []) m (record d { note = record w { row = written_row written.Open w.text told [] } }))
    opened w n (answer.Opened fd) fit follows = (h, refl, next, (follows (written.Stat fd) refl).0 tt)
    opened w n (answer.Refused why.NotThere) fit follows = (h, refl, next, (follows written.Create refl).0 tt)
    opened w n (answer.Refused why.Fault) fit follows = failed (record w { row = written.Failed })
    opened w n (answer.Refused why.Memory) fit follows = failed (record w { row = written.Failed })
    opened w n told fit follows = absurd fit

    created : (w : Writing) (n : ℕ) (told : Answer) → IsAnswerTo (call.CreateExcl (path (Of BounceFile n))) told → Follows (record w { row = written_row written.Create w.text told [] })
        → IsFit Q (note_created (Some (Of BounceFile n)) told) (account_by (uncreated_note (Some (Of BounceFile n)) told al.to_mark Local) al) (account_by (uncreated_note (Some (Of BounceFile n)) told al.to_mark Remote) ar)
        (noted_at (written_row written.Create w.text told []) m (record d { note = record w { row = written_row written.Create w.text told [] } }))
    created w n (answer.Created fd k) fit follows = (h, refl, next, follows.0 tt)
    created w n (answer.Refused why) fit follows = failed (record w { row = written.Failed })
    created w n told fit follows = absurd fit

    abbrev Goes : Fd → Bool → Writing → NoteRow → Type 0
    Goes fd synced w r = IsFit Q (Some (Noting fd synced)) al ar (noted_at r m (record d { note = record w { row = r } }))

    tail_goes : (fd : Fd) (length : ℕ) (more : Bool) (w : Writing) → let r : NoteRow = if more then written.Read fd (length - 2) (min length 2) else written.Append fd 2 in Follows (record w { row = r }) → Goes fd false w r
    tail_goes fd length true w follows = (h, refl, next, follows.0 tt)
    tail_goes fd length false w follows = (h, refl, next, follows.0 tt)

    piece_goes : (fd : Fd) (done : ℕ) (more : Bool) (w : Writing) → let r : NoteRow = if more then written.Append fd done else written.Sync fd in Follows (record w { row = r }) → Goes fd false w r
    piece_goes fd done true w follows = (h, refl, next, follows.0 tt)
    piece_goes fd done false w follows = (h, refl, next, follows.0 tt)

    stated : (fd : Fd) (w : Writing) (told : Answer) (bytes : List ℕ) → IsAnswerTo (call.Stat (bounce_path w.n)) told → Follows (record w { row = written_row (written.Stat fd) w.text told bytes }) → Goes fd false w (written_row (written.Stat fd) w.text told bytes)
    stated fd w (answer.Stat stat) bytes fit follows = tail_goes fd stat.length (nat_lt 0 stat.length) w follows
    stated fd w (answer.Refused why.NotThere) bytes fit follows = (h, refl, next, follows.0 tt)
    stated fd w (answer.Refused why.Fault) bytes fit follows = (h, refl, next, follows.0 tt)
    stated fd w told bytes fit follows = absurd fit

    tail_read : (fd : Fd) (place len : ℕ) (w : Writing) (told : Answer) (bytes : List ℕ) → IsAnswerTo (call.ReadAt fd place len) told → Follows (record w { row = written_row (written.Read fd place len) w.text told bytes })
        → Goes fd false w (written_row (written.Read fd place len) w.text told bytes)
    tail_read fd place len w (answer.Count count) bytes fit follows = (h, refl, next, follows.0 tt)
    tail_read fd place len w (answer.Refused why.Fault) bytes fit follows = (h, refl, next, follows.0 tt)
    tail_read fd place len w told bytes fit follows = absurd fit

    appended : (fd : Fd) (done : ℕ) (w : Writing) (told : Answer) (bytes : List ℕ) → IsAnswerTo (call.Append fd (piece w.text done)) told → Follows (record w { row = written_row (written.Append fd done) w.text told bytes })
        → Goes fd false w (written_row (written.Append fd done) w.text told bytes)
    appended fd done w answer.Done bytes fit follows = piece_goes fd (done + piece_size) (nat_lt (done + piece_size) (length w.text)) w follows
    appended fd done w (answer.Refused why.Fault) bytes fit follows = (h, refl, next, follows.0 tt)
    appended fd done w (answer.Refused why.Memory) bytes fit follows = (h, refl, next, follows.0 tt)
    appended fd done w told bytes fit follows = absurd fit

    synced : (fd : Fd) (w : Writing) (told : Answer) (bytes : List ℕ) → IsAnswerTo (call.Sync fd) told → Follows (record w { row = written_row (written.Sync fd) w.text told bytes })
        → IsFit Q (note_synced (Some (Noting fd false)) fd told) al ar (noted_at (written_row (written.Sync fd) w.text told bytes) m (record d { note = record w { row = written_row (written.Sync fd) w.text told bytes } }))
    synced fd w answer.Done bytes fit follows = (h, ap (λ (b : Bool). Some (Noting fd b)) (eq-eqb fd.0 fd.0 refl), next, follows.0 tt)
    synced fd w (answer.Refused why.Fault) bytes fit follows = (h, refl, next, follows.0 tt)
    synced fd w told bytes fit follows = absurd fit

    note_goes : (f : Option Work) (r : NoteRow) (w : Writing) (got : GotData) → NoteStands P f al ar r → MayCome (note_due_at r w) got → Follows (then_note r w got) → ToNote f r w got
    note_goes f written.Open w got stands may = absurd stands
    note_goes f written.Create w got stands may = subst (λ (o : Option Work). Follows (then_note written.Create w got) → ToNote o written.Create w got) (sym stands)
        (by_file (note_due_at written.Create w) tt (λ (g : GotData). Follows (then_note written.Create w g) → ToNote (Some Missing) written.Create w g) got may
        (λ told fit follows. subst
        (λ (o : Option Name). IsFit Q (note_created o told.answer) (account_by (uncreated_note o told.answer al.to_mark Local) al) (account_by (uncreated_note o told.answer al.to_mark Remote) ar)
        (noted_at (written_row written.Create w.text told.answer []) m (record d { note = record w { row = written_row written.Create w.text told.answer [] } })))
        (sym (parse-path (Of BounceFile w.n))) (created w w.n told.answer fit follows)))
    note_goes f (written.Stat fd) w got stands may = subst (λ (o : Option Work). Follows (then_note (written.Stat fd) w got) → ToNote o (written.Stat fd) w got) (sym stands)
        (by_file (note_due_at (written.Stat fd) w) tt (λ (g : GotData). Follows (then_note (written.Stat fd) w g) → ToNote (Some (Noting fd false)) (written.Stat fd) w g) got may
        (λ told fit follows. stated fd w told.answer told.bytes fit follows))
    note_goes f (written.Read fd place len) w got stands may = subst (λ (o : Option Work). Follows (then_note (written.Read fd place len) w got) → ToNote o (written.Read fd place len) w got) (sym stands)
        (by_file (note_due_at (written.Read fd place len) w) tt (λ (g : GotData). Follows (then_note (written.Read fd place len) w g) → ToNote (Some (Noting fd false)) (written.Read fd place len) w g) got may
        (λ told fit follows. tail_read fd place len w told.answer told.bytes fit follows))
    note_goes f (written.Append fd done) w got stands may = subst (λ (o : Option Work). Follows (then_note (written.Append fd done) w got) → ToNote o (written.Append fd done) w got) (sym stands)
        (by_file (note_due_at (written.Append fd done) w) tt (λ (g : GotData). Follows (then_note (written.Append fd done) w g) → ToNote (Some (Noting fd false)) (written.Append fd done) w g) got may
        (λ told fit follows. appended fd done w told.answer told.bytes fit follows))
    note_goes f (written.Sync fd) w got stands may = subst (λ (o : Option Work). Follows (then_note (written.Sync fd) w got) → ToNote o (written.Sync fd) w got) (sym stands)
        (by_file (note_due_at (written.Sync fd) w) tt (λ (g : GotData). Follows (then_note (written.Sync fd) w g) → ToNote (Some (Noting fd false)) (written.Sync fd) w g) got may
        (λ told fit follows. synced fd w told.answer told.bytes fit follows))
    note_goes f (written.Close fd) w got stands may = subst (λ (o : Option Work). Follows (then_note (written.Close fd) w got) → ToNote o (written.Close fd) w got) (sym stands)
        (by_file (note_due_at (written.Close fd) w) tt (λ (g : GotData). Follows (then_note (written.Close fd) w g) → ToNote (Some (Noting fd true)) (written.Close fd) w g) got may
        (λ told fit follows. ((h, refl), next, follows.1 refl)))
    note_goes f (written.Shut fd) w got stands may = subst (λ (o : Option Work). Follows (then_note (written.Shut fd) w got) → ToNote o (written.Shut fd) w got) (sym stands)
        (by_file (note_due_at (written.Shut fd) w) tt (λ (g : GotData). Follows (then_note (written.Shut fd) w g) → ToNote (Some (Noting fd false)) (written.Shut fd) w g) got may
        (λ told fit follows. failed (record w { row = written.Failed })))
    note_goes f written.Written w got stands may = absurd stands
    note_goes f written.Failed w got stands may = absurd stands

    no_other : (f : Option Work) (r : NoteRow) (got : GotData) → NoteStands P f al ar r → MayCome (note_due_at r d.note) got → IsOther got → ⊥
    no_other f written.Open got stands may other = stands
    no_other f written.Create got stands may other = not_file (call.CreateExcl (bounce_path d.note.n)) got may other
    no_other f (written.Stat fd) got stands may other = not_file (call.Stat (bounce_path d.note.n)) got may other
    no_other f (written.Read fd place len) got stands may other = not_file (call.ReadAt fd place len) got may other
    no_other f (written.Append fd done) got stands may other = not_file (call.Append fd (piece d.note.text done)) got may other
    no_other f (written.Sync fd) got stands may other = not_file (call.Sync fd) got may other
    no_other f (written.Close fd) got stands may other = not_file (call.Close fd) got may other
    no_other f (written.Shut fd) got stands may other = not_file (call.Close fd) got may other
    no_other f written.Written got stands may other = stands
    no_other f written.Failed got stands may other = stands

    -- a note under way
    pub noting_step : (f : Option Work) (got : GotData) → NoteStands P f al ar d.note.row → MayCome (due_at (at.Mark mark.Noting m) d) got → Follows (note_moved d.note got) → StepOf Q late now d f al ar (at.Mark mark.Noting m) got
    noting_step f got stands may follows = by got may follows where
      by : (got : GotData) → MayCome (note_due_at d.note.row d.note) got → Follows (note_moved d.note got) → StepOf Q late now d f al ar (at.Mark mark.Noting m) got
      by (came.Answered told) may follows = note_goes f d.note.row d.note (came.Answered told) stands may follows
      by (came.Took bytes) may follows = absurd (no_other f d.note.row (came.Took bytes) stands may tt)
      by came.End may follows = absurd (no_other f d.note.row came.End stands may tt)
      by (came.Ended status) may follows = absurd (no_other f d.note.row (came.Ended status) stands may tt)
      by came.Crashed may follows = absurd (no_other f d.note.row came.Crashed stands may tt)
      by came.Gave may follows = absurd (no_other f d.note.row came.Gave stands may tt)
      by (came.Started pid) may follows = absurd (no_other f d.note.row (came.Started pid) stands may tt)
      by came.Failed may follows = absurd (no_other f d.note.row came.Failed stands may tt)
      by came.Memory may follows = absurd (no_other f d.note.row came.Memory stands may tt)

    -- a note begins
    pub note_step : (it : Mark) (got : GotData) → slice_get (lane m.channel d.slots).marks 0 ≡ Some it → MayCome (due_at (at.Mark mark.Note m) d) got
        → Follows (note_moved (note_of (Some it) m.n d.book.controls) got) → StepOf Q late now d None al ar (at.Mark mark.Note m) got
    note_step it got there may = by_file (due_at (at.Mark mark.Note m) d) tt
        (λ (g : GotData). Follows (note_moved (note_of (Some it) m.n d.book.controls) g) → StepOf Q late now d None al ar (at.Mark mark.Note m) g) got may
        (λ told fit follows.
        let w : Writing = note_of (Some it) m.n d.book.controls in
        let r : NoteRow = written_row written.Open w.text told.answer [] in
        subst
        (λ (o : Option Mark). let x : Writing = note_moved (note_of o m.n d.book.controls) (came.Answered told) in
        IsFit Q (note_opened (parse (path (Of BounceFile m.n))) told.answer) (account_by (unopened_note told.answer al.to_mark Local) al) (account_by (unopened_note told.answer al.to_mark Remote) ar)
        (noted_at x.row m (record d { note = x })))
        (sym there)
        (subst
        (λ (o : Option Name). IsFit Q (note_opened o told.answer) (account_by (unopened_note told.answer al.to_mark Local) al) (account_by (unopened_note told.answer al.to_mark Remote) ar)
        (noted_at r m (record d { note = record w { row = r } })))
        (sym (parse-path (Of BounceFile m.n)))
        (opened w m.n told.answer fit (λ row e. subst (λ (x : NoteRow). Follows (record w { row = x })) (sym e) follows))))
