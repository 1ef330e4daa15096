-- While a note is written nothing else is done.
use Rattle.std.proofs.Common.{◌≡◌, ℕ, ◌+◌, ◌-◌, List, [], ◌∷◌, ◌++◌, length, nat_lt, Bool, true, false, if◌then◌else◌, Option, Some, refl, sym, ap, ◌∙◌, subst}
use Rattle.std.specs.Prelude.{min, slice_get}
use Rattle.bounce_record.specs.declared.note_row.NoteRow.{NoteRow}
use Rattle.bounce_record.specs.declared.note_row.NoteRow.TheVariants as written
use Rattle.bounce_record.specs.Runs.{IsWriting, begun, written_after}
use Rattle.bounce_record.specs.Writing.{Writing, bounce_path, due_by as note_due, piece_size, due_at as note_due_at, moved as note_moved, written_row}
use Rattle.call_fs.specs.declared.calls.Answer.{Answer}
use Rattle.call_fs.specs.declared.calls.Answer.TheVariants as answer
use Rattle.call_fs.specs.declared.calls.FsError.TheVariants as why
use Rattle.call_fs.specs.declared.calls.Fd.{Fd}
use Rattle.call_fs.specs.declared.past.GotData.{GotData}
use Rattle.call_fs.specs.declared.past.NeedData.{NeedData}
use Rattle.call_fs.specs.declared.past.Own.{Own}
use Rattle.call_fs.specs.declared.program.Ready.{Ready}
use Rattle.call_fs.specs.Past.{IsRunBy}
use Rattle.call_fs.specs.Program.{MayCome}
use Rattle.send_core.specs.declared.desk.Desk.{Desk}
use Rattle.send_parts.specs.declared.row.MarkRow.TheVariants as mark
use Rattle.send_parts.specs.declared.row.Marked.{Marked}
use Rattle.send_parts.specs.declared.row.Row.{Row}
use Rattle.send_parts.specs.declared.row.Row.TheVariants as at
use Rattle.send_core.specs.Laws.{ComesNext, IsUnderWay, NotesReports, note_by}
use Rattle.send_core.specs.Past.{Owed, account, work}
use Rattle.send_core.specs.Senders.{IsSaid}
use Rattle.send_core.specs.Table.{Next, act, arrive, place_after, due_at, row_now}
use Rattle.send_core.specs.Turn.{note_of, noted_at}
use Rattle.send_core.specs.Agrees.{owed_at}
use Rattle.send_core.proofs.Coming.{by_file}
use Rattle.send_core.proofs.Runs.{Due, Was, all_kept, begun_so, controls_at, due_is, facts, frees, has_begun, next_at, opens_for_note}
use Rattle.send_core.proofs.Says.{arrive_says}
use Rattle.send_core.proofs.Standing.{FitAt, arrives}
use Rattle.send_core.proofs.Asked.{KnowsAt}
use Rattle.send_jobs.specs.declared.attempts.Failure.{Failure}
use Rattle.send_jobs.specs.declared.attempts.Mark.{Mark}
use Rattle.send_known.specs.declared.channel.Channel.{Channel}
use Rattle.send_known.specs.declared.channel.Channel.TheVariants.{Local, Remote}
use Rattle.send_jobs.specs.Sending.{lane}

-- the note of a sender's desk stands so, and it is at that note
pub record AtNote (d : Desk) (w : Writing) : Type 0 where
  pub marked : Marked
  pub row : d.row ≡ at.Mark mark.Noting marked
  pub note : d.note ≡ w

-- a note under way goes on at its row
goes_on : (r : NoteRow) (m : Marked) (d : Desk) → IsUnderWay r → ((noted_at r m d).row ≡ at.Mark mark.Noting m) × ((noted_at r m d).note ≡ d.note)
goes_on written.Open m d is = absurd is
goes_on written.Create m d is = (refl, refl)
goes_on (written.Stat fd) m d is = (refl, refl)
goes_on (written.Read fd place len) m d is = (refl, refl)
goes_on (written.Append fd done) m d is = (refl, refl)
goes_on (written.Sync fd) m d is = (refl, refl)
goes_on (written.Close fd) m d is = (refl, refl)
goes_on (written.Shut fd) m d is = (refl, refl)
goes_on written.Written m d is = absurd is
goes_on written.Failed m d is = absurd is

-- A note that has begun doesn't stand at its open again

abbrev IsOn : NoteRow → Type 0
IsOn written.Open = ⊥
IsOn row = Unit {0}

on_tail : (fd : Fd) (length : ℕ) (more : Bool) → IsOn (if more then written.Read fd (length - 2) (min length 2) else written.Append fd 2)
on_tail fd length true = tt
on_tail fd length false = tt

on_piece : (fd : Fd) (done : ℕ) (more : Bool) → IsOn (if more then written.Append fd done else written.Sync fd)
on_piece fd done true = tt
on_piece fd done false = tt

on_row : (r : NoteRow) (text : List ℕ) (told : Answer) (bytes : List ℕ) → IsOn (written_row r text told bytes)
on_row written.Open text (answer.Opened fd) bytes = tt
on_row written.Open text (answer.Refused why.NotThere) bytes = tt
on_row written.Open text (answer.Refused why.Exists) bytes = tt
on_row written.Open text (answer.Refused why.Fault) bytes = tt
on_row written.Open text (answer.Refused why.Memory) bytes = tt
on_row written.Open text (answer.Created fd k) bytes = tt
on_row written.Open text (answer.Count count) bytes = tt
on_row written.Open text answer.Done bytes = tt
on_row written.Open text (answer.Stat stat) bytes = tt
on_row written.Open text (answer.Name name) bytes = tt
on_row written.Open text answer.NoName bytes = tt
on_row written.Create text (answer.Created fd k) bytes = tt
on_row written.Create text (answer.Opened fd) bytes = tt
on_row written.Create text (answer.Refused why) bytes = tt
on_row written.Create text (answer.Count count) bytes = tt
on_row written.Create text answer.Done bytes = tt
on_row written.Create text (answer.Stat stat) bytes = tt
on_row written.Create text (answer.Name name) bytes = tt
on_row written.Create text answer.NoName bytes = tt
on_row (written.Stat fd) text (answer.Stat stat) bytes = on_tail fd stat.length (nat_lt 0 stat.length)
on_row (written.Stat fd) text (answer.Opened other) bytes = tt
on_row (written.Stat fd) text (answer.Created other k) bytes = tt
on_row (written.Stat fd) text (answer.Refused why) bytes = tt
on_row (written.Stat fd) text (answer.Count count) bytes = tt
on_row (written.Stat fd) text answer.Done bytes = tt
on_row (written.Stat fd) text (answer.Name name) bytes = tt
on_row (written.Stat fd) text answer.NoName bytes = tt
on_row (written.Read fd place len) text (answer.Count count) bytes = tt
on_row (written.Read fd place len) text (answer.Opened other) bytes = tt
on_row (written.Read fd place len) text (answer.Created other k) bytes = tt
on_row (written.Read fd place len) text (answer.Refused why) bytes = tt
on_row (written.Read fd place len) text answer.Done bytes = tt
on_row (written.Read fd place len) text (answer.Stat stat) bytes = tt
on_row (written.Read fd place len) text (answer.Name name) bytes = tt
on_row (written.Read fd place len) text answer.NoName bytes = tt
on_row (written.Append fd done) text answer.Done bytes = on_piece fd (done + piece_size) (nat_lt (done + piece_size) (length text))
on_row (written.Append fd done) text (answer.Opened other) bytes = tt
on_row (written.Append fd done) text (answer.Created other k) bytes = tt
on_row (written.Append fd done) text (answer.Refused why) bytes = tt
on_row (written.Append fd done) text (answer.Count count) bytes = tt
on_row (written.Append fd done) text (answer.Stat stat) bytes = tt
on_row (written.Append fd done) text (answer.Name name) bytes = tt
on_row (written.Append fd done) text answer.NoName bytes = tt
on_row (written.Sync fd) text answer.Done bytes = tt
on_row (written.Sync fd) text (answer.Opened other) bytes = tt
on_row (written.Sync fd) text (answer.Created other k) bytes = tt
on_row (written.Sync fd) text (answer.Refused why) bytes = tt
on_row (written.Sync fd) text (answer.Count count) bytes = tt
on_row (written.Sync fd) text (answer.Stat stat) bytes = tt
on_row (written.Sync fd) text (answer.Name name) bytes = tt
on_row (written.Sync fd) text answer.NoName bytes = tt
on_row (written.Close fd) text told bytes = tt
on_row (written.Shut fd) text told bytes = tt
on_row written.Written text told bytes = tt
on_row written.Failed text told bytes = tt

on_after : (r : NoteRow) (w : Writing) (got : GotData) → w.row ≡ r → MayCome (note_due_at r w) got → IsOn (note_moved w got).row
on_after written.Open w got e may = by_file (note_due_at written.Open w) tt (λ (g : GotData). IsOn (note_moved w g).row) got may (λ told fit. on_row w.row w.text told.answer told.bytes)
on_after written.Create w got e may = by_file (note_due_at written.Create w) tt (λ (g : GotData). IsOn (note_moved w g).row) got may (λ told fit. on_row w.row w.text told.answer told.bytes)
on_after (written.Stat fd) w got e may = by_file (note_due_at (written.Stat fd) w) tt (λ (g : GotData). IsOn (note_moved w g).row) got may (λ told fit. on_row w.row w.text told.answer told.bytes)
on_after (written.Read fd place len) w got e may = by_file (note_due_at (written.Read fd place len) w) tt (λ (g : GotData). IsOn (note_moved w g).row) got may (λ told fit. on_row w.row w.text told.answer told.bytes)
on_after (written.Append fd done) w got e may = by_file (note_due_at (written.Append fd done) w) tt (λ (g : GotData). IsOn (note_moved w g).row) got may (λ told fit. on_row w.row w.text told.answer told.bytes)
on_after (written.Sync fd) w got e may = by_file (note_due_at (written.Sync fd) w) tt (λ (g : GotData). IsOn (note_moved w g).row) got may (λ told fit. on_row w.row w.text told.answer told.bytes)
on_after (written.Close fd) w got e may = by_file (note_due_at (written.Close fd) w) tt (λ (g : GotData). IsOn (note_moved w g).row) got may (λ told fit. on_row w.row w.text told.answer told.bytes)
on_after (written.Shut fd) w got e may = by_file (note_due_at (written.Shut fd) w) tt (λ (g : GotData). IsOn (note_moved w g).row) got may (λ told fit. on_row w.row w.text told.answer told.bytes)
on_after written.Written w got e may = absurd may
on_after written.Failed w got e may = absurd may

-- at which something is due, it is under way
is_under : (r : NoteRow) (w : Writing) (got : GotData) → IsOn r → MayCome (note_due_at r w) got → IsUnderWay r
is_under written.Open w got is may = absurd is
is_under written.Create w got is may = tt
is_under (written.Stat fd) w got is may = tt
is_under (written.Read fd place len) w got is may = tt
is_under (written.Append fd done) w got is may = tt
is_under (written.Sync fd) w got is may = tt
is_under (written.Close fd) w got is may = tt
is_under (written.Shut fd) w got is may = tt
is_under written.Written w got is may = absurd may
is_under written.Failed w got is may = absurd may

-- Only one record comes next

head_same : (x y : Owed) (xs ys : List Owed) → x ∷ xs ≡ y ∷ ys → x ≡ y
head_same x y xs ys e = cc

not_none : (x : Owed) (xs : List Owed) → x ∷ xs ≡ [] → ⊥
not_none x xs e = cc

one_next : (past : List Own) (c e : Channel) (x y : Owed) → ComesNext past c x → ComesNext past e y → x ≡ y
one_next past Local Local x y h k = head_same x y h.rest k.rest (sym h.first ∙ k.first)
one_next past Remote Remote x y h k = head_same x y h.rest k.rest (sym h.first ∙ k.first)
one_next past Local Remote x y h k = absurd (not_none x h.rest (sym h.first ∙ k.alone refl))
one_next past Remote Local x y h k = absurd (not_none y k.rest (sym k.first ∙ h.alone refl))

module _ (turns : Option ℕ) (before : List Own) (it : Owed) (f : Failure) (note : it.note ≡ Some f) (c : Channel) (next : ComesNext before c it) where
  abbrev first : Writing
  first = begun (note_by before it.task f)

  -- it begins with the open of its bounce file
  begins : (event : Own) → IsRunBy (Next turns) (event ∷ before) → note_due first ≡ event.due → IsUnderWay (note_moved first event.came).row
      → AtNote (place_after turns (event ∷ before)) (note_moved first event.came)
  begins event run due under = record { marked = m; row = row_is; note = note_is } where
    d : Desk
    d = place_after turns before

    row : Row
    row = row_now d event.read event.ready

    fit : FitAt (Was before) (work before) (account Local before) (account Remote before) row d
    fit = arrives (Was before) (work before) (account Local before) (account Remote before) (frees before) d.row d event.read event.ready (all_kept turns before run.0).0.0

    knows : KnowsAt (IsSaid before) (facts before) row d
    knows = arrive_says (IsSaid before) (facts before) d event.read event.ready d.row (all_kept turns before run.0).1

    opens : (m : Marked) × (row ≡ at.Mark mark.Note m)
    opens = opens_for_note row d (bounce_path it.task.n) (λ m e. has_begun (Was before) (work before) (account Local before) (account Remote before) row m d fit e) (run.1.0 ∙ sym due)

    m : Marked
    m = opens.0

    fit_note : FitAt (Was before) (work before) (account Local before) (account Remote before) (at.Mark mark.Note m) d
    fit_note = subst (λ (r : Row). FitAt (Was before) (work before) (account Local before) (account Remote before) r d) opens.1 fit

    it_is : Mark
    it_is = fit_note.1.0.0

    there : slice_get (lane m.channel d.slots).marks 0 ≡ Some it_is
    there = fit_note.1.0.1

    same : it ≡ owed_at it_is
    same = one_next before c m.channel it (owed_at it_is) next (next_at before row m it_is d fit opens.1 there)

    text : first ≡ note_of (Some it_is) m.n d.book.controls
    text = ap (λ (o : Owed). begun (note_by before o.task f)) same
        ∙ begun_so turns event before m it_is f d fit_note.1.0.2 (ap (λ (o : Owed). o.note) (sym same) ∙ note) (controls_at before row m d knows opens.1)

    w : Writing
    w = note_moved (note_of (slice_get (lane m.channel d.slots).marks 0) m.n d.book.controls) event.came

    w_is : w ≡ note_moved first event.came
    w_is = ap (λ (o : Option Mark). note_moved (note_of o m.n d.book.controls) event.came) there ∙ ap (λ (x : Writing). note_moved x event.came) (sym text)

    goes : ((noted_at w.row m (record d { note = w })).row ≡ at.Mark mark.Noting m) × ((noted_at w.row m (record d { note = w })).note ≡ w)
    goes = goes_on w.row m (record d { note = w }) (subst (λ (x : Writing). IsUnderWay x.row) (sym w_is) under)

    row_is : (place_after turns (event ∷ before)).row ≡ at.Mark mark.Noting m
    row_is = ap (λ (r : Row). (act r event.read event.came d).row) opens.1 ∙ goes.0

    note_is : (place_after turns (event ∷ before)).note ≡ note_moved first event.came
    note_is = ap (λ (r : Row). (act r event.read event.came d).note) opens.1 ∙ goes.1 ∙ w_is

  -- and goes on with its steps
  continues : (event : Own) (past : List Own) (w : Writing) → AtNote (place_after turns past) w → IsUnderWay (note_moved w event.came).row → AtNote (place_after turns (event ∷ past)) (note_moved w event.came)
  continues event past w h under = record { marked = m; row = row_is; note = note_is } where
    d : Desk
    d = place_after turns past

    m : Marked
    m = h.marked

    v : Writing
    v = note_moved d.note event.came

    v_is : v ≡ note_moved w event.came
    v_is = ap (λ (x : Writing). note_moved x event.came) h.note

    now_is : row_now d event.read event.ready ≡ at.Mark mark.Noting m
    now_is = ap (λ (r : Row). arrive r d event.read event.ready) h.row

    goes : ((noted_at v.row m (record d { note = v })).row ≡ at.Mark mark.Noting m) × ((noted_at v.row m (record d { note = v })).note ≡ v)
    goes = goes_on v.row m (record d { note = v }) (subst (λ (x : Writing). IsUnderWay x.row) (sym v_is) under)

    row_is : (place_after turns (event ∷ past)).row ≡ at.Mark mark.Noting m
    row_is = ap (λ (r : Row). (act r event.read event.came d).row) now_is ∙ goes.0

    note_is : (place_after turns (event ∷ past)).note ≡ note_moved w event.came
    note_is = ap (λ (r : Row). (act r event.read event.came d).note) now_is ∙ goes.1 ∙ v_is

  at_note : (recent : List Own) → IsRunBy (Next turns) (recent ++ before) → IsWriting (note_by before it.task f) recent → IsUnderWay (written_after first recent).row
      → AtNote (place_after turns (recent ++ before)) (written_after first recent)
  at_note [] run writing under = absurd under
  at_note (event ∷ []) run writing under = begins event run writing.1.0 under
  at_note (event ∷ (last ∷ rest)) run writing under =
      let was : Writing = written_after first (last ∷ rest) in
      let may : MayCome (note_due was) event.came = subst (λ (due : NeedData). MayCome due event.came) (sym writing.1.0) writing.1.1 in
      let x : Writing = written_after first rest in
      let may_last : MayCome (note_due x) last.came = subst (λ (due : NeedData). MayCome due last.came) (sym writing.0.1.0) writing.0.1.1 in
      continues event (last ∷ rest ++ before) was
      (at_note (last ∷ rest) run.0 writing.0 (is_under was.row was event.came (on_after x.row x last.came refl may_last) may)) under

due_then : (turns : Option ℕ) (past : List Own) (now : ℕ) (ready : Ready) (w : Writing) → AtNote (place_after turns past) w → Next turns past now ready ≡ note_due w
due_then turns past now ready w h =
    let d : Desk = place_after turns past in
    ap (λ (r : Row). due_at (arrive r d now ready) d) h.row ∙ ap (λ (x : Writing). note_due x) h.note

pub notes_reports : (turns : Option ℕ) (past : List Own) (now : ℕ) (ready : Ready) → IsRunBy (Next turns) past → NotesReports past (Next turns past now ready)
notes_reports turns past now ready run = record {
  opens = λ name e. subst (Due past) e (due_is turns past now ready run);
  follows = λ it f w note h under.
      due_then turns past now ready w
      (subst (λ (p : List Own). AtNote (place_after turns p) w) (sym h.all)
      (subst (λ (x : Writing). AtNote (place_after turns (h.recent ++ h.before)) x) h.stands
      (at_note turns h.before it f note h.channel h.next h.recent (subst (IsRunBy (Next turns)) h.all run) h.run (subst (λ (x : Writing). IsUnderWay x.row) (sym h.stands) under))));
}
