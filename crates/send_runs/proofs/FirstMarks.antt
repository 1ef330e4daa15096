-- Which record the mark at work is of: the first that is to be marked.
use Rattle.bounce_record.specs.Writing.{Writing, moved as note_moved}
use Rattle.call_fs.specs.Past.{IsRunBy}
use Rattle.call_fs.specs.Program.{MayCome}
use Rattle.call_fs.specs.declared.calls.Fd.{Fd}
use Rattle.call_fs.specs.declared.past.GotData.{GotData}
use Rattle.call_fs.specs.declared.past.NeedData.{NeedData}
use Rattle.call_fs.specs.declared.past.Own.{Own}
use Rattle.call_fs.specs.declared.program.Ready.{Ready}
use Rattle.envelope_records.specs.declared.channel.Record.{Record}
use Rattle.send_core.proofs.Runs.{Was, frees, keeps}
use Rattle.send_core.proofs.Standing.{FitAt, arrives}
use Rattle.send_core.specs.Agrees.{is_opened}
use Rattle.send_core.specs.Desk.{closed_by, has_begun, is_free_for, link, request_sent, stands_at, with_requests}
use Rattle.send_core.specs.Past.{Account, Work, account, work}
use Rattle.send_core.specs.Start.{start_at, started}
use Rattle.send_core.specs.Table.{Next, act, arrive, place_after, due_at, from_point, row_now}
use Rattle.send_core.specs.Turn.{act_mark, begin_note, begun_at, file_read, lost, mark_opened, mark_over, noted, pass_opened, put_later, requested, took, unlinked}
use Rattle.send_core.specs.declared.desk.Desk.{Desk}
use Rattle.send_parts.specs.declared.row.MarkRow.TheVariants as mark
use Rattle.send_parts.specs.declared.row.MarkRow.{MarkRow}
use Rattle.send_parts.specs.declared.row.Marked.{Marked}
use Rattle.send_parts.specs.declared.row.Point.TheVariants as point
use Rattle.send_parts.specs.declared.row.Point.{Point}
use Rattle.send_parts.specs.declared.row.Row.TheVariants as at
use Rattle.send_parts.specs.declared.row.Row.{Row}
use Rattle.send_jobs.specs.Lanes.{job_over, next}
use Rattle.send_jobs.specs.Sending.{lane, sent_on}
use Rattle.send_known.specs.declared.channel.Channel.TheVariants.{Local, Remote}
use Rattle.send_known.specs.declared.channel.Channel.{Channel}
use Rattle.send_jobs.specs.declared.slots.Slots.{Slots}
use Rattle.send_runs.proofs.Calm.{IsFresh, point_fresh}
use Rattle.send_runs.proofs.DueRows.{free_opened, shut_closed, shut_marked, shut_noted}
use Rattle.send_runs.proofs.Fates.{same_channel}
use Rattle.send_runs.proofs.Kept.{fresh_free, kept_row}
use Rattle.send_links.specs.Records.{records_of}
use Rattle.send_parts.specs.Readings.{read_on}
use Rattle.send_parts.specs.Replies.{Said, said}
use Rattle.send_parts.specs.declared.reading.Progress.TheVariants.{Failed, Goes, Missing, Whole}
use Rattle.send_parts.specs.declared.reading.Progress.{Progress}
use Rattle.send_parts.specs.declared.reading.Reading.{Reading as FileReading}
use Rattle.send_parts.specs.declared.reply.Way.TheVariants as way
use Rattle.send_parts.specs.declared.reply.Way.{Way}
use Rattle.send_parts.specs.declared.rows.StartRow.TheVariants as start
use Rattle.send_parts.specs.declared.rows.StartRow.{StartRow}
use Rattle.std.proofs.Common.{Bool, List, None, Option, Some, [], drop, false, if◌then◌else◌, refl, subst, sym, true, ℕ, ◌∙◌, ◌∷◌, ◌≡◌}
use Rattle.std.specs.Prelude.{is_some, slice_get}
use Rattle.send_jobs.specs.declared.attempts.Mark.{Mark}

-- Where a row leads to a step of a mark at work, the record of that is the first to be marked

abbrev pub FirstAt : Row → Slots → Type 0
FirstAt (at.Mark (mark.Write fd) m) s = (it : Mark) × (slice_get (lane m.channel s).marks 0 ≡ Some it) × (m.n ≡ it.attempt.n)
FirstAt (at.Mark (mark.Close fd done) m) s = (it : Mark) × (slice_get (lane m.channel s).marks 0 ≡ Some it) × (m.n ≡ it.attempt.n)
FirstAt row s = Unit {0}

shut_first : (row : Row) (s : Slots) → ((c : Channel) → is_opened row c ≡ false) → FirstAt row s
shut_first (at.Mark (mark.Write fd) m) s shut = absurd (cc (sym (shut m.channel) ∙ same_channel m.channel))
shut_first (at.Mark (mark.Close fd done) m) s shut = absurd (cc (sym (shut m.channel) ∙ same_channel m.channel))
shut_first row s shut = tt

shut_if : (x : Bool) (p q : Desk) (c : Channel) → is_opened p.row c ≡ false → is_opened q.row c ≡ false → is_opened (if x then p else q).row c ≡ false
shut_if true p q c e g = e
shut_if false p q c e g = g

shut_lost : (e c : Channel) → is_opened (lost e) c ≡ false
shut_lost Local c = refl
shut_lost Remote c = refl

shut_took : (w : Way) (bytes : List ℕ) (e : Channel) (d : Desk) (c : Channel) → is_opened (took w bytes e d).row c ≡ false
shut_took way.Fine bytes e d c = refl
shut_took way.Over bytes e d c = shut_lost e c
shut_took way.Absent bytes e d c = shut_lost e c
shut_took way.NoMemory bytes e d c = shut_lost e c
shut_took way.Broken bytes e d c = shut_lost e c

shut_pass : (o : Option (List Record)) (e : Channel) (k m now : ℕ) (d : Desk) (c : Channel) → is_opened (pass_opened o e k m now d).row c ≡ false
shut_pass None e k m now d c = refl
shut_pass (Some rs) e k m now d c =
    let after : Desk = has_begun e k m rs d in
    shut_if (is_free_for k (lane e d.slots)) (closed_by (job_over k (lane e after.slots)) e k (point.Pass e false) after) (put_later e k now d) c (shut_closed (job_over k (lane e after.slots)) e k (point.Pass e false) after c) refl

shut_file : (x : Progress) (e : Channel) (k m : ℕ) (g : FileReading) (now : ℕ) (s : Said) (d : Desk) (c : Channel) → is_opened (file_read x e k m g now s d).row c ≡ false
shut_file (Goes more) e k m g now s d c = refl
shut_file Whole e k m g now s d c = shut_pass (records_of d.book.read) e k m now d c
shut_file Missing e k m g now s d c = refl
shut_file Failed e k m g now s d c = refl

shut_sent : (e : Channel) (d : Desk) (c : Channel) → is_opened (request_sent e (stands_at d (point.Pass e false))).row c ≡ false
shut_sent Local d c =
    let x : Desk = stands_at d (point.Pass Local false) in
    shut_if (is_some (next (lane Local d.slots))) (with_requests Local (drop 1 (link Local d).requests) (record x { slots = sent_on Local d.slots })) x c refl refl
shut_sent Remote d c =
    let x : Desk = stands_at d (point.Pass Remote false) in
    shut_if (is_some (next (lane Remote d.slots))) (with_requests Remote (drop 1 (link Remote d).requests) (record x { slots = sent_on Remote d.slots })) x c refl refl

shut_requested : (w : Way) (e : Channel) (d : Desk) (c : Channel) → is_opened (requested w e d).row c ≡ false
shut_requested way.Fine e d c = shut_sent e d c
shut_requested way.Over e d c = shut_lost e c
shut_requested way.Absent e d c = shut_lost e c
shut_requested way.NoMemory e d c = shut_lost e c
shut_requested way.Broken e d c = shut_lost e c

shut_unlinked : (w : Way) (e : Channel) (k : ℕ) (p : Point) (now : ℕ) (d : Desk) (c : Channel) → is_opened (unlinked w e k p now d).row c ≡ false
shut_unlinked way.Fine e k p now d c = refl
shut_unlinked way.Over e k p now d c = refl
shut_unlinked way.Absent e k p now d c = refl
shut_unlinked way.NoMemory e k p now d c = refl
shut_unlinked way.Broken e k p now d c = refl

shut_start : (row : StartRow) (c : Channel) → is_opened (start_at row) c ≡ false
shut_start start.Over c = refl
shut_start (start.Ended status) c = refl
shut_start row c = refl

opened_first : (w : Way) (m : Marked) (fd : Fd) (d : Desk) → (it : Mark) × (slice_get (lane m.channel d.slots).marks 0 ≡ Some it) × (m.n ≡ it.attempt.n) → let e : Desk = mark_opened w m fd d in FirstAt e.row e.slots
opened_first way.Fine m fd d is = is
opened_first way.Over m fd d is = let e : Desk = mark_over false m d in shut_first e.row e.slots (shut_marked false m d)
opened_first way.Absent m fd d is = let e : Desk = mark_over false m d in shut_first e.row e.slots (shut_marked false m d)
opened_first way.NoMemory m fd d is = let e : Desk = mark_over false m d in shut_first e.row e.slots (shut_marked false m d)
opened_first way.Broken m fd d is = let e : Desk = mark_over false m d in shut_first e.row e.slots (shut_marked false m d)

-- of each mark, by where it stands
pub first_in : (P : MarkRow → Option Mark → Marked → Writing → Type 0) (f : Option Work) (al ar : Account) (row : MarkRow) (m : Marked) (d : Desk) → FitAt P f al ar (at.Mark row m) d → FirstAt (at.Mark row m) d.slots
    → (it : Mark) × (slice_get (lane m.channel d.slots).marks 0 ≡ Some it) × (m.n ≡ it.attempt.n)
first_in P f al ar mark.Note m d fit h = let w = fit.1.0 in (w.0, w.1, w.2)
first_in P f al ar mark.Noting m d fit h = let w = fit.2.0 in (w.0, w.1, w.2)
first_in P f al ar mark.Open m d fit h = let w = fit.1.0 in (w.0, w.1, w.2)
first_in P f al ar (mark.Write fd) m d fit h = h
first_in P f al ar (mark.Close fd done) m d fit h = h

mark_first : (row : MarkRow) (m : Marked) (got : GotData) (d : Desk) → (it : Mark) × (slice_get (lane m.channel d.slots).marks 0 ≡ Some it) × (m.n ≡ it.attempt.n) → let e : Desk = act_mark row m got d in FirstAt e.row e.slots
mark_first mark.Note m got d is = let x : Desk = begin_note m d in let e : Desk = noted m got x in shut_first e.row e.slots (shut_noted (note_moved x.note got).row m (record x { note = note_moved x.note got }))
mark_first mark.Noting m got d is = let e : Desk = noted m got d in shut_first e.row e.slots (shut_noted (note_moved d.note got).row m (record d { note = note_moved d.note got }))
mark_first mark.Open m got d is = opened_first (said got).way m (said got).fd d is
mark_first (mark.Write fd) m got d is = is
mark_first (mark.Close fd done) m got d is = let e : Desk = mark_over done m d in shut_first e.row e.slots (shut_marked done m d)

row_first : (P : MarkRow → Option Mark → Marked → Writing → Type 0) (f : Option Work) (al ar : Account) (row : Row) (now : ℕ) (got : GotData) (d : Desk) → MayCome (due_at row d) got → FitAt P f al ar row d → FirstAt row d.slots
    → let e : Desk = act row now got d in FirstAt e.row e.slots
row_first P f al ar (at.Start row) now got d may fit h = let e : Desk = act (at.Start row) now got d in shut_first e.row e.slots (shut_start (started row (said got) d).book.row)
row_first P f al ar (at.Turn p) now got d may fit h = absurd may
row_first P f al ar (at.TakeLink c) now got d may fit h = let e : Desk = act (at.TakeLink c) now got d in shut_first e.row e.slots (shut_took (said got).way (said got).bytes c d)
row_first P f al ar (at.Mark row m) now got d may fit h = mark_first row m got d (first_in P f al ar row m d fit h)
row_first P f al ar (at.UnlinkFile c n p) now got d may fit h = let e : Desk = act (at.UnlinkFile c n p) now got d in shut_first e.row e.slots (shut_unlinked (said got).way c n p now d)
row_first P f al ar (at.ReadFile c n m reading) now got d may fit h =
    let e : Desk = act (at.ReadFile c n m reading) now got d in shut_first e.row e.slots (shut_file (read_on reading (said got)) c n (begun_at reading m now) reading now (said got) d)
row_first P f al ar (at.Request c) now got d may fit h = let e : Desk = act (at.Request c) now got d in shut_first e.row e.slots (shut_requested (said got).way c d)
row_first P f al ar (at.FindTodo search) now got d may fit h = let e : Desk = act (at.FindTodo search) now got d in shut_first e.row e.slots (λ c. free_opened e.row c (kept_row d.slots (at.FindTodo search) now got d tt refl).1)
row_first P f al ar at.InTodo now got d may fit h = let e : Desk = act at.InTodo now got d in shut_first e.row e.slots (λ c. free_opened e.row c (kept_row d.slots at.InTodo now got d tt refl).1)
row_first P f al ar (at.Finish row n) now got d may fit h = let e : Desk = act (at.Finish row n) now got d in shut_first e.row e.slots (λ c. free_opened e.row c (kept_row d.slots (at.Finish row n) now got d tt refl).1)
row_first P f al ar (at.Sweep row) now got d may fit h = let e : Desk = act (at.Sweep row) now got d in shut_first e.row e.slots (λ c. free_opened e.row c (kept_row d.slots (at.Sweep row) now got d tt refl).1)
row_first P f al ar (at.Ended status) now got d may fit h = absurd may

fresh_first : (row : Row) (s : Slots) → IsFresh row → FirstAt row s
fresh_first row s is = shut_first row s (λ c. free_opened row c (fresh_free row is))

pub arrives_first : (row : Row) (d : Desk) (now : ℕ) (ready : Ready) → FirstAt row d.slots → FirstAt (arrive row d now ready) d.slots
arrives_first (at.Turn p) d now ready h = fresh_first (from_point p d now ready) d.slots (point_fresh d now ready p)
arrives_first row d now ready h = h

pub first_kept : (turns : Option ℕ) (past : List Own) → IsRunBy (Next turns) past → let d : Desk = place_after turns past in FirstAt d.row d.slots
first_kept turns [] run = tt
first_kept turns (event ∷ before) run =
    let d : Desk = place_after turns before in
    let row : Row = row_now d event.read event.ready in
    let may : MayCome (due_at row d) event.came = subst (λ (x : NeedData). MayCome x event.came) (sym run.1.0) run.1.1 in
    let fit = arrives (Was before) (work before) (account Local before) (account Remote before) (frees before) d.row d event.read event.ready (keeps turns before run.0).0 in
    row_first (Was before) (work before) (account Local before) (account Remote before) row event.read event.came d may fit (arrives_first d.row d event.read event.ready (first_kept turns before run.0))
