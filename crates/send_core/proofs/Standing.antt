-- Where a sender stands, and what fits there.
use Rattle.std.proofs.Common.{◌≡◌, ℕ, ◌-◌, ◌≤◌, List, [], ◌∷◌, Bool, true, false, if◌then◌else◌, nat_lt, Option, Some, None, refl, sym, ap, ◌∙◌, subst, map}
use Rattle.std.specs.Prelude.{◌+◌, ◌||◌, is_some, slice_get}
use Rattle.bounce_record.specs.declared.note_row.NoteRow.{NoteRow}
use Rattle.bounce_record.specs.declared.note_row.NoteRow.TheVariants as written
use Rattle.bounce_record.specs.Writing.{Writing}
use Rattle.call_fs.specs.declared.program.Ready.{Ready}
use Rattle.retry_schedule.specs.Due.{first_due}
use Rattle.send_core.specs.declared.desk.Desk.{Desk}
use Rattle.send_parts.specs.declared.row.MarkRow.{MarkRow}
use Rattle.send_parts.specs.declared.row.MarkRow.TheVariants as mark
use Rattle.send_parts.specs.declared.row.Marked.{Marked}
use Rattle.send_parts.specs.declared.row.Point.{Point}
use Rattle.send_parts.specs.declared.row.Point.TheVariants as point
use Rattle.send_parts.specs.declared.row.Row.{Row}
use Rattle.send_parts.specs.declared.row.Row.TheVariants as at
use Rattle.send_core.specs.Desk.{due_on, goes, next_idle, past_finish, past_todo, ready as made_ready, retried, stands_at, sweep_due, turn_counted, turn_over, closed_by}
use Rattle.send_core.specs.Table.{arrive, begin_by, beginning, finishing, finishing_by, from_begin, from_local, from_point, from_remote, from_reports, from_sweep, from_take, going_on, holds, link_of, marking, marking_by, or_else, passing, sweeping, taking}
use Rattle.send_jobs.specs.declared.attempts.Attempt.{Attempt}
use Rattle.send_jobs.specs.declared.attempts.Failure.{Failure}
use Rattle.send_jobs.specs.declared.attempts.Mark.{Mark}
use Rattle.send_known.specs.declared.channel.Channel.{Channel}
use Rattle.send_known.specs.declared.channel.Channel.TheVariants.{Local, Remote}
use Rattle.send_jobs.specs.declared.jobs.Job.{Job}
use Rattle.send_jobs.specs.declared.lane.Lane.{Lane}
use Rattle.send_jobs.specs.declared.slots.Slots.{Slots}
use Rattle.send_jobs.specs.Lanes.{next}
use Rattle.send_jobs.specs.Sending.{lane, none_out}
use Rattle.send_jobs.specs.Slots.{lowest}
use Rattle.send_known.specs.Known.{birth_of}
use Rattle.send_parts.specs.declared.book.Book.{Book}
use Rattle.send_links.specs.declared.link.Link.{Link}
use Rattle.send_parts.specs.declared.reading.Reading.{Reading}
use Rattle.send_parts.specs.declared.reading.Reading.TheVariants.{Opening, Going, Closing, Shutting}
use Rattle.send_parts.specs.declared.rows.Search.TheVariants as searches
use Rattle.send_parts.specs.declared.rows.StartRow.{StartRow}
use Rattle.send_parts.specs.declared.rows.StartRow.TheVariants as start
use Rattle.send_parts.specs.declared.rows.SweepRow.TheVariants as sweep
use Rattle.send_core.specs.Past.{Account, Owed, Work}
use Rattle.send_core.specs.Past.Work.{Missing, Noting, Reading as ReadingFile}
use Rattle.send_core.specs.Agrees.{owed_at}
use Rattle.send_core.proofs.Fits.{Fits}
use Rattle.send_core.proofs.Changes.{Both, Heard, both_ready, fits_ready}

-- no record waits for its mark
abbrev pub IsBare : Account → Account → Type 0
IsBare al ar = (al.to_mark ≡ []) × (ar.to_mark ≡ [])

-- so it is at each point of a turn at which no report was taken since the last marks
abbrev pub BareAt : Point → Account → Account → Type 0
BareAt point.TakeRemote al ar = Unit {0}
BareAt point.Reports al ar = Unit {0}
BareAt p al ar = IsBare al ar

-- the first mark is that of the first record to be marked
pub head_of : (it : Mark) (marks : List Mark) (owed : List Owed) → map owed_at marks ≡ owed → slice_get marks 0 ≡ Some it → (rest : List Owed) × (owed ≡ owed_at it ∷ rest)
head_of it [] owed e there = absurd (cc)
head_of it (m ∷ marks) owed e there =
    let same : m ≡ it = same_mark m it there in
    (map owed_at marks, sym e ∙ ap (λ (x : Mark). owed_at x ∷ map owed_at marks) same)
  where
    same_mark : (x y : Mark) → ◌≡◌ {A = Option Mark} (Some x) (Some y) → x ≡ y
    same_mark x y e = cc

-- what is noted before a mark
abbrev pub note_in : Option Mark → Option Failure
note_in None = None
note_in (Some m) = m.note

-- by what is known of a message, a pass over it that begins then is a dying one
abbrev pub late_in : Book → ℕ → ℕ → Bool
late_in b n begun = nat_lt (birth_of n b.messages.known + b.controls.queue_lifetime) begun

-- what is known of each channel: its account, of the file at work what it is, and of a mark at work what its past has
module _ (P : MarkRow → Option Mark → Marked → Writing → Type 0) (f : Option Work) (al ar : Account) where
  abbrev pub of_channel : Channel → Account
  of_channel Local = al
  of_channel Remote = ar

  -- before the spawners' first bytes
  abbrev pub Early : Slots → Link → Link → Type 0
  Early s l r = (s ≡ none_out 0 0) × Fits false al s.local l × Fits false ar s.remote r × (ar.heard ≡ None)

  abbrev pub Steady : Slots → Link → Link → Type 0
  Steady s l r = Both false false al ar s l r × (f ≡ None)

  abbrev pub Rests : Slots → Link → Link → Type 0
  Rests s l r = Both false false al ar s l r × (f ≡ None) × IsBare al ar

  abbrev pub AtPoint : Point → Slots → Link → Link → Type 0
  AtPoint p s l r = Both false false al ar s l r × (f ≡ None) × BareAt p al ar

  abbrev pub InStart : StartRow → Slots → Link → Link → Type 0
  InStart (start.Control file reading) s l r = Early s l r × (al.heard ≡ None) × (f ≡ None)
  InStart start.GreetLocal s l r = Early s l r × (al.heard ≡ None) × (f ≡ None)
  InStart (start.GreetRemote limit) s l r = Early s l r × Heard al.heard × (f ≡ None) × (limit ≤ al.limit)
  InStart row s l r = Rests s l r

  -- the first mark is this one
  abbrev pub IsFirst : Channel → Marked → Slots → Type 0
  IsFirst c m s = (it : Mark) × (slice_get (lane c s).marks 0 ≡ Some it) × (m.n ≡ it.attempt.n) × (m.place ≡ it.attempt.place)

  -- the first mark of a channel is at work
  abbrev pub Half : Channel → Slots → Link → Link → Type 0
  Half Local s l r = Both true false al ar s l r × (f ≡ None)
  Half Remote s l r = Both false true al ar s l r × (f ≡ None)

  -- a record of the local channel comes before each of the remote one
  abbrev pub IsAlone : Channel → Type 0
  IsAlone Local = Unit {0}
  IsAlone Remote = al.to_mark ≡ []

  -- so it is, and no other comes before it
  abbrev pub IsNext : Marked → Slots → Type 0
  IsNext m s = IsFirst m.channel m s × IsAlone m.channel

  -- the bounce file, at each row of a note that is under way
  abbrev pub NoteStands : NoteRow → Type 0
  NoteStands written.Open = ⊥
  NoteStands written.Create = f ≡ Some Missing
  NoteStands (written.Stat fd) = f ≡ Some (Noting fd false)
  NoteStands (written.Read fd place len) = f ≡ Some (Noting fd false)
  NoteStands (written.Append fd done) = f ≡ Some (Noting fd false)
  NoteStands (written.Sync fd) = f ≡ Some (Noting fd false)
  NoteStands (written.Close fd) = f ≡ Some (Noting fd true)
  NoteStands (written.Shut fd) = f ≡ Some (Noting fd false)
  NoteStands written.Written = ⊥
  NoteStands written.Failed = ⊥

  abbrev pub InMark : MarkRow → Marked → Writing → Slots → Link → Link → Type 0
  InMark mark.Note m w s l r = Steady s l r × IsNext m s × ((failure : Failure) × (note_in (slice_get (lane m.channel s).marks 0) ≡ Some failure))
  InMark mark.Noting m w s l r = Both false false al ar s l r × NoteStands w.row × IsNext m s × P mark.Noting (slice_get (lane m.channel s).marks 0) m w
  InMark mark.Open m w s l r = Steady s l r × IsNext m s × P mark.Open (slice_get (lane m.channel s).marks 0) m w
  InMark (mark.Write fd) m w s l r = Half m.channel s l r × P (mark.Write fd) None m w
  InMark (mark.Close fd written) m w s l r = Half m.channel s l r

  abbrev pub IsReading : Reading → Channel → ℕ → ℕ → Book → Type 0
  IsReading Opening c n begun b = f ≡ None
  IsReading (Going fd) c n begun b = f ≡ Some (ReadingFile (record { channel = c; n = n; fd = fd; bytes = b.read; over = false; dying = late_in b n begun }))
  IsReading (Closing fd) c n begun b = f ≡ Some (ReadingFile (record { channel = c; n = n; fd = fd; bytes = b.read; over = true; dying = late_in b n begun }))
  IsReading (Shutting fd) c n begun b = f ≡ None

  abbrev pub Fit : Slots → Link → Link → Book → Writing → Row → Type 0
  Fit s l r b w (at.Start row) = InStart row s l r
  Fit s l r b w (at.Turn p) = AtPoint p s l r
  Fit s l r b w (at.TakeLink c) = Steady s l r
  Fit s l r b w (at.Mark row m) = InMark row m w s l r
  Fit s l r b w (at.UnlinkFile c n p) = AtPoint p s l r
  Fit s l r b w (at.ReadFile c n begun reading) = Both false false al ar s l r × ((lane c s).left ≡ []) × IsReading reading c n begun b × IsBare al ar
  Fit s l r b w (at.Request c) = Rests s l r × ((slot : ℕ) × (a : Attempt) × (lowest (lane c s).slots ≡ Some slot) × (next (lane c s) ≡ Some a))
  Fit s l r b w (at.Ended status) = Unit {0}
  Fit s l r b w row = Rests s l r

  abbrev pub FitAt : Row → Desk → Type 0
  FitAt row d = Fit d.slots d.local d.remote d.book d.note row

  abbrev pub IsFit : Desk → Type 0
  IsFit d = FitAt d.row d

  abbrev pub Calm : Desk → Type 0
  Calm d = Rests d.slots d.local d.remote

  abbrev pub CalmAt : Point → Desk → Type 0
  CalmAt p d = AtPoint p d.slots d.local d.remote

  abbrev Level : Desk → Type 0
  Level d = Steady d.slots d.local d.remote

  -- Where a row leads at which a channel rests

  pub either : (b : Bool) (x y : Desk) → IsFit x → IsFit y → IsFit (if b then x else y)
  either true x y p q = p
  either false x y p q = q

  counted_fits : (turns : Option ℕ) (d : Desk) → Calm d → IsFit (turn_counted turns d)
  counted_fits None d h = h
  counted_fits (Some k) d h =
      either (nat_lt 1 k) (record d { turns = Some (k - 1); row = at.Turn point.TakeLocal }) (record d { turns = Some 0; row = at.Ended 0 }) h tt

  pub over_fits : (d : Desk) → Calm d → IsFit (turn_over d)
  over_fits d h = counted_fits d.turns (record d { busy = false }) h

  pub finish_fits : (now : ℕ) (d : Desk) → Calm d → IsFit (past_finish now d)
  finish_fits now d h = either (sweep_due now d.swept) (stands_at d point.Sweep) (turn_over d) h (over_fits d h)

  pub todo_fits : (now : ℕ) (d : Desk) → Calm d → IsFit (past_todo now d)
  todo_fits now d h = either (is_some (next_idle now d) || sweep_due now d.swept) (stands_at d point.Finish) (turn_over d) h (over_fits d h)

  pub closed_fits : (o : Option Job) (c : Channel) (n : ℕ) (p : Point) (d : Desk) → CalmAt p d → IsFit (closed_by o c n p d)
  closed_fits None c n p d h = h
  closed_fits (Some job) Local n p d h = either job.unmarked (retried Local n job.begun (stands_at d p)) (goes d (at.UnlinkFile Local n p)) h h
  closed_fits (Some job) Remote n p d h = either job.unmarked (retried Remote n job.begun (stands_at d p)) (goes d (at.UnlinkFile Remote n p)) h h

  -- The next request's slot makes no difference

  rests_ready : (d : Desk) → Calm d → Calm (made_ready d)
  rests_ready d h = (both_ready false false al ar d h.0, h.1, h.2)

  level_ready : (d : Desk) → Level d → Level (made_ready d)
  level_ready d h = (both_ready false false al ar d h.0, h.1)

  point_ready : (p : Point) (d : Desk) → CalmAt p d → CalmAt p (made_ready d)
  point_ready p d h = (both_ready false false al ar d h.0, h.1, h.2)

  early_ready : (d : Desk) → Early d.slots d.local d.remote → Early (made_ready d).slots (made_ready d).local (made_ready d).remote
  early_ready d h = (h.0, fits_ready false al d.slots.local d.local h.1, fits_ready false ar d.slots.remote d.remote h.2, h.3)

  half_ready : (c : Channel) (d : Desk) → Half c d.slots d.local d.remote → Half c (made_ready d).slots (made_ready d).local (made_ready d).remote
  half_ready Local d h = (both_ready true false al ar d h.0, h.1)
  half_ready Remote d h = (both_ready false true al ar d h.0, h.1)

  start_ready : (row : StartRow) (d : Desk) → InStart row d.slots d.local d.remote → InStart row (made_ready d).slots (made_ready d).local (made_ready d).remote
  start_ready (start.Control file reading) d h = (early_ready d h.0, h.1, h.2)
  start_ready start.GreetLocal d h = (early_ready d h.0, h.1, h.2)
  start_ready (start.GreetRemote limit) d h = (early_ready d h.0, h.1, h.2, h.3)
  start_ready (start.Scan split) d h = rests_ready d h
  start_ready (start.StatTodo split n) d h = rests_ready d h
  start_ready (start.ReadInfo split n reading) d h = rests_ready d h
  start_ready (start.StatInfo split n) d h = rests_ready d h
  start_ready (start.StatLocal split n birth) d h = rests_ready d h
  start_ready (start.StatRemote split n birth local) d h = rests_ready d h
  start_ready start.Over d h = rests_ready d h
  start_ready (start.Ended status) d h = rests_ready d h

  mark_ready : (row : MarkRow) (m : Marked) (w : Writing) (d : Desk) → InMark row m w d.slots d.local d.remote → InMark row m w (made_ready d).slots (made_ready d).local (made_ready d).remote
  mark_ready mark.Note m w d h = (level_ready d h.0, h.1, h.2)
  mark_ready mark.Noting m w d h = (both_ready false false al ar d h.0, h.1, h.2, h.3)
  mark_ready mark.Open m w d h = (level_ready d h.0, h.1, h.2)
  mark_ready (mark.Write fd) m w d h = (half_ready m.channel d h.0, h.1)
  mark_ready (mark.Close fd written) m w d h = half_ready m.channel d h

  pub fit_ready : (row : Row) (d : Desk) → FitAt row d → FitAt row (made_ready d)
  fit_ready (at.Start row) d h = start_ready row d h
  fit_ready (at.Turn p) d h = point_ready p d h
  fit_ready (at.TakeLink c) d h = level_ready d h
  fit_ready (at.Mark row m) d h = mark_ready row m d.note d h
  fit_ready (at.UnlinkFile c n p) d h = point_ready p d h
  fit_ready (at.ReadFile c n begun reading) d h = (both_ready false false al ar d h.0, h.1, h.2, h.3)
  fit_ready (at.Request c) d h = (rests_ready d h.0, h.1)
  fit_ready (at.FindTodo search) d h = rests_ready d h
  fit_ready at.InTodo d h = rests_ready d h
  fit_ready (at.Finish row n) d h = rests_ready d h
  fit_ready (at.Sweep row) d h = rests_ready d h
  fit_ready (at.Ended status) d h = tt

  -- Between two steps

  abbrev FitIf : Option Row → Desk → Type 0
  FitIf None d = Unit {0}
  FitIf (Some row) d = FitAt row d

  or_fits : (o : Option Row) (row : Row) (d : Desk) → FitIf o d → FitAt row d → FitAt (or_else o row) d
  or_fits None row d p q = q
  or_fits (Some first) row d p q = p

  taking_fits : (c : Channel) (ready : Ready) (d : Desk) → Level d → FitIf (taking c ready) d
  taking_fits c ready d h = by_link (holds (slice_get ready.links (link_of c))) where
    by_link : (b : Bool) → FitIf (if b then Some (at.TakeLink c) else None) d
    by_link true = h
    by_link false = tt

  going_fits : (c : Channel) (d : Desk) (a : Attempt) (o : Option ℕ) → lowest (lane c d.slots).slots ≡ o → next (lane c d.slots) ≡ Some a → Calm d → FitIf (going_on c o) d
  going_fits c d a None low first h = tt
  going_fits c d a (Some slot) low first h = (h, (slot, a, low, first))

  none_left : (left : List Attempt) → slice_get left 0 ≡ None → left ≡ []
  none_left [] e = refl
  none_left (a ∷ left) e = absurd (cc)

  beginning_fits : (c : Channel) (may : Bool) (d : Desk) (o : Option (ℕ × ℕ)) → next (lane c d.slots) ≡ None → Calm d → FitIf (beginning c may o) d
  beginning_fits c false d o first h = tt
  beginning_fits c true d None first h = tt
  beginning_fits c true d (Some e) first h = (h.0, none_left (lane c d.slots).left first, h.1, h.2)

  passing_fits : (c : Channel) (may : Bool) (d : Desk) (now : ℕ) → Calm d → FitIf (passing c may d now) d
  passing_fits c may d now h = by_next (next (lane c d.slots)) refl where
    by_next : (o : Option Attempt) → next (lane c d.slots) ≡ o → FitIf (if is_some o then going_on c (lowest (lane c d.slots).slots) else beginning c may (first_due now (due_on c d.book.messages))) d
    by_next (Some a) e = going_fits c d a (lowest (lane c d.slots).slots) refl e h
    by_next None e = beginning_fits c may d (first_due now (due_on c d.book.messages)) e h

  finishing_fits : (o : Option ℕ) (d : Desk) → Calm d → FitIf (finishing_by o) d
  finishing_fits None d h = tt
  finishing_fits (Some n) d h = h

  sweeping_fits : (d : Desk) (now : ℕ) → Calm d → FitIf (sweeping d now) d
  sweeping_fits d now h = by_due (sweep_due now d.swept) where
    by_due : (b : Bool) → FitIf (if b then Some (at.Sweep sweep.First) else None) d
    by_due true = h
    by_due false = tt

  remote_from : (may : Bool) (d : Desk) (now : ℕ) → Calm d → FitAt (from_remote may d now) d
  remote_from may d now h = or_fits (passing Remote may d now) (at.FindTodo searches.AfterLeft) d (passing_fits Remote may d now h) h

  local_from : (may : Bool) (d : Desk) (now : ℕ) → Calm d → FitAt (from_local may d now) d
  local_from may d now h = or_fits (passing Local may d now) (from_remote true d now) d (passing_fits Local may d now h) (remote_from true d now h)

  no_marks : (marks : List Mark) → slice_get marks 0 ≡ None → marks ≡ []
  no_marks [] e = refl
  no_marks (it ∷ marks) e = absurd (cc)

  bare_with : (a : Account) (lane : Lane) (link : Link) → Fits false a lane link → slice_get lane.marks 0 ≡ None → a.to_mark ≡ []
  bare_with a lane link h none = sym h.4 ∙ ap (λ (marks : List Mark). map owed_at marks) (no_marks lane.marks none)

  bare_remote : (d : Desk) → Level d → slice_get d.slots.local.marks 0 ≡ None → al.to_mark ≡ []
  bare_remote d h none = bare_with al d.slots.local d.local h.0.0 none

  -- a mark begins at its open if nothing is noted before it
  abbrev pub Frees : Type 0
  Frees = (m : Marked) (it : Mark) (w : Writing) → it.note ≡ None → P mark.Open (Some it) m w

  module _ (frees : Frees) where
    begin_fits : (c : Channel) (it : Mark) (o : Option Failure) (d : Desk) → it.note ≡ o → slice_get (lane c d.slots).marks 0 ≡ Some it → Level d → IsAlone c
        → let m : Marked = record { channel = c; n = it.attempt.n; place = it.attempt.place } in InMark (begin_by o) m d.note d.slots d.local d.remote
    begin_fits c it None d e there h alone =
        let m : Marked = record { channel = c; n = it.attempt.n; place = it.attempt.place } in
        (h, ((it, there, refl, refl), alone), subst (λ (o : Option Mark). P mark.Open o m d.note) (sym there) (frees m it d.note e))
    begin_fits c it (Some failure) d e there h alone = (h, ((it, there, refl, refl), alone), (failure, ap note_in there ∙ e))

    reports_from : (d : Desk) (now : ℕ) → Level d → FitAt (from_reports d now) d
    reports_from d now h = by_local (slice_get d.slots.local.marks 0) refl where
      by_remote : (o : Option Mark) → slice_get d.slots.local.marks 0 ≡ None → slice_get d.slots.remote.marks 0 ≡ o → FitAt (or_else (marking_by Remote o) (from_local true d now)) d
      by_remote (Some it) none e = begin_fits Remote it it.note d refl e h (bare_remote d h none)
      by_remote None none e = local_from true d now (h.0, h.1, (bare_with al d.slots.local d.local h.0.0 none, bare_with ar d.slots.remote d.remote h.0.1 e))

      by_local : (o : Option Mark) → slice_get d.slots.local.marks 0 ≡ o → FitAt (or_else (marking_by Local o) (or_else (marking Remote d) (from_local true d now))) d
      by_local (Some it) e = begin_fits Local it it.note d refl e h tt
      by_local None e = by_remote (slice_get d.slots.remote.marks 0) e refl

    take_from : (d : Desk) (now : ℕ) (ready : Ready) → Level d → FitAt (from_take d now ready) d
    take_from d now ready h = or_fits (taking Remote ready) (from_reports d now) d (taking_fits Remote ready d h) (reports_from d now h)

    begin_from : (d : Desk) (now : ℕ) (ready : Ready) → Level d → FitAt (from_begin d now ready) d
    begin_from d now ready h = or_fits (taking Local ready) (from_take d now ready) d (taking_fits Local ready d h) (take_from d now ready h)

    sweep_from : (d : Desk) (now : ℕ) (ready : Ready) → Calm d → FitAt (from_sweep d now ready) d
    sweep_from d now ready h = or_fits (sweeping d now) (from_begin d now ready) d (sweeping_fits d now h) (begin_from d now ready (h.0, h.1))

    point_from : (p : Point) (d : Desk) (now : ℕ) (ready : Ready) → CalmAt p d → FitAt (from_point p d now ready) d
    point_from point.TakeLocal d now ready h = begin_from d now ready (h.0, h.1)
    point_from point.TakeRemote d now ready h = take_from d now ready (h.0, h.1)
    point_from point.Reports d now ready h = reports_from d now (h.0, h.1)
    point_from (point.Pass Local may) d now ready h = local_from may d now h
    point_from (point.Pass Remote may) d now ready h = remote_from may d now h
    point_from point.Finish d now ready h = or_fits (finishing d now) (from_sweep d now ready) d (finishing_fits (next_idle now d) d h) (sweep_from d now ready h)
    point_from point.Sweep d now ready h = sweep_from d now ready h

    pub arrives : (row : Row) (d : Desk) (now : ℕ) (ready : Ready) → FitAt row d → FitAt (arrive row d now ready) d
    arrives (at.Turn p) d now ready h = point_from p d now ready h
    arrives (at.Sweep row) d now ready h = h
    arrives (at.Start row) d now ready h = h
    arrives (at.TakeLink c) d now ready h = h
    arrives (at.Mark row m) d now ready h = h
    arrives (at.UnlinkFile c n p) d now ready h = h
    arrives (at.ReadFile c n begun reading) d now ready h = h
    arrives (at.Request c) d now ready h = h
    arrives (at.FindTodo search) d now ready h = h
    arrives at.InTodo d now ready h = h
    arrives (at.Finish row n) d now ready h = h
    arrives (at.Ended status) d now ready h = h
