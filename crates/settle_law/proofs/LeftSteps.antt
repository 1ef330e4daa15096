-- What any row of the sender leaves of the messages that were tried, but for the write of a mark.
use Rattle.std.proofs.Common.{◌≡◌, ℕ, List, Bool, true, false, Some, None, refl, sym, ap, ◌∙◌, subst}
use Rattle.bounce_record.specs.Writing.{Writing, moved as note_moved}
use Rattle.bounce_record.specs.declared.note_row.NoteRow.TheVariants as written
use Rattle.bounce_record.specs.declared.note_row.NoteRow.{NoteRow}
use Rattle.call_fs.specs.declared.calls.Fd.{Fd}
use Rattle.call_fs.specs.declared.past.GotData.{GotData}
use Rattle.call_fs.specs.declared.program.Ready.{Ready}
use Rattle.envelope_records.specs.declared.channel.Record.{Record}
use Rattle.program_law.specs.Channel.Files.{Files}
use Rattle.program_law.specs.Channel.Tied.{First, IsTied}
use Rattle.program_law.specs.Channel.Tied.First.{Unwritten}
use Rattle.program_law.specs.Sender.Rows.{HasNoJobs, IsFirstMark}
use Rattle.program_law.specs.Sender.Views.{by_mark, first_at, first_if}
use Rattle.send_core.specs.Agrees.{is_same}
use Rattle.send_core.specs.Table.{act, arrive, from_point}
use Rattle.send_core.specs.Turn.{act_mark, begin_note, is_fine, mark_opened, noted_at}
use Rattle.send_core.specs.declared.desk.Desk.{Desk}
use Rattle.send_parts.specs.declared.row.MarkRow.TheVariants as mark
use Rattle.send_parts.specs.declared.row.MarkRow.{MarkRow}
use Rattle.send_parts.specs.declared.row.Marked.{Marked}
use Rattle.send_parts.specs.declared.row.Row.TheVariants as at
use Rattle.send_parts.specs.declared.row.Row.{Row}
use Rattle.send_jobs.specs.Jobs.{job_of}
use Rattle.send_jobs.specs.Sending.{lane, none_out}
use Rattle.send_known.specs.declared.channel.Channel.TheVariants.{Local, Remote}
use Rattle.send_known.specs.declared.channel.Channel.{Channel}
use Rattle.send_jobs.specs.declared.jobs.Job.{Job}
use Rattle.send_jobs.specs.declared.lane.Lane.{Lane}
use Rattle.send_jobs.specs.declared.slots.Slots.{Slots}
use Rattle.send_parts.specs.Replies.{said}
use Rattle.send_parts.specs.Start.{remote_limit}
use Rattle.send_parts.specs.declared.reply.Way.TheVariants as way
use Rattle.send_parts.specs.declared.reply.Way.{Way}
use Rattle.send_parts.specs.declared.rows.StartRow.TheVariants as start
use Rattle.send_parts.specs.declared.rows.StartRow.{StartRow}
use Rattle.send_core.specs.Start.{start_at, started}
use Rattle.send_runs.proofs.Calm.{point_fresh}
use Rattle.send_runs.proofs.Kept.{IsFree, IsStill, fresh_free, kept_row}
use Rattle.settle_law.proofs.LeftRows.{rows_hold_tried}
use Rattle.settle_law.proofs.Lefts.{lefts_keep}
use Rattle.settle_law.specs.inside.Lefts.{HasLeft, HoldsTried, IsSure, KeepsTried, StillReads}

-- Rows before a write

pub unwritten_if : (row : MarkRow) → by_mark row ≡ Unwritten → (b : Bool) → first_if b row ≡ Unwritten
unwritten_if row e true = e
unwritten_if row e false = refl

free_sure : (row : Row) → IsFree row → IsSure row
free_sure (at.Mark (mark.Close fd false) m) free = free
free_sure (at.Mark (mark.Close fd true) m) free = tt
free_sure (at.Mark mark.Note m) free = tt
free_sure (at.Mark mark.Noting m) free = tt
free_sure (at.Mark mark.Open m) free = tt
free_sure (at.Mark (mark.Write fd) m) free = tt
free_sure row free = tt

pub free_first : (row : Row) → IsFree row → (ch : Channel) → first_at row ch ≡ Unwritten
free_first (at.Mark mark.Note m) free ch = unwritten_if mark.Note refl (is_same m.channel ch)
free_first (at.Mark mark.Noting m) free ch = unwritten_if mark.Noting refl (is_same m.channel ch)
free_first (at.Mark mark.Open m) free ch = unwritten_if mark.Open refl (is_same m.channel ch)
free_first (at.Mark (mark.Write fd) m) free ch = absurd free
free_first (at.Mark (mark.Close fd done) m) free ch = absurd free
free_first row free ch = refl

-- Other files

module _ (tried : ℕ → Bool) (files after : Files) (first : First) (l : Lane)
    (jobs : (n : ℕ) (job : Job) → job_of n l.jobs ≡ Some job → job.unmarked ≡ true → (records : List Record) → files n ≡ Some records → after n ≡ files n)
    (rest : (n : ℕ) → job_of n l.jobs ≡ None → tried n ≡ true → (records : List Record) → files n ≡ Some records → after n ≡ files n) where
  left_then : (n : ℕ) (job : Job) → job_of n l.jobs ≡ Some job → job.unmarked ≡ true → HasLeft files first l n → HasLeft after first l n
  left_then n job there spoilt it = record {
    spot = it.spot;
    of = it.of;
    reads = record {
      records = it.reads.records;
      there = jobs it.spot.n job (ap (λ (k : ℕ). job_of k l.jobs) it.of ∙ there) spoilt it.reads.records it.reads.there ∙ it.reads.there;
      reads = it.reads.reads;
    };
    free = it.free;
  }

  reads_then : (n : ℕ) → job_of n l.jobs ≡ None → tried n ≡ true → StillReads files n → StillReads after n
  reads_then n none t it = record {
    spot = it.spot;
    of = it.of;
    reads = record {
      records = it.reads.records;
      there = rest it.spot.n (ap (λ (k : ℕ). job_of k l.jobs) it.of ∙ none) (ap tried it.of ∙ t) it.reads.records it.reads.there ∙ it.reads.there;
      reads = it.reads.reads;
    };
  }

  pub lane_keeps : KeepsTried tried files first l → KeepsTried tried after first l
  lane_keeps h = ((λ n job there spoilt. left_then n job there spoilt (h.0 n job there spoilt)), (λ n t none. reads_then n none t (h.1 n t none)))

-- fewer messages are told of
pub fewer_tried : (tried later : Channel → ℕ → Bool) (files : Channel → Files) (row : Row) (s : Slots) → ((c : Channel) (n : ℕ) → job_of n (lane c s).jobs ≡ None → later c n ≡ true → tried c n ≡ true)
    → HoldsTried tried files row s → HoldsTried later files row s
fewer_tried tried later files row s fewer h = (h.0, λ ch. ((h.1 ch).0, (λ n t none. (h.1 ch).1 n (fewer ch n none t) none)))

-- What a row needs of the desk and of what comes for that

abbrev pub AreTied : (Channel → Files) → Slots → Type 0
AreTied files s = (ch : Channel) → IsTied (files ch) Unwritten (lane ch s)

abbrev pub MarkNeeds : (Channel → Files) → MarkRow → Marked → Slots → Type 0
MarkNeeds files (mark.Write fd) m s = ⊥
MarkNeeds files (mark.Close fd done) m s = Unit {0}
MarkNeeds files row m s = AreTied files s × IsFirstMark m s

abbrev pub StartNeeds : StartRow → Slots → Type 0
StartNeeds (start.GreetRemote limit) s = HasNoJobs s
StartNeeds row s = Unit {0}

abbrev pub RowNeeds : (Channel → ℕ → Bool) → (Channel → Files) → Row → Slots → Way → Type 0
RowNeeds tried files (at.Start row) s w = StartNeeds row s
RowNeeds tried files (at.Turn p) s w = ⊥
RowNeeds tried files (at.TakeLink c) s w = AreTied files s
RowNeeds tried files (at.Mark row m) s w = MarkNeeds files row m s
RowNeeds tried files (at.UnlinkFile c n p) s w = (is_fine w ≡ true) × (tried c n ≡ false)
RowNeeds tried files (at.ReadFile c n begun reading) s w = job_of n (lane c s).jobs ≡ None
RowNeeds tried files (at.Ended status) s w = ⊥
RowNeeds tried files row s w = Unit {0}

module _ (tried : Channel → ℕ → Bool) (files : Channel → Files) where
  abbrev Fin : Desk → Type 0
  Fin d = HoldsTried tried files d.row d.slots

  abbrev D : Slots → Type 0
  D s = (ch : Channel) → KeepsTried (tried ch) (files ch) Unwritten (lane ch s)

  -- at a row before a write
  pub at_first : (row : Row) (s : Slots) → IsSure row → ((ch : Channel) → first_at row ch ≡ Unwritten) → D s → HoldsTried tried files row s
  at_first row s sure first h = (sure, λ ch. subst (λ (f : First). KeepsTried (tried ch) (files ch) f (lane ch s)) (sym (first ch)) (h ch))

  pub of_first : (row : Row) (s : Slots) → ((ch : Channel) → first_at row ch ≡ Unwritten) → HoldsTried tried files row s → D s
  of_first row s first h ch = subst (λ (f : First). KeepsTried (tried ch) (files ch) f (lane ch s)) (first ch) (h.1 ch)

  at_free : (row : Row) (s : Slots) → IsFree row → D s → HoldsTried tried files row s
  at_free row s free h = at_first row s (free_sure row free) (free_first row free) h

  still : (row : Row) (now : ℕ) (got : GotData) (d : Desk) → IsStill d.slots row → D d.slots → Fin (act row now got d)
  still row now got d is h =
      let k = kept_row d.slots row now got d is refl in
      at_free (act row now got d).row (act row now got d).slots k.1 (subst D (sym k.0) h)

  -- a mark before its write

  module _ (m : Marked) (d : Desk) (tied : AreTied files d.slots) (first : IsFirstMark m d.slots) (h : D d.slots) where
    opened : (w : Way) (fd : Fd) → Fin (mark_opened w m fd d)
    opened way.Fine fd = at_first (at.Mark (mark.Write fd) m) d.slots tt (λ ch. unwritten_if (mark.Write fd) refl (is_same m.channel ch)) h
    opened way.Over fd = rows_hold_tried.given_up tried files m d tied first h
    opened way.Absent fd = rows_hold_tried.given_up tried files m d tied first h
    opened way.NoMemory fd = rows_hold_tried.given_up tried files m d tied first h
    opened way.Broken fd = rows_hold_tried.given_up tried files m d tied first h

    noting : (w : Writing) → HoldsTried tried files (at.Mark mark.Noting m) d.slots
    noting w = at_free (at.Mark mark.Noting m) d.slots tt h

    noted_to : (row : NoteRow) (w : Writing) → Fin (noted_at row m (record d { note = w }))
    noted_to written.Written w = at_free (at.Mark mark.Open m) d.slots tt h
    noted_to written.Failed w = rows_hold_tried.given_up tried files m (record d { note = w }) tied first h
    noted_to written.Open w = noting w
    noted_to written.Create w = noting w
    noted_to (written.Stat fd) w = noting w
    noted_to (written.Read fd place len) w = noting w
    noted_to (written.Append fd done) w = noting w
    noted_to (written.Sync fd) w = noting w
    noted_to (written.Close fd) w = noting w
    noted_to (written.Shut fd) w = noting w

  marks : (row : MarkRow) (m : Marked) (now : ℕ) (got : GotData) (d : Desk) → MarkNeeds files row m d.slots → HoldsTried tried files (at.Mark row m) d.slots → Fin (act_mark row m got d)
  marks mark.Note m now got d needs h =
      let w = note_moved (begin_note m d).note got in
      noted_to m d needs.0 needs.1 (of_first (at.Mark mark.Note m) d.slots (free_first (at.Mark mark.Note m) tt) h) w.row w
  marks mark.Noting m now got d needs h =
      let w = note_moved d.note got in noted_to m d needs.0 needs.1 (of_first (at.Mark mark.Noting m) d.slots (free_first (at.Mark mark.Noting m) tt) h) w.row w
  marks mark.Open m now got d needs h = opened m d needs.0 needs.1 (of_first (at.Mark mark.Open m) d.slots (free_first (at.Mark mark.Open m) tt) h) (said got).way (said got).fd
  marks (mark.Write fd) m now got d needs h = absurd needs
  marks (mark.Close fd true) m now got d needs h = rows_hold_tried.made tried files fd m now got d h
  marks (mark.Close fd false) m now got d needs h = absurd h.0

  -- the start of the channels

  none_out_keeps : (local remote : ℕ) (s : Slots) → HasNoJobs s → D s → D (none_out local remote)
  none_out_keeps local remote s none h Local = (lefts_keep.starts (files Local) local, λ n t e. (h Local).1 n t (ap (job_of n) (none Local)))
  none_out_keeps local remote s none h Remote = (lefts_keep.starts (files Remote) remote, λ n t e. (h Remote).1 n t (ap (job_of n) (none Remote)))

  start_free : (row : StartRow) → IsFree (start_at row)
  start_free start.Over = tt
  start_free (start.Ended status) = tt
  start_free row = tt

  starts : (row : StartRow) (now : ℕ) (got : GotData) (d : Desk) → StartNeeds row d.slots → D d.slots → Fin (act (at.Start row) now got d)
  starts (start.GreetRemote limit) now got d none h =
      let e : Desk = started (start.GreetRemote limit) (said got) d in
      at_free e.row e.slots (start_free e.book.row) (none_out_keeps limit (remote_limit (said got).bytes d.book.controls) d.slots none h)
  starts row now got d none h = still (at.Start row) now got d tt h

  pub acts_hold : (row : Row) (now : ℕ) (got : GotData) (d : Desk) → RowNeeds tried files row d.slots (said got).way → HoldsTried tried files row d.slots → Fin (act row now got d)
  acts_hold (at.Start row) now got d needs h = starts row now got d needs h.1
  acts_hold (at.Turn p) now got d needs h = absurd needs
  acts_hold (at.TakeLink c) now got d needs h = rows_hold_tried.takes tried files c now got d needs h
  acts_hold (at.Mark row m) now got d needs h = marks row m now got d needs h
  acts_hold (at.UnlinkFile c n p) now got d needs h = rows_hold_tried.unlinks tried files c n p now got d needs.0 needs.1 h
  acts_hold (at.ReadFile c n begun reading) now got d needs h = rows_hold_tried.reads tried files c n begun reading now got d needs h
  acts_hold (at.Request c) now got d needs h = rows_hold_tried.gives tried files c now got d h
  acts_hold (at.FindTodo search) now got d needs h = still (at.FindTodo search) now got d tt h.1
  acts_hold at.InTodo now got d needs h = still at.InTodo now got d tt h.1
  acts_hold (at.Finish row n) now got d needs h = still (at.Finish row n) now got d tt h.1
  acts_hold (at.Sweep row) now got d needs h = still (at.Sweep row) now got d tt h.1
  acts_hold (at.Ended status) now got d needs h = absurd needs

  -- between two steps

  pub arrives_hold : (row : Row) (d : Desk) (now : ℕ) (ready : Ready) → HoldsTried tried files row d.slots → HoldsTried tried files (arrive row d now ready) d.slots
  arrives_hold (at.Turn p) d now ready h =
      let to : Row = from_point p d now ready in
      at_free to d.slots (fresh_free to (point_fresh d now ready p)) h.1
  arrives_hold row d now ready h = h
